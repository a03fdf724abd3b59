-- The parts stand on where a send is begun, or goes inside.
use Rattle.std.proofs.Common.{◌≡◌, ◌≢◌, ℕ, suc, ◌+◌, ◌-◌, ◌<◌, Bool, true, false, not, cond, eqb, List, [], ◌∷◌, ◌++◌, length, get_or, set, map as each, Option, Some, None, refl, ap, ◌∙◌, sym, subst, inl, inr, arith}
use Rattle.std.specs.Prelude.{◌&&◌, ◌||◌, ◌⊎◌, filter, find, is_some, option_map}
use Rattle.std.specs.List.{flat_map, list_any}
use Rattle.std.specs.Cmp.{nat_cmp_total}
use Rattle.std.specs.FinMap as map
use Rattle.std.specs.FinMap.{get-insert}
use Rattle.std.proofs.lemmas.Bool.{false≢true, ne_eqb}
use Rattle.std.proofs.lemmas.Bool.Decides.{eqb_tells}
use Rattle.std.proofs.lemmas.List.{append-nil, get_or-set_same, get_or-set_other, length-set, length-append}
use Rattle.win_num.specs.declared.send.SendId.{SendId}
use Rattle.win_num.specs.declared.send.Kind.{Kind}
use Rattle.win_num.specs.declared.send.Kind.TheVariants.{Wait, Timeout, Notify, Callback}
use Rattle.std.specs.Ordering.{nat_cmp}
use Rattle.win_num.specs.declared.send.Frame.{Frame}
use Rattle.win_num.specs.declared.send.Frame.TheVariants.{Inside as InsideFrame, Await as AwaitFrame}
use Rattle.user_model.specs.declared.entry.Entry.{Entry}
use Rattle.user_model.specs.declared.entry.Setup.{Setup}
use Rattle.user_model.specs.Past.{Past, is_refused, or_else, place_after}
use Rattle.user_model.specs.Places.{has_ended, is_end}
use Rattle.user_model.specs.Stacks.{stack, stacked}
use Rattle.user_model.specs.Sends.{SentMsg, Outcome, answer, answers, calls_back, enters, is_answered, is_callback_kind, is_owed, names_send, send, sends, sends_by, was_called_back}
use Rattle.user_model.specs.SendStories.{was_handed_on}
use Rattle.user_model.specs.Ready.{ReadyMsg, to_enter, to_call_back, arrives, begun as begun_msg, departs, is_answered_by, place_of, ready, result}
use Rattle.user_model.proofs.ListLaws.{all_weaker, filter_all}
use Rattle.user_model.proofs.SendLaws.{ready-next, send-next, sends-next, stack-same}
use Rattle.user_model.proofs.SendStanding.{CountsFrom, ReadyStands, Standing}
use Rattle.send_frames.specs.Book.{Book, KnownSend, frame_at_begin, is_callback, is_inside, is_owed_at_begin, is_waiting, new_send, stack_of, with_top}
use Rattle.send_variants.specs.declared.ready.Ready.{Ready}
use Rattle.send_variants.specs.declared.ready.Ready.TheVariants.{Send as ReadySend}
use Rattle.send_variants.specs.Lists.{AreBelow, Entry as Item, count_on, list_of, named_by as send_of}
use Rattle.send_variants.proofs.Entries.{sound-put}
use Rattle.send_state.specs.Parts.{CanJoin, SendParts, begun, lists_begun, rank, with_entry}
use Rattle.send_state.specs.Standing.{IsOurs, ListsStand, PartsStand, as_told, item, item_as, known_at, known_of, ready_as, row_of}
use Rattle.send_state.proofs.Still.{and-false, answer-same, filter_none, is_owed-same}
use Rattle.send_state.proofs.Ranks.{rank-place}
use Rattle.send_state.proofs.StandStill.{below_next, stacks-changed}
use Rattle.send_state.proofs.Serving.{eqb_itself}
use Rattle.send_state.proofs.Entering.{known_of-fresh, record_id}
use Rattle.send_state.proofs.CallingBack.{not_called_back}
use Rattle.send_state.proofs.Settling.{by_key, known-other}

-- ---- an entry that goes to the end of a list

pub below_push : (n : ℕ) (es : List Item) (x : Item) → AreBelow n es → x.0 < n → AreBelow n (es ++ x ∷ [])
below_push n [] x b h = (h, tt)
below_push n (e ∷ es) x b h = (b.0, below_push n es x b.1 h)

pub each_push : (es : List Item) (x : Item) → each item (es ++ x ∷ []) ≡ each item es ++ item x ∷ []
each_push [] x = refl
each_push (e ∷ es) x = ap (λ l. item e ∷ l) (each_push es x)

pub each_ready : (rs qs : List ReadyMsg) → each item_as (rs ++ qs) ≡ each item_as rs ++ each item_as qs
each_ready [] qs = refl
each_ready (r ∷ rs) qs = ap (λ l. item_as r ∷ l) (each_ready rs qs)

-- what was ready stays, and one message more comes to a thread
pub lists-joined : (setup : Setup) (e : Entry) (past : Past) (lists : List (List Item)) (t s : ℕ) (m : ReadyMsg) → IsOurs setup t → s ≡ send_of (ready_as m) → place_of m ≡ place_after past
    → ((u : ℕ) → ready (e ∷ past) u ≡ ready past u ++ cond (eqb t u) (m ∷ []) []) → CanJoin lists t (rank (place_after past) 0) s → ListsStand setup past lists
    → ListsStand setup (e ∷ past) (with_entry lists t (rank (place_after past) 0) (ready_as m))
lists-joined setup e past lists t s m ours is_s at come can h = record {
  threads = length-set lists (t - 1) pushed ∙ h.threads;
  ready = λ u ours. joined u ours;
  below = λ u. lower u (eqb_tells (t - 1) (u - 1));
  sound = sound-put lists t (rank (place_after past) 0) (ready_as m) h.sound can.thread.0 can.thread.1 can.above can.room (ap (λ n. count_on n lists) (sym is_s) ∙ can.unnamed);
} where
  pushed : List Item
  pushed = list_of lists t ++ (rank (place_after past) 0, ready_as m) ∷ []

  within : t - 1 < length lists
  within = omega (arith, ours.0, ours.1, h.threads)

  same : get_or (set lists (t - 1) pushed) (t - 1) [] ≡ pushed
  same = get_or-set_same lists (t - 1) pushed [] within

  lower : (u : ℕ) → ((eqb (t - 1) (u - 1) ≡ true) × (t - 1 ≡ u - 1)) ⊎ ((eqb (t - 1) (u - 1) ≡ false) × (t - 1 ≢ u - 1)) → AreBelow (rank (place_after (e ∷ past)) 0) (get_or (set lists (t - 1) pushed) (u - 1) [])
  lower u how = elim how [
    | inl x ↦ subst (λ n. AreBelow (rank (place_after (e ∷ past)) 0) (get_or (set lists (t - 1) pushed) n [])) x.1
        (subst (AreBelow (rank (place_after (e ∷ past)) 0)) (sym same) (below_push (rank (place_after (e ∷ past)) 0) (list_of lists t) (rank (place_after past) 0, ready_as m) (below_next e past (list_of lists t) (h.below t)) (omega arith)))
    | inr x ↦ let differ : u - 1 ≢ t - 1 = λ q. x.1 (sym q) in
        subst (AreBelow (rank (place_after (e ∷ past)) 0)) (sym (get_or-set_other lists (t - 1) (u - 1) pushed [] differ)) (below_next e past (list_of lists u) (h.below u))
  ]

  own : each item (get_or (set lists (t - 1) pushed) (t - 1) []) ≡ each item_as (ready past t ++ m ∷ [])
  own =
      ap (each item) same ∙ each_push (list_of lists t) (rank (place_after past) 0, ready_as m) ∙ ap (λ l. l ++ item (rank (place_after past) 0, ready_as m) ∷ []) (h.ready t ours)
      ∙ ap (λ n. let x : ℕ × Ready = (n, ready_as m) in each item_as (ready past t) ++ x ∷ []) (rank-place (place_after past) 0 (omega arith) ∙ sym at)
      ∙ sym (each_ready (ready past t) (m ∷ []))

  joined : (u : ℕ) → IsOurs setup u → each item (get_or (set lists (t - 1) pushed) (u - 1) []) ≡ each item_as (ready (e ∷ past) u)
  joined u theirs = elim (eqb_tells t u) [
    | inl x ↦ subst (λ n. each item (get_or (set lists (t - 1) pushed) (n - 1) []) ≡ each item_as (ready past n ++ m ∷ [])) x.1 own
        ∙ sym (ap (each item_as) (come u ∙ ap (λ b. ready past u ++ cond b (m ∷ []) []) x.0))
    | inr x ↦ let apart : u - 1 ≢ t - 1 = omega (arith, x.1, ours.0, theirs.0) in
        ap (each item) (get_or-set_other lists (t - 1) (u - 1) pushed [] apart) ∙ h.ready u theirs
        ∙ sym (ap (each item_as) (come u ∙ ap (λ b. ready past u ++ cond b (m ∷ []) []) x.0 ∙ append-nil (ready past u)))
  ]

-- nothing more is ready
pub lists-stay : (setup : Setup) (e : Entry) (past : Past) (lists : List (List Item)) → ((u : ℕ) → ready (e ∷ past) u ≡ ready past u) → ListsStand setup past lists → ListsStand setup (e ∷ past) lists
lists-stay setup e past lists same h = record {
  threads = h.threads;
  ready = λ u ours. h.ready u ours ∙ sym (ap (each item_as) (same u));
  below = λ u. below_next e past (list_of lists u) (h.below u);
  sound = h.sound;
}

-- ---- a send is made

-- a frame, if there is one, on top
abbrev pub framed : Option Frame → List Frame → List Frame
framed None fs = fs
framed (Some f) fs = f ∷ fs

-- the entry makes this send, and says nothing of others
pub record IsBeginning (past : Past) (e : Entry) (new : SentMsg) : Type 0 where
  pub right : is_refused e ≡ false
  pub running : is_end e.answer ≡ false
  pub makes : sends_by e.call e past ≡ new ∷ []
  pub tells : (q : ℕ) → answers e past q ≡ None
  pub enters_other : (q : ℕ) → eqb new.number q ≡ false → enters e.answer q ≡ false
  pub hands_none : (q : ℕ) → calls_back e.answer q ≡ false
  pub number : new.number ≡ suc (length (sends past))
  pub place : new.place ≡ place_after past
  pub from : new.from ≡ e.who.0
  pub lives : has_ended past e.who.0 ≡ false
  pub own : eqb new.from new.to ≡ new.is_inside
  pub frames : (fs : List Frame) → stacked e.call e.answer fs ≡ framed (frame_at_begin (row_of new) (record_id new.number)) fs

no_later : (n m : ℕ) (xs : List SentMsg) → CountsFrom n xs → n + length xs < m → find (λ x. eqb x.number m) xs ≡ None
no_later n m [] c h = refl
no_later n m (x ∷ xs) c h =
    let differ : x.number ≢ m = omega (arith, c.0, h) in
    ap (λ b. cond b (Some x) (find (λ y. eqb y.number m) xs)) (ne_eqb x.number m differ) ∙ no_later (suc n) m xs c.1 (omega (arith, h))

none_if : (o : Option Outcome) → (is_some o ≡ true → ⊥) → o ≡ None
none_if None h = refl
none_if (Some x) h = absurd (h refl)

pub false_if : (b : Bool) → (b ≡ true → ⊥) → b ≡ false
false_if true h = absurd (h refl)
false_if false h = refl

or_none : (o : Option SentMsg) → or_else o None ≡ o
or_none None = refl
or_none (Some x) = refl

-- both crates mean the same by a callback send
callback-same : (k : Kind) → is_callback_kind k ≡ is_callback k
callback-same Wait = refl
callback-same (Timeout flags ms) = refl
callback-same Notify = refl
callback-same (Callback proc_no extra) = refl

and_turned : (a b : Bool) → (a && (not b && true)) ≡ (not b && a)
and_turned true true = refl
and_turned true false = refl
and_turned false true = refl
and_turned false false = refl

any_begun : (b c : Bool) (s : SendId) (q : ℕ) (fs : List Frame) → eqb s.0 q ≡ false → list_any (λ f. names_send f q) (framed (cond b (Some (InsideFrame s)) (cond c (Some (AwaitFrame s)) None)) fs) ≡ list_any (λ f. names_send f q) fs
any_begun true c s q fs h = ap (λ d. d || list_any (λ f. names_send f q) fs) h
any_begun false true s q fs h = ap (λ d. d || list_any (λ f. names_send f q) fs) h
any_begun false false s q fs h = refl

module _ (setup : Setup) (past : Past) (e : Entry) (new : SentMsg) (is : IsBeginning past e new) (standing : Standing setup past) where
  pub unsent : send past new.number ≡ None
  unsent = no_later 0 new.number (sends past) standing.counted (omega (arith, is.number))

  not_sent : is_some (send past new.number) ≡ true → ⊥
  not_sent h = false≢true (sym (ap (λ (o : Option SentMsg). is_some o) unsent) ∙ h)

  send-other : (q : ℕ) → new.number ≢ q → send (e ∷ past) q ≡ send past q
  send-other q differ =
      send-next e past q is.right ∙ ap (λ l. or_else (send past q) (find (λ x. eqb x.number q) l)) is.makes
      ∙ ap (λ b. or_else (send past q) (cond b (Some new) None)) (ne_eqb new.number q differ) ∙ or_none (send past q)

  pub send-new : send (e ∷ past) new.number ≡ Some new
  send-new =
      send-next e past new.number is.right ∙ ap (λ l. or_else (send past new.number) (find (λ x. eqb x.number new.number) l)) is.makes
      ∙ ap (λ b. or_else (send past new.number) (cond b (Some new) None)) (eqb_itself new.number) ∙ ap (λ o. or_else o (Some new)) unsent

  unanswered : answer past new.number ≡ None
  unanswered = none_if (answer past new.number) (λ h. not_sent (ap (λ n. is_some (send past n)) is.number ∙ standing.answered (length (sends past)) (ap (λ n. is_answered past n) (sym is.number) ∙ h)))

  answer-new : answer (e ∷ past) new.number ≡ None
  answer-new = answer-same e past new.number (is.tells new.number) ∙ unanswered

  uncalled : was_called_back past new ≡ false
  uncalled = not_called_back past new (false_if (was_handed_on past new.number) (λ h. not_sent (standing.handed new.number h).0))

  owed-new : is_owed (e ∷ past) new ≡ is_owed_at_begin (row_of new)
  owed-new =
      is_owed-same e past new is.running (is.hands_none new.number)
      ∙ ap (λ b. is_callback_kind new.kind && (not new.is_inside && (not b && not (was_called_back past new)))) (ap (has_ended past) is.from ∙ is.lives)
      ∙ ap (λ b. is_callback_kind new.kind && (not new.is_inside && not b)) uncalled
      ∙ and_turned (is_callback_kind new.kind) new.is_inside
      ∙ ap (λ b. not b && is_callback_kind new.kind) (sym is.own) ∙ ap (λ b. not (eqb new.from new.to) && b) (callback-same new.kind)

  known-new : known_at (e ∷ past) new.number ≡ Some (new_send (row_of new))
  known-new =
      ap (known_of (e ∷ past)) send-new ∙ known_of-fresh (e ∷ past) new (ap (λ (o : Option Outcome). is_some o) answer-new)
      ∙ ap (λ (o : Option Outcome). Some (record { row = row_of new; answer = option_map as_told o; owed = is_owed (e ∷ past) new })) answer-new
      ∙ ap (λ b. Some (record { row = row_of new; answer = None; owed = b })) owed-new

  known-rest : (q : ℕ) → new.number ≢ q → known_at (e ∷ past) q ≡ known_at past q
  known-rest q differ =
      known-other setup e past q standing (send-other q differ) (is.tells q)
      (ap (list_any (λ f. names_send f q)) (is.frames (stack past e.who.0)) ∙ any_begun (is_inside (row_of new)) (is_waiting new.kind) (record_id new.number) q (stack past e.who.0) (ne_eqb new.number q differ))
      (λ y found. is_owed-same e past y is.running (is.hands_none y.number))

  known-begun : (m : map.FinMap nat_cmp KnownSend) (n : ℕ) → n ≡ new.number → ((q : ℕ) → map.get m q ≡ known_at past q) → (q : ℕ) → map.get (map.insert m n (new_send (row_of new))) q ≡ known_at (e ∷ past) q
  known-begun m n same old q =
      get-insert nat_cmp_total m n (new_send (row_of new)) q
      ∙ by_key (λ o. o ≡ known_at (e ∷ past) q) q n (Some (new_send (row_of new))) (map.get m q)
      (λ k. sym (ap (known_at (e ∷ past)) (k ∙ same) ∙ known-new))
      (λ k. old q ∙ sym (known-rest q (λ j. k (sym j ∙ sym same))))

  -- ---- frames

  threads-begun : (b : Book) (t : ℕ) (o : Option Frame) → length (with_top b.stacks t o) ≡ length b.stacks
  threads-begun b t None = refl
  threads-begun b t (Some f) = length-set b.stacks (t - 1) (f ∷ get_or b.stacks (t - 1) [])

  stacks-framed : (b : Book) (o : Option Frame) → length b.stacks ≡ setup.threads → IsOurs setup e.who.0 → ((t : ℕ) → IsOurs setup t → stack_of b t ≡ stack past t)
      → ((fs : List Frame) → stacked e.call e.answer fs ≡ framed o fs) → (t : ℕ) → IsOurs setup t → get_or (with_top b.stacks e.who.0 o) (t - 1) [] ≡ stack (e ∷ past) t
  stacks-framed b None as_many ours old frames t theirs = old t theirs ∙ sym (stack-same e past t (frames (stack past t)))
  stacks-framed b (Some f) as_many ours old frames t theirs =
      stacks-changed setup past e b (f ∷ stack_of b e.who.0) as_many ours old is.right (ap (λ fs. f ∷ fs) (old e.who.0 ours) ∙ sym (frames (stack past e.who.0))) t theirs

  stacks-begun : (b : Book) (n : ℕ) → n ≡ new.number → length b.stacks ≡ setup.threads → IsOurs setup e.who.0 → ((t : ℕ) → IsOurs setup t → stack_of b t ≡ stack past t)
      → (t : ℕ) → IsOurs setup t → get_or (with_top b.stacks new.from (frame_at_begin (row_of new) (record_id n))) (t - 1) [] ≡ stack (e ∷ past) t
  stacks-begun b n same as_many ours old t theirs =
      ap (λ k. get_or (with_top b.stacks new.from (frame_at_begin (row_of new) (record_id k))) (t - 1) []) same
      ∙ ap (λ u. get_or (with_top b.stacks u (frame_at_begin (row_of new) (record_id new.number))) (t - 1) []) is.from
      ∙ stacks-framed b (frame_at_begin (row_of new) (record_id new.number)) as_many ours old is.frames t theirs

  -- ---- what is ready

  stays : (t : ℕ) (r : ReadyMsg) → ReadyStands past t r → not (departs t e past r) ≡ true
  stays t (to_enter y) h =
      let differ : new.number ≢ y.number = λ same. not_sent (ap (λ n. is_some (send past n)) same ∙ ap (λ (o : Option SentMsg). is_some o) h.found) in
      ap (λ b. not ((b && eqb e.who.0 t) || (enters e.answer y.number || is_some (answers e past y.number)))) is.running
      ∙ ap (λ b. not (b || is_some (answers e past y.number))) (is.enters_other y.number (ne_eqb new.number y.number differ))
      ∙ ap (λ (o : Option Outcome). not (is_some o)) (is.tells y.number)
  stays t (to_call_back y proc_no extra place) h =
      ap (λ b. not ((b && eqb e.who.0 t) || (calls_back e.answer y.number && eqb e.who.0 y.from))) is.running ∙ ap (λ b. not (b && eqb e.who.0 y.from)) (is.hands_none y.number)

  comes : (t : ℕ) → arrives t e past ≡ flat_map begun_msg (cond (eqb new.to t) (new ∷ []) [])
  comes t =
      let test : SentMsg → Bool = λ x. (eqb x.from t) && not (has_ended past t) && is_answered_by e past x in
      let fails : (x : SentMsg) → test x ≡ false = λ x. ap (λ (o : Option Outcome). (eqb x.from t) && not (has_ended past t) && (is_some o && not (is_answered past x.number))) (is.tells x.number) ∙ and-false (eqb x.from t && not (has_ended past t)) in
      ap (λ l. flat_map begun_msg (filter (λ (x : SentMsg). eqb x.to t) l) ++ flat_map (λ x. result past x) (filter test (sends past))) is.makes
      ∙ ap (λ (l : List SentMsg). flat_map begun_msg (cond (eqb new.to t) (new ∷ []) []) ++ flat_map (λ x. result past x) l) (filter_none test fails (sends past))
      ∙ append-nil (flat_map begun_msg (cond (eqb new.to t) (new ∷ []) []))

  ready-begun : (t : ℕ) → ready (e ∷ past) t ≡ ready past t ++ flat_map begun_msg (cond (eqb new.to t) (new ∷ []) [])
  ready-begun t =
      ready-next e past t is.right
      ∙ ap (λ l. l ++ arrives t e past) (filter_all (λ r. not (departs t e past r)) (ready past t) (all_weaker (ReadyStands past t) (λ r. not (departs t e past r) ≡ true) (stays t) (ready past t) (standing.waiting t)))
      ∙ ap (λ l. ready past t ++ l) (comes t)

  inside_none : (b : Bool) → new.is_inside ≡ true → flat_map begun_msg (cond b (new ∷ []) []) ≡ []
  inside_none true h = ap (λ c. cond c [] (to_enter new ∷ []) ++ []) h
  inside_none false h = refl

  outside_one : (b : Bool) → new.is_inside ≡ false → flat_map begun_msg (cond b (new ∷ []) []) ≡ cond b (to_enter new ∷ []) []
  outside_one true h = ap (λ c. cond c [] (to_enter new ∷ []) ++ []) h
  outside_one false h = refl

  lists-begun : (lists : List (List Item)) (n : ℕ) → n ≡ new.number → IsOurs setup new.to → (new.is_inside ≡ false → CanJoin lists new.to (rank (place_after past) 0) new.number) → ListsStand setup past lists
      → ListsStand setup (e ∷ past) (lists_begun lists (row_of new) (rank (place_after past) 0) (record_id n))
  lists-begun lists n same ours can h =
      subst (λ k. ListsStand setup (e ∷ past) (lists_begun lists (row_of new) (rank (place_after past) 0) (record_id k))) (sym same)
      (subst (λ b. ListsStand setup (e ∷ past) (cond b lists (with_entry lists new.to (rank (place_after past) 0) (ReadySend (record_id new.number))))) (sym is.own) (by new.is_inside refl)) where
        by : (b : Bool) → new.is_inside ≡ b → ListsStand setup (e ∷ past) (cond b lists (with_entry lists new.to (rank (place_after past) 0) (ReadySend (record_id new.number))))
        by true i = lists-stay setup e past lists (λ u. ready-begun u ∙ ap (λ l. ready past u ++ l) (inside_none (eqb new.to u) i) ∙ append-nil (ready past u)) h
        by false i = lists-joined setup e past lists new.to new.number (to_enter new) ours refl is.place (λ u. ready-begun u ∙ ap (λ l. ready past u ++ l) (outside_one (eqb new.to u) i)) (can i) h

  -- the send is known, its frame stands, and it joins the list of its receiver
  pub stand-begun : (p : SendParts) → IsOurs setup e.who.0 → IsOurs setup new.to → (new.is_inside ≡ false → CanJoin p.lists new.to (rank (place_after past) 0) new.number) → PartsStand setup past p
      → PartsStand setup (e ∷ past) (begun p (row_of new) (place_after past))
  stand-begun p ours to_ours can h =
      let next : p.book.begun + 1 ≡ new.number = omega (arith, h.book.begun, is.number) in
      let count : length (sends (e ∷ past)) ≡ length (sends past) + 1 = ap length (sends-next e past is.right ∙ ap (λ l. sends past ++ l) is.makes) ∙ length-append (sends past) (new ∷ []) in
      record {
        book = record {
          begun = omega (arith, h.book.begun, count);
          threads = threads-begun p.book new.from (frame_at_begin (row_of new) (record_id (p.book.begun + 1))) ∙ h.book.threads;
          stacks = stacks-begun p.book (p.book.begun + 1) next h.book.threads ours h.book.stacks;
          known = known-begun p.book.known (p.book.begun + 1) next h.book.known;
        };
        lists = lists-begun p.lists (p.book.begun + 1) next to_ours can h.lists;
      }

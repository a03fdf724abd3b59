-- Sends are lost one after another: up to a number they are as after the entry, the rest as before.
use Rattle.std.proofs.Common.{◌≡◌, ◌≢◌, ℕ, zero, suc, ◌+◌, ◌-◌, ◌^◌, ◌<◌, ◌≤◌, Bool, true, false, not, cond, eqb, List, [], ◌∷◌, ◌++◌, length, get_or, set, take, map as each, Option, Some, None, refl, ap, ◌∙◌, sym, subst, inl, inr, arith}
use Rattle.std.specs.Prelude.{if◌then◌else◌, ◌&&◌, ◌||◌, filter, is_some, nat_le, nat_lt, option_map}
use Rattle.std.specs.List.{AllByRecursion, flat_map, list_any}
use Rattle.std.specs.FinMap as map
use Rattle.std.proofs.lemmas.Bool.{eqb-true, false≢true, ne_eqb}
use Rattle.std.proofs.lemmas.Bool.Decides.{eqb_tells, nat_tests}
use Rattle.std.proofs.lemmas.List.{append-nil, get_or-set_same, get_or-set_other, length-set}
use Rattle.std.proofs.lemmas.List.Elements.{filter-append}
use Rattle.std.proofs.lemmas.Grind.{flat_map-append}
use Rattle.win_num.specs.declared.send.Kind.{Kind}
use Rattle.win_num.specs.declared.send.Kind.TheVariants.{Wait, Timeout, Notify, Callback as WithCallback}
use Rattle.win_num.specs.declared.send.Cause.TheVariants.{Loss}
use Rattle.win_num.specs.declared.send.Frame.{Frame}
use Rattle.user_model.specs.declared.entry.Entry.{Entry}
use Rattle.user_model.specs.declared.entry.Setup.{Setup}
use Rattle.user_model.specs.Past.{Past, is_refused, place_after}
use Rattle.user_model.specs.Past as pasts
use Rattle.user_model.specs.Places.{has_ended}
use Rattle.user_model.specs.Windows.{drops_window}
use Rattle.user_model.specs.Stacks.{stacked}
use Rattle.user_model.specs.Sends.{SentMsg, Outcome, answer, answers, answers_in, calls_back, enters, is_answered, is_callback_kind, is_entered, is_owed, is_stacked, is_unfinished, loses, outcome, send, sends, sends_by, unfinished}
use Rattle.user_model.specs.Ready.{ReadyMsg, to_call_back, is_answered_by, ready, result, result_in}
use Rattle.user_model.specs.Legal.{IsLawful}
use Rattle.user_model.proofs.ListLaws.{all_append, all_filter, all_weaker, filter_all, filter_every, filter_same, filter_twice}
use Rattle.user_model.proofs.SendLaws.{answer-next}
use Rattle.user_model.proofs.SendLimits.{limited}
use Rattle.user_model.proofs.SendNext.{all_flat}
use Rattle.user_model.proofs.SendStanding.{ReadyStands, Standing}
use Rattle.user_model.proofs.SendSteps.{find_zero, list_any_append, none_any, or_left, some_if}
use Rattle.send_frames.specs.Book.{Book, KnownSend, answered_as, answered_by, count_on, is_wanted, names, with_send}
use Rattle.send_variants.specs.declared.ready.Ready.{Ready}
use Rattle.send_variants.specs.declared.ready.Ready.TheVariants.{Result as ReadyResult}
use Rattle.send_variants.specs.Lists.{AreBelow, Entry as Item, IsSound, all_without, list_of, place_on}
use Rattle.send_variants.proofs.Entries.{length-all, sound-put, sound-withdraw}
use Rattle.send_state.specs.Parts.{CanAnswer, CanAnswerAs, CanJoin, CanLose, Ranked, SendParts, answered, is_losable, is_lost, lists_answered_as, lost_step, lost_to, rank, with_entry, withdrawn}
use Rattle.send_state.specs.Standing.{IsOurs, PartsStand, as_told, item, item_as, known_at, known_of, place_at, row_of}
use Rattle.send_state.proofs.Still.{and-false}
use Rattle.send_state.proofs.Ranks.{rank-place}
use Rattle.send_state.proofs.StandStill.{below_more}
use Rattle.send_state.proofs.Serving.{about, eqb_itself}
use Rattle.send_state.proofs.Frames.{is_ours, stacked-counted}
use Rattle.send_state.proofs.Settling.{none_told, or_turned}
use Rattle.send_state.proofs.Beginning.{below_push, each_push, each_ready}
use Rattle.send_state.proofs.Owing.{and_last, and_true, kind_is, none_comes, not_true, one_comes, owes, row-before}
use Rattle.send_state.proofs.TimingOut.{at_without, below_without, without-filter}
use Rattle.send_state.proofs.ToldReplied.{none_if_not, unlisted}
use Rattle.send_state.proofs.Losing.{kept-here, lost-here}
use Rattle.send_state.proofs.Listed.{kept_any, listed, loses_is}
use Rattle.send_state.proofs.Losses.{counted_on, fewer, filter_push, none_left, numbers_below, place_none, place_nowhere, place_there, take_last, take_next, total_without, with_send-view}

-- an entry by which windows go
pub record IsLosing (past : Past) (e : Entry) : Type 0 where
  pub right : is_refused e ≡ false
  pub none_made : sends_by e.call e past ≡ []
  pub tells_none : (q : ℕ) → answers_in e.call e past q ≡ None
  pub keeps_frames : (l : List Frame) → stacked e.call e.answer l ≡ l
  pub enters_none : (q : ℕ) → enters e.answer q ≡ false
  pub hands_none : (q : ℕ) → calls_back e.answer q ≡ false

-- whether the entry gives the send its first answer
abbrev pub is_newly : Entry → Past → ℕ → Bool
is_newly e past s = is_some (answers e past s) && not (is_answered past s)

-- what is known of a send with the answer of after, and the debt of before
abbrev pub mid_as : Entry → Past → SentMsg → KnownSend
mid_as e past x = record { row = row_of x; answer = option_map as_told (answer (e ∷ past) x.number); owed = is_owed past x }

abbrev pub is_mid : Entry → Past → SentMsg → Bool
is_mid e past x = not (is_answered (e ∷ past) x.number) || (is_stacked past x || is_owed past x)

abbrev pub mid_of : Entry → Past → Option SentMsg → Option KnownSend
mid_of e past None = None
mid_of e past (Some x) = if is_mid e past x then Some (mid_as e past x) else None

-- what was ready without the sends up to n that are lost
abbrev pub left_ready : Entry → Past → ℕ → ℕ → List ReadyMsg
left_ready e past n t = filter (λ r. not (nat_le (about r) n && is_newly e past (about r))) (ready past t)

-- whether a send's result comes to t
abbrev pub is_coming : Entry → Past → ℕ → SentMsg → Bool
is_coming e past t y = (eqb y.from t && not (has_ended past t)) && is_answered_by e past y

-- the results of the sends up to n
abbrev pub new_results : Entry → Past → ℕ → ℕ → List ReadyMsg
new_results e past n t = flat_map (λ y. result past y) (filter (is_coming e past t) (take n (sends past)))

-- how many sends up to n are lost
abbrev pub losses : Entry → Past → ℕ → ℕ
losses e past n = length (filter (λ y. is_newly e past y.number) (take n (sends past)))

-- the parts where the sends up to n that go are lost
pub record LostTo (setup : Setup) (past : Past) (e : Entry) (p : SendParts) (n : ℕ) (r : Ranked) : Type 0 where
  pub begun : r.0.book.begun ≡ p.book.begun
  pub stacks : r.0.book.stacks ≡ p.book.stacks
  pub known_low : (s : ℕ) → s ≤ n → map.get r.0.book.known s ≡ mid_of e past (send past s)
  pub known_high : (s : ℕ) → n < s → map.get r.0.book.known s ≡ known_at past s
  pub threads : length r.0.lists ≡ setup.threads
  pub ready : (t : ℕ) → IsOurs setup t → each item (list_of r.0.lists t) ≡ each item_as (left_ready e past n t ++ new_results e past n t)
  pub below : (t : ℕ) → AreBelow r.1 (list_of r.0.lists t)
  pub sound : IsSound r.0.lists
  pub ranks : r.1 ≡ rank (place_after past) 0 + losses e past n

-- ---- numbers

none_below : (k : ℕ) → k ≢ 0 → nat_le k 0 ≡ false
none_below k h = grind (arith, nat_tests)

apart_le : (k n : ℕ) → k ≢ suc n → nat_le k (suc n) ≡ nat_le k n
apart_le k n h = by (nat_le k n) refl where
  by : (b : Bool) → nat_le k n ≡ b → nat_le k (suc n) ≡ nat_le k n
  by true e = grind (arith, nat_tests)
  by false e = grind (arith, nat_tests)

at_le : (n : ℕ) → nat_le (suc n) (suc n) ≡ true
at_le n = grind (arith, nat_tests)

above_le : (n : ℕ) → nat_le (suc n) n ≡ false
above_le n = grind (arith, nat_tests)

same_if : (o a : Option Outcome) → (is_some a && not (is_some o)) ≡ false → pasts.or_else o a ≡ o
same_if (Some x) a h = refl
same_if None None h = refl
same_if None (Some x) h = absurd (false≢true (sym h))

-- at most 1,024 sends are lost at once
pub few-losses : (setup : Setup) (past : Past) (e : Entry) → IsLawful setup past → (n : ℕ) → losses e past n ≤ 1024
few-losses setup past e lawful n =
    let less : losses e past n ≤ length (unfinished past) = fewer (λ y. is_newly e past y.number) (is_unfinished past) open_one n (sends past) in
    let few = (limited setup past lawful).few in
    omega (arith, less, few) where
      open_one : (y : SentMsg) → is_newly e past y.number ≡ true → is_unfinished past y ≡ true
      open_one y k = ap (λ b. b || (is_stacked past y || is_owed past y)) (and_true (is_some (answers e past y.number)) (not (is_answered past y.number)) k).1

module _ (setup : Setup) (past : Past) (e : Entry) (lawful : IsLawful setup past) (standing : Standing setup past) (is : IsLosing past e) (p : SendParts) (h : PartsStand setup past p) where
  told-here : (s : ℕ) → answers e past s ≡ cond (loses e past s) (Some (outcome past 0 Loss)) None
  told-here s = ap (λ o. cond (loses e past s) (Some (outcome past 0 Loss)) o) (is.tells_none s)

  pub told-some : (s : ℕ) → is_some (answers e past s) ≡ loses e past s
  told-some s = ap (λ (o : Option Outcome). is_some o) (told-here s) ∙ some_if (loses e past s) (outcome past 0 Loss)

  pub unmade : (s : ℕ) → send past s ≡ None → is_newly e past s ≡ false
  unmade s none =
      ap (λ b. b && not (is_answered past s)) (told-some s ∙ ap (λ o. elim o as (λ _. Bool) [ Some y ↦ drops_window e past y.hwnd && not (is_entered past s) | None ↦ false ]) none)

  none_zero : send past 0 ≡ None
  none_zero = find_zero 0 (sends past) standing.counted

  -- a send that isn't lost keeps its answer
  pub kept-answer : (s : ℕ) → is_newly e past s ≡ false → answer (e ∷ past) s ≡ answer past s
  kept-answer s k = answer-next e past s is.right ∙ same_if (answer past s) (answers e past s) k

  -- ---- none is lost yet

  start : LostTo setup past e p 0 (p, rank (place_after past) 0)
  start = record {
    begun = refl;
    stacks = refl;
    known_low = λ s low. let z : s ≡ 0 = omega (arith, low) in
        ap (map.get p.book.known) z ∙ h.book.known 0 ∙ ap (known_of past) none_zero ∙ sym (ap (λ k. mid_of e past (send past k)) z ∙ ap (mid_of e past) none_zero);
    known_high = λ s above. h.book.known s;
    threads = h.lists.threads;
    ready = λ t ours. h.lists.ready t ours ∙ sym (ap (each item_as) (append-nil (left_ready e past 0 t) ∙ filter_every (λ r. not (nat_le (about r) 0 && is_newly e past (about r))) (λ r. stays (about r)) (ready past t)));
    below = h.lists.below;
    sound = h.lists.sound;
    ranks = omega arith;
  } where
    stays : (k : ℕ) → not (nat_le k 0 && is_newly e past k) ≡ true
    stays k = elim (eqb_tells k 0) [
      | inl same ↦ ap (λ b. not (nat_le k 0 && b)) (ap (is_newly e past) same.1 ∙ unmade 0 none_zero) ∙ ap not (and-false (nat_le k 0))
      | inr differ ↦ ap (λ b. not (b && is_newly e past k)) (none_below k differ.1)
    ]

  module _ (n : ℕ) (r : Ranked) (c : LostTo setup past e p n r) where
    known-here : map.get r.0.book.known (suc n) ≡ known_at past (suc n)
    known-here = c.known_high (suc n) (omega arith)

    -- ---- a send that isn't lost

    known-mid : is_newly e past (suc n) ≡ false → (o : Option SentMsg) → send past (suc n) ≡ o → known_of past o ≡ mid_of e past o
    known-mid kept None found = refl
    known-mid kept (Some x) found =
        ap (λ (o : Option Outcome). cond (not (is_some o) || (is_stacked past x || is_owed past x)) (Some (record { row = row_of x; answer = option_map as_told o; owed = is_owed past x })) None)
        (sym (ap (answer (e ∷ past)) (standing.sent (suc n) x found).is_number ∙ kept-answer (suc n) kept ∙ ap (answer past) (sym (standing.sent (suc n) x found).is_number)))

    filter-stay : (f : SentMsg → Bool) → ((x : SentMsg) → send past (suc n) ≡ Some x → f x ≡ false) → filter f (take (suc n) (sends past)) ≡ filter f (take n (sends past))
    filter-stay f fails = by (send past (suc n)) refl where
      by : (o : Option SentMsg) → send past (suc n) ≡ o → filter f (take (suc n) (sends past)) ≡ filter f (take n (sends past))
      by None found = ap (filter f) (take_last 0 n (suc n) (sends past) standing.counted (omega arith) found)
      by (Some x) found =
          ap (filter f) (take_next 0 n (suc n) (sends past) x standing.counted (omega arith) found) ∙ filter_push f (take n (sends past)) x
          ∙ ap (λ b. filter f (take n (sends past)) ++ cond b (x ∷ []) []) (fails x found) ∙ append-nil (filter f (take n (sends past)))

    newly-at : (b : Bool) → is_newly e past (suc n) ≡ b → (x : SentMsg) → send past (suc n) ≡ Some x → is_newly e past x.number ≡ b
    newly-at b k x found = ap (is_newly e past) (standing.sent (suc n) x found).is_number ∙ k

    stays-same : is_newly e past (suc n) ≡ false → (k : ℕ) → not (nat_le k (suc n) && is_newly e past k) ≡ not (nat_le k n && is_newly e past k)
    stays-same kept k = elim (eqb_tells k (suc n)) [
      | inl same ↦ let none : is_newly e past k ≡ false = ap (is_newly e past) same.1 ∙ kept in
          ap (λ b. not (nat_le k (suc n) && b)) none ∙ ap not (and-false (nat_le k (suc n)) ∙ sym (and-false (nat_le k n))) ∙ sym (ap (λ b. not (nat_le k n && b)) none)
      | inr differ ↦ ap (λ b. not (b && is_newly e past k)) (apart_le k n differ.1)
    ]

    stay : is_newly e past (suc n) ≡ false → LostTo setup past e p (suc n) r
    stay kept = record {
      begun = c.begun;
      stacks = c.stacks;
      known_low = λ q low. elim (eqb_tells q (suc n)) [
        | inl same ↦ ap (map.get r.0.book.known) same.1 ∙ known-here ∙ known-mid kept (send past (suc n)) refl ∙ sym (ap (λ k. mid_of e past (send past k)) same.1)
        | inr differ ↦ c.known_low q (omega (arith, low, differ.1))
      ];
      known_high = λ q above. c.known_high q (omega (arith, above));
      threads = c.threads;
      ready = λ t ours. c.ready t ours ∙ sym (ap (each item_as) (
          ap (λ l. l ++ new_results e past (suc n) t) (filter_same (λ r. not (nat_le (about r) (suc n) && is_newly e past (about r))) (λ r. not (nat_le (about r) n && is_newly e past (about r))) (λ r. stays-same kept (about r)) (ready past t))
          ∙ ap (λ (l : List SentMsg). left_ready e past n t ++ flat_map (λ y. result past y) l) (filter-stay (is_coming e past t) (λ x found. ap (λ b. (eqb x.from t && not (has_ended past t)) && b) (newly-at false kept x found) ∙ and-false (eqb x.from t && not (has_ended past t))))));
      below = c.below;
      sound = c.sound;
      ranks = c.ranks ∙ ap (λ (l : List SentMsg). rank (place_after past) 0 + length l) (sym (filter-stay (λ y. is_newly e past y.number) (newly-at false kept)));
    }

    -- ---- what comes isn't about it

    abbrev still : ReadyMsg → Bool
    still a = not (eqb (about a) (suc n))

    result_about : (y : SentMsg) → y.number ≤ n → AllByRecursion (λ a. still a ≡ true) (result past y)
    result_about y low = by y.is_inside y.kind where
      differ : still (to_call_back y 0 0 0) ≡ true
      differ = ap not (ne_eqb y.number (suc n) (omega (arith, low)))

      by_kind : (k : Kind) → AllByRecursion (λ a. still a ≡ true) (result_in past y k)
      by_kind Wait = tt
      by_kind (Timeout flags ms) = tt
      by_kind Notify = tt
      by_kind (WithCallback proc_no extra) = (differ, tt)

      by : (b : Bool) (k : Kind) → AllByRecursion (λ a. still a ≡ true) (cond b [] (result_in past y k))
      by true k = tt
      by false k = by_kind k

    results-apart : (t : ℕ) → AllByRecursion (λ a. still a ≡ true) (new_results e past n t)
    results-apart t =
        all_flat (λ y. y.number ≤ n) (λ a. still a ≡ true) (λ y. result past y) (filter (is_coming e past t) (take n (sends past))) result_about
        (all_filter (λ y. y.number ≤ n) (is_coming e past t) (take n (sends past)) (numbers_below 0 n n (sends past) standing.counted (omega arith)))

    -- ---- a send that is lost

    module _ (x : SentMsg) (found : send past (suc n) ≡ Some x) (newly : is_newly e past (suc n) ≡ true) where
      abbrev s : ℕ
      s = suc n

      number : x.number ≡ suc n
      number = (standing.sent (suc n) x found).is_number

      parts : (is_some (answers e past (suc n)) ≡ true) × (not (is_answered past (suc n)) ≡ true)
      parts = and_true (is_some (answers e past (suc n))) (not (is_answered past (suc n))) newly

      lost : loses e past (suc n) ≡ true
      lost = sym (told-some (suc n)) ∙ parts.0

      pub dropped : (drops_window e past x.hwnd ≡ true) × (not (is_entered past (suc n)) ≡ true)
      dropped = and_true (drops_window e past x.hwnd) (not (is_entered past (suc n))) (sym (loses_is e past (suc n) x found) ∙ lost)

      pub unanswered : answer past (suc n) ≡ None
      unanswered = none_if_not (answer past (suc n)) (not_true (is_answered past (suc n)) parts.1)

      outside : x.is_inside ≡ false
      outside = by x.is_inside refl where
        by : (b : Bool) → x.is_inside ≡ b → b ≡ false
        by true k = absurd (false≢true (sym (not_true (is_entered past (suc n)) dropped.1) ∙ (standing.sent (suc n) x found).inside_entered k))
        by false k = refl

      pub row-here : map.get r.0.book.known (suc n) ≡ Some (record { row = row_of x; answer = None; owed = is_owed past x })
      row-here = known-here ∙ row-before setup past (suc n) x standing found unanswered

      -- the book
      mid-told : record { row = row_of x; answer = Some (0, Loss); owed = is_owed past x } ≡ mid_as e past x
      mid-told = sym (ap (λ (o : Option Outcome). record { row = row_of x; answer = option_map as_told o; owed = is_owed past x })
          (ap (answer (e ∷ past)) number ∙ answer-next e past (suc n) is.right ∙ ap (λ o. pasts.or_else o (answers e past (suc n))) unanswered ∙ told-here (suc n) ∙ ap (λ b. cond b (Some (outcome past 0 Loss)) None) lost))

      mid-wanted : is_wanted r.0.book.stacks (suc n) (mid_as e past x) ≡ is_mid e past x
      mid-wanted =
          let count : is_stacked past x ≡ nat_lt 0 (count_on (names (suc n)) r.0.book.stacks) =
          stacked-counted setup past p.book (suc n) x standing h.book.threads h.book.stacks found ∙ ap (λ (l : List (List Frame)). nat_lt 0 (count_on (names (suc n)) l)) (sym c.stacks) in
          ap (λ b. b || is_owed past x || nat_lt 0 (count_on (names (suc n)) r.0.book.stacks)) (none_told (answer (e ∷ past) x.number))
          ∙ ap (λ b. not (is_answered (e ∷ past) x.number) || is_owed past x || b) (sym count)
          ∙ or_turned (not (is_answered (e ∷ past) x.number)) (is_owed past x) (is_stacked past x)

      abbrev told_book : Book
      told_book = with_send r.0.book (suc n) (mid_as e past x)

      book-is : answered_by r.0.book (suc n) (0, Loss) ≡ told_book
      book-is = ap (answered_as r.0.book (suc n) (0, Loss)) row-here ∙ ap (with_send r.0.book (suc n)) mid-told

      known-view : (q : ℕ) → map.get told_book.known q ≡ cond (eqb q (suc n)) (mid_of e past (Some x)) (map.get r.0.book.known q)
      known-view = with_send-view r.0.book (suc n) (mid_as e past x) (λ q. cond (eqb q (suc n)) (mid_of e past (Some x)) (map.get r.0.book.known q))
          (ap (λ b. cond b (mid_of e past (Some x)) (map.get r.0.book.known (suc n))) (eqb_itself (suc n)) ∙ ap (λ b. cond b (Some (mid_as e past x)) None) (sym mid-wanted))
          (λ q differ. ap (λ b. cond b (mid_of e past (Some x)) (map.get r.0.book.known q)) (sym (ne_eqb q (suc n) differ)))

      -- what is ready
      abbrev taken : List (List Item)
      taken = all_without (suc n) r.0.lists

      left-next : (t : ℕ) → filter still (left_ready e past n t) ≡ left_ready e past (suc n) t
      left-next t =
          filter_twice still (λ a. not (nat_le (about a) n && is_newly e past (about a))) (ready past t)
          ∙ filter_same (λ a. still a && not (nat_le (about a) n && is_newly e past (about a))) (λ a. not (nat_le (about a) (suc n) && is_newly e past (about a))) (λ a. one (about a)) (ready past t) where
            one : (k : ℕ) → (not (eqb k (suc n)) && not (nat_le k n && is_newly e past k)) ≡ not (nat_le k (suc n) && is_newly e past k)
            one k = elim (eqb_tells k (suc n)) [
              | inl same ↦
                  ap (λ b. not b && not (nat_le k n && is_newly e past k)) same.0
                  ∙ sym (ap (λ j. not (nat_le j (suc n) && is_newly e past j)) same.1 ∙ ap (λ b. not (b && is_newly e past (suc n))) (at_le n) ∙ ap not newly)
              | inr differ ↦ ap (λ b. not b && not (nat_le k n && is_newly e past k)) differ.0 ∙ sym (ap (λ b. not (b && is_newly e past k)) (apart_le k n differ.1))
            ]

      results-stay : (t : ℕ) → filter still (new_results e past n t) ≡ new_results e past n t
      results-stay t = filter_all still (new_results e past n t) (results-apart t)

      abbrev fresh : ℕ → List ReadyMsg
      fresh t = flat_map (λ y. result past y) (cond (eqb x.from t && not (has_ended past t)) (x ∷ []) [])

      results-next : (t : ℕ) → new_results e past (suc n) t ≡ new_results e past n t ++ fresh t
      results-next t =
          ap (λ (l : List SentMsg). flat_map (λ y. result past y) (filter (is_coming e past t) l)) (take_next 0 n (suc n) (sends past) x standing.counted (omega arith) found)
          ∙ ap (λ (l : List SentMsg). flat_map (λ y. result past y) l) (filter_push (is_coming e past t) (take n (sends past)) x)
          ∙ ap (λ b. flat_map (λ y. result past y) (filter (is_coming e past t) (take n (sends past)) ++ cond b (x ∷ []) []))
          (ap (λ b. (eqb x.from t && not (has_ended past t)) && b) (newly-at true newly x found) ∙ and_last (eqb x.from t && not (has_ended past t)))
          ∙ flat_map-append (λ y. result past y) (filter (is_coming e past t) (take n (sends past))) (cond (eqb x.from t && not (has_ended past t)) (x ∷ []) [])

      abbrev old : ℕ → List ReadyMsg
      old t = left_ready e past (suc n) t ++ new_results e past n t

      taken-ready : (t : ℕ) → IsOurs setup t → each item (list_of taken t) ≡ each item_as (old t)
      taken-ready t ours =
          ap (each item) (at_without (suc n) r.0.lists (t - 1))
          ∙ without-filter (suc n) still (list_of r.0.lists t) (left_ready e past n t ++ new_results e past n t) (c.ready t ours) (each_same (left_ready e past n t ++ new_results e past n t))
          ∙ ap (each item_as) (filter-append still (left_ready e past n t) (new_results e past n t) ∙ ap (λ l. l ++ filter still (new_results e past n t)) (left-next t) ∙ ap (λ l. left_ready e past (suc n) t ++ l) (results-stay t)) where
            each_same : (l : List ReadyMsg) → AllByRecursion (λ a. still a ≡ not (eqb (about a) (suc n))) l
            each_same [] = tt
            each_same (a ∷ l) = (refl, each_same l)

      view-next : (t : ℕ) → left_ready e past (suc n) t ++ new_results e past (suc n) t ≡ old t ++ fresh t
      view-next t = ap (λ l. left_ready e past (suc n) t ++ l) (results-next t) ∙ joined (left_ready e past (suc n) t) (new_results e past n t) (fresh t) where
        joined : (left mid right : List ReadyMsg) → left ++ (mid ++ right) ≡ (left ++ mid) ++ right
        joined [] mid right = refl
        joined (a ∷ left) mid right = ap (λ l. a ∷ l) (joined left mid right)

      taken-sound : IsSound taken
      taken-sound = sound-withdraw r.0.lists (suc n) c.sound

      taken-threads : length taken ≡ setup.threads
      taken-threads = length-all (suc n) r.0.lists ∙ c.threads

      taken-below : (t : ℕ) → AreBelow r.1 (list_of taken t)
      taken-below t = subst (AreBelow r.1) (sym (at_without (suc n) r.0.lists (t - 1))) (below_without r.1 (suc n) (list_of r.0.lists t) (c.below t))

      -- its result can join
      pub can-join-lost : is_some (place_on (suc n) r.0.lists) ≡ true → CanJoin taken x.from r.1 (suc n)
      can-join-lost placed = record {
        thread = let ours = is_ours setup x.from (standing.sent (suc n) x found).from_thread in (ours.0, omega (arith, ours.1, taken-threads));
        above = taken-below x.from;
        room = let sum = total_without (suc n) r.0.lists in let one = counted_on (suc n) r.0.lists placed in let few = c.sound.few in omega (arith, sum, one, few);
        unnamed = none_left (suc n) r.0.lists;
      }

      below-next : (es : List Item) → AreBelow r.1 es → AreBelow (r.1 + 1) es
      below-next es b = below_more r.1 (r.1 + 1) es (omega arith) b

      losses-next : losses e past (suc n) ≡ losses e past n + 1
      losses-next =
          ap (λ (l : List SentMsg). length (filter (λ y. is_newly e past y.number) l)) (take_next 0 n (suc n) (sends past) x standing.counted (omega arith) found)
          ∙ ap length (filter_push (λ y. is_newly e past y.number) (take n (sends past)) x)
          ∙ ap (λ b. length (filter (λ y. is_newly e past y.number) (take n (sends past)) ++ cond b (x ∷ []) [])) (newly-at true newly x found)
          ∙ one_more (filter (λ y. is_newly e past y.number) (take n (sends past))) where
            one_more : (l : List SentMsg) → length (l ++ x ∷ []) ≡ length l + 1
            one_more [] = refl
            one_more (y ∷ l) = let rest = one_more l in omega (arith, rest)

      rank-next : r.1 + 1 ≡ rank (place_after past) 0 + losses e past (suc n)
      rank-next = omega (arith, losses-next, c.ranks)

      -- its rank is one of the entry's place
      rank-here : place_at r.1 ≡ place_after past
      rank-here =
          let few = few-losses setup past e lawful (suc n) in
          let is_rank : r.1 ≡ rank (place_after past) (losses e past n) = omega (arith, c.ranks) in
          ap place_at is_rank ∙ rank-place (place_after past) (losses e past n) (omega (arith, few, losses-next))

      -- the lists, where no result is owed and where one is
      stands-with : (lists : List (List Item)) → length lists ≡ setup.threads → ((t : ℕ) → IsOurs setup t → each item (list_of lists t) ≡ each item_as (old t ++ fresh t)) → ((t : ℕ) → AreBelow (r.1 + 1) (list_of lists t)) → IsSound lists
          → LostTo setup past e p (suc n) (record r.0 { book = told_book; lists = lists }, r.1 + 1)
      stands-with lists threads at below sound = record {
        begun = c.begun;
        stacks = c.stacks;
        known_low = λ q low. elim (eqb_tells q (suc n)) [
          | inl same ↦ known-view q ∙ ap (λ b. cond b (mid_of e past (Some x)) (map.get r.0.book.known q)) same.0 ∙ sym (ap (λ k. mid_of e past (send past k)) same.1 ∙ ap (mid_of e past) found)
          | inr differ ↦ known-view q ∙ ap (λ b. cond b (mid_of e past (Some x)) (map.get r.0.book.known q)) differ.0 ∙ c.known_low q (omega (arith, low, differ.1))
        ];
        known_high = λ q above. known-view q ∙ ap (λ b. cond b (mid_of e past (Some x)) (map.get r.0.book.known q)) (ne_eqb q (suc n) (omega (arith, above))) ∙ c.known_high q (omega (arith, above));
        threads = threads;
        ready = λ t ours. at t ours ∙ sym (ap (each item_as) (view-next t));
        below = below;
        sound = sound;
        ranks = rank-next;
      }

      abbrev message : List Item
      message = (r.1, ReadyResult (record { 0 = suc n })) ∷ []

      lists-lost : (b : Bool) → is_owed past x ≡ b → is_some (place_on (suc n) r.0.lists) ≡ true
          → LostTo setup past e p (suc n) (record r.0 { book = told_book; lists = cond b (with_entry taken x.from r.1 (ReadyResult (record { 0 = suc n }))) taken }, r.1 + 1)
      lists-lost false k placed = stands-with taken taken-threads
          (λ t ours. taken-ready t ours ∙ ap (each item_as) (sym (ap (λ l. old t ++ l) (none_comes setup past (suc n) x standing found unanswered k t) ∙ append-nil (old t))))
          (λ t. below-next (list_of taken t) (taken-below t)) taken-sound
      lists-lost true k placed =
          stands-with (with_entry taken x.from r.1 (ReadyResult (record { 0 = suc n }))) (length-set taken (x.from - 1) (list_of taken x.from ++ message) ∙ taken-threads) at lower
          (sound-put taken x.from r.1 (ReadyResult (record { 0 = suc n })) taken-sound can.thread.0 can.thread.1 can.above can.room can.unnamed) where
            can : CanJoin taken x.from r.1 (suc n)
            can = can-join-lost placed

            owing : (is_callback_kind x.kind ≡ true) × (not (has_ended past x.from) ≡ true)
            owing = and_true (is_callback_kind x.kind) (not (has_ended past x.from)) (sym (owes setup past (suc n) x standing found unanswered outside) ∙ k)

            kind : (a : ℕ) × (b : ℕ) × (x.kind ≡ WithCallback a b)
            kind = kind_is x.kind owing.0

            within : x.from - 1 < length taken
            within = omega (arith, can.thread.0, can.thread.1)

            comes : (t : ℕ) → fresh t ≡ cond (eqb x.from t) (to_call_back x kind.0 kind.1 (place_after past) ∷ []) []
            comes t = one_comes setup past (suc n) x standing found unanswered kind.0 kind.1 outside kind.2 (not_true (has_ended past x.from) owing.1) t

            same-list : get_or (set taken (x.from - 1) (list_of taken x.from ++ message)) (x.from - 1) [] ≡ list_of taken x.from ++ message
            same-list = get_or-set_same taken (x.from - 1) (list_of taken x.from ++ message) [] within

            at : (t : ℕ) → IsOurs setup t → each item (get_or (set taken (x.from - 1) (list_of taken x.from ++ message)) (t - 1) []) ≡ each item_as (old t ++ fresh t)
            at t ours = elim (eqb_tells x.from t) [
              | inl same ↦
                  ap (λ u. each item (get_or (set taken (x.from - 1) (list_of taken x.from ++ message)) (u - 1) [])) (sym same.1)
                  ∙ ap (each item) same-list ∙ each_push (list_of taken x.from) (r.1, ReadyResult (record { 0 = suc n }))
                  ∙ ap (λ l. l ++ item (r.1, ReadyResult (record { 0 = suc n })) ∷ []) (ap (λ u. each item (list_of taken u)) same.1 ∙ taken-ready t ours)
                  ∙ ap (λ m. let a : ℕ × Ready = (m, ReadyResult (record { 0 = suc n })) in each item_as (old t) ++ a ∷ []) rank-here
                  ∙ ap (λ m. let a : ℕ × Ready = (place_after past, ReadyResult (record { 0 = m })) in each item_as (old t) ++ a ∷ []) (sym number)
                  ∙ sym (ap (λ l. each item_as (old t ++ l)) (comes t ∙ ap (λ b. cond b (to_call_back x kind.0 kind.1 (place_after past) ∷ []) []) same.0) ∙ each_ready (old t) (to_call_back x kind.0 kind.1 (place_after past) ∷ []))
              | inr differ ↦
                  let apart : t - 1 ≢ x.from - 1 = omega (arith, differ.1, ours.0, can.thread.0) in
                  ap (each item) (get_or-set_other taken (x.from - 1) (t - 1) (list_of taken x.from ++ message) [] apart)
                  ∙ taken-ready t ours
                  ∙ ap (each item_as) (sym (ap (λ l. old t ++ l) (comes t ∙ ap (λ b. cond b (to_call_back x kind.0 kind.1 (place_after past) ∷ []) []) differ.0) ∙ append-nil (old t)))
            ]

            lower : (t : ℕ) → AreBelow (r.1 + 1) (get_or (set taken (x.from - 1) (list_of taken x.from ++ message)) (t - 1) [])
            lower t = elim (eqb_tells (t - 1) (x.from - 1)) [
              | inl same ↦
                  subst (AreBelow (r.1 + 1)) (sym (ap (λ i. get_or (set taken (x.from - 1) (list_of taken x.from ++ message)) i []) same.1 ∙ same-list))
                  (below_push (r.1 + 1) (list_of taken x.from) (r.1, ReadyResult (record { 0 = suc n })) (below-next (list_of taken x.from) (taken-below x.from)) (omega arith))
              | inr differ ↦
                  subst (AreBelow (r.1 + 1)) (sym (get_or-set_other taken (x.from - 1) (t - 1) (list_of taken x.from ++ message) [] differ.1)) (below-next (list_of taken t) (taken-below t))
            ]

      -- the send is lost
      pub lose : is_some (place_on (suc n) r.0.lists) ≡ true → LostTo setup past e p (suc n) (answered (withdrawn r.0 (suc n)) (suc n) 0 Loss r.1, r.1 + 1)
      lose placed =
          subst (λ o. LostTo setup past e p (suc n) (record r.0 { book = answered_by r.0.book (suc n) (0, Loss); lists = lists_answered_as taken (suc n) r.1 o }, r.1 + 1)) (sym row-here)
          (subst (λ b. LostTo setup past e p (suc n) (record r.0 { book = b; lists = cond (is_owed past x) (with_entry taken x.from r.1 (ReadyResult (record { 0 = suc n }))) taken }, r.1 + 1)) (sym book-is)
          (lists-lost (is_owed past x) refl placed))

  -- ---- every send

  module _ (test : ℕ → Bool) (same : (w : ℕ) → test w ≡ drops_window e past w) where
    module _ (n : ℕ) (r : Ranked) (c : LostTo setup past e p n r) where
      abbrev apart : ReadyMsg → Bool
      apart a = eqb (about a) (suc n)

      abbrev seen : ℕ → List ReadyMsg
      seen t = left_ready e past n t ++ new_results e past n t

      -- a send that waits to be entered has a place
      placed : (x : SentMsg) → send past (suc n) ≡ Some x → is_entered past (suc n) ≡ false → is_answered past (suc n) ≡ false → is_some (place_on (suc n) r.0.lists) ≡ true
      placed x found unentered open_still =
          place_there (suc n) r.0.lists (x.to - 1) (seen x.to) (c.ready x.to (is_ours setup x.to (standing.sent (suc n) x found).to_thread))
          (list_any_append apart (left_ready e past n x.to) (new_results e past n x.to)
          ∙ or_left (list_any apart (left_ready e past n x.to)) (list_any apart (new_results e past n x.to))
          (kept_any (ReadyStands past x.to) (λ a. not (nat_le (about a) n && is_newly e past (about a))) (suc n) (λ a k here. stays (about a) here) (ready past x.to) (standing.waiting x.to) (listed setup past lawful (suc n) x found unentered open_still))) where
            stays : (k : ℕ) → eqb k (suc n) ≡ true → not (nat_le k n && is_newly e past k) ≡ true
            stays k here = ap (λ j. not (nat_le j n && is_newly e past j)) (eqb-true k (suc n) here) ∙ ap (λ b. not (b && is_newly e past (suc n))) (above_le n)

      -- one that was entered has none
      nowhere : is_entered past (suc n) ≡ true → is_answered past (suc n) ≡ false → is_some (place_on (suc n) r.0.lists) ≡ false
      nowhere entered open_still = place_nowhere (suc n) r.0.lists (λ i lt.
          let ours : IsOurs setup (suc i) = (omega arith, omega (arith, lt, c.threads)) in
          let back : suc i - 1 ≡ i = omega arith in
          place_none (suc n) (get_or r.0.lists i []) (seen (suc i)) (subst (λ j. each item (get_or r.0.lists j []) ≡ each item_as (seen (suc i))) back (c.ready (suc i) ours)) (none (suc i))) where
            none : (t : ℕ) → list_any apart (seen t) ≡ false
            none t = none_any apart (seen t) (all_append (λ a. apart a ≡ false) (left_ready e past n t) (new_results e past n t)
                (all_filter (λ a. apart a ≡ false) (λ a. not (nat_le (about a) n && is_newly e past (about a))) (ready past t) (unlisted setup past (suc n) standing entered open_still t))
                (all_weaker (λ a. not (apart a) ≡ true) (λ a. apart a ≡ false) (λ a k. not_true (apart a) k) (new_results e past n t) (results-apart n r c t)))

      dead : (x : SentMsg) (u : Bool) (o : Option Outcome) → is_some o ≡ true → is_losable test (cond u (Some (record { row = row_of x; answer = option_map as_told o; owed = is_owed past x })) None) ≡ false
      dead x false o k = refl
      dead x true (Some a) k = and-false (test x.hwnd)
      dead x true None k = absurd (false≢true k)

      abbrev has_place : Bool
      has_place = is_some (place_on (suc n) r.0.lists)

      -- the send is lost exactly where the entry loses it
      pub decides : is_lost test r.0 (suc n) ≡ is_newly e past (suc n)
      decides = ap (λ o. is_losable test o && has_place) (c.known_high (suc n) (omega arith)) ∙ by (send past (suc n)) refl where
        by_entered : (x : SentMsg) → send past (suc n) ≡ Some x → is_answered past (suc n) ≡ false → (b : Bool) → is_entered past (suc n) ≡ b → ((test x.hwnd && true) && has_place) ≡ (drops_window e past x.hwnd && not b)
        by_entered x found open_still true en = ap (λ b. (test x.hwnd && true) && b) (nowhere en open_still) ∙ and-false (test x.hwnd && true) ∙ sym (and-false (drops_window e past x.hwnd))
        by_entered x found open_still false en = ap (λ b. (test x.hwnd && true) && b) (placed x found en open_still) ∙ and_last (test x.hwnd && true) ∙ ap (λ b. b && true) (same x.hwnd)

        by_answer : (x : SentMsg) → send past (suc n) ≡ Some x → (b : Bool) → is_answered past (suc n) ≡ b → (is_losable test (known_of past (Some x)) && has_place) ≡ is_newly e past (suc n)
        by_answer x found true k =
            ap (λ b. b && has_place) (dead x (is_unfinished past x) (answer past x.number) (ap (λ m. is_answered past m) (standing.sent (suc n) x found).is_number ∙ k))
            ∙ sym (ap (λ b. is_some (answers e past (suc n)) && not b) k ∙ and-false (is_some (answers e past (suc n))))
        by_answer x found false k =
            ap (λ o. is_losable test o && has_place) (sym (ap (known_of past) found) ∙ row-before setup past (suc n) x standing found (none_if_not (answer past (suc n)) k))
            ∙ by_entered x found k (is_entered past (suc n)) refl
            ∙ sym (ap (λ b. is_some (answers e past (suc n)) && not b) k ∙ and_last (is_some (answers e past (suc n))) ∙ told-some (suc n) ∙ loses_is e past (suc n) x found)

        by : (o : Option SentMsg) → send past (suc n) ≡ o → (is_losable test (known_of past o) && has_place) ≡ is_newly e past (suc n)
        by None found = sym (unmade (suc n) found)
        by (Some x) found = by_answer x found (is_answered past (suc n)) refl

      made : (o : Option SentMsg) → send past (suc n) ≡ o → is_newly e past (suc n) ≡ true → (x : SentMsg) × (send past (suc n) ≡ Some x)
      made (Some x) found k = (x, found)
      made None found k = absurd (false≢true (sym (unmade (suc n) found) ∙ k))

      has_place_of : is_lost test r.0 (suc n) ≡ true → has_place ≡ true
      has_place_of k = (and_true (is_losable test (map.get r.0.book.known (suc n))) has_place k).1

      -- one send more
      step : LostTo setup past e p (suc n) (lost_step test r (suc n))
      step = by (is_newly e past (suc n)) refl where
        by : (b : Bool) → is_newly e past (suc n) ≡ b → LostTo setup past e p (suc n) (lost_step test r (suc n))
        by false k = subst (LostTo setup past e p (suc n)) (sym (kept-here test r (suc n) (decides ∙ k))) (stay n r c k)
        by true k =
            let m = made (send past (suc n)) refl k in
            subst (LostTo setup past e p (suc n)) (sym (lost-here test r (suc n) (decides ∙ k))) (lose n r c m.0 m.1 k (has_place_of (decides ∙ k)))

      -- what the loss of a send needs
      can-answer : is_lost test r.0 (suc n) ≡ true → CanAnswer (withdrawn r.0 (suc n)) (suc n) r.1
      can-answer k =
          let newly = sym decides ∙ k in
          let m = made (send past (suc n)) refl newly in
          subst (CanAnswerAs (all_without (suc n) r.0.lists) (suc n) r.1) (sym (row-here n r c m.0 m.1 newly)) (λ owed. can-join-lost n r c m.0 m.1 newly (has_place_of k))

    -- every send up to n
    pub lost-stands : (n : ℕ) → LostTo setup past e p n (lost_to test (p, rank (place_after past) 0) n)
    lost-stands zero = start
    lost-stands (suc n) = step n (lost_to test (p, rank (place_after past) 0) n) (lost-stands n)

    -- each loss has what it needs
    pub can-lose-stands : place_after past < 2 ^ 21 → CanLose test (p, rank (place_after past) 0)
    can-lose-stands early n k =
        let at = lost-stands n in
        let few = few-losses setup past e lawful n in
        let is_rank = at.ranks in
        (can-answer n (lost_to test (p, rank (place_after past) 0) n) at k, omega (arith, few, is_rank, early))

-- The lists stand on where a send that was entered gets its first answer.
use Rattle.std.proofs.Common.{◌≡◌, ◌≢◌, ℕ, suc, ◌≤◌, Bool, true, false, not, cond, eqb, List, [], ◌∷◌, ◌++◌, Option, Some, None, refl, ap, ◌∙◌, sym, subst, inl, inr, arith}
use Rattle.std.specs.Prelude.{◌&&◌, ◌||◌, filter, find, is_some, option_map}
use Rattle.std.specs.List.{AllByRecursion, flat_map}
use Rattle.std.specs.FinMap as map
use Rattle.std.proofs.lemmas.Bool.{ne_eqb}
use Rattle.std.proofs.lemmas.Bool.Decides.{eqb_tells}
use Rattle.std.proofs.lemmas.List.{append-nil}
use Rattle.win_num.specs.declared.send.Cause.{Cause}
use Rattle.user_model.specs.declared.entry.Entry.{Entry}
use Rattle.user_model.specs.declared.entry.Setup.{Setup}
use Rattle.user_model.specs.Past.{Past, is_refused, or_else, place_after}
use Rattle.user_model.specs.Places.{has_ended, is_end}
use Rattle.user_model.specs.Sends.{SentMsg, Outcome, answer, answers, calls_back, enters, is_answered, is_callback_kind, is_owed, outcome, send, sends, sends_by, was_called_back}
use Rattle.user_model.specs.Ready.{ReadyMsg, to_enter, to_call_back, arrives, begun as begun_msg, departs, is_answered_by, ready, result}
use Rattle.user_model.specs.Legal.{IsLawful}
use Rattle.user_model.proofs.ListLaws.{all_weaker, filter_all}
use Rattle.user_model.proofs.SendLaws.{answer-next, ready-next}
use Rattle.user_model.proofs.SendStanding.{CountsFrom, Standing}
use Rattle.send_frames.specs.Book.{KnownSend}
use Rattle.send_variants.specs.declared.ready.Ready.TheVariants.{Result as ReadyResult}
use Rattle.send_state.specs.Parts.{CanJoin, SendParts, lists_answered_as, rank, with_entry}
use Rattle.send_state.specs.Standing.{IsOurs, ListsStand, PartsStand, as_told, known_as, known_at, row_of}
use Rattle.send_state.proofs.Still.{and-false}
use Rattle.send_state.proofs.Serving.{about}
use Rattle.send_state.proofs.Frames.{eqb_turned, is_ours}
use Rattle.send_state.proofs.Beginning.{lists-joined, lists-stay}
use Rattle.send_state.proofs.Joining.{can-join}
use Rattle.send_state.proofs.Owing.{and_last, and_true, kind_is, none_comes, not_true, one_comes, owes, row-before}

-- whether nothing ready is about the send
abbrev pub IsUnlisted : Past → ℕ → Type 0
IsUnlisted past f = (t : ℕ) → AllByRecursion (λ r. eqb (about r) f ≡ false) (ready past t)

-- the entry gives a send its first answer
pub record IsAnswering (past : Past) (e : Entry) (f : ℕ) (x : SentMsg) (v : ℕ) (c : Cause) : Type 0 where
  pub right : is_refused e ≡ false
  pub running : is_end e.answer ≡ false
  pub none_made : sends_by e.call e past ≡ []
  pub found : send past f ≡ Some x
  pub unanswered : answer past f ≡ None
  pub gives : answers e past f ≡ Some (outcome past v c)
  pub tells_other : (q : ℕ) → eqb f q ≡ false → answers e past q ≡ None
  pub enters_none : (q : ℕ) → enters e.answer q ≡ false
  pub hands_other : (q : ℕ) → eqb f q ≡ false → calls_back e.answer q ≡ false
  pub owed_same : is_owed (e ∷ past) x ≡ is_owed past x

-- ---- the one send among all

none_after : (n f : ℕ) (test : SentMsg → Bool) → ((y : SentMsg) → eqb y.number f ≡ false → test y ≡ false) → (xs : List SentMsg) → CountsFrom n xs → f ≤ n → filter test xs ≡ []
none_after n f test fails [] c h = refl
none_after n f test fails (y ∷ ys) c h =
    let differ : y.number ≢ f = omega (arith, c.0, h) in
    ap (λ b. cond b (y ∷ filter test ys) (filter test ys)) (fails y (ne_eqb y.number f differ)) ∙ none_after (suc n) f test fails ys c.1 (omega (arith, h))

pub one_among : (n f : ℕ) (test : SentMsg → Bool) → ((y : SentMsg) → eqb y.number f ≡ false → test y ≡ false) → (xs : List SentMsg) (x : SentMsg) → CountsFrom n xs → find (λ y. eqb y.number f) xs ≡ Some x → filter test xs ≡ cond (test x) (x ∷ []) []
one_among n f test fails [] x c e = absurd cc
one_among n f test fails (y ∷ ys) x c e = elim (eqb_tells y.number f) [
  | inl same ↦
      let here : Some y ≡ Some x = sym (ap (λ b. cond b (Some y) (find (λ z. eqb z.number f) ys)) same.0) ∙ e in
      let is : y ≡ x = cc in
      let rest = none_after (suc n) f test fails ys c.1 (let k = c.0 in let s = same.1 in omega (arith, k, s)) in
      ap (λ l. cond (test y) (y ∷ l) l) rest ∙ ap (λ z. cond (test z) (z ∷ []) []) is
  | inr differ ↦
      let later : find (λ z. eqb z.number f) ys ≡ Some x = sym (ap (λ b. cond b (Some y) (find (λ z. eqb z.number f) ys)) differ.0) ∙ e in
      ap (λ b. cond b (y ∷ filter test ys) (filter test ys)) (fails y differ.0) ∙ one_among (suc n) f test fails ys x c.1 later
]

module _ (setup : Setup) (past : Past) (e : Entry) (f : ℕ) (x : SentMsg) (v : ℕ) (c : Cause) (is : IsAnswering past e f x v c) (standing : Standing setup past) where
  number : x.number ≡ f
  number = (standing.sent f x is.found).is_number

  pub answer-later : answer (e ∷ past) f ≡ Some (outcome past v c)
  answer-later = answer-next e past f is.right ∙ ap (λ o. or_else o (answers e past f)) is.unanswered ∙ is.gives

  pub known-before : known_at past f ≡ Some (record { row = row_of x; answer = None; owed = is_owed past x })
  known-before = row-before setup past f x standing is.found is.unanswered

  pub known-later : record { row = row_of x; answer = Some (v, c); owed = is_owed past x } ≡ known_as (e ∷ past) x
  known-later =
      sym (ap (λ (o : Option Outcome). record { row = row_of x; answer = option_map as_told o; owed = is_owed (e ∷ past) x }) (ap (answer (e ∷ past)) number ∙ answer-later)
      ∙ ap (λ b. record { row = row_of x; answer = Some (v, c); owed = b }) is.owed_same)

  -- ---- what is ready

  stays : (t : ℕ) (r : ReadyMsg) → eqb (about r) f ≡ false → not (departs t e past r) ≡ true
  stays t (to_enter y) h =
      ap (λ b. not ((b && eqb e.who.0 t) || (enters e.answer y.number || is_some (answers e past y.number)))) is.running
      ∙ ap (λ b. not (b || is_some (answers e past y.number))) (is.enters_none y.number)
      ∙ ap (λ (o : Option Outcome). not (is_some o)) (is.tells_other y.number (eqb_turned f y.number ∙ h))
  stays t (to_call_back y proc_no extra place) h =
      ap (λ b. not ((b && eqb e.who.0 t) || (calls_back e.answer y.number && eqb e.who.0 y.from))) is.running ∙ ap (λ b. not (b && eqb e.who.0 y.from)) (is.hands_other y.number (eqb_turned f y.number ∙ h))

  abbrev test : ℕ → SentMsg → Bool
  test t y = (eqb y.from t) && not (has_ended past t) && is_answered_by e past y

  first_here : is_answered_by e past x ≡ true
  first_here = ap (λ n. is_some (answers e past n) && not (is_answered past n)) number ∙ ap (λ (o : Option Outcome). is_some o && not (is_answered past f)) is.gives ∙ ap (λ (o : Option Outcome). not (is_some o)) is.unanswered

  fails : (t : ℕ) (y : SentMsg) → eqb y.number f ≡ false → test t y ≡ false
  fails t y h =
      ap (λ (o : Option Outcome). (eqb y.from t) && not (has_ended past t) && (is_some o && not (is_answered past y.number))) (is.tells_other y.number (eqb_turned f y.number ∙ h))
      ∙ and-false (eqb y.from t && not (has_ended past t))

  pub comes : (t : ℕ) → arrives t e past ≡ flat_map (λ y. result past y) (cond (eqb x.from t && not (has_ended past t)) (x ∷ []) [])
  comes t =
      ap (λ l. flat_map begun_msg (filter (λ (y : SentMsg). eqb y.to t) l) ++ flat_map (λ y. result past y) (filter (test t) (sends past))) is.none_made
      ∙ ap (λ (l : List SentMsg). flat_map (λ y. result past y) l) (one_among 0 f (test t) (fails t) (sends past) x standing.counted is.found)
      ∙ ap (λ b. flat_map (λ y. result past y) (cond b (x ∷ []) [])) (ap (λ b. (eqb x.from t) && not (has_ended past t) && b) first_here ∙ and_last (eqb x.from t && not (has_ended past t)))

  pub ready-answered : IsUnlisted past f → (t : ℕ) → ready (e ∷ past) t ≡ ready past t ++ flat_map (λ y. result past y) (cond (eqb x.from t && not (has_ended past t)) (x ∷ []) [])
  ready-answered unlisted t =
      ready-next e past t is.right
      ∙ ap (λ l. l ++ arrives t e past) (filter_all (λ r. not (departs t e past r)) (ready past t) (all_weaker (λ r. eqb (about r) f ≡ false) (λ r. not (departs t e past r) ≡ true) (stays t) (ready past t) (unlisted t)))
      ∙ ap (λ l. ready past t ++ l) (comes t)

  -- the lists with the result of the send, where it is owed
  pub lists-answered : (p : SendParts) → IsLawful setup past → map.len p.book.known ≤ 1024 → IsUnlisted past f → PartsStand setup past p → ListsStand setup (e ∷ past) (lists_answered_as p.lists f (rank (place_after past) 0) (map.get p.book.known f))
  lists-answered p lawful few unlisted h =
      subst (λ o. ListsStand setup (e ∷ past) (lists_answered_as p.lists f (rank (place_after past) 0) o)) (sym has) (by (is_owed past x) refl) where
        has : map.get p.book.known f ≡ Some (record { row = row_of x; answer = None; owed = is_owed past x })
        has = h.book.known f ∙ known-before

        by : (b : Bool) → is_owed past x ≡ b → ListsStand setup (e ∷ past) (cond (is_owed past x) (with_entry p.lists x.from (rank (place_after past) 0) (ReadyResult (record { 0 = f }))) p.lists)
        by false k =
            subst (λ b. ListsStand setup (e ∷ past) (cond b (with_entry p.lists x.from (rank (place_after past) 0) (ReadyResult (record { 0 = f }))) p.lists)) (sym k)
            (lists-stay setup e past p.lists (λ t. ready-answered unlisted t ∙ ap (λ l. ready past t ++ l) (none_comes setup past f x standing is.found is.unanswered k t) ∙ append-nil (ready past t)) h.lists)
        by true k =
            let outside : x.is_inside ≡ false = not_true x.is_inside (and_true (not x.is_inside) (not (has_ended past x.from) && not (was_called_back past x)) (and_true (is_callback_kind x.kind) (not x.is_inside && (not (has_ended past x.from) && not (was_called_back past x))) k).1).0 in
            let parts = and_true (is_callback_kind x.kind) (not (has_ended past x.from)) (sym (owes setup past f x standing is.found is.unanswered outside) ∙ k) in
            let kind = kind_is x.kind parts.0 in
            let ours : IsOurs setup x.from = is_ours setup x.from (standing.sent f x is.found).from_thread in
            let can : CanJoin p.lists x.from (rank (place_after past) 0) f = can-join setup past p x.from f lawful h ours few (inl (ap (λ (o : Option KnownSend). is_some o) has)) unlisted in
            let joined : ListsStand setup (e ∷ past) (with_entry p.lists x.from (rank (place_after past) 0) (ReadyResult (record { 0 = x.number }))) =
            lists-joined setup e past p.lists x.from f (to_call_back x kind.0 kind.1 (place_after past)) ours (sym number) refl
            (λ t. ready-answered unlisted t ∙ ap (λ l. ready past t ++ l) (one_comes setup past f x standing is.found is.unanswered kind.0 kind.1 outside kind.2 (not_true (has_ended past x.from) parts.1) t)) can h.lists in
            subst (λ b. ListsStand setup (e ∷ past) (cond b (with_entry p.lists x.from (rank (place_after past) 0) (ReadyResult (record { 0 = f }))) p.lists)) (sym k)
            (subst (λ n. ListsStand setup (e ∷ past) (with_entry p.lists x.from (rank (place_after past) 0) (ReadyResult (record { 0 = n })))) number joined)

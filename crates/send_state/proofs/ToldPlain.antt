-- A lawful end of a procedure that ran for no send: the parts stand on.
use Rattle.std.proofs.Common.{◌≡◌, ◌≢◌, ℕ, suc, Bool, true, false, not, cond, eqb, List, [], ◌∷◌, ◌++◌, length, Option, Some, None, refl, ap, ◌∙◌, sym, subst, inl, inr, arith}
use Rattle.std.specs.Prelude.{◌&&◌, ◌||◌, ◌⊎◌, drop, filter, find, is_some}
use Rattle.std.specs.List.{AllByRecursion, flat_map, list_any, slice_get}
use Rattle.std.proofs.lemmas.Bool.{ne_eqb}
use Rattle.std.proofs.lemmas.Bool.Decides.{eqb_tells}
use Rattle.std.proofs.lemmas.List.{append-nil}
use Rattle.win_num.specs.declared.send.SendId.{SendId}
use Rattle.win_num.specs.declared.send.Cause.TheVariants.{Loss, Proc}
use Rattle.win_num.specs.declared.send.Frame.{Frame}
use Rattle.win_num.specs.declared.send.Frame.TheVariants.{Called, CallbackRun}
use Rattle.user_model.specs.declared.call.Call.TheVariants.{Leave}
use Rattle.user_model.specs.declared.entry.Entry.{Entry}
use Rattle.user_model.specs.declared.entry.Setup.{Setup}
use Rattle.user_model.specs.declared.entry.Answer.TheVariants as answers
use Rattle.user_model.specs.Past.{Past, is_refused, place_after}
use Rattle.user_model.specs.Places.{has_ended, is_end}
use Rattle.user_model.specs.Stacks.{stack, stacked, top}
use Rattle.user_model.specs.Sends.{SentMsg, Outcome, answers, answers_in, calls_back, enters, is_answered, left_by, names_send, outcome, send, sends, sends_by}
use Rattle.user_model.specs.Ready.{ReadyMsg, to_enter, to_call_back, arrives, begun, departs, is_answered_by, ready, result}
use Rattle.user_model.specs.Legal.{IsLawful}
use Rattle.user_model.proofs.ListLaws.{all_weaker, filter_all}
use Rattle.user_model.proofs.SendLaws.{is_sent, makes_none, ready-next, sends-same}
use Rattle.user_model.proofs.SendReplies.{entry_told}
use Rattle.user_model.proofs.AnswerFacts.{IsLeft, LeftFrom}
use Rattle.user_model.proofs.SendLawful.{lawful_standing, sends_found}
use Rattle.user_model.proofs.SendStanding.{CountsFrom, ReadyStands, Standing}
use Rattle.send_frames.specs.Book.{named_by}
use Rattle.send_state.specs.Parts.{SendParts, finished, left, left_from, rank}
use Rattle.send_state.specs.Standing.{IsOurs, PartsStand, known_at, known_of}
use Rattle.send_state.proofs.Still.{and-false, is_drop, is_owed-same, loses-none}
use Rattle.send_state.proofs.Settling.{known-other}
use Rattle.send_state.proofs.Popping.{IsBefore, stand-popped-unnamed}
use Rattle.send_state.proofs.Beginning.{lists-stay}
use Rattle.send_state.proofs.Told.{runs}
use Rattle.send_state.proofs.ToldDone.{split_top}

-- the frame of a procedure that ran for no send
abbrev pub IsPlain : Frame → Type 0
IsPlain g = (g ≡ Called) ⊎ (g ≡ CallbackRun)

no_zero : (n : ℕ) (xs : List SentMsg) → CountsFrom n xs → find (λ x. eqb x.number 0) xs ≡ None
no_zero n [] c = refl
no_zero n (x ∷ xs) c =
    let differ : x.number ≢ 0 = (let k = c.0 in omega (arith, k)) in
    ap (λ b. cond b (Some x) (find (λ y. eqb y.number 0) xs)) (ne_eqb x.number 0 differ) ∙ no_zero (suc n) xs c.1

filter_none_all : {X : Type 0} (test : X → Bool) (xs : List X) → AllByRecursion (λ x. test x ≡ false) xs → filter test xs ≡ []
filter_none_all test [] h = refl
filter_none_all test (x ∷ xs) h = ap (λ b. cond b (x ∷ filter test xs) (filter test xs)) h.0 ∙ filter_none_all test xs h.1

module _ (setup : Setup) (past : Past) (e : Entry) (p : SendParts) (v : ℕ) (s : SendId) (g : Frame) (lawful : IsLawful setup (e ∷ past)) (h : PartsStand setup past p) (is_call : e.call ≡ Leave v) (is : e.answer ≡ answers.Left s)
    (is_top : top past e.who.0 ≡ Some g) (plain : IsPlain g) where
  before : Standing setup past
  before = lawful_standing setup past lawful.0

  own : IsOurs setup e.who.0
  own = (runs setup past e.who.0 (entry_told setup past e.who.0 e.call (answers.Left s) (sym lawful.1 ∙ is) refl).0.running).0

  left_is : IsLeft past e.who.0 e.call s.0
  left_is = (entry_told setup past e.who.0 e.call (answers.Left s) (sym lawful.1 ∙ is) refl).1

  from_plain : LeftFrom past (Some g) s.0
  from_plain = subst (λ o. LeftFrom past o s.0) is_top left_is.from

  zero_told : s.0 ≡ 0
  zero_told = elim plain [ inl k ↦ subst (λ f. LeftFrom past (Some f) s.0) k from_plain | inr k ↦ subst (λ f. LeftFrom past (Some f) s.0) k from_plain ]

  told_here : (q : ℕ) → answers e past q ≡ cond (eqb 0 q) (Some (outcome past v Proc)) None
  told_here q =
      ap (λ b. cond b (Some (outcome past 0 Loss)) (answers_in e.call e past q)) (loses-none e past q (ap is_drop is_call) (ap is_end is))
      ∙ ap (λ c. answers_in c e past q) is_call ∙ ap (λ a. cond (left_by a q) (Some (outcome past v Proc)) None) is
      ∙ ap (λ n. cond (eqb n q) (Some (outcome past v Proc)) None) zero_told

  none_zero : send past 0 ≡ None
  none_zero = no_zero 0 (sends past) before.counted

  tells_made : (x : SentMsg) → send past x.number ≡ Some x → answers e past x.number ≡ None
  tells_made x found = elim (eqb_tells 0 x.number) [
    | inl same ↦ let clash : None ≡ Some x = sym none_zero ∙ ap (send past) same.1 ∙ found in absurd cc
    | inr differ ↦ told_here x.number ∙ ap (λ b. cond b (Some (outcome past v Proc)) None) differ.0
  ]

  none_made : sends_by e.call e past ≡ []
  none_made = makes_none e past (ap is_sent is)

  send-kept : (q : ℕ) → send (e ∷ past) q ≡ send past q
  send-kept q = ap (λ xs. find (λ x. eqb x.number q) xs) (sends-same e past none_made)

  pops : (l : List Frame) → stacked e.call e.answer l ≡ drop 1 l
  pops l = ap (λ a. stacked e.call a l) is

  abbrev fs : List Frame
  fs = (split_top (stack past e.who.0) g is_top).0

  is_stack : stack past e.who.0 ≡ g ∷ fs
  is_stack = (split_top (stack past e.who.0) g is_top).1

  names_none : (q : ℕ) → names_send g q ≡ false
  names_none q = elim plain [ inl k ↦ ap (λ f. names_send f q) k | inr k ↦ ap (λ f. names_send f q) k ]

  unnamed : named_by g ≡ None
  unnamed = elim plain [ inl k ↦ ap named_by k | inr k ↦ ap named_by k ]

  framed : (q : ℕ) → list_any (λ f. names_send f q) (stacked e.call e.answer (stack past e.who.0)) ≡ list_any (λ f. names_send f q) (stack past e.who.0)
  framed q =
      ap (list_any (λ f. names_send f q)) (pops (stack past e.who.0) ∙ ap (drop 1) is_stack)
      ∙ sym (ap (list_any (λ f. names_send f q)) is_stack ∙ ap (λ b. b || list_any (λ f. names_send f q) fs) (names_none q))

  known-kept : (q : ℕ) → known_at (e ∷ past) q ≡ known_at past q
  known-kept q = elim (eqb_tells 0 q) [
    | inl same ↦ ap (known_at (e ∷ past)) (sym same.1) ∙ ap (known_of (e ∷ past)) (send-kept 0 ∙ none_zero) ∙ sym (ap (known_at past) (sym same.1) ∙ ap (known_of past) none_zero)
    | inr differ ↦ known-other setup e past q before (send-kept q) (told_here q ∙ ap (λ b. cond b (Some (outcome past v Proc)) None) differ.0) (framed q) (λ y found. is_owed-same e past y (ap is_end is) (ap (λ a. calls_back a y.number) is))
  ]

  stays : (t : ℕ) (r : ReadyMsg) → ReadyStands past t r → not (departs t e past r) ≡ true
  stays t (to_enter y) k =
      ap (λ a. not ((is_end a && eqb e.who.0 t) || (enters a y.number || is_some (answers e past y.number)))) is
      ∙ ap (λ (o : Option Outcome). not (is_some o)) (tells_made y k.found)
  stays t (to_call_back y proc_no extra place) k = ap (λ a. not ((is_end a && eqb e.who.0 t) || (calls_back a y.number && eqb e.who.0 y.from))) is

  comes : (t : ℕ) → arrives t e past ≡ []
  comes t =
      let test : SentMsg → Bool = λ y. (eqb y.from t) && not (has_ended past t) && is_answered_by e past y in
      let fails : AllByRecursion (λ y. test y ≡ false) (sends past) = all_weaker (λ y. send past y.number ≡ Some y) (λ y. test y ≡ false) (λ y found.
      ap (λ (o : Option Outcome). (eqb y.from t) && not (has_ended past t) && (is_some o && not (is_answered past y.number))) (tells_made y found) ∙ and-false (eqb y.from t && not (has_ended past t)))
      (sends past) (sends_found setup past before) in
      ap (λ l. flat_map begun (filter (λ (y : SentMsg). eqb y.to t) l) ++ flat_map (λ y. result past y) (filter test (sends past))) none_made
      ∙ ap (λ (l : List SentMsg). flat_map (λ y. result past y) l) (filter_none_all test (sends past) fails)

  ready-kept : (t : ℕ) → ready (e ∷ past) t ≡ ready past t
  ready-kept t =
      ready-next e past t (ap (λ a. is_refused (record e { answer = a })) is)
      ∙ ap (λ l. filter (λ r. not (departs t e past r)) (ready past t) ++ l) (comes t) ∙ append-nil (filter (λ r. not (departs t e past r)) (ready past t))
      ∙ filter_all (λ r. not (departs t e past r)) (ready past t) (all_weaker (ReadyStands past t) (λ r. not (departs t e past r) ≡ true) (stays t) (ready past t) (before.waiting t))

  stands : PartsStand setup (e ∷ past) (finished p e.who.0)
  stands =
      let was : IsBefore setup past e p.book g fs = record {
        right = ap (λ a. is_refused (record e { answer = a })) is;
        own = own;
        begun = h.book.begun;
        makes_none = ap length (sends-same e past none_made);
        threads = h.book.threads;
        stacks = h.book.stacks;
        is_stack = is_stack;
        pops = pops (g ∷ fs);
      } in
      record {
        book = stand-popped-unnamed setup past e p.book g fs was unnamed (λ q. h.book.known q ∙ sym (known-kept q));
        lists = lists-stay setup e past p.lists ready-kept h.lists;
      }

  as_finished : (f : Frame) → IsPlain f → left_from p (Some f) e.who.0 v (rank (place_after past) 0) ≡ finished p e.who.0
  as_finished f k = elim k [
    | inl c ↦ ap (λ f. left_from p (Some f) e.who.0 v (rank (place_after past) 0)) c
    | inr c ↦ ap (λ f. left_from p (Some f) e.who.0 v (rank (place_after past) 0)) c
  ]

  -- the procedure of a dispatched message, or of a callback, is left
  pub told-left-plain : PartsStand setup (e ∷ past) (left p e.who.0 v (place_after past))
  told-left-plain =
      subst (PartsStand setup (e ∷ past)) (sym (ap (λ o. left_from p o e.who.0 v (rank (place_after past) 0)) (ap (λ l. slice_get l 0) (h.book.stacks e.who.0 own ∙ is_stack)) ∙ as_finished g plain)) stands

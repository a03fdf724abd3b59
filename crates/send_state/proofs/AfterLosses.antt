-- After an entry by which windows go: what is ready, and the parts where all sends that go are lost.
use Rattle.std.proofs.Common.{◌≡◌, ℕ, ◌-◌, ◌<◌, ◌≤◌, true, false, not, cond, eqb, List, [], ◌∷◌, ◌++◌, length, get_or, Option, Some, None, ap, ◌∙◌, sym, inl, inr, arith}
use Rattle.std.specs.Prelude.{◌&&◌, ◌||◌, filter, find, is_some, nat_le, option_map}
use Rattle.std.specs.List.{flat_map, list_any}
use Rattle.std.specs.FinMap as map
use Rattle.std.proofs.lemmas.Bool.Decides.{leb_tells, nat_tests}
use Rattle.std.proofs.lemmas.List.{take_all}
use Rattle.win_num.specs.declared.send.Frame.{Frame}
use Rattle.user_model.specs.declared.entry.Entry.{Entry}
use Rattle.user_model.specs.declared.entry.Setup.{Setup}
use Rattle.user_model.specs.Past.{Past, place_after}
use Rattle.user_model.specs.Places.{ends_thread}
use Rattle.user_model.specs.Stacks.{stack}
use Rattle.user_model.specs.Sends.{SentMsg, Outcome, answer, answers, calls_back, enters, is_answered, is_owed, is_stacked, names_send, send, sends}
use Rattle.user_model.specs.Ready.{ReadyMsg, to_enter, to_call_back, arrives, begun, departs, ready, result}
use Rattle.user_model.proofs.ListLaws.{filter_agree}
use Rattle.user_model.proofs.SendLaws.{ready-next, sends-same, stack-same}
use Rattle.user_model.proofs.SendStanding.{ReadyStands, Standing}
use Rattle.user_model.proofs.SendSteps.{find_above}
use Rattle.send_frames.specs.Book.{Book}
use Rattle.send_variants.specs.Lists.{AreBelow, list_of}
use Rattle.send_state.specs.Parts.{Ranked, SendParts, rank}
use Rattle.send_state.specs.Standing.{BookStands, PartsStand, as_told, known_at, known_of, row_of}
use Rattle.send_state.proofs.Still.{and-false}
use Rattle.send_state.proofs.StandStill.{below_more}
use Rattle.send_state.proofs.Serving.{about}
use Rattle.send_state.proofs.Settling.{stacked-same-at}
use Rattle.send_state.proofs.Owing.{and_last}
use Rattle.send_state.proofs.LostSends.{IsLosing, LostTo, is_coming, is_newly, left_ready, losses, mid_of, new_results}

module _ (setup : Setup) (past : Past) (e : Entry) (standing : Standing setup past) (is : IsLosing past e) (p : SendParts) (h : PartsStand setup past p) where
  all_begun : p.book.begun ≡ length (sends past)
  all_begun = h.book.begun

  bounded : (s : ℕ) (x : SentMsg) → send past s ≡ Some x → s ≤ p.book.begun
  bounded s x found = elim (leb_tells s p.book.begun) [
    | inl low ↦ low.1
    | inr above ↦ let none : None ≡ Some x = sym (find_above 0 (sends past) s standing.counted (let k = above.1 in omega (arith, k, all_begun))) ∙ found in absurd cc
  ]

  send-kept : (s : ℕ) → send (e ∷ past) s ≡ send past s
  send-kept s = ap (λ xs. find (λ x. eqb x.number s) xs) (sends-same e past is.none_made)

  -- ---- what is known

  pub stacked-kept : (x : SentMsg) → is_stacked (e ∷ past) x ≡ is_stacked past x
  stacked-kept x = stacked-same-at e past x (ap (list_any (λ f. names_send f x.number)) (is.keeps_frames (stack past e.who.0)))

  -- a send that is owed as before is known with the debt of before
  pub mid-later : (x : SentMsg) → is_owed (e ∷ past) x ≡ is_owed past x → mid_of e past (Some x) ≡ known_of (e ∷ past) (Some x)
  mid-later x owed =
      ap (λ b. cond (not (is_answered (e ∷ past) x.number) || (b || is_owed past x)) (Some (record { row = row_of x; answer = option_map as_told (answer (e ∷ past) x.number); owed = is_owed past x })) None) (sym (stacked-kept x))
      ∙ ap (λ b. cond (not (is_answered (e ∷ past) x.number) || (is_stacked (e ∷ past) x || b)) (Some (record { row = row_of x; answer = option_map as_told (answer (e ∷ past) x.number); owed = b })) None) (sym owed)

  -- a book with the frames of before stands, where it knows of the sends what is known after
  pub book-after : (b : Book) → b.begun ≡ p.book.begun → b.stacks ≡ p.book.stacks → ((s : ℕ) → s ≤ p.book.begun → map.get b.known s ≡ known_of (e ∷ past) (send past s)) → ((s : ℕ) → p.book.begun < s → map.get b.known s ≡ known_at past s)
      → BookStands setup (e ∷ past) b
  book-after b begun_same stacks_same low high = record {
    begun = begun_same ∙ h.book.begun ∙ sym (ap length (sends-same e past is.none_made));
    threads = ap length stacks_same ∙ h.book.threads;
    stacks = λ t ours. ap (λ (l : List (List Frame)). get_or l (t - 1) []) stacks_same ∙ h.book.stacks t ours ∙ sym (stack-same e past t (is.keeps_frames (stack past t)));
    known = λ s. elim (leb_tells s p.book.begun) [
      | inl within ↦ low s within.1 ∙ ap (known_of (e ∷ past)) (sym (send-kept s))
      | inr above ↦
          let none : send past s ≡ None = find_above 0 (sends past) s standing.counted (let k = above.1 in omega (arith, k, all_begun)) in
          high s above.1 ∙ ap (known_of past) none ∙ sym (ap (known_of (e ∷ past)) (send-kept s ∙ none))
    ];
  }

  -- the ranks that losses took are below those of the next place
  pub below-after : (r : Ranked) → LostTo setup past e p p.book.begun r → losses e past p.book.begun ≤ 1024 → (t : ℕ) → AreBelow (rank (place_after (e ∷ past)) 0) (list_of r.0.lists t)
  below-after r at few t = let is_rank = at.ranks in below_more r.1 (rank (place_after (e ∷ past)) 0) (list_of r.0.lists t) (omega (arith, few, is_rank)) (at.below t)

  -- ---- what is ready

  within_all : (k : ℕ) → k ≤ p.book.begun → nat_le k p.book.begun ≡ true
  within_all k low = grind (arith, nat_tests, low)

  agree : (t : ℕ) → ends_thread e t ≡ false → (r : ReadyMsg) → ReadyStands past t r → not (departs t e past r) ≡ not (nat_le (about r) p.book.begun && is_newly e past (about r))
  agree t runs (to_enter y) k =
      ap (λ b. not (b || (enters e.answer y.number || is_some (answers e past y.number)))) runs
      ∙ ap (λ b. not (b || is_some (answers e past y.number))) (is.enters_none y.number)
      ∙ sym (ap (λ b. not (b && is_newly e past y.number)) (within_all y.number (bounded y.number y k.found))
      ∙ ap (λ b. not (is_some (answers e past y.number) && not b)) k.unanswered ∙ ap not (and_last (is_some (answers e past y.number))))
  agree t runs (to_call_back y proc_no extra place) k =
      ap (λ b. not (b || (calls_back e.answer y.number && eqb e.who.0 y.from))) runs
      ∙ ap (λ b. not (b && eqb e.who.0 y.from)) (is.hands_none y.number)
      ∙ sym (ap (λ (o : Option Outcome). not (nat_le y.number p.book.begun && (is_some (answers e past y.number) && not (is_some o)))) k.answered
      ∙ ap (λ b. not (nat_le y.number p.book.begun && b)) (and-false (is_some (answers e past y.number))) ∙ ap not (and-false (nat_le y.number p.book.begun)))

  abbrev results_of : ℕ → List SentMsg → List ReadyMsg
  results_of t l = flat_map (λ y. result past y) (filter (is_coming e past t) l)

  arrived : (t : ℕ) → arrives t e past ≡ new_results e past p.book.begun t
  arrived t =
      ap (λ l. flat_map begun (filter (λ (y : SentMsg). eqb y.to t) l) ++ results_of t (sends past)) is.none_made
      ∙ ap (results_of t) (sym (take_all p.book.begun (sends past) (omega (arith, all_begun))))

  -- a thread that goes on has ready what was ready without the sends that are lost, and the results that come
  pub ready-running : (t : ℕ) → ends_thread e t ≡ false → ready (e ∷ past) t ≡ left_ready e past p.book.begun t ++ new_results e past p.book.begun t
  ready-running t runs =
      ready-next e past t is.right
      ∙ ap (λ l. l ++ arrives t e past) (filter_agree (ReadyStands past t) (λ r. not (departs t e past r)) (λ r. not (nat_le (about r) p.book.begun && is_newly e past (about r))) (agree t runs) (ready past t) (standing.waiting t))
      ∙ ap (λ l. left_ready e past p.book.begun t ++ l) (arrived t)

-- The parts stand on where the procedure of an own send is left: its callback procedure runs in its place, or the frame is taken away.
use Rattle.std.proofs.Common.{◌≡◌, ◌≢◌, ℕ, zero, suc, ◌+◌, ◌-◌, ◌<◌, ◌≤◌, Bool, true, false, List, [], ◌∷◌, length, get_or, set, Some, refl, ap, ◌∙◌, sym, subst, arith}
use Rattle.std.specs.Prelude.{◌||◌, drop, nat_lt}
use Rattle.std.specs.List.{list_any, slice_get}
use Rattle.std.specs.FinMap as map
use Rattle.std.proofs.lemmas.Bool.{ne_eqb}
use Rattle.std.proofs.lemmas.List.{get_or-set_same, length-set}
use Rattle.win_num.specs.declared.send.SendId.{SendId}
use Rattle.win_num.specs.declared.send.Cause.TheVariants.{Proc}
use Rattle.win_num.specs.declared.send.Kind.{Kind}
use Rattle.win_num.specs.declared.send.Kind.TheVariants.{Wait, Timeout, Notify, Callback as WithCallback}
use Rattle.win_num.specs.declared.send.Frame.{Frame}
use Rattle.win_num.specs.declared.send.Frame.TheVariants.{Inside, CallbackRun}
use Rattle.user_model.specs.declared.entry.Entry.{Entry}
use Rattle.user_model.specs.declared.entry.Setup.{Setup}
use Rattle.user_model.specs.Past.{Past, place_after}
use Rattle.user_model.specs.Stacks.{stack, stacked}
use Rattle.user_model.specs.Sends.{SentMsg, is_callback_kind, is_stacked, names_send, send}
use Rattle.user_model.specs.Legal.{IsLawful}
use Rattle.user_model.proofs.SendLaws.{sends-same}
use Rattle.user_model.proofs.SendStanding.{Standing}
use Rattle.send_frames.specs.Book.{Book, answered_by, count_in, count_on, is_callback, names, popped, pushed, stack_of, with_send, with_stack, with_top}
use Rattle.send_state.specs.Parts.{SendParts, book_left, left, left_from, lists_answered_as, rank, runs_callback, wants_callback}
use Rattle.send_state.specs.Standing.{BookStands, IsOurs, PartsStand, known_as, known_at}
use Rattle.send_state.proofs.Losing.{set_twice}
use Rattle.send_state.proofs.Steps.{stacks-popped}
use Rattle.send_state.proofs.StandStill.{stacks-changed}
use Rattle.send_state.proofs.Frames.{stacked-counted}
use Rattle.send_state.proofs.Settling.{known-popped}
use Rattle.send_state.proofs.Popping.{begun-popped}
use Rattle.send_state.proofs.Answering.{IsAnswering, IsUnlisted, known-before, lists-answered}
use Rattle.send_state.proofs.Leaving.{answered-is, book-left, found_later, has_answer, keeps_others, others}

-- a callback's frame names no send
uncounted : (s : ℕ) (fs : List Frame) (stacks : List (List Frame)) (i : ℕ) → count_on (names s) (set stacks i (CallbackRun ∷ fs)) ≡ count_on (names s) (set stacks i fs)
uncounted s fs [] i = refl
uncounted s fs (gs ∷ stacks) zero = omega arith
uncounted s fs (gs ∷ stacks) (suc i) = ap (λ n. count_in (names s) gs + n) (uncounted s fs stacks i)

kind_same : (k : Kind) → is_callback k ≡ is_callback_kind k
kind_same Wait = refl
kind_same (Timeout flags ms) = refl
kind_same Notify = refl
kind_same (WithCallback proc_no extra) = refl

module _ (setup : Setup) (past : Past) (e : Entry) (s : SendId) (x : SentMsg) (v : ℕ) (is : IsAnswering past e s.0 x v Proc) (standing : Standing setup past) where
  runs-callback : (p : SendParts) → PartsStand setup past p → runs_callback p.book (Some (Inside s)) ≡ is_callback_kind x.kind
  runs-callback p h = ap wants_callback (h.book.known s.0 ∙ known-before setup past e s.0 x v Proc is standing) ∙ kind_same x.kind

  -- the parts where the frame is changed and the send has its answer
  abbrev changed_to : SendParts → Bool → Book → SendParts
  changed_to p callback b = record p { book = book_left callback b e.who.0; lists = lists_answered_as p.lists s.0 (rank (place_after past) 0) (map.get p.book.known s.0) }

  as_left : (p : SendParts) (fs : List Frame) (callback : Bool) → IsOurs setup e.who.0 → stack past e.who.0 ≡ Inside s ∷ fs → is_callback_kind x.kind ≡ callback → PartsStand setup past p
      → PartsStand setup (e ∷ past) (changed_to p callback (with_send p.book s.0 (known_as (e ∷ past) x))) → PartsStand setup (e ∷ past) (left p e.who.0 v (place_after past))
  as_left p fs callback own is_stack kind h stands =
      let told : answered_by p.book s.0 (v, Proc) ≡ with_send p.book s.0 (known_as (e ∷ past) x) = answered-is setup past e s x v Proc is standing p.book (h.book.known s.0) in
      let here : PartsStand setup (e ∷ past) (changed_to p callback (answered_by p.book s.0 (v, Proc))) = subst (λ b. PartsStand setup (e ∷ past) (changed_to p callback b)) (sym told) stands in
      let by_kind : PartsStand setup (e ∷ past) (left_from p (Some (Inside s)) e.who.0 v (rank (place_after past) 0)) =
      subst (λ c. PartsStand setup (e ∷ past) (changed_to p c (answered_by p.book s.0 (v, Proc)))) (sym (runs-callback p h ∙ kind)) here in
      subst (λ o. PartsStand setup (e ∷ past) (left_from p o e.who.0 v (rank (place_after past) 0))) (sym (ap (λ l. slice_get l 0) (h.book.stacks e.who.0 own ∙ is_stack))) by_kind

  -- the frame is taken away
  pub stand-left-own : (p : SendParts) (fs : List Frame) → IsLawful setup past → Standing setup (e ∷ past) → IsOurs setup e.who.0 → map.len p.book.known ≤ 1024 → IsUnlisted past s.0 → is_stacked past x ≡ true → is_callback_kind x.kind ≡ false
      → stack past e.who.0 ≡ Inside s ∷ fs → ((l : List Frame) → stacked e.call e.answer l ≡ drop 1 l) → PartsStand setup past p → PartsStand setup (e ∷ past) (left p e.who.0 v (place_after past))
  stand-left-own p fs lawful after own few unlisted framed kind is_stack frames h = as_left p fs false own is_stack kind h record {
    book = book-left setup past e s x v Proc is standing p.book (Inside s) fs after own framed refl (λ q differ. differ) is_stack frames h.book;
    lists = lists-answered setup past e s.0 x v Proc is standing p lawful few unlisted h;
  }

  -- the book where a callback procedure's frame stands in its place
  book-turned : (old : Book) (fs : List Frame) → Standing setup (e ∷ past) → IsOurs setup e.who.0 → is_stacked past x ≡ true → stack past e.who.0 ≡ Inside s ∷ fs → stacked e.call e.answer (Inside s ∷ fs) ≡ CallbackRun ∷ fs
      → BookStands setup past old → BookStands setup (e ∷ past) (pushed (popped (with_send old s.0 (known_as (e ∷ past) x)) e.who.0) e.who.0 CallbackRun)
  book-turned old fs after own framed is_stack turns h = record {
    begun = begun-popped b e.who.0 ∙ h.begun ∙ sym (ap length (sends-same e past is.none_made));
    threads = ap length stacks_are ∙ as_many;
    stacks = λ t ours. ap (λ (l : List (List Frame)). get_or l (t - 1) []) stacks_are ∙ changed t ours;
    known = known-popped (e ∷ past) b e.who.0 (Inside s) fs s.0 x is_top refl found (has_answer setup past e s x v Proc is standing old framed (stacked-counted setup past old s.0 x standing h.threads h.stacks is.found)) later_count rest;
  } where
    b : Book
    b = with_send old s.0 (known_as (e ∷ past) x)

    found : send (e ∷ past) s.0 ≡ Some x
    found = found_later setup past e s x v Proc is standing

    is_top : stack_of b e.who.0 ≡ Inside s ∷ fs
    is_top = h.stacks e.who.0 own ∙ is_stack

    within : e.who.0 - 1 < length old.stacks
    within = omega (arith, own.0, own.1, h.threads)

    stacks_are : (pushed (popped b e.who.0) e.who.0 CallbackRun).stacks ≡ set old.stacks (e.who.0 - 1) (CallbackRun ∷ fs)
    stacks_are =
        ap (λ (l : List (List Frame)). with_top l e.who.0 (Some CallbackRun)) (stacks-popped b e.who.0 (Inside s) fs is_top)
        ∙ ap (λ (l : List Frame). set (set old.stacks (e.who.0 - 1) fs) (e.who.0 - 1) (CallbackRun ∷ l)) (get_or-set_same old.stacks (e.who.0 - 1) fs [] within)
        ∙ set_twice old.stacks (e.who.0 - 1) fs (CallbackRun ∷ fs)

    as_many : length (set old.stacks (e.who.0 - 1) (CallbackRun ∷ fs)) ≡ setup.threads
    as_many = length-set old.stacks (e.who.0 - 1) (CallbackRun ∷ fs) ∙ h.threads

    changed : (t : ℕ) → IsOurs setup t → get_or (set old.stacks (e.who.0 - 1) (CallbackRun ∷ fs)) (t - 1) [] ≡ stack (e ∷ past) t
    changed = stacks-changed setup past e old (CallbackRun ∷ fs) h.threads own h.stacks is.right (sym (ap (stacked e.call e.answer) is_stack ∙ turns))

    later_count : is_stacked (e ∷ past) x ≡ nat_lt 0 (count_on (names s.0) (set old.stacks (e.who.0 - 1) fs))
    later_count = stacked-counted setup (e ∷ past) (with_stack b e.who.0 (CallbackRun ∷ fs)) s.0 x after as_many changed found ∙ ap (nat_lt 0) (uncounted s.0 fs old.stacks (e.who.0 - 1))

    rest : (q : ℕ) → q ≢ s.0 → map.get b.known q ≡ known_at (e ∷ past) q
    rest q differ =
        keeps_others setup past e s x v Proc is standing old framed (stacked-counted setup past old s.0 x standing h.threads h.stacks is.found) q differ ∙ h.known q
        ∙ sym (others setup past e s x v Proc is standing q differ (ap (list_any (λ f. names_send f q)) (ap (stacked e.call e.answer) is_stack ∙ turns)
        ∙ sym (ap (list_any (λ f. names_send f q)) is_stack ∙ ap (λ d. d || list_any (λ f. names_send f q) fs) (ne_eqb s.0 q (λ same. differ (sym same))))))

  -- the callback procedure runs in its place
  pub stand-left-turned : (p : SendParts) (fs : List Frame) → IsLawful setup past → Standing setup (e ∷ past) → IsOurs setup e.who.0 → map.len p.book.known ≤ 1024 → IsUnlisted past s.0 → is_stacked past x ≡ true → is_callback_kind x.kind ≡ true
      → stack past e.who.0 ≡ Inside s ∷ fs → stacked e.call e.answer (Inside s ∷ fs) ≡ CallbackRun ∷ fs → PartsStand setup past p → PartsStand setup (e ∷ past) (left p e.who.0 v (place_after past))
  stand-left-turned p fs lawful after own few unlisted framed kind is_stack turns h = as_left p fs true own is_stack kind h record {
    book = book-turned p.book fs after own framed is_stack turns h.book;
    lists = lists-answered setup past e s.0 x v Proc is standing p lawful few unlisted h;
  }

-- The parts stand on where the time of a wait is over: the send is answered, and no list has it any more.
use Rattle.std.proofs.Common.{◌≡◌, ℕ, zero, suc, ◌-◌, Bool, true, false, not, cond, eqb, List, [], ◌∷◌, ◌++◌, get_or, map as each, drop, Option, Some, refl, ap, ◌∙◌, sym, subst, inl, inr}
use Rattle.std.specs.Prelude.{◌&&◌, ◌||◌, filter, is_some}
use Rattle.std.specs.List.{AllByRecursion}
use Rattle.std.proofs.lemmas.Bool.{false≢true, ne_eqb}
use Rattle.std.proofs.lemmas.Bool.Decides.{eqb_tells}
use Rattle.std.proofs.lemmas.List.{append-nil}
use Rattle.win_num.specs.declared.send.SendId.{SendId}
use Rattle.win_num.specs.declared.send.Cause.TheVariants.{Timeout as ByTimeout}
use Rattle.win_num.specs.declared.send.Frame.{Frame}
use Rattle.win_num.specs.declared.send.Frame.TheVariants.{Await as AwaitFrame}
use Rattle.user_model.specs.declared.entry.Entry.{Entry}
use Rattle.user_model.specs.declared.entry.Setup.{Setup}
use Rattle.user_model.specs.Past.{Past, place_after}
use Rattle.user_model.specs.Places.{has_ended}
use Rattle.user_model.specs.Stacks.{stack, stacked}
use Rattle.user_model.specs.Sends.{SentMsg, Outcome, answers, calls_back, enters, is_callback_kind, is_owed, is_stacked, send, was_called_back}
use Rattle.user_model.specs.Ready.{ReadyMsg, to_enter, to_call_back, departs, ready}
use Rattle.user_model.proofs.ListLaws.{all_weaker}
use Rattle.user_model.proofs.SendLaws.{ready-next}
use Rattle.user_model.proofs.SendStanding.{ReadyStands, Standing}
use Rattle.send_frames.specs.Book.{popped}
use Rattle.send_variants.specs.Lists.{AreBelow, Entry as Item, all_without, list_of, named_by as send_of, names, without}
use Rattle.send_variants.proofs.Entries.{length-all, sound-withdraw}
use Rattle.send_state.specs.Parts.{SendParts, rank, timed_out}
use Rattle.send_state.specs.Standing.{BookStands, IsOurs, ListsStand, PartsStand, item, item_as}
use Rattle.send_state.proofs.StandStill.{below_next}
use Rattle.send_state.proofs.Serving.{about, eqb_itself}
use Rattle.send_state.proofs.Frames.{eqb_turned}
use Rattle.send_state.proofs.Answering.{IsAnswering, comes}
use Rattle.send_state.proofs.Owing.{none_comes}
use Rattle.send_state.proofs.Leaving.{answered-is, book-left}

-- a thread's list without a send
pub at_without : (s : ℕ) (lists : List (List Item)) (i : ℕ) → get_or (all_without s lists) i [] ≡ without s (get_or lists i [])
at_without s [] i = refl
at_without s (es ∷ lists) zero = refl
at_without s (es ∷ lists) (suc i) = at_without s lists i

pub below_without : (n s : ℕ) (es : List Item) → AreBelow n es → AreBelow n (without s es)
below_without n s [] b = tt
below_without n s (e ∷ es) b = elim (names s e) as (λ c. AreBelow n (cond c (without s es) (e ∷ without s es))) [ true ↦ below_without n s es b.1 | false ↦ (b.0, below_without n s es b.1) ]

-- what stays of the list is what stays ready
pub without-filter : (s : ℕ) (stay : ReadyMsg → Bool) (es : List Item) (rs : List ReadyMsg) → each item es ≡ each item_as rs → AllByRecursion (λ r. stay r ≡ not (eqb (about r) s)) rs → each item (without s es) ≡ each item_as (filter stay rs)
without-filter s stay [] [] e all = refl
without-filter s stay [] (r ∷ rs) e all = absurd cc
without-filter s stay (x ∷ es) [] e all = absurd cc
without-filter s stay (x ∷ es) (r ∷ rs) e all =
    let head : item x ≡ item_as r = cc in
    let rest : each item es ≡ each item_as rs = cc in
    let more = without-filter s stay es rs rest all.1 in
    let named : names s x ≡ eqb (about r) s = ap (λ a. eqb (send_of a.1) s) head in
    ap (λ b. each item (cond b (without s es) (x ∷ without s es))) named
    ∙ elim (eqb (about r) s) as (λ b. each item (cond b (without s es) (x ∷ without s es)) ≡ each item_as (cond (not b) (r ∷ filter stay rs) (filter stay rs))) [
      | true ↦ more
      | false ↦ ap (λ l. item x ∷ l) more ∙ ap (λ a. a ∷ each item_as (filter stay rs)) head
    ]
    ∙ sym (ap (λ b. each item_as (cond b (r ∷ filter stay rs) (filter stay rs))) all.0)

module _ (setup : Setup) (past : Past) (e : Entry) (s : SendId) (x : SentMsg) (is : IsAnswering past e s.0 x 0 ByTimeout) (standing : Standing setup past) (waits : is_callback_kind x.kind ≡ false) where
  unowed : is_owed past x ≡ false
  unowed = ap (λ b. b && (not x.is_inside && (not (has_ended past x.from) && not (was_called_back past x)))) waits

  stays : (t : ℕ) (r : ReadyMsg) → ReadyStands past t r → not (departs t e past r) ≡ not (eqb (about r) s.0)
  stays t (to_enter y) h =
      ap (λ b. not ((b && eqb e.who.0 t) || (enters e.answer y.number || is_some (answers e past y.number)))) is.running
      ∙ ap (λ b. not (b || is_some (answers e past y.number))) (is.enters_none y.number)
      ∙ elim (eqb_tells s.0 y.number) [
        | inl same ↦ ap (λ (o : Option Outcome). not (is_some o)) (ap (answers e past) (sym same.1) ∙ is.gives) ∙ sym (ap (λ n. not (eqb n s.0)) (sym same.1) ∙ ap not (eqb_itself s.0))
        | inr differ ↦ ap (λ (o : Option Outcome). not (is_some o)) (is.tells_other y.number differ.0) ∙ sym (ap not (ne_eqb y.number s.0 (λ k. differ.1 (sym k))))
      ]
  stays t (to_call_back y proc_no extra place) h =
      let differ : eqb y.number s.0 ≡ false = ne_eqb y.number s.0 (λ k.
      let both : Some y ≡ Some x = sym h.found ∙ ap (send past) k ∙ is.found in
      let one : y ≡ x = cc in
      false≢true (sym waits ∙ ap (λ z. is_callback_kind z.kind) (sym one) ∙ ap is_callback_kind h.is_kind)) in
      ap (λ b. not ((b && eqb e.who.0 t) || (calls_back e.answer y.number && eqb e.who.0 y.from))) is.running
      ∙ ap (λ b. not (b && eqb e.who.0 y.from)) (is.hands_other y.number (eqb_turned s.0 y.number ∙ differ))
      ∙ sym (ap not differ)

  ready-timed_out : (t : ℕ) → ready (e ∷ past) t ≡ filter (λ r. not (departs t e past r)) (ready past t)
  ready-timed_out t =
      ready-next e past t is.right
      ∙ ap (λ l. filter (λ r. not (departs t e past r)) (ready past t) ++ l) (comes setup past e s.0 x 0 ByTimeout is standing t ∙ none_comes setup past s.0 x standing is.found is.unanswered unowed t)
      ∙ append-nil (filter (λ r. not (departs t e past r)) (ready past t))

  lists-timed_out : (lists : List (List Item)) → ListsStand setup past lists → ListsStand setup (e ∷ past) (all_without s.0 lists)
  lists-timed_out lists h = record {
    threads = length-all s.0 lists ∙ h.threads;
    ready = λ t ours. ap (each item) (at_without s.0 lists (t - 1))
        ∙ without-filter s.0 (λ r. not (departs t e past r)) (list_of lists t) (ready past t) (h.ready t ours) (all_weaker (ReadyStands past t) (λ r. not (departs t e past r) ≡ not (eqb (about r) s.0)) (stays t) (ready past t) (standing.waiting t))
        ∙ sym (ap (each item_as) (ready-timed_out t));
    below = λ t. below_next e past (list_of (all_without s.0 lists) t)
        (subst (AreBelow (rank (place_after past) 0)) (sym (at_without s.0 lists (t - 1))) (below_without (rank (place_after past) 0) s.0 (list_of lists t) (h.below t)));
    sound = sound-withdraw lists s.0 h.sound;
  }

  -- the wait's frame is taken away, the send has its answer, and no list has it
  pub stand-timed_out : (p : SendParts) (fs : List Frame) → Standing setup (e ∷ past) → IsOurs setup e.who.0 → is_stacked past x ≡ true → stack past e.who.0 ≡ AwaitFrame s ∷ fs
      → ((l : List Frame) → stacked e.call e.answer l ≡ drop 1 l) → PartsStand setup past p → PartsStand setup (e ∷ past) (timed_out p e.who.0 s.0)
  stand-timed_out p fs after own framed is_stack frames h = record {
    book = subst (λ b. BookStands setup (e ∷ past) (popped b e.who.0)) (sym (answered-is setup past e s x 0 ByTimeout is standing p.book (h.book.known s.0)))
        (book-left setup past e s x 0 ByTimeout is standing p.book (AwaitFrame s) fs after own framed refl (λ q differ. differ) is_stack frames h.book);
    lists = lists-timed_out p.lists h.lists;
  }

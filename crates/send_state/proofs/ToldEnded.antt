-- A lawful end of a thread: the parts stand on.
use Rattle.std.proofs.Common.{◌≡◌, ◌≢◌, ℕ, zero, suc, ◌-◌, ◌<◌, ◌≤◌, Bool, true, false, not, cond, eqb, List, [], ◌∷◌, length, get_or, set, drop, map as each, Option, Some, None, refl, ap, ◌∙◌, sym, subst, inl, inr, arith}
use Rattle.std.specs.Prelude.{◌&&◌, ◌||◌, nat_lt, option_map}
use Rattle.std.specs.FinMap as map
use Rattle.std.proofs.lemmas.Bool.{ne_eqb}
use Rattle.std.proofs.lemmas.Bool.Decides.{eqb_tells}
use Rattle.std.proofs.lemmas.List.{get_or-set_same, get_or-set_other, length-set}
use Rattle.win_num.specs.declared.send.Frame.{Frame}
use Rattle.user_model.specs.declared.call.Call.TheVariants.{EndThread}
use Rattle.user_model.specs.declared.entry.Entry.{Entry}
use Rattle.user_model.specs.declared.entry.Setup.{Setup}
use Rattle.user_model.specs.declared.entry.Answer.TheVariants as answers
use Rattle.user_model.specs.Past.{Past, is_refused, place_after}
use Rattle.user_model.specs.Places.{has_ended, is_end}
use Rattle.user_model.specs.Windows.{drops_window}
use Rattle.user_model.specs.Stacks.{stacked}
use Rattle.user_model.specs.Sends.{SentMsg, answer, answers_in, calls_back, enters, is_answered, is_callback_kind, is_owed, is_stacked, is_unfinished, send, sends, was_called_back}
use Rattle.user_model.specs.Ready.{ready}
use Rattle.user_model.specs.Legal.{IsLawful}
use Rattle.user_model.proofs.PastLaws.{ever-same}
use Rattle.user_model.proofs.ReadyLaws.{ended_ready}
use Rattle.user_model.proofs.SendLaws.{is_sent, makes_none}
use Rattle.user_model.proofs.SendLawful.{lawful_standing}
use Rattle.user_model.proofs.SendReplies.{entry_told}
use Rattle.user_model.proofs.SendStanding.{Standing}
use Rattle.user_model.proofs.SendSteps.{find_zero}
use Rattle.user_model.proofs.ThreadLaws.{has_ended-end}
use Rattle.send_frames.specs.Book.{Book, KnownSend, count_on, forgotten, forgotten_as, is_wanted, names, with_send}
use Rattle.send_variants.specs.Lists.{AreBelow, Entry as Item, IsSound, list_of, with_list}
use Rattle.send_variants.proofs.Entries.{sound-take}
use Rattle.send_state.specs.Parts.{Ranked, SendParts, ended, freed_step, freed_to, is_from, lost, lost_to, rank}
use Rattle.send_state.specs.Standing.{BookStands, IsOurs, PartsStand, as_told, item, item_as, known_as, known_of, row_of}
use Rattle.send_state.proofs.Still.{and-false}
use Rattle.send_state.proofs.Serving.{eqb_itself}
use Rattle.send_state.proofs.Frames.{eqb_turned, stacked-counted}
use Rattle.send_state.proofs.Settling.{wanted-unfinished}
use Rattle.send_state.proofs.Losing.{set_twice}
use Rattle.send_state.proofs.Losses.{with_send-view}
use Rattle.send_state.proofs.LostSends.{IsLosing, LostTo, few-losses, is_mid, losses, lost-stands, mid_as, mid_of}
use Rattle.send_state.proofs.AfterLosses.{below-after, book-after, mid-later, ready-running, stacked-kept}
use Rattle.send_state.proofs.Told.{runs}

-- ---- a list is emptied

-- lists stay sound where one is emptied, since its first can be taken until none is left
pub sound-emptied : (lists : List (List Item)) (t : ℕ) (es : List Item) → list_of lists t ≡ es → IsSound lists → 1 ≤ t → t ≤ length lists → IsSound (with_list lists t [])
sound-emptied lists t [] is sound low high = subst (λ (l : List Item). IsSound (with_list lists t (drop 1 l))) is (sound-take lists t sound low high)
sound-emptied lists t (e ∷ es) is sound low high =
    subst IsSound (set_twice lists (t - 1) es [])
    (sound-emptied (with_list lists t es) t es (get_or-set_same lists (t - 1) es [] (omega (arith, low, high))) (subst (λ (l : List Item). IsSound (with_list lists t (drop 1 l))) is (sound-take lists t sound low high)) low (omega (arith, high, length-set lists (t - 1) es)))

-- ---- a debt is forgotten

unowed : (a b c : Bool) → (a || (b || c)) ≡ false → (a || (b || false)) ≡ false
unowed true b c k = k
unowed false true c k = k
unowed false false c k = refl

-- a send that is from another thread isn't touched, and neither is one that isn't known
from_if : (t : ℕ) (k : KnownSend) (b : Bool) → (b && eqb k.row.from.0 t) ≡ false → is_from t (cond b (Some k) None) ≡ false
from_if t k true h = h
from_if t k false h = refl

-- the book where what is known of one send changes
record IsNext (b c : Book) (s : ℕ) (o : Option KnownSend) : Type 0 where
  begun : c.begun ≡ b.begun
  stacks : c.stacks ≡ b.stacks
  known : (q : ℕ) → map.get c.known q ≡ cond (eqb q s) o (map.get b.known q)

module _ (setup : Setup) (past : Past) (e : Entry) (p : SendParts) (test : ℕ → Bool) (same : (v : ℕ) → test v ≡ drops_window e past v) (lawful : IsLawful setup (e ∷ past)) (h : PartsStand setup past p) (is : e.answer ≡ answers.Ended) where
  standing : Standing setup past
  standing = lawful_standing setup past lawful.0

  own : IsOurs setup e.who.0
  own = (runs setup past e.who.0 (entry_told setup past e.who.0 e.call answers.Ended (sym lawful.1 ∙ is) refl).0.running).0

  is_call : e.call ≡ EndThread
  is_call = (entry_told setup past e.who.0 e.call answers.Ended (sym lawful.1 ∙ is) refl).1

  pub losing-ended : IsLosing past e
  losing-ended = record {
    right = ap (λ a. is_refused (record e { answer = a })) is;
    none_made = makes_none e past (ap is_sent is);
    tells_none = λ q. ap (λ c. answers_in c e past q) is_call;
    keeps_frames = λ l. ap (λ a. stacked e.call a l) is;
    enters_none = λ q. ap (λ a. enters a q) is;
    hands_none = λ q. ap (λ a. calls_back a q) is;
  }

  -- ---- what is owed

  called-same : (x : SentMsg) → was_called_back (e ∷ past) x ≡ was_called_back past x
  called-same x = ever-same (λ (e : Entry) (before : Past). calls_back e.answer x.number && eqb e.who.0 x.from) e past (ap (λ b. b && eqb e.who.0 x.from) (losing-ended.hands_none x.number))

  -- nothing is owed to the thread any more
  owed-own : (x : SentMsg) → eqb x.from e.who.0 ≡ true → is_owed (e ∷ past) x ≡ false
  owed-own x from =
      ap (λ b. is_callback_kind x.kind && (not x.is_inside && (not b && not (was_called_back (e ∷ past) x)))) (has_ended-end e past x.from is ∙ ap (λ b. b || has_ended past x.from) (eqb_turned e.who.0 x.from ∙ from))
      ∙ ap (λ b. is_callback_kind x.kind && b) (and-false (not x.is_inside)) ∙ and-false (is_callback_kind x.kind)

  -- and what is owed to others stays
  owed-other : (x : SentMsg) → eqb x.from e.who.0 ≡ false → is_owed (e ∷ past) x ≡ is_owed past x
  owed-other x from =
      ap (λ b. is_callback_kind x.kind && (not x.is_inside && (not b && not (was_called_back (e ∷ past) x)))) (has_ended-end e past x.from is ∙ ap (λ b. b || has_ended past x.from) (eqb_turned e.who.0 x.from ∙ from))
      ∙ ap (λ b. is_callback_kind x.kind && (not x.is_inside && (not (has_ended past x.from) && not b))) (called-same x)

  -- ---- the book

  abbrev later : ℕ → Option KnownSend
  later s = known_of (e ∷ past) (send past s)

  module _ (r : Ranked) (at : LostTo setup past e p p.book.begun r) where
    -- the book where the debts of the sends up to n are forgotten
    record FreedTo (n : ℕ) (b : Book) : Type 0 where
      begun : b.begun ≡ p.book.begun
      stacks : b.stacks ≡ p.book.stacks
      low : (s : ℕ) → s ≤ n → map.get b.known s ≡ later s
      high : (s : ℕ) → n < s → map.get b.known s ≡ map.get r.0.book.known s

    none-freed : FreedTo 0 r.0.book
    none-freed = record {
      begun = at.begun;
      stacks = at.stacks;
      low = λ s low. let z : s ≡ 0 = omega (arith, low) in
          let none : send past 0 ≡ None = find_zero 0 (sends past) standing.counted in
          ap (map.get r.0.book.known) z ∙ at.known_low 0 (omega arith) ∙ ap (mid_of e past) none ∙ sym (ap later z ∙ ap (known_of (e ∷ past)) none);
      high = λ s above. refl;
    }

    module _ (n : ℕ) (b : Book) (c : FreedTo n b) (within : suc n ≤ p.book.begun) where
      mid-here : map.get b.known (suc n) ≡ mid_of e past (send past (suc n))
      mid-here = c.high (suc n) (omega arith) ∙ at.known_low (suc n) within

      -- the book stays where what is known is right
      stays : map.get b.known (suc n) ≡ later (suc n) → is_from e.who.0 (map.get b.known (suc n)) ≡ false → IsNext b (freed_step e.who.0 b (suc n)) (suc n) (later (suc n))
      stays right apart = subst (λ d. IsNext b d (suc n) (later (suc n))) (sym (ap (λ b'. cond b' (forgotten b (suc n)) b) apart)) (record {
        begun = refl;
        stacks = refl;
        known = λ q. elim (eqb_tells q (suc n)) [
          | inl here ↦ ap (map.get b.known) here.1 ∙ right ∙ sym (ap (λ a. cond a (later (suc n)) (map.get b.known q)) here.0)
          | inr differ ↦ sym (ap (λ a. cond a (later (suc n)) (map.get b.known q)) differ.0)
        ];
      })

      module _ (x : SentMsg) (found : send past (suc n) ≡ Some x) where
        mid-is : map.get b.known (suc n) ≡ mid_of e past (Some x)
        mid-is = mid-here ∙ ap (mid_of e past) found

        later-is : later (suc n) ≡ known_of (e ∷ past) (Some x)
        later-is = ap (known_of (e ∷ past)) found

        -- a send from another thread
        other : eqb x.from e.who.0 ≡ false → IsNext b (freed_step e.who.0 b (suc n)) (suc n) (later (suc n))
        other from = stays
            (mid-is ∙ mid-later setup past e standing losing-ended p h x (owed-other x from) ∙ sym later-is)
            (ap (is_from e.who.0) mid-is ∙ from_if e.who.0 (mid_as e past x) (is_mid e past x) (ap (λ a. is_mid e past x && a) from ∙ and-false (is_mid e past x)))

        -- one from the thread that isn't known
        unknown : eqb x.from e.who.0 ≡ true → is_mid e past x ≡ false → IsNext b (freed_step e.who.0 b (suc n)) (suc n) (later (suc n))
        unknown from mid = stays (gone ∙ sym (later-is ∙ ap (λ a. cond a (Some (known_as (e ∷ past) x)) None) finished)) (ap (is_from e.who.0) gone) where
          gone : map.get b.known (suc n) ≡ None
          gone = mid-is ∙ ap (λ a. cond a (Some (mid_as e past x)) None) mid

          finished : is_unfinished (e ∷ past) x ≡ false
          finished =
              ap (λ a. not (is_answered (e ∷ past) x.number) || (is_stacked (e ∷ past) x || a)) (owed-own x from)
              ∙ ap (λ a. not (is_answered (e ∷ past) x.number) || (a || false)) (stacked-kept setup past e standing losing-ended p h x)
              ∙ unowed (not (is_answered (e ∷ past) x.number)) (is_stacked past x) (is_owed past x) mid

        -- one from the thread that is known
        freed : eqb x.from e.who.0 ≡ true → is_mid e past x ≡ true → IsNext b (freed_step e.who.0 b (suc n)) (suc n) (later (suc n))
        freed from mid = subst (λ d. IsNext b d (suc n) (later (suc n))) (sym step-is) (record {
          begun = refl;
          stacks = refl;
          known = with_send-view b (suc n) (known_as (e ∷ past) x) (λ q. cond (eqb q (suc n)) (later (suc n)) (map.get b.known q))
              (ap (λ a. cond a (later (suc n)) (map.get b.known (suc n))) (eqb_itself (suc n)) ∙ later-is ∙ ap (λ a. cond a (Some (known_as (e ∷ past) x)) None) (sym wanted))
              (λ q differ. sym (ap (λ a. cond a (later (suc n)) (map.get b.known q)) (ne_eqb q (suc n) differ)));
        }) where
          there : map.get b.known (suc n) ≡ Some (mid_as e past x)
          there = mid-is ∙ ap (λ a. cond a (Some (mid_as e past x)) None) mid

          wanted : is_wanted b.stacks (suc n) (known_as (e ∷ past) x) ≡ is_unfinished (e ∷ past) x
          wanted = wanted-unfinished (e ∷ past) b.stacks (suc n) x
              (stacked-kept setup past e standing losing-ended p h x ∙ stacked-counted setup past p.book (suc n) x standing h.book.threads h.book.stacks found
              ∙ ap (λ (l : List (List Frame)). nat_lt 0 (count_on (names (suc n)) l)) (sym c.stacks))

          step-is : freed_step e.who.0 b (suc n) ≡ with_send b (suc n) (known_as (e ∷ past) x)
          step-is =
              ap (λ o. cond (is_from e.who.0 o) (forgotten b (suc n)) b) there
              ∙ ap (λ a. cond a (forgotten b (suc n)) b) from
              ∙ ap (forgotten_as b (suc n)) there
              ∙ ap (λ a. with_send b (suc n) (record { row = row_of x; answer = option_map as_told (answer (e ∷ past) x.number); owed = a })) (sym (owed-own x from))

        one : IsNext b (freed_step e.who.0 b (suc n)) (suc n) (later (suc n))
        one = by (eqb x.from e.who.0) refl (is_mid e past x) refl where
          by : (f : Bool) → eqb x.from e.who.0 ≡ f → (m : Bool) → is_mid e past x ≡ m → IsNext b (freed_step e.who.0 b (suc n)) (suc n) (later (suc n))
          by false from m mid = other from
          by true from false mid = unknown from mid
          by true from true mid = freed from mid

      next : IsNext b (freed_step e.who.0 b (suc n)) (suc n) (later (suc n))
      next = by (send past (suc n)) refl where
        by : (o : Option SentMsg) → send past (suc n) ≡ o → IsNext b (freed_step e.who.0 b (suc n)) (suc n) (later (suc n))
        by None found =
            let gone : map.get b.known (suc n) ≡ None = mid-here ∙ ap (mid_of e past) found in
            stays (gone ∙ sym (ap (known_of (e ∷ past)) found)) (ap (is_from e.who.0) gone)
        by (Some x) found = one x found

      freed-next : FreedTo (suc n) (freed_step e.who.0 b (suc n))
      freed-next = record {
        begun = next.begun ∙ c.begun;
        stacks = next.stacks ∙ c.stacks;
        low = λ q low. elim (eqb_tells q (suc n)) [
          | inl here ↦ next.known q ∙ ap (λ a. cond a (later (suc n)) (map.get b.known q)) here.0 ∙ sym (ap later here.1)
          | inr differ ↦ next.known q ∙ ap (λ a. cond a (later (suc n)) (map.get b.known q)) differ.0 ∙ c.low q (omega (arith, low, differ.1))
        ];
        high = λ q above. next.known q ∙ ap (λ a. cond a (later (suc n)) (map.get b.known q)) (ne_eqb q (suc n) (omega (arith, above))) ∙ c.high q (omega (arith, above));
      }

    freed-stands : (n : ℕ) → n ≤ p.book.begun → FreedTo n (freed_to e.who.0 r.0.book n)
    freed-stands zero within = none-freed
    freed-stands (suc n) within = freed-next n (freed_to e.who.0 r.0.book n) (freed-stands n (omega (arith, within))) within

    -- ---- the lists

    within-lists : e.who.0 - 1 < length r.0.lists
    within-lists = omega (arith, own.0, own.1, at.threads)

    abbrev emptied : List (List Item)
    emptied = set r.0.lists (e.who.0 - 1) []

    none-here : list_of emptied e.who.0 ≡ []
    none-here = get_or-set_same r.0.lists (e.who.0 - 1) [] [] within-lists

    rest-there : (t : ℕ) → t - 1 ≢ e.who.0 - 1 → list_of emptied t ≡ list_of r.0.lists t
    rest-there t apart = get_or-set_other r.0.lists (e.who.0 - 1) (t - 1) [] [] apart

    -- nothing is ready for the thread
    ready-own : ready (e ∷ past) e.who.0 ≡ []
    ready-own = ended_ready setup (e ∷ past) e.who.0 lawful (has_ended-end e past e.who.0 is ∙ ap (λ b. b || has_ended past e.who.0) (eqb_itself e.who.0))

    ready-ended : (t : ℕ) → IsOurs setup t → each item (list_of emptied t) ≡ each item_as (ready (e ∷ past) t)
    ready-ended t ours = elim (eqb_tells e.who.0 t) [
      | inl here ↦ subst (λ u. each item (list_of emptied u) ≡ each item_as (ready (e ∷ past) u)) here.1 (ap (each item) none-here ∙ sym (ap (each item_as) ready-own))
      | inr differ ↦
          ap (each item) (rest-there t (omega (arith, differ.1, own.0, ours.0))) ∙ at.ready t ours
          ∙ sym (ap (each item_as) (ready-running setup past e standing losing-ended p h t (ap (λ b. is_end e.answer && b) differ.0 ∙ and-false (is_end e.answer))))
    ]

    below-ended : ((t : ℕ) → AreBelow (rank (place_after (e ∷ past)) 0) (list_of r.0.lists t)) → (t : ℕ) → AreBelow (rank (place_after (e ∷ past)) 0) (list_of emptied t)
    below-ended below t = elim (eqb_tells (t - 1) (e.who.0 - 1)) [
      | inl here ↦ subst (AreBelow (rank (place_after (e ∷ past)) 0)) (sym (ap (λ i. get_or emptied i []) here.1 ∙ none-here)) tt
      | inr differ ↦ subst (AreBelow (rank (place_after (e ∷ past)) 0)) (sym (rest-there t differ.1)) (below t)
    ]

  -- the sends to the thread are lost, nothing is ready for it, and nothing is owed to it
  pub told-ended : PartsStand setup (e ∷ past) (ended (lost test p (place_after past)) e.who.0)
  told-ended =
      let last : Ranked = lost_to test (p, rank (place_after past) 0) p.book.begun in
      let at : LostTo setup past e p p.book.begun last = lost-stands setup past e lawful.0 standing losing-ended p h test same p.book.begun in
      let few = few-losses setup past e lawful.0 p.book.begun in
      stands last at few where
        stands : (r : Ranked) (at : LostTo setup past e p p.book.begun r) → losses e past p.book.begun ≤ 1024 → PartsStand setup (e ∷ past) (ended r.0 e.who.0)
        stands r at few = record {
          book = subst (λ n. BookStands setup (e ∷ past) (freed_to e.who.0 r.0.book n)) (sym at.begun)
              (let c = freed-stands r at p.book.begun (omega arith) in
              book-after setup past e standing losing-ended p h (freed_to e.who.0 r.0.book p.book.begun) c.begun c.stacks c.low (λ s above. c.high s above ∙ at.known_high s above));
          lists = record {
            threads = length-set r.0.lists (e.who.0 - 1) [] ∙ at.threads;
            ready = ready-ended r at;
            below = below-ended r at (below-after setup past e standing losing-ended p h r at few);
            sound = sound-emptied r.0.lists e.who.0 (list_of r.0.lists e.who.0) refl at.sound own.0 (omega (arith, own.1, at.threads));
          };
        }

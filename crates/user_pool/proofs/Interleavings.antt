-- Runs are the interleavings of the threads' programs.
use Rattle.std.proofs.Common.{◌≡◌, ℕ, zero, suc, ◌<◌, ◌≤◌, false, List, [], ◌∷◌, ◌++◌, length, reverse, refl, sym, ap, subst, inl, inr, arith}
use Rattle.std.proofs.Math.Dec.{leb}
use Rattle.std.proofs.lemmas.Bool.Decides.{nat_tests, eqb_tells}
use Rattle.std.proofs.lemmas.List.{reverse-reverse, length-reverse}
use Rattle.user_model.specs.declared.call.Call.{Call}
use Rattle.user_model.specs.declared.call.Call.TheVariants.{Advance}
use Rattle.user_model.specs.declared.entry.Entry.{Entry}
use Rattle.user_model.specs.Past.{Past, is_full}
use Rattle.user_model.specs.Legal.{IsLawful, IsLegal}
use Rattle.script_tree.specs.Tree.{Tree}
use Rattle.script_tree.specs.Pieces.{Cut}
use Rattle.script_tree.specs.Traces.{IsTrace, trace_of}
use Rattle.script_tree.proofs.TraceLaws.{front}
use Rattle.script_tree.proofs.PastLaws.{trace_of-own, trace_of-other}
use Rattle.log_text.specs.Ends.{setup_of, used}
use Rattle.user_pool.specs.Runs.{ComesNext, HasEntriesLeft, IsMove, IsRun}
use Rattle.user_pool.specs.Interleavings.{IsPart, IsFree, IsInterleaving}
use Rattle.user_pool.proofs.NeverFull.{clock_call}
use Rattle.user_pool.proofs.OneRun.{run_lawful}
use Rattle.user_pool.proofs.Programs.{traced, below_full}
use Rattle.user_pool.proofs.Turns.{used_own, used_other, used_within}

-- ---- a run is an interleaving

part_of : (s : Tree) (past : Past) (t : ℕ) → IsRun s past → 0 < t → IsPart s past t
part_of s past t run positive =
    let found = traced s past t run positive in
    record { ends = found.0; trace = found.1; within = used_within s past t run positive }

known_of : (s : Tree) (past : Past) (who : ℕ) → HasEntriesLeft s past who → who ≤ length s.threads
known_of s past zero left = omega arith
known_of s past (suc n) left = omega (arith, left.0)

move_free : (s : Tree) (past : Past) (e : Entry) → IsMove s past e → IsFree s past e
move_free s past e move = record {
  known = known_of s past e.who.0 move.remains;
  clock = λ zero_is. clock_call s past e.who.0 e.call zero_is move.call;
  free = move.free;
}

head_of : {x y : Entry} {xs ys : List Entry} → x ∷ xs ≡ y ∷ ys → x ≡ y
head_of e = cc

tail_of : {x y : Entry} {xs ys : List Entry} → x ∷ xs ≡ y ∷ ys → xs ≡ ys
tail_of e = cc

-- each entry of it is a move
move_at : (s : Tree) (past : Past) → IsRun s past → (newer : List Entry) (e : Entry) (before : Past) → past ≡ newer ++ e ∷ before → IsMove s before e
move_at s [] run [] e before is = absurd cc
move_at s [] run (x ∷ newer) e before is = absurd cc
move_at s (f ∷ past) run [] e before is = subst (λ (p : Past). IsMove s p e) (tail_of is) (subst (λ (x : Entry). IsMove s past x) (head_of is) run.0)
move_at s (f ∷ past) run (x ∷ newer) e before is = move_at s past run.1 newer e before (tail_of is)

run_fits : (s : Tree) (past : Past) → IsRun s past → length past ≤ 2097152
run_fits s [] run = omega arith
run_fits s (e ∷ past) run = omega (arith, below_full past run.0.room)

legal_of : (s : Tree) (past : Past) → IsRun s past → IsLegal (setup_of s) (reverse past)
legal_of s past run = (omega (arith, run_fits s past run, length-reverse past), subst (IsLawful (setup_of s)) (sym (reverse-reverse past)) (run_lawful s past run))

pub run_interleaves : (s : Tree) (past : Past) → IsRun s past → IsInterleaving s past
run_interleaves s past run = record {
  legal = legal_of s past run;
  parts = λ t positive within. part_of s past t run positive;
  free = λ newer e before is. move_free s before e (move_at s past run newer e before is);
}

-- ---- an interleaving is a run

-- a thread's own entry is the one that came next
own_next : (s : Tree) (past : Past) (e : Entry) (t : ℕ) → e.who.0 ≡ t → IsPart s (e ∷ past) t → IsTrace s t (trace_of past t) (Cut e.call)
own_next s past e t own part = front s (trace_of past t) e.call e.answer [] part.trace (trace_of-own past e t own)

part_before : (s : Tree) (past : Past) (e : Entry) (t : ℕ) → IsPart s (e ∷ past) t → IsPart s past t
part_before s past e t part =
    elim (eqb_tells e.who.0 t) [
      | inl x ↦ record { ends = Cut e.call; trace = own_next s past e t x.1 part; within = omega (arith, part.within, used_own e past t x.0) }
      | inr x ↦ record { ends = part.ends; trace = subst (λ tr. IsTrace s t tr part.ends) (trace_of-other past e t x.1) part.trace; within = omega (arith, part.within, used_other e past t x.0) }
    ]

remains_of : (s : Tree) (past : Past) (who : ℕ) → who ≤ length s.threads → (0 < who → used past who < s.budget) → HasEntriesLeft s past who
remains_of s past zero within fewer = tt
remains_of s past (suc n) within fewer = (omega (arith, within), fewer (omega arith))

next_of : (s : Tree) (past : Past) (who : ℕ) (call : Call) → (who ≡ 0 → call ≡ Advance) → (0 < who → IsTrace s who (trace_of past who) (Cut call)) → ComesNext s past who call
next_of s past zero call clock thread = clock refl
next_of s past (suc n) call clock thread = thread (omega arith)

fewer_before : (s : Tree) (past : Past) (e : Entry) → IsPart s (e ∷ past) e.who.0 → used past e.who.0 < s.budget
fewer_before s past e part =
    elim (eqb_tells e.who.0 e.who.0) [
      | inl x ↦ omega (arith, part.within, used_own e past e.who.0 x.0)
      | inr x ↦ absurd (x.1 refl)
    ]

has_room : (past : Past) (e : Entry) → length (e ∷ past) ≤ 2097152 → is_full past ≡ false
has_room past e fits = le_false 2097152 (length past) (omega (arith, fits))
  where
    le_false : (a b : ℕ) → b < a → leb a b ≡ false
    le_false a b lt = grind (arith, nat_tests, lt)

run_of : (s : Tree) (past : Past) → length past ≤ 2097152 → IsLawful (setup_of s) past → ((t : ℕ) → 0 < t → t ≤ length s.threads → IsPart s past t)
    → ((newer : List Entry) (e : Entry) (before : Past) → past ≡ newer ++ e ∷ before → IsFree s before e) → IsRun s past
run_of s [] fits lawful parts free = tt
run_of s (e ∷ past) fits lawful parts free =
    let here = free [] e past refl in (
      record {
        free = here.free;
        remains = remains_of s past e.who.0 here.known (λ positive. fewer_before s past e (parts e.who.0 positive here.known));
        call = next_of s past e.who.0 e.call here.clock (λ positive. own_next s past e e.who.0 refl (parts e.who.0 positive here.known));
        answer = lawful.1;
        room = has_room past e fits;
      },
      run_of s past (omega (arith, fits)) lawful.0 (λ t positive within. part_before s past e t (parts t positive within)) (λ newer f before is. free (e ∷ newer) f before (ap (λ (xs : List Entry). e ∷ xs) is)),
    )

pub interleaving_runs : (s : Tree) (past : Past) → IsInterleaving s past → IsRun s past
interleaving_runs s past whole =
    run_of s past (omega (arith, whole.legal.0, length-reverse past)) (subst (IsLawful (setup_of s)) (reverse-reverse past) whole.legal.1) whole.parts whole.free

-- ---- fronts

pub run_front : (s : Tree) (newer past : List Entry) → IsRun s (newer ++ past) → IsRun s past
run_front s [] past run = run
run_front s (e ∷ newer) past run = run_front s newer past run.1

-- A thread that can move has a call to make.
use Rattle.std.proofs.Common.{◌≡◌, ℕ, zero, suc, ◌<◌, Bool, true, false, cond, eqb, [], ◌∷◌, ◌++◌, refl, ap, ◌∙◌, sym, subst, inl, inr, length, arith}
use Rattle.std.specs.Prelude.{◌&&◌}
use Rattle.std.proofs.lemmas.Bool.{false≢true}
use Rattle.std.proofs.lemmas.Bool.Decides.{nat_tests, eqb_tells}
use Rattle.user_model.specs.declared.call.Call.{Call}
use Rattle.user_model.specs.declared.call.Call.TheVariants.{EndThread}
use Rattle.user_model.specs.declared.entry.Answer.{Answer}
use Rattle.user_model.specs.declared.entry.Answer.TheVariants as answers
use Rattle.user_model.specs.Past.{Past, is_full}
use Rattle.user_model.specs.Places.{has_ended, is_end}
use Rattle.user_model.specs.Replies.{row}
use Rattle.user_model.specs.Idle.{reply}
use Rattle.script_tree.specs.Tree.{Tree}
use Rattle.script_tree.specs.Pieces.{Trace, End, Whole, Cut, Going}
use Rattle.script_tree.specs.Values.{start}
use Rattle.script_tree.specs.Traces.{IsTrace, EndsAfter, trace_of, program}
use Rattle.script_tree.proofs.TraceLaws.{goes_on, some_end}
use Rattle.script_tree.proofs.EndLaws.{whole_ends}
use Rattle.script_tree.proofs.PastLaws.{trace_of-own, trace_of-other}
use Rattle.script_tree.proofs.ListedAnswers.{next_by_row}
use Rattle.log_text.specs.Ends.{setup_of}
use Rattle.user_pool.specs.Runs.{ComesNext, IsRun}
use Rattle.user_pool.specs.Moves.{CanMove}
use Rattle.user_pool.proofs.Ended.{has_ended-next}
use Rattle.user_pool.proofs.OneRun.{run_lawful}
use Rattle.user_pool.proofs.Turns.{move_can}

-- what comes next of a thread is what its trace is cut before
pub next_of : (s : Tree) (past : Past) (t : ℕ) (call : Call) → 0 < t → ComesNext s past t call → IsTrace s t (trace_of past t) (Cut call)
next_of s past zero call positive next = absurd (omega arith)
next_of s past (suc n) call positive next = next

pub comes_next : (s : Tree) (past : Past) (t : ℕ) (call : Call) → 0 < t → IsTrace s t (trace_of past t) (Cut call) → ComesNext s past t call
comes_next s past zero call positive next = absurd (omega arith)
comes_next s past (suc n) call positive next = next

-- the entries of each thread are a trace of it
pub traced : (s : Tree) (past : Past) (t : ℕ) → IsRun s past → 0 < t → (e : End) × IsTrace s t (trace_of past t) e
traced s [] t run positive = some_end s (program s t) (Going start) 0
traced s (e ∷ past) t run positive =
    elim (eqb_tells e.who.0 t) [
      | inl x ↦
          let next : IsTrace s t (trace_of past t) (Cut e.call) = subst (λ u. IsTrace s u (trace_of past u) (Cut e.call)) x.1 (next_of s past e.who.0 e.call (omega (arith, x.1)) run.0.call) in
          let on = goes_on s e.call e.answer next refl in
          (on.0, subst (λ tr. IsTrace s t tr on.0) (sym (trace_of-own past e t x.1)) on.1)
      | inr x ↦
          let below = traced s past t run.1 positive in
          (below.0, subst (λ tr. IsTrace s t tr below.0) (sym (trace_of-other past e t x.1)) below.1)
    ]

-- fewer entries than the history holds
pub below_full : (past : Past) → is_full past ≡ false → length past < 2097152
below_full past room = grind (arith, nat_tests, room)

-- the call that comes next of a thread that can move is answered by its row
pub by_row : (s : Tree) (past : Past) (t : ℕ) (call : Call) → IsRun s past → 0 < t → CanMove s past t → is_full past ≡ false → ComesNext s past t call → reply (setup_of s) past t call ≡ row (setup_of s) past t call
by_row s past t call run positive can room next = next_by_row s (setup_of s) t past call can.known (run_lawful s past run) (below_full past room) (next_of s past t call positive next)

last_same : (xs ys : Trace) (x y : Call × Answer) → xs ++ x ∷ [] ≡ ys ++ y ∷ [] → x ≡ y
last_same [] [] x y e = cc
last_same [] (b ∷ ys) x y e = absurd (none ys cc)
  where
    none : (zs : Trace) → [] ≡ zs ++ y ∷ [] → ⊥
    none [] f = absurd cc
    none (z ∷ zs) f = absurd cc
last_same (a ∷ xs) [] x y e = absurd (none xs cc)
  where
    none : (zs : Trace) → zs ++ x ∷ [] ≡ [] → ⊥
    none [] f = absurd cc
    none (z ∷ zs) f = absurd cc
last_same (a ∷ xs) (b ∷ ys) x y e = let rest : xs ++ x ∷ [] ≡ ys ++ y ∷ [] = cc in last_same xs ys x y rest

never_empty : (before : Trace) (x : Call × Answer) → [] ≡ before ++ x ∷ [] → ⊥
never_empty [] x e = absurd cc
never_empty (y ∷ before) x e = absurd cc

ends_now : (own ended : Bool) (a : Answer) → own ≡ true → is_end a ≡ true → cond (is_end a && own) true ended ≡ true
ends_now own ended a o e = ap (λ b. cond (b && own) true ended) e ∙ ap (λ b. cond b true ended) o

stays : (b ended : Bool) → ended ≡ true → cond b true ended ≡ true
stays true ended e = refl
stays false ended e = e

-- a thread whose entries end with `end_thread` has ended
ended_so : (s : Tree) (past : Past) (t : ℕ) (before : Trace) → IsRun s past → 0 < t → EndsAfter before (trace_of past t) → has_ended past t ≡ true
ended_so s [] t before run positive last = absurd (never_empty before (EndThread, last.0) last.1)
ended_so s (e ∷ past) t before run positive last =
    elim (eqb_tells e.who.0 t) [
      | inl x ↦
          let ends : (e.call, e.answer) ≡ (EndThread, last.0) = last_same (trace_of past t) before (e.call, e.answer) (EndThread, last.0) (sym (trace_of-own past e t x.1) ∙ last.1) in
          let call : e.call ≡ EndThread = ap (λ p. p.0) ends in
          let here : 0 < e.who.0 = omega (arith, x.1) in
          let can = move_can s past e run.0 here in
          let answer : e.answer ≡ answers.Ended = run.0.answer ∙ by_row s past e.who.0 e.call run.1 here can run.0.room run.0.call ∙ ap (row (setup_of s) past e.who.0) call in
          has_ended-next e past t ∙ ends_now (eqb e.who.0 t) (has_ended past t) e.answer x.0 (ap is_end answer)
      | inr x ↦
          let below : EndsAfter before (trace_of past t) = (last.0, sym (trace_of-other past e t x.1) ∙ last.1, last.2) in
          has_ended-next e past t ∙ stays (is_end e.answer && eqb e.who.0 t) (has_ended past t) (ended_so s past t before run.1 positive below)
    ]

-- so one that hasn't ended isn't through its program
pub not_whole : (s : Tree) (past : Past) (t : ℕ) → IsRun s past → 0 < t → has_ended past t ≡ false → IsTrace s t (trace_of past t) Whole → ⊥
not_whole s past t run positive lives whole =
    let ends = whole_ends s t (trace_of past t) whole in
    false≢true (sym lives ∙ ended_so s past t ends.0 run positive ends.1)

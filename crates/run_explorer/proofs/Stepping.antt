-- The steps of a run, as they are kept and gone along.
use Rattle.std.proofs.Common.{◌≡◌, ℕ, ◌+◌, ◌<◌, ◌≤◌, List, [], ◌∷◌, ◌++◌, length, get_or, refl, sym, ap, ◌∙◌, subst, inl, inr, arith}
use Rattle.std.proofs.lemmas.List.{get_or_append_left, length-append}
use Rattle.std.proofs.Math.Seq.{get_or-append_seam}
use Rattle.user_model.specs.declared.entry.Entry.{Entry}
use Rattle.user_model.specs.Past.{Past}
use Rattle.script_tree.specs.Tree.{Tree}
use Rattle.user_pool.specs.Runs.{IsMove, IsRun}
use Rattle.user_pool.specs.Moves.{HasGoneOn}
use Rattle.user_pool.proofs.OneRun.{move_same}
use Rattle.user_pool.proofs.Interleavings.{run_front}
use Rattle.run_explorer.specs.declared.step.Step.{Step}
use Rattle.run_explorer.specs.Orders.{switches}
use Rattle.run_explorer.specs.Steps.{IsStepOf, AreStepsOf, IsMadeBy, IsAt, CanGoOn, MayTake, next_above, counts}
use Rattle.run_explorer.specs.Searches.{GoesOnFrom, GoesOnBy}
use Rattle.run_explorer.proofs.Orders.{goes_further}
use Rattle.run_explorer.proofs.Moves.{move_goes, switches_more, take_few}

-- one step more
pub step_more : (s : Tree) (bound : ℕ) (steps : List Step) (past : Past) (e : Entry) (step : Step) → IsMadeBy s bound steps past → IsMove s past e → switches s (e ∷ past) ≤ bound → IsStepOf s bound past e step → IsMadeBy s bound (steps ++ step ∷ []) (e ∷ past)
step_more s bound steps past e step made move few is = record {
  run = (move, made.run);
  few = few;
  each = record { before = steps; last = step; is = refl; rest = made.each; step = is };
}

-- as many steps as entries
pub steps_length : (s : Tree) (bound : ℕ) (past : Past) (steps : List Step) → AreStepsOf s bound past steps → length steps ≡ length past
steps_length s bound [] steps are = ap length are
steps_length s bound (e ∷ past) steps are =
    let before : length are.before ≡ length past = steps_length s bound past are.before are.rest in
    ap length are.is ∙ length-append are.before (are.last ∷ []) ∙ omega (arith, before)

-- the step of an entry stands at the place of the entry
pub step_at : (s : Tree) (bound : ℕ) (newer old : Past) (e : Entry) (steps : List Step) (d : Step) → AreStepsOf s bound (newer ++ e ∷ old) steps → (get_or steps (length old) d).mover ≡ e.who.0
step_at s bound [] old e steps d are =
    let size : length are.before ≡ length old = steps_length s bound old are.before are.rest in
    ap (λ (x : Step). x.mover) (ap (λ (xs : List Step). get_or xs (length old) d) are.is ∙ ap (λ (n : ℕ). get_or (are.before ++ are.last ∷ []) n d) (sym size) ∙ get_or-append_seam are.before are.last [] d) ∙ are.step.mover
step_at s bound (x ∷ newer) old e steps d are =
    let size : length are.before ≡ length (newer ++ e ∷ old) = steps_length s bound (newer ++ e ∷ old) are.before are.rest in
    let lt : length old < length are.before = omega (arith, size, length-append newer (e ∷ old)) in
    ap (λ (x : Step). x.mover) (ap (λ (xs : List Step). get_or xs (length old) d) are.is ∙ get_or_append_left are.before (are.last ∷ []) d (length old) lt) ∙ step_at s bound newer old e are.before d are.rest

-- ---- going along

-- the run goes on from here by the mover of the step at this place
pub goes_along : (s : Tree) (bound : ℕ) (steps : List Step) (past now : Past) (d : Step) → IsMadeBy s bound steps past → GoesOnFrom past now → length now < length steps → (by : GoesOnBy past now 0) × ((get_or steps (length now) d).mover ≡ by.next.who.0) × IsMove s now by.next
goes_along s bound steps past now d made on lt = elim (goes_further past now on) [
  | inl same ↦ absurd (omega (arith, lt, steps_length s bound past steps made.each, ap length same))
  | inr by ↦ (by, step_at s bound by.newer now by.next steps d (subst (λ (p : Past). AreStepsOf s bound p steps) by.is made.each), (run_front s by.newer (by.next ∷ now) (subst (IsRun s) by.is made.run)).0)
]

-- its mover can move
pub can_along : (s : Tree) (bound : ℕ) (steps : List Step) (past now : Past) (d : Step) → IsMadeBy s bound steps past → GoesOnFrom past now → length now < length steps → CanGoOn s now (get_or steps (length now) d).mover
can_along s bound steps past now d made on lt =
    let by = goes_along s bound steps past now d made on lt in
    subst (λ (t : ℕ). CanGoOn s now t) (sym by.1) (move_goes s now by.0.next by.2)

-- and once it has moved, the run goes on from there
pub moved_along : (s : Tree) (bound : ℕ) (steps : List Step) (past now after : Past) (d : Step) (mover : ℕ) → IsMadeBy s bound steps past → GoesOnFrom past now → length now < length steps → (get_or steps (length now) d).mover ≡ mover → HasGoneOn s now after mover → GoesOnFrom past after
moved_along s bound steps past now after d mover made on lt is went =
    let by = goes_along s bound steps past now d made on lt in
    let who : by.0.next.who.0 ≡ went.entry.who.0 = sym by.1 ∙ is ∙ sym went.who in
    let same : by.0.next ≡ went.entry = move_same s now by.0.next went.entry who by.2 went.move in
    record { newer = by.0.newer; is = by.0.is ∙ ap (λ (x : Entry). by.0.newer ++ x ∷ now) same ∙ ap (λ (p : Past). by.0.newer ++ p) (sym went.newest) }

-- at the end it is the run
pub all_along : (s : Tree) (bound : ℕ) (steps : List Step) (past now : Past) → IsMadeBy s bound steps past → GoesOnFrom past now → length steps ≤ length now → now ≡ past
all_along s bound steps past now made on le = elim (goes_further past now on) [
  | inl same ↦ sym same
  | inr by ↦ absurd (omega (arith, le, steps_length s bound past steps made.each, ap length by.is, length-append by.newer (by.next ∷ now)))
]

-- ---- the same, at a place that is counted

pub can_at : (s : Tree) (bound : ℕ) (steps : List Step) (past now : Past) (k : ℕ) (d : Step) → IsMadeBy s bound steps past → GoesOnFrom past now → length now ≡ k → k < length steps → CanGoOn s now (get_or steps k d).mover
can_at s bound steps past now k d made on count lt =
    subst (λ (n : ℕ). CanGoOn s now (get_or steps n d).mover) count (can_along s bound steps past now d made on (omega (arith, count, lt)))

pub moved_at : (s : Tree) (bound : ℕ) (steps : List Step) (past now after : Past) (k : ℕ) (d : Step) → IsMadeBy s bound steps past → GoesOnFrom past now → length now ≡ k → k < length steps → HasGoneOn s now after (get_or steps k d).mover → GoesOnFrom past after
moved_at s bound steps past now after k d made on count lt went =
    moved_along s bound steps past now after d (get_or steps k d).mover made on (omega (arith, count, lt)) (ap (λ (n : ℕ). (get_or steps n d).mover) count) went

pub one_longer : (s : Tree) (now after : Past) (mover k : ℕ) → length now ≡ k → HasGoneOn s now after mover → length after ≡ k + 1
one_longer s now after mover k count went = ap length went.newest ∙ omega (arith, count)

pub front_runs : (s : Tree) (past now : Past) → IsRun s past → GoesOnFrom past now → IsRun s now
front_runs s past now run on = run_front s on.newer now (subst (IsRun s) on.is run)

-- ---- going back

head_same : {X : Type 0} {x y : X} {xs ys : List X} → x ∷ xs ≡ y ∷ ys → x ≡ y
head_same e = cc

tail_same : {X : Type 0} {x y : X} {xs ys : List X} → x ∷ xs ≡ y ∷ ys → xs ≡ ys
tail_same e = cc

no_snoc : (xs : List Step) (x : Step) → xs ++ x ∷ [] ≡ [] → ⊥
no_snoc [] x e = absurd cc
no_snoc (y ∷ xs) x e = absurd cc

no_tail : (xs : List Step) (x : Step) → [] ≡ xs ++ x ∷ [] → ⊥
no_tail xs x e = no_snoc xs x (sym e)

-- what was pushed last is one
pub pushed_same : (xs ys : List Step) (x y : Step) → xs ++ x ∷ [] ≡ ys ++ y ∷ [] → (xs ≡ ys) × (x ≡ y)
pushed_same [] [] x y e = (refl, head_same e)
pushed_same [] (b ∷ ys) x y e = absurd (no_tail ys y (tail_same e))
pushed_same (a ∷ xs) [] x y e = absurd (no_snoc xs x (tail_same e))
pushed_same (a ∷ xs) (b ∷ ys) x y e =
    let rest = pushed_same xs ys x y (tail_same e) in
    (ap (λ (z : Step). z ∷ xs) (head_same e) ∙ ap (λ (zs : List Step). b ∷ zs) rest.0, rest.1)

-- the last step is that of the last entry
pub record IsBack (s : Tree) (bound : ℕ) (steps : List Step) (step : Step) (past : Past) : Type 0 where
  pub entry : Entry
  pub before : Past
  pub is : past ≡ entry ∷ before
  pub made : IsMadeBy s bound steps before
  pub of : IsStepOf s bound before entry step

pub step_back : (s : Tree) (bound : ℕ) (past : Past) (steps : List Step) (step : Step) → IsMadeBy s bound (steps ++ step ∷ []) past → IsBack s bound steps step past
step_back s bound [] steps step made = absurd (no_snoc steps step made.each)
step_back s bound (e ∷ past) steps step made =
    let same = pushed_same steps made.each.before step made.each.last made.each.is in
    record {
      entry = e;
      before = past;
      is = refl;
      made = record {
        run = made.run.1;
        few = omega (arith, made.few, switches_more s (e ∷ []) past);
        each = subst (λ (xs : List Step). AreStepsOf s bound past xs) (sym same.0) made.each.rest;
      };
      of = subst (λ (x : Step). IsStepOf s bound past e x) (sym same.1) made.each.step;
    }

-- without steps there are no entries
pub no_steps : (s : Tree) (bound : ℕ) (past : Past) → IsMadeBy s bound [] past → past ≡ []
no_steps s bound [] made = refl
no_steps s bound (e ∷ past) made = absurd (no_tail made.each.before made.each.last made.each.is)

-- ---- a step is made

-- a move that may be made, and its step
pub step_made : (s : Tree) (bound : ℕ) (steps now : List Step) (past after : Past) (step : Step) (mover : ℕ) → IsMadeBy s bound steps past → MayTake s bound past mover → HasGoneOn s past after mover
    → now ≡ steps ++ step ∷ [] → step.mover ≡ mover → step.counted ≡ counts s bound past mover → step.next ≡ next_above s bound past mover → IsAt s past step.position → IsMadeBy s bound now after
step_made s bound steps now past after step mover made may went is by counted next at =
    let here : MayTake s bound past went.entry.who.0 = subst (MayTake s bound past) (sym went.who) may in
    let of : IsStepOf s bound past went.entry step = record { mover = by ∙ sym went.who; counted = counted ∙ ap (counts s bound past) (sym went.who); next = next ∙ ap (next_above s bound past) (sym went.who); position = at } in
    let told = step_more s bound steps past went.entry step made went.move (take_few s bound past went.entry here made.few) of in
    subst (λ (p : Past). IsMadeBy s bound now p) (sym went.newest) (subst (λ (xs : List Step). IsMadeBy s bound xs (went.entry ∷ past)) (sym is) told)

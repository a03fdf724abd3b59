-- Going back along the steps of a run that has ended.
use Rattle.std.proofs.Common.{◌≡◌, ℕ, ◌<◌, ◌≤◌, List, [], ◌∷◌, ◌++◌, length, Some, None, refl, sym, ap, ◌∙◌, subst, inl, inr, ◌⊎◌, append_assoc, append-nil, arith}
use Rattle.std.proofs.lemmas.List.{map-append}
use Rattle.std.specs.Prelude.{Contains}
use Rattle.user_model.specs.Past.{Past}
use Rattle.script_tree.specs.Tree.{Tree}
use Rattle.run_explorer.specs.declared.step.Step.{Step}
use Rattle.run_explorer.specs.declared.path.Path.{Path}
use Rattle.run_explorer.specs.declared.part.Part.{Part}
use Rattle.run_explorer.specs.Orders.{IsBefore}
use Rattle.run_explorer.specs.Parts.{IsPartOf}
use Rattle.run_explorer.specs.Steps.{IsMadeBy, IsAt}
use Rattle.run_explorer.specs.Searches.{GoesOnFrom, IsClosed, TurnsAt, IsWay, HasTurned, actors}
use Rattle.user_pool.proofs.Turns.{thread_within}
use Rattle.run_explorer.proofs.Moves.{next_may, may_can}
use Rattle.run_explorer.proofs.Orders.{none_after}
use Rattle.run_explorer.proofs.Stepping.{step_back, no_steps}
use Rattle.run_explorer.proofs.Searching.{left_back, turn_here}

-- some steps of the last run: each run within the bound was made, or comes after where they lead
pub record StandsBack (s : Tree) (bound : ℕ) (part : Part) (runs : List Past) (last : Past) (steps : List Step) : Type 0 where
  pub past : Past
  pub made : IsMadeBy s bound steps past
  pub on : GoesOnFrom last past
  pub left : (run : Past) → IsPartOf s bound part run → Contains runs run ⊎ IsBefore past run

-- wherever the search stood at the end of a run that was made by these steps, it stands back along those
abbrev pub GoesBack : List Step → List Step → Type 0
GoesBack steps rest = (s : Tree) (bound : ℕ) (part : Part) (runs : List Past) (last : Past) → IsMadeBy s bound steps last → IsClosed s bound part runs last → StandsBack s bound part runs last rest

pub back_start : (steps : List Step) → GoesBack steps steps
back_start steps s bound part runs last made closed = record { past = last; made = made; on = record { newer = []; is = refl }; left = closed.left }

back_one : (s : Tree) (bound : ℕ) (part : Part) (runs : List Past) (last : Past) (rest : List Step) (step : Step) → step.next ≡ None → StandsBack s bound part runs last (rest ++ step ∷ []) → StandsBack s bound part runs last rest
back_one s bound part runs last rest step none stands =
    let back = step_back s bound stands.past rest step stands.made in
    record {
      past = back.before;
      made = back.made;
      on = record {
        newer = stands.on.newer ++ back.entry ∷ [];
        is = stands.on.is ∙ ap (λ (p : Past). stands.on.newer ++ p) back.is ∙ sym (append_assoc stands.on.newer (back.entry ∷ []) back.before);
      };
      left = left_back s bound part runs back.before back.entry (sym back.of.next ∙ none) (subst (λ (p : Past). (run : Past) → IsPartOf s bound part run → Contains runs run ⊎ IsBefore p run) back.is stands.left);
    }

pub back_step : (steps now rest : List Step) (step : Step) → now ≡ rest ++ step ∷ [] → step.next ≡ None → GoesBack steps now → GoesBack steps rest
back_step steps now rest step is none before s bound part runs last made closed =
    back_one s bound part runs last rest step none (subst (λ (xs : List Step). StandsBack s bound part runs last xs) is (before s bound part runs last made closed))

way_one : (s : Tree) (bound : ℕ) (part : Part) (runs : List Past) (last : Past) (rest : List Step) (step : Step) (t : ℕ) (path : Path) → step.next ≡ Some t → path.steps.items ≡ rest → path.position ≡ step.position → path.turn ≡ Some t
    → IsClosed s bound part runs last → StandsBack s bound part runs last (rest ++ step ∷ []) → IsWay s bound part runs path
way_one s bound part runs last rest step t path next steps position turn closed stands =
    let back = step_back s bound stands.past rest step stands.made in
    let on : GoesOnFrom last (back.entry ∷ back.before) = subst (λ (p : Past). GoesOnFrom last p) back.is stands.on in
    let turns : TurnsAt s bound part runs back.before t = turn_here s bound part runs last back.before back.entry t on (sym back.of.next ∙ next) (subst (λ (p : Past). (run : Past) → IsPartOf s bound part run → Contains runs run ⊎ IsBefore p run) back.is stands.left) closed.later in
    record {
      past = back.before;
      made = subst (λ (xs : List Step). IsMadeBy s bound xs back.before) (sym steps) back.made;
      at = subst (λ p. IsAt s back.before p) (sym position) back.of.position;
      next = rw turn turns;
    }

pub back_turn : (steps now rest : List Step) (step : Step) (t : ℕ) (path : Path) → now ≡ rest ++ step ∷ [] → step.next ≡ Some t → path.steps.items ≡ rest → path.position ≡ step.position → path.turn ≡ Some t → GoesBack steps now
    → (s : Tree) (bound : ℕ) (part : Part) (runs : List Past) (last : Past) → IsMadeBy s bound steps last → IsClosed s bound part runs last → IsWay s bound part runs path
back_turn steps now rest step t path is next left position turn before s bound part runs last made closed =
    way_one s bound part runs last rest step t path next left position turn closed (subst (λ (xs : List Step). StandsBack s bound part runs last xs) is (before s bound part runs last made closed))

pub back_none : (steps now : List Step) → now ≡ [] → GoesBack steps now → (s : Tree) (bound : ℕ) (part : Part) (runs : List Past) (last : Past) → IsMadeBy s bound steps last → IsClosed s bound part runs last → (run : Past) → IsPartOf s bound part run → Contains runs run
back_none steps now none before s bound part runs last made closed run within =
    let stands = subst (λ (xs : List Step). StandsBack s bound part runs last xs) none (before s bound part runs last made closed) in
    let empty : stands.past ≡ [] = no_steps s bound stands.past stands.made in
    elim (stands.left run within) [
      | inl there ↦ there
      | inr after ↦ absurd (none_after run (subst (λ (p : Past). IsBefore p run) empty after))
    ]

-- ---- how far it goes back

-- the steps go on from these, which made a run, also one that isn't over, wherever those did
pub record IsFrontOf (steps front : List Step) : Type 0 where
  pub rest : List Step
  pub is : steps ≡ front ++ rest
  pub made : (s : Tree) (bound : ℕ) (last : Past) → IsMadeBy s bound steps last → (past : Past) × IsMadeBy s bound front past

pub front_start : (steps : List Step) → IsFrontOf steps steps
front_start steps = record { rest = []; is = sym (append-nil steps); made = λ s bound last made. (last, made) }

pub front_step : (steps now rest : List Step) (step : Step) → now ≡ rest ++ step ∷ [] → IsFrontOf steps now → IsFrontOf steps rest
front_step steps now rest step is front = record {
  rest = step ∷ front.rest;
  is = front.is ∙ ap (λ (xs : List Step). xs ++ front.rest) is ∙ append_assoc rest (step ∷ []) front.rest;
  made = λ s bound last made.
      let before = front.made s bound last made in
      let back = step_back s bound before.0 rest step (subst (λ (xs : List Step). IsMadeBy s bound xs before.0) is before.1) in
      (back.before, back.made);
}

-- the thread that is next at a step is higher than its mover, and one of the script's
next_higher : (s : Tree) (bound : ℕ) (past : Past) (rest : List Step) (step : Step) (t : ℕ) → length s.threads ≤ 15 → IsMadeBy s bound (rest ++ step ∷ []) past → step.next ≡ Some t → (step.mover < t) × (t ≤ 15)
next_higher s bound past rest step t few made next =
    let back = step_back s bound past rest step made in
    let found = next_may s bound back.before back.entry.who.0 t (sym back.of.next ∙ next) in
    let known : t ≤ length s.threads = thread_within s t (may_can s bound back.before t found.1).known in
    (omega (arith, found.0, back.of.mover), omega (arith, known, few))

pub front_turn : (steps now rest : List Step) (step : Step) (t : ℕ) (path other : Path) → now ≡ rest ++ step ∷ [] → step.next ≡ Some t → path.steps.items ≡ rest → path.turn ≡ Some t → other.steps.items ≡ steps → IsFrontOf steps now
    → (s : Tree) (bound : ℕ) (last : Past) → length s.threads ≤ 15 → IsMadeBy s bound steps last → HasTurned path other
front_turn steps now rest step t path other is next left turn same front s bound last few made =
    let before = front.made s bound last made in
    let above = next_higher s bound before.0 rest step t few (subst (λ (xs : List Step). IsMadeBy s bound xs before.0) is before.1) next in
    record {
      thread = t;
      mover = step.mover;
      rest = actors front.rest;
      turn = turn;
      is = ap actors (same ∙ front.is ∙ ap (λ (xs : List Step). xs ++ front.rest) is ∙ append_assoc rest (step ∷ []) front.rest)
          ∙ map-append (λ (x : Step). x.mover) rest (step ∷ front.rest) ∙ ap (λ (xs : List Step). actors xs ++ step.mover ∷ actors front.rest) (sym left);
      higher = above.0;
      known = above.1;
    }

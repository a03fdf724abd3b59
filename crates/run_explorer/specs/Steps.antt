-- Who may move within a bound, which entries decide the part of a run, and the steps that a run was made by.
use Rattle.std.specs.Prelude.{◌≡◌, ◌<◌, ◌≤◌, ℕ, ◌+◌, ◌==◌, nat_lt, nat_le, Bool, true, false, not, ◌&&◌, ◌||◌, if◌then◌else◌, List, [], ◌∷◌, ◌++◌, length, Option, Some, None, is_some}
use Rattle.user_model.specs.declared.entry.Entry.{Entry}
use Rattle.user_model.specs.Past.{Past, or_else}
use Rattle.user_model.specs.Threads.{lowest}
use Rattle.user_model.specs.Idle.{is_barred}
use Rattle.script_tree.specs.Tree.{Tree}
use Rattle.log_text.specs.Ends.{setup_of}
use Rattle.user_pool.specs.Runs.{is_runnable, last_thread, clock_move, IsRun}
use Rattle.user_pool.specs.Moves.{CanMove}
use Rattle.run_explorer.specs.declared.step.Step.{Step}
use Rattle.run_explorer.specs.declared.step.Position.{Position}
use Rattle.run_explorer.specs.Orders.{switches}

-- whether the thread that moved last could still move, and no switch is left
abbrev pub is_held : Tree → ℕ → Past → Bool
is_held s bound past = nat_le bound (switches s past) && is_runnable s past (last_thread past)

-- whether the thread can move, and its move is within the bound
abbrev pub may_move : Tree → ℕ → Past → ℕ → Bool
may_move s bound past t = is_runnable s past t && (not (is_held s bound past) || t == last_thread past)

-- the least thread above a number that may move
abbrev pub next_above : Tree → ℕ → Past → ℕ → Option ℕ
next_above s bound past low = lowest (λ t. nat_lt low t && may_move s bound past t) (length s.threads)

-- the least thread that may move; where none may, the clock, unless it is barred
abbrev pub least : Tree → ℕ → Past → Option ℕ
least s bound past = or_else (next_above s bound past 0) (clock_move s past)

-- ---- what decides the part of a run

-- whether two threads or more may move, the least of which is this one
abbrev pub has_another : Tree → ℕ → Past → Option ℕ → Bool
has_another s bound past None = false
has_another s bound past (Some t) = is_some (next_above s bound past t)

-- whether two threads or more may move
abbrev pub is_choice : Tree → ℕ → Past → Bool
is_choice s bound past = has_another s bound past (next_above s bound past 0)

-- whether the actor is a thread other than the one that moved last, where two or more may move
abbrev pub takes_over : Tree → ℕ → Past → ℕ → Bool
takes_over s bound past actor = not (actor == 0) && (not (actor == last_thread past) && is_choice s bound past)

-- how many such entries decide the part of a run: as many as it may have switches, but 2 to 4
abbrev pub deciding : ℕ → ℕ
deciding bound = if nat_lt bound 2 then 2 else if nat_lt bound 4 then bound else 4

-- how many of these there were
abbrev pub turns : Tree → ℕ → Past → ℕ
turns s bound [] = 0
turns s bound (e ∷ past) = if nat_lt (turns s bound past) (deciding bound) && takes_over s bound past e.who.0 then turns s bound past + 1 else turns s bound past

-- whether an entry of the actor is one of these
abbrev pub counts : Tree → ℕ → Past → ℕ → Bool
counts s bound past actor = nat_lt (turns s bound past) (deciding bound) && takes_over s bound past actor

-- ---- moves and steps

-- the clock, which isn't barred, or a thread that can move
pub record CanGoOn (s : Tree) (past : Past) (actor : ℕ) : Type 0 where
  pub clock : actor ≡ 0 → is_barred (setup_of s) past 0 ≡ false
  pub thread : 0 < actor → CanMove s past actor

-- the clock, which isn't barred, or a thread that may move
pub record MayTake (s : Tree) (bound : ℕ) (past : Past) (actor : ℕ) : Type 0 where
  pub clock : actor ≡ 0 → is_barred (setup_of s) past 0 ≡ false
  pub thread : 0 < actor → may_move s bound past actor ≡ true

-- the thread that moved last, and how many switches there were
pub record IsAt (s : Tree) (past : Past) (position : Position) : Type 0 where
  pub last : position.last ≡ last_thread past
  pub switches : position.switches ≡ switches s past

-- the step of this entry: its mover, whether it is one of those that decide the part, where it stood, and the next thread above it that might have moved in its place
pub record IsStepOf (s : Tree) (bound : ℕ) (past : Past) (e : Entry) (step : Step) : Type 0 where
  pub mover : step.mover ≡ e.who.0
  pub counted : step.counted ≡ counts s bound past e.who.0
  pub next : step.next ≡ next_above s bound past e.who.0
  pub position : IsAt s past step.position

-- the last step of some passes, and so do those before it
pub record EndWith (steps : List Step) (Before : List Step → Type 0) (Last : Step → Type 0) : Type 0 where
  pub before : List Step
  pub last : Step
  pub is : steps ≡ before ++ last ∷ []
  pub rest : Before before
  pub step : Last last

-- one step for each entry, the first one first
abbrev pub AreStepsOf : Tree → ℕ → Past → List Step → Type 0
AreStepsOf s bound [] steps = steps ≡ []
AreStepsOf s bound (e ∷ past) steps = EndWith steps (AreStepsOf s bound past) (IsStepOf s bound past e)

-- a run within the bound, also one that isn't over, and its steps
pub record IsMadeBy (s : Tree) (bound : ℕ) (steps : List Step) (past : Past) : Type 0 where
  pub run : IsRun s past
  pub few : switches s past ≤ bound
  pub each : AreStepsOf s bound past steps

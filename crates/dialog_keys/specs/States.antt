-- Where in its trace the state of a key is.
use Rattle.std.specs.Prelude.{◌≡◌, if◌then◌else◌, ℕ, ◌==◌, Bool, List, Option, Some, None}
use Rattle.script_tree.specs.Tree.{Tree}
use Rattle.script_tree.specs.Pieces.{Piece, State}
use Rattle.win_calls.specs.declared.compound.Next.{Next}
use Rattle.win_calls.specs.declared.compound.Got.{Got}
use Rattle.win_calls.specs.declared.compound.Got.TheVariants.{Start, Answered}
use Rattle.win_calls.specs.declared.call_state.CallState.{CallState}
use Rattle.win_calls.specs.declared.state.CompoundState.{CompoundState}
use Rattle.win_calls.specs.States.{StandsFor, Accepts as AcceptsIn}
use Rattle.dialog_keys.specs.declared.key.DialogKey.{DialogKey}
use Rattle.dialog_keys.specs.declared.walk.Walk.{Walk}
use Rattle.dialog_keys.specs.declared.stage.Stage.{Stage}
use Rattle.dialog_keys.specs.declared.stage.Stage.TheVariants.{Fresh, Walking, Looking, Focusing, Sending, Over}
use Rattle.dialog_keys.specs.Controls.{foremost, first_with, is_behind, those_behind, others}
use Rattle.dialog_keys.specs.Traces.{Point, beginning, walking, looking, stating, over, Comes}

-- what may be handed in at that stage
abbrev pub Accepts : Stage → Got → Type 0
Accepts (Fresh k) Start = Unit {0}
Accepts (Walking walk) (Answered a) = Unit {0}
Accepts (Looking walk) (Answered a) = Unit {0}
Accepts (Focusing w focus) g = AcceptsIn focus.stage g
Accepts (Sending send) g = AcceptsIn send.stage g
Accepts stage got = ⊥

-- the first open child behind the focus f, where the child w is open
abbrev pub nearer : Bool → ℕ → ℕ → Option ℕ → Option ℕ
nearer forwards f w near = if is_behind forwards f w then Some (first_with forwards w near) else near

-- the first open child of all but the focus f, where the child w is open
abbrev pub farther : Bool → ℕ → ℕ → Option ℕ → Option ℕ
farther forwards f w far = if w == f then far else Some (first_with forwards w far)

-- What is kept of a walk for a key, where these children were open and it has come to that child.
pub record Sums (walk : Walk) (k : DialogKey) (forwards : Bool) (ws : List ℕ) (v : ℕ) : Type 0 where
  pub dialog : walk.dialog ≡ k.dialog.0
  pub focus : walk.focus ≡ k.focus.0
  pub direction : walk.forwards ≡ forwards
  pub child : walk.child ≡ v
  pub near : walk.near ≡ foremost forwards (those_behind forwards k.focus.0 ws)
  pub far : walk.far ≡ foremost forwards (others k.focus.0 ws)

-- Where in its trace a state of that stage is.
pub data StandsAt : Stage → Point → Type 0 where
  is_fresh : (k : DialogKey) → StandsAt (Fresh k) (beginning k)
  is_walking : (walk : Walk) (k : DialogKey) (forwards : Bool) (ws : List ℕ) (v : ℕ) → Sums walk k forwards ws v → StandsAt (Walking walk) (walking k forwards ws v)
  is_looking : (walk : Walk) (k : DialogKey) (forwards : Bool) (ws : List ℕ) (w : ℕ) → Sums walk k forwards ws w → StandsAt (Looking walk) (looking k forwards ws w)
  is_focusing : (w : ℕ) (focus : CompoundState) {ps : List Piece} {st : State} → StandsFor focus.stage ps st → StandsAt (Focusing w focus) (stating (Some w) ps st)
  is_sending : (send : CallState) {ps : List Piece} {st : State} → StandsFor send.stage ps st → StandsAt (Sending send) (stating None ps st)
  is_over : StandsAt Over over

-- From there the trace comes to what is asked for, and the stage is where it then is.
pub record Leads (s : Tree) (n : ℕ) (p : Point) (stage : Stage) (next : Next) : Type 0 where
  pub at : Point
  pub comes : Comes s n p next at
  pub stands : StandsAt stage at

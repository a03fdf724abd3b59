-- What the change of an entry needs of the parts.
use Rattle.std.specs.Prelude.{◌≡◌, ℕ, Bool, false, List, Option, Some, None}
use Rattle.win_num.specs.declared.message.Msg.{Msg}
use Rattle.win_num.specs.declared.shapes.Point.{Point}
use Rattle.win_class.specs.ClassTable.{ClassTable, unregister_refusal}
use Rattle.win_rows.specs.Windows.{Windows}
use Rattle.win_tree.specs.Kin.{doom_refusal, drop_refusal}
use Rattle.user_model.specs.declared.call.Call.{Call}
use Rattle.user_model.specs.declared.call.Call.TheVariants.{Unregister, Doom, Drop, PostQuit}
use Rattle.user_model.specs.declared.entry.Answer.{Answer}
use Rattle.user_model.specs.declared.entry.Answer.TheVariants.{Okay, Ended, Value, Window, Posted as PostMade, Tell, Last, Got}
use Rattle.thread_queues.specs.Deliveries.{posting, FitsPost}
use Rattle.window_state.specs.Needs.{FitsLooking, FitsMaking, FitsNaming, FitsUnmaking}
use Rattle.thread_state.specs.Threads.{ThreadView}
use Rattle.thread_queues.specs.Queues.{HasRoom, IsOne}

abbrev pub FitsPosting : List ThreadView → ℕ → Option (ℕ × Msg) → Type 0
FitsPosting threads k None = Unit {0}
FitsPosting threads k (Some p) = HasRoom threads p.0 k

-- what an answer that takes memory needs
abbrev pub FitsAdding : ClassTable → Windows → List ThreadView → ℕ → Point → Bool → ℕ → Answer → Call → Type 0
FitsAdding classes tree threads time point shift who (PostMade k) call = FitsPost tree.live shift call × FitsPosting threads k (posting tree.live time point shift who call)
FitsAdding classes tree threads time point shift who (Value v) call = FitsNaming classes call
FitsAdding classes tree threads time point shift who (Window w) call = FitsMaking who call tree
FitsAdding classes tree threads time point shift who _ call = Unit {0}

-- what a call needs that is answered by ok
abbrev pub FitsCarrying : ClassTable → Windows → List ThreadView → ℕ → Call → Type 0
FitsCarrying classes tree threads who (PostQuit code) = IsOne threads who
FitsCarrying classes tree threads who (Unregister name) = unregister_refusal classes name false ≡ None
FitsCarrying classes tree threads who (Doom w) = doom_refusal tree.live w ≡ None
FitsCarrying classes tree threads who (Drop w) = IsOne threads who × (drop_refusal tree.live w ≡ None)
FitsCarrying classes tree threads who _ = Unit {0}

-- what an answer that takes no memory needs
abbrev pub FitsEffect : ClassTable → Windows → List ThreadView → ℕ → Answer → Call → Type 0
FitsEffect classes tree threads who Okay call = FitsCarrying classes tree threads who call
FitsEffect classes tree threads who (Value v) call = FitsLooking tree call
FitsEffect classes tree threads who (Tell v) call = FitsUnmaking tree call
FitsEffect classes tree threads who (Last v) call = FitsUnmaking tree call
FitsEffect classes tree threads who (Got o n m) call = IsOne threads who
FitsEffect classes tree threads who Ended call = IsOne threads who
FitsEffect classes tree threads who _ call = Unit {0}

-- what the answer to a get or a peek needs
abbrev pub FitsReading : List ThreadView → ℕ → Answer → Type 0
FitsReading threads who (Got o n m) = IsOne threads who
FitsReading threads who _ = Unit {0}

-- What a machine's state is seen as, and what its parts stand for.
use Rattle.std.specs.Prelude.{◌≡◌, ℕ, ◌+◌, ◌<◌, ◌≤◌, List, length, slice_index_or}
use Rattle.user_model.specs.declared.entry.Setup.{Setup}
use Rattle.user_model.specs.Past.{Past}
use Rattle.user_model.specs.Places.{clock, cursor}
use Rattle.user_model.specs.Posts.{posts}
use Rattle.user_model.specs.Inputs.{inputs}
use Rattle.user_model.specs.Legal.{IsLawful}
use Rattle.user_model.specs.Setups.{IsSetup}
use Rattle.win_num.specs.declared.shapes.Point.{Point}
use Rattle.input_queue.specs.declared.element.Element.{Element as KeptElement}
use Rattle.pending_state.specs.Pending.{untaken_at}
use Rattle.core_state.specs.declared.progress.Progress.{Progress}
use Rattle.win_rows.specs.Windows.{Windows}
use Rattle.win_class.specs.ClassTable.{ClassTable}
use Rattle.send_state.specs.Parts.{SendParts}
use Rattle.send_state.specs.Standing.{MarksStand, PartsStand}
use Rattle.send_state.specs.Stories.{StoriesStand}
use Rattle.send_state.specs.Tallies.{tally_at}
use Rattle.user_model.specs.declared.story.SendStory.{SendStory}
use Rattle.send_state.specs.declared.tally.Tally.{Tally}
use Rattle.timer_source.specs.declared.setting.Setting.{Setting}
use Rattle.timer_state.specs.TimerLists.{timers_at}
use Rattle.window_state.specs.ClassTables.{classes_at}
use Rattle.thread_state.specs.Threads.{ThreadView, thread_at}
use Rattle.win_order.specs.Layers.{Layers}
use Rattle.window_state.specs.Orders.{IsOrderAt}
use Rattle.window_state.specs.Trees.{IsTreeAt}
use Rattle.display_state.specs.Displays.{Shown, IsDisplayAt}
use Rattle.group_state.specs.GroupTables.{Kept, IsGroupsAt}
use Rattle.look_state.specs.Looks.{AreLooksAt, LookView}
use Rattle.user_model.specs.declared.dialog.Dialog.{Dialog}
use Rattle.dialog_state.specs.Dialogs.{AreDialogsAt}

-- its setup, its past, and for how many entries more a place is taken
pub record Seen : Type 0 where
  pub setup : Setup
  pub past : Past
  pub spare : ℕ

-- the parts beside the history
pub record Parts : Type 0 where
  pub tree : Windows
  pub order : Layers
  pub display : Shown
  pub classes : ClassTable
  pub threads : List ThreadView
  pub timers : List Setting
  pub groups : Kept
  pub inputs : List KeptElement
  pub post_count : ℕ
  pub input_count : ℕ
  pub time : ℕ
  pub cursor : Point
  pub sends : SendParts
  pub tally : Tally
  pub stories : List SendStory
  pub looks : List LookView
  pub dialogs : List (ℕ × Dialog)

-- the parts from their values
abbrev pub parts : Windows → Layers → Shown → ClassTable → List ThreadView → List Setting → Kept → List KeptElement → Progress → SendParts → Tally → List SendStory → List LookView → List (ℕ × Dialog) → Parts
parts tree order display classes threads timers groups inputs progress sends tally stories looks dialogs = record { tree = tree; order = order; display = display; classes = classes; threads = threads; timers = timers; groups = groups; inputs = inputs; post_count = progress.posts; input_count = progress.inputs; time = progress.time; cursor = progress.cursor; sends = sends; tally = tally; stories = stories; looks = looks; dialogs = dialogs }

-- each thread's part is what the past says of the thread
pub record EachThread (past : Past) (threads : List ThreadView) : Type 0 where
  pub at : (i : ℕ) (d : ThreadView) → i < length threads → slice_index_or threads i d ≡ thread_at past (i + 1)

-- the setup is one of a machine, the past is lawful and no longer than allowed, and each part is what the past says
pub record Stands (setup : Setup) (past : Past) (p : Parts) : Type 0 where
  pub ready : IsSetup setup
  pub lawful : IsLawful setup past
  pub short : length past ≤ 2097152
  pub tree : IsTreeAt past p.tree
  pub order : IsOrderAt past p.order
  pub display : IsDisplayAt setup past p.display
  pub classes : p.classes ≡ classes_at past
  pub count : length p.threads ≡ setup.threads
  pub each : EachThread past p.threads
  pub timers : p.timers ≡ timers_at past
  pub groups : IsGroupsAt setup past p.groups
  pub untaken : p.inputs ≡ untaken_at setup past
  pub posts : p.post_count ≡ length (posts past)
  pub injected : p.input_count ≡ length (inputs past)
  pub clock : p.time ≡ clock past
  pub cursor : p.cursor ≡ cursor past
  pub sends : PartsStand setup past p.sends
  pub marks : MarksStand setup past p.sends.marks
  pub tally : p.tally ≡ tally_at past
  pub stories : StoriesStand past p.stories
  pub looks : AreLooksAt setup past p.looks
  pub dialogs : AreDialogsAt past p.dialogs

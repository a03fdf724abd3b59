-- An entry of a call that takes one place, and one that is refused: each changes a quit, a wait or the clock, or nothing.
use Rattle.std.proofs.Common.{◌≡◌, ◌∙◌, inl, inr, ℕ, ◌+◌, Bool, true, false, cond, eqb, List, ◌∷◌, Option, None, Some, refl, sym, ap, subst}
use Rattle.std.specs.Prelude.{◌⊎◌, ◌&&◌, ℤ, nat_le, nat_lt, slice_index_or}
use Rattle.std.proofs.lemmas.Bool.{false≢true}
use Rattle.win_num.specs.declared.code.Code.{Code}
use Rattle.win_num.specs.declared.code.Code.TheVariants.{NotNow, Full}
use Rattle.win_num.specs.declared.message.Hwnd.{Hwnd}
use Rattle.win_num.specs.declared.send.Frame.{Frame}
use Rattle.win_num.specs.declared.send.Frame.TheVariants as frames
use Rattle.win_num.specs.declared.shapes.Point.{Point}
use Rattle.win_class.specs.ClassTable.{ClassTable}
use Rattle.win_rows.specs.declared.window.Window.{Window as KeptWindow}
use Rattle.win_rows.specs.Windows.{Windows}
use Rattle.user_model.specs.declared.call.Call.{Call}
use Rattle.user_model.specs.declared.call.Call.TheVariants as calls
use Rattle.user_model.specs.declared.entry.Answer.{Answer}
use Rattle.user_model.specs.declared.entry.Answer.TheVariants as answers
use Rattle.user_model.specs.declared.entry.Entry.{Entry}
use Rattle.user_model.specs.declared.entry.Setup.{Setup}
use Rattle.user_model.specs.Past.{Past, is_refusal}
use Rattle.user_model.specs.Idle.{clock_row, reply}
use Rattle.user_model.specs.Places.{clock}
use Rattle.user_model.specs.Refusals.{refuse, invalid_parameter, invalid_window_handle}
use Rattle.user_model.specs.Replies.{is_barred_by, row, thread_reply}
use Rattle.user_model.specs.ReplyClock.{woken as woken_at}
use Rattle.user_model.specs.ReplySends.{in_send_at}
use Rattle.user_model.specs.ReplyWindows.{window_told}
use Rattle.user_model.specs.Stacks.{top}
use Rattle.user_model.specs.Status.{is_look, last_look}
use Rattle.user_model.specs.Windows.{Window, window, up}
use Rattle.user_model.specs.ZOrder.{titled}
use Rattle.user_model.proofs.LookLaws.{last_look-other, last_look-refused}
use Rattle.group_state.proofs.GroupSteps.{other_quiet}
use Rattle.look_state.specs.Looks.{AreLooksAt, IsLookAt, LookView}
use Rattle.screen_state.specs.Screens.{draws}
use Rattle.send_state.specs.Parts.{SendParts}
use Rattle.send_state.specs.Standing.{MarksStand}
use Rattle.send_state.specs.Tallies.{named_send}
use Rattle.send_state.proofs.Marks.{marks-other, marks-refused}
use Rattle.thread_queues.specs.Changes.{changed, count_kept, marked, none}
use Rattle.thread_queues.specs.Deliveries.{adding_in, effect_in}
use Rattle.thread_queues.specs.Queues.{EachBy}
use Rattle.thread_state.specs.Threads.{ThreadView}
use Rattle.core_state.specs.Needs.{FitsEffect}
use Rattle.core_state.specs.OnePlace.{FitsQuitting, is_quiet, quitting, takes_one_place}
use Rattle.core_state.proofs.StillEntries.{IsStill}

-- what an answer to such a call, or a refusal, leaves as it is, and what it changes
pub record IsPlain (a : Answer) (call : Call) : Type 0 where
  pub still : IsStill a call
  pub effect : (ws : List KeptWindow) (who : ℕ) → quitting who a call ≡ effect_in ws who a call
  pub added : (ws : List KeptWindow) (time : ℕ) (point : Point) (shift : Bool) (who : ℕ) → none ≡ adding_in ws time point shift who a call
  pub count : (n : ℕ) → n ≡ count_kept a n
  pub fits : (classes : ClassTable) (tree : Windows) (threads : List ThreadView) (who : ℕ) → FitsEffect classes tree threads who a call → FitsQuitting threads who a call
  pub unlooked : (is_refusal a ≡ true) ⊎ (is_look call ≡ false)

-- ---- one that is refused

undrawn : (code : Code) (call : Call) → draws call (answers.Refused code) ≡ false
undrawn code (calls.Invalidate w l t r b erase) = refl
undrawn code (calls.Validate w l t r b) = refl
undrawn code (calls.EndPaint w) = refl
undrawn code (calls.BeginPaint w) = refl
undrawn code (calls.Fill w l t r b colour) = refl
undrawn code (calls.Erase w) = refl
undrawn code calls.Snap = refl
undrawn code _ = refl

unnamed : (code : Code) (call : Call) (q : SendParts) (who : ℕ) → named_send q who (answers.Refused code) call ≡ None
unnamed code (calls.Leave v) q who = refl
unnamed code (calls.Reply v) q who = refl
unnamed code (calls.Await s) q who = refl
unnamed code _ q who = refl

refused : (code : Code) (call : Call) → IsPlain (answers.Refused code) call
refused code call = record { still = record { classes = λ t. refl; classes_later = λ t. refl; tree = λ who t. refl; tree_later = λ who t. refl; order = λ t z. refl; order_later = λ t z. refl; owners = refl; undrawn = undrawn code call; timers = λ who time l. refl; timers_later = λ ws who time l. refl; counted = λ n. refl; cursor = λ p. refl; sends = λ ws time place who q. refl; sends_later = λ ws place who q. refl; losses = λ ws place who q. refl; enters_none = refl; unnamed = λ q who. unnamed code call q who; stories = λ l. refl; stories_lost = λ ws place who q s x. refl; stories_told = λ place s x. refl; turned = refl; fate = inl refl }; effect = λ ws who. refl; added = λ ws time point shift who. refl; count = λ n. refl; fits = λ classes tree threads who f. tt; unlooked = inl refl }

-- ---- one of such a call

kept_if : (b : Bool) (q : SendParts) → q ≡ cond b q q
kept_if true q = refl
kept_if false q = refl

yields : IsPlain answers.Okay calls.Yield
yields = record { still = record { classes = λ t. refl; classes_later = λ t. refl; tree = λ who t. refl; tree_later = λ who t. refl; order = λ t z. refl; order_later = λ t z. refl; owners = refl; undrawn = refl; timers = λ who time l. refl; timers_later = λ ws who time l. refl; counted = λ n. refl; cursor = λ p. refl; sends = λ ws time place who q. refl; sends_later = λ ws place who q. refl; losses = λ ws place who q. refl; enters_none = refl; unnamed = λ q who. refl; stories = λ l. refl; stories_lost = λ ws place who q s x. refl; stories_told = λ place s x. refl; turned = refl; fate = inr (record { fine = refl; no_input = refl; inputs = λ meant l. refl; inputs_later = λ who l. refl; uninjected = λ i is. absurd cc; groups = other_quiet calls.Yield (λ w is. absurd cc) (λ w is. absurd cc) (λ w is. absurd cc) (λ is. absurd cc) (λ t u is. absurd cc) (λ t u is. absurd cc); stays = λ is. absurd cc }) }; effect = λ ws who. refl; added = λ ws time point shift who. refl; count = λ n. refl; fits = λ classes tree threads who f. tt; unlooked = inr refl }

woken : (time : ℕ) → IsPlain answers.Okay (calls.SleepUntil time)
woken time = record { still = record { classes = λ t. refl; classes_later = λ t. refl; tree = λ who t. refl; tree_later = λ who t. refl; order = λ t z. refl; order_later = λ t z. refl; owners = refl; undrawn = refl; timers = λ who time l. refl; timers_later = λ ws who time l. refl; counted = λ n. refl; cursor = λ p. refl; sends = λ ws time place who q. refl; sends_later = λ ws place who q. refl; losses = λ ws place who q. refl; enters_none = refl; unnamed = λ q who. refl; stories = λ l. refl; stories_lost = λ ws place who q s x. refl; stories_told = λ place s x. refl; turned = refl; fate = inr (record { fine = refl; no_input = refl; inputs = λ meant l. refl; inputs_later = λ who l. refl; uninjected = λ i is. absurd cc; groups = other_quiet (calls.SleepUntil time) (λ w is. absurd cc) (λ w is. absurd cc) (λ w is. absurd cc) (λ is. absurd cc) (λ t u is. absurd cc) (λ t u is. absurd cc); stays = λ is. absurd cc }) }; effect = λ ws who. refl; added = λ ws time point shift who. refl; count = λ n. refl; fits = λ classes tree threads who f. tt; unlooked = inr refl }

quit_posted : (code : ℕ) → IsPlain answers.Okay (calls.PostQuit code)
quit_posted code = record { still = record { classes = λ t. refl; classes_later = λ t. refl; tree = λ who t. refl; tree_later = λ who t. refl; order = λ t z. refl; order_later = λ t z. refl; owners = refl; undrawn = refl; timers = λ who time l. refl; timers_later = λ ws who time l. refl; counted = λ n. refl; cursor = λ p. refl; sends = λ ws time place who q. refl; sends_later = λ ws place who q. refl; losses = λ ws place who q. refl; enters_none = refl; unnamed = λ q who. refl; stories = λ l. refl; stories_lost = λ ws place who q s x. refl; stories_told = λ place s x. refl; turned = refl; fate = inr (record { fine = refl; no_input = refl; inputs = λ meant l. refl; inputs_later = λ who l. refl; uninjected = λ i is. absurd cc; groups = other_quiet (calls.PostQuit code) (λ w is. absurd cc) (λ w is. absurd cc) (λ w is. absurd cc) (λ is. absurd cc) (λ t u is. absurd cc) (λ t u is. absurd cc); stays = λ is. absurd cc }) }; effect = λ ws who. refl; added = λ ws time point shift who. refl; count = λ n. refl; fits = λ classes tree threads who f. f; unlooked = inr refl }

clock_told : (v : ℕ) → IsPlain (answers.Value v) calls.Clock
clock_told v = record { still = record { classes = λ t. refl; classes_later = λ t. refl; tree = λ who t. refl; tree_later = λ who t. refl; order = λ t z. refl; order_later = λ t z. refl; owners = refl; undrawn = refl; timers = λ who time l. refl; timers_later = λ ws who time l. refl; counted = λ n. refl; cursor = λ p. refl; sends = λ ws time place who q. refl; sends_later = λ ws place who q. kept_if (eqb v 1) q; losses = λ ws place who q. refl; enters_none = refl; unnamed = λ q who. refl; stories = λ l. refl; stories_lost = λ ws place who q s x. refl; stories_told = λ place s x. refl; turned = refl; fate = inr (record { fine = refl; no_input = refl; inputs = λ meant l. refl; inputs_later = λ who l. refl; uninjected = λ i is. absurd cc; groups = other_quiet calls.Clock (λ w is. absurd cc) (λ w is. absurd cc) (λ w is. absurd cc) (λ is. absurd cc) (λ t u is. absurd cc) (λ t u is. absurd cc); stays = λ is. absurd cc }) }; effect = λ ws who. refl; added = λ ws time point shift who. refl; count = λ n. refl; fits = λ classes tree threads who f. tt; unlooked = inr refl }

ticked : (v : ℕ) (ms : ℕ) → IsPlain (answers.Value v) (calls.Tick ms)
ticked v ms = record { still = record { classes = λ t. refl; classes_later = λ t. refl; tree = λ who t. refl; tree_later = λ who t. refl; order = λ t z. refl; order_later = λ t z. refl; owners = refl; undrawn = refl; timers = λ who time l. refl; timers_later = λ ws who time l. refl; counted = λ n. refl; cursor = λ p. refl; sends = λ ws time place who q. refl; sends_later = λ ws place who q. kept_if (eqb v 1) q; losses = λ ws place who q. refl; enters_none = refl; unnamed = λ q who. refl; stories = λ l. refl; stories_lost = λ ws place who q s x. refl; stories_told = λ place s x. refl; turned = refl; fate = inr (record { fine = refl; no_input = refl; inputs = λ meant l. refl; inputs_later = λ who l. refl; uninjected = λ i is. absurd cc; groups = other_quiet (calls.Tick ms) (λ w is. absurd cc) (λ w is. absurd cc) (λ w is. absurd cc) (λ is. absurd cc) (λ t u is. absurd cc) (λ t u is. absurd cc); stays = λ is. absurd cc }) }; effect = λ ws who. refl; added = λ ws time point shift who. refl; count = λ n. refl; fits = λ classes tree threads who f. tt; unlooked = inr refl }

send_told : (v : ℕ) → IsPlain (answers.Value v) calls.InSend
send_told v = record { still = record { classes = λ t. refl; classes_later = λ t. refl; tree = λ who t. refl; tree_later = λ who t. refl; order = λ t z. refl; order_later = λ t z. refl; owners = refl; undrawn = refl; timers = λ who time l. refl; timers_later = λ ws who time l. refl; counted = λ n. refl; cursor = λ p. refl; sends = λ ws time place who q. refl; sends_later = λ ws place who q. kept_if (eqb v 1) q; losses = λ ws place who q. refl; enters_none = refl; unnamed = λ q who. refl; stories = λ l. refl; stories_lost = λ ws place who q s x. refl; stories_told = λ place s x. refl; turned = refl; fate = inr (record { fine = refl; no_input = refl; inputs = λ meant l. refl; inputs_later = λ who l. refl; uninjected = λ i is. absurd cc; groups = other_quiet calls.InSend (λ w is. absurd cc) (λ w is. absurd cc) (λ w is. absurd cc) (λ is. absurd cc) (λ t u is. absurd cc) (λ t u is. absurd cc); stays = λ is. absurd cc }) }; effect = λ ws who. refl; added = λ ws time point shift who. refl; count = λ n. refl; fits = λ classes tree threads who f. tt; unlooked = inr refl }

key_told : (v : ℕ) (key : ℕ) → IsPlain (answers.Value v) (calls.KeyState key)
key_told v key = record { still = record { classes = λ t. refl; classes_later = λ t. refl; tree = λ who t. refl; tree_later = λ who t. refl; order = λ t z. refl; order_later = λ t z. refl; owners = refl; undrawn = refl; timers = λ who time l. refl; timers_later = λ ws who time l. refl; counted = λ n. refl; cursor = λ p. refl; sends = λ ws time place who q. refl; sends_later = λ ws place who q. kept_if (eqb v 1) q; losses = λ ws place who q. refl; enters_none = refl; unnamed = λ q who. refl; stories = λ l. refl; stories_lost = λ ws place who q s x. refl; stories_told = λ place s x. refl; turned = refl; fate = inr (record { fine = refl; no_input = refl; inputs = λ meant l. refl; inputs_later = λ who l. refl; uninjected = λ i is. absurd cc; groups = other_quiet (calls.KeyState key) (λ w is. absurd cc) (λ w is. absurd cc) (λ w is. absurd cc) (λ is. absurd cc) (λ t u is. absurd cc) (λ t u is. absurd cc); stays = λ is. absurd cc }) }; effect = λ ws who. refl; added = λ ws time point shift who. refl; count = λ n. refl; fits = λ classes tree threads who f. tt; unlooked = inr refl }

live_told : (v : ℕ) (w : ℕ) → IsPlain (answers.Value v) (calls.IsWindow w)
live_told v w = record { still = record { classes = λ t. refl; classes_later = λ t. refl; tree = λ who t. refl; tree_later = λ who t. refl; order = λ t z. refl; order_later = λ t z. refl; owners = refl; undrawn = refl; timers = λ who time l. refl; timers_later = λ ws who time l. refl; counted = λ n. refl; cursor = λ p. refl; sends = λ ws time place who q. refl; sends_later = λ ws place who q. kept_if (eqb v 1) q; losses = λ ws place who q. refl; enters_none = refl; unnamed = λ q who. refl; stories = λ l. refl; stories_lost = λ ws place who q s x. refl; stories_told = λ place s x. refl; turned = refl; fate = inr (record { fine = refl; no_input = refl; inputs = λ meant l. refl; inputs_later = λ who l. refl; uninjected = λ i is. absurd cc; groups = other_quiet (calls.IsWindow w) (λ w is. absurd cc) (λ w is. absurd cc) (λ w is. absurd cc) (λ is. absurd cc) (λ t u is. absurd cc) (λ t u is. absurd cc); stays = λ is. absurd cc }) }; effect = λ ws who. refl; added = λ ws time point shift who. refl; count = λ n. refl; fits = λ classes tree threads who f. tt; unlooked = inr refl }

focus_told : (x : Hwnd) → IsPlain (answers.Window x) calls.GetFocus
focus_told x = record { still = record { classes = λ t. refl; classes_later = λ t. refl; tree = λ who t. refl; tree_later = λ who t. refl; order = λ t z. refl; order_later = λ t z. refl; owners = refl; undrawn = refl; timers = λ who time l. refl; timers_later = λ ws who time l. refl; counted = λ n. refl; cursor = λ p. refl; sends = λ ws time place who q. refl; sends_later = λ ws place who q. refl; losses = λ ws place who q. refl; enters_none = refl; unnamed = λ q who. refl; stories = λ l. refl; stories_lost = λ ws place who q s x. refl; stories_told = λ place s x. refl; turned = refl; fate = inr (record { fine = refl; no_input = refl; inputs = λ meant l. refl; inputs_later = λ who l. refl; uninjected = λ i is. absurd cc; groups = other_quiet calls.GetFocus (λ w is. absurd cc) (λ w is. absurd cc) (λ w is. absurd cc) (λ is. absurd cc) (λ t u is. absurd cc) (λ t u is. absurd cc); stays = λ is. absurd cc }) }; effect = λ ws who. refl; added = λ ws time point shift who. refl; count = λ n. refl; fits = λ classes tree threads who f. tt; unlooked = inr refl }

active_told : (x : Hwnd) → IsPlain (answers.Window x) calls.GetActive
active_told x = record { still = record { classes = λ t. refl; classes_later = λ t. refl; tree = λ who t. refl; tree_later = λ who t. refl; order = λ t z. refl; order_later = λ t z. refl; owners = refl; undrawn = refl; timers = λ who time l. refl; timers_later = λ ws who time l. refl; counted = λ n. refl; cursor = λ p. refl; sends = λ ws time place who q. refl; sends_later = λ ws place who q. refl; losses = λ ws place who q. refl; enters_none = refl; unnamed = λ q who. refl; stories = λ l. refl; stories_lost = λ ws place who q s x. refl; stories_told = λ place s x. refl; turned = refl; fate = inr (record { fine = refl; no_input = refl; inputs = λ meant l. refl; inputs_later = λ who l. refl; uninjected = λ i is. absurd cc; groups = other_quiet calls.GetActive (λ w is. absurd cc) (λ w is. absurd cc) (λ w is. absurd cc) (λ is. absurd cc) (λ t u is. absurd cc) (λ t u is. absurd cc); stays = λ is. absurd cc }) }; effect = λ ws who. refl; added = λ ws time point shift who. refl; count = λ n. refl; fits = λ classes tree threads who f. tt; unlooked = inr refl }

capture_told : (x : Hwnd) → IsPlain (answers.Window x) calls.GetCapture
capture_told x = record { still = record { classes = λ t. refl; classes_later = λ t. refl; tree = λ who t. refl; tree_later = λ who t. refl; order = λ t z. refl; order_later = λ t z. refl; owners = refl; undrawn = refl; timers = λ who time l. refl; timers_later = λ ws who time l. refl; counted = λ n. refl; cursor = λ p. refl; sends = λ ws time place who q. refl; sends_later = λ ws place who q. refl; losses = λ ws place who q. refl; enters_none = refl; unnamed = λ q who. refl; stories = λ l. refl; stories_lost = λ ws place who q s x. refl; stories_told = λ place s x. refl; turned = refl; fate = inr (record { fine = refl; no_input = refl; inputs = λ meant l. refl; inputs_later = λ who l. refl; uninjected = λ i is. absurd cc; groups = other_quiet calls.GetCapture (λ w is. absurd cc) (λ w is. absurd cc) (λ w is. absurd cc) (λ is. absurd cc) (λ t u is. absurd cc) (λ t u is. absurd cc); stays = λ is. absurd cc }) }; effect = λ ws who. refl; added = λ ws time point shift who. refl; count = λ n. refl; fits = λ classes tree threads who f. tt; unlooked = inr refl }

parent_told : (x : Hwnd) (w : ℕ) → IsPlain (answers.Window x) (calls.Parent w)
parent_told x w = record { still = record { classes = λ t. refl; classes_later = λ t. refl; tree = λ who t. refl; tree_later = λ who t. refl; order = λ t z. refl; order_later = λ t z. refl; owners = refl; undrawn = refl; timers = λ who time l. refl; timers_later = λ ws who time l. refl; counted = λ n. refl; cursor = λ p. refl; sends = λ ws time place who q. refl; sends_later = λ ws place who q. refl; losses = λ ws place who q. refl; enters_none = refl; unnamed = λ q who. refl; stories = λ l. refl; stories_lost = λ ws place who q s x. refl; stories_told = λ place s x. refl; turned = refl; fate = inr (record { fine = refl; no_input = refl; inputs = λ meant l. refl; inputs_later = λ who l. refl; uninjected = λ i is. absurd cc; groups = other_quiet (calls.Parent w) (λ w is. absurd cc) (λ w is. absurd cc) (λ w is. absurd cc) (λ is. absurd cc) (λ t u is. absurd cc) (λ t u is. absurd cc); stays = λ is. absurd cc }) }; effect = λ ws who. refl; added = λ ws time point shift who. refl; count = λ n. refl; fits = λ classes tree threads who f. tt; unlooked = inr refl }

next_told : (x : Hwnd) (w : ℕ) → IsPlain (answers.Window x) (calls.NextTop w)
next_told x w = record { still = record { classes = λ t. refl; classes_later = λ t. refl; tree = λ who t. refl; tree_later = λ who t. refl; order = λ t z. refl; order_later = λ t z. refl; owners = refl; undrawn = refl; timers = λ who time l. refl; timers_later = λ ws who time l. refl; counted = λ n. refl; cursor = λ p. refl; sends = λ ws time place who q. refl; sends_later = λ ws place who q. refl; losses = λ ws place who q. refl; enters_none = refl; unnamed = λ q who. refl; stories = λ l. refl; stories_lost = λ ws place who q s x. refl; stories_told = λ place s x. refl; turned = refl; fate = inr (record { fine = refl; no_input = refl; inputs = λ meant l. refl; inputs_later = λ who l. refl; uninjected = λ i is. absurd cc; groups = other_quiet (calls.NextTop w) (λ w is. absurd cc) (λ w is. absurd cc) (λ w is. absurd cc) (λ is. absurd cc) (λ t u is. absurd cc) (λ t u is. absurd cc); stays = λ is. absurd cc }) }; effect = λ ws who. refl; added = λ ws time point shift who. refl; count = λ n. refl; fits = λ classes tree threads who f. tt; unlooked = inr refl }

found : (x : Hwnd) (title : ℕ) → IsPlain (answers.Window x) (calls.Find title)
found x title = record { still = record { classes = λ t. refl; classes_later = λ t. refl; tree = λ who t. refl; tree_later = λ who t. refl; order = λ t z. refl; order_later = λ t z. refl; owners = refl; undrawn = refl; timers = λ who time l. refl; timers_later = λ ws who time l. refl; counted = λ n. refl; cursor = λ p. refl; sends = λ ws time place who q. refl; sends_later = λ ws place who q. refl; losses = λ ws place who q. refl; enters_none = refl; unnamed = λ q who. refl; stories = λ l. refl; stories_lost = λ ws place who q s x. refl; stories_told = λ place s x. refl; turned = refl; fate = inr (record { fine = refl; no_input = refl; inputs = λ meant l. refl; inputs_later = λ who l. refl; uninjected = λ i is. absurd cc; groups = other_quiet (calls.Find title) (λ w is. absurd cc) (λ w is. absurd cc) (λ w is. absurd cc) (λ is. absurd cc) (λ t u is. absurd cc) (λ t u is. absurd cc); stays = λ is. absurd cc }) }; effect = λ ws who. refl; added = λ ws time point shift who. refl; count = λ n. refl; fits = λ classes tree threads who f. tt; unlooked = inr refl }

awaited : (x : Hwnd) (title : ℕ) → IsPlain (answers.Window x) (calls.AwaitTitle title)
awaited x title = record { still = record { classes = λ t. refl; classes_later = λ t. refl; tree = λ who t. refl; tree_later = λ who t. refl; order = λ t z. refl; order_later = λ t z. refl; owners = refl; undrawn = refl; timers = λ who time l. refl; timers_later = λ ws who time l. refl; counted = λ n. refl; cursor = λ p. refl; sends = λ ws time place who q. refl; sends_later = λ ws place who q. refl; losses = λ ws place who q. refl; enters_none = refl; unnamed = λ q who. refl; stories = λ l. refl; stories_lost = λ ws place who q s x. refl; stories_told = λ place s x. refl; turned = refl; fate = inr (record { fine = refl; no_input = refl; inputs = λ meant l. refl; inputs_later = λ who l. refl; uninjected = λ i is. absurd cc; groups = other_quiet (calls.AwaitTitle title) (λ w is. absurd cc) (λ w is. absurd cc) (λ w is. absurd cc) (λ is. absurd cc) (λ t u is. absurd cc) (λ t u is. absurd cc); stays = λ is. absurd cc }) }; effect = λ ws who. refl; added = λ ws time point shift who. refl; count = λ n. refl; fits = λ classes tree threads who f. tt; unlooked = inr refl }

pixel_told : (x : Hwnd) (l : ℤ) (t : ℤ) → IsPlain (answers.Window x) (calls.WindowAt l t)
pixel_told x l t = record { still = record { classes = λ t. refl; classes_later = λ t. refl; tree = λ who t. refl; tree_later = λ who t. refl; order = λ t z. refl; order_later = λ t z. refl; owners = refl; undrawn = refl; timers = λ who time l. refl; timers_later = λ ws who time l. refl; counted = λ n. refl; cursor = λ p. refl; sends = λ ws time place who q. refl; sends_later = λ ws place who q. refl; losses = λ ws place who q. refl; enters_none = refl; unnamed = λ q who. refl; stories = λ l. refl; stories_lost = λ ws place who q s x. refl; stories_told = λ place s x. refl; turned = refl; fate = inr (record { fine = refl; no_input = refl; inputs = λ meant l. refl; inputs_later = λ who l. refl; uninjected = λ i is. absurd cc; groups = other_quiet (calls.WindowAt l t) (λ w is. absurd cc) (λ w is. absurd cc) (λ w is. absurd cc) (λ is. absurd cc) (λ t u is. absurd cc) (λ t u is. absurd cc); stays = λ is. absurd cc }) }; effect = λ ws who. refl; added = λ ws time point shift who. refl; count = λ n. refl; fits = λ classes tree threads who f. tt; unlooked = inr refl }

sleeps : (time : ℕ) → IsPlain answers.Wait (calls.SleepUntil time)
sleeps time = record { still = record { classes = λ t. refl; classes_later = λ t. refl; tree = λ who t. refl; tree_later = λ who t. refl; order = λ t z. refl; order_later = λ t z. refl; owners = refl; undrawn = refl; timers = λ who time l. refl; timers_later = λ ws who time l. refl; counted = λ n. refl; cursor = λ p. refl; sends = λ ws time place who q. refl; sends_later = λ ws place who q. refl; losses = λ ws place who q. refl; enters_none = refl; unnamed = λ q who. refl; stories = λ l. refl; stories_lost = λ ws place who q s x. refl; stories_told = λ place s x. refl; turned = refl; fate = inr (record { fine = refl; no_input = refl; inputs = λ meant l. refl; inputs_later = λ who l. refl; uninjected = λ i is. absurd cc; groups = other_quiet (calls.SleepUntil time) (λ w is. absurd cc) (λ w is. absurd cc) (λ w is. absurd cc) (λ is. absurd cc) (λ t u is. absurd cc) (λ t u is. absurd cc); stays = λ is. absurd cc }) }; effect = λ ws who. refl; added = λ ws time point shift who. refl; count = λ n. refl; fits = λ classes tree threads who f. tt; unlooked = inr refl }

waits : (title : ℕ) → IsPlain answers.Wait (calls.AwaitTitle title)
waits title = record { still = record { classes = λ t. refl; classes_later = λ t. refl; tree = λ who t. refl; tree_later = λ who t. refl; order = λ t z. refl; order_later = λ t z. refl; owners = refl; undrawn = refl; timers = λ who time l. refl; timers_later = λ ws who time l. refl; counted = λ n. refl; cursor = λ p. refl; sends = λ ws time place who q. refl; sends_later = λ ws place who q. refl; losses = λ ws place who q. refl; enters_none = refl; unnamed = λ q who. refl; stories = λ l. refl; stories_lost = λ ws place who q s x. refl; stories_told = λ place s x. refl; turned = refl; fate = inr (record { fine = refl; no_input = refl; inputs = λ meant l. refl; inputs_later = λ who l. refl; uninjected = λ i is. absurd cc; groups = other_quiet (calls.AwaitTitle title) (λ w is. absurd cc) (λ w is. absurd cc) (λ w is. absurd cc) (λ is. absurd cc) (λ t u is. absurd cc) (λ t u is. absurd cc); stays = λ is. absurd cc }) }; effect = λ ws who. refl; added = λ ws time point shift who. refl; count = λ n. refl; fits = λ classes tree threads who f. tt; unlooked = inr refl }

-- ---- what the reply is

-- a refusal, or the answer behind a test
tested : (b : Bool) (code : Code) (a : Answer) (call : Call) → IsPlain a call → IsPlain (refuse b code a) call
tested true code a call h = refused code call
tested false code a call h = h

either : (b : Bool) (x y : Answer) (call : Call) → IsPlain x call → IsPlain y call → IsPlain (cond b x y) call
either true x y call h k = h
either false x y call h k = k

in_send : (past : Past) (o : Option Frame) → IsPlain (in_send_at past o) calls.InSend
in_send past (Some (frames.Entered s)) = send_told _
in_send past (Some (frames.Await s)) = send_told 0
in_send past (Some (frames.Inside s)) = send_told 0
in_send past (Some frames.Called) = send_told 0
in_send past (Some frames.CallbackRun) = send_told 0
in_send past None = send_told 0

slept : (b : Bool) (time : ℕ) → IsPlain (woken_at b) (calls.SleepUntil time)
slept true time = woken time
slept false time = sleeps time

parent_of : (o : Option Window) (w : ℕ) → IsPlain (elim o [ None ↦ refuse true invalid_window_handle answers.Okay | Some x ↦ window_told (up x) ]) (calls.Parent w)
parent_of None w = refused invalid_window_handle (calls.Parent w)
parent_of (Some x) w = parent_told _ w

title_awaited : (o : Option Hwnd) (title : ℕ) → IsPlain (elim o [ None ↦ answers.Wait | Some w ↦ answers.Window w ]) (calls.AwaitTitle title)
title_awaited None title = waits title
title_awaited (Some w) title = awaited w title

row_plain : (setup : Setup) (past : Past) (who : ℕ) (call : Call) → takes_one_place call ≡ true → IsPlain (row setup past who call) call
row_plain setup past who calls.Yield h = yields
row_plain setup past who calls.Clock h = clock_told _
row_plain setup past who calls.InSend h = in_send past (top past who)
row_plain setup past who (calls.KeyState key) h = tested _ invalid_parameter _ (calls.KeyState key) (key_told _ key)
row_plain setup past who calls.GetFocus h = focus_told _
row_plain setup past who calls.GetActive h = active_told _
row_plain setup past who calls.GetCapture h = capture_told _
row_plain setup past who (calls.IsWindow w) h = live_told _ w
row_plain setup past who (calls.Parent w) h = parent_of (window past w) w
row_plain setup past who (calls.NextTop w) h = next_told _ w
row_plain setup past who (calls.Find title) h = found _ title
row_plain setup past who (calls.WindowAt x y) h = pixel_told _ x y
row_plain setup past who (calls.Tick ms) h = refused NotNow (calls.Tick ms)
row_plain setup past who (calls.SleepUntil time) h = tested _ invalid_parameter _ (calls.SleepUntil time) (slept (nat_le time (clock past)) time)
row_plain setup past who (calls.AwaitTitle title) h = title_awaited (titled past title) title
row_plain setup past who (calls.PostQuit code) h = quit_posted code
row_plain setup past who _ h = absurd (false≢true h)

clock_plain : (setup : Setup) (past : Past) (call : Call) → takes_one_place call ≡ true → IsPlain (clock_row setup past call) call
clock_plain setup past (calls.Tick ms) h = tested (nat_lt 4294967295 ms) invalid_parameter _ (calls.Tick ms) (ticked _ ms)
clock_plain setup past calls.Advance h = absurd (false≢true h)
clock_plain setup past call h = refused NotNow call

thread_plain : (setup : Setup) (past : Past) (who : ℕ) (call : Call) → takes_one_place call ≡ true → IsPlain (thread_reply setup past who call) call
thread_plain setup past who call h = tested _ NotNow _ call (tested (is_barred_by call (top past who)) NotNow (row setup past who call) call (row_plain setup past who call h))

reply_plain : (setup : Setup) (past : Past) (who : ℕ) (call : Call) → takes_one_place call ≡ true → IsPlain (reply setup past who call) call
unfolding reply
reply_plain setup past who call h = tested _ Full _ call (either (eqb who 0) (clock_row setup past call) (thread_reply setup past who call) call (clock_plain setup past call h) (thread_plain setup past who call h))

-- an entry that is refused or one of such a call
pub quiet_plain : (setup : Setup) (past : Past) (who : ℕ) (a : Answer) (call : Call) → a ≡ reply setup past who call → is_quiet a call ≡ true → IsPlain a call
quiet_plain setup past who (answers.Refused code) call right h = refused code call
quiet_plain setup past who a call right h = subst (λ x. IsPlain x call) (sym right) (reply_plain setup past who call h)

-- ---- what stays of threads and looks

changed_none : (t : ℕ) (old : ThreadView) → old ≡ changed t none old
changed_none t old = refl

pub none_added : (ws : List KeptWindow) (time : ℕ) (point : Point) (shift : Bool) (who : ℕ) (a : Answer) (call : Call) (threads : List ThreadView) → IsPlain a call → EachBy (λ t. changed t (adding_in ws time point shift who a call)) threads threads
none_added ws time point shift who a call threads h = subst (λ c. EachBy (λ t. changed t c) threads threads) (h.added ws time point shift who) (record { same_length = refl; at = λ i d lt. refl })

pub quit_alone : (ws : List KeptWindow) (who : ℕ) (a : Answer) (call : Call) (old new : List ThreadView) → IsPlain a call → EachBy (λ t. changed t (quitting who a call)) old new → EachBy (λ t. changed t (effect_in ws who a call)) old new
quit_alone ws who a call old new h each = subst (λ c. EachBy (λ t. changed t c) old new) (h.effect ws who) each

unmarked_by : (e : Entry) (count t : ℕ) (v : ThreadView) → (is_refusal e.answer ≡ true) ⊎ (is_look e.call ≡ false) → v ≡ marked t e count v
unmarked_by e count t v (inl is) = ap (λ b. cond b v (cond (is_look e.call && eqb e.who.0 t) (record v { quit_is_new = false; seen = count }) v)) (sym is)
unmarked_by e count t v (inr is) = same (is_refusal e.answer) ∙ ap (λ b. cond (is_refusal e.answer) v (cond (b && eqb e.who.0 t) (record v { quit_is_new = false; seen = count }) v)) (sym is)
  where
    same : (b : Bool) → v ≡ cond b v v
    same true = refl
    same false = refl

-- nobody looks
pub none_marked : (e : Entry) (count : ℕ) (threads : List ThreadView) → IsPlain e.answer e.call → EachBy (λ t. marked t e count) threads threads
none_marked e count threads h = record { same_length = refl; at = λ i d lt. unmarked_by e count (i + 1) (slice_index_or threads i d) h.unlooked }

-- the looks stay, and the marks of ready lists
pub looks_stay : (setup : Setup) (past : Past) (e : Entry) (looks : List LookView) → IsPlain e.answer e.call → AreLooksAt setup past looks → AreLooksAt setup (e ∷ past) looks
looks_stay setup past e looks h before = record { count = before.count; each = λ i d lt. subst (λ l. IsLookAt setup l (i + 1) (slice_index_or looks i d)) (sym (same (i + 1) h.unlooked)) (before.each i d lt) }
  where
    same : (t : ℕ) → (is_refusal e.answer ≡ true) ⊎ (is_look e.call ≡ false) → last_look (e ∷ past) t ≡ last_look past t
    same t (inl is) = last_look-refused e past t is
    same t (inr is) = last_look-other e past t (ap (λ b. b && eqb e.who.0 t) is)

pub marks_stay : (setup : Setup) (past : Past) (e : Entry) (marks : List ℕ) → IsPlain e.answer e.call → MarksStand setup past marks → MarksStand setup (e ∷ past) marks
marks_stay setup past e marks h before = elim h.unlooked [
  | inl is ↦ marks-refused setup past e marks is before
  | inr is ↦ marks-other setup past e marks is before
]

-- Statements and compounds make no `await`, no `leave`, no `end_thread` and no call of the clock's actor.
use Rattle.std.proofs.Common.{◌≡◌, ◌≢◌, ℕ, Bool, true, false}
use Rattle.std.specs.Prelude.{◌==◌, if◌then◌else◌, Option, Some, None}
use Rattle.win_num.specs.declared.message.Msg.{Msg}
use Rattle.win_num.specs.declared.names.TheConstants.{WM_QUIT, WM_KEYDOWN}
use Rattle.user_model.specs.declared.call.Call.{Call}
use Rattle.user_model.specs.declared.call.Call.TheVariants.{Await, Leave, EndThread, Tick, Advance}
use Rattle.user_model.specs.declared.entry.Answer.{Answer}
use Rattle.user_model.specs.declared.entry.Answer.TheVariants.{Value, Window, Tell, Last, Running, Finished, Got, Refused}
use Rattle.script_tree.specs.declared.statement.CallStatement.{CallStatement}
use Rattle.script_tree.specs.declared.statement.CallStatement.TheVariants.{Yield}
use Rattle.script_tree.specs.declared.statement.CompoundStatement.{CompoundStatement}
use Rattle.script_tree.specs.declared.statement.CompoundStatement.TheVariants.{PostAll, NotifyAll, Pump, Dialog as DialogOf}
use Rattle.script_tree.specs.declared.frame.Begin.{Begin}
use Rattle.script_tree.specs.declared.frame.Dialog.{Dialog}
use Rattle.script_tree.specs.declared.frame.Modal.{Modal}
use Rattle.script_tree.specs.declared.frame.Modal.TheVariants.{Pump as PumpLoop, Dialog as DialogLoop}
use Rattle.script_tree.specs.declared.frame.Notice.{Notice}
use Rattle.script_tree.specs.declared.frame.Notices.{Notices}
use Rattle.script_tree.specs.declared.frame.Spread.{Spread}
use Rattle.script_tree.specs.declared.frame.Spread.TheVariants.{Posts, Notifies}
use Rattle.script_tree.specs.declared.frame.Broadcast.{Broadcast}
use Rattle.script_tree.specs.declared.frame.Place.{Place}
use Rattle.script_tree.specs.declared.frame.Place.TheVariants.{Making, Greeting, Telling, Undoing, Dooming, Unmaking, Destroying, Parting, Dropping, Single, Calling, Notifying, Seeking, Reaching, Getting, Translating, Dispatching, Opening, Disabling, Asking, Requitting, Finishing, Enabling, Defaulting}
use Rattle.script_tree.specs.declared.frame.Lead.{Lead}
use Rattle.script_tree.specs.declared.frame.Lead.TheVariants.{Calls, Runs, Ends}
use Rattle.script_tree.specs.declared.variables.Parameters.{Parameters}
use Rattle.script_tree.specs.declared.variables.Variables.{Variables}
use Rattle.script_tree.specs.Values.{call_of, translate_of}
use Rattle.script_tree.specs.Modals.{turns, enabling, loop_ends, quits, dispatches, handles, after_getting, dialog_on, opens, after_opening, was_enabled, after_asking}
use Rattle.script_tree.specs.Notices.{number_in, next_notice, others, notices_after, result_after}
use Rattle.script_tree.specs.Compounds.{compound_begin, default_begin, compound_after, after_making, notifies_by, after_calling, reach_by, reach, after_seeking}
use Rattle.script_tree.proofs.Defaults.{each_begin}

-- a call that neither waits for a send nor ends anything, and that threads make
abbrev pub IsPlain : Call → Type 0
IsPlain (Await s) = ⊥
IsPlain (Leave v) = ⊥
IsPlain EndThread = ⊥
IsPlain (Tick ms) = ⊥
IsPlain Advance = ⊥
IsPlain call = Unit {0}

abbrev pub LeadIsPlain : Lead → Type 0
LeadIsPlain (Calls call q) = IsPlain call
LeadIsPlain (Runs b q) = IsPlain b.call
LeadIsPlain (Ends a) = Unit {0}

pub plain_goes_on : (call : Call) → IsPlain call → call ≢ EndThread
plain_goes_on EndThread h = absurd h
plain_goes_on call h = λ e. absurd cc

pub plain_statement : (ask : CallStatement) (v : Variables) → IsPlain (call_of ask v)
plain_statement Yield v = tt
plain_statement ask v = tt

-- what a compound begins with is plain
pub plain_begin : (c : CompoundStatement) (v : Variables) → IsPlain (compound_begin c v).call
plain_begin (PostAll m p q) v = tt
plain_begin (NotifyAll m p q) v = tt
plain_begin Pump v = tt
plain_begin (DialogOf w) v = tt
plain_begin c v = tt

pub plain_default : (p : Parameters) (b : Begin) → Some b ≡ default_begin p → IsPlain b.call
plain_default p b h = each_begin (λ x. IsPlain x.call) p b h (λ e. tt) (λ e. tt) (λ e. tt) (λ e. tt) (λ e. tt)

either : (b : Bool) (x y : Lead) → LeadIsPlain x → LeadIsPlain y → LeadIsPlain (if b then x else y)
either true x y f g = f
either false x y f g = g

plain_making : (a : Answer) → LeadIsPlain (after_making a)
plain_making (Window w) = tt
plain_making (Refused code) = tt
plain_making a = tt

plain_notifies : (o : Option Notice) (n : Notices) (y : ℕ) → LeadIsPlain (notifies_by o n y)
plain_notifies (Some x) n y = tt
plain_notifies None n y = tt

plain_calling : (call : Call) (a : Answer) → LeadIsPlain (after_calling call a)
plain_calling call (Refused code) = tt
plain_calling call a = plain_notifies (next_notice (notices_after call (number_in a))) (others (notices_after call (number_in a))) (result_after call (number_in a))

plain_reach : (way : Spread) (b : Broadcast) (w : ℕ) → IsPlain (reach_by way b w)
plain_reach Posts b w = tt
plain_reach Notifies b w = tt

plain_seeking : (b : Broadcast) (a : Answer) → LeadIsPlain (after_seeking b a)
plain_seeking b (Refused code) = tt
plain_seeking b a = either (number_in a == 0) (Ends (Value 1)) (Calls (reach b (number_in a)) (Reaching b (number_in a))) tt (plain_reach b.spread b (number_in a))

plain_turns : (l : Modal) → LeadIsPlain (turns l)
plain_turns PumpLoop = tt
plain_turns (DialogLoop d) = tt

plain_ends : (l : Modal) (a : Answer) → LeadIsPlain (loop_ends l a)
plain_ends PumpLoop a = tt
plain_ends (DialogLoop d) a = either (d.owner == 0) (Ends a) (Runs (enabling d.owner 1) (Enabling a)) tt tt

plain_quits : (l : Modal) (code : ℕ) → LeadIsPlain (quits l code)
plain_quits PumpLoop code = tt
plain_quits (DialogLoop d) code = tt

plain_handles : (l : Modal) (msg : Msg) → LeadIsPlain (handles l msg)
plain_handles l msg = either (msg.number == WM_KEYDOWN) (Calls (translate_of msg) (Translating l msg)) (dispatches l msg) tt tt

plain_getting : (l : Modal) (a : Answer) → LeadIsPlain (after_getting l a)
plain_getting l (Got origin number msg) = either (msg.number == WM_QUIT) (quits l msg.wparam) (handles l msg) (plain_quits l msg.wparam) (plain_handles l msg)
plain_getting l (Refused code) = plain_ends l (Refused code)
plain_getting l a = plain_ends l (Value 0)

plain_opens : (w o : ℕ) → LeadIsPlain (opens w o)
plain_opens w o = either (o == 0) (turns (DialogLoop (dialog_on w 0))) (Runs (enabling o 0) (Disabling (dialog_on w o))) tt tt

plain_opening : (w : ℕ) (a : Answer) → LeadIsPlain (after_opening w a)
plain_opening w (Refused code) = tt
plain_opening w a = plain_opens w (number_in a)

plain_asking : (d : Dialog) (a : Answer) → LeadIsPlain (after_asking d a)
plain_asking d Running = tt
plain_asking d (Finished v) = plain_ends (DialogLoop d) (Value v)
plain_asking d (Refused code) = plain_ends (DialogLoop d) (Refused code)
plain_asking d a = plain_ends (DialogLoop d) (Value 0)

-- what a compound does next is plain
pub plain_compound : (q : Place) (a : Answer) (x : ℕ) → LeadIsPlain (compound_after q a x)
plain_compound Making a x = plain_making a
plain_compound (Greeting w) a x = either (x == 0) _ _ tt tt
plain_compound (Telling w) (Refused code) x = tt
plain_compound (Telling w) a x = either (x == 18446744073709551615) _ _ tt tt
plain_compound Undoing a x = tt
plain_compound (Dooming w) (Refused code) x = tt
plain_compound (Dooming w) a x = tt
plain_compound (Unmaking w) (Tell v) x = tt
plain_compound (Unmaking w) (Last v) x = tt
plain_compound (Unmaking w) (Refused code) x = tt
plain_compound (Unmaking w) a x = tt
plain_compound (Destroying w) a x = tt
plain_compound (Parting w v) a x = tt
plain_compound (Dropping w) a x = tt
plain_compound Single a x = tt
plain_compound (Calling call) a x = plain_calling call a
plain_compound (Notifying n y) a x = plain_notifies (next_notice n) (others n) y
plain_compound (Seeking b) a x = plain_seeking b a
plain_compound (Reaching b w) a x = tt
plain_compound (Getting l) a x = plain_getting l a
plain_compound (Translating l msg) a x = tt
plain_compound (Dispatching l) a x = plain_turns l
plain_compound (Opening w) a x = plain_opening w a
plain_compound (Disabling d) a x = either (was_enabled a) (turns (DialogLoop d)) (turns (DialogLoop (dialog_on d.window 0))) tt tt
plain_compound (Asking d) a x = plain_asking d a
plain_compound (Requitting d) a x = tt
plain_compound (Finishing d) a x = tt
plain_compound (Enabling b) a x = tt
plain_compound (Defaulting y) (Refused code) x = tt
plain_compound (Defaulting y) a x = tt

-- Where the places of compounds and the answers to calls lead, as the rows say it.
use Rattle.std.proofs.Common.{◌≡◌, ◌≢◌, ℕ, ◌+◌, Bool, true, false, List, [], ◌∷◌, length, refl, ap, ◌∙◌, arith}
use Rattle.std.specs.Prelude.{if◌then◌else◌, ◌==◌, not, Some, None}
use Rattle.win_num.specs.declared.code.Code.{Code}
use Rattle.win_num.specs.declared.message.Msg.{Msg}
use Rattle.win_num.specs.declared.names.TheConstants.{WM_QUIT, WM_KEYDOWN}
use Rattle.user_model.specs.declared.call.Call.{Call}
use Rattle.user_model.specs.declared.entry.Answer.{Answer}
use Rattle.user_model.specs.declared.entry.Answer.TheVariants.{Wait, Value, Window as WindowMade, Called, Inside, Begun, Enter, Callback, Tell, Last, Running, Finished, Got, Refused}
use Rattle.user_model.specs.declared.entry.Origin.{Origin}
use Rattle.user_model.specs.Stacks.{waits}
use Rattle.script_tree.specs.declared.messages.TheConstants.{WM_PAINT, WM_ERASEBKGND, WM_CLOSE, WM_ACTIVATE, WM_CANCELMODE, WM_NCCREATE, WM_CREATE}
use Rattle.script_tree.specs.declared.variables.Parameters.{Parameters}
use Rattle.script_tree.specs.declared.variables.Variables.{Variables}
use Rattle.script_tree.specs.declared.frame.Place.TheVariants.{Telling, Notifying, Reaching, Translating, Disabling, Enabling}
use Rattle.script_tree.specs.declared.frame.Dialog.{Dialog}
use Rattle.script_tree.specs.declared.frame.Modal.{Modal}
use Rattle.script_tree.specs.declared.frame.Modal.TheVariants.{Dialog as DialogLoop}
use Rattle.script_tree.specs.declared.frame.Notice.{Notice}
use Rattle.script_tree.specs.declared.frame.Notices.{Notices}
use Rattle.script_tree.specs.declared.frame.Broadcast.{Broadcast}
use Rattle.script_tree.specs.declared.operand.Operand.{Operand}
use Rattle.script_tree.specs.declared.statement.CompoundStatement.{CompoundStatement}
use Rattle.script_tree.specs.declared.statement.CompoundStatement.TheVariants.{PostAll, NotifyAll, Pump, Dialog as DialogOf}
use Rattle.script_tree.specs.Notices.{number_in, next_notice, others, notices_after, result_after}
use Rattle.script_tree.specs.Modals.{turns, enabling, loop_ends, quits, dispatches, handles, after_getting, dialog_on, opens, after_opening, was_enabled, after_disabling, after_asking}
use Rattle.script_tree.specs.Values.{first_call, translate_of}
use Rattle.script_tree.specs.declared.frame.Lead.TheVariants.{Calls as CallsLead, Runs as RunsLead, Ends}
use Rattle.script_tree.specs.Compounds.{sent, undoes, unmakes, default_result, after_making, after_greeting, kept_or_undone, after_telling, after_dooming, after_unmaking, notifying, compound_begin, notice_call, notifies_by, notifies, after_calling, reach, reaches_or_ends, after_seeking}
use Rattle.script_tree.specs.Pieces.{Piece, State, Trace}
use Rattle.script_tree.specs.Steps.{following, follows, given, after_answer, answered, is_last}
use Rattle.script_tree.specs.Rows.{ends_call, is_final, is_refusal, is_made, is_undone, is_fetched, is_standing}
use Rattle.script_tree.proofs.Numbers.{same_number, other_number}

-- a pass with an entry, and one with none
pub counted : (first : Trace) (n m : ℕ) → first ≢ [] → m ≡ n + length first → (m == n) ≡ false
counted [] n m h e = absurd (h refl)
counted (x ∷ first) n m h e = other_number m n (λ f. omega arith)

pub uncounted : (n m : ℕ) → m ≡ n + length {A = Call × Answer} [] → (m == n) ≡ true
uncounted n m e = same_number m n (omega arith)

-- the places of a destruction
pub doom_goes : (w : ℕ) (a : Answer) → is_refusal a ≡ false → after_dooming w a ≡ unmakes w
doom_goes w (Refused code) h = absurd cc
doom_goes w _ h = refl

pub doom_ends : (w : ℕ) (a : Answer) → is_refusal a ≡ true → after_dooming w a ≡ Ends a
doom_ends w (Refused code) h = refl
doom_ends w _ h = absurd cc

pub unmade_ends : (w : ℕ) (a : Answer) → is_refusal a ≡ true → after_unmaking w a ≡ Ends a
unmade_ends w (Refused code) h = refl
unmade_ends w _ h = absurd cc

pub unmade_done : (w : ℕ) (a : Answer) → is_undone a ≡ false → after_unmaking w a ≡ Ends (Value 1)
unmade_done w (Tell v) h = absurd cc
unmade_done w (Last v) h = absurd cc
unmade_done w (Refused code) h = absurd cc
unmade_done w _ h = refl

-- the places of a `create`
pub made_ends : (a : Answer) → is_refusal a ≡ true → after_making a ≡ Ends a
made_ends (Refused code) h = refl
made_ends _ h = absurd cc

pub made_none : (a : Answer) → is_made a ≡ false → after_making a ≡ Ends (Value 0)
made_none (WindowMade w) h = absurd cc
made_none (Refused code) h = absurd cc
made_none _ h = refl

pub greeted_zero : (w x : ℕ) → x ≡ 0 → after_greeting w x ≡ undoes w
greeted_zero w x h = ap (λ z. if z then undoes w else CallsLead (sent w WM_CREATE) (Telling w)) (same_number x 0 h)

pub greeted_more : (w x : ℕ) → x ≢ 0 → after_greeting w x ≡ CallsLead (sent w WM_CREATE) (Telling w)
greeted_more w x h = ap (λ z. if z then undoes w else CallsLead (sent w WM_CREATE) (Telling w)) (other_number x 0 h)

pub telling_refused : (w : ℕ) (a : Answer) (x : ℕ) → is_refusal a ≡ true → after_telling w a x ≡ undoes w
telling_refused w (Refused code) x h = refl
telling_refused w _ x h = absurd cc

pub telling_kept : (w : ℕ) (a : Answer) (x : ℕ) → is_refusal a ≡ false → after_telling w a x ≡ kept_or_undone w x
telling_kept w (Refused code) x h = absurd cc
telling_kept w _ x h = refl

pub kept_no : (w x : ℕ) → x ≡ 18446744073709551615 → kept_or_undone w x ≡ undoes w
kept_no w x h = ap (λ z. if z then undoes w else Ends (Value w)) (same_number x 18446744073709551615 h)

pub kept_yes : (w x : ℕ) → x ≢ 18446744073709551615 → kept_or_undone w x ≡ Ends (Value w)
kept_yes w x h = ap (λ z. if z then undoes w else Ends (Value w)) (other_number x 18446744073709551615 h)

-- the places of a compound that sends messages
pub calling_ends : (call : Call) (a : Answer) → is_refusal a ≡ true → after_calling call a ≡ Ends a
calling_ends call (Refused code) h = refl
calling_ends call _ h = absurd cc

pub calling_goes : (call : Call) (a : Answer) → is_refusal a ≡ false → after_calling call a ≡ notifies (notices_after call (number_in a)) (result_after call (number_in a))
calling_goes call (Refused code) h = absurd cc
calling_goes call _ h = refl

pub notifies_over : (n : Notices) (y : ℕ) → next_notice n ≡ None → notifies n y ≡ Ends (Value y)
notifies_over n y h = ap (λ o. notifies_by o (others n) y) h

pub notifies_next : (n : Notices) (x : Notice) (y : ℕ) → next_notice n ≡ Some x → notifies n y ≡ CallsLead (notice_call x) (Notifying (others n) y)
notifies_next n x y h = ap (λ o. notifies_by o (others n) y) h

-- and of one that goes through the top-level windows
pub seeking_ends : (b : Broadcast) (a : Answer) → is_refusal a ≡ true → after_seeking b a ≡ Ends a
seeking_ends b (Refused code) h = refl
seeking_ends b _ h = absurd cc

seeking_goes : (b : Broadcast) (a : Answer) → is_refusal a ≡ false → after_seeking b a ≡ reaches_or_ends b (number_in a)
seeking_goes b (Refused code) h = absurd cc
seeking_goes b _ h = refl

pub seeking_none : (b : Broadcast) (a : Answer) → is_refusal a ≡ false → number_in a ≡ 0 → after_seeking b a ≡ Ends (Value 1)
seeking_none b a h g = seeking_goes b a h ∙ ap (λ z. if z then Ends (Value 1) else CallsLead (reach b (number_in a)) (Reaching b (number_in a))) (same_number (number_in a) 0 g)

pub seeking_next : (b : Broadcast) (a : Answer) → is_refusal a ≡ false → number_in a ≢ 0 → after_seeking b a ≡ CallsLead (reach b (number_in a)) (Reaching b (number_in a))
seeking_next b a h g = seeking_goes b a h ∙ ap (λ z. if z then Ends (Value 1) else CallsLead (reach b (number_in a)) (Reaching b (number_in a))) (other_number (number_in a) 0 g)

-- and of a loop of messages
pub getting_ends : (l : Modal) (a : Answer) → is_refusal a ≡ true → after_getting l a ≡ loop_ends l a
getting_ends l (Refused code) h = refl
getting_ends l _ h = absurd cc

pub getting_none : (l : Modal) (a : Answer) → is_fetched a ≡ false → after_getting l a ≡ loop_ends l (Value 0)
getting_none l (Got o number msg) h = absurd cc
getting_none l (Refused code) h = absurd cc
getting_none l _ h = refl

pub getting_otherwise : (l : Modal) (a : Answer) → ((o : Origin) (number : ℕ) (msg : Msg) → a ≡ Got o number msg → ⊥) → ((code : Code) → a ≡ Refused code → ⊥) → after_getting l a ≡ loop_ends l (Value 0)
getting_otherwise l (Got o number msg) f g = absurd (f o number msg refl)
getting_otherwise l (Refused code) f g = absurd (g code refl)
getting_otherwise l _ f g = refl

pub getting_quit : (l : Modal) (o : Origin) (number : ℕ) (msg : Msg) → msg.number ≡ WM_QUIT → after_getting l (Got o number msg) ≡ quits l msg.wparam
getting_quit l o number msg h = ap (λ z. if z then quits l msg.wparam else handles l msg) (same_number msg.number WM_QUIT h)

getting_more : (l : Modal) (o : Origin) (number : ℕ) (msg : Msg) → msg.number ≢ WM_QUIT → after_getting l (Got o number msg) ≡ handles l msg
getting_more l o number msg h = ap (λ z. if z then quits l msg.wparam else handles l msg) (other_number msg.number WM_QUIT h)

pub getting_key : (l : Modal) (o : Origin) (number : ℕ) (msg : Msg) → msg.number ≡ WM_KEYDOWN → after_getting l (Got o number msg) ≡ CallsLead (translate_of msg) (Translating l msg)
getting_key l o number msg h =
    getting_more l o number msg (λ e. absurd (omega arith)) ∙ ap (λ z. if z then CallsLead (translate_of msg) (Translating l msg) else dispatches l msg) (same_number msg.number WM_KEYDOWN h)

pub getting_other : (l : Modal) (o : Origin) (number : ℕ) (msg : Msg) → msg.number ≢ WM_QUIT → msg.number ≢ WM_KEYDOWN → after_getting l (Got o number msg) ≡ dispatches l msg
getting_other l o number msg h g =
    getting_more l o number msg h ∙ ap (λ z. if z then CallsLead (translate_of msg) (Translating l msg) else dispatches l msg) (other_number msg.number WM_KEYDOWN g)

-- and of a dialog
pub opening_ends : (w : ℕ) (a : Answer) → is_refusal a ≡ true → after_opening w a ≡ Ends a
opening_ends w (Refused code) h = refl
opening_ends w _ h = absurd cc

opening_goes : (w : ℕ) (a : Answer) → is_refusal a ≡ false → after_opening w a ≡ opens w (number_in a)
opening_goes w (Refused code) h = absurd cc
opening_goes w _ h = refl

pub opening_alone : (w : ℕ) (a : Answer) → is_refusal a ≡ false → number_in a ≡ 0 → after_opening w a ≡ turns (DialogLoop (dialog_on w 0))
opening_alone w a h g = opening_goes w a h ∙ ap (λ z. if z then turns (DialogLoop (dialog_on w 0)) else RunsLead (enabling (number_in a) 0) (Disabling (dialog_on w (number_in a)))) (same_number (number_in a) 0 g)

pub opening_runs : (w : ℕ) (a : Answer) → is_refusal a ≡ false → number_in a ≢ 0 → after_opening w a ≡ RunsLead (enabling (number_in a) 0) (Disabling (dialog_on w (number_in a)))
opening_runs w a h g = opening_goes w a h ∙ ap (λ z. if z then turns (DialogLoop (dialog_on w 0)) else RunsLead (enabling (number_in a) 0) (Disabling (dialog_on w (number_in a)))) (other_number (number_in a) 0 g)

pub disabling_enabled : (d : Dialog) (a : Answer) → was_enabled a ≡ true → after_disabling d a ≡ turns (DialogLoop d)
disabling_enabled d a h = ap (λ z. if z then turns (DialogLoop d) else turns (DialogLoop (dialog_on d.window 0))) h

pub disabling_other : (d : Dialog) (a : Answer) → was_enabled a ≡ false → after_disabling d a ≡ turns (DialogLoop (dialog_on d.window 0))
disabling_other d a h = ap (λ z. if z then turns (DialogLoop d) else turns (DialogLoop (dialog_on d.window 0))) h

pub asking_ends : (d : Dialog) (a : Answer) → is_refusal a ≡ true → after_asking d a ≡ loop_ends (DialogLoop d) a
asking_ends d (Refused code) h = refl
asking_ends d _ h = absurd cc

pub asking_gone : (d : Dialog) (a : Answer) → is_standing a ≡ false → after_asking d a ≡ loop_ends (DialogLoop d) (Value 0)
asking_gone d Running h = absurd cc
asking_gone d (Finished v) h = absurd cc
asking_gone d (Refused code) h = absurd cc
asking_gone d _ h = refl

pub closing_alone : (d : Dialog) (a : Answer) → d.owner ≡ 0 → loop_ends (DialogLoop d) a ≡ Ends a
closing_alone d a h = ap (λ z. if z then Ends a else RunsLead (enabling d.owner 1) (Enabling a)) (same_number d.owner 0 h)

pub closing_runs : (d : Dialog) (a : Answer) → d.owner ≢ 0 → loop_ends (DialogLoop d) a ≡ RunsLead (enabling d.owner 1) (Enabling a)
closing_runs d a h = ap (λ z. if z then Ends a else RunsLead (enabling d.owner 1) (Enabling a)) (other_number d.owner 0 h)

-- a compound statement that neither goes through the top-level windows nor has a loop of messages sends messages
pub begins_otherwise : (c : CompoundStatement) (v : Variables) → ((m p q : Operand) → c ≡ PostAll m p q → ⊥) → ((m p q : Operand) → c ≡ NotifyAll m p q → ⊥) → (c ≡ Pump → ⊥) → ((w : Operand) → c ≡ DialogOf w → ⊥) → compound_begin c v ≡ notifying (first_call c v)
begins_otherwise (PostAll m p q) v f g h k = absurd (f m p q refl)
begins_otherwise (NotifyAll m p q) v f g h k = absurd (g m p q refl)
begins_otherwise Pump v f g h k = absurd (h refl)
begins_otherwise (DialogOf w) v f g h k = absurd (k w refl)
begins_otherwise c v f g h k = refl

-- the default procedure

-- its result by the two messages that have another than 0
result_by : (p : Parameters) (b c : Bool) → (p.number == WM_NCCREATE) ≡ b → (p.number == WM_ERASEBKGND) ≡ c → default_result p ≡ (if b then 1 else if c then 1 else 0)
result_by p b c h k = ap (λ z. if z then 1 else if p.number == WM_ERASEBKGND then 1 else 0) h ∙ ap (λ z. if b then 1 else if z then 1 else 0) k

pub close_result : (p : Parameters) → p.number ≡ WM_CLOSE → default_result p ≡ 0
close_result p h = result_by p false false (other_number p.number WM_NCCREATE (λ e. absurd (omega arith))) (other_number p.number WM_ERASEBKGND (λ e. absurd (omega arith)))

pub paint_result : (p : Parameters) → p.number ≡ WM_PAINT → default_result p ≡ 0
paint_result p h = result_by p false false (other_number p.number WM_NCCREATE (λ e. absurd (omega arith))) (other_number p.number WM_ERASEBKGND (λ e. absurd (omega arith)))

pub activate_result : (p : Parameters) → p.number ≡ WM_ACTIVATE → default_result p ≡ 0
activate_result p h = result_by p false false (other_number p.number WM_NCCREATE (λ e. absurd (omega arith))) (other_number p.number WM_ERASEBKGND (λ e. absurd (omega arith)))

pub cancel_result : (p : Parameters) → p.number ≡ WM_CANCELMODE → default_result p ≡ 0
cancel_result p h = result_by p false false (other_number p.number WM_NCCREATE (λ e. absurd (omega arith))) (other_number p.number WM_ERASEBKGND (λ e. absurd (omega arith)))

pub erase_result : (p : Parameters) → p.number ≡ WM_ERASEBKGND → default_result p ≡ 1
erase_result p h = result_by p false true (other_number p.number WM_NCCREATE (λ e. absurd (omega arith))) (same_number p.number WM_ERASEBKGND h)

pub other_result : (p : Parameters) → p.number ≢ WM_ERASEBKGND → p.number ≢ WM_NCCREATE → default_result p ≡ 0
other_result p k h = result_by p false false (other_number p.number WM_NCCREATE h) (other_number p.number WM_ERASEBKGND k)

pub greeting_result : (p : Parameters) → p.number ≡ WM_NCCREATE → default_result p ≡ 1
greeting_result p h = result_by p true (p.number == WM_ERASEBKGND) (same_number p.number WM_NCCREATE h) refl

-- the result of a message that is told by nothing but WM_NCCREATE
pub alone_result : (p : Parameters) → (p.number == WM_ERASEBKGND) ≡ false → default_result p ≡ (if p.number == WM_NCCREATE then 1 else 0)
alone_result p k = result_by p (p.number == WM_NCCREATE) false refl k

-- an answer that is the last of its call
begun_follows : (b : Bool) (ps : List Piece) → not b ≡ true → (if b then ps else []) ≡ []
begun_follows true ps h = absurd cc
begun_follows false ps h = refl

ends_follows : (call : Call) (a : Answer) → ends_call call a ≡ true → following call a ≡ []
ends_follows call (Enter sid proc_no w number wparam lparam) h = absurd cc
ends_follows call (Callback sid proc_no w number extra result) h = absurd cc
ends_follows call (Inside sid proc_no) h = absurd cc
ends_follows call (Called proc_no) h = absurd cc
ends_follows call (Begun sid) h = begun_follows (waits call) _ h
ends_follows call _ h = refl

either_follows : (b : Bool) (call : Call) (a : Answer) → (if b then true else ends_call call a) ≡ true → (if b then [] else following call a) ≡ []
either_follows true call a h = refl
either_follows false call a h = ends_follows call a h

pub final_follows : (call : Call) (a : Answer) → is_final call a ≡ true → follows call a ≡ []
final_follows call Wait h = absurd cc
final_follows call a h = either_follows (is_last call) call a h

begun_answered : (b : Bool) (x y : State) → not b ≡ true → (if b then x else y) ≡ y
begun_answered true x y h = absurd cc
begun_answered false x y h = refl

ends_answered : (call : Call) (a : Answer) (v : Variables) → ends_call call a ≡ true → after_answer call a v ≡ given v a
ends_answered call (Enter sid proc_no w number wparam lparam) v h = absurd cc
ends_answered call (Callback sid proc_no w number extra result) v h = absurd cc
ends_answered call (Inside sid proc_no) v h = absurd cc
ends_answered call (Called proc_no) v h = absurd cc
ends_answered call (Begun sid) v h = begun_answered (waits call) _ _ h
ends_answered call _ v h = refl

either_answered : (b : Bool) (call : Call) (a : Answer) (v : Variables) → (if b then true else ends_call call a) ≡ true → (if b then given v a else after_answer call a v) ≡ given v a
either_answered true call a v h = refl
either_answered false call a v h = ends_answered call a v h

pub final_answered : (call : Call) (a : Answer) (v : Variables) → is_final call a ≡ true → answered call a v ≡ given v a
final_answered call Wait v h = absurd cc
final_answered call a v h = either_answered (is_last call) call a v h

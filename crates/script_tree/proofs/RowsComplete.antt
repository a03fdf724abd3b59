-- Each trace of the table of steps is one by the rows.
use Rattle.std.proofs.Common.{◌≡◌, ◌≢◌, ℕ, ◌+◌, suc, Bool, true, false, List, [], ◌∷◌, ◌++◌, length, refl, sym, ap, ◌∙◌, subst, append_assoc, append-nil, arith}
use Rattle.std.proofs.Math.ListN.{length-append}
use Rattle.std.specs.Prelude.{if◌then◌else◌, ◌==◌, not, Option, Some, None}
use Rattle.win_num.specs.declared.message.Hwnd.{Hwnd}
use Rattle.win_num.specs.declared.message.Msg.{Msg}
use Rattle.win_num.specs.declared.names.TheConstants.{WM_QUIT, WM_KEYDOWN}
use Rattle.win_num.specs.declared.send.SendId.{SendId}
use Rattle.user_model.specs.declared.call.Call.{Call}
use Rattle.user_model.specs.declared.call.Call.TheVariants.{Get, PostQuit, Enable, BeginDialog, DialogState, EndDialog, Await, Leave, Doom, Unmake, Drop, NextTop, SetFocus, ReleaseCapture, Erase, Clock, SleepUntil, Yield, EndThread}
use Rattle.user_model.specs.declared.entry.Answer.{Answer}
use Rattle.user_model.specs.declared.entry.Answer.TheVariants.{Wait, Value, Window as WindowMade, Called, Inside, Begun, Enter, Callback, Tell, Last, Running as RunningDialog, Finished, Got, Refused}
use Rattle.user_model.specs.declared.entry.Origin.{Origin}
use Rattle.user_model.specs.Stacks.{leaves, waits}
use Rattle.script_tree.specs.declared.messages.TheConstants.{WM_PAINT, WM_ERASEBKGND, WM_CLOSE, WM_ACTIVATE, WM_CANCELMODE, WM_NCCREATE, WM_CREATE, WM_DESTROY, WM_NCDESTROY}
use Rattle.win_num.specs.declared.send.Frame.TheVariants.{Inside as InsideFrame, Called as CalledFrame}
use Rattle.script_tree.specs.declared.operand.Test.{Test}
use Rattle.script_tree.specs.declared.operand.Operand.{Operand}
use Rattle.script_tree.specs.declared.statement.Creation.{Creation}
use Rattle.script_tree.specs.declared.statement.Statement.{Statement, items-the_row-Statement}
use Rattle.script_tree.specs.declared.statement.Statement.TheVariants.{Let, Compute, If', IfElse', While', Return, Call as CallOf, Sleep, Create, Destroy, Compound as CompoundOf, Default as DefaultOf}
use Rattle.script_tree.specs.declared.variables.Parameters.{Parameters}
use Rattle.script_tree.specs.declared.variables.Variables.{Variables}
use Rattle.script_tree.specs.declared.statement.CompoundStatement.{CompoundStatement}
use Rattle.script_tree.specs.declared.statement.CompoundStatement.TheVariants.{PostAll, NotifyAll, Pump, Dialog as DialogOf}
use Rattle.script_tree.specs.declared.frame.Begin.{Begin}
use Rattle.script_tree.specs.declared.frame.Dialog.{Dialog}
use Rattle.script_tree.specs.declared.frame.Modal.{Modal}
use Rattle.script_tree.specs.declared.frame.Modal.TheVariants.{Pump as PumpLoop, Dialog as DialogLoop}
use Rattle.script_tree.specs.declared.frame.Notice.{Notice}
use Rattle.script_tree.specs.declared.frame.Notices.{Notices}
use Rattle.script_tree.specs.declared.frame.Broadcast.{Broadcast}
use Rattle.script_tree.specs.declared.frame.Run.{Run}
use Rattle.script_tree.specs.declared.frame.Place.{Place}
use Rattle.script_tree.specs.declared.frame.Place.TheVariants.{Making as MakingWindow, Greeting, Telling, Undoing, Defaulting, Dooming, Unmaking as UnmakingPlace, Destroying, Parting, Dropping, Single, Calling, Notifying as NotifyingPlace, Seeking, Reaching, Getting, Translating, Dispatching, Opening, Disabling, Asking, Requitting, Finishing, Enabling}
use Rattle.script_tree.specs.declared.frame.Lead.{Lead}
use Rattle.script_tree.specs.declared.frame.Lead.TheVariants.{Calls as CallsLead, Runs as RunsLead, Ends}
use Rattle.script_tree.specs.Tree.{Tree, body_of, procedure_of}
use Rattle.script_tree.specs.Values.{value_of, holds, call_of, settling_call, dispatch_of, translate_of, creation_call, time_after, start, inside_of, settled}
use Rattle.script_tree.specs.Modals.{turns, enabling, loop_ends, quits as quits_so, dispatches, handles, after_getting, dialog_on, opens as opens_so, after_opening, was_enabled, after_disabling, after_asking}
use Rattle.script_tree.specs.Notices.{number_in, next_notice, others, notices_after, result_after}
use Rattle.script_tree.specs.Compounds.{sent, undoes, validation, compound_begin, notice_call, notifies_by, notifies, after_calling, reach, reaches_or_ends, after_seeking, default_begin, default_result, after_making, after_greeting, kept_or_undone, after_telling, after_dooming, after_unmaking, after_default, compound_after}
use Rattle.script_tree.specs.Pieces.{Piece, Lines, One, PassEnd, Making, Again, Giving, Settle, Quiet, Sleeping, Running, Leaving, Leaves, Left, Restore, Feed, State, Going, Returning, Given, Step, Becomes, Asks, Trace, End}
use Rattle.script_tree.specs.Steps.{step, statement, begins, begun_over, returns_to, takes, leaving, default_pieces, is_callback, goes_on, sleeps as slept, passes, follows, following, given, answered, after_answer, is_last, parameters_of, run_of, variables_of}
use Rattle.script_tree.specs.Traces.{Makes, over, silent, entry, cut, program, IsTrace}
use Rattle.script_tree.specs.Rows.{Point, At, CutBefore, on, going, settling, giving, returning, restoring, defaulting, undone, concluding, ends_call, is_final, is_refusal, entered, called_back, end_of, ByRows, Part, Body, Line, Asleep, Calls, Frame, Exit, DefaultFor, Destruction, Doomed, Unmaking, Unmade, Created, Greeted, Told, Notifying, Notified, Sends, Broadcasts, Found, Fetches, Fetched, Hands, Closes, Opens, Opened, Disabled, Asks, Asked, Quits, Finishes, Thread, Rows, call_cut, after_cut, body_over, body, body_left, lets, computes, if_holds, if_fails, if_first, if_second, while_ends, while_left, while_cut, while_again, while_yields, returns, makes, sleeps, asleep_refused, asleep, defaults, destroys, creates, compounds, call_waits, call_enters, call_back, leave_back, call_inside, call_calls, call_begins, call_ends, frame, exit_returned, exit_callback, exit_default, default_close, default_paint, default_erase, default_activate, default_cancel, default_greeting, default_other, destruction, doom_refused, doomed, unmaking, unmade_tell, unmade_last, unmade_refused, unmade_gone, create_refused, create_none, created, greeted_no, greeted, told_refused, told_no, told, compound_part, notifying, notified_refused, notified, sends_over, sends_next, broadcasts, found_refused, found_none, found, loop_part, quit_part, fetches, fetched_refused, fetched_none, fetched_quit, fetched_key, fetched, hands, closes_pump, opens, opened_refused, opened_alone, opened, disabled, disabled_before, asks, asked_running, asked_finished, asked_refused, asked_gone, quits, finishes, closes_alone, closes_dialog, thread}
use Rattle.script_tree.proofs.RowKinds.{IsGiven, IsReturned, IsRun, HasKind, kind, answering, answering_given, default_answered}
use Rattle.script_tree.proofs.Numbers.{number_is, number_isnt}
use Rattle.script_tree.proofs.RowSteps.{counted, uncounted, close_result, paint_result, erase_result, activate_result, cancel_result, alone_result}
use Rattle.script_tree.proofs.Defaults.{default_either, default_append, each_begin, PassesNone, no_begin, activates_number, activates_some, activates_not}

-- the `yield` of a `while` sets nothing
abbrev pub quieting : State → State
quieting (Given v a x) = Going v
quieting st = st

-- the place between two parts itself
abbrev pub same : State → State
same st = st

on_same : (got : Point) → on same got ≡ got
on_same (At st) = refl
on_same (CutBefore call) = refl

-- the state is changed so, without an entry
abbrev pub Maps : (State → State) → State → Trace → Point → Type 0
Maps f st tr out = (tr ≡ []) × (out ≡ At (f st))

-- one part and then the other, from what is made of the place between them
pub record Two (s : Tree) (part : Part) (before : Point) (behind : Part) (f : State → State) (tr : Trace) (out : Point) : Type 0 where
  pub first : Trace
  pub second : Trace
  pub mid : Point
  pub one : Rows s part before first mid
  pub other : Rows s behind (on f mid) second out
  pub all : tr ≡ first ++ second

-- a trace whose place at the end is changed so
pub record Mapped (P : Trace → Point → Type 0) (f : State → State) (tr : Trace) (out : Point) : Type 0 where
  pub got : Point
  pub row : P tr got
  pub result : out ≡ on f got

-- what a compound's traces are by the rows, from an answer on
abbrev pub CompoundRow : Tree → Place → Variables → Answer → ℕ → Trace → Point → Type 0
CompoundRow s MakingWindow v a x tr out = Rows s Created (At (Given v a x)) tr out
CompoundRow s (Greeting w) v a x tr out = Rows s (Greeted w) (At (Given v a x)) tr out
CompoundRow s (Telling w) v a x tr out = Rows s (Told w) (At (Given v a x)) tr out
CompoundRow s Undoing v a x tr out = Maps undone (Given v a x) tr out
CompoundRow s (Dooming w) v a x tr out = Rows s (Doomed w) (At (Given v a x)) tr out
CompoundRow s (UnmakingPlace w) v a x tr out = Rows s (Unmade w) (At (Given v a x)) tr out
CompoundRow s (Destroying w) v a x tr out = Rows s (Unmaking w) (At (Going v)) tr out
CompoundRow s (Parting w part) v a x tr out = Two s (Calls (Drop part)) (At (Going v)) (Unmaking w) going tr out
CompoundRow s (Dropping w) v a x tr out = Rows s (Unmaking w) (At (Going v)) tr out
CompoundRow s Single v a x tr out = Maps answering (Given v a x) tr out
CompoundRow s (Calling call) v a x tr out = Rows s (Notified call) (At (Given v a x)) tr out
CompoundRow s (NotifyingPlace ns y) v a x tr out = Rows s (Sends ns y) (At (Going v)) tr out
CompoundRow s (Seeking b) v a x tr out = Rows s (Found b) (At (Given v a x)) tr out
CompoundRow s (Reaching b w) v a x tr out = Rows s (Broadcasts b w) (At (Going v)) tr out
CompoundRow s (Getting l) v a x tr out = Rows s (Fetched l) (At (Given v a x)) tr out
CompoundRow s (Translating l msg) v a x tr out = Rows s (Hands l msg) (At (Going v)) tr out
CompoundRow s (Dispatching l) v a x tr out = Rows s (loop_part l) (At (Going v)) tr out
CompoundRow s (Opening w) v a x tr out = Rows s (Opened w) (At (Given v a x)) tr out
CompoundRow s (Disabling d) v a x tr out = Rows s (Disabled d) (At (Given v a x)) tr out
CompoundRow s (Asking d) v a x tr out = Rows s (Asked d) (At (Given v a x)) tr out
CompoundRow s (Requitting d) v a x tr out = Rows s (Finishes d) (At (Going v)) tr out
CompoundRow s (Finishing d) v a x tr out = Rows s (Asks d) (At (Going v)) tr out
CompoundRow s (Enabling b) v a x tr out = Maps (concluding b) (Given v a x) tr out
CompoundRow s (Defaulting y) v a x tr out = Maps (defaulting y) (Given v a x) tr out

-- one of two
abbrev pub OneOf : Bool → Type 0 → Type 0 → Type 0
OneOf true P Q = P
OneOf false P Q = Q

-- what a piece's traces are by the rows, from a state on
abbrev pub RowOf : Tree → Piece → State → ℕ → Trace → Point → Type 0
RowOf s (Lines lines) (Going v) n tr out = Rows s (Body lines) (At (Going v)) tr out
RowOf s (One line) (Going v) n tr out = Rows s (Line line) (At (Going v)) tr out
RowOf s (PassEnd loop began) (Going v) n tr out = OneOf (n == began) (Two s (Calls Yield) (At (Going v)) (Line loop) going tr out) (Rows s (Line loop) (At (Going v)) tr out)
RowOf s (Making call) (Going v) n tr out = Rows s (Calls call) (At (Going v)) tr out
RowOf s (Making call) (Returning v x) n tr out = Rows s (Calls call) (At (Going v)) tr out
RowOf s (Again call) (Returning v x) n tr out = Rows s (Calls call) (At (Going v)) tr out
RowOf s (Giving a) (Going v) n tr out = (tr ≡ []) × (out ≡ At (Given v a 0))
RowOf s (Giving a) (Returning v x) n tr out = (tr ≡ []) × (out ≡ At (Given v a x))
RowOf s (Settle call) st n tr out = Maps (settling call) st tr out
RowOf s Quiet st n tr out = Maps quieting st tr out
RowOf s (Sleeping ms) (Given v a x) n tr out = Rows s (Asleep ms) (At (Given v a x)) tr out
RowOf s (Running run) (Going v) n tr out = Rows s (Frame run) (At (Going v)) tr out
RowOf s (Leaving run) (Going v) n tr out = Rows s (Exit run) (At (Going v)) tr out
RowOf s (Leaving run) (Returning v x) n tr out = Rows s (Exit run) (At (Returning v x)) tr out
RowOf s (Leaves f x) (Going v) n tr out = Rows s (Calls (Leave x)) (At (Going v)) tr out
RowOf s (Left x) st n tr out = Maps (returning x) st tr out
RowOf s (Restore p) st n tr out = Maps (restoring p) st tr out
RowOf s (Feed q) (Given v a x) n tr out = CompoundRow s q v a x tr out
RowOf s p st n tr out = (tr ≡ []) × (out ≡ At st)

-- pieces one after another, each by the rows
pub data Parts (s : Tree) : List Piece → State → ℕ → Trace → Point → Type 0 where
  none : {st : State} {n : ℕ} → Parts s [] st n [] (At st)
  stop : {p : Piece} {left : List Piece} {st : State} {n : ℕ} {tr : Trace} (call : Call) → RowOf s p st n tr (CutBefore call) → Parts s (p ∷ left) st n tr (CutBefore call)
  next : {p : Piece} {left : List Piece} {st : State} {n : ℕ} {tr : Trace} {out : Point} (first second : Trace) (mid : State) (m : ℕ) → m ≡ n + length first → tr ≡ first ++ second → RowOf s p st n first (At mid) → Parts s left mid m second out → Parts s (p ∷ left) st n tr out

-- a trace of pieces and more is cut in the first of them, or is one of these and then one of the others
pub data Divided (s : Tree) (ps qs : List Piece) (st : State) (n : ℕ) (tr : Trace) (out : Point) : Type 0 where
  stopped : (call : Call) → Parts s ps st n tr (CutBefore call) → out ≡ CutBefore call → Divided s ps qs st n tr out
  parted : (first second : Trace) (mid : State) (m : ℕ) → m ≡ n + length first → tr ≡ first ++ second → Parts s ps st n first (At mid) → Parts s qs mid m second out → Divided s ps qs st n tr out

module _ (s : Tree) where
  next_divided : (p : Piece) (ps qs : List Piece) (st : State) (n : ℕ) (tr : Trace) (out : Point) (first second : Trace) (mid : State) (m : ℕ) → m ≡ n + length first → tr ≡ first ++ second → RowOf s p st n first (At mid) → Divided s ps qs mid m second out → Divided s (p ∷ ps) qs st n tr out
  next_divided p ps qs st n tr out first second mid m e f r (stopped call d g) = stopped call (next first second mid m e f r d) g
  next_divided p ps qs st n tr out first second mid m e f r (parted third last mid' m' e' f' d d') =
      parted (first ++ third) last mid' m' (omega (arith, e, e', length-append first third)) (f ∙ ap (λ x. first ++ x) f' ∙ sym (append_assoc first third last)) (next first third mid m e refl r d) d'

  divide : (ps qs : List Piece) {st : State} {n : ℕ} {tr : Trace} {out : Point} → Parts s (ps ++ qs) st n tr out → Divided s ps qs st n tr out
  divide [] qs {st} {n} {tr} d = parted [] tr st n (omega arith) refl none d
  divide (p ∷ ps) qs (stop call r) = stopped call (stop call r) refl
  divide (p ∷ ps) qs {st} {n} {tr} {out} (next first second mid m e f r d) = next_divided p ps qs st n tr out first second mid m e f r (divide ps qs d)

  -- nothing: an empty trace
  nothing : {st : State} {n : ℕ} {tr : Trace} {out : Point} → Parts s [] st n tr out → (tr ≡ []) × (out ≡ At st)
  nothing none = (refl, refl)

  empty : (P : Trace → Point → Type 0) {st : State} {n : ℕ} {tr : Trace} {out : Point} → P [] (At st) → Parts s [] st n tr out → P tr out
  empty P r none = r

  -- a single piece
  single_end : (p : Piece) (st : State) (n : ℕ) (tr first second : Trace) (mid : State) (out : Point) → tr ≡ first ++ second → (second ≡ []) × (out ≡ At mid) → RowOf s p st n first (At mid) → RowOf s p st n tr out
  single_end p st n tr first second mid out f e r =
      subst (λ x. RowOf s p st n x out) (sym (f ∙ ap (λ x. first ++ x) e.0 ∙ append-nil first)) (subst (λ x. RowOf s p st n first x) (sym e.1) r)

  single : {p : Piece} {st : State} {n : ℕ} {tr : Trace} {out : Point} → Parts s (p ∷ []) st n tr out → RowOf s p st n tr out
  single (stop call r) = r
  single {p} {st} {n} {tr} {out} (next first second mid m e f r d) = single_end p st n tr first second mid out f (nothing d) r

  -- what a piece becomes, put back before what is left
  back : (p : Piece) (ps left : List Piece) (st st' : State) (n : ℕ) (tr : Trace) (out : Point) → ((tr : Trace) (out : Point) → Parts s ps st' n tr out → RowOf s p st n tr out) → Divided s ps left st' n tr out → Parts s (p ∷ left) st n tr out
  back p ps left st st' n tr out h (stopped call d g) = subst (λ x. Parts s (p ∷ left) st n tr x) (sym g) (stop call (h tr (CutBefore call) d))
  back p ps left st st' n tr out h (parted first second mid m e f d d') = next first second mid m e f (h first (At mid) d) d'

  back_entry : (p : Piece) (ps left : List Piece) (st st' : State) (n : ℕ) (x : Call × Answer) (tr : Trace) (out : Point) → ((tr : Trace) (out : Point) → Parts s ps st' (suc n) tr out → RowOf s p st n (x ∷ tr) out) → Divided s ps left st' (suc n) tr out → Parts s (p ∷ left) st n (x ∷ tr) out
  back_entry p ps left st st' n x tr out h (stopped call d g) = subst (λ y. Parts s (p ∷ left) st n (x ∷ tr) y) (sym g) (stop call (h tr (CutBefore call) d))
  back_entry p ps left st st' n x tr out h (parted first second mid m e f d d') = next (x ∷ first) second mid m (omega (arith, e)) (ap (λ y. x ∷ y) f) (h first (At mid) d) d'

  -- a piece that only changes the state, before others
  after_map : (p : Piece) (left : List Piece) (f : State → State) (st : State) (n : ℕ) (tr : Trace) (out : Point) → ((tr : Trace) (out : Point) → RowOf s p st n tr out → Maps f st tr out) → Parts s (p ∷ left) st n tr out → Parts s left (f st) n tr out
  after_map p left f st n tr out h (stop call r) = let e : CutBefore call ≡ At (f st) = (h tr (CutBefore call) r).1 in absurd cc
  after_map p left f st n tr out h (next first second mid m e g r d) =
      let k = h first (At mid) r in
      let i : mid ≡ f st = cc (k.1) in
      let j : m ≡ n = omega (arith, e, ap length k.0) in
      subst (λ x. Parts s left (f st) n x out) (sym (g ∙ ap (λ x. x ++ second) k.0)) (subst (λ x. Parts s left (f st) x second out) j (subst (λ x. Parts s left x m second out) i d))

  -- one part and then another
  two_of : (ps qs : List Piece) (part : Part) (before : Point) (behind : Part) (f : State → State) (st : State) (n : ℕ) (tr : Trace) (out : Point) → ((tr : Trace) (out : Point) → Parts s ps st n tr out → Rows s part before tr out) → ((mid : State) (m : ℕ) (tr : Trace) (out : Point) → HasKind part (At mid) → Parts s qs mid m tr out → Rows s behind (At (f mid)) tr out) → Divided s ps qs st n tr out → Two s part before behind f tr out
  two_of ps qs part before behind f st n tr out h k (stopped call d g) = record { first = tr; second = []; mid = CutBefore call; one = h tr (CutBefore call) d; other = subst (λ x. Rows s behind (CutBefore call) [] x) (sym g) after_cut; all = sym (append-nil tr) }
  two_of ps qs part before behind f st n tr out h k (parted first second mid m e g d d') = let r = h first (At mid) d in record { first = first; second = second; mid = At mid; one = r; other = k mid m second out (kind s r) d'; all = g }

  mapped_of : (ps : List Piece) (p : Piece) (P : Trace → Point → Type 0) (f : State → State) (st : State) (n : ℕ) (tr : Trace) (out : Point) → ((tr : Trace) (out : Point) → Parts s ps st n tr out → P tr out) → ((first : Trace) (mid : State) (m : ℕ) (tr : Trace) (out : Point) → P first (At mid) → RowOf s p mid m tr out → Maps f mid tr out) → Divided s ps (p ∷ []) st n tr out → Mapped P f tr out
  mapped_of ps p P f st n tr out h k (stopped call d g) = record { got = CutBefore call; row = h tr (CutBefore call) d; result = g }
  mapped_of ps p P f st n tr out h k (parted first second mid m e g d d') =
      let r = h first (At mid) d in
      let q = k first mid m second out r (single d') in
      record { got = At mid; row = subst (λ x. P x (At mid)) (sym (g ∙ ap (λ x. first ++ x) q.0 ∙ append-nil first)) r; result = q.1 }

  -- from the place between them itself
  same_other : {part : Part} {before : Point} {behind : Part} {tr : Trace} {out : Point} (r : Two s part before behind same tr out) → Rows s behind r.mid r.second out
  same_other {behind = behind} {out = out} r = subst (λ x. Rows s behind x r.second out) (on_same r.mid) r.other

  at_empty : (P : Trace → Point → Type 0) (st : State) (tr : Trace) (out : Point) → P [] (At st) → (tr ≡ []) × (out ≡ At st) → P tr out
  at_empty P st tr out r k = subst (λ x. P x out) (sym k.0) (subst (λ x. P [] x) (sym k.1) r)

  -- where a step leads, the rows say the same
  abbrev StepTo : State → ℕ → (Trace → Point → Type 0) → Step → Type 0
  StepTo st n P (Becomes ps st') = (tr : Trace) (out : Point) → Parts s ps st' n tr out → P tr out
  StepTo st n P (Asks call) = ((a : Answer) (tr : Trace) (out : Point) → Parts s (follows call a) (answered call a (variables_of st)) (suc n) tr out → P ((call, a) ∷ tr) out) × P [] (CutBefore call)

  either : (st : State) (n : ℕ) (P : Trace → Point → Type 0) (b : Bool) (x y : Step) → (b ≡ true → StepTo st n P x) → (b ≡ false → StepTo st n P y) → StepTo st n P (if b then x else y)
  either st n P true x y f g = f refl
  either st n P false x y f g = g refl

  either_lead : (st : State) (n : ℕ) (P : Trace → Point → Type 0) (v : Variables) (b : Bool) (x y : Lead) → (b ≡ true → StepTo st n P (goes_on v x)) → (b ≡ false → StepTo st n P (goes_on v y)) → StepTo st n P (goes_on v (if b then x else y))
  either_lead st n P v true x y f g = f refl
  either_lead st n P v false x y f g = g refl

  -- and what follows from them
  step_maps : (st : State) (n : ℕ) (P Q : Trace → Point → Type 0) (x : Step) → ((tr : Trace) (out : Point) → P tr out → Q tr out) → StepTo st n P x → StepTo st n Q x
  step_maps st n P Q (Becomes ps st') f h = λ tr out d. f tr out (h tr out d)
  step_maps st n P Q (Asks call) f h = ((λ a tr out d. f ((call, a) ∷ tr) out (h.0 a tr out d)), f [] (CutBefore call) h.1)

  -- calls
  final_last : (call : Call) (a : Answer) → a ≢ Wait → is_last call ≡ true → is_final call a ≡ true
  final_last call Wait h e = absurd (h refl)
  final_last call a h e = ap (λ z. if z then true else ends_call call a) e

  final_ends : (call : Call) (a : Answer) → a ≢ Wait → is_last call ≡ false → ends_call call a ≡ true → is_final call a ≡ true
  final_ends call Wait h e f = absurd (h refl)
  final_ends call a h e f = ap (λ z. if z then true else ends_call call a) e ∙ f

  ended_call : (call : Call) (a : Answer) (v : Variables) (n : ℕ) (tr : Trace) (out : Point) → is_final call a ≡ true → Parts s [] (given v a) n tr out → Rows s (Calls call) (At (Going v)) ((call, a) ∷ tr) out
  ended_call call a v n tr out h d = empty (λ tr out. Rows s (Calls call) (At (Going v)) ((call, a) ∷ tr) out) (call_ends h) d

  again_row : (call : Call) (mid : State) (m : ℕ) (tr : Trace) (out : Point) → IsReturned (At mid) → Parts s (Again call ∷ []) mid m tr out → Rows s (Calls call) (At (going mid)) tr out
  again_row call (Going v) m tr out k d = absurd k
  again_row call (Returning v x) m tr out k d = single d
  again_row call (Given v a x) m tr out k d = absurd k

  attempt : (call : Call) (run : Run) (v : Variables) (n : ℕ) (tr : Trace) (out : Point) → Parts s (Running run ∷ Again call ∷ []) (Going v) n tr out → Two s (Frame run) (At (Going v)) (Calls call) going tr out
  attempt call run v n tr out d = two_of (Running run ∷ []) (Again call ∷ []) (Frame run) (At (Going v)) (Calls call) going (Going v) n tr out (λ tr out x. single x) (again_row call) (divide (Running run ∷ []) (Again call ∷ []) d)

  giving_at : (a : Answer) (mid : State) (m : ℕ) (tr : Trace) (out : Point) → IsReturned (At mid) → RowOf s (Giving a) mid m tr out → Maps (giving a) mid tr out
  giving_at a (Going v) m tr out k r = absurd k
  giving_at a (Returning v x) m tr out k r = r
  giving_at a (Given v b x) m tr out k r = absurd k

  given_run : (a : Answer) (run : Run) (v : Variables) (n : ℕ) (tr : Trace) (out : Point) → Parts s (Running run ∷ Giving a ∷ []) (Going v) n tr out → Mapped (λ tr out. Rows s (Frame run) (At (Going v)) tr out) (giving a) tr out
  given_run a run v n tr out d = mapped_of (Running run ∷ []) (Giving a) (λ tr out. Rows s (Frame run) (At (Going v)) tr out) (giving a) (Going v) n tr out (λ tr out x. single x) (λ first mid m tr out r k. giving_at a mid m tr out (kind s r) k) (divide (Running run ∷ []) (Giving a ∷ []) d)

  back_row : (b : Bool) (call : Call) (sid : SendId) (proc_no : ℕ) (w : Hwnd) (number extra result : ℕ) (v : Variables) (n : ℕ) (tr : Trace) (out : Point) → is_last call ≡ false → leaves call ≡ b → Parts s (Running (called_back proc_no w.0 number extra result) ∷ (if b then Giving (Callback sid proc_no w number extra result) else Again call) ∷ []) (Going v) n tr out → Rows s (Calls call) (At (Going v)) ((call, Callback sid proc_no w number extra result) ∷ tr) out
  back_row true call sid proc_no w number extra result v n tr out h g d = let r = given_run (Callback sid proc_no w number extra result) (called_back proc_no w.0 number extra result) v n tr out d in leave_back h g r.row r.result
  back_row false call sid proc_no w number extra result v n tr out h g d = let r = attempt call (called_back proc_no w.0 number extra result) v n tr out d in call_back h g r.one r.other r.all

  begun_row : (b : Bool) (call : Call) (sid : SendId) (v : Variables) (n : ℕ) (tr : Trace) (out : Point) → is_last call ≡ false → waits call ≡ b → Parts s (if b then Making (Await sid.0) ∷ [] else []) (if b then Going v else given v (Begun sid)) n tr out → Rows s (Calls call) (At (Going v)) ((call, Begun sid) ∷ tr) out
  begun_row true call sid v n tr out h g d = call_begins g (single d)
  begun_row false call sid v n tr out h g d = ended_call call (Begun sid) v n tr out (final_ends call (Begun sid) (λ e. absurd cc) h (ap not g)) d

  not_last : (call : Call) (a : Answer) (v : Variables) (n : ℕ) (tr : Trace) (out : Point) → a ≢ Wait → is_last call ≡ false → Parts s (following call a) (after_answer call a v) n tr out → Rows s (Calls call) (At (Going v)) ((call, a) ∷ tr) out
  not_last call Wait v n tr out k h d = absurd (k refl)
  not_last call (Enter sid proc_no w number wparam lparam) v n tr out k h d = let r = attempt call (entered sid proc_no w.0 number wparam lparam) v n tr out d in call_enters h r.one r.other r.all
  not_last call (Callback sid proc_no w number extra result) v n tr out k h d = back_row (leaves call) call sid proc_no w number extra result v n tr out h refl d
  not_last call (Inside sid proc_no) v n tr out k h d = let r = given_run (Inside sid proc_no) (run_of proc_no (parameters_of call) (InsideFrame sid)) v n tr out d in call_inside h r.row r.result
  not_last call (Called proc_no) v n tr out k h d = let r = given_run (Called proc_no) (run_of proc_no (parameters_of call) CalledFrame) v n tr out d in call_calls h r.row r.result
  not_last call (Begun sid) v n tr out k h d = begun_row (waits call) call sid v n tr out h refl d
  not_last call a v n tr out k h d = ended_call call a v n tr out (final_ends call a k h refl) d

  either_last : (b : Bool) (call : Call) (a : Answer) (v : Variables) (n : ℕ) (tr : Trace) (out : Point) → a ≢ Wait → is_last call ≡ b → Parts s (if b then [] else following call a) (if b then given v a else after_answer call a v) n tr out → Rows s (Calls call) (At (Going v)) ((call, a) ∷ tr) out
  either_last true call a v n tr out k h d = ended_call call a v n tr out (final_last call a k h) d
  either_last false call a v n tr out k h d = not_last call a v n tr out k h d

  after_call : (call : Call) (a : Answer) (v : Variables) (n : ℕ) (tr : Trace) (out : Point) → Parts s (follows call a) (answered call a v) n tr out → Rows s (Calls call) (At (Going v)) ((call, a) ∷ tr) out
  after_call call Wait v n tr out d = call_waits (single d)
  after_call call a v n tr out d = either_last (is_last call) call a v n tr out (λ e. absurd cc) refl d

  -- a call and one more piece
  call_first : (call : Call) (q : Piece) (behind : Part) (f : State → State) (v : Variables) (n : ℕ) (tr : Trace) (out : Point) → ((mid : State) (m : ℕ) (tr : Trace) (out : Point) → IsGiven (At mid) → RowOf s q mid m tr out → Rows s behind (At (f mid)) tr out) → Parts s (Making call ∷ q ∷ []) (Going v) n tr out → Two s (Calls call) (At (Going v)) behind f tr out
  call_first call q behind f v n tr out h d = two_of (Making call ∷ []) (q ∷ []) (Calls call) (At (Going v)) behind f (Going v) n tr out (λ tr out x. single x) (λ mid m tr out k x. h mid m tr out k (single x)) (divide (Making call ∷ []) (q ∷ []) d)

  call_settles : (call : Call) (v : Variables) (n : ℕ) (tr : Trace) (out : Point) → Parts s (Making call ∷ Settle call ∷ []) (Going v) n tr out → Mapped (λ tr out. Rows s (Calls call) (At (Going v)) tr out) (settling call) tr out
  call_settles call v n tr out d = mapped_of (Making call ∷ []) (Settle call) (λ tr out. Rows s (Calls call) (At (Going v)) tr out) (settling call) (Going v) n tr out (λ tr out x. single x) (λ first mid m tr out r k. k) (divide (Making call ∷ []) (Settle call ∷ []) d)

  -- what a part behind a call begins with
  asleep_at : (ms : ℕ) (mid : State) (m : ℕ) (tr : Trace) (out : Point) → IsGiven (At mid) → RowOf s (Sleeping ms) mid m tr out → Rows s (Asleep ms) (At mid) tr out
  asleep_at ms (Going v) m tr out k r = absurd k
  asleep_at ms (Returning v x) m tr out k r = absurd k
  asleep_at ms (Given v a x) m tr out k r = r

  created_at : (mid : State) (m : ℕ) (tr : Trace) (out : Point) → IsGiven (At mid) → RowOf s (Feed MakingWindow) mid m tr out → Rows s Created (At mid) tr out
  created_at (Going v) m tr out k r = absurd k
  created_at (Returning v x) m tr out k r = absurd k
  created_at (Given v a x) m tr out k r = r

  greeted_at : (w : ℕ) (mid : State) (m : ℕ) (tr : Trace) (out : Point) → IsGiven (At mid) → RowOf s (Feed (Greeting w)) mid m tr out → Rows s (Greeted w) (At mid) tr out
  greeted_at w (Going v) m tr out k r = absurd k
  greeted_at w (Returning v x) m tr out k r = absurd k
  greeted_at w (Given v a x) m tr out k r = r

  told_at : (w : ℕ) (mid : State) (m : ℕ) (tr : Trace) (out : Point) → IsGiven (At mid) → RowOf s (Feed (Telling w)) mid m tr out → Rows s (Told w) (At mid) tr out
  told_at w (Going v) m tr out k r = absurd k
  told_at w (Returning v x) m tr out k r = absurd k
  told_at w (Given v a x) m tr out k r = r

  -- what a compound's place begins with behind its call, and behind the compound inside of it
  doomed_at : (w : ℕ) (mid : State) (m : ℕ) (tr : Trace) (out : Point) → IsGiven (At mid) → RowOf s (Feed (Dooming w)) mid m tr out → Rows s (Doomed w) (At mid) tr out
  doomed_at w (Going v) m tr out k r = absurd k
  doomed_at w (Returning v x) m tr out k r = absurd k
  doomed_at w (Given v a x) m tr out k r = r

  unmade_at : (w : ℕ) (mid : State) (m : ℕ) (tr : Trace) (out : Point) → IsGiven (At mid) → RowOf s (Feed (UnmakingPlace w)) mid m tr out → Rows s (Unmade w) (At mid) tr out
  unmade_at w (Going v) m tr out k r = absurd k
  unmade_at w (Returning v x) m tr out k r = absurd k
  unmade_at w (Given v a x) m tr out k r = r

  destroying_at : (w : ℕ) (mid : State) (m : ℕ) (tr : Trace) (out : Point) → IsGiven (At mid) → RowOf s (Feed (Destroying w)) mid m tr out → Rows s (Unmaking w) (At (going mid)) tr out
  destroying_at w (Going v) m tr out k r = absurd k
  destroying_at w (Returning v x) m tr out k r = absurd k
  destroying_at w (Given v a x) m tr out k r = r

  dropping_at : (w : ℕ) (mid : State) (m : ℕ) (tr : Trace) (out : Point) → IsGiven (At mid) → RowOf s (Feed (Dropping w)) mid m tr out → Rows s (Unmaking w) (At (going mid)) tr out
  dropping_at w (Going v) m tr out k r = absurd k
  dropping_at w (Returning v x) m tr out k r = absurd k
  dropping_at w (Given v a x) m tr out k r = r

  undoing_at : (mid : State) (m : ℕ) (tr : Trace) (out : Point) → IsGiven (At mid) → RowOf s (Feed Undoing) mid m tr out → Maps undone mid tr out
  undoing_at (Going v) m tr out k r = absurd k
  undoing_at (Returning v x) m tr out k r = absurd k
  undoing_at (Given v a x) m tr out k r = r

  defaulting_at : (y : ℕ) (mid : State) (m : ℕ) (tr : Trace) (out : Point) → IsGiven (At mid) → RowOf s (Feed (Defaulting y)) mid m tr out → Maps (defaulting y) mid tr out
  defaulting_at y (Going v) m tr out k r = absurd k
  defaulting_at y (Returning v x) m tr out k r = absurd k
  defaulting_at y (Given v a x) m tr out k r = r

  single_at : (mid : State) (m : ℕ) (tr : Trace) (out : Point) → IsGiven (At mid) → RowOf s (Feed Single) mid m tr out → Maps answering mid tr out
  single_at (Going v) m tr out k r = absurd k
  single_at (Returning v x) m tr out k r = absurd k
  single_at (Given v a x) m tr out k r = r

  notified_at : (call : Call) (mid : State) (m : ℕ) (tr : Trace) (out : Point) → IsGiven (At mid) → RowOf s (Feed (Calling call)) mid m tr out → Rows s (Notified call) (At mid) tr out
  notified_at call (Going v) m tr out k r = absurd k
  notified_at call (Returning v x) m tr out k r = absurd k
  notified_at call (Given v a x) m tr out k r = r

  sends_at : (ns : Notices) (y : ℕ) (mid : State) (m : ℕ) (tr : Trace) (out : Point) → IsGiven (At mid) → RowOf s (Feed (NotifyingPlace ns y)) mid m tr out → Rows s (Sends ns y) (At (going mid)) tr out
  sends_at ns y (Going v) m tr out k r = absurd k
  sends_at ns y (Returning v x) m tr out k r = absurd k
  sends_at ns y (Given v a x) m tr out k r = r

  found_at : (b : Broadcast) (mid : State) (m : ℕ) (tr : Trace) (out : Point) → IsGiven (At mid) → RowOf s (Feed (Seeking b)) mid m tr out → Rows s (Found b) (At mid) tr out
  found_at b (Going v) m tr out k r = absurd k
  found_at b (Returning v x) m tr out k r = absurd k
  found_at b (Given v a x) m tr out k r = r

  reached_at : (b : Broadcast) (w : ℕ) (mid : State) (m : ℕ) (tr : Trace) (out : Point) → IsGiven (At mid) → RowOf s (Feed (Reaching b w)) mid m tr out → Rows s (Broadcasts b w) (At (going mid)) tr out
  reached_at b w (Going v) m tr out k r = absurd k
  reached_at b w (Returning v x) m tr out k r = absurd k
  reached_at b w (Given v a x) m tr out k r = r

  fetched_at : (l : Modal) (mid : State) (m : ℕ) (tr : Trace) (out : Point) → IsGiven (At mid) → RowOf s (Feed (Getting l)) mid m tr out → Rows s (Fetched l) (At mid) tr out
  fetched_at l (Going v) m tr out k r = absurd k
  fetched_at l (Returning v x) m tr out k r = absurd k
  fetched_at l (Given v a x) m tr out k r = r

  translated_at : (l : Modal) (msg : Msg) (mid : State) (m : ℕ) (tr : Trace) (out : Point) → IsGiven (At mid) → RowOf s (Feed (Translating l msg)) mid m tr out → Rows s (Hands l msg) (At (going mid)) tr out
  translated_at l msg (Going v) m tr out k r = absurd k
  translated_at l msg (Returning v x) m tr out k r = absurd k
  translated_at l msg (Given v a x) m tr out k r = r

  dispatched_at : (l : Modal) (mid : State) (m : ℕ) (tr : Trace) (out : Point) → IsGiven (At mid) → RowOf s (Feed (Dispatching l)) mid m tr out → Rows s (loop_part l) (At (going mid)) tr out
  dispatched_at l (Going v) m tr out k r = absurd k
  dispatched_at l (Returning v x) m tr out k r = absurd k
  dispatched_at l (Given v a x) m tr out k r = r

  opened_at : (w : ℕ) (mid : State) (m : ℕ) (tr : Trace) (out : Point) → IsGiven (At mid) → RowOf s (Feed (Opening w)) mid m tr out → Rows s (Opened w) (At mid) tr out
  opened_at w (Going v) m tr out k r = absurd k
  opened_at w (Returning v x) m tr out k r = absurd k
  opened_at w (Given v a x) m tr out k r = r

  disabled_at : (d : Dialog) (mid : State) (m : ℕ) (tr : Trace) (out : Point) → IsGiven (At mid) → RowOf s (Feed (Disabling d)) mid m tr out → Rows s (Disabled d) (At mid) tr out
  disabled_at d (Going v) m tr out k r = absurd k
  disabled_at d (Returning v x) m tr out k r = absurd k
  disabled_at d (Given v a x) m tr out k r = r

  asked_at : (d : Dialog) (mid : State) (m : ℕ) (tr : Trace) (out : Point) → IsGiven (At mid) → RowOf s (Feed (Asking d)) mid m tr out → Rows s (Asked d) (At mid) tr out
  asked_at d (Going v) m tr out k r = absurd k
  asked_at d (Returning v x) m tr out k r = absurd k
  asked_at d (Given v a x) m tr out k r = r

  requit_at : (d : Dialog) (mid : State) (m : ℕ) (tr : Trace) (out : Point) → IsGiven (At mid) → RowOf s (Feed (Requitting d)) mid m tr out → Rows s (Finishes d) (At (going mid)) tr out
  requit_at d (Going v) m tr out k r = absurd k
  requit_at d (Returning v x) m tr out k r = absurd k
  requit_at d (Given v a x) m tr out k r = r

  finished_at : (d : Dialog) (mid : State) (m : ℕ) (tr : Trace) (out : Point) → IsGiven (At mid) → RowOf s (Feed (Finishing d)) mid m tr out → Rows s (Asks d) (At (going mid)) tr out
  finished_at d (Going v) m tr out k r = absurd k
  finished_at d (Returning v x) m tr out k r = absurd k
  finished_at d (Given v a x) m tr out k r = r

  enabled_at : (b : Answer) (mid : State) (m : ℕ) (tr : Trace) (out : Point) → IsGiven (At mid) → RowOf s (Feed (Enabling b)) mid m tr out → Maps (concluding b) mid tr out
  enabled_at b (Going v) m tr out k r = absurd k
  enabled_at b (Returning v x) m tr out k r = absurd k
  enabled_at b (Given v a x) m tr out k r = r

  -- a compound that sends messages
  notifying_rows : (call : Call) (v : Variables) (n : ℕ) (tr : Trace) (out : Point) → Parts s (Making call ∷ Feed (Calling call) ∷ []) (Going v) n tr out → Rows s (Notifying call) (At (Going v)) tr out
  notifying_rows call v n tr out d = let r = call_first call (Feed (Calling call)) (Notified call) same v n tr out (notified_at call) d in notifying r.one (same_other r) r.all

  -- dialogs
  asks_rows : (d : Dialog) (v : Variables) (n : ℕ) (tr : Trace) (out : Point) → Parts s (Making (DialogState d.window) ∷ Feed (Asking d) ∷ []) (Going v) n tr out → Rows s (Asks d) (At (Going v)) tr out
  asks_rows d v n tr out p = let r = call_first (DialogState d.window) (Feed (Asking d)) (Asked d) same v n tr out (asked_at d) p in asks r.one (same_other r) r.all

  finishes_rows : (d : Dialog) (v : Variables) (n : ℕ) (tr : Trace) (out : Point) → Parts s (Making (EndDialog d.window 0) ∷ Feed (Finishing d) ∷ []) (Going v) n tr out → Rows s (Finishes d) (At (Going v)) tr out
  finishes_rows d v n tr out p = let r = call_first (EndDialog d.window 0) (Feed (Finishing d)) (Asks d) going v n tr out (finished_at d) p in finishes r.one r.other r.all

  quit_rows : (d : Dialog) (code : ℕ) (v : Variables) (n : ℕ) (tr : Trace) (out : Point) → Parts s (Making (PostQuit code) ∷ Feed (Requitting d) ∷ []) (Going v) n tr out → Rows s (Quits d code) (At (Going v)) tr out
  quit_rows d code v n tr out p = let r = call_first (PostQuit code) (Feed (Requitting d)) (Finishes d) going v n tr out (requit_at d) p in quits r.one r.other r.all

  opens_rows : (w : ℕ) (v : Variables) (n : ℕ) (tr : Trace) (out : Point) → Parts s (Making (BeginDialog w) ∷ Feed (Opening w) ∷ []) (Going v) n tr out → Rows s (Opens w) (At (Going v)) tr out
  opens_rows w v n tr out p = let r = call_first (BeginDialog w) (Feed (Opening w)) (Opened w) same v n tr out (opened_at w) p in opens r.one (same_other r) r.all

  -- with the compound that enables its owner, and with the one that disables it
  enabling_rows : (w : ℕ) (b : Answer) (v : Variables) (n : ℕ) (tr : Trace) (out : Point) → Parts s (Making (Enable w 1) ∷ Feed (Calling (Enable w 1)) ∷ Feed (Enabling b) ∷ []) (Going v) n tr out → Mapped (λ tr out. Rows s (Notifying (Enable w 1)) (At (Going v)) tr out) (concluding b) tr out
  enabling_rows w b v n tr out p =
      mapped_of (Making (Enable w 1) ∷ Feed (Calling (Enable w 1)) ∷ []) (Feed (Enabling b)) (λ tr out. Rows s (Notifying (Enable w 1)) (At (Going v)) tr out) (concluding b) (Going v) n tr out (notifying_rows (Enable w 1) v n) (λ first mid m tr out r k. enabled_at b mid m tr out (kind s r) k) (divide (Making (Enable w 1) ∷ Feed (Calling (Enable w 1)) ∷ []) (Feed (Enabling b) ∷ []) p)

  disabling_two : (w o : ℕ) (v : Variables) (n : ℕ) (tr : Trace) (out : Point) → Parts s (Making (Enable o 0) ∷ Feed (Calling (Enable o 0)) ∷ Feed (Disabling (dialog_on w o)) ∷ []) (Going v) n tr out → Two s (Notifying (Enable o 0)) (At (Going v)) (Disabled (dialog_on w o)) same tr out
  disabling_two w o v n tr out p =
      two_of (Making (Enable o 0) ∷ Feed (Calling (Enable o 0)) ∷ []) (Feed (Disabling (dialog_on w o)) ∷ []) (Notifying (Enable o 0)) (At (Going v)) (Disabled (dialog_on w o)) same (Going v) n tr out (notifying_rows (Enable o 0) v n) (λ mid m tr out k x. disabled_at (dialog_on w o) mid m tr out k (single x)) (divide (Making (Enable o 0) ∷ Feed (Calling (Enable o 0)) ∷ []) (Feed (Disabling (dialog_on w o)) ∷ []) p)

  opens_lead : (w : ℕ) (v : Variables) (a : Answer) (x n : ℕ) → is_refusal a ≡ false → StepTo (Given v a x) n (λ tr out. Rows s (Opened w) (At (Given v a x)) tr out) (goes_on v (opens_so w (number_in a)))
  opens_lead w v a x n g =
      either_lead (Given v a x) n (λ tr out. Rows s (Opened w) (At (Given v a x)) tr out) v (number_in a == 0) (turns (DialogLoop (dialog_on w 0))) (RunsLead (enabling (number_in a) 0) (Disabling (dialog_on w (number_in a))))
      (λ h tr out p. opened_alone g (number_is (number_in a) 0 h) (asks_rows (dialog_on w 0) v n tr out p))
      (λ h tr out p. let r = disabling_two w (number_in a) v n tr out p in opened g (number_isnt (number_in a) 0 h) r.one (same_other r) r.all)

  opening_rows : (w : ℕ) (v : Variables) (a : Answer) (x n : ℕ) → StepTo (Given v a x) n (λ tr out. Rows s (Opened w) (At (Given v a x)) tr out) (goes_on v (after_opening w a))
  opening_rows w v (Refused code) x n = λ tr out p. empty (λ tr out. Rows s (Opened w) (At (Given v (Refused code) x)) tr out) (opened_refused refl) p
  opening_rows w v a x n = opens_lead w v a x n refl

  disabling_rows : (d : Dialog) (v : Variables) (a : Answer) (x n : ℕ) → StepTo (Given v a x) n (λ tr out. Rows s (Disabled d) (At (Given v a x)) tr out) (goes_on v (after_disabling d a))
  disabling_rows d v a x n =
      either_lead (Given v a x) n (λ tr out. Rows s (Disabled d) (At (Given v a x)) tr out) v (was_enabled a) (turns (DialogLoop d)) (turns (DialogLoop (dialog_on d.window 0)))
      (λ h tr out p. disabled h (asks_rows d v n tr out p))
      (λ h tr out p. disabled_before h (asks_rows (dialog_on d.window 0) v n tr out p))

  -- loops of messages
  fetches_rows : (l : Modal) (v : Variables) (n : ℕ) (tr : Trace) (out : Point) → Parts s (Making (Get 0 0 0) ∷ Feed (Getting l) ∷ []) (Going v) n tr out → Rows s (Fetches l) (At (Going v)) tr out
  fetches_rows l v n tr out d = let r = call_first (Get 0 0 0) (Feed (Getting l)) (Fetched l) same v n tr out (fetched_at l) d in fetches r.one (same_other r) r.all

  hands_rows : (l : Modal) (msg : Msg) (v : Variables) (n : ℕ) (tr : Trace) (out : Point) → Parts s (Making (dispatch_of msg) ∷ Feed (Dispatching l) ∷ []) (Going v) n tr out → Rows s (Hands l msg) (At (Going v)) tr out
  hands_rows l msg v n tr out d = let r = call_first (dispatch_of msg) (Feed (Dispatching l)) (loop_part l) going v n tr out (dispatched_at l) d in hands r.one r.other r.all

  turns_rows : (l : Modal) (v : Variables) (a : Answer) (x n : ℕ) → StepTo (Given v a x) n (λ tr out. Rows s (loop_part l) (At (Going v)) tr out) (goes_on v (turns l))
  turns_rows PumpLoop v a x n = λ tr out d. fetches_rows PumpLoop v n tr out d
  turns_rows (DialogLoop d) v a x n = λ tr out p. asks_rows d v n tr out p

  closes_rows : (l : Modal) (b : Answer) (v : Variables) (a : Answer) (x n : ℕ) → StepTo (Given v a x) n (λ tr out. Rows s (Closes l b) (At (Going v)) tr out) (goes_on v (loop_ends l b))
  closes_rows PumpLoop b v a x n = λ tr out d. empty (λ tr out. Rows s (Closes PumpLoop b) (At (Going v)) tr out) closes_pump d
  closes_rows (DialogLoop d) b v a x n =
      either_lead (Given v a x) n (λ tr out. Rows s (Closes (DialogLoop d) b) (At (Going v)) tr out) v (d.owner == 0) (Ends b) (RunsLead (enabling d.owner 1) (Enabling b))
      (λ h tr out p. empty (λ tr out. Rows s (Closes (DialogLoop d) b) (At (Going v)) tr out) (closes_alone (number_is d.owner 0 h)) p)
      (λ h tr out p. let r = enabling_rows d.owner b v n tr out p in closes_dialog (number_isnt d.owner 0 h) r.row r.result)

  quits_rows : (l : Modal) (code : ℕ) (v : Variables) (a : Answer) (x n : ℕ) → StepTo (Given v a x) n (λ tr out. Rows s (quit_part l code) (At (Going v)) tr out) (goes_on v (quits_so l code))
  quits_rows PumpLoop code v a x n = closes_rows PumpLoop (Value code) v a x n
  quits_rows (DialogLoop d) code v a x n = λ tr out p. quit_rows d code v n tr out p

  handles_rows : (l : Modal) (o : Origin) (number : ℕ) (msg : Msg) (v : Variables) (x n : ℕ) → msg.number ≢ WM_QUIT → StepTo (Given v (Got o number msg) x) n (λ tr out. Rows s (Fetched l) (At (Given v (Got o number msg) x)) tr out) (goes_on v (handles l msg))
  handles_rows l o number msg v x n g =
      either_lead (Given v (Got o number msg) x) n (λ tr out. Rows s (Fetched l) (At (Given v (Got o number msg) x)) tr out) v (msg.number == WM_KEYDOWN) (CallsLead (translate_of msg) (Translating l msg)) (dispatches l msg)
      (λ h tr out d. let r = call_first (translate_of msg) (Feed (Translating l msg)) (Hands l msg) going v n tr out (translated_at l msg) d in fetched_key (number_is msg.number WM_KEYDOWN h) r.one r.other r.all)
      (λ h tr out d. fetched g (number_isnt msg.number WM_KEYDOWN h) (hands_rows l msg v n tr out d))

  getting_rows : (l : Modal) (v : Variables) (a : Answer) (x n : ℕ) → StepTo (Given v a x) n (λ tr out. Rows s (Fetched l) (At (Given v a x)) tr out) (goes_on v (after_getting l a))
  getting_rows l v (Got o number msg) x n =
      either_lead (Given v (Got o number msg) x) n (λ tr out. Rows s (Fetched l) (At (Given v (Got o number msg) x)) tr out) v (msg.number == WM_QUIT) (quits_so l msg.wparam) (handles l msg)
      (λ h. step_maps (Given v (Got o number msg) x) n (λ tr out. Rows s (quit_part l msg.wparam) (At (Going v)) tr out) (λ tr out. Rows s (Fetched l) (At (Given v (Got o number msg) x)) tr out) (goes_on v (quits_so l msg.wparam)) (λ tr out r. fetched_quit (number_is msg.number WM_QUIT h) r) (quits_rows l msg.wparam v (Got o number msg) x n))
      (λ h. handles_rows l o number msg v x n (number_isnt msg.number WM_QUIT h))
  getting_rows l v (Refused code) x n = step_maps (Given v (Refused code) x) n (λ tr out. Rows s (Closes l (Refused code)) (At (Going v)) tr out) (λ tr out. Rows s (Fetched l) (At (Given v (Refused code) x)) tr out) (goes_on v (loop_ends l (Refused code))) (λ tr out r. fetched_refused refl r) (closes_rows l (Refused code) v (Refused code) x n)
  getting_rows l v a x n = step_maps (Given v a x) n (λ tr out. Rows s (Closes l (Value 0)) (At (Going v)) tr out) (λ tr out. Rows s (Fetched l) (At (Given v a x)) tr out) (goes_on v (loop_ends l (Value 0))) (λ tr out r. fetched_none refl r) (closes_rows l (Value 0) v a x n)

  asking_rows : (d : Dialog) (v : Variables) (a : Answer) (x n : ℕ) → StepTo (Given v a x) n (λ tr out. Rows s (Asked d) (At (Given v a x)) tr out) (goes_on v (after_asking d a))
  asking_rows d v RunningDialog x n = λ tr out p. asked_running (fetches_rows (DialogLoop d) v n tr out p)
  asking_rows d v (Finished y) x n = step_maps (Given v (Finished y) x) n (λ tr out. Rows s (Closes (DialogLoop d) (Value y)) (At (Going v)) tr out) (λ tr out. Rows s (Asked d) (At (Given v (Finished y) x)) tr out) (goes_on v (loop_ends (DialogLoop d) (Value y))) (λ tr out r. asked_finished r) (closes_rows (DialogLoop d) (Value y) v (Finished y) x n)
  asking_rows d v (Refused code) x n = step_maps (Given v (Refused code) x) n (λ tr out. Rows s (Closes (DialogLoop d) (Refused code)) (At (Going v)) tr out) (λ tr out. Rows s (Asked d) (At (Given v (Refused code) x)) tr out) (goes_on v (loop_ends (DialogLoop d) (Refused code))) (λ tr out r. asked_refused refl r) (closes_rows (DialogLoop d) (Refused code) v (Refused code) x n)
  asking_rows d v a x n = step_maps (Given v a x) n (λ tr out. Rows s (Closes (DialogLoop d) (Value 0)) (At (Going v)) tr out) (λ tr out. Rows s (Asked d) (At (Given v a x)) tr out) (goes_on v (loop_ends (DialogLoop d) (Value 0))) (λ tr out r. asked_gone refl r) (closes_rows (DialogLoop d) (Value 0) v a x n)

  -- compounds that go through the top-level windows
  broadcasts_rows : (b : Broadcast) (w : ℕ) (v : Variables) (n : ℕ) (tr : Trace) (out : Point) → Parts s (Making (NextTop w) ∷ Feed (Seeking b) ∷ []) (Going v) n tr out → Rows s (Broadcasts b w) (At (Going v)) tr out
  broadcasts_rows b w v n tr out d = let r = call_first (NextTop w) (Feed (Seeking b)) (Found b) same v n tr out (found_at b) d in broadcasts r.one (same_other r) r.all

  part_rows : (c : CompoundStatement) (v : Variables) (n : ℕ) (tr : Trace) (out : Point) → Parts s (Making (compound_begin c v).call ∷ Feed (compound_begin c v).place ∷ []) (Going v) n tr out → Rows s (compound_part c v) (At (Going v)) tr out
  part_rows (PostAll m p q) v n tr out d = broadcasts_rows _ 0 v n tr out d
  part_rows (NotifyAll m p q) v n tr out d = broadcasts_rows _ 0 v n tr out d
  part_rows Pump v n tr out d = fetches_rows PumpLoop v n tr out d
  part_rows (DialogOf w) v n tr out d = opens_rows (value_of w v) v n tr out d
  part_rows c v n tr out d = notifying_rows _ v n tr out d

  notifies_rows : (o : Option Notice) (ns : Notices) (y : ℕ) (v : Variables) (a : Answer) (x n : ℕ) → next_notice ns ≡ o → StepTo (Given v a x) n (λ tr out. Rows s (Sends ns y) (At (Going v)) tr out) (goes_on v (notifies_by o (others ns) y))
  notifies_rows (Some notice) ns y v a x n h = λ tr out d. let r = call_first (notice_call notice) (Feed (NotifyingPlace (others ns) y)) (Sends (others ns) y) going v n tr out (sends_at (others ns) y) d in sends_next h r.one r.other r.all
  notifies_rows None ns y v a x n h = λ tr out d. empty (λ tr out. Rows s (Sends ns y) (At (Going v)) tr out) (sends_over h) d

  calling_rows : (call : Call) (v : Variables) (a : Answer) (x n : ℕ) → StepTo (Given v a x) n (λ tr out. Rows s (Notified call) (At (Given v a x)) tr out) (goes_on v (after_calling call a))
  calling_rows call v (Refused code) x n = λ tr out d. empty (λ tr out. Rows s (Notified call) (At (Given v (Refused code) x)) tr out) (notified_refused refl) d
  calling_rows call v a x n =
      let ns = notices_after call (number_in a) in
      let y = result_after call (number_in a) in
      step_maps (Given v a x) n (λ tr out. Rows s (Sends ns y) (At (Going v)) tr out) (λ tr out. Rows s (Notified call) (At (Given v a x)) tr out) (goes_on v (notifies ns y)) (λ tr out r. notified refl r) (notifies_rows (next_notice ns) ns y v a x n refl)

  reaches_rows : (b : Broadcast) (v : Variables) (a : Answer) (x n : ℕ) → is_refusal a ≡ false → StepTo (Given v a x) n (λ tr out. Rows s (Found b) (At (Given v a x)) tr out) (goes_on v (reaches_or_ends b (number_in a)))
  reaches_rows b v a x n g =
      either_lead (Given v a x) n (λ tr out. Rows s (Found b) (At (Given v a x)) tr out) v (number_in a == 0) (Ends (Value 1)) (CallsLead (reach b (number_in a)) (Reaching b (number_in a)))
      (λ h tr out d. empty (λ tr out. Rows s (Found b) (At (Given v a x)) tr out) (found_none g (number_is (number_in a) 0 h)) d)
      (λ h tr out d. let r = call_first (reach b (number_in a)) (Feed (Reaching b (number_in a))) (Broadcasts b (number_in a)) going v n tr out (reached_at b (number_in a)) d in found g (number_isnt (number_in a) 0 h) r.one r.other r.all)

  seeking_rows : (b : Broadcast) (v : Variables) (a : Answer) (x n : ℕ) → StepTo (Given v a x) n (λ tr out. Rows s (Found b) (At (Given v a x)) tr out) (goes_on v (after_seeking b a))
  seeking_rows b v (Refused code) x n = λ tr out d. empty (λ tr out. Rows s (Found b) (At (Given v (Refused code) x)) tr out) (found_refused refl) d
  seeking_rows b v a x n = reaches_rows b v a x n refl

  -- destructions
  unmaking_rows : (w : ℕ) (v : Variables) (n : ℕ) (tr : Trace) (out : Point) → Parts s (Making (Unmake w) ∷ Feed (UnmakingPlace w) ∷ []) (Going v) n tr out → Rows s (Unmaking w) (At (Going v)) tr out
  unmaking_rows w v n tr out d = let r = call_first (Unmake w) (Feed (UnmakingPlace w)) (Unmade w) same v n tr out (unmade_at w) d in unmaking r.one (same_other r) r.all

  destruction_rows : (w : ℕ) (v : Variables) (n : ℕ) (tr : Trace) (out : Point) → Parts s (Making (Doom w) ∷ Feed (Dooming w) ∷ []) (Going v) n tr out → Rows s (Destruction w) (At (Going v)) tr out
  destruction_rows w v n tr out d = let r = call_first (Doom w) (Feed (Dooming w)) (Doomed w) same v n tr out (doomed_at w) d in destruction r.one (same_other r) r.all

  -- a destruction inside of another compound, which makes that of the place at its end
  inside_rows : (w : ℕ) (q : Place) (f : State → State) (v : Variables) (n : ℕ) (tr : Trace) (out : Point) → ((mid : State) (m : ℕ) (tr : Trace) (out : Point) → IsGiven (At mid) → RowOf s (Feed q) mid m tr out → Maps f mid tr out) → Parts s (Making (Doom w) ∷ Feed (Dooming w) ∷ Feed q ∷ []) (Going v) n tr out → Mapped (λ tr out. Rows s (Destruction w) (At (Going v)) tr out) f tr out
  inside_rows w q f v n tr out h d =
      mapped_of (Making (Doom w) ∷ Feed (Dooming w) ∷ []) (Feed q) (λ tr out. Rows s (Destruction w) (At (Going v)) tr out) f (Going v) n tr out (destruction_rows w v n) (λ first mid m tr out r k. h mid m tr out (kind s r) k) (divide (Making (Doom w) ∷ Feed (Dooming w) ∷ []) (Feed q ∷ []) d)

  -- the default procedure
  close_rows : (p : Parameters) (v : Variables) (n : ℕ) (tr : Trace) (out : Point) → p.number ≡ WM_CLOSE → Parts s (Making (Doom p.hwnd) ∷ Feed (Dooming p.hwnd) ∷ Feed (Defaulting (default_result p)) ∷ []) (Going v) n tr out → Rows s (DefaultFor p) (At (Going v)) tr out
  close_rows p v n tr out h d =
      let e = subst (λ x. Parts s (Making (Doom p.hwnd) ∷ Feed (Dooming p.hwnd) ∷ Feed (Defaulting x) ∷ []) (Going v) n tr out) (close_result p h) d in
      let r = inside_rows p.hwnd (Defaulting 0) (defaulting 0) v n tr out (defaulting_at 0) e in
      default_close h r.row r.result

  -- a compound of one call
  single_rows : (call : Call) (v : Variables) (n : ℕ) (tr : Trace) (out : Point) → Parts s (Making call ∷ Feed Single ∷ []) (Going v) n tr out → Mapped (λ tr out. Rows s (Calls call) (At (Going v)) tr out) answering tr out
  single_rows call v n tr out d =
      mapped_of (Making call ∷ []) (Feed Single) (λ tr out. Rows s (Calls call) (At (Going v)) tr out) answering (Going v) n tr out (λ tr out x. single x) (λ first mid m tr out r k. single_at mid m tr out (kind s r) k) (divide (Making call ∷ []) (Feed Single ∷ []) d)

  single_given : (call : Call) (v : Variables) (tr : Trace) (out : Point) → Mapped (λ tr out. Rows s (Calls call) (At (Going v)) tr out) answering tr out → IsGiven out
  single_given call v tr out r = subst IsGiven (sym r.result) (answering_given r.got (kind s r.row))

  one_call_rows : (call : Call) (y : ℕ) (p : Parameters) (v : Variables) (n : ℕ) (tr : Trace) (out : Point) → default_result p ≡ y → Parts s (Making call ∷ Feed Single ∷ Feed (Defaulting (default_result p)) ∷ []) (Going v) n tr out → Mapped (λ tr out. Rows s (Calls call) (At (Going v)) tr out) (defaulting y) tr out
  one_call_rows call y p v n tr out h d =
      let P : Trace → Point → Type 0 = λ tr out. Mapped (λ tr out. Rows s (Calls call) (At (Going v)) tr out) answering tr out in
      let e = subst (λ x. Parts s (Making call ∷ Feed Single ∷ Feed (Defaulting x) ∷ []) (Going v) n tr out) h d in
      let r = mapped_of (Making call ∷ Feed Single ∷ []) (Feed (Defaulting y)) P (defaulting y) (Going v) n tr out (single_rows call v n) (λ first mid m tr out r k. defaulting_at y mid m tr out (single_given call v first (At mid) r) k) (divide (Making call ∷ Feed Single ∷ []) (Feed (Defaulting y) ∷ []) e) in
      record { got = r.row.got; row = r.row.row; result = r.result ∙ ap (on (defaulting y)) r.row.result ∙ sym (default_answered y r.row.got) }

  paint_rows : (p : Parameters) (v : Variables) (n : ℕ) (tr : Trace) (out : Point) → p.number ≡ WM_PAINT → Parts s (Making (validation p.hwnd) ∷ Feed Single ∷ Feed (Defaulting (default_result p)) ∷ []) (Going v) n tr out → Rows s (DefaultFor p) (At (Going v)) tr out
  paint_rows p v n tr out h d = let r = one_call_rows (validation p.hwnd) 0 p v n tr out (paint_result p h) d in default_paint h r.row r.result

  erase_rows : (p : Parameters) (v : Variables) (n : ℕ) (tr : Trace) (out : Point) → p.number ≡ WM_ERASEBKGND → Parts s (Making (Erase p.hwnd) ∷ Feed Single ∷ Feed (Defaulting (default_result p)) ∷ []) (Going v) n tr out → Rows s (DefaultFor p) (At (Going v)) tr out
  erase_rows p v n tr out h d = let r = one_call_rows (Erase p.hwnd) 1 p v n tr out (erase_result p h) d in default_erase h r.row r.result

  notifying_inside : (call : Call) (p : Parameters) (v : Variables) (n : ℕ) (tr : Trace) (out : Point) → default_result p ≡ 0 → Parts s (Making call ∷ Feed (Calling call) ∷ Feed (Defaulting (default_result p)) ∷ []) (Going v) n tr out → Mapped (λ tr out. Rows s (Notifying call) (At (Going v)) tr out) (defaulting 0) tr out
  notifying_inside call p v n tr out h d =
      let e = subst (λ x. Parts s (Making call ∷ Feed (Calling call) ∷ Feed (Defaulting x) ∷ []) (Going v) n tr out) h d in
      mapped_of (Making call ∷ Feed (Calling call) ∷ []) (Feed (Defaulting 0)) (λ tr out. Rows s (Notifying call) (At (Going v)) tr out) (defaulting 0) (Going v) n tr out (notifying_rows call v n) (λ first mid m tr out r k. defaulting_at 0 mid m tr out (kind s r) k) (divide (Making call ∷ Feed (Calling call) ∷ []) (Feed (Defaulting 0) ∷ []) e)

  activate_rows : (p : Parameters) (v : Variables) (n : ℕ) (tr : Trace) (out : Point) → p.number ≡ WM_ACTIVATE → p.wparam ≢ 0 → Parts s (Making (SetFocus p.hwnd) ∷ Feed (Calling (SetFocus p.hwnd)) ∷ Feed (Defaulting (default_result p)) ∷ []) (Going v) n tr out → Rows s (DefaultFor p) (At (Going v)) tr out
  activate_rows p v n tr out h g d = let r = notifying_inside (SetFocus p.hwnd) p v n tr out (activate_result p h) d in default_activate h g r.row r.result

  cancel_rows : (p : Parameters) (v : Variables) (n : ℕ) (tr : Trace) (out : Point) → p.number ≡ WM_CANCELMODE → Parts s (Making ReleaseCapture ∷ Feed (Calling ReleaseCapture) ∷ Feed (Defaulting (default_result p)) ∷ []) (Going v) n tr out → Rows s (DefaultFor p) (At (Going v)) tr out
  cancel_rows p v n tr out h d = let r = notifying_inside ReleaseCapture p v n tr out (cancel_result p h) d in default_cancel h r.row r.result

  other_rows : (b : Bool) (p : Parameters) (v : Variables) (tr : Trace) (out : Point) → PassesNone p → (p.number == WM_NCCREATE) ≡ b → (tr ≡ []) × (out ≡ At (Given v (Value (if b then 1 else 0)) 0)) → Rows s (DefaultFor p) (At (Going v)) tr out
  other_rows true p v tr out f h k = at_empty (λ tr out. Rows s (DefaultFor p) (At (Going v)) tr out) (Given v (Value 1) 0) tr out (default_greeting (number_is p.number WM_NCCREATE h)) k
  other_rows false p v tr out f h k =
      at_empty (λ tr out. Rows s (DefaultFor p) (At (Going v)) tr out) (Given v (Value 0) 0) tr out
      (default_other (number_isnt p.number WM_CLOSE f.0) (number_isnt p.number WM_PAINT f.1) (number_isnt p.number WM_ERASEBKGND f.2) (activates_not p f.3) (number_isnt p.number WM_CANCELMODE f.4) (number_isnt p.number WM_NCCREATE h)) k

  -- with each compound that it begins with
  begin_rows : (p : Parameters) (b : Begin) (v : Variables) (n : ℕ) (tr : Trace) (out : Point) → Some b ≡ default_begin p → Parts s (begun_over b (Feed (Defaulting (default_result p)) ∷ [])) (Going v) n tr out → Rows s (DefaultFor p) (At (Going v)) tr out
  begin_rows p b v n tr out e =
      each_begin (λ x. Parts s (begun_over x (Feed (Defaulting (default_result p)) ∷ [])) (Going v) n tr out → Rows s (DefaultFor p) (At (Going v)) tr out) p b e
      (λ h d. close_rows p v n tr out (number_is p.number WM_CLOSE h) d)
      (λ h d. paint_rows p v n tr out (number_is p.number WM_PAINT h) d)
      (λ h d. erase_rows p v n tr out (number_is p.number WM_ERASEBKGND h) d)
      (λ h d. activate_rows p v n tr out (activates_number p h) (number_isnt p.wparam 0 (activates_some p h)) d)
      (λ h d. cancel_rows p v n tr out (number_is p.number WM_CANCELMODE h) d)

  default_rows : (p : Parameters) (v : Variables) (n : ℕ) (tr : Trace) (out : Point) → Parts s (default_pieces p []) (Going v) n tr out → Rows s (DefaultFor p) (At (Going v)) tr out
  default_rows p v n tr out =
      default_either (λ qs. Parts s qs (Going v) n tr out → Rows s (DefaultFor p) (At (Going v)) tr out) p []
      (λ b e d. begin_rows p b v n tr out e d)
      (λ e d. let f = no_begin p e in other_rows (p.number == WM_NCCREATE) p v tr out f refl (subst (λ x. (tr ≡ []) × (out ≡ At (Given v (Value x) 0))) (alone_result p f.2) (single d)))

  -- and the pieces behind it
  default_divided : (p : Parameters) (ps : List Piece) (v : Variables) (n : ℕ) (tr : Trace) (out : Point) → Parts s (default_pieces p ps) (Going v) n tr out → Divided s (default_pieces p []) ps (Going v) n tr out
  default_divided p ps v n tr out d = divide (default_pieces p []) ps (subst (λ xs. Parts s xs (Going v) n tr out) (sym (default_append p ps)) d)

  -- compounds
  making_rows : (v : Variables) (a : Answer) (x n : ℕ) → StepTo (Given v a x) n (λ tr out. Rows s Created (At (Given v a x)) tr out) (goes_on v (after_making a))
  making_rows v (WindowMade w) x n = λ tr out d. let r = call_first (sent w.0 WM_NCCREATE) (Feed (Greeting w.0)) (Greeted w.0) same v n tr out (greeted_at w.0) d in created r.one (same_other r) r.all
  making_rows v (Refused code) x n = λ tr out d. empty (λ tr out. Rows s Created (At (Given v (Refused code) x)) tr out) (create_refused refl) d
  making_rows v a x n = λ tr out d. empty (λ tr out. Rows s Created (At (Given v a x)) tr out) (create_none refl) d

  greeting_rows : (w : ℕ) (v : Variables) (a : Answer) (x n : ℕ) → StepTo (Given v a x) n (λ tr out. Rows s (Greeted w) (At (Given v a x)) tr out) (goes_on v (after_greeting w x))
  greeting_rows w v a x n =
      either_lead (Given v a x) n (λ tr out. Rows s (Greeted w) (At (Given v a x)) tr out) v (x == 0) (undoes w) (CallsLead (sent w WM_CREATE) (Telling w))
      (λ h tr out d. let r = inside_rows w Undoing undone v n tr out undoing_at d in greeted_no (number_is x 0 h) r.row r.result)
      (λ h tr out d. let r = call_first (sent w WM_CREATE) (Feed (Telling w)) (Told w) same v n tr out (told_at w) d in greeted (number_isnt x 0 h) r.one (same_other r) r.all)

  kept_rows : (w : ℕ) (v : Variables) (a : Answer) (x n : ℕ) → is_refusal a ≡ false → StepTo (Given v a x) n (λ tr out. Rows s (Told w) (At (Given v a x)) tr out) (goes_on v (kept_or_undone w x))
  kept_rows w v a x n g =
      either_lead (Given v a x) n (λ tr out. Rows s (Told w) (At (Given v a x)) tr out) v (x == 18446744073709551615) (undoes w) (Ends (Value w))
      (λ h tr out d. let r = inside_rows w Undoing undone v n tr out undoing_at d in told_no g (number_is x 18446744073709551615 h) r.row r.result)
      (λ h tr out d. empty (λ tr out. Rows s (Told w) (At (Given v a x)) tr out) (told g (number_isnt x 18446744073709551615 h)) d)

  telling_rows : (w : ℕ) (v : Variables) (a : Answer) (x n : ℕ) → StepTo (Given v a x) n (λ tr out. Rows s (Told w) (At (Given v a x)) tr out) (goes_on v (after_telling w a x))
  telling_rows w v (Refused code) x n = λ tr out d. let r = inside_rows w Undoing undone v n tr out undoing_at d in told_refused refl r.row r.result
  telling_rows w v a x n = kept_rows w v a x n refl

  dooming_rows : (w : ℕ) (v : Variables) (a : Answer) (x n : ℕ) → StepTo (Given v a x) n (λ tr out. Rows s (Doomed w) (At (Given v a x)) tr out) (goes_on v (after_dooming w a))
  dooming_rows w v (Refused code) x n = λ tr out d. empty (λ tr out. Rows s (Doomed w) (At (Given v (Refused code) x)) tr out) (doom_refused refl) d
  dooming_rows w v a x n = λ tr out d. doomed refl (unmaking_rows w v n tr out d)

  parting_rows : (w : ℕ) (v : Variables) (part : Hwnd) (x m : ℕ) (tr first second : Trace) (mid : State) (out : Point) → tr ≡ first ++ second → Rows s (Calls (sent part.0 WM_NCDESTROY)) (At (Going v)) first (At mid) → IsGiven (At mid) → RowOf s (Feed (Parting w part.0)) mid m second out → Rows s (Unmade w) (At (Given v (Last part) x)) tr out
  parting_rows w v part x m tr first second (Going v1) out f d k r = absurd k
  parting_rows w v part x m tr first second (Returning v1 y) out f d k r = absurd k
  parting_rows w v part x m tr first second (Given v1 b y) out f d k r = unmade_last d r.one r.other (f ∙ ap (λ z. first ++ z) r.all)

  last_rows : (w : ℕ) (v : Variables) (part : Hwnd) (x n : ℕ) (tr : Trace) (out : Point) → Divided s (Making (sent part.0 WM_NCDESTROY) ∷ []) (Feed (Parting w part.0) ∷ []) (Going v) n tr out → Rows s (Unmade w) (At (Given v (Last part) x)) tr out
  last_rows w v part x n tr out (stopped call d g) =
      let r : Rows s (Calls (sent part.0 WM_NCDESTROY)) (At (Going v)) tr (CutBefore call) = single d in
      subst (λ y. Rows s (Unmade w) (At (Given v (Last part) x)) tr y) (sym g) (unmade_last {first = tr} {second = []} {third = []} {mid = CutBefore call} {after = CutBefore call} r after_cut after_cut (sym (append-nil tr)))
  last_rows w v part x n tr out (parted first second mid m e f d d') =
      let r : Rows s (Calls (sent part.0 WM_NCDESTROY)) (At (Going v)) first (At mid) = single d in
      parting_rows w v part x m tr first second mid out f r (kind s r) (single d')

  unmade_rows : (w : ℕ) (v : Variables) (a : Answer) (x n : ℕ) → StepTo (Given v a x) n (λ tr out. Rows s (Unmade w) (At (Given v a x)) tr out) (goes_on v (after_unmaking w a))
  unmade_rows w v (Tell t) x n = λ tr out d. let r = call_first (sent t.0 WM_DESTROY) (Feed (Destroying w)) (Unmaking w) going v n tr out (destroying_at w) d in unmade_tell r.one r.other r.all
  unmade_rows w v (Last part) x n = λ tr out d. last_rows w v part x n tr out (divide (Making (sent part.0 WM_NCDESTROY) ∷ []) (Feed (Parting w part.0) ∷ []) d)
  unmade_rows w v (Refused code) x n = λ tr out d. empty (λ tr out. Rows s (Unmade w) (At (Given v (Refused code) x)) tr out) (unmade_refused refl) d
  unmade_rows w v a x n = λ tr out d. empty (λ tr out. Rows s (Unmade w) (At (Given v a x)) tr out) (unmade_gone refl) d

  defaulted_rows : (y : ℕ) (v : Variables) (a : Answer) (x n : ℕ) → StepTo (Given v a x) n (λ tr out. Maps (defaulting y) (Given v a x) tr out) (goes_on v (after_default y a))
  defaulted_rows y v (Refused code) x n = λ tr out d. nothing d
  defaulted_rows y v a x n = λ tr out d. nothing d

  compound_rows : (q : Place) (v : Variables) (a : Answer) (x n : ℕ) → StepTo (Given v a x) n (λ tr out. CompoundRow s q v a x tr out) (goes_on v (compound_after q a x))
  compound_rows MakingWindow v a x n = making_rows v a x n
  compound_rows (Greeting w) v a x n = greeting_rows w v a x n
  compound_rows (Telling w) v a x n = telling_rows w v a x n
  compound_rows Undoing v a x n = λ tr out d. nothing d
  compound_rows (Dooming w) v a x n = dooming_rows w v a x n
  compound_rows (UnmakingPlace w) v a x n = unmade_rows w v a x n
  compound_rows (Destroying w) v a x n = λ tr out d. unmaking_rows w v n tr out d
  compound_rows (Parting w part) v a x n = λ tr out d. call_first (Drop part) (Feed (Dropping w)) (Unmaking w) going v n tr out (dropping_at w) d
  compound_rows (Dropping w) v a x n = λ tr out d. unmaking_rows w v n tr out d
  compound_rows Single v a x n = λ tr out d. nothing d
  compound_rows (Calling call) v a x n = calling_rows call v a x n
  compound_rows (NotifyingPlace ns y) v a x n = notifies_rows (next_notice ns) ns y v a x n refl
  compound_rows (Seeking b) v a x n = seeking_rows b v a x n
  compound_rows (Reaching b w) v a x n = λ tr out d. broadcasts_rows b w v n tr out d
  compound_rows (Getting l) v a x n = getting_rows l v a x n
  compound_rows (Translating l msg) v a x n = λ tr out d. hands_rows l msg v n tr out d
  compound_rows (Dispatching l) v a x n = turns_rows l v a x n
  compound_rows (Opening w) v a x n = opening_rows w v a x n
  compound_rows (Disabling d) v a x n = disabling_rows d v a x n
  compound_rows (Asking d) v a x n = asking_rows d v a x n
  compound_rows (Requitting d) v a x n = λ tr out p. finishes_rows d v n tr out p
  compound_rows (Finishing d) v a x n = λ tr out p. asks_rows d v n tr out p
  compound_rows (Enabling b) v a x n = λ tr out p. nothing p
  compound_rows (Defaulting y) v a x n = defaulted_rows y v a x n

  -- procedures
  exit_run : (run : Run) (mid : State) (m : ℕ) (tr : Trace) (out : Point) → IsRun (At mid) → Parts s (Leaving run ∷ []) mid m tr out → Rows s (Exit run) (At mid) tr out
  exit_run run (Going v) m tr out k d = single d
  exit_run run (Returning v x) m tr out k d = single d
  exit_run run (Given v a x) m tr out k d = absurd k

  exit_returning : (x : ℕ) (run : Run) (mid : State) (m : ℕ) (tr : Trace) (out : Point) → IsGiven (At mid) → Parts s (Left x ∷ Leaving run ∷ []) mid m tr out → Rows s (Exit run) (At (returning x mid)) tr out
  exit_returning x run (Going v) m tr out k d = absurd k
  exit_returning x run (Returning v y) m tr out k d = absurd k
  exit_returning x run (Given v a y) m tr out k d = single (after_map (Left x) (Leaving run ∷ []) (returning x) (Given v a y) m tr out (λ tr out r. r) d)

  leave_rows : (x : ℕ) (run : Run) (v : Variables) (n : ℕ) (tr : Trace) (out : Point) → Parts s (Leaves run.frame x ∷ Left x ∷ []) (Going v) n tr out → Mapped (λ tr out. Rows s (Calls (Leave x)) (At (Going v)) tr out) (returning x) tr out
  leave_rows x run v n tr out d = mapped_of (Leaves run.frame x ∷ []) (Left x) (λ tr out. Rows s (Calls (Leave x)) (At (Going v)) tr out) (returning x) (Going v) n tr out (λ tr out y. single y) (λ first mid m tr out r k. k) (divide (Leaves run.frame x ∷ []) (Left x ∷ []) d)

  default_then : (run : Run) (v : Variables) (n : ℕ) (tr : Trace) (out : Point) → Parts s (default_pieces run.parameters (Left (default_result run.parameters) ∷ Leaving run ∷ [])) (Going v) n tr out → Two s (DefaultFor run.parameters) (At (Going v)) (Exit run) (returning (default_result run.parameters)) tr out
  default_then run v n tr out d =
      two_of (default_pieces run.parameters []) (Left (default_result run.parameters) ∷ Leaving run ∷ []) (DefaultFor run.parameters) (At (Going v)) (Exit run) (returning (default_result run.parameters)) (Going v) n tr out (default_rows run.parameters v n) (exit_returning (default_result run.parameters) run) (default_divided run.parameters (Left (default_result run.parameters) ∷ Leaving run ∷ []) v n tr out d)

  leaving_rows : (run : Run) (v : Variables) (n : ℕ) → StepTo (Going v) n (λ tr out. Rows s (Exit run) (At (Going v)) tr out) (leaving run v)
  leaving_rows run v n =
      either (Going v) n (λ tr out. Rows s (Exit run) (At (Going v)) tr out) (is_callback run.frame) (Becomes (Leaves run.frame 0 ∷ Left 0 ∷ []) (Going v)) (Becomes (default_pieces run.parameters (Left (default_result run.parameters) ∷ Leaving run ∷ [])) (Going v))
      (λ h tr out d. let r = leave_rows 0 run v n tr out d in exit_callback h r.row r.result)
      (λ h tr out d. let r = default_then run v n tr out d in exit_default h r.one r.other r.all)

  frame_two : (run : Run) (v : Variables) (n : ℕ) (tr : Trace) (out : Point) → Parts s (Lines (procedure_of s run.procedure) ∷ Leaving run ∷ []) (Going (inside_of v run.parameters)) n tr out → Two s (Body (procedure_of s run.procedure)) (At (Going (inside_of v run.parameters))) (Exit run) same tr out
  frame_two run v n tr out d = two_of (Lines (procedure_of s run.procedure) ∷ []) (Leaving run ∷ []) (Body (procedure_of s run.procedure)) (At (Going (inside_of v run.parameters))) (Exit run) same (Going (inside_of v run.parameters)) n tr out (λ tr out x. single x) (exit_run run) (divide (Lines (procedure_of s run.procedure) ∷ []) (Leaving run ∷ []) d)

  frame_rows : (run : Run) (v : Variables) (n : ℕ) (tr : Trace) (out : Point) → Parts s (Lines (procedure_of s run.procedure) ∷ Leaving run ∷ Restore v.parameters ∷ []) (Going (inside_of v run.parameters)) n tr out → Rows s (Frame run) (At (Going v)) tr out
  frame_rows run v n tr out d =
      let r = mapped_of (Lines (procedure_of s run.procedure) ∷ Leaving run ∷ []) (Restore v.parameters) (λ tr out. Two s (Body (procedure_of s run.procedure)) (At (Going (inside_of v run.parameters))) (Exit run) same tr out) (restoring v.parameters) (Going (inside_of v run.parameters)) n tr out (frame_two run v n) (λ first mid m tr out q k. k) (divide (Lines (procedure_of s run.procedure) ∷ Leaving run ∷ []) (Restore v.parameters ∷ []) d) in
      frame r.row.one (same_other r.row) r.row.all r.result

  -- statements
  lines_row : (lines : List Statement) (mid : State) (m : ℕ) (tr : Trace) (out : Point) → IsRun (At mid) → Parts s (Lines lines ∷ []) mid m tr out → Rows s (Body lines) (At mid) tr out
  lines_row lines (Going v) m tr out k d = single d
  lines_row lines (Returning v x) m tr out k d = at_empty (λ tr out. Rows s (Body lines) (At (Returning v x)) tr out) (Returning v x) tr out body_left (single d)
  lines_row lines (Given v a x) m tr out k d = absurd k

  body_rows : (line : Statement) (lines : List Statement) (v : Variables) (n : ℕ) (tr : Trace) (out : Point) → Parts s (One line ∷ Lines lines ∷ []) (Going v) n tr out → Rows s (Body (line ∷ lines)) (At (Going v)) tr out
  body_rows line lines v n tr out d =
      let r = two_of (One line ∷ []) (Lines lines ∷ []) (Line line) (At (Going v)) (Body lines) same (Going v) n tr out (λ tr out x. single x) (lines_row lines) (divide (One line ∷ []) (Lines lines ∷ []) d) in
      body r.one (same_other r) r.all

  branch_rows : (z : Bool) (t : Test) (k : _) (a : _) (j : _) (b : _) (v : Variables) (n : ℕ) (tr : Trace) (out : Point) → holds t v ≡ z → Parts s (Lines (if z then items-the_row-Statement _ a else items-the_row-Statement _ b) ∷ []) (Going v) n tr out → Rows s (Line (IfElse' t k a j b)) (At (Going v)) tr out
  branch_rows true t k a j b v n tr out h d = if_first h (single d)
  branch_rows false t k a j b v n tr out h d = if_second h (single d)

  again_rows : (t : Test) (k : _) (a : _) (v v1 : Variables) (n m : ℕ) (tr first second : Trace) (out : Point) → holds t v ≡ true → m ≡ n + length first → tr ≡ first ++ second → Rows s (Body (items-the_row-Statement _ a)) (At (Going v)) first (At (Going v1)) → OneOf (m == n) (Two s (Calls Yield) (At (Going v1)) (Line (While' t k a)) going second out) (Rows s (Line (While' t k a)) (At (Going v1)) second out) → Rows s (Line (While' t k a)) (At (Going v)) tr out
  again_rows t k a v v1 n m tr [] second out h e f d r =
      let q : Two s (Calls Yield) (At (Going v1)) (Line (While' t k a)) going second out = subst (λ z. OneOf z (Two s (Calls Yield) (At (Going v1)) (Line (While' t k a)) going second out) (Rows s (Line (While' t k a)) (At (Going v1)) second out)) (uncounted n m e) r in
      while_yields h d q.one q.other (f ∙ q.all)
  again_rows t k a v v1 n m tr (x ∷ first) second out h e f d r =
      while_again h d (λ i. absurd cc) (subst (λ z. OneOf z (Two s (Calls Yield) (At (Going v1)) (Line (While' t k a)) going second out) (Rows s (Line (While' t k a)) (At (Going v1)) second out)) (counted (x ∷ first) n m (λ i. absurd cc) e) r) f

  pass_rows : (t : Test) (k : _) (a : _) (v : Variables) (n m : ℕ) (tr first second : Trace) (mid : State) (out : Point) → holds t v ≡ true → m ≡ n + length first → tr ≡ first ++ second → Rows s (Body (items-the_row-Statement _ a)) (At (Going v)) first (At mid) → IsRun (At mid) → RowOf s (PassEnd (While' t k a) n) mid m second out → Rows s (Line (While' t k a)) (At (Going v)) tr out
  pass_rows t k a v n m tr first second (Going v1) out h e f d i r = again_rows t k a v v1 n m tr first second out h e f d r
  pass_rows t k a v n m tr first second (Returning v1 x) out h e f d i r =
      subst (λ y. Rows s (Line (While' t k a)) (At (Going v)) tr y) (sym r.1) (subst (λ y. Rows s (Line (While' t k a)) (At (Going v)) y (At (Returning v1 x))) (sym (f ∙ ap (λ z. first ++ z) r.0 ∙ append-nil first)) (while_left h d))
  pass_rows t k a v n m tr first second (Given v1 b x) out h e f d i r = absurd i

  while_rows : (t : Test) (k : _) (a : _) (v : Variables) (n : ℕ) (tr : Trace) (out : Point) → holds t v ≡ true → Divided s (Lines (items-the_row-Statement _ a) ∷ []) (PassEnd (While' t k a) n ∷ []) (Going v) n tr out → Rows s (Line (While' t k a)) (At (Going v)) tr out
  while_rows t k a v n tr out h (stopped call d g) = subst (λ y. Rows s (Line (While' t k a)) (At (Going v)) tr y) (sym g) (while_cut h (single d))
  while_rows t k a v n tr out h (parted first second mid m e f d d') =
      let r : Rows s (Body (items-the_row-Statement _ a)) (At (Going v)) first (At mid) = single d in
      pass_rows t k a v n m tr first second mid out h e f r (kind s r) (single d')

  create_rows : (c : Creation) (v : Variables) (n : ℕ) (tr : Trace) (out : Point) → Parts s (Making (creation_call c v) ∷ Feed MakingWindow ∷ Settle (creation_call c v) ∷ []) (Going v) n tr out → Rows s (Line (Create c)) (At (Going v)) tr out
  create_rows c v n tr out d =
      let r = mapped_of (Making (creation_call c v) ∷ Feed MakingWindow ∷ []) (Settle (creation_call c v)) (λ tr out. Two s (Calls (creation_call c v)) (At (Going v)) Created same tr out) (settling (creation_call c v)) (Going v) n tr out (λ tr out x. call_first (creation_call c v) (Feed MakingWindow) Created same v n tr out created_at x) (λ first mid m tr out q k. k) (divide (Making (creation_call c v) ∷ Feed MakingWindow ∷ []) (Settle (creation_call c v) ∷ []) d) in
      creates r.row.one (same_other r.row) r.row.all r.result

  destroy_rows : (e : Operand) (v : Variables) (n : ℕ) (tr : Trace) (out : Point) → Parts s (Making (Doom (value_of e v)) ∷ Feed (Dooming (value_of e v)) ∷ Settle (Doom (value_of e v)) ∷ []) (Going v) n tr out → Rows s (Line (Destroy e)) (At (Going v)) tr out
  destroy_rows e v n tr out d =
      let r = mapped_of (Making (Doom (value_of e v)) ∷ Feed (Dooming (value_of e v)) ∷ []) (Settle (Doom (value_of e v))) (λ tr out. Rows s (Destruction (value_of e v)) (At (Going v)) tr out) (settling (Doom (value_of e v))) (Going v) n tr out (destruction_rows (value_of e v) v n) (λ first mid m tr out q k. k) (divide (Making (Doom (value_of e v)) ∷ Feed (Dooming (value_of e v)) ∷ []) (Settle (Doom (value_of e v)) ∷ []) d) in
      destroys r.row r.result

  compound_statement : (c : CompoundStatement) (v : Variables) (n : ℕ) (tr : Trace) (out : Point) → Parts s (Making (compound_begin c v).call ∷ Feed (compound_begin c v).place ∷ Settle (settling_call c v) ∷ []) (Going v) n tr out → Rows s (Line (CompoundOf c)) (At (Going v)) tr out
  compound_statement c v n tr out d =
      let b = compound_begin c v in
      let r = mapped_of (Making b.call ∷ Feed b.place ∷ []) (Settle (settling_call c v)) (λ tr out. Rows s (compound_part c v) (At (Going v)) tr out) (settling (settling_call c v)) (Going v) n tr out (part_rows c v n) (λ first mid m tr out q k. k) (divide (Making b.call ∷ Feed b.place ∷ []) (Settle (settling_call c v) ∷ []) d) in
      compounds r.row r.result

  default_statement : (v : Variables) (n : ℕ) (tr : Trace) (out : Point) → Parts s (default_pieces v.parameters (Settle (Doom v.parameters.hwnd) ∷ [])) (Going v) n tr out → Rows s (Line DefaultOf) (At (Going v)) tr out
  default_statement v n tr out d =
      let r = mapped_of (default_pieces v.parameters []) (Settle (Doom v.parameters.hwnd)) (λ tr out. Rows s (DefaultFor v.parameters) (At (Going v)) tr out) (settling (Doom v.parameters.hwnd)) (Going v) n tr out (default_rows v.parameters v n) (λ first mid m tr out q k. k) (default_divided v.parameters (Settle (Doom v.parameters.hwnd) ∷ []) v n tr out d) in
      defaults r.row r.result

  statement_rows : (line : Statement) (v : Variables) (n : ℕ) → StepTo (Going v) n (λ tr out. Rows s (Line line) (At (Going v)) tr out) (statement line v n)
  statement_rows (Let x e) v n = λ tr out d. empty (λ tr out. Rows s (Line (Let x e)) (At (Going v)) tr out) lets d
  statement_rows (Compute x e op f) v n = λ tr out d. empty (λ tr out. Rows s (Line (Compute x e op f)) (At (Going v)) tr out) computes d
  statement_rows (If' t k a) v n =
      either (Going v) n (λ tr out. Rows s (Line (If' t k a)) (At (Going v)) tr out) (holds t v) (Becomes (Lines (items-the_row-Statement _ a) ∷ []) (Going v)) (passes (Going v))
      (λ h tr out d. if_holds h (single d))
      (λ h tr out d. empty (λ tr out. Rows s (Line (If' t k a)) (At (Going v)) tr out) (if_fails h) d)
  statement_rows (IfElse' t k a j b) v n = λ tr out d. branch_rows (holds t v) t k a j b v n tr out refl d
  statement_rows (While' t k a) v n =
      either (Going v) n (λ tr out. Rows s (Line (While' t k a)) (At (Going v)) tr out) (holds t v) (Becomes (Lines (items-the_row-Statement _ a) ∷ PassEnd (While' t k a) n ∷ []) (Going v)) (passes (Going v))
      (λ h tr out d. while_rows t k a v n tr out h (divide (Lines (items-the_row-Statement _ a) ∷ []) (PassEnd (While' t k a) n ∷ []) d))
      (λ h tr out d. empty (λ tr out. Rows s (Line (While' t k a)) (At (Going v)) tr out) (while_ends h) d)
  statement_rows (Return e) v n = λ tr out d. empty (λ tr out. Rows s (Line (Return e)) (At (Going v)) tr out) returns d
  statement_rows (CallOf ask) v n = λ tr out d. let r = call_settles (call_of ask v) v n tr out d in makes r.row r.result
  statement_rows (Sleep e) v n = λ tr out d. let r = call_first Clock (Sleeping (value_of e v)) (Asleep (value_of e v)) same v n tr out (asleep_at (value_of e v)) d in sleeps r.one (same_other r) r.all
  statement_rows (Create c) v n = create_rows c v n
  statement_rows (Destroy e) v n = destroy_rows e v n
  statement_rows (CompoundOf c) v n = compound_statement c v n
  statement_rows DefaultOf v n = default_statement v n

  sleep_rows : (ms : ℕ) (v : Variables) (a : Answer) (x n : ℕ) → StepTo (Given v a x) n (λ tr out. Rows s (Asleep ms) (At (Given v a x)) tr out) (slept ms (settled v Clock a x) a x)
  sleep_rows ms v (Refused code) x n = λ tr out d. empty (λ tr out. Rows s (Asleep ms) (At (Given v (Refused code) x)) tr out) (asleep_refused refl) d
  sleep_rows ms v a x n = λ tr out d. let r = call_settles (SleepUntil (time_after x ms)) (settled v Clock a x) n tr out d in asleep refl r.row r.result

  -- the end of a pass
  quiet_rows : (loop : Statement) (mid : State) (m : ℕ) (tr : Trace) (out : Point) → IsGiven (At mid) → Parts s (Quiet ∷ One loop ∷ []) mid m tr out → Rows s (Line loop) (At (going mid)) tr out
  quiet_rows loop (Going v) m tr out k d = absurd k
  quiet_rows loop (Returning v x) m tr out k d = absurd k
  quiet_rows loop (Given v a x) m tr out k d = single (after_map Quiet (One loop ∷ []) quieting (Given v a x) m tr out (λ tr out r. r) d)

  pass_end : (z : Bool) (loop : Statement) (v : Variables) (n : ℕ) → StepTo (Going v) n (λ tr out. OneOf z (Two s (Calls Yield) (At (Going v)) (Line loop) going tr out) (Rows s (Line loop) (At (Going v)) tr out)) (if z then Becomes (Making Yield ∷ Quiet ∷ One loop ∷ []) (Going v) else Becomes (One loop ∷ []) (Going v))
  pass_end true loop v n = λ tr out d. two_of (Making Yield ∷ []) (Quiet ∷ One loop ∷ []) (Calls Yield) (At (Going v)) (Line loop) going (Going v) n tr out (λ tr out x. single x) (quiet_rows loop) (divide (Making Yield ∷ []) (Quiet ∷ One loop ∷ []) d)
  pass_end false loop v n = λ tr out d. single d

  begins_rows : (p : Piece) (v : Variables) (n : ℕ) → StepTo (Going v) n (λ tr out. RowOf s p (Going v) n tr out) (begins s p v n)
  begins_rows (Lines []) v n = λ tr out d. empty (λ tr out. Rows s (Body []) (At (Going v)) tr out) body_over d
  begins_rows (Lines (line ∷ lines)) v n = body_rows line lines v n
  begins_rows (One line) v n = statement_rows line v n
  begins_rows (PassEnd loop began) v n = pass_end (n == began) loop v n
  begins_rows (Making call) v n = ((λ a tr out d. after_call call a v (suc n) tr out d), call_cut)
  begins_rows (Running run) v n = frame_rows run v n
  begins_rows (Leaving run) v n = leaving_rows run v n
  begins_rows (Leaves f x) v n = ((λ a tr out d. after_call (Leave x) a v (suc n) tr out d), call_cut)
  begins_rows p v n = λ tr out d. nothing d

  returns_rows : (p : Piece) (v : Variables) (x n : ℕ) → StepTo (Returning v x) n (λ tr out. RowOf s p (Returning v x) n tr out) (returns_to p v x)
  returns_rows (Making call) v x n = ((λ a tr out d. after_call call a v (suc n) tr out d), call_cut)
  returns_rows (Again call) v x n = λ tr out d. single d
  returns_rows (Leaving run) v x n = λ tr out d. let r = leave_rows x run v n tr out d in exit_returned r.row r.result
  returns_rows p v x n = λ tr out d. nothing d

  takes_rows : (p : Piece) (v : Variables) (a : Answer) (x n : ℕ) → StepTo (Given v a x) n (λ tr out. RowOf s p (Given v a x) n tr out) (takes p v a x)
  takes_rows (Sleeping ms) v a x n = sleep_rows ms v a x n
  takes_rows (Feed q) v a x n = compound_rows q v a x n
  takes_rows p v a x n = λ tr out d. nothing d

  step_rows : (p : Piece) (st : State) (n : ℕ) → StepTo st n (λ tr out. RowOf s p st n tr out) (step s p st n)
  step_rows p (Going v) n = begins_rows p v n
  step_rows p (Returning v x) n = returns_rows p v x n
  step_rows p (Given v a x) n = takes_rows p v a x n

  -- each trace of pieces is one by their rows
  complete : {ps : List Piece} {st : State} {n : ℕ} {tr : Trace} {e : End} → Makes s ps st n tr e → (out : Point) × Parts s ps st n tr out × (e ≡ end_of out)
  complete (over {st = st}) = (At st, none, refl)
  complete (silent {p = p} {left = left} {st = st} {n = n} {tr = tr} ps st' h m) =
      let r = complete m in
      let f : (tr : Trace) (out : Point) → Parts s ps st' n tr out → RowOf s p st n tr out = subst (λ x. StepTo st n (λ tr out. RowOf s p st n tr out) x) h (step_rows p st n) in
      (r.0, back p ps left st st' n tr r.0 f (divide ps left r.1), r.2)
  complete (entry {p = p} {left = left} {st = st} {n = n} {tr = tr} call a h m) =
      let r = complete m in
      let f : StepTo st n (λ tr out. RowOf s p st n tr out) (Asks call) = subst (λ x. StepTo st n (λ tr out. RowOf s p st n tr out) x) h (step_rows p st n) in
      (r.0, back_entry p (follows call a) left st (answered call a (variables_of st)) n (call, a) tr r.0 (f.0 a) (divide (follows call a) left r.1), r.2)
  complete (cut {p = p} {left = left} {st = st} {n = n} call h) =
      let f : StepTo st n (λ tr out. RowOf s p st n tr out) (Asks call) = subst (λ x. StepTo st n (λ tr out. RowOf s p st n tr out) x) h (step_rows p st n) in
      (CutBefore call, stop call f.1, refl)

  end_rows : (mid : State) (m : ℕ) (tr : Trace) (out : Point) → IsRun (At mid) → Parts s (Making EndThread ∷ []) mid m tr out → Rows s (Calls EndThread) (At (going mid)) tr out
  end_rows (Going v) m tr out k d = single d
  end_rows (Returning v x) m tr out k d = single d
  end_rows (Given v a x) m tr out k d = absurd k

  thread_rows : (t : ℕ) (tr : Trace) (out : Point) → Parts s (program s t) (Going start) 0 tr out → Rows s (Thread t) (At (Going start)) tr out
  thread_rows t tr out d =
      let r = two_of (Lines (body_of s t) ∷ []) (Making EndThread ∷ []) (Body (body_of s t)) (At (Going start)) (Calls EndThread) going (Going start) 0 tr out (λ tr out x. single x) end_rows (divide (Lines (body_of s t) ∷ []) (Making EndThread ∷ []) d) in
      thread r.one r.other r.all

  -- a trace of a thread by the table is one by the rows
  pub to_rows : (t : ℕ) (tr : Trace) (e : End) → IsTrace s t tr e → ByRows s t tr e
  to_rows t tr e m = let r = complete m in (r.0, thread_rows t tr r.0 r.1, r.2)

-- Each trace by the rows is one of the table of steps.
use Rattle.std.proofs.Common.{◌≡◌, ℕ, ◌+◌, suc, Bool, true, false, List, [], ◌∷◌, ◌++◌, length, refl, sym, ap, ◌∙◌, subst, append_assoc, append-nil, arith}
use Rattle.std.specs.Prelude.{if◌then◌else◌, ◌==◌, None}
use Rattle.win_num.specs.declared.message.Msg.{Msg}
use Rattle.user_model.specs.declared.call.Call.{Call}
use Rattle.user_model.specs.declared.call.Call.TheVariants.{Get, PostQuit, Enable, BeginDialog, DialogState, EndDialog, Await, Leave, Doom, Unmake, Drop, NextTop, SetFocus, ReleaseCapture, Erase, Clock, SleepUntil, Yield, EndThread}
use Rattle.user_model.specs.declared.entry.Answer.{Answer}
use Rattle.user_model.specs.declared.entry.Answer.TheVariants.{Wait, Value, Window as WindowMade, Called, Inside, Begun, Enter, Callback, Tell, Last, Running as RunningDialog, Finished, Got, Refused}
use Rattle.user_model.specs.Stacks.{waits}
use Rattle.script_tree.specs.declared.messages.TheConstants.{WM_NCCREATE, WM_CREATE, WM_DESTROY, WM_NCDESTROY}
use Rattle.win_num.specs.declared.send.Frame.TheVariants.{Inside as InsideFrame, Called as CalledFrame}
use Rattle.script_tree.specs.declared.operand.Test.{Test}
use Rattle.script_tree.specs.declared.statement.Statement.{Statement, items-the_row-Statement}
use Rattle.script_tree.specs.declared.statement.Statement.TheVariants.{Let, Compute, If', IfElse', While', Return, Call as CallOf, Sleep, Create, Destroy, Compound as CompoundOf, Default as DefaultOf}
use Rattle.script_tree.specs.declared.variables.Parameters.{Parameters}
use Rattle.script_tree.specs.declared.variables.Variables.{Variables}
use Rattle.script_tree.specs.declared.statement.CompoundStatement.{CompoundStatement}
use Rattle.script_tree.specs.declared.statement.CompoundStatement.TheVariants.{PostAll, NotifyAll, Pump, Dialog as DialogOf}
use Rattle.script_tree.specs.declared.frame.Begin.{Begin}
use Rattle.script_tree.specs.declared.frame.Dialog.{Dialog}
use Rattle.script_tree.specs.declared.frame.Modal.{Modal}
use Rattle.script_tree.specs.declared.frame.Modal.TheVariants.{Pump as PumpLoop, Dialog as DialogLoop}
use Rattle.script_tree.specs.declared.frame.Notices.{Notices}
use Rattle.script_tree.specs.declared.frame.Broadcast.{Broadcast}
use Rattle.script_tree.specs.declared.frame.Run.{Run}
use Rattle.script_tree.specs.declared.frame.Place.{Place}
use Rattle.script_tree.specs.declared.frame.Place.TheVariants.{Making as MakingWindow, Greeting, Telling, Undoing, Defaulting, Dooming, Unmaking as UnmakingPlace, Destroying, Parting, Dropping, Single, Calling, Notifying as NotifyingPlace, Seeking, Reaching, Getting, Translating, Dispatching, Opening, Disabling, Asking, Requitting, Finishing, Enabling}
use Rattle.script_tree.specs.declared.frame.Lead.TheVariants.{Calls as CallsLead, Runs as RunsLead, Ends}
use Rattle.script_tree.specs.Tree.{Tree, body_of, procedure_of}
use Rattle.script_tree.specs.Values.{value_of, computed, holds, assigned, call_of, settling_call, dispatch_of, translate_of, creation_call, time_after, start, inside_of, settled}
use Rattle.script_tree.specs.Modals.{turns, enabling, loop_ends, quits as quits_so, dialog_on}
use Rattle.script_tree.specs.Notices.{number_in, others, notices_after, result_after}
use Rattle.script_tree.specs.Compounds.{sent, unmakes, validation, destruction as destruction_begin, cleaning, erasing, notifying as notifying_begin, compound_begin, notice_call, reach, default_begin, default_result, compound_after}
use Rattle.script_tree.specs.Pieces.{Piece, Lines, One, PassEnd, Making, Again, Giving, Settle, Quiet, Sleeping, Running, Leaving, Leaves, Left, Restore, Feed, State, Going, Returning, Given, Becomes, Asks, Trace, End}
use Rattle.script_tree.specs.Steps.{step, default_pieces, goes_on, sleeps as slept, passes, makes as calls_for, follows, following, given, answered, after_answer, is_last, parameters_of, run_of, variables_of}
use Rattle.script_tree.specs.Traces.{Makes, over, silent, entry, cut, program, IsTrace}
use Rattle.script_tree.specs.Rows.{Point, At, CutBefore, on, going, settling, giving, returning, restoring, defaulting, undone, concluding, ended, is_refusal, entered, called_back, end_of, ByRows, Part, Body, Line, Asleep, Calls, Frame, Exit, DefaultFor, Destruction, Doomed, Unmaking, Unmade, Created, Greeted, Told, Notifying, Notified, Sends, Broadcasts, Found, Fetches, Fetched, Hands, Closes, Opens, Opened, Disabled, Asks, Asked, Quits, Finishes, Thread, Rows, call_cut, after_cut, body_over, body, body_left, lets, computes, if_holds, if_fails, if_first, if_second, while_ends, while_left, while_cut, while_again, while_yields, returns, makes, sleeps, asleep_refused, asleep, defaults, destroys, creates, compounds, call_waits, call_enters, call_back, leave_back, call_inside, call_calls, call_begins, call_ends, frame, exit_returned, exit_callback, exit_default, default_close, default_paint, default_erase, default_activate, default_cancel, default_greeting, default_other, destruction, doom_refused, doomed, unmaking, unmade_tell, unmade_last, unmade_refused, unmade_gone, create_refused, create_none, created, greeted_no, greeted, told_refused, told_no, told, compound_part, notifying, notified_refused, notified, sends_over, sends_next, broadcasts, found_refused, found_none, found, loop_part, quit_part, fetches, fetched_refused, fetched_none, fetched_quit, fetched_key, fetched, hands, closes_pump, opens, opened_refused, opened_alone, opened, disabled, disabled_before, asks, asked_running, asked_finished, asked_refused, asked_gone, quits, finishes, closes_alone, closes_dialog, thread}
use Rattle.script_tree.proofs.Defaults.{default_append, default_is, default_none, close_begins, paint_begins, erase_begins, activate_begins, cancel_begins, other_begins}
use Rattle.script_tree.proofs.RowKinds.{IsGiven, IsReturned, IsRun, kind, answering, answering_given, default_answered}
use Rattle.script_tree.proofs.RowSteps.{counted, uncounted, doom_goes, doom_ends, unmade_ends, unmade_done, made_ends, made_none, greeted_zero, greeted_more, telling_refused, telling_kept, kept_no, kept_yes, calling_ends, calling_goes, notifies_over, notifies_next, seeking_ends, seeking_none, seeking_next, getting_ends, getting_none, getting_quit, getting_key, getting_other, opening_ends, opening_alone, opening_runs, disabling_enabled, disabling_other, asking_ends, asking_gone, closing_alone, closing_runs, close_result, paint_result, erase_result, activate_result, cancel_result, other_result, greeting_result, final_follows, final_answered}

-- The pieces make the trace, up to that place: the table's relation with the state at its end.
pub data Runs (s : Tree) : List Piece → State → ℕ → Trace → Point → Type 0 where
  runs_over : {st : State} {n : ℕ} → Runs s [] st n [] (At st)
  runs_silent : {p : Piece} {left : List Piece} {st : State} {n : ℕ} {tr : Trace} {out : Point} (ps : List Piece) (st' : State) → step s p st n ≡ Becomes ps st' → Runs s (ps ++ left) st' n tr out → Runs s (p ∷ left) st n tr out
  runs_entry : {p : Piece} {left : List Piece} {st : State} {n : ℕ} {tr : Trace} {out : Point} (call : Call) (a : Answer) → step s p st n ≡ Asks call → Runs s (follows call a ++ left) (answered call a (variables_of st)) (suc n) tr out → Runs s (p ∷ left) st n ((call, a) ∷ tr) out
  runs_cut : {p : Piece} {left : List Piece} {st : State} {n : ℕ} (call : Call) → step s p st n ≡ Asks call → Runs s (p ∷ left) st n [] (CutBefore call)

module _ (s : Tree) where
  -- a trace up to a place is one of the table
  pub makes_of : {ps : List Piece} {st : State} {n : ℕ} {tr : Trace} {out : Point} → Runs s ps st n tr out → Makes s ps st n tr (end_of out)
  makes_of runs_over = over
  makes_of (runs_silent ps st' h d) = silent ps st' h (makes_of d)
  makes_of (runs_entry call a h d) = entry call a h (makes_of d)
  makes_of (runs_cut call h) = cut call h

  -- what follows a trace that comes to that place
  abbrev Follow : List Piece → ℕ → Trace → Point → Trace → Point → Type 0
  Follow qs n first (At mid) second out = (m : ℕ) → m ≡ n + length first → Runs s qs mid m second out
  Follow qs n first (CutBefore call) second out = (second ≡ []) × (out ≡ CutBefore call)

  shift : (qs : List Piece) (n : ℕ) (x : Call × Answer) (first : Trace) (mid : Point) (second : Trace) (out : Point) → Follow qs n (x ∷ first) mid second out → Follow qs (suc n) first mid second out
  shift qs n x first (At mid) second out k = λ m e. k m (omega (arith, e))
  shift qs n x first (CutBefore call) second out k = k

  join : {ps : List Piece} {st : State} {n : ℕ} {first : Trace} {mid : Point} (qs : List Piece) (second : Trace) (out : Point) → Runs s ps st n first mid → Follow qs n first mid second out → Runs s (ps ++ qs) st n (first ++ second) out
  join qs second out (runs_over {st = st} {n = n}) k = k n (omega arith)
  join qs second out (runs_silent {left = left} {st = st} {n = n} {tr = tr} ps st' h d) k =
      runs_silent ps st' h (subst (λ xs. Runs s xs st' n (tr ++ second) out) (append_assoc ps left qs) (join qs second out d k))
  join qs second out (runs_entry {left = left} {st = st} {n = n} {tr = tr} {out = mid} call a h d) k =
      runs_entry call a h (subst (λ xs. Runs s xs (answered call a (variables_of st)) (suc n) (tr ++ second) out) (append_assoc (follows call a) left qs) (join qs second out d (shift qs n (call, a) tr mid second out k)))
  join qs second out (runs_cut {p = p} {left = left} {st = st} {n = n} call h) k =
      subst (λ x. Runs s (p ∷ left ++ qs) st n x out) (sym k.0) (subst (λ x. Runs s (p ∷ left ++ qs) st n [] x) (sym k.1) (runs_cut call h))

  -- one trace and then the other
  both : (ps qs : List Piece) (st : State) (n : ℕ) (tr first second : Trace) (mid out : Point) → Runs s ps st n first mid → Follow qs n first mid second out → tr ≡ first ++ second → Runs s (ps ++ qs) st n tr out
  both ps qs st n tr first second mid out d k f = subst (λ x. Runs s (ps ++ qs) st n x out) (sym f) (join qs second out d k)

  -- a piece that becomes others has their trace
  becomes : (p : Piece) (ps : List Piece) (st st' : State) (n : ℕ) (tr : Trace) (out : Point) → step s p st n ≡ Becomes ps st' → Runs s ps st' n tr out → Runs s (p ∷ []) st n tr out
  becomes p ps st st' n tr out h d = runs_silent ps st' h (subst (λ xs. Runs s xs st' n tr out) (sym (append-nil ps)) d)

  -- a piece that passes a state on
  passed : (p : Piece) (st st' : State) (n : ℕ) → step s p st n ≡ Becomes [] st' → Runs s (p ∷ []) st n [] (At st')
  passed p st st' n h = runs_silent [] st' h runs_over

  -- and then a piece that only changes the state
  mapped_at : (p : Piece) (f : State → State) (n : ℕ) (tr : Trace) (got : Point) → ((st : State) (m : ℕ) → step s p st m ≡ Becomes [] (f st)) → Follow (p ∷ []) n tr got [] (on f got)
  mapped_at p f n tr (At st) h = λ m e. passed p st (f st) m (h st m)
  mapped_at p f n tr (CutBefore call) h = (refl, refl)

  then_maps : (ps : List Piece) (p : Piece) (f : State → State) (st : State) (n : ℕ) (tr : Trace) (got out : Point) → Runs s ps st n tr got → Follow (p ∷ []) n tr got [] (on f got) → out ≡ on f got → Runs s (ps ++ p ∷ []) st n tr out
  then_maps ps p f st n tr got out d k e =
      subst (λ x. Runs s (ps ++ p ∷ []) st n tr x) (sym e) (both ps (p ∷ []) st n tr tr [] got (on f got) d k (sym (append-nil tr)))

  maps : (ps : List Piece) (p : Piece) (f : State → State) (st : State) (n : ℕ) (tr : Trace) (got out : Point) → Runs s ps st n tr got → ((st : State) (m : ℕ) → step s p st m ≡ Becomes [] (f st)) → out ≡ on f got → Runs s (ps ++ p ∷ []) st n tr out
  maps ps p f st n tr got out d h e = then_maps ps p f st n tr got out d (mapped_at p f n tr got h) e

  settle_maps : (call : Call) (st : State) (m : ℕ) → step s (Settle call) st m ≡ Becomes [] (settling call st)
  settle_maps call (Going v) m = refl
  settle_maps call (Returning v x) m = refl
  settle_maps call (Given v a x) m = refl

  giving_follows : (a : Answer) (n : ℕ) (tr : Trace) (got : Point) → IsReturned got → Follow (Giving a ∷ []) n tr got [] (on (giving a) got)
  giving_follows a n tr (At (Returning v x)) k = λ m e. passed (Giving a) (Returning v x) (Given v a x) m refl
  giving_follows a n tr (At st) k = absurd k
  giving_follows a n tr (CutBefore call) k = (refl, refl)

  left_maps : (x : ℕ) (st : State) (m : ℕ) → step s (Left x) st m ≡ Becomes [] (returning x st)
  left_maps x (Going v) m = refl
  left_maps x (Returning v y) m = refl
  left_maps x (Given v b y) m = refl

  restore_maps : (p : Parameters) (st : State) (m : ℕ) → step s (Restore p) st m ≡ Becomes [] (restoring p st)
  restore_maps p (Going v) m = refl
  restore_maps p (Returning v x) m = refl
  restore_maps p (Given v b x) m = refl

  undone_maps : (got : Point) (n : ℕ) (tr : Trace) → IsGiven got → Follow (Feed Undoing ∷ []) n tr got [] (on undone got)
  undone_maps (At (Given v a x)) n tr k = λ m e. passed (Feed Undoing) (Given v a x) (Given v (Value 0) 0) m refl
  undone_maps (At st) n tr k = absurd k
  undone_maps (CutBefore call) n tr k = (refl, refl)

  single_maps : (got : Point) (n : ℕ) (tr : Trace) → IsGiven got → Follow (Feed Single ∷ []) n tr got [] (on answering got)
  single_maps (At (Given v a x)) n tr k = λ m e. passed (Feed Single) (Given v a x) (Given v a 0) m refl
  single_maps (At st) n tr k = absurd k
  single_maps (CutBefore call) n tr k = (refl, refl)

  defaulting_maps : (y : ℕ) (got : Point) (n : ℕ) (tr : Trace) → IsGiven got → Follow (Feed (Defaulting y) ∷ []) n tr got [] (on (defaulting y) got)
  defaulting_maps y (At (Given v (Refused code) x)) n tr k = λ m e. passed (Feed (Defaulting y)) (Given v (Refused code) x) (Given v (Refused code) 0) m refl
  defaulting_maps y (At (Given v a x)) n tr k = λ m e. passed (Feed (Defaulting y)) (Given v a x) (Given v (Value y) 0) m refl
  defaulting_maps y (At st) n tr k = absurd k
  defaulting_maps y (CutBefore call) n tr k = (refl, refl)

  enabling_maps : (b : Answer) (got : Point) (n : ℕ) (tr : Trace) → IsGiven got → Follow (Feed (Enabling b) ∷ []) n tr got [] (on (concluding b) got)
  enabling_maps b (At (Given v a x)) n tr k = λ m e. passed (Feed (Enabling b)) (Given v a x) (Given v b 0) m refl
  enabling_maps b (At st) n tr k = absurd k
  enabling_maps b (CutBefore call) n tr k = (refl, refl)

  -- a piece that steps as another one has its traces
  same_step : (p q : Piece) (left : List Piece) (st st' : State) {n : ℕ} {tr : Trace} {out : Point} → ((n : ℕ) → step s p st n ≡ step s q st' n) → variables_of st ≡ variables_of st' → Runs s (p ∷ left) st n tr out → Runs s (q ∷ left) st' n tr out
  same_step p q left st st' {n} e f (runs_silent ps st'' h d) = runs_silent ps st'' (sym (e n) ∙ h) d
  same_step p q left st st' {n} e f (runs_entry {tr = tr} {out = out} call a h d) = runs_entry call a (sym (e n) ∙ h) (subst (λ v. Runs s (follows call a ++ left) (answered call a v) (suc n) tr out) f d)
  same_step p q left st st' {n} e f (runs_cut call h) = runs_cut call (sym (e n) ∙ h)

  -- a call with that answer, and the trace of what follows it
  answers : (call : Call) (a : Answer) (ps : List Piece) (v : Variables) (st : State) (n : ℕ) (tr : Trace) (out : Point) → follows call a ≡ ps → answered call a v ≡ st → Runs s ps st (suc n) tr out → Runs s (Making call ∷ []) (Going v) n ((call, a) ∷ tr) out
  answers call a ps v st n tr out f g d =
      runs_entry call a refl (subst (λ xs. Runs s (xs ++ []) (answered call a v) (suc n) tr out) (sym f) (subst (λ xs. Runs s xs (answered call a v) (suc n) tr out) (sym (append-nil ps)) (subst (λ y. Runs s ps y (suc n) tr out) (sym g) d)))

  -- a step of a compound
  feeds : (q : Place) (v : Variables) (a : Answer) (x : ℕ) (call : Call) (next : Place) (n : ℕ) (tr : Trace) (out : Point) → compound_after q a x ≡ CallsLead call next → Runs s (Making call ∷ Feed next ∷ []) (Going v) n tr out → Runs s (Feed q ∷ []) (Given v a x) n tr out
  feeds q v a x call next n tr out h d = becomes (Feed q) (Making call ∷ Feed next ∷ []) (Given v a x) (Going v) n tr out (ap (goes_on v) h) d

  feed_ends : (q : Place) (v : Variables) (a b : Answer) (x n : ℕ) → compound_after q a x ≡ Ends b → Runs s (Feed q ∷ []) (Given v a x) n [] (ended v b)
  feed_ends q v a b x n h = passed (Feed q) (Given v a x) (Given v b 0) n (ap (goes_on v) h)

  -- a compound that begins inside of another
  feed_runs : (q : Place) (v : Variables) (a : Answer) (x : ℕ) (b : Begin) (next : Place) (n : ℕ) (tr : Trace) (out : Point) → compound_after q a x ≡ RunsLead b next → Runs s (Making b.call ∷ Feed b.place ∷ Feed next ∷ []) (Going v) n tr out → Runs s (Feed q ∷ []) (Given v a x) n tr out
  feed_runs q v a x b next n tr out h d = becomes (Feed q) (Making b.call ∷ Feed b.place ∷ Feed next ∷ []) (Given v a x) (Going v) n tr out (ap (goes_on v) h) d

  -- what a part's traces are by the table, from a state on
  abbrev Sound : Part → State → ℕ → Trace → Point → Type 0
  Sound (Body lines) st n tr out = Runs s (Lines lines ∷ []) st n tr out
  Sound (Line line) st n tr out = Runs s (One line ∷ []) st n tr out
  Sound (Asleep ms) st n tr out = Runs s (Sleeping ms ∷ []) st n tr out
  Sound (Calls call) st n tr out = Runs s (Making call ∷ []) st n tr out
  Sound (Frame run) st n tr out = Runs s (Running run ∷ []) st n tr out
  Sound (Exit run) st n tr out = Runs s (Leaving run ∷ []) st n tr out
  Sound (DefaultFor p) st n tr out = Runs s (default_pieces p []) st n tr out
  Sound (Destruction w) st n tr out = Runs s (Making (Doom w) ∷ Feed (Dooming w) ∷ []) st n tr out
  Sound (Doomed w) st n tr out = Runs s (Feed (Dooming w) ∷ []) st n tr out
  Sound (Unmaking w) st n tr out = Runs s (Making (Unmake w) ∷ Feed (UnmakingPlace w) ∷ []) st n tr out
  Sound (Unmade w) st n tr out = Runs s (Feed (UnmakingPlace w) ∷ []) st n tr out
  Sound Created st n tr out = Runs s (Feed MakingWindow ∷ []) st n tr out
  Sound (Greeted w) st n tr out = Runs s (Feed (Greeting w) ∷ []) st n tr out
  Sound (Told w) st n tr out = Runs s (Feed (Telling w) ∷ []) st n tr out
  Sound (Notifying call) st n tr out = Runs s (Making call ∷ Feed (Calling call) ∷ []) st n tr out
  Sound (Notified call) st n tr out = Runs s (Feed (Calling call) ∷ []) st n tr out
  Sound (Sends ns y) st n tr out = (a : Answer) (x : ℕ) → Runs s (Feed (NotifyingPlace ns y) ∷ []) (Given (variables_of st) a x) n tr out
  Sound (Broadcasts b w) st n tr out = Runs s (Making (NextTop w) ∷ Feed (Seeking b) ∷ []) st n tr out
  Sound (Found b) st n tr out = Runs s (Feed (Seeking b) ∷ []) st n tr out
  Sound (Fetches l) st n tr out = Runs s (Making (Get 0 0 0) ∷ Feed (Getting l) ∷ []) st n tr out
  Sound (Fetched l) st n tr out = Runs s (Feed (Getting l) ∷ []) st n tr out
  Sound (Hands l msg) st n tr out = Runs s (Making (dispatch_of msg) ∷ Feed (Dispatching l) ∷ []) st n tr out
  Sound (Closes l b) st n tr out = (q : Place) (a : Answer) (x : ℕ) → compound_after q a x ≡ loop_ends l b → Runs s (Feed q ∷ []) (Given (variables_of st) a x) n tr out
  Sound (Opens w) st n tr out = Runs s (Making (BeginDialog w) ∷ Feed (Opening w) ∷ []) st n tr out
  Sound (Opened w) st n tr out = Runs s (Feed (Opening w) ∷ []) st n tr out
  Sound (Disabled d) st n tr out = Runs s (Feed (Disabling d) ∷ []) st n tr out
  Sound (Asks d) st n tr out = Runs s (Making (DialogState d.window) ∷ Feed (Asking d) ∷ []) st n tr out
  Sound (Asked d) st n tr out = Runs s (Feed (Asking d) ∷ []) st n tr out
  Sound (Quits d code) st n tr out = Runs s (Making (PostQuit code) ∷ Feed (Requitting d) ∷ []) st n tr out
  Sound (Finishes d) st n tr out = Runs s (Making (EndDialog d.window 0) ∷ Feed (Finishing d) ∷ []) st n tr out
  Sound (Thread t) st n tr out = Runs s (program s t) st n tr out

  -- after that place, whatever the number of entries is
  abbrev Ahead : (State → ℕ → Type 0) → Point → Trace → Point → Type 0
  Ahead P (At st) tr out = (n : ℕ) → P st n
  Ahead P (CutBefore call) tr out = (tr ≡ []) × (out ≡ CutBefore call)

  abbrev Meaning : Part → Point → Trace → Point → Type 0
  Meaning part before tr out = Ahead (λ st n. Sound part st n tr out) before tr out

  ahead : (qs : List Piece) (n : ℕ) (first : Trace) (mid : Point) (second : Trace) (out : Point) → Ahead (λ st m. Runs s qs st m second out) mid second out → Follow qs n first mid second out
  ahead qs n first (At st) second out k = λ m e. k m
  ahead qs n first (CutBefore call) second out k = k

  -- a `while` goes on after its `yield`
  ahead_yield : (loop : Statement) (n : ℕ) (first : Trace) (mid : Point) (second : Trace) (out : Point) → IsGiven mid → Meaning (Line loop) (on going mid) second out → Follow (Quiet ∷ One loop ∷ []) n first mid second out
  ahead_yield loop n first (At (Given v a x)) second out g k = λ m e. runs_silent [] (Going v) refl (k m)
  ahead_yield loop n first (At st) second out g k = absurd g
  ahead_yield loop n first (CutBefore call) second out g k = k

  -- the same call again after an attempt
  ahead_again : (call : Call) (n : ℕ) (first : Trace) (mid : Point) (second : Trace) (out : Point) → IsReturned mid → Meaning (Calls call) (on going mid) second out → Follow (Again call ∷ []) n first mid second out
  ahead_again call n first (At (Returning v x)) second out g k = λ m e. runs_silent (Making call ∷ []) (Going v) refl (k m)
  ahead_again call n first (At st) second out g k = absurd g
  ahead_again call n first (CutBefore c) second out g k = k

  -- the end of a thread
  ahead_end : (n : ℕ) (first : Trace) (mid : Point) (second : Trace) (out : Point) → IsRun mid → Meaning (Calls EndThread) (on going mid) second out → Follow (Making EndThread ∷ []) n first mid second out
  ahead_end n first (At (Going v)) second out g k = λ m e. k m
  ahead_end n first (At (Returning v x)) second out g k = λ m e. same_step (Making EndThread) (Making EndThread) [] (Going v) (Returning v x) (λ i. refl) refl (k m)
  ahead_end n first (At (Given v a x)) second out g k = absurd g
  ahead_end n first (CutBefore c) second out g k = k

  -- the next `unmake` after a message or a `drop`
  ahead_unmake : (w : ℕ) (q : Place) (n : ℕ) (first : Trace) (mid : Point) (second : Trace) (out : Point) → ((a : Answer) (x : ℕ) → compound_after q a x ≡ unmakes w) → IsGiven mid → Meaning (Unmaking w) (on going mid) second out → Follow (Feed q ∷ []) n first mid second out
  ahead_unmake w q n first (At (Given v a x)) second out h g k = λ m e. feeds q v a x (Unmake w) (UnmakingPlace w) m second out (h a x) (k m)
  ahead_unmake w q n first (At st) second out h g k = absurd g
  ahead_unmake w q n first (CutBefore c) second out h g k = k

  -- the `drop` after a last message
  ahead_drop : (w part : ℕ) (n : ℕ) (first : Trace) (mid : Point) (second third : Trace) (after out : Point) → IsGiven mid → IsGiven after → Meaning (Calls (Drop part)) (on going mid) second after → Meaning (Unmaking w) (on going after) third out → Follow (Feed (Parting w part) ∷ []) n first mid (second ++ third) out
  ahead_drop w part n first (At (Given v a x)) second third after out g j k l = λ m e.
      feeds (Parting w part) v a x (Drop part) (Dropping w) m (second ++ third) out refl
      (both (Making (Drop part) ∷ []) (Feed (Dropping w) ∷ []) (Going v) m (second ++ third) second third after out (k m)
      (ahead_unmake w (Dropping w) m second after third out (λ a x. refl) j l) refl)
  ahead_drop w part n first (At st) second third after out g j k l = absurd g
  ahead_drop w part n first (CutBefore c) second third after out g j k l =
      let r : (third ≡ []) × (out ≡ CutBefore c) = subst (λ z. Meaning (Unmaking w) (on going z) third out) k.1 l in
      (ap (λ z. z ++ third) k.0 ∙ r.0, r.1)

  -- the messages that are left behind one of them
  ahead_sends : (ns : Notices) (y : ℕ) (n : ℕ) (first : Trace) (mid : Point) (second : Trace) (out : Point) → IsGiven mid → Meaning (Sends ns y) (on going mid) second out → Follow (Feed (NotifyingPlace ns y) ∷ []) n first mid second out
  ahead_sends ns y n first (At (Given v a x)) second out g k = λ m e. k m a x
  ahead_sends ns y n first (At st) second out g k = absurd g
  ahead_sends ns y n first (CutBefore c) second out g k = k

  -- the next top-level window behind a message to one
  ahead_seek : (b : Broadcast) (w : ℕ) (n : ℕ) (first : Trace) (mid : Point) (second : Trace) (out : Point) → IsGiven mid → Meaning (Broadcasts b w) (on going mid) second out → Follow (Feed (Reaching b w) ∷ []) n first mid second out
  ahead_seek b w n first (At (Given v a x)) second out g k = λ m e. feeds (Reaching b w) v a x (NextTop w) (Seeking b) m second out refl (k m)
  ahead_seek b w n first (At st) second out g k = absurd g
  ahead_seek b w n first (CutBefore c) second out g k = k

  -- a loop of messages goes on
  turn_feeds : (l : Modal) (q : Place) (v : Variables) (a : Answer) (x n : ℕ) (tr : Trace) (out : Point) → compound_after q a x ≡ turns l → Sound (loop_part l) (Going v) n tr out → Runs s (Feed q ∷ []) (Given v a x) n tr out
  turn_feeds PumpLoop q v a x n tr out h d = feeds q v a x (Get 0 0 0) (Getting PumpLoop) n tr out h d
  turn_feeds (DialogLoop d) q v a x n tr out h r = feeds q v a x (DialogState d.window) (Asking d) n tr out h r

  ahead_turn : (l : Modal) (n : ℕ) (first : Trace) (mid : Point) (second : Trace) (out : Point) → IsGiven mid → Meaning (loop_part l) (on going mid) second out → Follow (Feed (Dispatching l) ∷ []) n first mid second out
  ahead_turn l n first (At (Given v a x)) second out g k = λ m e. turn_feeds l (Dispatching l) v a x m second out refl (k m)
  ahead_turn l n first (At st) second out g k = absurd g
  ahead_turn l n first (CutBefore c) second out g k = k

  -- WM_QUIT comes
  quit_feeds : (l : Modal) (code : ℕ) (q : Place) (v : Variables) (a : Answer) (x n : ℕ) (tr : Trace) (out : Point) → compound_after q a x ≡ quits_so l code → Sound (quit_part l code) (Going v) n tr out → Runs s (Feed q ∷ []) (Given v a x) n tr out
  quit_feeds PumpLoop code q v a x n tr out h d = d q a x h
  quit_feeds (DialogLoop d) code q v a x n tr out h r = feeds q v a x (PostQuit code) (Requitting d) n tr out h r

  -- the message of a key goes to its window's procedure
  ahead_hands : (l : Modal) (msg : Msg) (n : ℕ) (first : Trace) (mid : Point) (second : Trace) (out : Point) → IsGiven mid → Meaning (Hands l msg) (on going mid) second out → Follow (Feed (Translating l msg) ∷ []) n first mid second out
  ahead_hands l msg n first (At (Given v a x)) second out g k = λ m e. feeds (Translating l msg) v a x (dispatch_of msg) (Dispatching l) m second out refl (k m)
  ahead_hands l msg n first (At st) second out g k = absurd g
  ahead_hands l msg n first (CutBefore c) second out g k = k

  -- a dialog behind its `post_quit`, and behind its `end_dialog`
  ahead_finishes : (d : Dialog) (n : ℕ) (first : Trace) (mid : Point) (second : Trace) (out : Point) → IsGiven mid → Meaning (Finishes d) (on going mid) second out → Follow (Feed (Requitting d) ∷ []) n first mid second out
  ahead_finishes d n first (At (Given v a x)) second out g k = λ m e. feeds (Requitting d) v a x (EndDialog d.window 0) (Finishing d) m second out refl (k m)
  ahead_finishes d n first (At st) second out g k = absurd g
  ahead_finishes d n first (CutBefore c) second out g k = k

  ahead_asks : (d : Dialog) (n : ℕ) (first : Trace) (mid : Point) (second : Trace) (out : Point) → IsGiven mid → Meaning (Asks d) (on going mid) second out → Follow (Feed (Finishing d) ∷ []) n first mid second out
  ahead_asks d n first (At (Given v a x)) second out g k = λ m e. feeds (Finishing d) v a x (DialogState d.window) (Asking d) m second out refl (k m)
  ahead_asks d n first (At st) second out g k = absurd g
  ahead_asks d n first (CutBefore c) second out g k = k

  -- the pieces of a compound statement
  part_runs : (c : CompoundStatement) (v : Variables) (n : ℕ) (tr : Trace) (out : Point) → Sound (compound_part c v) (Going v) n tr out → Runs s (Making (compound_begin c v).call ∷ Feed (compound_begin c v).place ∷ []) (Going v) n tr out
  part_runs (PostAll m p q) v n tr out d = d
  part_runs (NotifyAll m p q) v n tr out d = d
  part_runs Pump v n tr out d = d
  part_runs (DialogOf w) v n tr out d = d
  part_runs c v n tr out d = d

  while_step : (t : Test) (k : _) (a : _) (v : Variables) (n : ℕ) → holds t v ≡ true → step s (One (While' t k a)) (Going v) n ≡ Becomes (Lines (items-the_row-Statement _ a) ∷ PassEnd (While' t k a) n ∷ []) (Going v)
  while_step t k a v n h = ap (λ z. if z then Becomes (Lines (items-the_row-Statement _ a) ∷ PassEnd (While' t k a) n ∷ []) (Going v) else passes (Going v)) h

  pass_step : (loop : Statement) (n : ℕ) (v : Variables) (m : ℕ) (b : Bool) → (m == n) ≡ b → step s (PassEnd loop n) (Going v) m ≡ (if b then Becomes (Making Yield ∷ Quiet ∷ One loop ∷ []) (Going v) else Becomes (One loop ∷ []) (Going v))
  pass_step loop n v m b h = ap (λ z. if z then Becomes (Making Yield ∷ Quiet ∷ One loop ∷ []) (Going v) else Becomes (One loop ∷ []) (Going v)) h

  sleep_goes : (ms : ℕ) (v : Variables) (a : Answer) (x : ℕ) → is_refusal a ≡ false → slept ms v a x ≡ calls_for (SleepUntil (time_after x ms)) v
  sleep_goes ms v (Refused code) x h = absurd cc
  sleep_goes ms v _ x h = refl

  sleep_ends : (ms : ℕ) (v : Variables) (a : Answer) (x : ℕ) → is_refusal a ≡ true → slept ms v a x ≡ passes (Going v)
  sleep_ends ms v (Refused code) x h = refl
  sleep_ends ms v _ x h = absurd cc

  -- what follows an answer to a call that isn't the last of a thread
  last_follows : (call : Call) (a : Answer) → is_last call ≡ false → (if is_last call then [] else following call a) ≡ following call a
  last_follows call a h = ap (λ z. if z then [] else following call a) h

  last_answered : (call : Call) (a : Answer) (v : Variables) → is_last call ≡ false → (if is_last call then given v a else after_answer call a v) ≡ after_answer call a v
  last_answered call a v h = ap (λ z. if z then given v a else after_answer call a v) h

  waits_not_last : (call : Call) → waits call ≡ true → is_last call ≡ false
  waits_not_last EndThread h = absurd cc
  waits_not_last _ h = refl

  -- the end of a procedure behind the default procedure
  ahead_left : (x : ℕ) (run : Run) (n : ℕ) (first : Trace) (mid : Point) (second : Trace) (out : Point) → Meaning (Exit run) (on (returning x) mid) second out → Follow (Left x ∷ Leaving run ∷ []) n first mid second out
  ahead_left x run n first (At st) second out k = λ m e. runs_silent [] (returning x st) (left_maps x st m) (k m)
  ahead_left x run n first (CutBefore c) second out k = k

  -- the default procedure without a compound
  default_alone : (p : Parameters) (v : Variables) (n x : ℕ) → default_begin p ≡ None → default_result p ≡ x → Runs s (default_pieces p []) (Going v) n [] (ended v (Value x))
  default_alone p v n x f h =
      subst (λ xs. Runs s xs (Going v) n [] (ended v (Value x))) (sym (default_none p x [] f h))
      (passed (Giving (Value x)) (Going v) (Given v (Value x) 0) n refl)

  -- and with one call
  default_one : (call : Call) (y : ℕ) (v : Variables) (n : ℕ) (tr : Trace) (got out : Point) → IsGiven got → ((n : ℕ) → Runs s (Making call ∷ []) (Going v) n tr got) → out ≡ on (defaulting y) got → Runs s (Making call ∷ Feed Single ∷ Feed (Defaulting y) ∷ []) (Going v) n tr out
  default_one call y v n tr got out k d f =
      then_maps (Making call ∷ Feed Single ∷ []) (Feed (Defaulting y)) (defaulting y) (Going v) n tr (on answering got) out
      (then_maps (Making call ∷ []) (Feed Single) answering (Going v) n tr got (on answering got) (d n) (single_maps got n tr k) refl)
      (defaulting_maps y (on answering got) n tr (answering_given got k)) (f ∙ default_answered y got)

  -- and with a compound that sends messages
  default_notifying : (call : Call) (y : ℕ) (v : Variables) (n : ℕ) (tr : Trace) (got out : Point) → IsGiven got → ((n : ℕ) → Runs s (Making call ∷ Feed (Calling call) ∷ []) (Going v) n tr got) → out ≡ on (defaulting y) got → Runs s (Making call ∷ Feed (Calling call) ∷ Feed (Defaulting y) ∷ []) (Going v) n tr out
  default_notifying call y v n tr got out k d f = then_maps (Making call ∷ Feed (Calling call) ∷ []) (Feed (Defaulting y)) (defaulting y) (Going v) n tr got out (d n) (defaulting_maps y got n tr k) f

  pub sound : {part : Part} {before : Point} {tr : Trace} {out : Point} → Rows s part before tr out → Meaning part before tr out
  sound (call_cut {call}) = λ n. runs_cut call refl
  sound after_cut = (refl, refl)
  sound (body_over {v}) = λ n. runs_silent [] (Going v) refl runs_over
  sound (body {line} {lines} {v} {tr} {first} {second} {mid} {out} d e f) = λ n.
      runs_silent (One line ∷ Lines lines ∷ []) (Going v) refl (both (One line ∷ []) (Lines lines ∷ []) (Going v) n tr first second mid out (sound d n) (ahead (Lines lines ∷ []) n first mid second out (sound e)) f)
  sound (body_left {lines} {v} {x}) = λ n. passed (Lines lines) (Returning v x) (Returning v x) n refl
  sound (lets {x} {e} {v}) = λ n. passed (One (Let x e)) (Going v) (Going (assigned v x (value_of e v))) n refl
  sound (computes {x} {e} {f} {op} {v}) = λ n. passed (One (Compute x e op f)) (Going v) (Going (assigned v x (computed (value_of e v) op (value_of f v)))) n refl
  sound (if_holds {t} {k} {a} {v} {tr} {out} h d) = λ n.
      becomes (One (If' t k a)) (Lines (items-the_row-Statement _ a) ∷ []) (Going v) (Going v) n tr out (ap (λ z. if z then Becomes (Lines (items-the_row-Statement _ a) ∷ []) (Going v) else passes (Going v)) h) (sound d n)
  sound (if_fails {t} {k} {a} {v} h) = λ n.
      passed (One (If' t k a)) (Going v) (Going v) n (ap (λ z. if z then Becomes (Lines (items-the_row-Statement _ a) ∷ []) (Going v) else passes (Going v)) h)
  sound (if_first {t} {k} {j} {a} {b} {v} {tr} {out} h d) = λ n.
      becomes (One (IfElse' t k a j b)) (Lines (items-the_row-Statement _ a) ∷ []) (Going v) (Going v) n tr out (ap (λ z. Becomes (Lines (if z then items-the_row-Statement _ a else items-the_row-Statement _ b) ∷ []) (Going v)) h) (sound d n)
  sound (if_second {t} {k} {j} {a} {b} {v} {tr} {out} h d) = λ n.
      becomes (One (IfElse' t k a j b)) (Lines (items-the_row-Statement _ b) ∷ []) (Going v) (Going v) n tr out (ap (λ z. Becomes (Lines (if z then items-the_row-Statement _ a else items-the_row-Statement _ b) ∷ []) (Going v)) h) (sound d n)
  sound (while_ends {t} {k} {a} {v} h) = λ n.
      passed (One (While' t k a)) (Going v) (Going v) n (ap (λ z. if z then Becomes (Lines (items-the_row-Statement _ a) ∷ PassEnd (While' t k a) n ∷ []) (Going v) else passes (Going v)) h)
  sound (while_left {t} {k} {a} {v} {v1} {x} {tr} h d) = λ n.
      becomes (One (While' t k a)) (Lines (items-the_row-Statement _ a) ∷ PassEnd (While' t k a) n ∷ []) (Going v) (Going v) n tr (At (Returning v1 x)) (while_step t k a v n h)
      (both (Lines (items-the_row-Statement _ a) ∷ []) (PassEnd (While' t k a) n ∷ []) (Going v) n tr tr [] (At (Returning v1 x)) (At (Returning v1 x)) (sound d n) (λ m e. passed (PassEnd (While' t k a) n) (Returning v1 x) (Returning v1 x) m refl) (sym (append-nil tr)))
  sound (while_cut {t} {k} {a} {v} {call} {tr} h d) = λ n.
      becomes (One (While' t k a)) (Lines (items-the_row-Statement _ a) ∷ PassEnd (While' t k a) n ∷ []) (Going v) (Going v) n tr (CutBefore call) (while_step t k a v n h)
      (both (Lines (items-the_row-Statement _ a) ∷ []) (PassEnd (While' t k a) n ∷ []) (Going v) n tr tr [] (CutBefore call) (CutBefore call) (sound d n) (refl, refl) (sym (append-nil tr)))
  sound (while_again {t} {k} {a} {v} {v1} {tr} {first} {second} {out} h d g e f) = λ n.
      becomes (One (While' t k a)) (Lines (items-the_row-Statement _ a) ∷ PassEnd (While' t k a) n ∷ []) (Going v) (Going v) n tr out (while_step t k a v n h)
      (both (Lines (items-the_row-Statement _ a) ∷ []) (PassEnd (While' t k a) n ∷ []) (Going v) n tr first second (At (Going v1)) out (sound d n) (λ m i. becomes (PassEnd (While' t k a) n) (One (While' t k a) ∷ []) (Going v1) (Going v1) m second out (pass_step (While' t k a) n v1 m false (counted first n m g i)) (sound e m)) f)
  sound (while_yields {t} {k} {a} {v} {v1} {tr} {first} {second} {mid} {out} h d y e f) = λ n.
      becomes (One (While' t k a)) (Lines (items-the_row-Statement _ a) ∷ PassEnd (While' t k a) n ∷ []) (Going v) (Going v) n tr out (while_step t k a v n h)
      (both (Lines (items-the_row-Statement _ a) ∷ []) (PassEnd (While' t k a) n ∷ []) (Going v) n tr [] tr (At (Going v1)) out (sound d n) (λ m i. becomes (PassEnd (While' t k a) n) (Making Yield ∷ Quiet ∷ One (While' t k a) ∷ []) (Going v1) (Going v1) m tr out (pass_step (While' t k a) n v1 m true (uncounted n m i))
      (both (Making Yield ∷ []) (Quiet ∷ One (While' t k a) ∷ []) (Going v1) m tr first second mid out (sound y m) (ahead_yield (While' t k a) m first mid second out (kind s y) (sound e)) f)) refl)
  sound (returns {e} {v}) = λ n. passed (One (Return e)) (Going v) (Returning v (value_of e v)) n refl
  sound (makes {ask} {v} {tr} {got} {out} d f) = λ n.
      becomes (One (CallOf ask)) (Making (call_of ask v) ∷ Settle (call_of ask v) ∷ []) (Going v) (Going v) n tr out refl
      (maps (Making (call_of ask v) ∷ []) (Settle (call_of ask v)) (settling (call_of ask v)) (Going v) n tr got out (sound d n) (settle_maps (call_of ask v)) f)
  sound (sleeps {e} {v} {tr} {first} {second} {got} {out} d k f) = λ n.
      becomes (One (Sleep e)) (Making Clock ∷ Sleeping (value_of e v) ∷ []) (Going v) (Going v) n tr out refl
      (both (Making Clock ∷ []) (Sleeping (value_of e v) ∷ []) (Going v) n tr first second got out (sound d n) (ahead (Sleeping (value_of e v) ∷ []) n first got second out (sound k)) f)
  sound (asleep_refused {ms} {x} {v} {a} h) = λ n. passed (Sleeping ms) (Given v a x) (Going (settled v Clock a x)) n (sleep_ends ms (settled v Clock a x) a x h)
  sound (asleep {ms} {x} {v} {a} {tr} {got} {out} h d f) = λ n.
      becomes (Sleeping ms) (Making (SleepUntil (time_after x ms)) ∷ Settle (SleepUntil (time_after x ms)) ∷ []) (Given v a x) (Going (settled v Clock a x)) n tr out (sleep_goes ms (settled v Clock a x) a x h)
      (maps (Making (SleepUntil (time_after x ms)) ∷ []) (Settle (SleepUntil (time_after x ms))) (settling (SleepUntil (time_after x ms))) (Going (settled v Clock a x)) n tr got out (sound d n) (settle_maps (SleepUntil (time_after x ms))) f)
  sound (defaults {v} {tr} {got} {out} d f) = λ n.
      becomes (One DefaultOf) (default_pieces v.parameters (Settle (Doom v.parameters.hwnd) ∷ [])) (Going v) (Going v) n tr out refl
      (subst (λ xs. Runs s xs (Going v) n tr out) (default_append v.parameters (Settle (Doom v.parameters.hwnd) ∷ []))
      (maps (default_pieces v.parameters []) (Settle (Doom v.parameters.hwnd)) (settling (Doom v.parameters.hwnd)) (Going v) n tr got out (sound d n) (settle_maps (Doom v.parameters.hwnd)) f))
  sound (destroys {e} {v} {tr} {got} {out} d f) = λ n.
      becomes (One (Destroy e)) (Making (Doom (value_of e v)) ∷ Feed (Dooming (value_of e v)) ∷ Settle (Doom (value_of e v)) ∷ []) (Going v) (Going v) n tr out refl
      (maps (Making (Doom (value_of e v)) ∷ Feed (Dooming (value_of e v)) ∷ []) (Settle (Doom (value_of e v))) (settling (Doom (value_of e v))) (Going v) n tr got out (sound d n) (settle_maps (Doom (value_of e v))) f)
  sound (creates {c} {v} {tr} {first} {second} {mid} {got} {out} d e f g) = λ n.
      becomes (One (Create c)) (Making (creation_call c v) ∷ Feed MakingWindow ∷ Settle (creation_call c v) ∷ []) (Going v) (Going v) n tr out refl
      (maps (Making (creation_call c v) ∷ Feed MakingWindow ∷ []) (Settle (creation_call c v)) (settling (creation_call c v)) (Going v) n tr got out
      (both (Making (creation_call c v) ∷ []) (Feed MakingWindow ∷ []) (Going v) n tr first second mid got (sound d n) (ahead (Feed MakingWindow ∷ []) n first mid second got (sound e)) f) (settle_maps (creation_call c v)) g)
  sound (compounds {c} {v} {tr} {got} {out} d f) = λ n.
      let b = compound_begin c v in
      becomes (One (CompoundOf c)) (Making b.call ∷ Feed b.place ∷ Settle (settling_call c v) ∷ []) (Going v) (Going v) n tr out refl
      (maps (Making b.call ∷ Feed b.place ∷ []) (Settle (settling_call c v)) (settling (settling_call c v)) (Going v) n tr got out (part_runs c v n tr got (sound d n)) (settle_maps (settling_call c v)) f)
  sound (call_waits {call} {v} {tr} {out} d) = λ n. answers call Wait (Making call ∷ []) v (Going v) n tr out refl refl (sound d (suc n))
  sound (call_enters {call} {v} {sid} {proc_no} {number} {wparam} {lparam} {w} {tr} {first} {second} {mid} {out} h d e f) = λ n.
      answers call (Enter sid proc_no w number wparam lparam) (Running (entered sid proc_no w.0 number wparam lparam) ∷ Again call ∷ []) v (Going v) n tr out
      (last_follows call (Enter sid proc_no w number wparam lparam) h) (last_answered call (Enter sid proc_no w number wparam lparam) v h)
      (both (Running (entered sid proc_no w.0 number wparam lparam) ∷ []) (Again call ∷ []) (Going v) (suc n) tr first second mid out (sound d (suc n)) (ahead_again call (suc n) first mid second out (kind s d) (sound e)) f)
  sound (call_back {call} {v} {sid} {proc_no} {number} {extra} {result} {w} {tr} {first} {second} {mid} {out} h g d e f) = λ n.
      answers call (Callback sid proc_no w number extra result) (Running (called_back proc_no w.0 number extra result) ∷ Again call ∷ []) v (Going v) n tr out
      (last_follows call (Callback sid proc_no w number extra result) h ∙ ap (λ z. Running (called_back proc_no w.0 number extra result) ∷ (if z then Giving (Callback sid proc_no w number extra result) else Again call) ∷ []) g) (last_answered call (Callback sid proc_no w number extra result) v h)
      (both (Running (called_back proc_no w.0 number extra result) ∷ []) (Again call ∷ []) (Going v) (suc n) tr first second mid out (sound d (suc n)) (ahead_again call (suc n) first mid second out (kind s d) (sound e)) f)
  sound (leave_back {call} {v} {sid} {proc_no} {number} {extra} {result} {w} {tr} {mid} {out} h g d f) = λ n.
      answers call (Callback sid proc_no w number extra result) (Running (called_back proc_no w.0 number extra result) ∷ Giving (Callback sid proc_no w number extra result) ∷ []) v (Going v) n tr out
      (last_follows call (Callback sid proc_no w number extra result) h ∙ ap (λ z. Running (called_back proc_no w.0 number extra result) ∷ (if z then Giving (Callback sid proc_no w number extra result) else Again call) ∷ []) g) (last_answered call (Callback sid proc_no w number extra result) v h)
      (then_maps (Running (called_back proc_no w.0 number extra result) ∷ []) (Giving (Callback sid proc_no w number extra result)) (giving (Callback sid proc_no w number extra result)) (Going v) (suc n) tr mid out (sound d (suc n)) (giving_follows (Callback sid proc_no w number extra result) (suc n) tr mid (kind s d)) f)
  sound (call_inside {call} {v} {sid} {proc_no} {tr} {mid} {out} h d f) = λ n.
      answers call (Inside sid proc_no) (Running (run_of proc_no (parameters_of call) (InsideFrame sid)) ∷ Giving (Inside sid proc_no) ∷ []) v (Going v) n tr out
      (last_follows call (Inside sid proc_no) h) (last_answered call (Inside sid proc_no) v h)
      (then_maps (Running (run_of proc_no (parameters_of call) (InsideFrame sid)) ∷ []) (Giving (Inside sid proc_no)) (giving (Inside sid proc_no)) (Going v) (suc n) tr mid out (sound d (suc n)) (giving_follows (Inside sid proc_no) (suc n) tr mid (kind s d)) f)
  sound (call_calls {call} {v} {proc_no} {tr} {mid} {out} h d f) = λ n.
      answers call (Called proc_no) (Running (run_of proc_no (parameters_of call) CalledFrame) ∷ Giving (Called proc_no) ∷ []) v (Going v) n tr out
      (last_follows call (Called proc_no) h) (last_answered call (Called proc_no) v h)
      (then_maps (Running (run_of proc_no (parameters_of call) CalledFrame) ∷ []) (Giving (Called proc_no)) (giving (Called proc_no)) (Going v) (suc n) tr mid out (sound d (suc n)) (giving_follows (Called proc_no) (suc n) tr mid (kind s d)) f)
  sound (call_begins {call} {v} {sid} {tr} {out} h d) = λ n.
      answers call (Begun sid) (Making (Await sid.0) ∷ []) v (Going v) n tr out
      (last_follows call (Begun sid) (waits_not_last call h) ∙ ap (λ z. if z then Making (Await sid.0) ∷ [] else []) h)
      (last_answered call (Begun sid) v (waits_not_last call h) ∙ ap (λ z. if z then Going v else given v (Begun sid)) h) (sound d (suc n))
  sound (call_ends {call} {v} {a} h) = λ n.
      answers call a [] v (given v a) n [] (At (given v a)) (final_follows call a h) (final_answered call a v h) runs_over
  sound (frame {run} {v} {tr} {first} {second} {mid} {end} {out} d e f g) = λ n.
      becomes (Running run) (Lines (procedure_of s run.procedure) ∷ Leaving run ∷ Restore v.parameters ∷ []) (Going v) (Going (inside_of v run.parameters)) n tr out refl
      (maps (Lines (procedure_of s run.procedure) ∷ Leaving run ∷ []) (Restore v.parameters) (restoring v.parameters) (Going (inside_of v run.parameters)) n tr end out
      (both (Lines (procedure_of s run.procedure) ∷ []) (Leaving run ∷ []) (Going (inside_of v run.parameters)) n tr first second mid end (sound d n) (ahead (Leaving run ∷ []) n first mid second end (sound e)) f) (restore_maps v.parameters) g)
  sound (exit_returned {run} {v} {x} {tr} {got} {out} d f) = λ n.
      becomes (Leaving run) (Leaves run.frame x ∷ Left x ∷ []) (Returning v x) (Going v) n tr out refl
      (maps (Leaves run.frame x ∷ []) (Left x) (returning x) (Going v) n tr got out (same_step (Making (Leave x)) (Leaves run.frame x) [] (Going v) (Going v) (λ i. refl) refl (sound d n)) (left_maps x) f)
  sound (exit_callback {run} {v} {tr} {got} {out} h d f) = λ n.
      becomes (Leaving run) (Leaves run.frame 0 ∷ Left 0 ∷ []) (Going v) (Going v) n tr out (ap (λ z. if z then Becomes (Leaves run.frame 0 ∷ Left 0 ∷ []) (Going v) else Becomes (default_pieces run.parameters (Left (default_result run.parameters) ∷ Leaving run ∷ [])) (Going v)) h)
      (maps (Leaves run.frame 0 ∷ []) (Left 0) (returning 0) (Going v) n tr got out (same_step (Making (Leave 0)) (Leaves run.frame 0) [] (Going v) (Going v) (λ i. refl) refl (sound d n)) (left_maps 0) f)
  sound (exit_default {run} {v} {tr} {first} {second} {mid} {out} h d e f) = λ n.
      becomes (Leaving run) (default_pieces run.parameters (Left (default_result run.parameters) ∷ Leaving run ∷ [])) (Going v) (Going v) n tr out (ap (λ z. if z then Becomes (Leaves run.frame 0 ∷ Left 0 ∷ []) (Going v) else Becomes (default_pieces run.parameters (Left (default_result run.parameters) ∷ Leaving run ∷ [])) (Going v)) h)
      (subst (λ xs. Runs s xs (Going v) n tr out) (default_append run.parameters (Left (default_result run.parameters) ∷ Leaving run ∷ []))
      (both (default_pieces run.parameters []) (Left (default_result run.parameters) ∷ Leaving run ∷ []) (Going v) n tr first second mid out (sound d n) (ahead_left (default_result run.parameters) run n first mid second out (sound e)) f))
  sound (default_close {p} {v} {tr} {got} {out} h d f) = λ n.
      subst (λ xs. Runs s xs (Going v) n tr out) (sym (default_is p (destruction_begin p.hwnd) 0 [] (close_begins p h) (close_result p h)))
      (then_maps (Making (Doom p.hwnd) ∷ Feed (Dooming p.hwnd) ∷ []) (Feed (Defaulting 0)) (defaulting 0) (Going v) n tr got out (sound d n) (defaulting_maps 0 got n tr (kind s d)) f)
  sound (default_paint {p} {v} {tr} {got} {out} h d f) = λ n.
      subst (λ xs. Runs s xs (Going v) n tr out) (sym (default_is p (cleaning p.hwnd) 0 [] (paint_begins p h) (paint_result p h)))
      (default_one (validation p.hwnd) 0 v n tr got out (kind s d) (sound d) f)
  sound (default_erase {p} {v} {tr} {got} {out} h d f) = λ n.
      subst (λ xs. Runs s xs (Going v) n tr out) (sym (default_is p (erasing p.hwnd) 1 [] (erase_begins p h) (erase_result p h)))
      (default_one (Erase p.hwnd) 1 v n tr got out (kind s d) (sound d) f)
  sound (default_activate {p} {v} {tr} {got} {out} h g d f) = λ n.
      subst (λ xs. Runs s xs (Going v) n tr out) (sym (default_is p (notifying_begin (SetFocus p.hwnd)) 0 [] (activate_begins p h g) (activate_result p h)))
      (default_notifying (SetFocus p.hwnd) 0 v n tr got out (kind s d) (sound d) f)
  sound (default_cancel {p} {v} {tr} {got} {out} h d f) = λ n.
      subst (λ xs. Runs s xs (Going v) n tr out) (sym (default_is p (notifying_begin ReleaseCapture) 0 [] (cancel_begins p h) (cancel_result p h)))
      (default_notifying ReleaseCapture 0 v n tr got out (kind s d) (sound d) f)
  sound (default_greeting {p} {v} h) = λ n.
      default_alone p v n 1 (other_begins p (λ e. absurd (omega arith)) (λ e. absurd (omega arith)) (λ e. absurd (omega arith)) (λ e. absurd (omega arith)) (λ e. absurd (omega arith))) (greeting_result p h)
  sound (default_other {p} {v} f g e a c h) = λ n.
      default_alone p v n 0 (other_begins p f g e a c) (other_result p e h)
  sound (destruction {w} {v} {tr} {first} {second} {got} {out} d e f) = λ n.
      both (Making (Doom w) ∷ []) (Feed (Dooming w) ∷ []) (Going v) n tr first second got out (sound d n) (ahead (Feed (Dooming w) ∷ []) n first got second out (sound e)) f
  sound (doom_refused {w} {x} {v} {a} h) = λ n. feed_ends (Dooming w) v a a x n (doom_ends w a h)
  sound (doomed {w} {x} {v} {a} {tr} {out} h d) = λ n. feeds (Dooming w) v a x (Unmake w) (UnmakingPlace w) n tr out (doom_goes w a h) (sound d n)
  sound (unmaking {w} {v} {tr} {first} {second} {got} {out} d e f) = λ n.
      both (Making (Unmake w) ∷ []) (Feed (UnmakingPlace w) ∷ []) (Going v) n tr first second got out (sound d n) (ahead (Feed (UnmakingPlace w) ∷ []) n first got second out (sound e)) f
  sound (unmade_tell {w} {x} {told} {v} {tr} {first} {second} {mid} {out} d e f) = λ n.
      feeds (UnmakingPlace w) v (Tell told) x (sent told.0 WM_DESTROY) (Destroying w) n tr out refl
      (both (Making (sent told.0 WM_DESTROY) ∷ []) (Feed (Destroying w) ∷ []) (Going v) n tr first second mid out (sound d n) (ahead_unmake w (Destroying w) n first mid second out (λ a x. refl) (kind s d) (sound e)) f)
  sound (unmade_last {w} {x} {part} {v} {tr} {first} {second} {third} {mid} {after} {out} d e k f) = λ n.
      feeds (UnmakingPlace w) v (Last part) x (sent part.0 WM_NCDESTROY) (Parting w part.0) n tr out refl
      (both (Making (sent part.0 WM_NCDESTROY) ∷ []) (Feed (Parting w part.0) ∷ []) (Going v) n tr first (second ++ third) mid out (sound d n) (ahead_drop w part.0 n first mid second third after out (kind s d) (kind s e) (sound e) (sound k)) f)
  sound (unmade_refused {w} {x} {v} {a} h) = λ n. feed_ends (UnmakingPlace w) v a a x n (unmade_ends w a h)
  sound (unmade_gone {w} {x} {v} {a} h) = λ n. feed_ends (UnmakingPlace w) v a (Value 1) x n (unmade_done w a h)
  sound (create_refused {x} {v} {a} h) = λ n. feed_ends MakingWindow v a a x n (made_ends a h)
  sound (create_none {x} {v} {a} h) = λ n. feed_ends MakingWindow v a (Value 0) x n (made_none a h)
  sound (created {x} {w} {v} {tr} {first} {second} {mid} {out} d e f) = λ n.
      feeds MakingWindow v (WindowMade w) x (sent w.0 WM_NCCREATE) (Greeting w.0) n tr out refl
      (both (Making (sent w.0 WM_NCCREATE) ∷ []) (Feed (Greeting w.0) ∷ []) (Going v) n tr first second mid out (sound d n) (ahead (Feed (Greeting w.0) ∷ []) n first mid second out (sound e)) f)
  sound (greeted_no {w} {x} {v} {a} {tr} {got} {out} h d f) = λ n.
      feed_runs (Greeting w) v a x (destruction_begin w) Undoing n tr out (greeted_zero w x h)
      (then_maps (Making (Doom w) ∷ Feed (Dooming w) ∷ []) (Feed Undoing) undone (Going v) n tr got out (sound d n) (undone_maps got n tr (kind s d)) f)
  sound (greeted {w} {x} {v} {a} {tr} {first} {second} {mid} {out} h d e f) = λ n.
      feeds (Greeting w) v a x (sent w WM_CREATE) (Telling w) n tr out (greeted_more w x h)
      (both (Making (sent w WM_CREATE) ∷ []) (Feed (Telling w) ∷ []) (Going v) n tr first second mid out (sound d n) (ahead (Feed (Telling w) ∷ []) n first mid second out (sound e)) f)
  sound (told_refused {w} {x} {v} {a} {tr} {got} {out} h d f) = λ n.
      feed_runs (Telling w) v a x (destruction_begin w) Undoing n tr out (telling_refused w a x h)
      (then_maps (Making (Doom w) ∷ Feed (Dooming w) ∷ []) (Feed Undoing) undone (Going v) n tr got out (sound d n) (undone_maps got n tr (kind s d)) f)
  sound (told_no {w} {x} {v} {a} {tr} {got} {out} h g d f) = λ n.
      feed_runs (Telling w) v a x (destruction_begin w) Undoing n tr out (telling_kept w a x h ∙ kept_no w x g)
      (then_maps (Making (Doom w) ∷ Feed (Dooming w) ∷ []) (Feed Undoing) undone (Going v) n tr got out (sound d n) (undone_maps got n tr (kind s d)) f)
  sound (told {w} {x} {v} {a} h g) = λ n. feed_ends (Telling w) v a (Value w) x n (telling_kept w a x h ∙ kept_yes w x g)
  sound (notifying {call} {v} {tr} {first} {second} {got} {out} d e f) = λ n.
      both (Making call ∷ []) (Feed (Calling call) ∷ []) (Going v) n tr first second got out (sound d n) (ahead (Feed (Calling call) ∷ []) n first got second out (sound e)) f
  sound (notified_refused {call} {x} {v} {a} h) = λ n. feed_ends (Calling call) v a a x n (calling_ends call a h)
  sound (notified {call} {x} {v} {a} {tr} {out} h d) = λ n.
      same_step (Feed (NotifyingPlace (notices_after call (number_in a)) (result_after call (number_in a)))) (Feed (Calling call)) [] (Given v a x) (Given v a x) (λ i. ap (goes_on v) (sym (calling_goes call a h))) refl (sound d n a x)
  sound (sends_over {n = ns} {y} {v} h) = λ n a x. feed_ends (NotifyingPlace ns y) v a (Value y) x n (notifies_over ns y h)
  sound (sends_next {n = ns} {x = notice} {y} {v} {tr} {first} {second} {mid} {out} h d e f) = λ n a x.
      feeds (NotifyingPlace ns y) v a x (notice_call notice) (NotifyingPlace (others ns) y) n tr out (notifies_next ns notice y h)
      (both (Making (notice_call notice) ∷ []) (Feed (NotifyingPlace (others ns) y) ∷ []) (Going v) n tr first second mid out (sound d n) (ahead_sends (others ns) y n first mid second out (kind s d) (sound e)) f)
  sound (broadcasts {b} {w} {v} {tr} {first} {second} {got} {out} d e f) = λ n.
      both (Making (NextTop w) ∷ []) (Feed (Seeking b) ∷ []) (Going v) n tr first second got out (sound d n) (ahead (Feed (Seeking b) ∷ []) n first got second out (sound e)) f
  sound (found_refused {b} {x} {v} {a} h) = λ n. feed_ends (Seeking b) v a a x n (seeking_ends b a h)
  sound (found_none {b} {x} {v} {a} h g) = λ n. feed_ends (Seeking b) v a (Value 1) x n (seeking_none b a h g)
  sound (found {b} {x} {v} {a} {tr} {first} {second} {mid} {out} h g d e f) = λ n.
      feeds (Seeking b) v a x (reach b (number_in a)) (Reaching b (number_in a)) n tr out (seeking_next b a h g)
      (both (Making (reach b (number_in a)) ∷ []) (Feed (Reaching b (number_in a)) ∷ []) (Going v) n tr first second mid out (sound d n) (ahead_seek b (number_in a) n first mid second out (kind s d) (sound e)) f)
  sound (fetches {l} {v} {tr} {first} {second} {got} {out} d e f) = λ n.
      both (Making (Get 0 0 0) ∷ []) (Feed (Getting l) ∷ []) (Going v) n tr first second got out (sound d n) (ahead (Feed (Getting l) ∷ []) n first got second out (sound e)) f
  sound (fetched_refused {l} {x} {v} {a} h d) = λ n. sound d n (Getting l) a x (getting_ends l a h)
  sound (fetched_none {l} {x} {v} {a} h d) = λ n. sound d n (Getting l) a x (getting_none l a h)
  sound (fetched_quit {l} {o} {number} {x} {msg} {v} {tr} {out} h d) = λ n. quit_feeds l msg.wparam (Getting l) v (Got o number msg) x n tr out (getting_quit l o number msg h) (sound d n)
  sound (fetched_key {l} {o} {number} {x} {msg} {v} {tr} {first} {second} {mid} {out} h d e f) = λ n.
      feeds (Getting l) v (Got o number msg) x (translate_of msg) (Translating l msg) n tr out (getting_key l o number msg h)
      (both (Making (translate_of msg) ∷ []) (Feed (Translating l msg) ∷ []) (Going v) n tr first second mid out (sound d n) (ahead_hands l msg n first mid second out (kind s d) (sound e)) f)
  sound (fetched {l} {o} {number} {x} {msg} {v} {tr} {out} h g d) = λ n.
      feeds (Getting l) v (Got o number msg) x (dispatch_of msg) (Dispatching l) n tr out (getting_other l o number msg h g) (sound d n)
  sound (hands {l} {msg} {v} {tr} {first} {second} {mid} {out} d e f) = λ n.
      both (Making (dispatch_of msg) ∷ []) (Feed (Dispatching l) ∷ []) (Going v) n tr first second mid out (sound d n) (ahead_turn l n first mid second out (kind s d) (sound e)) f
  sound (closes_pump {a} {v}) = λ n q b x h. feed_ends q v b a x n h
  sound (opens {w} {v} {tr} {first} {second} {got} {out} d e f) = λ n.
      both (Making (BeginDialog w) ∷ []) (Feed (Opening w) ∷ []) (Going v) n tr first second got out (sound d n) (ahead (Feed (Opening w) ∷ []) n first got second out (sound e)) f
  sound (opened_refused {w} {x} {v} {a} h) = λ n. feed_ends (Opening w) v a a x n (opening_ends w a h)
  sound (opened_alone {w} {x} {v} {a} {tr} {out} h g d) = λ n. feeds (Opening w) v a x (DialogState w) (Asking (dialog_on w 0)) n tr out (opening_alone w a h g) (sound d n)
  sound (opened {w} {x} {v} {a} {tr} {first} {second} {got} {out} h g d e f) = λ n.
      let o = number_in a in
      feed_runs (Opening w) v a x (enabling o 0) (Disabling (dialog_on w o)) n tr out (opening_runs w a h g)
      (both (Making (Enable o 0) ∷ Feed (Calling (Enable o 0)) ∷ []) (Feed (Disabling (dialog_on w o)) ∷ []) (Going v) n tr first second got out (sound d n) (ahead (Feed (Disabling (dialog_on w o)) ∷ []) n first got second out (sound e)) f)
  sound (disabled {d} {x} {v} {a} {tr} {out} h r) = λ n. feeds (Disabling d) v a x (DialogState d.window) (Asking d) n tr out (disabling_enabled d a h) (sound r n)
  sound (disabled_before {d} {x} {v} {a} {tr} {out} h r) = λ n. feeds (Disabling d) v a x (DialogState d.window) (Asking (dialog_on d.window 0)) n tr out (disabling_other d a h) (sound r n)
  sound (asks {d} {v} {tr} {first} {second} {got} {out} r e f) = λ n.
      both (Making (DialogState d.window) ∷ []) (Feed (Asking d) ∷ []) (Going v) n tr first second got out (sound r n) (ahead (Feed (Asking d) ∷ []) n first got second out (sound e)) f
  sound (asked_running {d} {x} {v} {tr} {out} r) = λ n. feeds (Asking d) v RunningDialog x (Get 0 0 0) (Getting (DialogLoop d)) n tr out refl (sound r n)
  sound (asked_finished {d} {result} {x} {v} r) = λ n. sound r n (Asking d) (Finished result) x refl
  sound (asked_refused {d} {x} {v} {a} h r) = λ n. sound r n (Asking d) a x (asking_ends d a h)
  sound (asked_gone {d} {x} {v} {a} h r) = λ n. sound r n (Asking d) a x (asking_gone d a h)
  sound (quits {d} {code} {v} {tr} {first} {second} {mid} {out} r e f) = λ n.
      both (Making (PostQuit code) ∷ []) (Feed (Requitting d) ∷ []) (Going v) n tr first second mid out (sound r n) (ahead_finishes d n first mid second out (kind s r) (sound e)) f
  sound (finishes {d} {v} {tr} {first} {second} {mid} {out} r e f) = λ n.
      both (Making (EndDialog d.window 0) ∷ []) (Feed (Finishing d) ∷ []) (Going v) n tr first second mid out (sound r n) (ahead_asks d n first mid second out (kind s r) (sound e)) f
  sound (closes_alone {d} {a} {v} h) = λ n q b x g. feed_ends q v b a x n (g ∙ closing_alone d a h)
  sound (closes_dialog {d} {a} {v} {tr} {got} {out} h r f) = λ n q b x g.
      feed_runs q v b x (enabling d.owner 1) (Enabling a) n tr out (g ∙ closing_runs d a h)
      (then_maps (Making (Enable d.owner 1) ∷ Feed (Calling (Enable d.owner 1)) ∷ []) (Feed (Enabling a)) (concluding a) (Going v) n tr got out (sound r n) (enabling_maps a got n tr (kind s r)) f)
  sound (thread {t} {tr} {first} {second} {mid} {out} d e f) = λ n.
      both (Lines (body_of s t) ∷ []) (Making EndThread ∷ []) (Going start) n tr first second mid out (sound d n) (ahead_end n first mid second out (kind s d) (sound e)) f

  -- a trace of a thread by the rows is one by the table
  pub of_rows : (t : ℕ) (tr : Trace) (e : End) → ByRows s t tr e → IsTrace s t tr e
  of_rows t tr e d = subst (λ x. IsTrace s t tr x) (sym d.2) (makes_of (sound d.1 0))

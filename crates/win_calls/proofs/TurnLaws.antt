-- Where the table leads from the pieces that a stage stands for.
use Rattle.std.proofs.Common.{◌≡◌, ◌≤◌, ℕ, Bool, true, false, List, [], ◌∷◌, ◌++◌, Option, Some, None, refl, sym, ap, ◌∙◌, subst, arith}
use Rattle.std.specs.Prelude.{if◌then◌else◌, ◌==◌}
use Rattle.win_num.specs.declared.message.Msg.{Msg}
use Rattle.win_num.specs.declared.names.TheConstants.{WM_QUIT, WM_KEYDOWN}
use Rattle.win_num.specs.declared.send.SendId.{SendId}
use Rattle.win_num.specs.declared.send.Frame.TheVariants.{Entered, Inside as InsideFrame, Called as CalledFrame, CallbackRun}
use Rattle.user_model.specs.Stacks.{waits, leaves}
use Rattle.user_model.specs.declared.call.Call.{Call}
use Rattle.user_model.specs.declared.call.Call.TheVariants.{Leave, Await, Enable}
use Rattle.user_model.specs.declared.entry.Answer.{Answer}
use Rattle.user_model.specs.declared.entry.Answer.TheVariants.{Wait, Window, Tell, Last, Enter, Callback, Inside, Called, Begun, Running as RunningAnswer, Finished, Got as GotMessage, Refused, Value}
use Rattle.script_tree.specs.declared.frame.Begin.{Begin}
use Rattle.script_tree.specs.declared.frame.Run.{Run}
use Rattle.script_tree.specs.declared.frame.Place.{Place}
use Rattle.script_tree.specs.declared.frame.Place.TheVariants.{Making as MakingWindow, Greeting, Telling, Undoing, Dooming, Unmaking, Destroying, Parting, Dropping, Single, Calling, Notifying, Seeking, Reaching, Getting, Translating, Dispatching, Opening, Disabling, Asking, Requitting, Finishing, Enabling, Defaulting}
use Rattle.script_tree.specs.declared.frame.Dialog.{Dialog}
use Rattle.script_tree.specs.declared.frame.Modal.{Modal}
use Rattle.script_tree.specs.declared.frame.Modal.TheVariants.{Pump as PumpLoop, Dialog as DialogLoop}
use Rattle.script_tree.specs.declared.frame.Notice.{Notice}
use Rattle.script_tree.specs.declared.frame.Notices.{Notices}
use Rattle.script_tree.specs.declared.frame.Broadcast.{Broadcast}
use Rattle.script_tree.specs.declared.frame.Spread.{Spread}
use Rattle.script_tree.specs.declared.frame.Spread.TheVariants.{Posts, Notifies}
use Rattle.script_tree.specs.declared.frame.Lead.{Lead}
use Rattle.script_tree.specs.declared.frame.Lead.TheVariants.{Calls, Runs, Ends}
use Rattle.script_tree.specs.declared.variables.Parameters.{Parameters}
use Rattle.script_tree.specs.declared.variables.Variables.{Variables}
use Rattle.script_tree.specs.Modals.{turns, enabling, loop_ends, quits, dispatches, handles, after_getting, dialog_on, after_opening, was_enabled, after_disabling, after_asking}
use Rattle.script_tree.specs.Values.{translate_of}
use Rattle.script_tree.specs.Notices.{number_in, next_notice, others, notices_after, result_after}
use Rattle.script_tree.specs.Compounds.{destruction, default_begin, default_result, notifies_by, after_calling, reach_by, reach, after_seeking, compound_after}
use Rattle.script_tree.proofs.Defaults.{each_begin}
use Rattle.script_tree.specs.Values.{settled, received, inside_of}
use Rattle.script_tree.specs.Tree.{Tree}
use Rattle.script_tree.specs.Pieces.{Piece, Making, Again, Giving, Settle, Running, Leaving, Leaves, Left, Restore, Feed, State, Going, Returning, Given, Becomes}
use Rattle.script_tree.specs.Steps.{step, follows, following, answered, after_answer, given, result_of, is_last, goes_on, begun_over, default_over, default_pieces, run_of, parameters_from, parameters_of}
use Rattle.win_calls.specs.declared.compound.Compound.{Compound}
use Rattle.win_calls.specs.declared.compound.Compound.TheVariants.{Create, Destroy, PostAll, NotifyAll, Default as DefaultOf}
use Rattle.win_calls.specs.declared.compound.Got.{Got}
use Rattle.win_calls.specs.declared.compound.Got.TheVariants.{Start, Answered, Returned}
use Rattle.win_calls.specs.declared.compound.Next.{Next}
use Rattle.win_calls.specs.declared.compound.Next.TheVariants.{Make, Run as RunOf, Done}
use Rattle.win_calls.specs.declared.stage.Around.{Around}
use Rattle.win_calls.specs.declared.stage.Around.TheVariants.{Nobody, One, Two}
use Rattle.win_calls.specs.declared.stage.Turn.{Turn}
use Rattle.win_calls.specs.declared.stage.Then.{Then}
use Rattle.win_calls.specs.declared.stage.Then.TheVariants.{Again as AgainThen, Giving as GivingThen}
use Rattle.win_calls.specs.declared.stage.Stage.{Stage}
use Rattle.win_calls.specs.declared.stage.Stage.TheVariants.{Asked, Running as RunningStage, Leaving as LeavingStage, Over}
use Rattle.win_calls.specs.declared.stage.Step.{Step}
use Rattle.win_calls.specs.Table.{silent, calls, runs, over, IsNoRun, runs_first, asked_of, begin_of, begun_with, begun}
use Rattle.win_calls.specs.States.{Suits, IsTurn, IsInside, IsPlaced, placed, within, outer_in, depth, first_turn, MayFollow, Awaits, Accepts, IsRun, around_pieces, behind, then_piece, then_of, Hands, first, more, Below, is_first, is_later, is_asked, is_running, is_leaving, is_over, Leads}

-- one compound more may be around
abbrev pub HasRoom : Around → Type 0
HasRoom Nobody = Unit {0}
HasRoom (One a) = Unit {0}
HasRoom (Two a b) = ⊥

-- what a turn needs of the next call and its place
abbrev pub LeadSuits : Around → Lead → Type 0
LeadSuits around (Calls call q) = Suits call (Some q) around
LeadSuits around (Runs b q) = Suits b.call (Some b.place) (within q around) × HasRoom around
LeadSuits around (Ends a) = Unit {0}

either : (b : Bool) (around : Around) (x y : Lead) → LeadSuits around x → LeadSuits around y → LeadSuits around (if b then x else y)
either true around x y f g = f
either false around x y f g = g

pub plain : {call : Call} {q : Place} {around : Around} → leaves call ≡ false → is_last call ≡ false → IsInside q around → Suits call (Some q) around
plain c d e = record { stays = c; goes_on = d; inside = e }

-- a compound of its own calls alone begins inside of one that lets others begin
one_inside : (p q inner : Place) (around : Around) → 1 ≤ depth p → depth q ≤ 1 → depth inner ≤ 0 → IsInside p around → IsInside inner (within q around) × HasRoom around
one_inside p q inner Nobody d e f h = ((omega (arith, f), omega (arith, e)), tt)
one_inside p q inner (One a) d e f h = ((f, e, h.1), tt)
one_inside p q inner (Two a b) d e f h = absurd (omega (arith, d, h.0))

-- a destruction inside of a `create`
undoing : (w : ℕ) (around : Around) → IsInside (Greeting w) around → LeadSuits around (Runs (destruction w) Undoing)
undoing w around h =
    let k = one_inside (Greeting w) Undoing (Dooming w) around (omega arith) (omega arith) (omega arith) h in
    (plain refl refl k.0, k.1)

-- an owner is disabled or enabled inside of a `dialog`
enabling_suits : (p q : Place) (w on : ℕ) (around : Around) → 1 ≤ depth p → depth q ≤ 1 → IsInside p around → LeadSuits around (Runs (enabling w on) q)
enabling_suits p q w on around d e h =
    let k = one_inside p q (Calling (Enable w on)) around d e (omega arith) h in
    (plain refl refl k.0, k.1)

-- messages that are sent
notifies_suits : (o : Option Notice) (n : Notices) (y : ℕ) (around : Around) → IsInside (Notifying n y) around → LeadSuits around (notifies_by o n y)
notifies_suits (Some x) n y around i = plain refl refl i
notifies_suits None n y around i = tt

calling_suits : (call : Call) (a : Answer) (around : Around) → IsInside (Calling call) around → LeadSuits around (after_calling call a)
calling_suits call (Refused code) around i = tt
calling_suits call a around i = notifies_suits (next_notice (notices_after call (number_in a))) (others (notices_after call (number_in a))) (result_after call (number_in a)) around i

-- and a message that goes to a top-level window
reach_suits : (way : Spread) (b : Broadcast) (w : ℕ) (around : Around) → IsInside (Reaching b w) around → Suits (reach_by way b w) (Some (Reaching b w)) around
reach_suits Posts b w around i = plain refl refl i
reach_suits Notifies b w around i = plain refl refl i

seeking_suits : (b : Broadcast) (a : Answer) (around : Around) → IsInside (Seeking b) around → LeadSuits around (after_seeking b a)
seeking_suits b (Refused code) around i = tt
seeking_suits b a around i = either (number_in a == 0) around (Ends (Value 1)) (Calls (reach b (number_in a)) (Reaching b (number_in a))) tt (reach_suits b.spread b (number_in a) around i)

-- a loop of messages
turns_suit : (m : Modal) (around : Around) → IsInside (Dispatching m) around → LeadSuits around (turns m)
turns_suit PumpLoop around i = plain refl refl i
turns_suit (DialogLoop d) around i = plain refl refl i

ends_suit : (m : Modal) (a : Answer) (around : Around) → IsInside (Dispatching m) around → LeadSuits around (loop_ends m a)
ends_suit PumpLoop a around i = tt
ends_suit (DialogLoop d) a around i = either (d.owner == 0) around (Ends a) (Runs (enabling d.owner 1) (Enabling a)) tt (enabling_suits (Asking d) (Enabling a) d.owner 1 around (omega arith) (omega arith) i)

quits_suit : (m : Modal) (code : ℕ) (around : Around) → IsInside (Dispatching m) around → LeadSuits around (quits m code)
quits_suit PumpLoop code around i = tt
quits_suit (DialogLoop d) code around i = plain refl refl i

handles_suit : (m : Modal) (msg : Msg) (around : Around) → IsInside (Dispatching m) around → LeadSuits around (handles m msg)
handles_suit m msg around i = either (msg.number == WM_KEYDOWN) around (Calls (translate_of msg) (Translating m msg)) (dispatches m msg) (plain refl refl i) (plain refl refl i)

getting_suits : (m : Modal) (a : Answer) (around : Around) → IsInside (Dispatching m) around → LeadSuits around (after_getting m a)
getting_suits m (GotMessage origin number msg) around i = either (msg.number == WM_QUIT) around (quits m msg.wparam) (handles m msg) (quits_suit m msg.wparam around i) (handles_suit m msg around i)
getting_suits m (Refused code) around i = ends_suit m (Refused code) around i
getting_suits m a around i = ends_suit m (Value 0) around i

-- a dialog
opening_suits : (w : ℕ) (a : Answer) (around : Around) → IsInside (Opening w) around → LeadSuits around (after_opening w a)
opening_suits w (Refused code) around i = tt
opening_suits w a around i =
    let o = number_in a in
    either (o == 0) around (turns (DialogLoop (dialog_on w 0))) (Runs (enabling o 0) (Disabling (dialog_on w o))) (plain refl refl i) (enabling_suits (Opening w) (Disabling (dialog_on w o)) o 0 around (omega arith) (omega arith) i)

asking_suits : (d : Dialog) (a : Answer) (around : Around) → IsInside (Asking d) around → LeadSuits around (after_asking d a)
asking_suits d RunningAnswer around i = plain refl refl i
asking_suits d (Finished x) around i = ends_suit (DialogLoop d) (Value x) around i
asking_suits d (Refused code) around i = ends_suit (DialogLoop d) (Refused code) around i
asking_suits d a around i = ends_suit (DialogLoop d) (Value 0) around i

-- where a place leads suits what is around it
pub lead_suits : (q : Place) (a : Answer) (x : ℕ) (around : Around) → IsInside q around → LeadSuits around (compound_after q a x)
lead_suits MakingWindow (Window w) x around i = plain refl refl i
lead_suits MakingWindow (Refused code) x around i = tt
lead_suits MakingWindow a x around i = tt
lead_suits (Greeting w) a x around i = either (x == 0) around _ _ (undoing w around i) (plain refl refl i)
lead_suits (Telling w) (Refused code) x around i = undoing w around i
lead_suits (Telling w) a x around i = either (x == 18446744073709551615) around _ _ (undoing w around i) tt
lead_suits Undoing a x around i = tt
lead_suits (Dooming w) (Refused code) x around i = tt
lead_suits (Dooming w) a x around i = plain refl refl i
lead_suits (Unmaking w) (Tell v) x around i = plain refl refl i
lead_suits (Unmaking w) (Last v) x around i = plain refl refl i
lead_suits (Unmaking w) (Refused code) x around i = tt
lead_suits (Unmaking w) a x around i = tt
lead_suits (Destroying w) a x around i = plain refl refl i
lead_suits (Parting w v) a x around i = plain refl refl i
lead_suits (Dropping w) a x around i = plain refl refl i
lead_suits Single a x around i = tt
lead_suits (Calling call) a x around i = calling_suits call a around i
lead_suits (Notifying n y) a x around i = notifies_suits (next_notice n) (others n) y around i
lead_suits (Seeking b) a x around i = seeking_suits b a around i
lead_suits (Reaching b w) a x around i = plain refl refl i
lead_suits (Getting m) a x around i = getting_suits m a around i
lead_suits (Translating m msg) a x around i = plain refl refl i
lead_suits (Dispatching m) a x around i = turns_suit m around i
lead_suits (Opening w) a x around i = opening_suits w a around i
lead_suits (Disabling d) a x around i = either (was_enabled a) around (turns (DialogLoop d)) (turns (DialogLoop (dialog_on d.window 0))) (plain refl refl i) (plain refl refl i)
lead_suits (Asking d) a x around i = asking_suits d a around i
lead_suits (Requitting d) a x around i = plain refl refl i
lead_suits (Finishing d) a x around i = plain refl refl i
lead_suits (Enabling b) a x around i = tt
lead_suits (Defaulting y) (Refused code) x around i = tt
lead_suits (Defaulting y) a x around i = tt

-- what is asked for at a stage is what it accepts
pub asked_accepts : (turn : Turn) (g : Got) → Awaits (Make turn.call) g → Accepts (Asked turn) g
asked_accepts turn Start h = absurd h
asked_accepts turn (Answered a) h = h
asked_accepts turn (Returned x) h = absurd h

pub running_accepts : (turn : Turn) (after : Then) (x : Option ℕ) (next : Next) (g : Got) → IsRun next → Awaits next g → Accepts (RunningStage turn after x) g
running_accepts turn after x (RunOf proc_no w number wparam lparam callback) Start r h = absurd h
running_accepts turn after x (RunOf proc_no w number wparam lparam callback) (Answered a) r h = absurd h
running_accepts turn after x (RunOf proc_no w number wparam lparam callback) (Returned y) r h = tt
running_accepts turn after x next g r h = absurd r

pub leaving_accepts : (turn : Turn) (after : Then) (x value : ℕ) (g : Got) → Awaits (Make (Leave value)) g → Accepts (LeavingStage turn after x value) g
leaving_accepts turn after x value Start h = absurd h
leaving_accepts turn after x value (Answered a) h = h
leaving_accepts turn after x value (Returned y) h = absurd h

pub over_accepts : (r err : ℕ) (g : Got) → Awaits (Done r err) g → Accepts Over g
over_accepts r err Start h = absurd h
over_accepts r err (Answered a) h = absurd h
over_accepts r err (Returned x) h = absurd h

-- r and err after a statement don't depend on the variables before it
settled_same : (v w : Variables) (call : Call) (a : Answer) (x : ℕ) → Done (settled v call a x).last_result (settled v call a x).last_error ≡ Done (settled w call a x).last_result (settled w call a x).last_error
settled_same v w call (Refused code) x = refl
settled_same v w call a x = refl

-- the answer of a call other than the last one is followed so
follows_on : (call : Call) (a : Answer) → is_last call ≡ false → (a ≡ Wait → ⊥) → follows call a ≡ following call a
follows_on call Wait e h = absurd (h refl)
follows_on call a e h = ap (λ b. if b then [] else following call a) e

answered_on : (call : Call) (a : Answer) (v : Variables) → is_last call ≡ false → (a ≡ Wait → ⊥) → answered call a v ≡ after_answer call a v
answered_on call Wait v e h = absurd (h refl)
answered_on call a v e h = ap (λ b. if b then given v a else after_answer call a v) e

-- an answer behind which nothing follows a call
abbrev pub IsPlain : Call → Answer → Type 0
IsPlain call Wait = ⊥
IsPlain call (Begun sn) = ⊥
IsPlain call (Enter sn q w number wparam lparam) = ⊥
IsPlain call (Callback sn q w number extra result) = ⊥
IsPlain call (Inside sn q) = ⊥
IsPlain call (Called q) = ⊥
IsPlain call a = Unit {0}

plain_waits_not : (call : Call) (a : Answer) → IsPlain call a → a ≡ Wait → ⊥
plain_waits_not call a p e = let P : Answer → Type 0 = λ x. IsPlain call x in subst P e p

plain_follows : (call : Call) (a : Answer) → IsPlain call a → following call a ≡ []
plain_follows call Wait p = absurd p
plain_follows call (Begun sn) p = absurd p
plain_follows call (Enter sn q w number wparam lparam) p = absurd p
plain_follows call (Callback sn q w number extra result) p = absurd p
plain_follows call (Inside sn q) p = absurd p
plain_follows call (Called q) p = absurd p
plain_follows call a p = refl

plain_answers : (call : Call) (a : Answer) (v : Variables) → IsPlain call a → after_answer call a v ≡ given v a
plain_answers call Wait v p = absurd p
plain_answers call (Begun sn) v p = absurd p
plain_answers call (Enter sn q w number wparam lparam) v p = absurd p
plain_answers call (Callback sn q w number extra result) v p = absurd p
plain_answers call (Inside sn q) v p = absurd p
plain_answers call (Called q) v p = absurd p
plain_answers call a v p = refl

-- an answer behind which no procedure runs is plain, or one of two others
pub is_plain : (call : Call) (a : Answer) → (a ≡ Wait → ⊥) → ((sn : SendId) → a ≡ Begun sn → ⊥) → None ≡ runs_first (following call a) → IsPlain call a
is_plain call Wait h k e = absurd (h refl)
is_plain call (Begun sn) h k e = absurd (k sn refl)
is_plain call (Enter sn q w number wparam lparam) h k e = absurd cc
is_plain call (Callback sn q w number extra result) h k e = absurd cc
is_plain call (Inside sn q) h k e = absurd cc
is_plain call (Called q) h k e = absurd cc
is_plain call a h k e = tt

-- an await is no procedure
begun_runs_none : (b : Bool) (next : Next) (sn : SendId) → Some next ≡ runs_first (if b then Making (Await sn.0) ∷ [] else []) → ⊥
begun_runs_none true next sn e = absurd cc
begun_runs_none false next sn e = absurd cc

-- the pieces with one compound more around
inside_pieces : (q : Place) (around : Around) (ps : List Piece) → HasRoom around → around_pieces (within q around) ps ≡ Feed q ∷ around_pieces around ps
inside_pieces q Nobody ps h = refl
inside_pieces q (One a) ps h = refl
inside_pieces q (Two a b) ps h = absurd h

-- the compound around goes on
hands_to_one : (turn : Turn) (p q : Place) → IsTurn turn → turn.place ≡ Some p → turn.around ≡ One q → IsTurn (record turn { place = Some q; around = Nobody })
hands_to_one turn p q h d e =
    let i : IsInside p (One q) = subst (λ x. IsPlaced x (One q)) d (subst (λ x. IsPlaced turn.place x) e h.inside) in
    plain h.stays h.goes_on i.1

hands_to_two : (turn : Turn) (p q a : Place) → IsTurn turn → turn.place ≡ Some p → turn.around ≡ Two q a → IsTurn (record turn { place = Some q; around = One a })
hands_to_two turn p q a h d e =
    let i : IsInside p (Two q a) = subst (λ x. IsPlaced x (Two q a)) d (subst (λ x. IsPlaced turn.place x) e h.inside) in
    plain h.stays h.goes_on (i.1, i.2)

-- a statement that is one call alone is inside of none
none_around : (x : Around) → IsPlaced None x → x ≡ Nobody
none_around Nobody h = refl
none_around (One q) h = absurd h
none_around (Two q a) h = absurd h

-- what is around a call that leads to a place
around_place : (turn : Turn) (p : Place) → IsTurn turn → turn.place ≡ Some p → IsInside p turn.around
around_place turn p h d = subst (λ x. IsPlaced x turn.around) d h.inside

-- and so it does by the turn outside
pub hands_out : (turn o : Turn) (p : Place) (x : Around) → turn.place ≡ Some p → turn.around ≡ x → outer_in turn x ≡ Some o → IsTurn turn → IsTurn o
hands_out turn o p Nobody d e f h = absurd (cc f)
hands_out turn o p (One q) d e f h = let same : record turn { place = Some q; around = Nobody } ≡ o = cc f in subst IsTurn same (hands_to_one turn p q h d e)
hands_out turn o p (Two q a) d e f h = let same : record turn { place = Some q; around = One a } ≡ o = cc f in subst IsTurn same (hands_to_two turn p q a h d e)

-- a compound that the default procedure begins with
default_suits : (p : Parameters) (b : Begin) (x : ℕ) (call : Call) → Some b ≡ default_begin p → IsTurn (first_turn b (One (Defaulting x)) call)
default_suits p b x call h =
    each_begin (λ y. IsTurn (first_turn y (One (Defaulting x)) call)) p b h
    (λ e. plain refl refl (omega arith, omega arith)) (λ e. plain refl refl (omega arith, omega arith)) (λ e. plain refl refl (omega arith, omega arith)) (λ e. plain refl refl (omega arith, omega arith)) (λ e. plain refl refl (omega arith, omega arith))

-- the first call of a compound
pub begin_suits : (c : Compound) (call : Call) → IsTurn (first_turn (begin_of c) Nobody call)
begin_suits (Create class title parent style extended left top right bottom) call = plain refl refl (omega arith)
begin_suits (Destroy w) call = plain refl refl (omega arith)
begin_suits (PostAll m p q) call = plain refl refl (omega arith)
begin_suits (NotifyAll m p q) call = plain refl refl (omega arith)
begin_suits (DefaultOf w number p q) call = plain refl refl (omega arith)
begin_suits c call = plain refl refl (omega arith)

-- every compound but `default` has the pieces of what it begins with
pub begun_other : (c : Compound) → ((w number p q : ℕ) → c ≡ DefaultOf w number p q → ⊥) → begun c ≡ begun_with (begin_of c)
begun_other (DefaultOf w number p q) h = absurd (h w number p q refl)
begun_other c h = refl

module _ (s : Tree) (n : ℕ) where
  -- the same for a step that is equal
  pub carry : (ps : List Piece) (st : State) (stage : Stage) (next : Next) (r : Step) → r ≡ record { stage = stage; next = next } → Leads s n ps st stage next → Leads s n ps st r.stage r.next
  carry ps st stage next r e l = subst (λ x. Leads s n ps st x.stage x.next) (sym e) l

  -- the same before a silent step
  before : (p : Piece) (left ps : List Piece) (st st' : State) (stage : Stage) (next : Next) → IsNoRun p → step s p st n ≡ Becomes ps st' → Leads s n (ps ++ left) st' stage next → Leads s n (p ∷ left) st stage next
  before p left ps st st' stage next h e l = record { left = l.left; state = l.state; comes = silent ps st' h e l.comes; stands = l.stands }

  -- a call is made
  pub asks_leads : (turn : Turn) (v : Variables) → IsTurn turn → Leads s n (Making turn.call ∷ behind turn) (Going v) (Asked turn) (Make turn.call)
  asks_leads turn v h = record { left = Making turn.call ∷ behind turn; state = Going v; comes = calls turn.call refl; stands = is_asked turn v h }

  -- the end of a statement that sets r and err
  pub settles_leads : (call : Call) (a : Answer) (x : ℕ) (v w : Variables) → Leads s n (Settle call ∷ []) (Given v a x) Over (Done (settled w call a x).last_result (settled w call a x).last_error)
  settles_leads call a x v w =
      let l : Leads s n (Settle call ∷ []) (Given v a x) Over (Done (settled v call a x).last_result (settled v call a x).last_error) = record { left = []; state = Going (settled v call a x); comes = silent [] (Going (settled v call a x)) tt refl over; stands = is_over (settled v call a x) } in
      subst (λ y. Leads s n (Settle call ∷ []) (Given v a x) Over y) (settled_same v w call a x) l

  -- the answer of a statement that is one call alone goes to its end
  pub single_leads : (turn : Turn) (a : Answer) (x : ℕ) (v : Variables) (stage : Stage) (next : Next) → IsTurn turn → turn.place ≡ None → Leads s n (Settle turn.statement ∷ []) (Given v a x) stage next → Leads s n (behind turn) (Given v a x) stage next
  single_leads turn a x v stage next h e l =
      let alone : turn.around ≡ Nobody = none_around turn.around (subst (λ o. IsPlaced o turn.around) e h.inside) in
      subst (λ o. Leads s n (placed o (around_pieces turn.around (Settle turn.statement ∷ []))) (Given v a x) stage next) (sym e)
      (subst (λ y. Leads s n (around_pieces y (Settle turn.statement ∷ [])) (Given v a x) stage next) (sym alone) l)

  -- the pieces behind a call that leads to a place
  at_place : (turn : Turn) (p : Place) (st : State) (stage : Stage) (next : Next) → turn.place ≡ Some p → Leads s n (Feed p ∷ around_pieces turn.around (Settle turn.statement ∷ [])) st stage next → Leads s n (behind turn) st stage next
  at_place turn p st stage next e l = subst (λ o. Leads s n (placed o (around_pieces turn.around (Settle turn.statement ∷ []))) st stage next) (sym e) l

  -- the answer of a call leads on to the next
  pub feed_calls : (turn : Turn) (p : Place) (a : Answer) (x : ℕ) (v : Variables) (call : Call) (q : Place) → IsTurn turn → turn.place ≡ Some p → Calls call q ≡ compound_after p a x → Leads s n (behind turn) (Given v a x) (Asked (record { call = call; place = Some q; around = turn.around; statement = turn.statement })) (Make call)
  feed_calls turn p a x v call q h d e =
      let next : Turn = record { call = call; place = Some q; around = turn.around; statement = turn.statement } in
      let suits : IsTurn next = subst (LeadSuits turn.around) (sym e) (lead_suits p a x turn.around (around_place turn p h d)) in
      at_place turn p (Given v a x) (Asked next) (Make call) d
      (before (Feed p) (around_pieces turn.around (Settle turn.statement ∷ [])) (Making call ∷ Feed q ∷ []) (Given v a x) (Going v) (Asked next) (Make call) tt (ap (goes_on v) (sym e)) (asks_leads next v suits))

  -- to the first call of a compound inside of it
  pub feed_runs : (turn : Turn) (p : Place) (a : Answer) (x : ℕ) (v : Variables) (b : Begin) (q : Place) (around : Around) → IsTurn turn → turn.place ≡ Some p → around ≡ within q turn.around → Runs b q ≡ compound_after p a x → Leads s n (behind turn) (Given v a x) (Asked (record { call = b.call; place = Some b.place; around = around; statement = turn.statement })) (Make b.call)
  feed_runs turn p a x v b q around h d f e =
      let k : Suits b.call (Some b.place) (within q turn.around) × HasRoom turn.around = subst (LeadSuits turn.around) (sym e) (lead_suits p a x turn.around (around_place turn p h d)) in
      let turn_of : Around → Turn = λ y. record { call = b.call; place = Some b.place; around = y; statement = turn.statement } in
      let next : Turn = turn_of (within q turn.around) in
      let suits : IsTurn next = k.0 in
      let rest = around_pieces turn.around (Settle turn.statement ∷ []) in
      let l : Leads s n (behind turn) (Given v a x) (Asked next) (Make b.call) =
      at_place turn p (Given v a x) (Asked next) (Make b.call) d
      (before (Feed p) rest (Making b.call ∷ Feed b.place ∷ Feed q ∷ []) (Given v a x) (Going v) (Asked next) (Make b.call) tt (ap (goes_on v) (sym e))
      (subst (λ ps. Leads s n (Making b.call ∷ Feed b.place ∷ ps) (Going v) (Asked next) (Make b.call)) (inside_pieces q turn.around (Settle turn.statement ∷ []) k.1) (asks_leads next v suits))) in
      subst (λ y. Leads s n (behind turn) (Given v a x) (Asked (turn_of y)) (Make b.call)) (sym f) l

  -- to the place of the compound around it, or to the end
  pub feed_ends : (turn : Turn) (p : Place) (a b : Answer) (x : ℕ) (v : Variables) (stage : Stage) (next : Next) → turn.place ≡ Some p → Ends b ≡ compound_after p a x → Leads s n (around_pieces turn.around (Settle turn.statement ∷ [])) (Given v b 0) stage next → Leads s n (behind turn) (Given v a x) stage next
  feed_ends turn p a b x v stage next d e l =
      at_place turn p (Given v a x) stage next d (before (Feed p) (around_pieces turn.around (Settle turn.statement ∷ [])) [] (Given v a x) (Given v b 0) stage next tt (ap (goes_on v) (sym e)) l)

  -- the pieces around a call are those behind the turn outside of it
  pub outer_leads : (turn o : Turn) (x : Around) (st : State) (stage : Stage) (next : Next) → outer_in turn x ≡ Some o → Leads s n (behind o) st stage next → Leads s n (around_pieces x (Settle turn.statement ∷ [])) st stage next
  outer_leads turn o Nobody st stage next f l = absurd (cc f)
  outer_leads turn o (One q) st stage next f l = let same : record turn { place = Some q; around = Nobody } ≡ o = cc f in subst (λ (t : Turn). Leads s n (behind t) st stage next) (sym same) l
  outer_leads turn o (Two q a) st stage next f l = let same : record turn { place = Some q; around = One a } ≡ o = cc f in subst (λ (t : Turn). Leads s n (behind t) st stage next) (sym same) l

  -- nothing is around a call that none is around
  pub alone_around : (turn : Turn) (x : Around) (st : State) (stage : Stage) (next : Next) → outer_in turn x ≡ None → Leads s n (Settle turn.statement ∷ []) st stage next → Leads s n (around_pieces x (Settle turn.statement ∷ [])) st stage next
  alone_around turn Nobody st stage next f l = l
  alone_around turn (One q) st stage next f l = absurd (cc f)
  alone_around turn (Two q a) st stage next f l = absurd (cc f)

  -- what hands a result on leads where that result leads
  pub hands_lead : {x : ℕ} {rest qs : List Piece} {stage : Stage} {next : Next} → Hands x rest qs → ((w : Variables) → Leads s n rest (Returning w x) stage next) → (v : Variables) (a : Answer) (y : ℕ) → Leads s n qs (Given v a y) stage next
  hands_lead {x} {rest} {qs} {stage} {next} (first p) l v a y =
      before (Left x) (Restore p ∷ rest) [] (Given v a y) (Returning v x) stage next tt refl
      (before (Restore p) rest [] (Returning v x) (Returning (inside_of v p) x) stage next tt refl (l (inside_of v p)))
  hands_lead {x} {rest} {qs} {stage} {next} (more {ps = ps} z p b h) l v a y =
      before (Left z) (Restore p ∷ Giving b ∷ ps) [] (Given v a y) (Returning v z) stage next tt refl
      (before (Restore p) (Giving b ∷ ps) [] (Returning v z) (Returning (inside_of v p) z) stage next tt refl
      (before (Giving b) ps [] (Returning (inside_of v p) z) (Given (inside_of v p) b z) stage next tt refl (hands_lead h l (inside_of v p) b z)))

  -- a procedure has given its result, and is left
  left_at : (turn : Turn) (next : Then) (x value : ℕ) (run : Run) (left : List Piece) (v : Variables) → IsTurn turn → Hands x (then_piece turn.call next ∷ behind turn) (Left value ∷ left) → Leads s n (Leaving run ∷ left) (Returning v value) (LeavingStage turn next x value) (Make (Leave value))
  left_at turn next x value run left v h b =
      before (Leaving run) left (Leaves run.frame value ∷ Left value ∷ []) (Returning v value) (Going v) (LeavingStage turn next x value) (Make (Leave value)) tt refl
      (record { left = Leaves run.frame value ∷ Left value ∷ left; state = Going v; comes = calls (Leave value) refl; stands = is_leaving turn next x value (Leaves run.frame value) v h refl b })

  pub returned_first : (turn : Turn) (next : Then) (value : ℕ) (run : Run) (p : Parameters) (qs : List Piece) (v : Variables) → IsTurn turn → Below (then_piece turn.call next ∷ behind turn) None qs → Leads s n (Leaving run ∷ Restore p ∷ qs) (Returning v value) (LeavingStage turn next value value) (Make (Leave value))
  returned_first turn next value run p qs v h is_first = left_at turn next value value run (Restore p ∷ then_piece turn.call next ∷ behind turn) v h (first p)

  pub returned_later : (turn : Turn) (next : Then) (x value : ℕ) (run : Run) (p : Parameters) (qs : List Piece) (v : Variables) → IsTurn turn → Below (then_piece turn.call next ∷ behind turn) (Some x) qs → Leads s n (Leaving run ∷ Restore p ∷ qs) (Returning v value) (LeavingStage turn next x value) (Make (Leave value))
  returned_later turn next x value run p qs v h (is_later y a k) = left_at turn next x value run (Restore p ∷ qs) v h (more value p a k)

  -- after the procedure that ran for it the same call is made, or its answer is given
  pub again_leads : (turn : Turn) (x : ℕ) (v : Variables) → IsTurn turn → Leads s n (then_piece turn.call AgainThen ∷ behind turn) (Returning v x) (Asked turn) (Make turn.call)
  again_leads turn x v h = before (Again turn.call) (behind turn) (Making turn.call ∷ []) (Returning v x) (Going v) (Asked turn) (Make turn.call) tt refl (asks_leads turn v h)

  pub giving_leads : (turn : Turn) (a : Answer) (x : ℕ) (v : Variables) (stage : Stage) (next : Next) → Leads s n (behind turn) (Given v a x) stage next → Leads s n (then_piece turn.call (GivingThen a) ∷ behind turn) (Returning v x) stage next
  giving_leads turn a x v stage next l = before (Giving a) (behind turn) [] (Returning v x) (Given v a x) stage next tt refl l

  -- a procedure runs after an answer to the call: of an attempt, and then the call is made again, or of a send, and then its answer is given
  runs_so : (turn : Turn) (a : Answer) (run : Run) (next : Then) (v : Variables) → IsTurn turn → follows turn.call a ≡ Running run ∷ then_piece turn.call next ∷ [] → answered turn.call a v ≡ Going v → Leads s n (follows turn.call a ++ behind turn) (answered turn.call a v) (RunningStage turn next None) (asked_of run)
  runs_so turn a run next v h e f =
      let qs = then_piece turn.call next ∷ behind turn in
      let l : Leads s n (Running run ∷ qs) (Going v) (RunningStage turn next None) (asked_of run) = record { left = Running run ∷ qs; state = Going v; comes = runs run; stands = is_running turn next None run v h is_first } in
      subst (λ ps. Leads s n (ps ++ behind turn) (answered turn.call a v) (RunningStage turn next None) (asked_of run)) (sym e)
      (subst (λ st. Leads s n (Running run ∷ qs) st (RunningStage turn next None) (asked_of run)) (sym f) l)

  some_next : {x y : Next} → Some x ≡ Some y → x ≡ y
  some_next e = cc

  pub runs_lead : (turn : Turn) (a : Answer) (next : Next) (v : Variables) → IsTurn turn → Some next ≡ runs_first (following turn.call a) → Leads s n (follows turn.call a ++ behind turn) (answered turn.call a v) (RunningStage turn (then_of a) None) next
  runs_lead turn (Enter sn p w number wparam lparam) next v h e =
      let a = Enter sn p w number wparam lparam in
      let run = run_of p (parameters_from w.0 number wparam lparam) (Entered sn) in
      subst (λ x. Leads s n (follows turn.call a ++ behind turn) (answered turn.call a v) (RunningStage turn AgainThen None) x) (sym (some_next e))
      (runs_so turn a run AgainThen v h (follows_on turn.call a h.goes_on (λ x. absurd cc)) (answered_on turn.call a v h.goes_on (λ x. absurd cc)))
  runs_lead turn (Callback sn p w number extra result) next v h e =
      let a = Callback sn p w number extra result in
      let run = run_of p (parameters_from w.0 number extra result) CallbackRun in
      let f : follows turn.call a ≡ Running run ∷ Again turn.call ∷ [] = follows_on turn.call a h.goes_on (λ x. absurd cc) ∙ ap (λ b. Running run ∷ (if b then Giving a else Again turn.call) ∷ []) h.stays in
      subst (λ x. Leads s n (follows turn.call a ++ behind turn) (answered turn.call a v) (RunningStage turn AgainThen None) x) (sym (some_next e))
      (runs_so turn a run AgainThen v h f (answered_on turn.call a v h.goes_on (λ x. absurd cc)))
  runs_lead turn (Inside sn p) next v h e =
      let a = Inside sn p in
      let run = run_of p (parameters_of turn.call) (InsideFrame sn) in
      subst (λ x. Leads s n (follows turn.call a ++ behind turn) (answered turn.call a v) (RunningStage turn (GivingThen a) None) x) (sym (some_next e))
      (runs_so turn a run (GivingThen a) v h (follows_on turn.call a h.goes_on (λ x. absurd cc)) (answered_on turn.call a v h.goes_on (λ x. absurd cc)))
  runs_lead turn (Called p) next v h e =
      let a = Called p in
      let run = run_of p (parameters_of turn.call) CalledFrame in
      subst (λ x. Leads s n (follows turn.call a ++ behind turn) (answered turn.call a v) (RunningStage turn (GivingThen a) None) x) (sym (some_next e))
      (runs_so turn a run (GivingThen a) v h (follows_on turn.call a h.goes_on (λ x. absurd cc)) (answered_on turn.call a v h.goes_on (λ x. absurd cc)))
  runs_lead turn (Begun sn) next v h e = absurd (begun_runs_none (waits turn.call) next sn e)
  runs_lead turn a next v h e = absurd cc

  -- after `wait` the same call is made
  pub wait_leads : (turn : Turn) (v : Variables) → IsTurn turn → Leads s n (follows turn.call Wait ++ behind turn) (answered turn.call Wait v) (Asked turn) (Make turn.call)
  wait_leads turn v h = asks_leads turn v h

  -- after `begun` of a send that waits it is awaited
  pub await_leads : (turn : Turn) (sn : SendId) (v : Variables) → IsTurn turn → true ≡ waits turn.call → Leads s n (follows turn.call (Begun sn) ++ behind turn) (answered turn.call (Begun sn) v) (Asked (record turn { call = Await sn.0 })) (Make (Await sn.0))
  await_leads turn sn v h w =
      let next : Turn = record turn { call = Await sn.0 } in
      let suits : IsTurn next = record { stays = refl; goes_on = refl; inside = h.inside } in
      let e : follows turn.call (Begun sn) ≡ Making (Await sn.0) ∷ [] = follows_on turn.call (Begun sn) h.goes_on (λ x. absurd cc) ∙ ap (λ b. if b then Making (Await sn.0) ∷ [] else []) (sym w) in
      let f : answered turn.call (Begun sn) v ≡ Going v = answered_on turn.call (Begun sn) v h.goes_on (λ x. absurd cc) ∙ ap (λ b. if b then Going v else given v (Begun sn)) (sym w) in
      subst (λ ps. Leads s n (ps ++ behind turn) (answered turn.call (Begun sn) v) (Asked next) (Make next.call)) (sym e)
      (subst (λ st. Leads s n (Making next.call ∷ behind turn) st (Asked next) (Make next.call)) (sym f) (asks_leads next v suits))

  -- any other answer is given
  given_so : (turn : Turn) (a : Answer) (v : Variables) (stage : Stage) (next : Next) → follows turn.call a ≡ [] → answered turn.call a v ≡ given v a → ((w : Variables) → Leads s n (behind turn) (Given w a (result_of a)) stage next) → Leads s n (follows turn.call a ++ behind turn) (answered turn.call a v) stage next
  given_so turn a v stage next e f l =
      subst (λ ps. Leads s n (ps ++ behind turn) (answered turn.call a v) stage next) (sym e)
      (subst (λ st. Leads s n (behind turn) st stage next) (sym f) (l (received v a)))

  pub begun_leads : (turn : Turn) (sn : SendId) (v : Variables) (stage : Stage) (next : Next) → IsTurn turn → false ≡ waits turn.call → ((w : Variables) → Leads s n (behind turn) (Given w (Begun sn) 0) stage next) → Leads s n (follows turn.call (Begun sn) ++ behind turn) (answered turn.call (Begun sn) v) stage next
  begun_leads turn sn v stage next h w l =
      let e : follows turn.call (Begun sn) ≡ [] = follows_on turn.call (Begun sn) h.goes_on (λ x. absurd cc) ∙ ap (λ b. if b then Making (Await sn.0) ∷ [] else []) (sym w) in
      let f : answered turn.call (Begun sn) v ≡ given v (Begun sn) = answered_on turn.call (Begun sn) v h.goes_on (λ x. absurd cc) ∙ ap (λ b. if b then Going v else given v (Begun sn)) (sym w) in
      given_so turn (Begun sn) v stage next e f l

  pub given_leads : (turn : Turn) (a : Answer) (v : Variables) (stage : Stage) (next : Next) → IsTurn turn → IsPlain turn.call a → ((w : Variables) → Leads s n (behind turn) (Given w a (result_of a)) stage next) → Leads s n (follows turn.call a ++ behind turn) (answered turn.call a v) stage next
  given_leads turn a v stage next h p l =
      given_so turn a v stage next (follows_on turn.call a h.goes_on (plain_waits_not turn.call a p) ∙ plain_follows turn.call a p) (answered_on turn.call a v h.goes_on (plain_waits_not turn.call a p) ∙ plain_answers turn.call a v p) l

  -- the `leave` of a procedure is answered: it waits, another procedure runs, or the first result is handed on
  pub leave_waits : (turn : Turn) (next : Then) (x value : ℕ) (qs : List Piece) (v : Variables) → IsTurn turn → Hands x (then_piece turn.call next ∷ behind turn) qs → Leads s n (follows (Leave value) Wait ++ qs) (answered (Leave value) Wait v) (LeavingStage turn next x value) (Make (Leave value))
  leave_waits turn next x value qs v h b =
      record { left = Making (Leave value) ∷ qs; state = Going v; comes = calls (Leave value) refl; stands = is_leaving turn next x value (Making (Leave value)) v h refl b }

  leave_runs_so : (turn : Turn) (next : Then) (x value : ℕ) (a : Answer) (run : Run) (qs : List Piece) (v : Variables) → IsTurn turn → Hands x (then_piece turn.call next ∷ behind turn) qs → Leads s n (Running run ∷ Giving a ∷ qs) (Going v) (RunningStage turn next (Some x)) (asked_of run)
  leave_runs_so turn next x value a run qs v h b =
      record { left = Running run ∷ Giving a ∷ qs; state = Going v; comes = runs run; stands = is_running turn next (Some x) run v h (is_later x a b) }

  pub leave_runs : (turn : Turn) (next : Then) (x value : ℕ) (a : Answer) (asked : Next) (qs : List Piece) (v : Variables) → IsTurn turn → MayFollow (Leave value) a → Hands x (then_piece turn.call next ∷ behind turn) qs → Some asked ≡ runs_first (following (Leave value) a) → Leads s n (follows (Leave value) a ++ qs) (answered (Leave value) a v) (RunningStage turn next (Some x)) asked
  leave_runs turn next x value (Enter sn p w number wparam lparam) asked qs v h k b e = absurd k
  leave_runs turn next x value (Callback sn p w number extra result) asked qs v h k b e =
      subst (λ y. Leads s n (follows (Leave value) (Callback sn p w number extra result) ++ qs) (Going v) (RunningStage turn next (Some x)) y) (sym (some_next e)) (leave_runs_so turn next x value (Callback sn p w number extra result) _ qs v h b)
  leave_runs turn next x value (Inside sn p) asked qs v h k b e =
      subst (λ y. Leads s n (follows (Leave value) (Inside sn p) ++ qs) (Going v) (RunningStage turn next (Some x)) y) (sym (some_next e)) (leave_runs_so turn next x value (Inside sn p) _ qs v h b)
  leave_runs turn next x value (Called p) asked qs v h k b e =
      subst (λ y. Leads s n (follows (Leave value) (Called p) ++ qs) (Going v) (RunningStage turn next (Some x)) y) (sym (some_next e)) (leave_runs_so turn next x value (Called p) _ qs v h b)
  leave_runs turn next x value a asked qs v h k b e = absurd cc

  pub leave_hands : (turn : Turn) (next : Then) (x value : ℕ) (a : Answer) (stage : Stage) (asked : Next) (qs : List Piece) (v : Variables) → (a ≡ Wait → ⊥) → Hands x (then_piece turn.call next ∷ behind turn) qs → None ≡ runs_first (following (Leave value) a) → ((w : Variables) → Leads s n (then_piece turn.call next ∷ behind turn) (Returning w x) stage asked) → Leads s n (follows (Leave value) a ++ qs) (answered (Leave value) a v) stage asked
  leave_hands turn next x value Wait stage asked qs v k b e l = absurd (k refl)
  leave_hands turn next x value (Enter sn p w number wparam lparam) stage asked qs v k b e l = absurd cc
  leave_hands turn next x value (Callback sn p w number extra result) stage asked qs v k b e l = absurd cc
  leave_hands turn next x value (Inside sn p) stage asked qs v k b e l = absurd cc
  leave_hands turn next x value (Called p) stage asked qs v k b e l = absurd cc
  leave_hands turn next x value a stage asked qs v k b e l = hands_lead b l (received v a) a (result_of a)

  -- a compound of a statement begins
  pub begins_leads : (c : Compound) (b : Begin) (r : Step) (v : Variables) → ((w number p q : ℕ) → c ≡ DefaultOf w number p q → ⊥) → b ≡ begin_of c → r ≡ record { stage = Asked (first_turn b Nobody b.call); next = Make b.call } → Leads s n (begun c) (Going v) r.stage r.next
  begins_leads c b r v h e g =
      let suits : IsTurn (first_turn b Nobody b.call) = subst (λ x. IsTurn (first_turn x Nobody b.call)) (sym e) (begin_suits c b.call) in
      let pieces : begun c ≡ begun_with b = begun_other c h ∙ ap begun_with (sym e) in
      carry (begun c) (Going v) (Asked (first_turn b Nobody b.call)) (Make b.call) r g
      (subst (λ ps. Leads s n ps (Going v) (Asked (first_turn b Nobody b.call)) (Make b.call)) (sym pieces) (asks_leads (first_turn b Nobody b.call) v suits))

  -- the statement `default` with a compound inside of it
  pub default_leads : (p : Parameters) (b : Begin) (x : ℕ) (call : Call) (r : Step) (v : Variables) → Some b ≡ default_begin p → x ≡ default_result p → r ≡ record { stage = Asked (first_turn b (One (Defaulting x)) call); next = Make b.call } → Leads s n (default_pieces p (Settle call ∷ [])) (Going v) r.stage r.next
  default_leads p b x call r v f g k =
      let turn = first_turn b (One (Defaulting x)) call in
      let pieces : default_pieces p (Settle call ∷ []) ≡ Making b.call ∷ behind turn = ap (λ y. default_over y (default_result p) (Settle call ∷ [])) (sym f) ∙ ap (λ y. default_over (Some b) y (Settle call ∷ [])) (sym g) in
      carry (default_pieces p (Settle call ∷ [])) (Going v) (Asked turn) (Make b.call) r k (subst (λ ps. Leads s n ps (Going v) (Asked turn) (Make b.call)) (sym pieces) (asks_leads turn v (default_suits p b x call f)))

  -- and without one
  pub alone_leads : (p : Parameters) (x : ℕ) (call : Call) (r : Step) (v : Variables) → None ≡ default_begin p → x ≡ default_result p → r ≡ record { stage = Over; next = Done x 0 } → Leads s n (default_pieces p (Settle call ∷ [])) (Going v) r.stage r.next
  alone_leads p x call r v f g k =
      let pieces : default_pieces p (Settle call ∷ []) ≡ Giving (Value x) ∷ Settle call ∷ [] = ap (λ y. default_over y (default_result p) (Settle call ∷ [])) (sym f) ∙ ap (λ y. default_over None y (Settle call ∷ [])) (sym g) in
      carry (default_pieces p (Settle call ∷ [])) (Going v) Over (Done x 0) r k
      (subst (λ ps. Leads s n ps (Going v) Over (Done x 0)) (sym pieces) (before (Giving (Value x)) (Settle call ∷ []) [] (Going v) (Given v (Value x) 0) Over (Done x 0) tt refl (settles_leads call (Value x) 0 v v)))

  -- the same from an answer that is equal
  pub at_answer : (call : Call) (rest : List Piece) (a b : Answer) (v : Variables) (stage : Stage) (next : Next) → a ≡ b → Leads s n (follows call b ++ rest) (answered call b v) stage next → Leads s n (follows call a ++ rest) (answered call a v) stage next
  at_answer call rest a b v stage next e l = subst (λ x. Leads s n (follows call x ++ rest) (answered call x v) stage next) (sym e) l

  -- the same from what comes then that is equal
  pub at_then : (turn : Turn) (t u : Then) (st : State) (stage : Stage) (next : Next) → t ≡ u → Leads s n (then_piece turn.call u ∷ behind turn) st stage next → Leads s n (then_piece turn.call t ∷ behind turn) st stage next
  at_then turn t u st stage next e l = subst (λ x. Leads s n (then_piece turn.call x ∷ behind turn) st stage next) (sym e) l

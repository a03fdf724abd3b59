-- Where the state of a key is led.
use Rattle.std.proofs.Common.{◌≡◌, ℕ, Bool, List, [], Option, Some, None, refl, sym, ap, ◌∙◌, subst}
use Rattle.std.specs.Prelude.{unwrap_or}
use Rattle.user_model.specs.declared.call.Call.{Call}
use Rattle.user_model.specs.declared.call.Call.TheVariants.{ChildAfter, StyleOf}
use Rattle.user_model.specs.declared.entry.Answer.{Answer}
use Rattle.script_tree.specs.Tree.{Tree}
use Rattle.script_tree.specs.Pieces.{Piece, State, Going}
use Rattle.script_tree.specs.declared.variables.Variables.{Variables}
use Rattle.win_calls.specs.declared.compound.Compound.TheVariants.{SetFocus}
use Rattle.win_calls.specs.declared.compound.Next.{Next}
use Rattle.win_calls.specs.declared.compound.Next.TheVariants.{Make, Run as RunOf, Done as DoneOf}
use Rattle.win_calls.specs.declared.compound.Got.{Got}
use Rattle.win_calls.specs.declared.compound.Got.TheVariants.{Start, Answered, Returned}
use Rattle.win_calls.specs.declared.call_state.CallState.{CallState}
use Rattle.win_calls.specs.declared.state.CompoundState.{CompoundState}
use Rattle.win_calls.specs.declared.stage.Stage.{Stage as InnerStage}
use Rattle.win_calls.specs.Table.{begun, made, Handed as HandedIn}
use Rattle.win_calls.specs.States.{StandsFor, Awaits, Leads as LeadsIn}
use Rattle.dialog_keys.specs.declared.key.DialogKey.{DialogKey}
use Rattle.dialog_keys.specs.declared.key.Errand.TheVariants.{Moves, Commands, Nothing}
use Rattle.dialog_keys.specs.declared.walk.Walk.{Walk}
use Rattle.dialog_keys.specs.declared.stage.Stage.{Stage}
use Rattle.dialog_keys.specs.declared.stage.Step.{Step}
use Rattle.dialog_keys.specs.declared.stage.Stage.TheVariants.{Fresh, Walking, Looking, Focusing, Sending, Over}
use Rattle.dialog_keys.specs.Keys.{errand_of}
use Rattle.dialog_keys.specs.Controls.{next_control}
use Rattle.dialog_keys.specs.Traces.{Point, beginning, walking, looking, walked, refused, stating, over, child_call, command_call, error_of, child_of, led_to, child_told, style_told, Handed, started as begun_key, was_child, was_style, went_on, IsOn, begins, commands, passes, asks_child, asks_style, focuses, stays, stops, asks, ends}
use Rattle.dialog_keys.specs.States.{Accepts, Sums, StandsAt, is_fresh, is_walking, is_looking, is_focusing, is_sending, is_over, Leads}

-- where the stages stand
abbrev WalkingAt : Walk → Point → Type 0
WalkingAt walk p = (k : DialogKey) × (forwards : Bool) × (ws : List ℕ) × (v : ℕ) × Sums walk k forwards ws v × (p ≡ walking k forwards ws v)

abbrev LookingAt : Walk → Point → Type 0
LookingAt walk p = (k : DialogKey) × (forwards : Bool) × (ws : List ℕ) × (w : ℕ) × Sums walk k forwards ws w × (p ≡ looking k forwards ws w)

abbrev StatingAt : Option ℕ → InnerStage → Point → Type 0
StatingAt gives stage p = (ps : List Piece) × (st : State) × StandsFor stage ps st × (p ≡ stating gives ps st)

abbrev At : Stage → Point → Type 0
At (Fresh k) p = p ≡ beginning k
At (Walking walk) p = WalkingAt walk p
At (Looking walk) p = LookingAt walk p
At (Focusing w focus) p = StatingAt (Some w) focus.stage p
At (Sending send) p = StatingAt None send.stage p
At Over p = Unit {0}

stands_at : {stage : Stage} {p : Point} → StandsAt stage p → At stage p
stands_at (is_fresh k) = refl
stands_at (is_walking walk k forwards ws v h) = (k, forwards, ws, v, h, refl)
stands_at (is_looking walk k forwards ws w h) = (k, forwards, ws, w, h, refl)
stands_at (is_focusing w focus {ps = ps} {st = st} h) = (ps, st, h, refl)
stands_at (is_sending send {ps = ps} {st = st} h) = (ps, st, h, refl)
stands_at is_over = tt

at_stage : {stage other : Stage} {p : Point} → stage ≡ other → StandsAt stage p → At other p
at_stage {stage} {other} {p} e h = let P : Stage → Type 0 = λ x. At x p in subst P e (stands_at h)

accepts_start : (k : DialogKey) (g : Got) → Accepts (Fresh k) g → g ≡ Start
accepts_start k Start h = refl
accepts_start k (Answered a) h = absurd h
accepts_start k (Returned x) h = absurd h

-- what is accepted at a call
pub walking_accepts : (walk : Walk) (call : Call) (g : Got) → Awaits (Make call) g → Accepts (Walking walk) g
walking_accepts walk call Start h = absurd h
walking_accepts walk call (Answered a) h = tt
walking_accepts walk call (Returned x) h = absurd h

pub looking_accepts : (walk : Walk) (call : Call) (g : Got) → Awaits (Make call) g → Accepts (Looking walk) g
looking_accepts walk call Start h = absurd h
looking_accepts walk call (Answered a) h = tt
looking_accepts walk call (Returned x) h = absurd h

pub done_accepts : (r err : ℕ) (stage : Stage) (g : Got) → Awaits (DoneOf r err) g → Accepts stage g
done_accepts r err stage g h = absurd h

-- a step from its parts
abbrev pub step_of : Stage → Next → Step
step_of stage next = record { stage = stage; next = next }

module _ (s : Tree) (n : ℕ) where
  -- the same for a step that is equal
  pub carry : (p : Point) (m r : Step) → r ≡ m → Leads s n p m.stage m.next → Leads s n p r.stage r.next
  carry p m r e l = subst (λ (x : Step). Leads s n p x.stage x.next) (sym e) l

  -- from an equal point
  pub from_point : (p q : Point) (stage : Stage) (next : Next) → q ≡ p → Leads s n p stage next → Leads s n q stage next
  from_point p q stage next e l = subst (λ x. Leads s n x stage next) (sym e) l

  at_point : (p r q : Point) (g : Got) → p ≡ r → Handed s n p g q → Handed s n r g q
  at_point p r q g e m = subst (λ x. Handed s n x g q) e m

  -- the walk goes on
  pub asks_child_leads : (walk : Walk) (k : DialogKey) (forwards : Bool) (ws : List ℕ) (v : ℕ) → Sums walk k forwards ws v → Leads s n (walking k forwards ws v) (Walking walk) (Make (ChildAfter walk.dialog walk.child))
  asks_child_leads walk k forwards ws v h =
      let call : child_call k v ≡ ChildAfter walk.dialog walk.child = ap (λ d. ChildAfter d v) (sym h.dialog) ∙ ap (ChildAfter walk.dialog) (sym h.child) in
      subst (λ c. Leads s n (walking k forwards ws v) (Walking walk) (Make c)) call (record { at = walking k forwards ws v; comes = asks_child k forwards ws v; stands = is_walking walk k forwards ws v h })

  pub asks_style_leads : (walk : Walk) (k : DialogKey) (forwards : Bool) (ws : List ℕ) (w : ℕ) → Sums walk k forwards ws w → Leads s n (looking k forwards ws w) (Looking walk) (Make (StyleOf walk.child))
  asks_style_leads walk k forwards ws w h =
      subst (λ c. Leads s n (looking k forwards ws w) (Looking walk) (Make (StyleOf c))) (sym h.child) (record { at = looking k forwards ws w; comes = asks_style k forwards ws w; stands = is_looking walk k forwards ws w h })

  -- the walk is refused
  pub stops_leads : (err : ℕ) → Leads s n (refused err) Over (DoneOf 0 err)
  stops_leads err = record { at = over; comes = stops err; stands = is_over }

  -- the walk is over, and leads to the next control
  pub focuses_leads : (k : DialogKey) (forwards : Bool) (ws : List ℕ) (w : ℕ) (v : Variables) (stage : Stage) (next : Next) → next_control forwards k.focus.0 ws ≡ Some w → Leads s n (stating (Some w) (begun (SetFocus w)) (Going v)) stage next → Leads s n (walked k forwards ws) stage next
  focuses_leads k forwards ws w v stage next h l = record { at = l.at; comes = focuses k forwards ws w v h l.comes; stands = l.stands }

  -- or to none
  pub stays_leads : (k : DialogKey) (forwards : Bool) (ws : List ℕ) → next_control forwards k.focus.0 ws ≡ None → Leads s n (walked k forwards ws) Over (DoneOf 0 0)
  stays_leads k forwards ws h = record { at = over; comes = stays k forwards ws h; stands = is_over }

  -- the key begins
  pub begins_leads : (k : DialogKey) (forwards : Bool) (walk : Walk) → errand_of k.vk k.shift ≡ Moves forwards → Sums walk k forwards [] 0 → Leads s n (beginning k) (Walking walk) (Make (ChildAfter walk.dialog walk.child))
  begins_leads k forwards walk e h =
      let call : child_call k 0 ≡ ChildAfter walk.dialog walk.child = ap (λ d. ChildAfter d 0) (sym h.dialog) ∙ ap (ChildAfter walk.dialog) (sym h.child) in
      subst (λ c. Leads s n (beginning k) (Walking walk) (Make c)) call (record { at = walking k forwards [] 0; comes = begins k forwards e; stands = is_walking walk k forwards [] 0 h })

  pub commands_leads : (k : DialogKey) (id : ℕ) (v : Variables) (stage : Stage) (next : Next) → errand_of k.vk k.shift ≡ Commands id → Leads s n (stating None (made (command_call k id)) (Going v)) stage next → Leads s n (beginning k) stage next
  commands_leads k id v stage next e l = record { at = l.at; comes = commands k id v e l.comes; stands = l.stands }

  -- the statement of an equal call
  pub same_send : (call other : Call) (v : Variables) (stage : Stage) (next : Next) → other ≡ call → Leads s n (stating None (made other) (Going v)) stage next → Leads s n (stating None (made call) (Going v)) stage next
  same_send call other v stage next e l = subst (λ c. Leads s n (stating None (made c) (Going v)) stage next) e l

  pub passes_leads : (k : DialogKey) → errand_of k.vk k.shift ≡ Nothing → Leads s n (beginning k) Over (DoneOf 0 0)
  passes_leads k e = record { at = over; comes = passes k e; stands = is_over }

  -- a statement that is over
  ended_leads : (gives : Option ℕ) (stage : InnerStage) (ps : List Piece) (st : State) (r err : ℕ) → LeadsIn s n ps st stage (DoneOf r err) → Leads s n (stating gives ps st) Over (DoneOf (unwrap_or gives r) err)
  ended_leads gives stage ps st r err l = record { at = over; comes = ends gives r err l.comes; stands = is_over }

  pub statement_ended : (gives : Option ℕ) (stage : InnerStage) (next : Next) (ps : List Piece) (st : State) (r err : ℕ) → next ≡ DoneOf r err → LeadsIn s n ps st stage next → Leads s n (stating gives ps st) Over (DoneOf (unwrap_or gives r) err)
  statement_ended gives stage next ps st r err h l = ended_leads gives stage ps st r err (subst (λ x. LeadsIn s n ps st stage x) h l)

  is_on : (next : Next) → ((r err : ℕ) → next ≡ DoneOf r err → ⊥) → IsOn next
  is_on (Make call) h = tt
  is_on (RunOf proc_no w number wparam lparam callback) h = tt
  is_on (DoneOf r err) h = absurd (h r err refl)

  -- and one that isn't
  pub focus_on : (w : ℕ) (focus : CompoundState) (next : Next) (ps : List Piece) (st : State) → ((r err : ℕ) → next ≡ DoneOf r err → ⊥) → LeadsIn s n ps st focus.stage next → Leads s n (stating (Some w) ps st) (Focusing w focus) next
  focus_on w focus next ps st h l = record { at = stating (Some w) l.left l.state; comes = asks (Some w) next (is_on next h) l.comes; stands = is_focusing w focus l.stands }

  pub send_on : (send : CallState) (next : Next) (ps : List Piece) (st : State) → ((r err : ℕ) → next ≡ DoneOf r err → ⊥) → LeadsIn s n ps st send.stage next → Leads s n (stating None ps st) (Sending send) next
  send_on send next ps st h l = record { at = stating None l.left l.state; comes = asks None next (is_on next h) l.comes; stands = is_sending send l.stands }

  handed_start : {k : DialogKey} {q : Point} {g : Got} → Handed s n (beginning k) g q → q ≡ beginning k
  handed_start (begun_key k) = refl

  handed_child : {k : DialogKey} {forwards : Bool} {ws : List ℕ} {v : ℕ} {q : Point} {g : Got} (a : Answer) → Handed s n (walking k forwards ws v) g q → g ≡ Answered a → q ≡ child_told k forwards ws a
  handed_child a (was_child k forwards ws v b) h = let same : b ≡ a = cc in ap (child_told k forwards ws) same

  handed_style : {k : DialogKey} {forwards : Bool} {ws : List ℕ} {w : ℕ} {q : Point} {g : Got} (a : Answer) → Handed s n (looking k forwards ws w) g q → g ≡ Answered a → q ≡ style_told k forwards ws w a
  handed_style a (was_style k forwards ws w b) h = let same : b ≡ a = cc in ap (style_told k forwards ws w) same

  handed_stating : {gives : Option ℕ} {ps : List Piece} {st : State} {q : Point} {g : Got} → Handed s n (stating gives ps st) g q → (qs : List Piece) × (sq : State) × HandedIn s n ps st g qs sq × (q ≡ stating gives qs sq)
  handed_stating (went_on gives {qs = qs} {sq = sq} m) = (qs, sq, m, refl)

  pub fresh_leads : (stage : Stage) (g : Got) (k : DialogKey) (p q : Point) (new : Stage) (next : Next) → stage ≡ Fresh k → StandsAt stage p → Handed s n p g q → Leads s n (beginning k) new next → Leads s n q new next
  fresh_leads stage g k p q new next h st m l =
      let e : p ≡ beginning k = at_stage h st in
      from_point (beginning k) q new next (handed_start (at_point p (beginning k) q g e m)) l

  pub walking_leads : (stage : Stage) (g : Got) (walk : Walk) (a : Answer) (p q : Point) (new : Stage) (next : Next) → stage ≡ Walking walk → g ≡ Answered a → StandsAt stage p → Handed s n p g q
      → ((k : DialogKey) (forwards : Bool) (ws : List ℕ) (v : ℕ) → Sums walk k forwards ws v → Leads s n (child_told k forwards ws a) new next) → Leads s n q new next
  walking_leads stage g walk a p q new next h d st m l =
      let x : WalkingAt walk p = at_stage h st in
      from_point (child_told x.0 x.1 x.2 a) q new next (handed_child a (at_point p (walking x.0 x.1 x.2 x.3) q g x.5 m) d) (l x.0 x.1 x.2 x.3 x.4)

  pub looking_leads : (stage : Stage) (g : Got) (walk : Walk) (a : Answer) (p q : Point) (new : Stage) (next : Next) → stage ≡ Looking walk → g ≡ Answered a → StandsAt stage p → Handed s n p g q
      → ((k : DialogKey) (forwards : Bool) (ws : List ℕ) (w : ℕ) → Sums walk k forwards ws w → Leads s n (style_told k forwards ws w a) new next) → Leads s n q new next
  looking_leads stage g walk a p q new next h d st m l =
      let x : LookingAt walk p = at_stage h st in
      from_point (style_told x.0 x.1 x.2 x.3 a) q new next (handed_style a (at_point p (looking x.0 x.1 x.2 x.3) q g x.5 m) d) (l x.0 x.1 x.2 x.3 x.4)

  pub stating_leads : (gives : Option ℕ) (inner : InnerStage) (g : Got) (p q : Point) (new : Stage) (next : Next) → StatingAt gives inner p → Handed s n p g q
      → ((ps qs : List Piece) (st sq : State) → StandsFor inner ps st → HandedIn s n ps st g qs sq → Leads s n (stating gives qs sq) new next) → Leads s n q new next
  stating_leads gives inner g p q new next x m l =
      let i = handed_stating (at_point p (stating gives x.0 x.1) q g x.3 m) in
      from_point (stating gives i.0 i.1) q new next i.3 (l x.0 i.0 x.1 i.1 x.2 i.2)

  pub focusing_leads : (stage : Stage) (g : Got) (w : ℕ) (focus : CompoundState) (p q : Point) (new : Stage) (next : Next) → stage ≡ Focusing w focus → StandsAt stage p → Handed s n p g q
      → ((ps qs : List Piece) (st sq : State) → StandsFor focus.stage ps st → HandedIn s n ps st g qs sq → Leads s n (stating (Some w) qs sq) new next) → Leads s n q new next
  focusing_leads stage g w focus p q new next h st m l = stating_leads (Some w) focus.stage g p q new next (at_stage h st) m l

  pub sending_leads : (stage : Stage) (g : Got) (send : CallState) (p q : Point) (new : Stage) (next : Next) → stage ≡ Sending send → StandsAt stage p → Handed s n p g q
      → ((ps qs : List Piece) (st sq : State) → StandsFor send.stage ps st → HandedIn s n ps st g qs sq → Leads s n (stating None qs sq) new next) → Leads s n q new next
  sending_leads stage g send p q new next h st m l = stating_leads None send.stage g p q new next (at_stage h st) m l

-- where a `child_after` leads, by its answer
pub told_error : (k : DialogKey) (forwards : Bool) (ws : List ℕ) (a : Answer) (err : ℕ) → error_of a ≡ Some err → child_told k forwards ws a ≡ refused err
told_error k forwards ws a err e = ap (λ x. led_to k forwards ws x (child_of a)) e

pub told_child : (k : DialogKey) (forwards : Bool) (ws : List ℕ) (a : Answer) (w : ℕ) → error_of a ≡ None → child_of a ≡ Some w → child_told k forwards ws a ≡ looking k forwards ws w
told_child k forwards ws a w e f = ap (λ x. led_to k forwards ws x (child_of a)) e ∙ ap (led_to k forwards ws None) f

pub told_none : (k : DialogKey) (forwards : Bool) (ws : List ℕ) (a : Answer) → error_of a ≡ None → child_of a ≡ None → child_told k forwards ws a ≡ walked k forwards ws
told_none k forwards ws a e f = ap (λ x. led_to k forwards ws x (child_of a)) e ∙ ap (led_to k forwards ws None) f

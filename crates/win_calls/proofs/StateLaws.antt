-- What is handed in at a stage leads on from the pieces that the stage stands for.
use Rattle.std.proofs.Common.{◌≡◌, ℕ, List, ◌∷◌, ◌++◌, Option, refl, sym, ap, ◌∙◌, subst}
use Rattle.user_model.specs.declared.call.Call.{Call}
use Rattle.user_model.specs.declared.call.Call.TheVariants.{Leave}
use Rattle.user_model.specs.declared.entry.Answer.{Answer}
use Rattle.script_tree.specs.declared.frame.Run.{Run}
use Rattle.script_tree.specs.declared.variables.Parameters.{Parameters}
use Rattle.script_tree.specs.declared.variables.Variables.{Variables}
use Rattle.script_tree.specs.Tree.{Tree}
use Rattle.script_tree.specs.Pieces.{Piece, Making, Running, Leaving, Restore, State, Going, Returning, Asks}
use Rattle.script_tree.specs.Steps.{step, follows, answered}
use Rattle.win_calls.specs.declared.compound.Compound.{Compound}
use Rattle.win_calls.specs.declared.compound.Got.{Got}
use Rattle.win_calls.specs.declared.compound.Got.TheVariants.{Start, Answered, Returned}
use Rattle.win_calls.specs.declared.compound.Next.{Next}
use Rattle.win_calls.specs.declared.stage.Turn.{Turn}
use Rattle.win_calls.specs.declared.stage.Then.{Then}
use Rattle.win_calls.specs.declared.stage.Stage.{Stage}
use Rattle.win_calls.specs.declared.stage.Stage.TheVariants.{Fresh, Ready, Asked, Running as RunningStage, Leaving as LeavingStage, Over}
use Rattle.win_calls.specs.Table.{begun, Handed, started, was_answered, was_returned}
use Rattle.win_calls.specs.States.{IsTurn, Accepts, Hands, Below, behind, then_piece, IsLeave, StandsFor, is_fresh, is_ready, is_asked, is_running, is_leaving, is_over, Leads}
use Rattle.win_calls.proofs.TableLaws.{leave_asks}

-- where the stages stand; one that is ready stands where its first call is made
abbrev FreshAt : Compound → List Piece → State → Type 0
FreshAt c ps st = (v : Variables) × (ps ≡ begun c) × (st ≡ Going v)

abbrev AskedAt : Turn → List Piece → State → Type 0
AskedAt turn ps st = (v : Variables) × IsTurn turn × (ps ≡ Making turn.call ∷ behind turn) × (st ≡ Going v)

abbrev RunningAt : Turn → Then → Option ℕ → List Piece → State → Type 0
RunningAt turn next x ps st = (v : Variables) × (run : Run) × (qs : List Piece) × IsTurn turn × Below (then_piece turn.call next ∷ behind turn) x qs × (ps ≡ Running run ∷ qs) × (st ≡ Going v)

abbrev LeavingAt : Turn → Then → ℕ → ℕ → List Piece → State → Type 0
LeavingAt turn next x value ps st = (v : Variables) × (p : Piece) × (qs : List Piece) × IsTurn turn × IsLeave value p × Hands x (then_piece turn.call next ∷ behind turn) qs × (ps ≡ p ∷ qs) × (st ≡ Going v)

-- where a stage stands
abbrev At : Stage → List Piece → State → Type 0
At (Fresh c) ps st = FreshAt c ps st
At (Ready turn) ps st = AskedAt turn ps st
At (Asked turn) ps st = AskedAt turn ps st
At (RunningStage turn next x) ps st = RunningAt turn next x ps st
At (LeavingStage turn next x value) ps st = LeavingAt turn next x value ps st
At Over ps st = Unit {0}

stands_at : {stage : Stage} {ps : List Piece} {st : State} → StandsFor stage ps st → At stage ps st
stands_at (is_fresh c v) = (v, refl, refl)
stands_at (is_ready turn v h) = (v, h, refl, refl)
stands_at (is_asked turn v h) = (v, h, refl, refl)
stands_at (is_running {qs = qs} turn next x run v h b) = (v, run, qs, h, b, refl, refl)
stands_at (is_leaving {qs = qs} turn next x value p v h l k) = (v, p, qs, h, l, k, refl, refl)
stands_at (is_over v) = tt

at_stage : {stage other : Stage} {ps : List Piece} {st : State} → stage ≡ other → StandsFor stage ps st → At other ps st
at_stage {stage} {other} {ps} {st} e h = let P : Stage → Type 0 = λ x. At x ps st in subst P e (stands_at h)

accepts_start : (c : Compound) (g : Got) → Accepts (Fresh c) g → g ≡ Start
accepts_start c Start k = refl
accepts_start c (Answered a) k = absurd k
accepts_start c (Returned x) k = absurd k

ready_start : (turn : Turn) (g : Got) → Accepts (Ready turn) g → g ≡ Start
ready_start turn Start k = refl
ready_start turn (Answered a) k = absurd k
ready_start turn (Returned x) k = absurd k

module _ (s : Tree) (n : ℕ) where
  handed_start : {ps qs : List Piece} {st sq : State} {g : Got} → Handed s n ps st g qs sq → g ≡ Start → (qs ≡ ps) × (sq ≡ st)
  handed_start started e = (refl, refl)
  handed_start (was_answered call a h) e = absurd cc
  handed_start (was_returned run w x) e = absurd cc

  handed_answer : {p : Piece} {left qs : List Piece} {v : Variables} {sq : State} {g : Got} (call : Call) (a : Answer) → Handed s n (p ∷ left) (Going v) g qs sq → g ≡ Answered a → step s p (Going v) n ≡ Asks call → (qs ≡ follows call a ++ left) × (sq ≡ answered call a v)
  handed_answer call a started e f = absurd cc
  handed_answer {left = left} {v = v} call a (was_answered call' a' h) e f =
      let c : call' ≡ call = cc in
      let b : a' ≡ a = cc in
      (ap (λ x. follows x a' ++ left) c ∙ ap (λ y. follows call y ++ left) b, ap (λ x. answered x a' v) c ∙ ap (λ y. answered call y v) b)
  handed_answer call a (was_returned run w x) e f = absurd cc

  handed_result : {run : Run} {left qs : List Piece} {v : Variables} {sq : State} {g : Got} (x : ℕ) → Handed s n (Running run ∷ left) (Going v) g qs sq → g ≡ Returned x → (w : Variables) × (qs ≡ Leaving run ∷ Restore v.parameters ∷ left) × (sq ≡ Returning w x)
  handed_result x started e = absurd cc
  handed_result x (was_answered call a h) e = absurd cc
  handed_result x (was_returned run w y) e = let f : y ≡ x = cc in (w, refl, ap (Returning w) f)

  -- from equal pieces and an equal state
  from_place : (ps qs : List Piece) (st sq : State) (stage : Stage) (next : Next) → qs ≡ ps → sq ≡ st → Leads s n ps st stage next → Leads s n qs sq stage next
  from_place ps qs st sq stage next e f l =
      subst (λ x. Leads s n x sq stage next) (sym e) (subst (λ y. Leads s n ps y stage next) (sym f) l)

  at_head : (ps qs rs : List Piece) (st sq : State) (v : Variables) (g : Got) → ps ≡ rs → st ≡ Going v → Handed s n ps st g qs sq → Handed s n rs (Going v) g qs sq
  at_head ps qs rs st sq v g e f m =
      subst (λ x. Handed s n x (Going v) g qs sq) e (subst (λ y. Handed s n ps y g qs sq) f m)

  pub fresh_leads : (stage : Stage) (g : Got) (c : Compound) (ps qs : List Piece) (st sq : State) (new : Stage) (next : Next) → stage ≡ Fresh c → Accepts stage g → StandsFor stage ps st → Handed s n ps st g qs sq → ((v : Variables) → Leads s n (begun c) (Going v) new next) → Leads s n qs sq new next
  fresh_leads stage g c ps qs st sq new next e a h m l =
      let k : FreshAt c ps st = at_stage e h in
      let begins : Accepts (Fresh c) g = subst (λ x. Accepts x g) e a in
      let i = handed_start m (accepts_start c g begins) in
      from_place (begun c) qs (Going k.0) sq new next (i.0 ∙ k.1) (i.1 ∙ k.2) (l k.0)

  pub ready_leads : (stage : Stage) (g : Got) (turn : Turn) (ps qs : List Piece) (st sq : State) (new : Stage) (next : Next) → stage ≡ Ready turn → Accepts stage g → StandsFor stage ps st → Handed s n ps st g qs sq → ((v : Variables) → IsTurn turn → Leads s n (Making turn.call ∷ behind turn) (Going v) new next) → Leads s n qs sq new next
  ready_leads stage g turn ps qs st sq new next e a h m l =
      let k : AskedAt turn ps st = at_stage e h in
      let begins : Accepts (Ready turn) g = subst (λ x. Accepts x g) e a in
      let i = handed_start m (ready_start turn g begins) in
      from_place (Making turn.call ∷ behind turn) qs (Going k.0) sq new next (i.0 ∙ k.2) (i.1 ∙ k.3) (l k.0 k.1)

  pub asked_leads : (stage : Stage) (g : Got) (turn : Turn) (a : Answer) (ps qs : List Piece) (st sq : State) (new : Stage) (next : Next) → stage ≡ Asked turn → g ≡ Answered a → StandsFor stage ps st → Handed s n ps st g qs sq → ((v : Variables) → IsTurn turn → Leads s n (follows turn.call a ++ behind turn) (answered turn.call a v) new next) → Leads s n qs sq new next
  asked_leads stage g turn a ps qs st sq new next e f h m l =
      let k : AskedAt turn ps st = at_stage e h in
      let i = handed_answer turn.call a (at_head ps qs (Making turn.call ∷ behind turn) st sq k.0 g k.2 k.3 m) f refl in
      from_place (follows turn.call a ++ behind turn) qs (answered turn.call a k.0) sq new next i.0 i.1 (l k.0 k.1)

  pub running_leads : (stage : Stage) (g : Got) (turn : Turn) (after : Then) (x : Option ℕ) (value : ℕ) (ps qs : List Piece) (st sq : State) (new : Stage) (next : Next) → stage ≡ RunningStage turn after x → g ≡ Returned value → StandsFor stage ps st → Handed s n ps st g qs sq → ((run : Run) (p : Parameters) (rs : List Piece) (w : Variables) → IsTurn turn → Below (then_piece turn.call after ∷ behind turn) x rs → Leads s n (Leaving run ∷ Restore p ∷ rs) (Returning w value) new next) → Leads s n qs sq new next
  running_leads stage g turn after x value ps qs st sq new next e f h m l =
      let k : RunningAt turn after x ps st = at_stage e h in
      let i = handed_result value (at_head ps qs (Running k.1 ∷ k.2) st sq k.0 g k.5 k.6 m) f in
      from_place (Leaving k.1 ∷ Restore k.0.parameters ∷ k.2) qs (Returning i.0 value) sq new next i.1 i.2 (l k.1 k.0.parameters k.2 i.0 k.3 k.4)

  pub leaving_leads : (stage : Stage) (g : Got) (turn : Turn) (after : Then) (x value : ℕ) (a : Answer) (ps qs : List Piece) (st sq : State) (new : Stage) (next : Next) → stage ≡ LeavingStage turn after x value → g ≡ Answered a → StandsFor stage ps st → Handed s n ps st g qs sq → ((rs : List Piece) (v : Variables) → IsTurn turn → Hands x (then_piece turn.call after ∷ behind turn) rs → Leads s n (follows (Leave value) a ++ rs) (answered (Leave value) a v) new next) → Leads s n qs sq new next
  leaving_leads stage g turn after x value a ps qs st sq new next e f h m l =
      let k : LeavingAt turn after x value ps st = at_stage e h in
      let i = handed_answer (Leave value) a (at_head ps qs (k.1 ∷ k.2) st sq k.0 g k.6 k.7 m) f (leave_asks s n value k.1 k.0 k.4) in
      from_place (follows (Leave value) a ++ k.2) qs (answered (Leave value) a k.0) sq new next i.0 i.1 (l k.2 k.0 k.3 k.5)

-- A trace comes to one thing, and what a state accepts can be handed in.
use Rattle.std.proofs.Common.{◌≡◌, ℕ, List, Option, Some, None, refl, sym, ap, ◌∙◌, subst}
use Rattle.std.specs.Prelude.{unwrap_or}
use Rattle.user_model.specs.declared.call.Call.{Call}
use Rattle.user_model.specs.declared.call.Call.TheVariants.{SetFocus as SetFocusCall}
use Rattle.script_tree.specs.Tree.{Tree}
use Rattle.script_tree.specs.Pieces.{Piece, State, Going}
use Rattle.script_tree.specs.declared.variables.Variables.{Variables}
use Rattle.win_calls.specs.declared.compound.Compound.TheVariants.{SetFocus}
use Rattle.win_calls.specs.declared.compound.Next.{Next}
use Rattle.win_calls.specs.declared.compound.Next.TheVariants.{Make, Done as DoneOf}
use Rattle.win_calls.specs.declared.compound.Got.{Got}
use Rattle.win_calls.specs.declared.compound.Got.TheVariants.{Start, Answered, Returned}
use Rattle.win_calls.specs.declared.stage.Stage.{Stage as InnerStage}
use Rattle.win_calls.specs.Table.{begun, made, Handed as HandedIn, Comes as ComesTo, calls as calls_so}
use Rattle.win_calls.specs.States.{StandsFor, Accepts as AcceptsIn}
use Rattle.dialog_keys.specs.declared.key.DialogKey.{DialogKey}
use Rattle.dialog_keys.specs.declared.key.Errand.TheVariants.{Moves, Commands, Nothing}
use Rattle.dialog_keys.specs.declared.stage.Stage.{Stage}
use Rattle.dialog_keys.specs.Traces.{Point, stating, command_call, Handed, started, was_child, was_style, went_on, IsOn, Comes, begins, commands, passes, asks_child, asks_style, focuses, stays, stops, asks, ends}
use Rattle.dialog_keys.specs.States.{Accepts, StandsAt, is_fresh, is_walking, is_looking, is_focusing, is_sending, is_over}

module _ (s : Tree) (n : ℕ) (one : (ps qs rs : List Piece) (st sq sr : State) (x y : Next) → ComesTo s n ps st x qs sq → ComesTo s n ps st y rs sr → x ≡ y) where
  -- a statement that is over is at work no more
  not_over : (next : Next) (r err : ℕ) → next ≡ DoneOf r err → IsOn next → ⊥
  not_over next r err e h = let P : Next → Type 0 = λ x. IsOn x in subst P e h

  -- the first that a statement asks for is the call that it begins with
  first_of : {gives : Option ℕ} {x : Next} {q : Point} (call : Call) (ps : List Piece) (v : Variables) → ComesTo s n ps (Going v) (Make call) ps (Going v) → Comes s n (stating gives ps (Going v)) x q → x ≡ Make call
  first_of call ps v c (asks gives {qs = qs} {sq = sq} next on m) = one ps qs ps (Going v) sq (Going v) next (Make call) m c
  first_of call ps v c (ends gives {qs = qs} {sq = sq} r err m) = let e : DoneOf r err ≡ Make call = one ps qs ps (Going v) sq (Going v) (DoneOf r err) (Make call) m c in absurd cc

  first_of_send : {x : Next} {q : Point} (k : DialogKey) (id : ℕ) (v : Variables) → Comes s n (stating None (made (command_call k id)) (Going v)) x q → x ≡ Make (command_call k id)
  first_of_send k id v m = first_of (command_call k id) (made (command_call k id)) v (calls_so (command_call k id) refl) m

  first_of_focus : {x : Next} {q : Point} (w : ℕ) (v : Variables) → Comes s n (stating (Some w) (begun (SetFocus w)) (Going v)) x q → x ≡ Make (SetFocusCall w)
  first_of_focus w v m = first_of (SetFocusCall w) (begun (SetFocus w)) v (calls_so (SetFocusCall w) refl) m

  done_same : (gives : Option ℕ) (r err r' err' : ℕ) → DoneOf r err ≡ DoneOf r' err' → DoneOf (unwrap_or gives r) err ≡ DoneOf (unwrap_or gives r') err'
  done_same gives r err r' err' e = let f : r ≡ r' = cc in let g : err ≡ err' = cc in ap (λ x. DoneOf (unwrap_or gives x) err) f ∙ ap (DoneOf (unwrap_or gives r')) g

  pub one_comes : {p q r : Point} {x y : Next} → Comes s n p x q → Comes s n p y r → x ≡ y
  one_comes (begins k f e) (begins k' f' e') = refl
  one_comes (begins k f e) (commands k' id v e' m) = let both : Moves f ≡ Commands id = sym e ∙ e' in absurd cc
  one_comes (begins k f e) (passes k' e') = let both : Moves f ≡ Nothing = sym e ∙ e' in absurd cc
  one_comes (commands k id v e m) (begins k' f e') = let both : Commands id ≡ Moves f = sym e ∙ e' in absurd cc
  one_comes (commands k id v e m) (commands k' id' v' e' m') = let both : Commands id ≡ Commands id' = sym e ∙ e' in let same : id ≡ id' = cc in first_of_send k id v m ∙ ap (λ i. Make (command_call k i)) same ∙ sym (first_of_send k id' v' m')
  one_comes (commands k id v e m) (passes k' e') = let both : Commands id ≡ Nothing = sym e ∙ e' in absurd cc
  one_comes (passes k e) (begins k' f e') = let both : Nothing ≡ Moves f = sym e ∙ e' in absurd cc
  one_comes (passes k e) (commands k' id v e' m) = let both : Nothing ≡ Commands id = sym e ∙ e' in absurd cc
  one_comes (passes k e) (passes k' e') = refl
  one_comes (asks_child k f ws v) (asks_child k' f' ws' v') = refl
  one_comes (asks_style k f ws w) (asks_style k' f' ws' w') = refl
  one_comes (focuses k f ws w v h m) (focuses k' f' ws' w' v' h' m') = let both : Some w ≡ Some w' = sym h ∙ h' in let same : w ≡ w' = cc in first_of_focus w v m ∙ ap (λ x. Make (SetFocusCall x)) same ∙ sym (first_of_focus w' v' m')
  one_comes (focuses k f ws w v h m) (stays k' f' ws' h') = let both : Some w ≡ None = sym h ∙ h' in absurd cc
  one_comes (stays k f ws h) (focuses k' f' ws' w v h' m) = let both : Some w ≡ None = sym h' ∙ h in absurd cc
  one_comes (stays k f ws h) (stays k' f' ws' h') = refl
  one_comes (stops err) (stops err') = refl
  one_comes (asks g {ps = ps} {qs = qs} {st = st} {sq = sq} next on m) (asks g' {qs = rs} {sq = sr} next' on' m') = one ps qs rs st sq sr next next' m m'
  one_comes (asks g {ps = ps} {qs = qs} {st = st} {sq = sq} next on m) (ends g' {qs = rs} {sq = sr} r err m') = absurd (not_over next r err (one ps qs rs st sq sr next (DoneOf r err) m m') on)
  one_comes (ends g {ps = ps} {qs = qs} {st = st} {sq = sq} r err m) (asks g' {qs = rs} {sq = sr} next on m') = absurd (not_over next r err (sym (one ps qs rs st sq sr (DoneOf r err) next m m')) on)
  one_comes (ends g {ps = ps} {qs = qs} {st = st} {sq = sq} r err m) (ends g' {qs = rs} {sq = sr} r' err' m') = done_same g r err r' err' (one ps qs rs st sq sr (DoneOf r err) (DoneOf r' err') m m')

module _ (s : Tree) (n : ℕ) (can : (stage : InnerStage) (ps : List Piece) (st : State) (g : Got) → StandsFor stage ps st → AcceptsIn stage g → (qs : List Piece) × (sq : State) × HandedIn s n ps st g qs sq) where
  pub handed_at : (stage : Stage) (p : Point) (g : Got) → StandsAt stage p → Accepts stage g → (q : Point) × Handed s n p g q
  handed_at stage p Start (is_fresh k) h = (_, started k)
  handed_at stage p (Answered a) (is_fresh k) h = absurd h
  handed_at stage p (Returned x) (is_fresh k) h = absurd h
  handed_at stage p Start (is_walking walk k f ws v u) h = absurd h
  handed_at stage p (Answered a) (is_walking walk k f ws v u) h = (_, was_child k f ws v a)
  handed_at stage p (Returned x) (is_walking walk k f ws v u) h = absurd h
  handed_at stage p Start (is_looking walk k f ws w u) h = absurd h
  handed_at stage p (Answered a) (is_looking walk k f ws w u) h = (_, was_style k f ws w a)
  handed_at stage p (Returned x) (is_looking walk k f ws w u) h = absurd h
  handed_at stage p g (is_focusing w focus {ps = ps} {st = st} k) h = let x = can focus.stage ps st g k h in (_, went_on (Some w) x.2)
  handed_at stage p g (is_sending send {ps = ps} {st = st} k) h = let x = can send.stage ps st g k h in (_, went_on None x.2)
  handed_at stage p g is_over h = absurd h

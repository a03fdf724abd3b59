-- A trace comes to one thing, and what a state accepts can be handed in.
use Rattle.std.proofs.Common.{◌≡◌, ℕ, List, Option, Some, None, refl, sym, ap, ◌∙◌, subst}
use Rattle.user_model.specs.declared.call.Call.{Call}
use Rattle.script_tree.specs.Tree.{Tree}
use Rattle.script_tree.specs.Pieces.{Piece, State, Going}
use Rattle.script_tree.specs.declared.variables.Variables.{Variables}
use Rattle.win_calls.specs.declared.compound.Next.{Next}
use Rattle.win_calls.specs.declared.compound.Next.TheVariants.{Make, Done as DoneOf}
use Rattle.win_calls.specs.declared.compound.Got.{Got}
use Rattle.win_calls.specs.declared.compound.Got.TheVariants.{Start, Answered, Returned}
use Rattle.win_calls.specs.declared.stage.Stage.{Stage as SendStage}
use Rattle.win_calls.specs.Table.{made, Handed as HandedIn, Comes as ComesTo, calls as calls_so}
use Rattle.win_calls.specs.States.{StandsFor, Accepts as AcceptsIn}
use Rattle.clip_board.specs.declared.entry.ClipAnswer.{ClipAnswer}
use Rattle.clip_board.specs.declared.moves.ClipNext.{ClipNext}
use Rattle.clip_board.specs.declared.moves.ClipNext.TheVariants.{Clip, User}
use Rattle.clip_board.specs.declared.moves.ClipGot.{ClipGot}
use Rattle.clip_board.specs.declared.moves.ClipGot.TheVariants.{Clip as ClipAnswered, User as UserGot}
use Rattle.clip_board.specs.declared.errand.Errand.{Errand}
use Rattle.clip_board.specs.declared.errand.Errand.TheVariants.{Getting, Emptying}
use Rattle.clip_board.specs.declared.errand.Stage.{Stage}
use Rattle.clip_board.specs.Traces.{Point, sending, Handed, started, answered, went_on, answered_again, IsOn, Comes, calls, sends, ends_at_once, asks, gets_again, emptied, ends, Accepts, StandsAt, is_fresh, is_first, is_sending, is_again, is_over}

module _ (s : Tree) (n : ℕ) (one : (ps qs rs : List Piece) (st sq sr : State) (x y : Next) → ComesTo s n ps st x qs sq → ComesTo s n ps st y rs sr → x ≡ y) where
  -- a send that is over is at work no more
  not_over : (next : Next) (r err : ℕ) → next ≡ DoneOf r err → IsOn next → ⊥
  not_over next r err e h = let P : Next → Type 0 = λ x. IsOn x in subst P e h

  made_next : (call : Call) (v : Variables) (next : Next) (qs : List Piece) (sq : State) → ComesTo s n (made call) (Going v) next qs sq → next ≡ Make call
  made_next call v next qs sq m = one (made call) qs (made call) (Going v) sq (Going v) next (Make call) m (calls_so call refl)

  -- the first that a send asks for is its call
  first_of_send : {e : Errand} {x : ClipNext} {q : Point} (call : Call) (v : Variables) → Comes s n (sending e (made call) (Going v)) x q → x ≡ User (Make call)
  first_of_send call v (asks e {qs = qs} {sq = sq} next on m) = ap User (made_next call v next qs sq m)
  first_of_send call v (gets_again f {qs = qs} {sq = sq} r err m) = let e : DoneOf r err ≡ Make call = made_next call v (DoneOf r err) qs sq m in absurd cc
  first_of_send call v (emptied {qs = qs} {sq = sq} r err m) = let e : DoneOf r err ≡ Make call = made_next call v (DoneOf r err) qs sq m in absurd cc

  pub one_comes : {p q r : Point} {x y : ClipNext} → Comes s n p x q → Comes s n p y r → x ≡ y
  one_comes (calls e) (calls e') = refl
  one_comes (sends e a call v h m) (sends e' a' call' v' h' m') = let same : Some call ≡ Some call' = sym h ∙ h' in let one_call : call ≡ call' = cc in first_of_send call v m ∙ ap (λ c. User (Make c)) one_call ∙ sym (first_of_send call' v' m')
  one_comes (sends e a call v h m) (ends_at_once e' a' h') = let both : Some call ≡ None = sym h ∙ h' in absurd cc
  one_comes (ends_at_once e a h) (sends e' a' call v h' m') = let both : Some call ≡ None = sym h' ∙ h in absurd cc
  one_comes (ends_at_once e a h) (ends_at_once e' a' h') = refl
  one_comes (asks e {ps = ps} {qs = qs} {st = st} {sq = sq} next on m) (asks e' {qs = rs} {sq = sr} next' on' m') = ap User (one ps qs rs st sq sr next next' m m')
  one_comes (asks e {ps = ps} {qs = qs} {st = st} {sq = sq} next on m) (gets_again f {qs = rs} {sq = sr} r err m') = absurd (not_over next r err (one ps qs rs st sq sr next (DoneOf r err) m m') on)
  one_comes (asks e {ps = ps} {qs = qs} {st = st} {sq = sq} next on m) (emptied {qs = rs} {sq = sr} r err m') = absurd (not_over next r err (one ps qs rs st sq sr next (DoneOf r err) m m') on)
  one_comes (gets_again f {ps = ps} {qs = qs} {st = st} {sq = sq} r err m) (asks e' {qs = rs} {sq = sr} next on m') = absurd (not_over next r err (sym (one ps qs rs st sq sr (DoneOf r err) next m m')) on)
  one_comes (gets_again f r err m) (gets_again f' r' err' m') = refl
  one_comes (emptied {ps = ps} {qs = qs} {st = st} {sq = sq} r err m) (asks e' {qs = rs} {sq = sr} next on m') = absurd (not_over next r err (sym (one ps qs rs st sq sr (DoneOf r err) next m m')) on)
  one_comes (emptied r err m) (emptied r' err' m') = refl
  one_comes (ends e a) (ends e' a') = refl

module _ (s : Tree) (n : ℕ) (can : (stage : SendStage) (ps : List Piece) (st : State) (g : Got) → StandsFor stage ps st → AcceptsIn stage g → (qs : List Piece) × (sq : State) × HandedIn s n ps st g qs sq) where
  pub handed_at : (stage : Stage) (p : Point) (g : ClipGot) → StandsAt stage p → Accepts stage g → (q : Point) × Handed s n p g q
  handed_at stage p (UserGot Start) (is_fresh e) h = (_, started e)
  handed_at stage p (UserGot (Answered a)) (is_fresh e) h = absurd h
  handed_at stage p (UserGot (Returned x)) (is_fresh e) h = absurd h
  handed_at stage p (ClipAnswered a) (is_fresh e) h = absurd h
  handed_at stage p (ClipAnswered a) (is_first e) h = (_, answered e a)
  handed_at stage p (UserGot g) (is_first e) h = absurd h
  handed_at stage p (UserGot g) (is_sending e send {ps = ps} {st = st} k) h = let x = can send.stage ps st g k h in (_, went_on e x.2)
  handed_at stage p (ClipAnswered a) (is_sending e send k) h = absurd h
  handed_at stage p (ClipAnswered a) (is_again f) h = (_, answered_again f a)
  handed_at stage p (UserGot g) (is_again f) h = absurd h
  handed_at stage p g is_over h = absurd h

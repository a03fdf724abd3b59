-- The table comes to one thing from each place.
use Rattle.std.proofs.Common.{◌≡◌, ℕ, List, ◌++◌, refl, sym, ap, subst}
use Rattle.std.specs.Prelude.{IfSome}
use Rattle.user_model.specs.declared.call.Call.TheVariants.{Leave}
use Rattle.script_tree.specs.declared.statement.Statement.TheVariants.{Compound as CompoundOf}
use Rattle.script_tree.specs.declared.statement.CompoundStatement.{CompoundStatement}
use Rattle.script_tree.specs.declared.statement.CompoundStatement.TheVariants.{PostAll, NotifyAll, Pump, Dialog}
use Rattle.script_tree.specs.declared.statement.CallStatement.{CallStatement}
use Rattle.script_tree.specs.declared.statement.CallStatement.TheVariants.{Yield}
use Rattle.script_tree.specs.declared.variables.Variables.{Variables}
use Rattle.script_tree.specs.Values.{call_of}
use Rattle.script_tree.specs.Tree.{Tree}
use Rattle.script_tree.specs.Pieces.{Piece, Making, Leaves, State, Going, Becomes, Asks}
use Rattle.script_tree.specs.Steps.{step, statement}
use Rattle.win_calls.specs.declared.compound.Got.{Got}
use Rattle.win_calls.specs.declared.compound.Got.TheVariants.{Start, Answered, Returned}
use Rattle.win_calls.specs.declared.compound.Next.{Next}
use Rattle.win_calls.specs.declared.compound.Next.TheVariants.{Make}
use Rattle.win_calls.specs.declared.stage.Stage.{Stage}
use Rattle.win_calls.specs.Table.{begun, compound_of, Comes, silent, calls, runs, over, Handed, started, was_answered, was_returned}
use Rattle.win_calls.specs.States.{StandsAlone, StandsFor, is_fresh, is_ready, is_asked, is_running, is_leaving, is_over, Accepts, IsLeave}

-- a compound statement becomes the pieces of the compound with the values of its operands
pub begins_so : (c : CompoundStatement) (v : Variables) (n : ℕ) → IfSome (compound_of c v) (λ d. statement (CompoundOf c) v n ≡ Becomes (begun d) (Going v))
begins_so (PostAll m p q) v n = refl
begins_so (NotifyAll m p q) v n = refl
begins_so Pump v n = tt
begins_so (Dialog w) v n = tt
begins_so c v n = refl

-- the call of a statement is neither a `leave` nor the end of a thread
pub stands_alone : (ask : CallStatement) (v : Variables) → StandsAlone (call_of ask v)
stands_alone Yield v = record { stays = refl; goes_on = refl }
stands_alone ask v = record { stays = refl; goes_on = refl }

module _ (s : Tree) (n : ℕ) where
  -- the same from other pieces and another state that are equal
  moved : {next : Next} {qs : List Piece} {sq : State} (left : List Piece) (ps ps' : List Piece) (st st' : State) → ps ≡ ps' → st ≡ st' → Comes s n (ps' ++ left) st' next qs sq → Comes s n (ps ++ left) st next qs sq
  moved {next} {qs} {sq} left ps ps' st st' f g m =
      subst (λ x. Comes s n (x ++ left) st next qs sq) (sym f) (subst (λ y. Comes s n (ps' ++ left) y next qs sq) (sym g) m)

  pub one_place : {ps : List Piece} {st : State} {x y : Next} {qs rs : List Piece} {sq sr : State} → Comes s n ps st x qs sq → Comes s n ps st y rs sr → (x ≡ y) × (qs ≡ rs) × (sq ≡ sr)
  one_place (silent {left = left} ps st' r h m) (silent ps' st'' r' h' m') = one_place m (moved left ps ps' st' st'' (cc) (cc) m')
  one_place (silent ps st' r h m) (calls call h') = absurd cc
  one_place (silent ps st' r h m) (runs run) = absurd r
  one_place (calls call h) (silent ps' st' r' h' m') = absurd cc
  one_place (calls call h) (calls call' h') = let e : call ≡ call' = cc in (ap Make e, refl, refl)
  one_place (calls call h) (runs run) = absurd cc
  one_place (runs run) (silent ps' st' r' h' m') = absurd r'
  one_place (runs run) (calls call h') = absurd cc
  one_place (runs run) (runs run') = (refl, refl, refl)
  one_place over over = (refl, refl, refl)

  -- a piece that leaves makes the `leave`
  pub leave_asks : (value : ℕ) (p : Piece) (v : Variables) → IsLeave value p → step s p (Going v) n ≡ Asks (Leave value)
  leave_asks value (Leaves frame x) v h = ap (λ y. Asks (Leave y)) h
  leave_asks value (Making call) v h = ap Asks h
  leave_asks value p v h = absurd h

  pub handed : (stage : Stage) (ps : List Piece) (st : State) (g : Got) → StandsFor stage ps st → Accepts stage g → (qs : List Piece) × (sq : State) × Handed s n ps st g qs sq
  handed stage ps st Start h a = (ps, st, started)
  handed stage ps st (Answered a) (is_asked turn v t) k = (_, _, was_answered turn.call a refl)
  handed stage ps st (Answered a) (is_leaving turn next x value p v t l h) k = (_, _, was_answered (Leave value) a (leave_asks value p v l))
  handed stage ps st (Answered a) (is_fresh c v) k = absurd k
  handed stage ps st (Answered a) (is_ready turn v t) k = absurd k
  handed stage ps st (Answered a) (is_running turn next first run v t b) k = absurd k
  handed stage ps st (Answered a) (is_over v) k = absurd k
  handed stage ps st (Returned x) (is_running turn next first run v t b) k = (_, _, was_returned run v x)
  handed stage ps st (Returned x) (is_fresh c v) k = absurd k
  handed stage ps st (Returned x) (is_ready turn v t) k = absurd k
  handed stage ps st (Returned x) (is_asked turn v t) k = absurd k
  handed stage ps st (Returned x) (is_leaving turn next y value p v t l h) k = absurd k
  handed stage ps st (Returned x) (is_over v) k = absurd k

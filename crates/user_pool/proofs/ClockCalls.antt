-- No program makes a call of the clock.
use Rattle.std.proofs.Common.{◌≡◌, ℕ, Bool, true, false, List, [], ◌∷◌, ◌++◌, refl, subst}
use Rattle.std.specs.Prelude.{◌==◌, if◌then◌else◌}
use Rattle.user_model.specs.declared.call.Call.{Call}
use Rattle.user_model.specs.declared.call.Call.TheVariants.{Doom, Await, Tick, Advance}
use Rattle.user_model.specs.declared.entry.Answer.{Answer}
use Rattle.user_model.specs.declared.entry.Answer.TheVariants.{Wait, Enter, Callback, Begun, Refused}
use Rattle.script_tree.specs.declared.statement.CallStatement.{CallStatement}
use Rattle.script_tree.specs.declared.statement.Statement.{Statement}
use Rattle.script_tree.specs.declared.statement.Statement.TheVariants.{Let, Compute, If', IfElse', While', Return, Call as CallOf, Sleep, Create, Destroy, Compound as CompoundOf, Default as DefaultOf}
use Rattle.script_tree.specs.declared.frame.Place.{Place}
use Rattle.script_tree.specs.declared.frame.Lead.{Lead}
use Rattle.script_tree.specs.declared.frame.Lead.TheVariants.{Calls, Runs, Ends}
use Rattle.script_tree.specs.declared.variables.Variables.{Variables}
use Rattle.user_model.specs.Stacks.{leaves, waits}
use Rattle.script_tree.specs.Tree.{Tree}
use Rattle.script_tree.specs.Values.{holds, call_of}
use Rattle.script_tree.specs.Compounds.{compound_begin, default_result, compound_after}
use Rattle.script_tree.specs.Pieces.{Piece, Lines, One, PassEnd, Making, Again, Giving, Settle, Sleeping, Running, Leaving, Leaves, Left, Feed, State, Going, Returning, Given, Step, Becomes, Asks, Trace, End, Cut}
use Rattle.script_tree.specs.Steps.{step, statement, begins, returns_to, takes, goes_on, sleeps, is_callback, is_last, following, follows}
use Rattle.script_tree.specs.Traces.{Makes, over, silent, entry, cut, IsTrace}
use Rattle.script_tree.proofs.Defaults.{default_either}
use Rattle.script_tree.proofs.PlainCalls.{IsPlain, LeadIsPlain, plain_statement, plain_begin, plain_default, plain_compound}

-- a call of the clock
abbrev pub is_of_clock : Call → Bool
is_of_clock (Tick ms) = true
is_of_clock Advance = true
is_of_clock call = false

-- pieces that make no call of the clock
abbrev Free : List Piece → Type 0
Free [] = Unit {0}
Free (Making call ∷ ps) = (is_of_clock call ≡ false) × Free ps
Free (Again call ∷ ps) = (is_of_clock call ≡ false) × Free ps
Free (p ∷ ps) = Free ps

-- a step to such pieces, or to such a call
abbrev FreeStep : List Piece → Step → Type 0
FreeStep left (Becomes ps st) = Free (ps ++ left)
FreeStep left (Asks call) = (is_of_clock call ≡ false) × Free left

abbrev FreeLead : Lead → Type 0
FreeLead (Calls call q) = is_of_clock call ≡ false
FreeLead (Runs b q) = is_of_clock b.call ≡ false
FreeLead (Ends a) = Unit {0}

-- ---- compounds and statements

-- a plain call is none
plain_free : (call : Call) → IsPlain call → is_of_clock call ≡ false
plain_free (Tick ms) h = absurd h
plain_free Advance h = absurd h
plain_free call h = refl

plain_lead : (next : Lead) → LeadIsPlain next → FreeLead next
plain_lead (Calls call q) h = plain_free call h
plain_lead (Runs b q) h = plain_free b.call h
plain_lead (Ends a) h = tt

free_compound : (q : Place) (a : Answer) (x : ℕ) → FreeLead (compound_after q a x)
free_compound q a x = plain_lead (compound_after q a x) (plain_compound q a x)

free_call : (ask : CallStatement) (v : Variables) → is_of_clock (call_of ask v) ≡ false
free_call ask v = plain_free (call_of ask v) (plain_statement ask v)

-- ---- steps

module _ (s : Tree) (n : ℕ) (left : List Piece) (h : Free left) where
  either : (b : Bool) (x y : Step) → FreeStep left x → FreeStep left y → FreeStep left (if b then x else y)
  either true x y f g = f
  either false x y f g = g

  free_statement : (line : Statement) (v : Variables) → FreeStep left (statement line v n)
  free_statement (If' t k a) v = either (holds t v) _ _ h h
  free_statement (While' t k a) v = either (holds t v) _ _ h h
  free_statement (CallOf ask) v = (free_call ask v, h)
  free_statement DefaultOf v = default_either (λ qs. FreeStep left (Becomes qs (Going v))) v.parameters (Settle (Doom v.parameters.hwnd) ∷ []) (λ b e. (plain_free b.call (plain_default v.parameters b e), h)) (λ e. h)
  free_statement (Let x e) v = h
  free_statement (Compute x e op f) v = h
  free_statement (IfElse' t k a j b) v = h
  free_statement (Return e) v = h
  free_statement (Sleep e) v = (refl, h)
  free_statement (Create c) v = (refl, h)
  free_statement (Destroy e) v = (refl, h)
  free_statement (CompoundOf c) v = (plain_free (compound_begin c v).call (plain_begin c v), h)

  free_lead : (v : Variables) (next : Lead) → FreeLead next → FreeStep left (goes_on v next)
  free_lead v (Calls call q) f = (f, h)
  free_lead v (Runs b q) f = (f, h)
  free_lead v (Ends a) f = h

  free_sleep : (ms : ℕ) (v : Variables) (a : Answer) (x : ℕ) → FreeStep left (sleeps ms v a x)
  free_sleep ms v (Refused code) x = h
  free_sleep ms v a x = (refl, h)

  free_begins : (p : Piece) (v : Variables) → Free (p ∷ left) → FreeStep left (begins s p v n)
  free_begins (Lines []) v k = h
  free_begins (Lines (line ∷ lines)) v k = h
  free_begins (One line) v k = free_statement line v
  free_begins (PassEnd loop began) v k = either (n == began) _ _ (refl, h) h
  free_begins (Making call) v k = k
  free_begins (Running run) v k = h
  free_begins (Leaving run) v k = either (is_callback run.frame) _ _ h (default_either (λ qs. FreeStep left (Becomes qs (Going v))) run.parameters (Left (default_result run.parameters) ∷ Leaving run ∷ []) (λ b e. (plain_free b.call (plain_default run.parameters b e), h)) (λ e. h))
  free_begins (Leaves frame x) v k = (refl, h)
  free_begins p v k = h

  free_returns : (p : Piece) (v : Variables) (x : ℕ) → Free (p ∷ left) → FreeStep left (returns_to p v x)
  free_returns (Making call) v x k = k
  free_returns (Again call) v x k = k
  free_returns p v x k = h

  free_takes : (p : Piece) (v : Variables) (a : Answer) (x : ℕ) → FreeStep left (takes p v a x)
  free_takes (Sleeping ms) v a x = free_sleep ms _ a x
  free_takes (Feed q) v a x = free_lead v (compound_after q a x) (free_compound q a x)
  free_takes p v a x = h

  free_step : (p : Piece) (st : State) → Free (p ∷ left) → FreeStep left (step s p st n)
  free_step p (Going v) k = free_begins p v k
  free_step p (Returning v x) k = free_returns p v x k
  free_step p (Given v a x) k = free_takes p v a x

-- what follows a call that isn't one of the clock's
free_again : (b : Bool) (call : Call) (a : Answer) (left : List Piece) → is_of_clock call ≡ false → Free left → Free ((if b then Giving a else Again call) ∷ left)
free_again true call a left f h = h
free_again false call a left f h = (f, h)

free_begun : (b : Bool) (call : Call) (left : List Piece) → is_of_clock call ≡ false → Free left → Free ((if b then Making call ∷ [] else []) ++ left)
free_begun true call left f h = (f, h)
free_begun false call left f h = h

free_following : (call : Call) (a : Answer) (left : List Piece) → is_of_clock call ≡ false → Free left → Free (following call a ++ left)
free_following call (Enter i j w m p q) left f h = (f, h)
free_following call (Callback i j w m p q) left f h = free_again (leaves call) call (Callback i j w m p q) left f h
free_following call (Begun i) left f h = free_begun (waits call) (Await i.0) left refl h
free_following call a left f h = h

free_unless : (b : Bool) (ps left : List Piece) → Free left → Free (ps ++ left) → Free ((if b then [] else ps) ++ left)
free_unless true ps left h k = h
free_unless false ps left h k = k

free_follows : (call : Call) (a : Answer) (left : List Piece) → is_of_clock call ≡ false → Free left → Free (follows call a ++ left)
free_follows call Wait left f h = (f, h)
free_follows call a left f h = free_unless (is_last call) (following call a) left h (free_following call a left f h)

behind : (p : Piece) (left : List Piece) → Free (p ∷ left) → Free left
behind (Making call) left h = h.1
behind (Again call) left h = h.1
behind p left h = h

module _ (s : Tree) where
  -- pieces that make no call of the clock come to none
  comes_to : {ps : List Piece} {st : State} {n : ℕ} {tr : Trace} {e : End} → Makes s ps st n tr e → Free ps → (call : Call) → e ≡ Cut call → is_of_clock call ≡ false
  comes_to over h call f = absurd cc
  comes_to (silent {p = p} {left = left} {st = st} {n = n} ps st' g m) h call f =
      comes_to m (subst (FreeStep left) g (free_step s n left (behind p left h) p st h)) call f
  comes_to (entry {p = p} {left = left} {st = st} {n = n} c a g m) h call f =
      let k : (is_of_clock c ≡ false) × Free left = subst (FreeStep left) g (free_step s n left (behind p left h) p st h) in
      comes_to m (free_follows c a left k.0 k.1) call f
  comes_to (cut {p = p} {left = left} {st = st} {n = n} c g) h call f =
      let k : (is_of_clock c ≡ false) × Free left = subst (FreeStep left) g (free_step s n left (behind p left h) p st h) in
      let same : c ≡ call = cc in
      subst (λ x. is_of_clock x ≡ false) same k.0

  -- so a thread makes none
  pub none_of_clock : (t : ℕ) (tr : Trace) (call : Call) → IsTrace s t tr (Cut call) → is_of_clock call ≡ false
  none_of_clock t tr call m = comes_to m (refl, tt) call refl

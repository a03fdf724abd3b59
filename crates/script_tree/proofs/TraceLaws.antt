-- Laws of traces: one end, one next call, and how two traces of one program differ.
use Rattle.std.proofs.Common.{◌≡◌, ℕ, zero, suc, List, [], ◌∷◌, ◌++◌, refl, sym, ap, ◌∙◌, subst, ◌<◌, arith}
use Rattle.user_model.specs.declared.call.Call.{Call}
use Rattle.user_model.specs.declared.entry.Answer.{Answer}
use Rattle.script_tree.specs.Tree.{Tree}
use Rattle.script_tree.specs.Pieces.{Piece, State, Step, Becomes, Asks, Trace, End, Whole, Cut}
use Rattle.script_tree.specs.Steps.{step, follows, answered, variables_of}
use Rattle.script_tree.specs.Weights.{steps_left}
use Rattle.script_tree.proofs.Falls.{falls}
use Rattle.script_tree.specs.Traces.{Makes, over, silent, entry, cut, Agree}

head_of : {x y : Call × Answer} {xs ys : Trace} → x ∷ xs ≡ y ∷ ys → x ≡ y
head_of e = cc

tail_of : {x y : Call × Answer} {xs ys : Trace} → x ∷ xs ≡ y ∷ ys → xs ≡ ys
tail_of e = cc

module _ (s : Tree) where
  -- the same trace from other pieces and another state that are equal
  moved : {n : ℕ} {tr : Trace} {e : End} (left : List Piece) (ps qs : List Piece) (st st' : State) → ps ≡ qs → st ≡ st' → Makes s (qs ++ left) st' n tr e → Makes s (ps ++ left) st n tr e
  moved {n} {tr} {e} left ps qs st st' f g m =
      subst (λ x. Makes s (x ++ left) st n tr e) (sym f) (subst (λ y. Makes s (qs ++ left) y n tr e) (sym g) m)

  -- a trace from one place ends in one way
  pub one_end : {ps : List Piece} {st : State} {n : ℕ} {tr : Trace} {e e' : End} → Makes s ps st n tr e → Makes s ps st n tr e' → e ≡ e'
  one_end over over = refl
  one_end (silent {left = left} ps st' h m) (silent ps' st'' h' m') = one_end m (moved left ps ps' st' st'' (cc) (cc) m')
  one_end (silent ps st' h m) (entry call a h' m') = cc
  one_end (silent ps st' h m) (cut call h') = cc
  one_end (entry call a h m) (silent ps st' h' m') = cc
  one_end (entry call a h m) (entry call' a' h' m') = one_end m m'
  one_end (cut call h) (silent ps st' h' m') = cc
  one_end (cut call h) (cut call' h') = cc

  -- two traces from one place agree
  pub agree : {ps : List Piece} {st : State} {n : ℕ} {tr tr' : Trace} {e e' : End} → Makes s ps st n tr e → Makes s ps st n tr' e' → Agree tr tr'
  agree over m' = tt
  agree (silent {left = left} ps st' h m) (silent ps' st'' h' m') = agree m (moved left ps ps' st' st'' (cc) (cc) m')
  agree (silent ps st' h m) (entry call a h' m') = absurd cc
  agree (silent ps st' h m) (cut call h') = absurd cc
  agree (entry call a h m) (silent ps st' h' m') = absurd cc
  agree (entry {left = left} {st = st} {n = n} {tr = tr} call a h m) (entry {tr = tr'} {e = e'} call' a' h' m') =
      let f : call ≡ call' = cc in
      (f, λ g. agree m (let P : Call → Answer → Type 0 = λ x y. Makes s (follows x y ++ left) (answered x y (variables_of st)) (suc n) tr' e' in subst (λ x. P x a) (sym f) (subst (λ y. P call' y) (sym g) m')))
  agree (entry call a h m) (cut call' h') = tt
  agree (cut call h) m' = tt

  ends_after : (p : Piece) (left : List Piece) (st : State) (n : ℕ) (x : Step) → step s p st n ≡ x → ((qs : List Piece) (st' : State) → step s p st n ≡ Becomes qs st' → (e : End) × Makes s (qs ++ left) st' n [] e) → (e : End) × Makes s (p ∷ left) st n [] e
  ends_after p left st n (Becomes qs st') f go = let r = go qs st' f in (r.0, silent qs st' f r.1)
  ends_after p left st n (Asks call) f go = (Cut call, cut call f)

  -- from each place there is a next call, or nothing is left
  ends : (k : ℕ) (ps : List Piece) (st : State) (n : ℕ) → steps_left s n ps st < k → (e : End) × Makes s ps st n [] e
  ends zero ps st n h = absurd (omega arith)
  ends (suc k) [] st n h = (Whole, over)
  ends (suc k) (p ∷ left) st n h =
      ends_after p left st n (step s p st n) refl (λ qs st' f. ends k (qs ++ left) st' n (omega (arith, falls s n left p st qs st' f)))

  pub some_end : (ps : List Piece) (st : State) (n : ℕ) → (e : End) × Makes s ps st n [] e
  some_end ps st n = ends (suc (steps_left s n ps st)) ps st n (omega arith)

  -- a trace that is cut goes on with any answer, and then it has one end again
  pub goes_on : {ps : List Piece} {st : State} {n : ℕ} {tr : Trace} {e : End} (call : Call) (a : Answer) → Makes s ps st n tr e → e ≡ Cut call → (e' : End) × Makes s ps st n (tr ++ (call, a) ∷ []) e'
  goes_on call a over f = absurd cc
  goes_on call a (silent ps st' h m) f = let r = goes_on call a m f in (r.0, silent ps st' h r.1)
  goes_on call a (entry c b h m) f = let r = goes_on call a m f in (r.0, entry c b h r.1)
  goes_on call a (cut {p = p} {left = left} {st = st} {n = n} c h) f =
      let g : c ≡ call = cc in
      let r = some_end (follows call a ++ left) (answered call a (variables_of st)) (suc n) in
      (r.0, entry call a (h ∙ ap Asks g) r.1)

  -- what a trace has before one of its calls is a trace that is cut before that call
  pub front : (front_part : Trace) {ps : List Piece} {st : State} {n : ℕ} {tr : Trace} {e : End} (call : Call) (a : Answer) (more : Trace) → Makes s ps st n tr e → tr ≡ front_part ++ (call, a) ∷ more → Makes s ps st n front_part (Cut call)
  front [] call a more over f = absurd cc
  front [] call a more (silent ps st' h m) f = silent ps st' h (front [] call a more m f)
  front [] call a more (entry c b h m) f = let g : c ≡ call = ap (λ x. x.0) (head_of f) in cut call (h ∙ ap Asks g)
  front [] call a more (cut c h) f = absurd cc
  front (x ∷ xs) call a more over f = absurd cc
  front (x ∷ xs) call a more (silent ps st' h m) f = silent ps st' h (front (x ∷ xs) call a more m f)
  front (x ∷ xs) {ps} {st} {n} call a more (entry {p = p} {left = left} c b h m) f =
      subst (λ y. Makes s (p ∷ left) st n (y ∷ xs) (Cut call)) (head_of f) (entry c b h (front xs call a more m (tail_of f)))
  front (x ∷ xs) call a more (cut c h) f = absurd cc

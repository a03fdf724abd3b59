-- A thread's program ends with `end_thread`, and makes that call nowhere else.
use Rattle.std.proofs.Common.{◌≡◌, ◌≢◌, ℕ, Bool, true, false, List, [], ◌∷◌, ◌++◌, refl, sym, ap, ◌∙◌, subst, append_assoc}
use Rattle.std.proofs.lemmas.List.Elements.{All-nil, All-cons}
use Rattle.std.specs.Prelude.{All, ◌==◌, if◌then◌else◌}
use Rattle.user_model.specs.declared.call.Call.{Call}
use Rattle.user_model.specs.declared.call.Call.TheVariants.{EndThread, Doom, Leave, Send, SendTimeout}
use Rattle.user_model.specs.declared.entry.Answer.{Answer}
use Rattle.user_model.specs.declared.entry.Answer.TheVariants.{Wait, Enter, Callback, Begun, Refused}
use Rattle.script_tree.specs.declared.statement.Statement.{Statement}
use Rattle.script_tree.specs.declared.statement.Statement.TheVariants.{Let, Compute, If', IfElse', While', Return, Call as CallOf, Sleep, Create, Destroy, Compound as CompoundOf, Default as DefaultOf}
use Rattle.script_tree.specs.declared.frame.Lead.{Lead}
use Rattle.script_tree.specs.declared.frame.Lead.TheVariants.{Calls, Runs, Ends as EndsSo}
use Rattle.script_tree.specs.declared.variables.Parameters.{Parameters}
use Rattle.script_tree.specs.declared.variables.Variables.{Variables}
use Rattle.script_tree.specs.Tree.{Tree, body_of}
use Rattle.script_tree.specs.Values.{holds}
use Rattle.script_tree.specs.Compounds.{default_result, compound_after}
use Rattle.script_tree.specs.Pieces.{Piece, Lines, One, PassEnd, Making, Again, Giving, Settle, Quiet, Sleeping, Running, Leaving, Leaves, Left, Restore, Feed, State, Going, Returning, Given, Step, Becomes, Asks, Trace, End, Whole, Cut}
use Rattle.script_tree.specs.Steps.{step, statement, begins, returns_to, takes, goes_on, sleeps, is_callback, default_pieces, follows, answered, variables_of}
use Rattle.script_tree.specs.Stacks.{Kind, Goes, Returns, Gives, kind_of}
use Rattle.script_tree.specs.Traces.{Makes, over, silent, entry, cut, IsTrace, GoesOn, EndsAfter}
use Rattle.script_tree.proofs.Defaults.{default_either}
use Rattle.script_tree.proofs.PlainCalls.{LeadIsPlain, plain_begin, plain_default, plain_compound, plain_statement, plain_goes_on}

-- pieces that make no `end_thread`, where each gets what it can begin with
abbrev Fit : List Piece → Kind → Type 0
Fit [] Gives = ⊥
Fit [] k = Unit {0}
Fit (Lines lines ∷ ps) Goes = Fit ps Goes × Fit ps Returns
Fit (Lines lines ∷ ps) Returns = Fit ps Returns
Fit (One line ∷ ps) Goes = Fit ps Goes × Fit ps Returns
Fit (One line ∷ ps) Returns = Fit ps Returns
Fit (PassEnd loop began ∷ ps) Goes = Fit ps Goes × Fit ps Returns
Fit (PassEnd loop began ∷ ps) Returns = Fit ps Returns
Fit (Making call ∷ ps) Goes = (call ≢ EndThread) × Fit ps Gives
Fit (Again call ∷ ps) Returns = (call ≢ EndThread) × Fit ps Gives
Fit (Giving a ∷ ps) Goes = Fit ps Gives
Fit (Giving a ∷ ps) Returns = Fit ps Gives
Fit (Settle call ∷ ps) Gives = Fit ps Goes
Fit (Quiet ∷ ps) Gives = Fit ps Goes
Fit (Sleeping ms ∷ ps) Gives = Fit ps Goes
Fit (Running run ∷ ps) Goes = Fit ps Returns
Fit (Leaving run ∷ ps) Goes = Fit ps Returns
Fit (Leaving run ∷ ps) Returns = Fit ps Returns
Fit (Leaves frame x ∷ ps) Goes = Fit ps Gives
Fit (Left x ∷ ps) Gives = Fit ps Returns
Fit (Restore p ∷ ps) Returns = Fit ps Returns
Fit (Feed q ∷ ps) Gives = Fit ps Gives
Fit (p ∷ ps) k = ⊥

-- a step to pieces that fit, or a call that fits
abbrev FitStep : List Piece → Step → Type 0
FitStep left (Becomes ps st) = Fit (ps ++ left) (kind_of st)
FitStep left (Asks call) = (call ≢ EndThread) × Fit left Gives

either : (left : List Piece) (b : Bool) (x y : Step) → FitStep left x → FitStep left y → FitStep left (if b then x else y)
either left true x y f g = f
either left false x y f g = g

default_fits : (left : List Piece) (p : Parameters) (ps : List Piece) (v : Variables) → Fit (ps ++ left) Gives → FitStep left (Becomes (default_pieces p ps) (Going v))
default_fits left p ps v h = default_either (λ qs. FitStep left (Becomes qs (Going v))) p ps (λ b e. (plain_goes_on b.call (plain_default p b e), h)) (λ e. h)

statement_fits : (left : List Piece) (line : Statement) (v : Variables) (n : ℕ) → Fit left Goes × Fit left Returns → FitStep left (statement line v n)
statement_fits left (Let x e) v n h = h.0
statement_fits left (Compute x e op f) v n h = h.0
statement_fits left (If' t k a) v n h = either left (holds t v) _ _ h h.0
statement_fits left (IfElse' t k a j b) v n h = h
statement_fits left (While' t k body) v n h = either left (holds t v) _ _ (h, h.1) h.0
statement_fits left (Return e) v n h = h.1
statement_fits left (CallOf ask) v n h = (plain_goes_on _ (plain_statement ask v), h.0)
statement_fits left (Sleep e) v n h = ((λ e. absurd cc), h.0)
statement_fits left (Create c) v n h = ((λ e. absurd cc), h.0)
statement_fits left (Destroy e) v n h = ((λ e. absurd cc), h.0)
statement_fits left (CompoundOf c) v n h = (plain_goes_on _ (plain_begin c v), h.0)
statement_fits left DefaultOf v n h = default_fits left v.parameters (Settle (Doom v.parameters.hwnd) ∷ []) v h.0

compound_fits : (left : List Piece) (v : Variables) (next : Lead) → LeadIsPlain next → Fit left Gives → FitStep left (goes_on v next)
compound_fits left v (Calls call q) p h = (plain_goes_on call p, h)
compound_fits left v (Runs b q) p h = (plain_goes_on b.call p, h)
compound_fits left v (EndsSo a) p h = h

sleep_fits : (left : List Piece) (ms : ℕ) (v : Variables) (a : Answer) (x : ℕ) → Fit left Goes → FitStep left (sleeps ms v a x)
sleep_fits left ms v (Refused code) x h = h
sleep_fits left ms v _ x h = ((λ e. absurd cc), h)

module _ (s : Tree) where
  begins_fits : (left : List Piece) (p : Piece) (v : Variables) (n : ℕ) → Fit (p ∷ left) Goes → FitStep left (begins s p v n)
  begins_fits left (Lines []) v n h = h.0
  begins_fits left (Lines (line ∷ lines)) v n h = (h, h.1)
  begins_fits left (One line) v n h = statement_fits left line v n h
  begins_fits left (PassEnd loop began) v n h = either left (n == began) _ _ ((λ e. absurd cc), h) h
  begins_fits left (Making call) v n h = h
  begins_fits left (Running run) v n h = (h, h)
  begins_fits left (Leaving run) v n h = either left (is_callback run.frame) _ _ h (default_fits left run.parameters (Left (default_result run.parameters) ∷ Leaving run ∷ []) v h)
  begins_fits left (Leaves frame x) v n h = ((λ e. absurd cc), h)
  begins_fits left (Giving a) v n h = h
  begins_fits left p v n h = absurd h

  returns_fits : (left : List Piece) (p : Piece) (v : Variables) (x : ℕ) → Fit (p ∷ left) Returns → FitStep left (returns_to p v x)
  returns_fits left (Lines lines) v x h = h
  returns_fits left (One line) v x h = h
  returns_fits left (PassEnd loop began) v x h = h
  returns_fits left (Again call) v x h = h
  returns_fits left (Giving a) v x h = h
  returns_fits left (Leaving run) v x h = h
  returns_fits left (Restore p) v x h = h
  returns_fits left p v x h = absurd h

  takes_fits : (left : List Piece) (p : Piece) (v : Variables) (a : Answer) (x : ℕ) → Fit (p ∷ left) Gives → FitStep left (takes p v a x)
  takes_fits left (Settle call) v a x h = h
  takes_fits left Quiet v a x h = h
  takes_fits left (Sleeping ms) v a x h = sleep_fits left ms _ a x h
  takes_fits left (Left y) v a x h = h
  takes_fits left (Feed q) v a x h = compound_fits left v (compound_after q a x) (plain_compound q a x) h
  takes_fits left p v a x h = absurd h

  step_fits : (left : List Piece) (p : Piece) (st : State) (n : ℕ) → Fit (p ∷ left) (kind_of st) → FitStep left (step s p st n)
  step_fits left p (Going v) n h = begins_fits left p v n h
  step_fits left p (Returning v x) n h = returns_fits left p v x h
  step_fits left p (Given v a x) n h = takes_fits left p v a x h

  -- at the end of the body the program asks for `end_thread`
  last_asks : (st : State) (n : ℕ) → Fit [] (kind_of st) → step s (Making EndThread) st n ≡ Asks EndThread
  last_asks (Going v) n h = refl
  last_asks (Returning v x) n h = refl
  last_asks (Given v a x) n h = absurd h

  -- what follows the answer to a call of the body fits
  follow_fits : (left : List Piece) (call : Call) (a : Answer) (v : Variables) → (call ≢ EndThread) × Fit left Gives → Fit (follows call a ++ left) (kind_of (answered call a v))
  follow_fits left EndThread a v h = absurd (h.0 refl)
  follow_fits left call Wait v h = h
  follow_fits left call (Enter t proc_no w number p q) v h = h
  follow_fits left (Leave x) (Callback t proc_no w number p q) v h = h.1
  follow_fits left call (Callback t proc_no w number p q) v h = h
  follow_fits left (Send w m p q) (Begun t) v h = ((λ e. absurd cc), h.1)
  follow_fits left (SendTimeout w m p q flags ms) (Begun t) v h = ((λ e. absurd cc), h.1)
  follow_fits left call a v h = h.1

  -- how a trace of the program ends
  abbrev Ends : Trace → End → Type 0
  Ends tr Whole = (before : Trace) × EndsAfter before tr × All GoesOn before
  Ends tr (Cut call) = All GoesOn tr

  ends_more : (x : Call × Answer) (tr : Trace) (e : End) → GoesOn x → Ends tr e → Ends (x ∷ tr) e
  ends_more x tr Whole g h = (x ∷ h.0, (h.1.0, ap (λ xs. x ∷ xs) h.1.1, h.1.2), All-cons GoesOn x h.0 g h.2)
  ends_more x tr (Cut call) g h = All-cons GoesOn x tr g h

  nothing_left : {st : State} {n : ℕ} {tr : Trace} {e : End} (a : Answer) → a ≢ Wait → Makes s [] st n tr e → Ends ((EndThread, a) ∷ tr) e
  nothing_left a ne over = ([], (a, refl, ne), All-nil GoesOn)

  -- the answer to `end_thread`
  last_entry : {n : ℕ} {tr : Trace} {e : End} (a : Answer) (v : Variables) → Makes s (follows EndThread a ++ []) (answered EndThread a v) n tr e → ((qs : List Piece) → Fit qs (kind_of (answered EndThread a v)) → follows EndThread a ++ [] ≡ qs ++ Making EndThread ∷ [] → Ends tr e) → Ends ((EndThread, a) ∷ tr) e
  last_entry {n} {tr} {e} Wait v m go = ends_more (EndThread, Wait) tr e (λ _. refl) (go [] tt refl)
  last_entry a v m go = nothing_left a (λ e. absurd cc) m

  last_of_all : {n : ℕ} {tr : Trace} {e : End} (left : List Piece) (call : Call) (a : Answer) (v : Variables) → call ≡ EndThread → left ≡ [] → Makes s (follows call a ++ left) (answered call a v) n tr e → ((qs : List Piece) → Fit qs (kind_of (answered call a v)) → follows call a ++ left ≡ qs ++ Making EndThread ∷ [] → Ends tr e) → Ends ((call, a) ∷ tr) e
  last_of_all {n} {tr} {e} left call a v f g =
      let P : Call → List Piece → Type 0 = λ c l. Makes s (follows c a ++ l) (answered c a v) n tr e → ((qs : List Piece) → Fit qs (kind_of (answered c a v)) → follows c a ++ l ≡ qs ++ Making EndThread ∷ [] → Ends tr e) → Ends ((c, a) ∷ tr) e in
      subst (λ c. P c left) (sym f) (subst (λ l. P EndThread l) (sym g) (last_entry a v))

  -- a trace of pieces that fit, and then of the end of the thread
  pub ends : {all : List Piece} {st : State} {n : ℕ} {tr : Trace} {e : End} (ps : List Piece) → Fit ps (kind_of st) → Makes s all st n tr e → all ≡ ps ++ Making EndThread ∷ [] → Ends tr e
  ends [] h over f = absurd cc
  ends {st = st} {n = n} [] h (silent {p = p} qs st' g m) f =
      let same : p ≡ Making EndThread = cc in
      let asks : step s p st n ≡ Asks EndThread = ap (λ x. step s x st n) same ∙ last_asks st n h in
      absurd cc
  ends {st = st} {n = n} [] h (entry {p = p} {left = left} call a g m) f =
      let same : p ≡ Making EndThread = cc in
      let none : left ≡ [] = cc in
      let asks : step s p st n ≡ Asks EndThread = ap (λ x. step s x st n) same ∙ last_asks st n h in
      let c : call ≡ EndThread = cc in
      last_of_all left call a (variables_of st) c none m (λ qs k e. ends qs k m e)
  ends [] h (cut call g) f = All-nil GoesOn
  ends (q ∷ ps) h over f = absurd cc
  ends {st = st} {n = n} (q ∷ ps) h (silent {p = p} {left = left} qs st' g m) f =
      let same : q ≡ p = cc in
      let rest : left ≡ ps ++ Making EndThread ∷ [] = cc in
      let k : Fit (qs ++ ps) (kind_of st') = subst (FitStep ps) (ap (λ x. step s x st n) same ∙ g) (step_fits ps q st n h) in
      ends (qs ++ ps) k m (ap (λ x. qs ++ x) rest ∙ sym (append_assoc qs ps (Making EndThread ∷ [])))
  ends {st = st} {n = n} {e = e} (q ∷ ps) h (entry {p = p} {left = left} {tr = tr} call a g m) f =
      let same : q ≡ p = cc in
      let rest : left ≡ ps ++ Making EndThread ∷ [] = cc in
      let k : (call ≢ EndThread) × Fit ps Gives = subst (FitStep ps) (ap (λ x. step s x st n) same ∙ g) (step_fits ps q st n h) in
      ends_more (call, a) tr e (λ c. absurd (k.0 c)) (ends (follows call a ++ ps) (follow_fits ps call a (variables_of st) k) m (ap (λ x. follows call a ++ x) rest ∙ sym (append_assoc (follows call a) ps (Making EndThread ∷ []))))
  ends (q ∷ ps) h (cut call g) f = All-nil GoesOn

  -- a whole trace ends with the end of the thread, which stands nowhere before
  pub whole_ends : (t : ℕ) (tr : Trace) → IsTrace s t tr Whole → (before : Trace) × EndsAfter before tr × All GoesOn before
  whole_ends t tr m = ends (Lines (body_of s t) ∷ []) (tt, tt) m refl

  -- a cut trace has no end of the thread
  pub cut_goes_on : (t : ℕ) (tr : Trace) (call : Call) → IsTrace s t tr (Cut call) → All GoesOn tr
  cut_goes_on t tr call m = ends (Lines (body_of s t) ∷ []) (tt, tt) m refl

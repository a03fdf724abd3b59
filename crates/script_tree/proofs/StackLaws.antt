-- The frames among the pieces that are left are the stack of the thread.
use Rattle.std.proofs.Common.{◌≡◌, ℕ, Bool, true, false, List, [], ◌∷◌, ◌++◌, refl, sym, ◌∙◌, subst}
use Rattle.std.specs.Prelude.{◌==◌, not, ◌||◌, if◌then◌else◌}
use Rattle.win_num.specs.declared.message.Hwnd.{Hwnd}
use Rattle.win_num.specs.declared.send.SendId.{SendId}
use Rattle.win_num.specs.declared.send.Cause.{Cause}
use Rattle.win_num.specs.declared.send.Frame.{Frame}
use Rattle.user_model.specs.declared.call.Call.{Call}
use Rattle.user_model.specs.declared.call.Call.TheVariants.{Peek, Get, Dispatch, Send, SendTimeout, SendNotify, SendCallback, Await, Leave, Doom, EndThread}
use Rattle.user_model.specs.declared.entry.Answer.{Answer}
use Rattle.user_model.specs.declared.entry.Answer.TheVariants.{Wait, Called, Inside, Begun, Left as LeftOf, Enter, Callback, Done, Ended, Refused}
use Rattle.user_model.specs.Stacks.{leaves, stacked}
use Rattle.script_tree.specs.declared.statement.Statement.{Statement}
use Rattle.script_tree.specs.declared.statement.Statement.TheVariants.{Let, Compute, If', IfElse', While', Return, Call as CallOf, Sleep, Create, Destroy, Compound as CompoundOf, Default as DefaultOf}
use Rattle.script_tree.specs.declared.frame.Lead.{Lead}
use Rattle.script_tree.specs.declared.frame.Lead.TheVariants.{Calls, Runs, Ends}
use Rattle.script_tree.specs.declared.variables.Variables.{Variables}
use Rattle.script_tree.specs.Tree.{Tree}
use Rattle.script_tree.specs.Values.{holds, call_of}
use Rattle.script_tree.specs.Compounds.{compound_begin, default_result, compound_after}
use Rattle.script_tree.specs.Pieces.{Piece, Lines, One, PassEnd, Making, Again, Giving, Settle, Quiet, Sleeping, Running, Leaving, Leaves, Left, Restore, Feed, State, Going, Returning, Given, Step, Becomes, Asks, Trace, End, Cut}
use Rattle.script_tree.specs.Steps.{step, statement, begins, returns_to, takes, goes_on, sleeps, is_callback, is_last, follows, given, answered, variables_of}
use Rattle.script_tree.specs.Traces.{Makes, IsTrace, over, silent, entry, cut}
use Rattle.script_tree.specs.Stacks.{stack_after, awaited, frames_in, is_listed, serves, sends, dispatches, awaits, AreListed, Goes, Returns, Gives, kind_of, AwaitsNone, MakingSuits, Suits, Fits}
use Rattle.script_tree.proofs.Defaults.{default_either}
use Rattle.script_tree.proofs.PlainCalls.{IsPlain, LeadIsPlain, plain_begin, plain_default, plain_compound, plain_statement}

plain_suits : (call : Call) (frames : List Frame) (next : Type 0) → IsPlain call → AwaitsNone frames × next → MakingSuits call Goes frames next
plain_suits (Await s) frames next p h = absurd p
plain_suits (Leave x) frames next p h = absurd p
plain_suits EndThread frames next p h = absurd p
plain_suits call frames next p h = h

plain_frames : (call : Call) (frames : List Frame) → IsPlain call → awaited call frames ≡ frames
plain_frames (Await s) frames p = absurd p
plain_frames call frames p = refl

-- a step that keeps the frames
abbrev Kept : List Piece → List Frame → Step → Type 0
Kept left frames (Becomes ps st) = Suits (ps ++ left) (kind_of st) × (frames_in (ps ++ left) ≡ frames)
Kept left frames (Asks call) = Unit {0}

module _ (s : Tree) (n : ℕ) (left : List Piece) where
  either : (frames : List Frame) (b : Bool) (x y : Step) → Kept left frames x → Kept left frames y → Kept left frames (if b then x else y)
  either frames true x y f g = f
  either frames false x y f g = g

  statement_kept : (line : Statement) (v : Variables) → AwaitsNone (frames_in left) × Suits left Goes × Suits left Returns → Kept left (frames_in left) (statement line v n)
  statement_kept (Let x e) v h = (h.1, refl)
  statement_kept (Compute x e op f) v h = (h.1, refl)
  statement_kept (If' t k a) v h = either _ (holds t v) _ _ (h, refl) (h.1, refl)
  statement_kept (IfElse' t k a j b) v h = (h, refl)
  statement_kept (While' t k body) v h = either _ (holds t v) _ _ ((h.0, h, h.2), refl) (h.1, refl)
  statement_kept (Return e) v h = (h.2, refl)
  statement_kept (CallOf ask) v h = (plain_suits (call_of ask v) _ _ (plain_statement ask v) (h.0, h.1), plain_frames (call_of ask v) _ (plain_statement ask v))
  statement_kept (Sleep e) v h = ((h.0, (h.0, h.1)), refl)
  statement_kept (Create c) v h = ((h.0, (h.0, h.1)), refl)
  statement_kept (Destroy e) v h = ((h.0, (h.0, h.1)), refl)
  statement_kept (CompoundOf c) v h = (plain_suits (compound_begin c v).call _ _ (plain_begin c v) (h.0, (h.0, h.1)), plain_frames (compound_begin c v).call _ (plain_begin c v))
  statement_kept DefaultOf v h = default_either (λ qs. Kept left (frames_in left) (Becomes qs (Going v))) v.parameters (Settle (Doom v.parameters.hwnd) ∷ []) (λ b e. (plain_suits b.call _ _ (plain_default v.parameters b e) (h.0, (h.0, (h.0, h.1))), plain_frames b.call _ (plain_default v.parameters b e))) (λ e. (h.1, refl))

  compound_kept : (v : Variables) (next : Lead) → LeadIsPlain next → AwaitsNone (frames_in left) × Suits left Gives → Kept left (frames_in left) (goes_on v next)
  compound_kept v (Calls call q) p h = (plain_suits call _ _ p (h.0, h), plain_frames call _ p)
  compound_kept v (Runs b q) p h = (plain_suits b.call _ _ p (h.0, (h.0, h)), plain_frames b.call _ p)
  compound_kept v (Ends a) p h = (h.1, refl)

  sleep_kept : (ms : ℕ) (v : Variables) (a : Answer) (x : ℕ) → AwaitsNone (frames_in left) × Suits left Goes → Kept left (frames_in left) (sleeps ms v a x)
  sleep_kept ms v (Refused code) x h = (h.1, refl)
  sleep_kept ms v _ x h = (h, refl)

  begins_kept : (p : Piece) (v : Variables) → Suits (p ∷ left) Goes → Kept left (frames_in (p ∷ left)) (begins s p v n)
  begins_kept (Lines []) v h = (h.1, refl)
  begins_kept (Lines (line ∷ lines)) v h = ((h.0, h, h.2), refl)
  begins_kept (One line) v h = statement_kept line v h
  begins_kept (PassEnd loop began) v h = either _ (n == began) _ _ ((h.0, h), refl) (h, refl)
  begins_kept (Making call) v h = tt
  begins_kept (Running run) v h = ((h.0, h, h), refl)
  begins_kept (Leaving run) v h = either _ (is_callback run.frame) _ _ (h, refl) (default_either (λ qs. Kept left (run.frame ∷ frames_in left) (Becomes qs (Going v))) run.parameters (Left (default_result run.parameters) ∷ Leaving run ∷ []) (λ b e. (plain_suits b.call _ _ (plain_default run.parameters b e) (h.0, (h.0, (h.0, h))), plain_frames b.call _ (plain_default run.parameters b e))) (λ e. (h, refl)))
  begins_kept (Leaves frame x) v h = tt
  begins_kept (Giving a) v h = (h, refl)
  begins_kept p v h = absurd h

  again_makes : (call : Call) (v : Variables) → Suits (Again call ∷ left) Returns → Kept left (frames_in (Again call ∷ left)) (Becomes (Making call ∷ []) (Going v))
  again_makes (Leave x) v h = absurd h
  again_makes EndThread v h = absurd h
  again_makes call v h = (h, refl)

  returns_kept : (p : Piece) (v : Variables) (x : ℕ) → Suits (p ∷ left) Returns → Kept left (frames_in (p ∷ left)) (returns_to p v x)
  returns_kept (Lines lines) v x h = (h, refl)
  returns_kept (One line) v x h = (h, refl)
  returns_kept (PassEnd loop began) v x h = (h, refl)
  returns_kept (Making call) v x h = tt
  returns_kept (Again call) v x h = again_makes call v h
  returns_kept (Giving a) v x h = (h, refl)
  returns_kept (Leaving run) v x h = (h, refl)
  returns_kept (Restore p) v x h = (h, refl)
  returns_kept p v x h = absurd h

  takes_kept : (p : Piece) (v : Variables) (a : Answer) (x : ℕ) → Suits (p ∷ left) Gives → Kept left (frames_in (p ∷ left)) (takes p v a x)
  takes_kept (Settle call) v a x h = (h, refl)
  takes_kept Quiet v a x h = (h, refl)
  takes_kept (Sleeping ms) v a x h = sleep_kept ms _ a x h
  takes_kept (Left y) v a x h = (h, refl)
  takes_kept (Feed q) v a x h = compound_kept v (compound_after q a x) (plain_compound q a x) h
  takes_kept (Making call) v a x h = absurd h
  takes_kept p v a x h = absurd h

  step_kept : (p : Piece) (st : State) → Suits (p ∷ left) (kind_of st) → Kept left (frames_in (p ∷ left)) (step s p st n)
  step_kept p (Going v) h = begins_kept p v h
  step_kept p (Returning v x) h = returns_kept p v x h
  step_kept p (Given v a x) h = takes_kept p v a x h

-- what a step that makes a call does to the frames
abbrev Answers : Call → List Frame → State → List Piece → Type 0
Answers call frames st left = Fits call frames × ((a : Answer) → is_listed call a ≡ true → Suits (follows call a ++ left) (kind_of (answered call a (variables_of st))) × (frames_in (follows call a ++ left) ≡ stacked call a frames))

abbrev Asked : List Frame → State → List Piece → Step → Type 0
Asked frames st left (Becomes ps st') = Unit {0}
Asked frames st left (Asks call) = Answers call frames st left

-- the pieces behind a call that was to be made and its answer suit, and their frames are the stack behind it
abbrev Entry : Call → Answer → Variables → List Piece → Type 0
Entry call a v left = Suits (follows call a ++ left) (kind_of (answered call a v)) × (frames_in (follows call a ++ left) ≡ stacked call a (awaited call (frames_in left)))

module _ (s : Tree) (n : ℕ) (left : List Piece) where
  -- a call of no frame and no wait
  plain_call : (call : Call) → not (leaves call || awaits call) ≡ true → Suits (Making call ∷ left) Goes → Suits left Gives × (awaited call (frames_in left) ≡ frames_in left)
  plain_call (Leave x) e h = absurd h
  plain_call (Await t) e h = absurd cc
  plain_call call e h = (h.1, refl)

  last_is_plain : (call : Call) → is_last call ≡ true → not (leaves call || awaits call) ≡ true
  last_is_plain EndThread e = refl
  last_is_plain call e = absurd cc

  -- nothing follows, whether or not the call is the last one
  nothing_follows : (b : Bool) (a : Answer) (v : Variables) → Suits left Gives → Suits ((if b then [] else []) ++ left) (kind_of (if b then given v a else given v a)) × (frames_in ((if b then [] else []) ++ left) ≡ frames_in left)
  nothing_follows true a v h = (h, refl)
  nothing_follows false a v h = (h, refl)

  plain_entry : (call : Call) (a : Answer) (v : Variables) → not (leaves call || awaits call) ≡ true → Suits (Making call ∷ left) Goes → Suits ((if is_last call then [] else []) ++ left) (kind_of (if is_last call then given v a else given v a)) × (frames_in ((if is_last call then [] else []) ++ left) ≡ awaited call (frames_in left))
  plain_entry call a v e h =
      let p = plain_call call e h in
      let r = nothing_follows (is_last call) a v p.0 in
      (r.0, r.1 ∙ sym p.1)

  enter_entry : (call : Call) (i : SendId) (j : ℕ) (w : Hwnd) (m p q : ℕ) (v : Variables) → serves call ≡ true → Suits (Making call ∷ left) Goes → Entry call (Enter i j w m p q) v left
  enter_entry (Await t) i j w m p q v e h = ((tt, h), refl)
  enter_entry (Peek w' min max flags) i j w m p q v e h = ((tt, h), refl)
  enter_entry (Get w' min max) i j w m p q v e h = ((tt, h), refl)
  enter_entry call i j w m p q v e h = absurd cc

  callback_entry : (call : Call) (i : SendId) (j : ℕ) (w : Hwnd) (m p q : ℕ) (v : Variables) → (serves call || leaves call) ≡ true → Suits (Making call ∷ left) Goes → Entry call (Callback i j w m p q) v left
  callback_entry (Leave x) i j w m p q v e h = absurd h
  callback_entry (Await t) i j w m p q v e h = ((tt, h), refl)
  callback_entry (Peek w' min max flags) i j w m p q v e h = ((tt, h), refl)
  callback_entry (Get w' min max) i j w m p q v e h = ((tt, h), refl)
  callback_entry call i j w m p q v e h = absurd cc

  called_entry : (call : Call) (i : ℕ) (v : Variables) → dispatches call ≡ true → Suits (Making call ∷ left) Goes → Entry call (Called i) v left
  called_entry (Dispatch w m p q) i v e h = ((tt, h.1), refl)
  called_entry call i v e h = absurd cc

  inside_entry : (call : Call) (i : SendId) (j : ℕ) (v : Variables) → sends call ≡ true → Suits (Making call ∷ left) Goes → Entry call (Inside i j) v left
  inside_entry (Send w m p q) i j v e h = ((tt, h.1), refl)
  inside_entry (SendTimeout w m p q f ms) i j v e h = ((tt, h.1), refl)
  inside_entry (SendNotify w m p q) i j v e h = ((tt, h.1), refl)
  inside_entry (SendCallback w m p q r x) i j v e h = ((tt, h.1), refl)
  inside_entry call i j v e h = absurd cc

  begun_entry : (call : Call) (i : SendId) (v : Variables) → sends call ≡ true → Suits (Making call ∷ left) Goes → Entry call (Begun i) v left
  begun_entry (Send w m p q) i v e h = (h.1, refl)
  begun_entry (SendTimeout w m p q f ms) i v e h = (h.1, refl)
  begun_entry (SendNotify w m p q) i v e h = (h.1, refl)
  begun_entry (SendCallback w m p q r x) i v e h = (h.1, refl)
  begun_entry call i v e h = absurd cc

  done_entry : (call : Call) (x : ℕ) (y : Cause) (v : Variables) → awaits call ≡ true → Suits (Making call ∷ left) Goes → Entry call (Done x y) v left
  done_entry (Await t) x y v e h = (h, refl)
  done_entry call x y v e h = absurd cc

  leave_is_made_by_its_frame : (call : Call) → leaves call ≡ true → Suits (Making call ∷ left) Goes → ⊥
  leave_is_made_by_its_frame (Leave x) e h = h
  leave_is_made_by_its_frame call e h = cc

  making_entry : (call : Call) (a : Answer) (v : Variables) → is_listed call a ≡ true → Suits (Making call ∷ left) Goes → Entry call a v left
  making_entry call Wait v e h = (h, refl)
  making_entry call (Enter i j w m p q) v e h = enter_entry call i j w m p q v e h
  making_entry call (Callback i j w m p q) v e h = callback_entry call i j w m p q v e h
  making_entry call (Called i) v e h = called_entry call i v e h
  making_entry call (Inside i j) v e h = inside_entry call i j v e h
  making_entry call (Begun i) v e h = begun_entry call i v e h
  making_entry call (LeftOf i) v e h = absurd (leave_is_made_by_its_frame call e h)
  making_entry call (Done x y) v e h = done_entry call x y v e h
  making_entry call Ended v e h = plain_entry call Ended v (last_is_plain call e) h
  making_entry call a v e h = plain_entry call a v e h

  leaves_entry : (frame : Frame) (x : ℕ) (a : Answer) (v : Variables) → is_listed (Leave x) a ≡ true → Suits (Leaves frame x ∷ left) Goes → Suits (follows (Leave x) a ++ left) (kind_of (answered (Leave x) a v)) × (frames_in (follows (Leave x) a ++ left) ≡ stacked (Leave x) a (frames_in (Leaves frame x ∷ left)))
  leaves_entry frame x (LeftOf i) v e h = (h.1, refl)
  leaves_entry frame x (Callback i j w m p q) v e h = ((tt, h.1), refl)
  leaves_entry frame x a v e h = absurd cc

  making_fits : (call : Call) → Suits (Making call ∷ left) Goes → Fits call (frames_in (Making call ∷ left))
  making_fits (Leave x) h = absurd h
  making_fits (Await t) h = (frames_in left, refl)
  making_fits call h = h.0

  ending : (call : Call) (v : Variables) (x : ℕ) → Suits (Making call ∷ left) Returns → Answers call (frames_in (Making call ∷ left)) (Returning v x) left
  ending EndThread v x h = (h.0, λ a e. making_entry EndThread a v e h)
  ending call v x h = absurd h

  asked_either : (frames : List Frame) (st : State) (b : Bool) (x y : Step) → Asked frames st left x → Asked frames st left y → Asked frames st left (if b then x else y)
  asked_either frames st true x y f g = f
  asked_either frames st false x y f g = g

  statement_asked : (frames : List Frame) (line : Statement) (v : Variables) → Asked frames (Going v) left (statement line v n)
  statement_asked frames (If' t k a) v = asked_either frames (Going v) (holds t v) _ _ tt tt
  statement_asked frames (While' t k body) v = asked_either frames (Going v) (holds t v) _ _ tt tt
  statement_asked frames line v = tt

  begins_asked : (p : Piece) (v : Variables) → Suits (p ∷ left) Goes → Asked (frames_in (p ∷ left)) (Going v) left (begins s p v n)
  begins_asked (Lines []) v h = tt
  begins_asked (Lines (line ∷ lines)) v h = tt
  begins_asked (One line) v h = statement_asked _ line v
  begins_asked (PassEnd loop began) v h = asked_either (frames_in left) (Going v) (n == began) _ _ tt tt
  begins_asked (Making call) v h = (making_fits call h, λ a e. making_entry call a v e h)
  begins_asked (Leaving run) v h = asked_either (run.frame ∷ frames_in left) (Going v) (is_callback run.frame) _ _ tt tt
  begins_asked (Leaves frame x) v h = ((frame, frames_in left, refl, h.0), λ a e. leaves_entry frame x a v e h)
  begins_asked p v h = tt

  returns_asked : (p : Piece) (v : Variables) (x : ℕ) → Suits (p ∷ left) Returns → Asked (frames_in (p ∷ left)) (Returning v x) left (returns_to p v x)
  returns_asked (Making call) v x h = ending call v x h
  returns_asked p v x h = tt

  compound_asked : (frames : List Frame) (st : State) (v : Variables) (next : Lead) → Asked frames st left (goes_on v next)
  compound_asked frames st v (Calls call q) = tt
  compound_asked frames st v (Runs b q) = tt
  compound_asked frames st v (Ends a) = tt

  sleep_asked : (frames : List Frame) (st : State) (ms : ℕ) (v : Variables) (a : Answer) (x : ℕ) → Asked frames st left (sleeps ms v a x)
  sleep_asked frames st ms v (Refused code) x = tt
  sleep_asked frames st ms v a x = tt

  takes_asked : (p : Piece) (v : Variables) (a : Answer) (x : ℕ) → Asked (frames_in (p ∷ left)) (Given v a x) left (takes p v a x)
  takes_asked (Sleeping ms) v a x = sleep_asked _ (Given v a x) ms _ a x
  takes_asked (Feed q) v a x = compound_asked _ (Given v a x) v (compound_after q a x)
  takes_asked p v a x = tt

  step_asked : (p : Piece) (st : State) → Suits (p ∷ left) (kind_of st) → Asked (frames_in (p ∷ left)) st left (step s p st n)
  step_asked p (Going v) h = begins_asked p v h
  step_asked p (Returning v x) h = returns_asked p v x h
  step_asked p (Given v a x) h = takes_asked p v a x

module _ (s : Tree) where
  -- a call that ends a frame finds that frame on top of the stack, and one that waits for a send finds that send
  pub fits : {ps : List Piece} {st : State} {n : ℕ} {tr : Trace} {e : End} → Makes s ps st n tr e → Suits ps (kind_of st) → AreListed tr → (call : Call) → e ≡ Cut call → Fits call (stack_after (frames_in ps) tr)
  fits over h l call f = absurd cc
  fits (silent {p = p} {left = left} {st = st} {n = n} {tr = tr} ps st' g m) h l call f =
      let k : Kept left (frames_in (p ∷ left)) (Becomes ps st') = subst (λ x. Kept left (frames_in (p ∷ left)) x) g (step_kept s n left p st h) in
      subst (λ fs. Fits call (stack_after fs tr)) k.1 (fits m k.0 l call f)
  fits (entry {p = p} {left = left} {st = st} {n = n} {tr = tr} c a g m) h l call f =
      let k : Answers c (frames_in (p ∷ left)) st left = subst (λ x. Asked (frames_in (p ∷ left)) st left x) g (step_asked s n left p st h) in
      let r = k.1 a l.0 in
      subst (λ fs. Fits call (stack_after fs tr)) r.1 (fits m r.0 l.1 call f)
  fits (cut {p = p} {left = left} {st = st} {n = n} c g) h l call f =
      let k : Answers c (frames_in (p ∷ left)) st left = subst (λ x. Asked (frames_in (p ∷ left)) st left x) g (step_asked s n left p st h) in
      let same : c ≡ call = cc in
      subst (λ x. Fits x (frames_in (p ∷ left))) same k.0

  -- the same for a thread
  pub thread_fits : (t : ℕ) (tr : Trace) (call : Call) → IsTrace s t tr (Cut call) → AreListed tr → Fits call (stack_after [] tr)
  thread_fits t tr call m l = fits m (tt, (refl, tt), (refl, tt)) l call refl

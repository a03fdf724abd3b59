-- The stack of a thread in a past is that of its trace, and a call that fits it is allowed.
use Rattle.std.proofs.Common.{◌≡◌, ◌≢◌, ℕ, Bool, true, false, List, [], ◌∷◌, ◌++◌, refl, sym, ap, ◌∙◌, subst, eq-eqb}
use Rattle.std.specs.Prelude.{◌==◌, not}
use Rattle.std.proofs.lemmas.Bool.{ne_eqb, eqb-true}
use Rattle.win_num.specs.declared.send.Frame.{Frame}
use Rattle.win_num.specs.declared.send.Frame.TheVariants.{Await as AwaitFrame}
use Rattle.user_model.specs.declared.entry.Answer.{Answer}
use Rattle.user_model.specs.declared.entry.Answer.TheVariants.{Refused}
use Rattle.user_model.specs.declared.call.Call.{Call}
use Rattle.user_model.specs.declared.call.Call.TheVariants.{Await, Leave, EndThread}
use Rattle.user_model.specs.Past.{Past, is_refusal, first}
use Rattle.user_model.specs.Stacks.{stacked, stack}
use Rattle.user_model.specs.Replies.{is_barred_by}
use Rattle.script_tree.specs.Pieces.{Trace}
use Rattle.script_tree.specs.Traces.{trace_of}
use Rattle.script_tree.specs.Stacks.{stack_after, Fits, IsProcedure}
use Rattle.script_tree.proofs.PastLaws.{trace_of-own, trace_of-other}

different : {b : Bool} → b ≡ false → b ≡ true → ⊥
different e f = absurd cc

by_test : (x y : ℕ) (P : Type 0) (b : Bool) → (x == y) ≡ b → (x ≡ y → P) → (x ≢ y → P) → P
by_test x y P true h own other = own (eqb-true x y h)
by_test x y P false h own other = other (λ g. different h (eq-eqb x y g))

-- one entry more at the end of a trace
stack_after-last : (frames : List Frame) (tr : Trace) (x : Call × Answer) → stack_after frames (tr ++ x ∷ []) ≡ stacked x.0 x.1 (stack_after frames tr)
stack_after-last frames [] x = refl
stack_after-last frames (y ∷ tr) x = stack_after-last (stacked y.0 y.1 frames) tr x

-- a refusal does nothing to the stack
own_frames : (call : Call) (a : Answer) (b : Bool) (frames : List Frame) → b ≡ true → elim (is_refusal a) [ true ↦ frames | false ↦ elim b [ true ↦ stacked call a frames | false ↦ frames ] ] ≡ stacked call a frames
own_frames call (Refused code) true frames e = refl
own_frames call a true frames e = refl
own_frames call a false frames e = absurd cc

other_frames : (call : Call) (r b : Bool) (a : Answer) (frames : List Frame) → b ≡ false → elim r [ true ↦ frames | false ↦ elim b [ true ↦ stacked call a frames | false ↦ frames ] ] ≡ frames
other_frames call true b a frames e = refl
other_frames call false false a frames e = refl
other_frames call false true a frames e = absurd cc

-- the stack of a thread is that of its trace
pub stack_of_trace : (past : Past) (t : ℕ) → stack past t ≡ stack_after [] (trace_of past t)
stack_of_trace [] t = refl
stack_of_trace (e ∷ past) t =
    let before = stack_of_trace past t in
    let own : e.who.0 ≡ t → stack (e ∷ past) t ≡ stack_after [] (trace_of (e ∷ past) t) =
    λ h. own_frames e.call e.answer (e.who.0 == t) (stack past t) (eq-eqb e.who.0 t h) ∙ ap (stacked e.call e.answer) before ∙ sym (ap (stack_after []) (trace_of-own past e t h) ∙ stack_after-last [] (trace_of past t) (e.call, e.answer)) in
    let other : e.who.0 ≢ t → stack (e ∷ past) t ≡ stack_after [] (trace_of (e ∷ past) t) =
    λ h. other_frames e.call (is_refusal e.answer) (e.who.0 == t) e.answer (stack past t) (ne_eqb e.who.0 t h) ∙ before ∙ sym (ap (stack_after []) (trace_of-other past e t h)) in
    by_test e.who.0 t (stack (e ∷ past) t ≡ stack_after [] (trace_of (e ∷ past) t)) (e.who.0 == t) refl own other

pub fits_past : (past : Past) (t : ℕ) (call : Call) → Fits call (stack_after [] (trace_of past t)) → Fits call (stack past t)
fits_past past t call h = subst (Fits call) (sym (stack_of_trace past t)) h

-- a call that fits the stack is allowed
leave_allowed : (v : ℕ) (frame : Frame) (rest : List Frame) → IsProcedure frame → is_barred_by (Leave v) (first (frame ∷ rest)) ≡ false
leave_allowed v (AwaitFrame t) rest h = absurd h
leave_allowed v frame rest h = refl

pub allowed : (call : Call) (frames : List Frame) → Fits call frames → is_barred_by call (first frames) ≡ false
allowed (Leave v) frames h = subst (λ fs. is_barred_by (Leave v) (first fs) ≡ false) (sym h.2) (leave_allowed v h.0 h.1 h.3)
allowed (Await s) frames h = subst (λ fs. is_barred_by (Await s) (first fs) ≡ false) (sym h.1) (ap not (eq-eqb s s refl))
allowed EndThread frames h = subst (λ fs. is_barred_by EndThread (first fs) ≡ false) (sym h) refl
allowed call [] h = refl
allowed call (AwaitFrame t ∷ rest) h = absurd h
allowed call (frame ∷ rest) h = refl

use Rattle.std.proofs.Common.{◌≡◌, ◌≤◌, ◌<◌, true, false, refl, sym, ap, ◌∙◌, subst, arith}
use Rattle.std.proofs.lemmas.Bool.{false≢true}
use Rattle.std.proofs.lemmas.Bool.Decides.{nat_tests}
use Rattle.user_model.specs.declared.entry.Setup.{Setup}
use Rattle.user_model.specs.Idle.{is_barred}
use Rattle.script_tree.specs.Pieces.{Whole, Cut}
use Rattle.script_tree.specs.Traces.{IsTrace, trace_of}
use Rattle.script_proc.specs.Workers.{end_of}
use Rattle.log_text.specs.Ends.{setup_of, used}
use Rattle.illegal_text.specs.declared.illegal.Over.TheVariants as overs
use Rattle.illegal_text.specs.declared.illegal.Why.TheVariants as reasons
use Rattle.log_replay.proofs.Telling.{wrong_here, step_told, thread_may, thread_spent, thread_idle, used_is, worker_told}
use Rattle.log_replay.proofs.moves.thread_move.Goals as goal

pub returns-in_default-clause-told : goal.returns-in_default-clause-told
returns-in_default-clause-told g c =
    let s = c.args.script.now in
    let past = g.M.Machine.past c.args.machine.now in
    let t = c.args.entry.who.0 in
    let whole : IsTrace s t (trace_of past t) Whole = subst (λ o. IsTrace s t (trace_of past t) (end_of o)) c.in_default.is (c.in_ok-call.ensures.next s t (trace_of past t) c.requires.worker) in
    wrong_here s past past c.args.entry (reasons.Over overs.Ended) refl ((c.requires.some, c.requires.known), whole)

pub returns-then-spent-clause-told : goal.returns-then-spent-clause-told
returns-then-spent-clause-told g c =
    let s = c.args.script.now in
    let past = g.M.Machine.past c.args.machine.now in
    let t = c.args.entry.who.0 in
    let next : IsTrace s t (trace_of past t) (Cut c.in-Some.call) = subst (λ o. IsTrace s t (trace_of past t) (end_of o)) c.in-Some.is (c.in_ok-call.ensures.next s t (trace_of past t) c.requires.worker) in
    let spent : s.budget ≤ used past t = grind (arith, nat_tests, c.if-spent.true, c.used.ensures.used, c.next_call.ensures.used, c.requires.worker.counts, used_is past t, c.budget.ensures, c.requires.worker.program.budget) in
    wrong_here s past past c.args.entry (reasons.Over overs.Spent) refl (thread_spent s past t c.in-Some.call c.requires.some c.requires.known next spent)

pub returns-then-barred-clause-told : goal.returns-then-barred-clause-told
returns-then-barred-clause-told g c =
    let s = c.args.script.now in
    let past = g.M.Machine.past c.args.machine.now in
    let t = c.args.entry.who.0 in
    let next : IsTrace s t (trace_of past t) (Cut c.in-Some.call) = subst (λ o. IsTrace s t (trace_of past t) (end_of o)) c.in-Some.is (c.in_ok-call.ensures.next s t (trace_of past t) c.requires.worker) in
    let left : used past t < s.budget = grind (arith, nat_tests, c.if-spent.false, c.used.ensures.used, c.next_call.ensures.used, c.requires.worker.counts, used_is past t, c.budget.ensures, c.requires.worker.program.budget) in
    let barred : is_barred (setup_of s) past t ≡ true = ap (λ (x : Setup). is_barred x past t) (sym c.requires.setup) ∙ sym c.barred.ensures ∙ c.if-barred.true in
    wrong_here s past past c.args.entry (reasons.Barred c.args.entry.who) refl (thread_idle s past t c.in-Some.call c.requires.some c.requires.known next left barred)

pub returns-then-not-same_call-clause-told : goal.returns-then-not-same_call-clause-told
returns-then-not-same_call-clause-told g c =
    let s = c.args.script.now in
    let past = g.M.Machine.past c.args.machine.now in
    let t = c.args.entry.who.0 in
    let next : IsTrace s t (trace_of past t) (Cut c.in-Some.call) = subst (λ o. IsTrace s t (trace_of past t) (end_of o)) c.in-Some.is (c.in_ok-call.ensures.next s t (trace_of past t) c.requires.worker) in
    let left : used past t < s.budget = grind (arith, nat_tests, c.if-spent.false, c.used.ensures.used, c.next_call.ensures.used, c.requires.worker.counts, used_is past t, c.budget.ensures, c.requires.worker.program.budget) in
    let free : is_barred (setup_of s) past t ≡ false = ap (λ (x : Setup). is_barred x past t) (sym c.requires.setup) ∙ sym c.barred.ensures ∙ c.if-barred.false in
    wrong_here s past past c.args.entry (reasons.Call c.in-Some.call) refl
    (thread_may s past t c.in-Some.call c.requires.some c.requires.known next left free, λ same. false≢true (sym c.if-not-same_call.true ∙ c.same_call.ensures.1 same))

pub returns-clause-told : goal.returns-clause-told
returns-clause-told g c =
    let s = c.args.script.now in
    let past = g.M.Machine.past c.args.machine.now in
    let t = c.args.entry.who.0 in
    let next : IsTrace s t (trace_of past t) (Cut c.in-Some.call) = subst (λ o. IsTrace s t (trace_of past t) (end_of o)) c.in-Some.is (c.in_ok-call.ensures.next s t (trace_of past t) c.requires.worker) in
    let left : used past t < s.budget = grind (arith, nat_tests, c.if-spent.false, c.used.ensures.used, c.next_call.ensures.used, c.requires.worker.counts, used_is past t, c.budget.ensures, c.requires.worker.program.budget) in
    let free : is_barred (setup_of s) past t ≡ false = ap (λ (x : Setup). is_barred x past t) (sym c.requires.setup) ∙ sym c.barred.ensures ∙ c.if-barred.false in
    step_told s past (g.M.Machine.past c.step.new.self) c.args.entry c.in-Some.call c.in_ok-answer.answer (g.M.Machine.setup c.args.machine.now) c.answer_fault.result c.requires.setup c.requires.room
    (thread_may s past t c.in-Some.call c.requires.some c.requires.known next left free) (c.same_call.ensures.0 c.if-not-same_call.false) c.in_ok-answer.ensures.entry c.in_ok-answer.ensures.answer c.answer_fault.ensures

pub returns-clause-worker : goal.returns-clause-worker
returns-clause-worker g c =
    let s = c.args.script.now in
    let past = g.M.Machine.past c.args.machine.now in
    let t = c.args.entry.who.0 in
    worker_told s c.args.program.now past (g.M.Machine.past c.step.new.self) c.args.entry c.in-Some.call c.in_ok-answer.answer c.take.new.self c.answer_fault.result (returns-clause-told g c) c.answer_fault.ensures (c.same_call.ensures.0 c.if-not-same_call.false)
    (c.take.ensures.worker s c.args.program.now t (trace_of past t) (c.next_call.ensures.worker s t (trace_of past t) c.requires.worker))

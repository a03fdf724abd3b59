use Rattle.std.proofs.Common.{[], ◌∷◌, Option, Some, ap, sym, ◌∙◌, refl}
use Rattle.std.specs.Prelude.{codes, decimal}
use Rattle.log_read.specs.declared.log.Extra.{Extra}
use Rattle.log_read.specs.declared.log.Extra.TheVariants as extras
use Rattle.log_read.specs.Reading.{actor_at}
use Rattle.log_read.proofs.EntryParts.{extra_actor, waits_line, spent_line}
use Rattle.log_read.proofs.OneLog.{some_same}
use Rattle.log_read.proofs.ending.extra_at.Goals as goal

pub returns-in_err-thread-clause-again : goal.returns-in_err-thread-clause-again
returns-in_err-thread-clause-again c x fits same =
    let actor = extra_actor c.args.words.now.script.now c.args.end x _ fits same in
    let found = c.in_err-thread.ensures.found ∙ ap actor_at c.word_at.ensures ∙ actor.1 in
    absurd (cc found)

pub returns-in_err-call-in-Stuck-clause-again : goal.returns-in_err-call-in-Stuck-clause-again
returns-in_err-call-in-Stuck-clause-again c x fits same =
    let line = waits_line c.args.words.now.script.now c.args.end x _ fits c.in-Stuck.is same in
    let call = c.in_err-call-in-Stuck.ensures.again line.call (codes "waits" ∷ decimal line.thread.0 ∷ []) [] line.fits line.line refl in
    absurd (cc call)

pub returns-in_ok-call-in-Stuck-clause-again : goal.returns-in_ok-call-in-Stuck-clause-again
returns-in_ok-call-in-Stuck-clause-again c x fits same =
    let line = waits_line c.args.words.now.script.now c.args.end x _ fits c.in-Stuck.is same in
    let thread = some_same _ _ (c.in_ok-thread.ensures.found ∙ ap actor_at c.word_at.ensures ∙ line.actor) in
    let call = some_same _ _ (c.in_ok-call-in-Stuck.ensures.again line.call (codes "waits" ∷ decimal line.thread.0 ∷ []) [] line.fits line.line refl) in
    ap (λ t. let o : Option Extra = Some (extras.Waits t c.in_ok-call-in-Stuck.call) in o) thread
    ∙ ap (λ d. let o : Option Extra = Some (extras.Waits line.thread d) in o) call
    ∙ ap (λ y. let o : Option Extra = Some y in o) (sym line.is)

pub returns-in-Spent-clause-again : goal.returns-in-Spent-clause-again
returns-in-Spent-clause-again c x fits same =
    let line = spent_line c.args.words.now.script.now c.args.end x _ fits c.in-Spent.is same in
    let thread = some_same _ _ (c.in_ok-thread.ensures.found ∙ ap actor_at c.word_at.ensures ∙ line.2) in
    ap (λ t. let o : Option Extra = Some (extras.Spent t) in o) thread ∙ ap (λ y. let o : Option Extra = Some y in o) (sym line.1)

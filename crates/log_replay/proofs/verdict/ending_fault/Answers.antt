use Rattle.std.proofs.Common.{◌<◌, ◌^◌, List, length, refl, sym, ◌∙◌, subst}
use Rattle.illegal_text.specs.declared.lines.EndingLine.{EndingLine}
use Rattle.log_read.specs.Logs.{log_of}
use Rattle.log_replay.proofs.Loops.{lines_few, same_log}
use Rattle.log_replay.proofs.verdict.ending_fault.Goals as goal

pub first_line-requires : goal.first_line-requires
first_line-requires g c =
    let past = g.M.Machine.past c.args.machine.now in
    record { few = subst (λ (ls : List EndingLine). length ls < 2 ^ 32) (sym (c.deref-2.ensures.value ∙ c.in_ok-right.ensures)) (lines_few c.args.script.now past c.requires.few) }

pub returns-clause-same : goal.returns-clause-same
returns-clause-same g c = λ _.
    let past = g.M.Machine.past c.args.machine.now in
    same_log c.args.log.now (log_of c.args.script.now past) c.requires.entries (sym c.in_ok-found.ensures ∙ sym c.deref.ensures.value ∙ c.in-None.ensures.same refl ∙ c.deref-2.ensures.value ∙ c.in_ok-right.ensures)

use Rattle.std.proofs.Common.{◌∙◌}
use Rattle.script_proc.specs.Programs.{procedure_body}
use Rattle.script_proc.proofs.Programming.{each_step, grows_on}
use Rattle.script_proc.proofs.compile.put_procedures.Goals as goal

pub loop-procedure-preserved : goal.loop-procedure-preserved
loop-procedure-preserved c =
    let l = c.loop-procedure in
    let lines = c.put_whole.new.lines.items in
    record {
      each = each_step procedure_body l.lines.items lines l.places.items c.push.new.self.items c.args.procedures.now l.procedure-index c.in_ok-place.place c.procedure-item.result c.statements.result.now c.loop-procedure-test.true c.procedure-item.is (c.statements.ensures ∙ c.body.ensures) l.invariant.each c.in_ok-place.ensures.grows c.in_ok-place.ensures.begins c.in_ok-push.ensures.items;
      grows = grows_on c.args.lines.now.items l.lines.items lines l.invariant.grows c.in_ok-place.ensures.grows;
    }

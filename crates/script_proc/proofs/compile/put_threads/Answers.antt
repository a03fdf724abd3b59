use Rattle.script_proc.specs.Programs.{itself}
use Rattle.script_proc.proofs.Programming.{each_step, grows_on}
use Rattle.script_proc.proofs.compile.put_threads.Goals as goal

pub loop-body-preserved : goal.loop-body-preserved
loop-body-preserved c =
    let l = c.loop-body in
    let lines = c.put_whole.new.lines.items in
    record {
      each = each_step itself l.lines.items lines l.places.items c.push.new.self.items c.args.threads.now l.body-index c.in_ok-place.place c.body-item.result c.statements.result.now c.loop-body-test.true c.body-item.is c.statements.ensures l.invariant.each c.in_ok-place.ensures.grows c.in_ok-place.ensures.begins c.in_ok-push.ensures.items;
      grows = grows_on c.args.lines.now.items l.lines.items lines l.invariant.grows c.in_ok-place.ensures.grows;
    }

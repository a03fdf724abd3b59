use Rattle.std.proofs.Common.{[], ◌∷◌, sym, ap}
use Rattle.script_tree.specs.Steps.{follows, run_of}
use Rattle.user_model.specs.Stacks.{leaves}
use Rattle.win_num.specs.declared.send.Frame.TheVariants as frames
use Rattle.script_proc.specs.declared.item.Item.TheVariants.{Making, Again, Giving, Running}
use Rattle.script_proc.proofs.Following.{enter_follows, inside_follows, called_follows, callback_follows, behind_placeless}
use Rattle.script_proc.proofs.replies.goes_on.Goals as goal

pub returns-in-Wait : goal.returns-in-Wait
returns-in-Wait c below item e left =
    (Making c.args.call.now ∷ [], c.put_one.ensures.items below item e, (tt, tt), ap (follows c.args.call.now) (sym c.in-Wait.is))

pub returns-in-Enter : goal.returns-in-Enter
returns-in-Enter c below item e left =
    let call = c.args.call.now in
    let x = c.in-Enter in
    let q = c.told.result in (
      Again call ∷ Running (run_of x.proc_no q (frames.Entered x.send)) ∷ [],
      c.runs.ensures below item e,
      (tt, (tt, tt)),
      enter_follows call c.args.answer.now x.proc_no q left x.send x.hwnd x.number x.wparam x.lparam x.is c.told.ensures,
    )

pub returns-in-Callback : goal.returns-in-Callback
returns-in-Callback c below item e left =
    let call = c.args.call.now in
    let a = c.args.answer.now in
    let x = c.in-Callback in
    let q = c.told-in-Callback.result in
    let behind = c.behind_callback-behind in (
      behind.result ∷ Running (run_of x.proc_no q frames.CallbackRun) ∷ [],
      c.runs-in-Callback.ensures below item e,
      (behind_placeless (leaves call) a call behind.result behind.ensures, (tt, tt)),
      callback_follows call a x.proc_no q left x.send x.hwnd x.number x.extra x.result behind.result x.is c.told-in-Callback.ensures behind.ensures,
    )

pub returns-in-Inside : goal.returns-in-Inside
returns-in-Inside c below item e left =
    let call = c.args.call.now in
    let a = c.args.answer.now in
    let x = c.in-Inside in
    let q = c.parameters.result in (
      Giving a ∷ Running (run_of x.proc_no q (frames.Inside x.send)) ∷ [],
      c.runs-in-Inside.ensures below item e,
      (tt, (tt, tt)),
      inside_follows call a x.proc_no q left x.send x.is c.parameters.ensures,
    )

pub returns-in-Called : goal.returns-in-Called
returns-in-Called c below item e left =
    let call = c.args.call.now in
    let a = c.args.answer.now in
    let x = c.in-Called in
    let q = c.parameters-in-Called.result in (
      Giving a ∷ Running (run_of x.proc_no q frames.Called) ∷ [],
      c.runs-in-Called.ensures below item e,
      (tt, (tt, tt)),
      called_follows call a x.proc_no q left x.is c.parameters-in-Called.ensures,
    )

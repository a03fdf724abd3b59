use Rattle.std.proofs.Common.{[], sym, ◌∙◌, append-nil}
use Rattle.script_proc.proofs.Following.{nothing_follows}
use Rattle.script_proc.proofs.replies.follow.Goals as goal

pub returns-then-hands_on-clause-items : goal.returns-then-hands_on-clause-items
returns-then-hands_on-clause-items c below item e =
    ([], c.gives.ensures.items below item e ∙ sym (append-nil below), tt, nothing_follows c.args.call.now c.args.answer.now (sym c.hands_on.ensures ∙ c.if-hands_on.true))

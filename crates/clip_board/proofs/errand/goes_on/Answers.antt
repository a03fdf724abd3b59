use Rattle.std.proofs.Common.{sym, ap, ◌∙◌}
use Rattle.clip_board.specs.declared.errand.Errand.TheVariants.{Getting}
use Rattle.clip_board.specs.declared.errand.Stage.TheVariants.{Over}
use Rattle.clip_board.specs.declared.errand.Move.{Move}
use Rattle.clip_board.specs.declared.moves.ClipNext.{ClipNext}
use Rattle.clip_board.specs.Traces.{told, end_of}
use Rattle.clip_board.proofs.TraceLaws.{carry, fresh_leads, first_leads, send_leads, again_leads, told_ends}
use Rattle.clip_board.proofs.errand.goes_on.Goals as goal

pub returns-in-Fresh-clause-follows : goal.returns-in-Fresh-clause-follows
returns-in-Fresh-clause-follows c s n p q h m =
    fresh_leads s n c.args.stage c.args.got c.in-Fresh.errand p q c.call.result c.in-Fresh.is c.requires h m c.call.ensures

pub returns-in-User-got-clause-follows : goal.returns-in-User-got-clause-follows
returns-in-User-got-clause-follows c s n p q h m =
    send_leads s n c.args.stage c.args.got c.in-Sending.errand c.in-Sending.send c.in-User-got.got p q _ _ c.in-Sending.is c.in-User-got.is h m (λ ps qs st sq k i. c.sends.ensures.follows s n qs sq (c.next-next.ensures.follows s n ps qs st sq k i))

pub returns-in-Clip-got-2-clause-follows : goal.returns-in-Clip-got-2-clause-follows
returns-in-Clip-got-2-clause-follows c s n p q h m =
    let ended : ClipNext → Move = λ x. record { stage = Over; next = x } in
    let e = Getting c.in-Again.field-0 in
    let a = c.in-Clip-got-2.answer in
    again_leads s n c.args.stage c.args.got c.in-Again.field-0 a p q _ _ c.in-Again.is c.in-Clip-got-2.is h m
    (carry s n (told e a) (ended (end_of e a)) c.over.result (c.over.ensures ∙ ap ended c.get_end.ensures) (told_ends s n e a))

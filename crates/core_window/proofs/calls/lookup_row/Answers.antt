use Rattle.std.proofs.Common.{rules, ap, sym, ◌∙◌}
use Rattle.std.proofs.lemmas.Int.{to_z-of_z}
use mir.Val.{SFits, of_z, to_z}
use mir.Syntax.{w64}
use Rattle.user_model.specs.ReplyInput.{mouse_reply}
use Rattle.user_model.specs.Replies.{row}
use Rattle.core_window.proofs.calls.lookup_row.Goals as goal

pub returns-in-Mouse : goal.returns-in-Mouse
returns-in-Mouse c =
    let v = c.args.state.now in
    let fits_x : SFits w64 c.in-Mouse.x = search rules in
    let fits_y : SFits w64 c.in-Mouse.y = search rules in
    c.mouse_answer.ensures
    ∙ ap (λ z. mouse_reply v.setup v.past c.in-Mouse.number z (to_z w64 (of_z w64 c.in-Mouse.y))) (to_z-of_z w64 c.in-Mouse.x fits_x)
    ∙ ap (mouse_reply v.setup v.past c.in-Mouse.number c.in-Mouse.x) (to_z-of_z w64 c.in-Mouse.y fits_y)
    ∙ ap (row v.setup v.past c.args.thread) (sym c.in-Mouse.is)

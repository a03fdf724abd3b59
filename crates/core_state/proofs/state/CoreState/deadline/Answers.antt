use Rattle.std.proofs.Common.{reverse, ap, subst, sym, ◌∙◌}
use Rattle.user_model.specs.Past.{Past}
use Rattle.core_state.specs.States.{Seen}
use Rattle.core_state.specs.Frames.{IsOnTop}
use Rattle.core_state.proofs.Tops.{top_deadline, top_kept, top_known}
use Rattle.std.proofs.Common.{◌<◌}
use Rattle.win_num.specs.Clocks.{clock_limit}
use Rattle.std.specs.Prelude.{IfSome, Option}
use Rattle.send_frames.specs.Book.{KnownSend}
use Rattle.user_model.specs.ReplySends.{deadline}
use Rattle.user_model.proofs.TimeBounds.{send_time}
use Rattle.core_state.proofs.state.CoreState.deadline.Goals as goal

pub deadline-requires : goal.deadline-requires
deadline-requires c =
    let s = c.self.inside in
    let past : Past = reverse s.history.items in
    let on : IsOnTop past c.args.thread c.args.send.0 = subst (λ (v : Seen). IsOnTop v.past c.args.thread c.args.send.0) (sym c.self.view_is) c.requires.on_top in
    let kept = top_kept s.setup past c.args.thread c.args.send.0 c.self.invariant.lawful on in
    subst (λ (o : Option KnownSend). IfSome o (λ k. k.row.time < clock_limit)) (sym (top_known s.setup past s.sends c.args.send.0 kept c.self.invariant.sends)) (send_time s.setup past c.args.send.0 kept.of c.self.invariant.lawful c.self.invariant.short kept.found)

pub returns : goal.returns
returns c =
    let s = c.self.inside in
    let past : Past = reverse s.history.items in
    let on : IsOnTop past c.args.thread c.args.send.0 = subst (λ (v : Seen). IsOnTop v.past c.args.thread c.args.send.0) (sym c.self.view_is) c.requires.on_top in
    c.deadline.ensures
    ∙ top_deadline s.setup past s.sends c.args.send.0 (top_kept s.setup past c.args.thread c.args.send.0 c.self.invariant.lawful on) c.self.invariant.sends
    ∙ ap (λ (v : Seen). deadline v.past c.args.send.0) c.self.view_is

use Rattle.std.proofs.Common.{reverse, ap, subst, sym, ◌∙◌}
use Rattle.user_model.specs.Past.{Past}
use Rattle.core_state.specs.States.{Seen}
use Rattle.core_state.specs.Frames.{IsOnTop}
use Rattle.core_state.proofs.Tops.{top_blocks, top_kept}
use Rattle.user_model.specs.ReplySends.{blocks}
use Rattle.core_state.proofs.state.CoreState.blocks.Goals as goal

pub returns : goal.returns
returns c =
    let s = c.self.inside in
    let past : Past = reverse s.history.items in
    let on : IsOnTop past c.args.thread c.args.send.0 = subst (λ (v : Seen). IsOnTop v.past c.args.thread c.args.send.0) (sym c.self.view_is) c.requires.on_top in
    c.blocks-2.ensures
    ∙ top_blocks s.setup past s.sends c.args.send.0 (top_kept s.setup past c.args.thread c.args.send.0 c.self.invariant.lawful on) c.self.invariant.sends
    ∙ ap (λ (v : Seen). blocks v.past c.args.send.0) c.self.view_is

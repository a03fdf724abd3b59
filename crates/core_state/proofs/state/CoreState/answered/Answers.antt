use Rattle.std.proofs.Common.{reverse, ap, subst, sym, ◌∙◌}
use Rattle.user_model.specs.Past.{Past}
use Rattle.core_state.specs.States.{Seen}
use Rattle.core_state.specs.Frames.{IsOnTop}
use Rattle.core_state.proofs.Tops.{top_answer, top_kept}
use Rattle.std.specs.Prelude.{option_map}
use Rattle.user_model.specs.Sends.{answer}
use Rattle.send_state.specs.Standing.{as_told}
use Rattle.core_state.proofs.state.CoreState.answered.Goals as goal

pub returns : goal.returns
returns c =
    let s = c.self.inside in
    let past : Past = reverse s.history.items in
    let on : IsOnTop past c.args.thread c.args.send.0 = subst (λ (v : Seen). IsOnTop v.past c.args.thread c.args.send.0) (sym c.self.view_is) c.requires.on_top in
    c.answered.ensures
    ∙ top_answer s.setup past s.sends c.args.send.0 (top_kept s.setup past c.args.thread c.args.send.0 c.self.invariant.lawful on) c.self.invariant.sends
    ∙ ap (λ (v : Seen). option_map as_told (answer v.past c.args.send.0)) c.self.view_is

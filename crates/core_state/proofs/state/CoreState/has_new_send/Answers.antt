use Rattle.std.proofs.Common.{reverse, ap, ◌∙◌}
use Rattle.user_model.specs.Past.{Past}
use Rattle.user_model.specs.Status.{has_send, last_look}
use Rattle.send_state.proofs.Marks.{new-told}
use Rattle.core_state.specs.States.{Seen}
use Rattle.core_state.proofs.Threads.{in_book, is_ours}
use Rattle.core_state.proofs.state.CoreState.has_new_send.Goals as goal

pub has_new-requires : goal.has_new-requires
has_new-requires c =
    let s = c.self.inside in
    let past : Past = reverse s.history.items in
    in_book s.setup past s.sends c.args.thread c.self.invariant.sends (is_ours c.args.self.now s.setup past c.args.thread c.self.view_is c.requires.some c.requires.known)

pub returns : goal.returns
returns c =
    let s = c.self.inside in
    let past : Past = reverse s.history.items in
    let t = c.args.thread in
    c.has_new.ensures
    ∙ new-told s.setup past s.sends t (is_ours c.args.self.now s.setup past t c.self.view_is c.requires.some c.requires.known) c.self.invariant.sends c.self.invariant.marks
    ∙ ap (λ (v : Seen). has_send v.past t (last_look v.past t)) c.self.view_is

use Rattle.std.proofs.Common.{reverse, ap, ◌∙◌}
use Rattle.user_model.specs.Past.{Past}
use Rattle.core_state.specs.States.{Seen}
use Rattle.core_state.proofs.Threads.{is_ours, in_book}
use Rattle.send_state.proofs.Values.{room-stands}
use Rattle.user_model.specs.Stacks.{has_room}
use Rattle.core_state.proofs.state.CoreState.has_room.Goals as goal

pub has_room-requires : goal.has_room-requires
has_room-requires c =
    let s = c.self.inside in
    let past : Past = reverse s.history.items in
    in_book s.setup past s.sends c.args.thread c.self.invariant.sends (is_ours c.args.self.now s.setup past c.args.thread c.self.view_is c.requires.some c.requires.known)

pub returns : goal.returns
returns c =
    let s = c.self.inside in
    let past : Past = reverse s.history.items in
    c.has_room.ensures ∙ room-stands s.setup past s.sends c.args.thread (is_ours c.args.self.now s.setup past c.args.thread c.self.view_is c.requires.some c.requires.known) c.self.invariant.sends
    ∙ ap (λ (v : Seen). has_room v.past c.args.thread) c.self.view_is

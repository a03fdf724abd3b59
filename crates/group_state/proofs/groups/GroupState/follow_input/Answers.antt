use Rattle.std.proofs.Common.{◌∷◌, subst, sym, ◌∙◌}
use Rattle.group_state.specs.GroupTables.{IsGroupsAt}
use Rattle.group_state.proofs.GroupSteps.{input_made, input_rest, input_thread, wparam_fits}
use Rattle.group_state.proofs.groups.GroupState.follow_input.Goals as goal

pub key_taken-requires : goal.key_taken-requires
key_taken-requires c =
    let h = c.requires.next in
    wparam_fits h.setup h.past c.args.self.now c.args.place c.args.entry h.next c.args.number c.args.msg c.requires.got

pub set_key-requires-clause-thread : goal.set_key-requires-clause-thread
set_key-requires-clause-thread c =
    let h = c.requires.next in
    input_thread h.setup h.past c.args.self.now c.args.place c.args.entry h.next c.args.number c.args.msg c.requires.got

pub returns-in-Some : goal.returns-in-Some
returns-in-Some c = λ setup past n.
    subst (IsGroupsAt setup (c.args.entry ∷ past)) (sym c.set_key.ensures)
    (input_made setup past c.args.self.now c.args.place c.args.entry n c.args.number c.args.msg c.requires.got c.in-Some.key c.in-Some.down (sym c.key_taken.ensures ∙ c.in-Some.is))

pub returns-in-None : goal.returns-in-None
returns-in-None c = λ setup past n.
    input_rest setup past c.args.self.now c.args.place c.args.entry n c.args.number c.args.msg c.requires.got (sym c.key_taken.ensures ∙ c.in-None.is)

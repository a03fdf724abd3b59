use Rattle.std.proofs.Common.{◌≡◌, length, refl, sym, ap, ◌∙◌, subst, arith}
use Rattle.std.proofs.lemmas.List.{map-append}
use Rattle.user_model.specs.Past.{Past}
use Rattle.run_explorer.specs.declared.step.Step.{Step}
use Rattle.run_explorer.specs.Steps.{counts}
use Rattle.run_explorer.specs.Parts.{IsShare}
use Rattle.run_explorer.specs.Searches.{actors}
use Rattle.run_explorer.proofs.Exploring.{made_short}
use Rattle.run_explorer.proofs.Parts.{turns_few}
use Rattle.run_explorer.proofs.Stepping.{step_made, steps_length}
use Rattle.run_explorer.proofs.play.take_step.Goals as goal

pub after-share-requires-clause-place : goal.after-share-requires-clause-place
after-share-requires-clause-place g c =
    let short = made_short c.args.script.now c.args.bound c.args.steps.now.items (g.M.Machine.past c.args.machine.now) c.requires.few c.requires.small c.requires.made in
    omega (arith, short, c.len.ensures)

pub after-share-requires-clause-room : goal.after-share-requires-clause-room
after-share-requires-clause-room g c = omega (arith, turns_few c.args.script.now c.args.bound (g.M.Machine.past c.args.machine.now), c.requires.share.turns)

pub returns-clause-made : goal.returns-clause-made
returns-clause-made g c =
    step_made c.args.script.now c.args.bound c.args.steps.now.items c.push.new.self.items (g.M.Machine.past c.args.machine.now) (g.M.Machine.past c.make_move.new.machine) _ c.args.mover c.requires.made c.requires.may c.in_ok-make_move.ensures.moved
    c.in_ok-push.ensures.items refl c.counts-counted.ensures c.next_above-next.ensures c.requires.position

pub returns-clause-along : goal.returns-clause-along
returns-clause-along g c = ap actors c.in_ok-push.ensures.items ∙ map-append (λ (x : Step). x.mover) c.args.steps.now.items _

pub returns-clause-share : goal.returns-clause-share
returns-clause-share g c =
    let s = c.args.script.now in
    let past = g.M.Machine.past c.args.machine.now in
    let went = c.in_ok-make_move.ensures.moved in
    let counted : c.counts-counted.result ≡ counts s c.args.bound past went.entry.who.0 = c.counts-counted.ensures ∙ ap (counts s c.args.bound past) (sym went.who) in
    let place : length c.args.steps.now.items ≡ length past = steps_length s c.args.bound past c.args.steps.now.items c.requires.made.each in
    subst (λ (p : Past). IsShare s c.args.bound c.args.part.count p c.after-share.result) (sym went.newest) (c.after-share.ensures.share s c.args.bound past went.entry c.requires.share counted (omega (arith, place, c.len.ensures)) (sym went.who))

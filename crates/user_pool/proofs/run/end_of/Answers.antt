use Rattle.std.proofs.Common.{◌≡◌, false, reverse, sym, ap, ◌∙◌}
use Rattle.std.proofs.lemmas.List.{reverse-reverse}
use Rattle.user_model.specs.Past.{Past}
use Rattle.user_model.specs.Idle.{ends_stuck}
use Rattle.user_pool.proofs.NeverCut.{spent_is}
use Rattle.user_pool.proofs.run.end_of.Goals as goal

pub returns : goal.returns
returns g c =
    let past = g.M.Machine.past c.args.machine.now in
    let free : ends_stuck past ≡ false = ap ends_stuck (sym (reverse-reverse past)) ∙ ap (λ (h : Past). ends_stuck (reverse h)) (sym c.history.ensures) ∙ sym c.ends_stuck.ensures ∙ c.if-ends_stuck.false in
    sym (spent_is c.args.script.now past c.requires.run c.requires.over (sym c.have_all_ended.ensures ∙ c.if-have_all_ended.false) free)

use Rattle.std.proofs.Common.{rules, arith, ◌≡◌, [], ◌∷◌, ◌<◌, ◌^◌, sym, ap, ◌∙◌, subst, Some}
use Rattle.std.proofs.lemmas.Grind.{common_steps}
use Rattle.atomic_table.specs.Table.{opening}
use Rattle.turn_lock.specs.Views.{first_view}
use Rattle.turn_lock.specs.Rule.{Kept}
use Rattle.turn_lock.proofs.RuleKept.{starts}
use Rattle.turn_lock.proofs.lock.open.Goals as goal

pub new-requires : goal.new-requires
new-requires g c = let j = g.S.Journaled in let is : c.of.result.value ≡ c.args.state = c.of.ensures in
    let items : c.push.new.self.items ≡ Some c.args.state ∷ [] = first_of (search rules, grind (arith, common_steps)) in
    let few : c.args.seats < 2 ^ 32 = first_of (search rules, grind (arith, common_steps)) in
    let kept = starts j.history j.setting j.lawful j.number c.of.result.value c.args.seats (subst (λ o. j.lawful (j.setting o) (j.history o)) (sym is) c.requires.lawful) c.requires.some few in
    subst (λ l. Kept j.history j.setting j.lawful j.number c.of.result.value c.args.seats (opening (0 ∷ 0 ∷ 0 ∷ []) l (first_view c.of.result.value))) (ap (λ o. Some o ∷ []) is ∙ sym items) kept

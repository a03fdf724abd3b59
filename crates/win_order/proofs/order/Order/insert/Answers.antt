use Rattle.std.proofs.Common.{◌∙◌, ap, sym, subst}
use Rattle.win_order.specs.declared.standings.Known.{Known}
use Rattle.win_order.specs.Families.{with_windows}
use Rattle.win_order.specs.Kept.{IsKept}
use Rattle.win_order.specs.Layers.{IsNew, Layers, inserted}
use Rattle.win_order.proofs.InsertLaws.{inserted_is, on_ok, where_ok}
use Rattle.win_order.proofs.KeptLaws.{inserted_kept}
use Rattle.win_order.proofs.order.Order.insert.Goals as goal

pub invariant_of-self-else-is_err : goal.invariant_of-self-else-is_err
invariant_of-self-else-is_err c =
    let k : Known = record { parent = c.args.parent; owner = c.args.owner; topmost = c.args.topmost } in
    let z : Layers = record { standings = c.self.inside.standings; families = c.self.inside.families } in
    let new = subst (IsNew c.args.w.0 c.args.parent.0 c.args.owner.0) (sym c.self.view_is) c.requires in
    let siblings = c.windows_of-siblings.ensures in
    let listed = where_ok c.set_windows-listed.result _ (sym c.is_err.ensures.value ∙ c.if-is_err.false) c.set_windows-listed.ensures.ok in
    let whole = inserted_is z c.self.invariant c.args.w k new c.windows_of-siblings.result.now siblings c.new_place-at.result c.new_place-at.ensures.within c.new_place-at.ensures.high c.new_place-at.ensures.low c.insert.new.self c.in_ok-insert.ensures.ok c.set_windows-listed.new.self (listed ∙ ap (λ l. with_windows c.args.parent l c.self.inside.families) c.in_ok-windows.ensures) in
    subst IsKept (sym whole) (inserted_kept c.args.w c.args.parent c.args.owner c.args.topmost z c.self.invariant new)

pub returns-else-is_err-clause-ok : goal.returns-else-is_err-clause-ok
returns-else-is_err-clause-ok c =
    let k : Known = record { parent = c.args.parent; owner = c.args.owner; topmost = c.args.topmost } in
    let z : Layers = record { standings = c.self.inside.standings; families = c.self.inside.families } in
    let new = subst (IsNew c.args.w.0 c.args.parent.0 c.args.owner.0) (sym c.self.view_is) c.requires in
    let siblings = c.windows_of-siblings.ensures in
    let listed = where_ok c.set_windows-listed.result _ (sym c.is_err.ensures.value ∙ c.if-is_err.false) c.set_windows-listed.ensures.ok in
    let whole = inserted_is z c.self.invariant c.args.w k new c.windows_of-siblings.result.now siblings c.new_place-at.result c.new_place-at.ensures.within c.new_place-at.ensures.high c.new_place-at.ensures.low c.insert.new.self c.in_ok-insert.ensures.ok c.set_windows-listed.new.self (listed ∙ ap (λ l. with_windows c.args.parent l c.self.inside.families) c.in_ok-windows.ensures) in
    on_ok c.set_windows-listed.result _ (whole ∙ ap (inserted c.args.w c.args.parent c.args.owner c.args.topmost) c.self.view_is)

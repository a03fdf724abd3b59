use Rattle.std.proofs.Common.{◌≡◌, ◌<◌, ◌∙◌, ◌∷◌, ◌++◌, [], All, List, ap, sym, subst}
use Rattle.input_queue.specs.declared.element.Element.{Element}
use Rattle.input_queue.specs.Elements.{with_element, without_replaced}
use Rattle.input_queue.specs.Rows.{merged}
use Rattle.input_queue.proofs.ElementLemmas.{ok_holds, replaced_after}
use Rattle.input_queue.proofs.inputs.Inputs.add.Goals as goal

pub returns-clause-ok : goal.returns-clause-ok
returns-clause-ok c =
    let w = merged c.self.inside.rows in
    let e = c.args.e in
    let before = c.replaced_by-before.result in
    let below : All (λ (x : Element). x.number < e.number) w = subst (λ (m : List Element). All (λ (x : Element). x.number < e.number) m) (sym c.self.view_is) c.requires.rising in
    let pushed : merged c.push.new.rows ≡ w ++ e ∷ [] = ok_holds c.push.result (merged c.push.new.rows ≡ w ++ e ∷ []) (sym c.is_err.ensures.value ∙ c.if-is_err.false) c.push.ensures.ok in
    c.take_replaced.ensures.left
    ∙ ap (without_replaced before) pushed
    ∙ replaced_after e c.args.group w before c.replaced_by-before.ensures below
    ∙ ap (with_element e c.args.group) c.self.view_is

use Rattle.std.proofs.Common.{◌∙◌, ◌==◌, find, Some, ap, sym, subst, arith}
use Rattle.input_queue.specs.declared.element.Element.{Element}
use Rattle.input_queue.specs.Elements.{AreRising, without}
use Rattle.input_queue.proofs.Changing.{without_none}
use Rattle.input_queue.proofs.Halving.{IsFound, found_at}
use Rattle.input_queue.proofs.Sorting.{rises_from}
use Rattle.input_queue.proofs.row.Row.take.Goals as goal

pub returns-in_err-at-clause-left : goal.returns-in_err-at-clause-left
returns-in_err-at-clause-left c = sym (without_none c.args.number c.args.self.now (sym (ap (find (λ x. x.number == c.args.number)) c.self.view_is) ∙ c.in_err-at.ensures.none))

pub returns-clause-value : goal.returns-clause-value
returns-clause-value c =
    let xs = c.self.inside.elements.items in
    let x : Element = c.in_ok-sealed.sealed in
    let found : IsFound c.args.number xs c.in_ok-at.at x = found_at c.args.number xs c.in_ok-at.at x (rises_from xs (subst AreRising (sym c.self.view_is) c.requires)) c.in_ok-at.ensures.within (c.in_ok-at.ensures.found x) in
    ap Some c.into_element.ensures
    ∙ c.in_ok-sealed.ensures.succeeds x (omega (arith, c.in_ok-at.ensures.within, c.self.inside.elements.ok.0))
    ∙ sym found.value
    ∙ ap (find (λ x. x.number == c.args.number)) c.self.view_is

pub returns-clause-left : goal.returns-clause-left
returns-clause-left c =
    let xs = c.self.inside.elements.items in
    let x : Element = c.in_ok-sealed.sealed in
    let found : IsFound c.args.number xs c.in_ok-at.at x = found_at c.args.number xs c.in_ok-at.at x (rises_from xs (subst AreRising (sym c.self.view_is) c.requires)) c.in_ok-at.ensures.within (c.in_ok-at.ensures.found x) in
    c.in_ok-sealed.ensures.items ∙ sym found.left ∙ ap (without c.args.number) c.self.view_is

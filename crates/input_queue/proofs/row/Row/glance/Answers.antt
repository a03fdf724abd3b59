use Rattle.std.proofs.Common.{◌≡◌, ◌<◌, ◌-◌, ◌∙◌, Some, option_map, deque_len, refl, ap, sym, arith}
use Rattle.input_queue.specs.declared.element.Element.{Element}
use Rattle.input_queue.specs.declared.glance.Glance.{Glance}
use Rattle.input_queue.specs.Elements.{last_of}
use Rattle.input_queue.specs.Rows.{glance_of}
use Rattle.input_queue.proofs.Halving.{last_at}
use Rattle.input_queue.proofs.row.Row.glance.Goals as goal

pub returns : goal.returns
returns c =
    let xs = c.self.inside.elements.items in
    let x : Element = c.in_ok-sealed.sealed.now in
    let some : 0 < deque_len c.self.inside.elements = c.in_ok-sealed.ensures.variant.0 refl in
    let last : last_of xs ≡ Some x = last_at xs (deque_len c.self.inside.elements - 1) x x (omega (arith, some, c.self.inside.elements.ok.0)) (sym c.in_ok-sealed.ensures.lookup) in
    ap (λ n. let g : Glance = record { number = n; message = c.message.result } in Some g) c.number.ensures
    ∙ ap (λ n. let g : Glance = record { number = x.number; message = n } in Some g) c.message.ensures
    ∙ sym (ap (λ m. option_map glance_of (last_of m)) (sym c.self.view_is) ∙ ap (option_map glance_of) last)

use Rattle.std.proofs.Common.{◌∙◌, ◌==◌, find, is_some, ap, sym, subst}
use Rattle.input_queue.specs.Elements.{AreRising}
use Rattle.input_queue.proofs.Halving.{has_is}
use Rattle.input_queue.proofs.row.Row.has.Goals as goal

pub returns : goal.returns
returns c =
    c.is_some.ensures
    ∙ has_is c.place_of.result c.args.number c.self.inside.elements.items (subst AreRising (sym c.self.view_is) c.requires) c.place_of.ensures.within c.place_of.ensures.found c.place_of.ensures.none
    ∙ ap (λ m. is_some (find (λ x. x.number == c.args.number) m)) c.self.view_is

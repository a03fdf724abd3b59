use Rattle.std.proofs.Common.{◌≡◌, ◌∙◌, ◌++◌, ◌∷◌, [], List, ap, rules, tests}
use Rattle.win_rows.specs.declared.order.Kind.TheVariants.{Whole}
use Rattle.win_rows.specs.declared.order.Part.{Part}
use Rattle.win_rows.specs.Parts.{parts_of}
use Rattle.win_rows.proofs.Listing.{first_part, popped}
use Rattle.win_rows.proofs.order.steps_of.Goals as goal

pub lists-init : goal.lists-init
lists-init c =
    let ws = c.args.rows.now in
    let x = c.args.x.now in
    first_part ws x c.len.result c.put.new.parts.items c.new-steps.result.items (c.in_ok-put.ensures ∙ ap (λ (ps : List Part). ps ++ parts_of Whole c.len.result (x ∷ [])) c.new-parts.ensures.items) c.new-steps.ensures.items c.len.ensures

pub lists-preserved : goal.lists-preserved
lists-preserved c =
    let ws = c.args.rows.now in
    let is : c.lists.parts.items ≡ c.pop.new.self.items ++ c.in-Some.part ∷ [] = search (rules, tests) in
    c.in_ok-list.ensures ∙ popped ws c.lists.parts.items c.pop.new.self.items c.in-Some.part c.lists.steps.items _ is c.lists.invariant

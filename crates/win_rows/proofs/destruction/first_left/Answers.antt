use Rattle.std.proofs.Common.{◌≡◌, ◌∙◌, List, find, option_map, ap, true, false, is_some, rules, tests, arith}
use Rattle.std.specs.List.{flat_map}
use Rattle.win_rows.specs.declared.links.Link.TheVariants.{Owner}
use Rattle.win_rows.specs.declared.tour.Visit.{Visit}
use Rattle.win_rows.specs.Destruction.{destruction, is_left, answer_of}
use Rattle.win_rows.specs.Tours.{visit_steps, IsVisit}
use Rattle.win_rows.proofs.Leaves.{younger_than_one}
use Rattle.win_rows.proofs.Tours.{begins, whole}
use Rattle.win_rows.proofs.Searches.{own_tour, none_left_here, some_left_here}
use Rattle.win_rows.proofs.destruction.first_left.Goals as goal

pub visits-init : goal.visits-init
visits-init c =
    let ws = c.args.rows.now in
    let x = c.args.x.now in
    let top = c.len-top.result in
    let some = younger_than_one ws x.number.0 x c.requires.live in
    record {
      so_far =
          ap (λ (vs : List Visit). option_map answer_of (find is_left (flat_map (visit_steps ws) vs))) (whole Owner ws top x)
          ∙ ap (λ ss. option_map answer_of (find is_left ss)) (own_tour top ws x)
          ∙ ap (λ n. option_map answer_of (find is_left (destruction n ws x))) c.len-top.ensures;
      at = record { rising = c.requires.rising; live = c.requires.live; deep = omega (arith, some, c.len-top.ensures); within = omega arith };
    }

pub returns-then-is_some : goal.returns-then-is_some
returns-then-is_some c =
    let ws = c.args.rows.now in
    let v = c.in-Some.visit in
    let is : IsVisit ws c.len-top.result v = search (rules, tests) in
    let some : is_some (option_map answer_of (find is_left (visit_steps ws v))) ≡ true = search (rules, tests) in
    let first = begins Owner ws c.len-top.result v is in
    c.first_of-step.ensures ∙ some_left_here ws v _ first.0 first.1 some ∙ (rw c.in-Some.is at c.visits.invariant.so_far)

pub visits-preserved : goal.visits-preserved
visits-preserved c =
    let ws = c.args.rows.now in
    let v = c.in-Some.visit in
    let none : is_some (option_map answer_of (find is_left (visit_steps ws v))) ≡ false = search (rules, tests) in
    record {
      so_far = none_left_here ws v _ _ c.after-at.ensures.next none ∙ (rw c.in-Some.is at c.visits.invariant.so_far);
      at = c.after-at.ensures.within;
    }

use Rattle.std.proofs.Common.{◌≡◌, ◌≤◌, eqb, ◌-◌, false, sym, ◌∙◌, arith}
use Rattle.std.proofs.lemmas.Bool.Decides.{nat_tests}
use Rattle.run_explorer.specs.Steps.{deciding}
use Rattle.run_explorer.proofs.Moves.{not_false}
use Rattle.run_explorer.proofs.Parts.{passed_decided}
use Rattle.run_explorer.proofs.play.is_passed.Goals as goal

pub returns-then-place-deciding : goal.returns-then-place-deciding
returns-then-place-deciding c = λ other s past is.
    let decided : deciding c.args.bound ≤ c.args.place.share.turns = grind (arith, nat_tests, c.if-place-deciding.true, c.deciding.ensures.value) in
    let no : eqb c.args.place.share.residue (c.args.part.number - 1) ≡ false = sym c.is_of.ensures ∙ not_false c.is_of.result other in
    passed_decided s c.args.bound c.args.part past c.args.place.share is decided no

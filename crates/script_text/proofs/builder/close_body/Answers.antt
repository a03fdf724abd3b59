use Rattle.std.proofs.Common.{◌<◌, length, arith, sym, ◌∙◌}
use Rattle.script_text.specs.Building.{kinds}
use Rattle.script_text.proofs.BuildLemmas.{length_kinds, some_open, not_zero}
use Rattle.script_text.proofs.builder.close_body.Goals as goal

pub returns-then-not-is_empty-clause-kinds : goal.returns-then-not-is_empty-clause-kinds
returns-then-not-is_empty-clause-kinds c =
    let blocks = c.args.blocks.now in
    let some : 0 < length (kinds blocks.items) = omega (arith, length_kinds blocks.items, blocks.ok.0, not_zero _ (sym c.is_empty.ensures ∙ c.if-not-is_empty.true)) in
    sym (some_open (kinds blocks.items) some)

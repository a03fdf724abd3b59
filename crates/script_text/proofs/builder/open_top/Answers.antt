use Rattle.std.proofs.Common.{◌<◌, length, arith, sym, ◌∙◌}
use Rattle.script_text.specs.Building.{kinds, kind_of}
use Rattle.script_text.proofs.BuildLemmas.{length_kinds, none_at_top, not_zero}
use Rattle.script_text.proofs.builder.open_top.Goals as goal

pub returns-then-not-is_empty-clause-kinds : goal.returns-then-not-is_empty-clause-kinds
returns-then-not-is_empty-clause-kinds c =
    let blocks = c.args.blocks.now in
    let some : 0 < length (kinds blocks.items) = omega (arith, length_kinds blocks.items, blocks.ok.0, not_zero _ (sym c.is_empty.ensures ∙ c.if-not-is_empty.true)) in
    sym (none_at_top (kind_of c.args.opening) (kinds blocks.items) some)

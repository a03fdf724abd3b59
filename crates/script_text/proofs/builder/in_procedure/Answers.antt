use Rattle.std.proofs.Common.{◌≡◌, Bool, rules, tests, sym, ◌∙◌}
use Rattle.std.specs.List.{list_any}
use Rattle.std.proofs.lemmas.Iterator.Search.{any_from_yields_List}
use Rattle.std.proofs.lemmas.Iterator.Consumers.{YieldsList-from_deque}
use Rattle.script_text.specs.declared.builder.Block.{Block}
use Rattle.script_text.specs.Building.{kind_of}
use Rattle.script_text.specs.Nesting.{is_procedure}
use Rattle.script_text.proofs.BuildLemmas.{any_kinds}
use Rattle.script_text.proofs.builder.in_procedure.Goals as goal

pub returns : goal.returns
returns c =
    let test : Block → Bool = λ b. is_procedure (kind_of b.opening) in
    let e : c.any.result ≡ list_any test c.args.blocks.now.items = any_from_yields_List test _ _ _ c.any.ensures.ran (YieldsList-from_deque c.args.blocks.now.items c.iter.ensures.rest) (λ x r q k. search (rules, tests)) in
    e ∙ sym (any_kinds c.args.blocks.now.items)

use Rattle.std.proofs.Common.{arith}
use Rattle.script_text.proofs.BuildLemmas.{open_told}
use Rattle.script_text.proofs.builder.Builder.is_open.Goals as goal

pub returns : goal.returns
returns c = open_told c.args.self.now.blocks.items _ c.is_empty.result c.is_empty.ensures (omega (arith, c.args.self.now.blocks.ok.0))

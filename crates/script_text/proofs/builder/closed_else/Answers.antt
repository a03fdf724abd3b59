use Rattle.std.proofs.Common.{rules}
use Rattle.script_tree.specs.declared.statement.Statement.TheViews.{the_lemmas}
use Rattle.script_text.proofs.BuildLemmas.{row_is}
use Rattle.script_text.proofs.builder.closed_else.Goals as goal

pub returns : goal.returns
returns c = search (rules, the_lemmas, row_is)

-- Names that JSON can hold.
use Rattle.std.specs.Prelude.{IsUtf8}
use Rattle.std.specs.List.{AllByRecursion}
use Rattle.script_tree.specs.Tree.{Tree, ProcedureTree}

-- the name of the procedure is UTF-8
abbrev pub IsText : ProcedureTree → Type 0
IsText p = IsUtf8 p.name

-- all names of the script are UTF-8: those of classes, titles and messages, and those of procedures
pub record AreTexts (s : Tree) : Type 0 where
  pub names : AllByRecursion IsUtf8 s.names
  pub procedures : AllByRecursion IsText s.procedures

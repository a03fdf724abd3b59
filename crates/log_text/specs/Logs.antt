-- The text of a log.
use Rattle.std.specs.Prelude.{ℕ, List, ◌++◌, codes}
use Rattle.user_model.specs.Past.{Past}
use Rattle.script_tree.specs.Tree.{Tree}
use Rattle.log_text.specs.Ends.{end_of}
use Rattle.log_text.specs.Entries.{entries_text}
use Rattle.log_text.specs.Endings.{ending}

-- the one text of a run: its first line, the entries from the oldest on, and the ending
unfoldable pub log : Tree → Past → List ℕ
log s past = codes "log 1\n" ++ (entries_text s past ++ ending s past (end_of s past))

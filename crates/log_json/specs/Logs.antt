-- The JSON of a run.
use Rattle.std.specs.Prelude.{ℕ, List, [], ◌∷◌, ◌++◌}
use Rattle.user_model.specs.declared.entry.Entry.{Entry}
use Rattle.user_model.specs.Past.{Past}
use Rattle.script_tree.specs.Tree.{Tree}
use Rattle.log_text.specs.Ends.{setup_of, end_of}
use Rattle.log_text.specs.Frames.{shown}
use Rattle.log_json.specs.Objects.{line, entry_object, frame_line, ending}

-- an entry after the past before it: its line, and that of the frame that it kept
abbrev pub entry_json : Tree → Past → Entry → List ℕ
entry_json s past e = line (entry_object s e) ++ frame_line s (shown (setup_of s) past e.answer)

-- the entries of a past, from the oldest on, each after the past before it
abbrev pub entries_json : Tree → Past → List ℕ
entries_json s [] = []
entries_json s (e ∷ past) = entries_json s past ++ entry_json s past e

-- the one JSON of a run: its entries from the oldest on, and the ending
unfoldable pub json : Tree → Past → List ℕ
json s past = entries_json s past ++ ending s past (end_of s past)

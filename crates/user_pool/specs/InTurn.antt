-- Entries that came in turn.
use Rattle.std.specs.Prelude.{◌≡◌, ◌<◌, [], ◌∷◌}
use Rattle.user_model.specs.Past.{Past}
use Rattle.user_model.specs.Replies.{row}
use Rattle.script_tree.specs.Tree.{Tree}
use Rattle.log_text.specs.Ends.{setup_of}

-- each entry of a thread has the answer that stands for its call where it may be made
abbrev pub AreByRow : Tree → Past → Type 0
AreByRow s [] = Unit {0}
AreByRow s (e ∷ past) = (0 < e.who.0 → e.answer ≡ row (setup_of s) past e.who.0 e.call) × AreByRow s past

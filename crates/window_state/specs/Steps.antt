-- Steps of a destruction as answers.
use Rattle.std.specs.Prelude.{if◌then◌else◌, ℕ, ◌==◌, Some, None}
use Rattle.win_num.specs.declared.message.Hwnd.{Hwnd}
use Rattle.win_rows.specs.declared.row.Unmade.{Unmade}
use Rattle.win_rows.specs.declared.row.Unmade.TheVariants as steps
use Rattle.win_rows.specs.declared.row.WindowRow.{WindowRow}
use Rattle.user_model.specs.declared.entry.Answer.{Answer}
use Rattle.user_model.specs.declared.entry.Answer.TheVariants.{Tell, Last, Gone}
use Rattle.user_model.specs.Past.{Past}
use Rattle.user_model.specs.Windows.{window}
use Rattle.user_model.specs.Destruction.{next_step}
use Rattle.user_model.specs.ReplyWindows.{step_answer}

-- the next step of a window's destruction
abbrev pub destruction_answer : Past → ℕ → Answer
destruction_answer past w = elim (window past w) [ None ↦ Gone | Some x ↦ step_answer w (next_step past x) ]

-- a step of the table as an answer
abbrev pub told_of : Unmade → Answer
told_of (steps.Tell w) = Tell w
told_of (steps.Last w) = Last w
told_of steps.Gone = Gone
told_of steps.NotDoomed = Gone

-- the parent of a row, else the owner, or 0
abbrev pub up_of : WindowRow → Hwnd
up_of row = if row.parent.0 == 0 then row.owner else row.parent

-- The nearest window that isn't disabled, as the table of windows has it.
use Rattle.std.specs.Prelude.{if◌then◌else◌, ◌≡◌, ◌⊎◌, ℕ, zero, suc, true, List, Some, None}
use Rattle.win_rows.specs.declared.window.Window.{Window}
use Rattle.win_rows.specs.Windows.{Windows, window_of}
use Rattle.user_model.specs.declared.entry.Setup.{Setup}
use Rattle.user_model.specs.Legal.{IsLawful}
use Rattle.user_model.specs.Past.{Past}
use Rattle.user_model.specs.Targets.{enabled_at}
use Rattle.user_model.specs.Windows.{is_live}
use Rattle.window_state.specs.Placings.{disabled_in}
use Rattle.window_state.specs.Trees.{IsTreeAt}

-- the first of w, its parent, and so on, that isn't disabled, after so many steps up; 0 where there is none
abbrev pub enabled_from : ℕ → List Window → ℕ → ℕ
enabled_from zero ws w = 0
enabled_from (suc n) ws w = elim (window_of ws w) [ None ↦ 0 | Some x ↦ if disabled_in ws w then enabled_from n ws x.row.parent.0 else w ]

-- it is that of each past that has this table, for a live window or none
abbrev pub IsEnabledAt : Windows → ℕ → ℕ → Type 0
IsEnabledAt t w v = (setup : Setup) (past : Past) → IsLawful setup past → IsTreeAt past t → (w ≡ 0) ⊎ (is_live past w ≡ true) → v ≡ enabled_at past w

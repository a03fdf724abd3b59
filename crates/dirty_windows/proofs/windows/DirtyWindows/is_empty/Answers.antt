use Rattle.std.proofs.Common.{List, subst}
use Rattle.std.specs.Prelude.{◌↔◌, IsTrue}
use Rattle.dirty_windows.specs.declared.entries.DirtyWindow.{DirtyWindow}
use Rattle.dirty_windows.specs.LookUps.{IsAllClean}
use Rattle.dirty_windows.proofs.Cutting.{all_clean}
use Rattle.dirty_windows.proofs.windows.DirtyWindows.is_empty.Goals as goal

pub returns : goal.returns
returns c =
    let both = all_clean c.self.inside.entries.items c.self.invariant.rising in
    subst (λ (ds : List DirtyWindow). IsTrue c.self.inside.clean ↔ IsAllClean ds) c.self.view_is (λ h. both.0 (c.self.invariant.told.0 h), λ a. c.self.invariant.told.1 (both.1 a))

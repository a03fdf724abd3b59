use Rattle.std.proofs.Common.{List, true, refl, sym, subst}
use Rattle.std.proofs.lemmas.List.Elements.{All-nil}
use Rattle.dirty_windows.specs.declared.entries.DirtyWindow.{DirtyWindow}
use Rattle.dirty_windows.specs.LookUps.{AreKept, IsClean}
use Rattle.dirty_windows.proofs.windows.DirtyWindows.new.Goals as goal

pub invariant_of-result : goal.invariant_of-result
invariant_of-result c = subst (λ (ds : List DirtyWindow). AreKept ds true) (sym c.new.ensures.items) (record { rising = tt; told = (λ _. All-nil IsClean, λ _. refl) })

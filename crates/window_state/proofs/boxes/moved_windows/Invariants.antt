use Rattle.std.proofs.Common.{◌≡◌, filter, map, take}
use Rattle.win_rows.specs.Windows.{number_of}
use Rattle.window_state.specs.Boxes.{moved_in}
use Rattle.window_state.proofs.boxes.moved_windows.Given as goal

abbrev pub invariant-loop-k : goal.invariant-loop-k
invariant-loop-k l = l.moved.items ≡ filter (λ v. moved_in l.old.live l.new.live v.0) (take l.k (map number_of l.new.live))

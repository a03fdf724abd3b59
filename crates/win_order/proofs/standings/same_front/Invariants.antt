use Rattle.std.proofs.Common.{◌≡◌, take, map}
use Rattle.win_num.specs.declared.message.Hwnd.{Hwnd}
use Rattle.win_order.proofs.standings.same_front.Given as goal

abbrev pub invariant-loop-i : goal.invariant-loop-i
invariant-loop-i l = take l.i l.numbers ≡ map (λ (v : Hwnd). v.0) (take l.i l.windows)

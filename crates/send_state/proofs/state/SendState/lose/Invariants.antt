use Rattle.std.proofs.Common.{◌≡◌, ◌-◌, ◌≤◌, ℕ, Bool}
use Rattle.win_num.specs.declared.message.Hwnd.{Hwnd}
use Rattle.send_state.specs.Parts.{lost_to, rank}
use Rattle.send_state.proofs.state.SendState.lose.Given as goal

abbrev pub invariant-loop-send : goal.invariant-loop-send
invariant-loop-send g l = record {
  so_far : (test : ℕ → Bool) → ((w : Hwnd) (b : Bool) → goal.F-post g l.goes w b → b ≡ test w.0) → lost_to test (l.fn.self, rank l.place 0) l.last.0 ≡ (l.self, l.rank);
  begun : l.self.book.begun ≡ l.fn.self.book.begun;
  within : l.last.0 ≤ l.self.book.begun;
}

abbrev pub decreases-loop-send : goal.decreases-loop-send
decreases-loop-send g l = l.self.book.begun - l.last.0

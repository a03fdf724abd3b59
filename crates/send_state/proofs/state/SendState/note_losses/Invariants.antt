use Rattle.std.proofs.Common.{◌≡◌, ◌-◌, ◌≤◌, ℕ, Bool}
use Rattle.win_num.specs.declared.message.Hwnd.{Hwnd}
use Rattle.send_state.specs.Stories.{EachStory, noted_loss}
use Rattle.send_state.proofs.StoryLosses.{so_far}
use Rattle.send_state.proofs.state.SendState.note_losses.Given as goal

abbrev pub invariant-loop-send : goal.invariant-loop-send
invariant-loop-send g l = record {
  noted : (test : ℕ → Bool) → ((w : Hwnd) (b : Bool) → goal.F-post g l.goes w b → b ≡ test w.0) → EachStory (so_far (noted_loss test l.self l.place) l.last.0) l.fn.stories l.stories;
  within : l.last.0 ≤ l.self.book.begun;
}

abbrev pub decreases-loop-send : goal.decreases-loop-send
decreases-loop-send g l = l.self.book.begun - l.last.0

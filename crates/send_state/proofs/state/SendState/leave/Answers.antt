use Rattle.std.proofs.Common.{◌≡◌, ◌≤◌, ◌<◌, true, length, ap, sym, subst, ◌∙◌}
use Rattle.std.specs.List.{slice_get}
use Rattle.send_frames.specs.Book.{Book, stack_of}
use Rattle.send_state.specs.Parts.{SendParts, runs_callback}
use Rattle.send_state.proofs.Steps.{room_left}
use Rattle.send_state.proofs.state.SendState.leave.Goals as goal
use Rattle.send_state.proofs.state.SendState.leave.Goals.{in-Some+in-Called-1, in-Some+in-Some-Entered, in-None-1}

pub push-requires-clause-room : goal.push-requires-clause-room
push-requires-clause-room c =
    let stacks_of = λ (p : SendParts). p.book.stacks in
    let changed : c.match-frame.self.book.stacks ≡ c.args.self.now.book.stacks = elim c.match-frame.branch [
      | in-Some+in-Called-1 w ↦ ap stacks_of w.self-is
      | in-Some+in-Some-Entered w ↦ ap stacks_of w.self-is ∙ w.answer.ensures.stacks
      | in-None-1 w ↦ ap stacks_of w.self-is
    ] in
    let same = ap stacks_of c.self-2.view_is ∙ changed in
    let old = ap (λ (p : SendParts). p.book) c.self.view_is in
    let few : length (stack_of c.args.self.now.book c.args.who.0) ≤ 64 = subst (λ (b : Book). length (stack_of b c.args.who.0) ≤ 64) old (c.top-frame.ensures.sound.depth c.args.who.0) in
    let is_top = ap (λ (b : Book). slice_get (stack_of b c.args.who.0) 0) (sym old) ∙ sym c.top-frame.ensures.top in
    let runs : runs_callback c.args.self.now.book (slice_get (stack_of c.args.self.now.book c.args.who.0) 0) ≡ true =
    ap (runs_callback c.args.self.now.book) is_top ∙ sym c.runs_callback-runs_callback.ensures ∙ c.if-runs_callback.true in
    subst (λ (b : Book). length (stack_of b c.args.who.0) < 64) (sym c.pop.ensures.rest)
    (room_left c.args.self.now.book c.self-2.inside.sends c.args.self.now.book c.args.who.0 same c.requires.thread few runs)

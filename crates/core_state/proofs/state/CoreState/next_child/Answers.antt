use Rattle.std.proofs.Common.{◌≤◌, arith, reverse, ap, sym, ◌∙◌}
use Rattle.user_model.specs.Past.{Past}
use Rattle.win_num.specs.declared.message.Hwnd.{Hwnd}
use Rattle.user_model.specs.declared.entry.Answer.TheVariants as answers
use Rattle.user_model.specs.declared.entry.Answer.{Answer}
use Rattle.user_model.specs.ReplyWindows.{child_told}
use Rattle.core_state.specs.States.{Seen}
use Rattle.window_state.proofs.TreeAnswers.{next_child_great}
use Rattle.window_state.proofs.TreeFacts.{next_child_at}
use Rattle.core_state.proofs.state.CoreState.next_child.Goals as goal

pub returns-then-above-from : goal.returns-then-above-from
returns-then-above-from c =
    let s = c.self.inside in
    let past : Past = reverse s.history.items in
    let great : 4294967296 ≤ c.args.above = omega arith in
    sym (next_child_great s.setup past c.args.parent.0 c.args.above c.self.invariant.lawful great)
    ∙ ap (λ (v : Seen). child_told v.past c.args.parent.0 c.args.above) c.self.view_is

pub returns : goal.returns
returns c =
    let s = c.self.inside in
    let past : Past = reverse s.history.items in
    ap (λ (h : Hwnd). let a : Answer = answers.Window h in a) c.next_child.ensures
    ∙ sym (next_child_at past s.tree c.self.invariant.tree c.args.parent.0 c.args.above)
    ∙ ap (λ (v : Seen). child_told v.past c.args.parent.0 c.args.above) c.self.view_is

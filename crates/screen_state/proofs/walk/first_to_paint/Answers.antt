use Rattle.std.proofs.Common.{List, length, ap, sym, ◌∙◌}
use Rattle.std.proofs.lemmas.List.{length-map}
use Rattle.win_num.specs.declared.message.Hwnd.{Hwnd}
use Rattle.win_rows.specs.Windows.{number_of}
use Rattle.user_model.specs.Painting.{painting_order}
use Rattle.screen_state.specs.Walks.{first_painted}
use Rattle.screen_state.proofs.DirtyAt.{none_dirty}
use Rattle.screen_state.proofs.Walking.{none_painted}
use Rattle.window_state.proofs.TreeFacts.{length_at}
use Rattle.screen_state.proofs.walk.first_to_paint.Goals as goal

pub returns-then-is_empty : goal.returns-then-is_empty
returns-then-is_empty c setup past seen order = sym (none_painted setup past c.args.thread.0 c.args.filter (painting_order past) (λ v. none_dirty setup past v.0 (λ p. sym (seen.dirty v.0 p) ∙ c.is_empty.ensures.0 c.if-is_empty.true v.0 p)))

pub returns : goal.returns
returns c setup past seen order =
    c.first_below.ensures setup past seen order
    ∙ ap (λ n. first_painted setup past c.args.thread.0 c.args.filter n 0) (ap (λ (ws : List Hwnd). length ws) c.windows.ensures.numbers ∙ (length-map c.args.tree.now.live number_of ∙ sym (length_at past c.args.tree.now seen.tree)))

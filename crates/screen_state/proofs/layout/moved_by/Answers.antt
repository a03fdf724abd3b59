use Rattle.std.proofs.Common.{List, subst, sym}
use Rattle.win_num.specs.declared.message.Hwnd.{Hwnd}
use Rattle.window_state.specs.Boxes.{AreMoved}
use Rattle.screen_state.proofs.Unmoved.{none_moved, unlike_place}
use Rattle.screen_state.proofs.layout.moved_by.Goals as goal

pub returns-in_default-clause-moved : goal.returns-in_default-clause-moved
returns-in_default-clause-moved c =
    subst (λ (hs : List Hwnd). AreMoved c.args.tree.now c.args.layout.now.tree hs) (sym c.new.ensures.items)
    (none_moved c.args.tree.now c.args.layout.now.tree c.args.entry c.requires (unlike_place c.args.entry.call c.in_default.not-Place))

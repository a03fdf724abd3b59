use Rattle.std.proofs.Common.{◌++◌, ◌∷◌, [], List, sym, subst, arith}
use Rattle.win_rows.specs.declared.window.Window.{Window}
use Rattle.win_rows.specs.Windows.{RisesFrom}
use Rattle.win_tree.proofs.Copies.{rises_taken}
use Rattle.win_tree.proofs.tree.copied.Goals as goal

pub push-requires : goal.push-requires
push-requires c =
    let x = c.at.result.now in
    subst (λ (ws : List Window). RisesFrom 0 (ws ++ x ∷ [])) (sym c.loop-i.invariant) (rises_taken 0 c.args.windows.now c.loop-i.i x c.requires (omega arith) c.at.ensures)

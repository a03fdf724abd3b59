use Rattle.std.proofs.Common.{length, reverse, subst}
use Rattle.std.specs.Prelude.{◌≤◌}
use Rattle.clip_board.proofs.Steps.{lawful_short}
use Rattle.clip_board.proofs.clip.Clip.history.Goals as goal

pub returns-clause-few : goal.returns-clause-few
returns-clause-few c = subst (λ p. length p ≤ 2097152) c.self.view_is (lawful_short (reverse c.self.inside.entries.items) c.self.invariant.1)

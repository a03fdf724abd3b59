use Rattle.std.proofs.Common.{rules}
use Rattle.input_queue.proofs.Changing.{made_empty}
use Rattle.input_queue.proofs.rows.no_rows.Goals as goal

pub returns-clause-kept : goal.returns-clause-kept
returns-clause-kept c = (made_empty _ _ _ c.from_fn.ensures.items (λ p q i xs h. search rules)).kept

pub returns-clause-empty : goal.returns-clause-empty
returns-clause-empty c = (made_empty _ _ _ c.from_fn.ensures.items (λ p q i xs h. search rules)).is

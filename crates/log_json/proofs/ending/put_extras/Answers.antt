use Rattle.std.proofs.Common.{◌≡◌, ℕ, ◌+◌, ◌++◌, List, add-one}
use Rattle.user_io.proofs.Texts.{two}
use Rattle.user_model.specs.Threads.{from_each}
use Rattle.log_json.proofs.ending.put_extras.Goals as goal

-- the texts of one more thread
from_next : {A : Type 0} (gives : ℕ → List A) (n : ℕ) → from_each gives (n + 1) ≡ from_each gives n ++ gives (n + 1)
from_next gives n = rw add-one

pub loop-thread-preserved : goal.loop-thread-preserved
loop-thread-preserved g c = rw from_next (two c.loop-thread.invariant c.in_ok-put_extra.ensures)

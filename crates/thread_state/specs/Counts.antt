-- The posted messages of a thread and its quit, counted for the status.
use Rattle.std.specs.Prelude.{◌≡◌, ◌≤◌, ℕ, nat_lt, Bool, List, [], ◌∷◌, length, Option, Some, None}
use Rattle.win_num.specs.declared.message.Filter.{Filter}
use Rattle.post_queue.specs.Queue.{Posted, Queue}
use Rattle.queue_status.specs.declared.count.Count.{Count}
use Rattle.queue_status.specs.Counting.{both, counted}
use Rattle.thread_state.specs.Passing.{IsMissedBy}

-- whether a posted message came after the look at which there were so many posts
abbrev pub is_newer : ℕ → Posted → Bool
is_newer seen p = nat_lt seen p.number

-- the code of quit, in a list of at most one
abbrev pub quit_listed : Option ℕ → List ℕ
quit_listed None = []
quit_listed (Some code) = code ∷ []

-- quit, counted
abbrev pub quit_counted : Option ℕ → Bool → Count
quit_counted quit is_new = counted (λ code. is_new) (quit_listed quit)

-- the posted messages and quit, counted
abbrev pub posts_counted : ℕ → List Posted → Option ℕ → Bool → Count
posts_counted seen ps quit is_new = both (counted (is_newer seen) ps) (quit_counted quit is_new)

-- what is true of every thread's part
pub record IsSound (posts : Queue) (quit : Option ℕ) (is_new : Bool) (seen : ℕ) (posted : Count) (filter : Option Filter) : Type 0 where
  pub missed : IsMissedBy filter posts.posted
  pub limit : posts.limit ≡ 10000
  pub few : length posts.posted ≤ 10000
  pub counted : posted ≡ posts_counted seen posts.posted quit is_new

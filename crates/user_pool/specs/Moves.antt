-- Moves, and what is left of the order list.
use Rattle.std.specs.Prelude.{if◌then◌else◌, ◌≡◌, ℕ, ◌+◌, ◌<◌, ◌≤◌, ◌==◌, ◌&&◌, nat_lt, Bool, true, false, List, ◌∷◌, length, drop, find, slice_get, Option, Some}
use Rattle.user_model.specs.declared.entry.Entry.{Entry}
use Rattle.user_model.specs.Past.{Past}
use Rattle.user_model.specs.Threads.{is_thread, lowest}
use Rattle.user_model.specs.Idle.{is_idle}
use Rattle.script_tree.specs.Tree.{Tree}
use Rattle.log_text.specs.Ends.{setup_of, used}
use Rattle.user_pool.specs.Runs.{is_runnable, behind_first, left, choice, IsMove}

-- a thread of the script that isn't idle, and has some of its budget left
pub record CanMove (s : Tree) (past : Past) (t : ℕ) : Type 0 where
  pub known : is_thread (setup_of s) t ≡ true
  pub busy : is_idle (setup_of s) past t ≡ false
  pub remains : used past t < s.budget

-- the actor made one move
pub record HasGoneOn (s : Tree) (before now : Past) (actor : ℕ) : Type 0 where
  pub entry : Entry
  pub move : IsMove s before entry
  pub newest : now ≡ entry ∷ before
  pub who : entry.who.0 ≡ actor

-- the actor, who was chosen, made one move
pub record HasMoved (s : Tree) (before now : Past) (actor : ℕ) : Type 0 where
  pub entry : Entry
  pub move : IsMove s before entry
  pub chosen : choice s before ≡ Some entry.who.0
  pub newest : now ≡ entry ∷ before
  pub who : entry.who.0 ≡ actor

-- the numbers of the order list that are left once the actor has moved
abbrev pub left_after : Tree → Past → ℕ → List ℕ
left_after s past actor = if actor == 0 then left s past else behind_first (is_runnable s past) (left s past)

-- the first number from a place on that passes stands at this place, or none does and this is the list's end
pub record IsNextPlace (test : ℕ → Bool) (order : List ℕ) (from place : ℕ) : Type 0 where
  pub within : place ≤ length order
  pub found : find test (drop from order) ≡ slice_get order place
  pub behind : behind_first test (drop from order) ≡ drop (place + 1) order

-- the least thread above one number, and no higher than another, that can move
abbrev pub first_between : Tree → Past → ℕ → ℕ → Option ℕ
first_between s past low high = lowest (λ t. nat_lt low t && is_runnable s past t) high

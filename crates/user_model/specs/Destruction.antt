-- Marked windows, and the order of their destruction.
use Rattle.std.specs.Prelude.{ℕ, zero, suc, ◌==◌, Bool, false, not, List, [], ◌∷◌, ◌++◌, length, map, filter, find, Option}
use Rattle.std.specs.List.{flat_map}
use Rattle.user_model.specs.declared.call.Call.{Call}
use Rattle.user_model.specs.declared.call.Call.TheVariants.{Doom}
use Rattle.user_model.specs.declared.entry.Answer.{Answer}
use Rattle.user_model.specs.declared.entry.Answer.TheVariants.{Tell, Last}
use Rattle.user_model.specs.Past.{Past, ever}
use Rattle.user_model.specs.Windows.{Window, live, is_kin}

-- whether the call dooms the window, with its kin
abbrev pub dooms : Call → Past → ℕ → Bool
dooms (Doom v) past w = is_kin (live past) v w
dooms _ past w = false

-- a window is marked where a doom named it or one up from it
abbrev pub is_marked : Past → ℕ → Bool
is_marked past w = ever (λ e before. dooms e.call before w) past

-- the live windows that x owns, by number
abbrev pub owned_by : List Window → Window → List Window
owned_by ws x = filter (λ y. y.owner == x.number) ws

-- the live children of x, by number
abbrev pub children_of : List Window → Window → List Window
children_of ws x = filter (λ y. y.parent == x.number) ws

-- x's subtree, each window before its children; n bounds the depth
abbrev pub preorder : ℕ → List Window → Window → List Window
preorder zero ws x = []
preorder (suc n) ws x = x ∷ flat_map (preorder n ws) (children_of ws x)

-- x's subtree, each window after its children
abbrev pub postorder : ℕ → List Window → Window → List Window
postorder zero ws x = []
postorder (suc n) ws x = flat_map (postorder n ws) (children_of ws x) ++ x ∷ []

-- a step of a destruction: a window is told, or gets its last message
pub data Step : Type 0 where
  told : ℕ → Step
  ended : ℕ → Step

-- the window is told
abbrev pub told_step : Window → Step
told_step x = told x.number

-- the window gets its last message
abbrev pub ended_step : Window → Step
ended_step x = ended x.number

-- the order of destruction: that of each window that x owns; then x's subtree is told; then it ends
abbrev pub destruction : ℕ → List Window → Window → List Step
destruction zero ws x = []
destruction (suc n) ws x = flat_map (destruction n ws) (owned_by ws x) ++ (map told_step (preorder (suc n) ws x) ++ map ended_step (postorder (suc n) ws x))

-- the order of x's destruction, where these windows are live
abbrev pub destruction_of : List Window → Window → List Step
destruction_of ws x = destruction (length ws) ws x

-- whether two steps are one
abbrev pub same_step : Step → Step → Bool
same_step (told v) (told w) = v == w
same_step (ended v) (ended w) = v == w
same_step (told v) (ended w) = false
same_step (ended v) (told w) = false

-- whether an answer gives the step
abbrev pub gives : Answer → Step → Bool
gives (Tell v) i = same_step (told v.0) i
gives (Last v) i = same_step (ended v.0) i
gives _ i = false

-- whether some entry gave the step
abbrev pub was_given : Past → Step → Bool
was_given past i = ever (λ e before. gives e.answer i) past

-- the first step of x's destruction that wasn't given
abbrev pub next_step : Past → Window → Option Step
next_step past x = find (λ i. not (was_given past i)) (destruction_of (live past) x)

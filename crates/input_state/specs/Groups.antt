-- Attached threads, and who reaches whom.
use Rattle.std.specs.Prelude.{if◌then◌else◌, ◌≡◌, ℕ, ◌<◌, ◌==◌, ◌↔◌, Bool, ◌&&◌, ◌||◌, List, slice_index}
use Rattle.std.specs.Int.{bit_at}

-- whether a set of threads has t: it has bit t for thread t
abbrev pub has_bit : ℕ → ℕ → Bool
has_bit mask t = bit_at mask t == 1

-- 1 where the links join u to v, else 0
abbrev pub link_at : List ℕ → ℕ → ℕ → ℕ
link_at links u v = bit_at (slice_index links u) v

-- whether the links join u to v
abbrev pub has_link : List ℕ → ℕ → ℕ → Bool
has_link links u v = has_bit (slice_index links u) v

-- whether u and v are a and b, in either order
abbrev pub is_pair : ℕ → ℕ → ℕ → ℕ → Bool
is_pair a b u v = (u == a) && (v == b) || (u == b) && (v == a)

-- the links join u to v
pub record Joins (links : List ℕ) (u v : ℕ) : Type 0 where
  pub from : u < 16
  pub to : v < 16
  pub link : link_at links u v ≡ 1

-- u reaches v: by no step, or by steps that each go from a thread to one that it is joined to
pub data Reaches (joins : ℕ → ℕ → Type 0) : ℕ → ℕ → Type 0 where
  here : {t : ℕ} → Reaches joins t t
  step : {t u v : ℕ} → Reaches joins t u → joins u v → Reaches joins t v

-- the groups are those that the joined pairs make: u is in the group of t where t reaches it
abbrev pub IsClosure : (ℕ → ℕ → Type 0) → List ℕ → Type 0
IsClosure joins groups = (t u : ℕ) → t < 16 → u < 16 → (bit_at (slice_index groups t) u ≡ 1) ↔ Reaches joins t u

-- the links of a thread undone, and all others as they were
abbrev pub EndsLinks : List ℕ → List ℕ → ℕ → Type 0
EndsLinks old new t = (u v : ℕ) → u < 16 → v < 16 → link_at new u v ≡ (if (u == t) || (v == t) then 0 else link_at old u v)

-- who is joined to whom is so in both directions
abbrev pub IsMutual : List ℕ → Type 0
IsMutual links = (u v : ℕ) → u < 16 → v < 16 → link_at links u v ≡ link_at links v u

-- the links with the pair set to 1 or 0, and all others as they were
abbrev pub SetsPair : List ℕ → List ℕ → ℕ → ℕ → ℕ → Type 0
SetsPair old new a b bit = (u v : ℕ) → u < 16 → v < 16 → link_at new u v ≡ (if is_pair a b u v then bit else link_at old u v)

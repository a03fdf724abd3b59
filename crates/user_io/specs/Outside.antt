-- What a read and a write do to what is left, to what is held, and to the counts of faults.
use Rattle.std.specs.Prelude.{◌≡◌, ℕ, ◌+◌, ◌-◌, ◌^◌, ◌≤◌, ◌<◌, min, List, ◌++◌, length, take, Option}
use Rattle.std.specs.Io.KnownBytes.{Consumes, Appends, Keeps, IsAtEnd}
use Rattle.user_io.specs.declared.traits.Took.{Took as TookType}
use Rattle.user_io.specs.declared.traits.Took.TheVariants as tooks
use Rattle.user_io.specs.declared.traits.Put.{Put as PutType}
use Rattle.user_io.specs.declared.traits.Put.TheVariants as puts

-- a count of faults after one more fault
abbrev pub one_more : ℕ → ℕ
one_more count = min (count + 1) (2 ^ 64 - 1)

-- the count has risen, or stands at its last value
abbrev pub Rose : ℕ → ℕ → Type 0
Rose before now = one_more before ≤ now

-- n bytes moved from what is left into the front of the buffer
pub record Moved (left left' : Option (List ℕ)) (buf : List ℕ) (n : ℕ) : Type 0 where
  pub within : n ≤ length buf
  pub some : 0 < length buf → 0 < n
  pub bytes : Consumes left left' (take n buf)

-- what a read did, by its answer
abbrev pub IsTaken : Option (List ℕ) → Option (List ℕ) → ℕ → ℕ → List ℕ → TookType → Type 0
IsTaken left left' faults faults' buf (tooks.Took n) = Moved left left' buf n
IsTaken left left' faults faults' buf tooks.End = Keeps left left' × IsAtEnd left'
IsTaken left left' faults faults' buf tooks.Failed = Keeps left left' × Rose faults faults'

-- the first n bytes of the piece were appended
pub record Appended (holds holds' : Option (List ℕ)) (buf : List ℕ) (n : ℕ) : Type 0 where
  pub within : n ≤ length buf
  pub some : 0 < length buf → 0 < n
  pub bytes : Appends holds holds' (take n buf)

-- what a write did, by its answer
abbrev pub IsPut : Option (List ℕ) → Option (List ℕ) → ℕ → ℕ → List ℕ → PutType → Type 0
IsPut holds holds' faults faults' buf (puts.Put n) = Appended holds holds' buf n
IsPut holds holds' faults faults' buf puts.Failed = Keeps holds holds' × Rose faults faults'

-- a read leaves the count of faults unless it failed
abbrev pub CountsRead : ℕ → ℕ → TookType → Type 0
CountsRead faults faults' (tooks.Took n) = faults' ≡ faults
CountsRead faults faults' tooks.End = faults' ≡ faults
CountsRead faults faults' tooks.Failed = faults ≤ faults'

-- a write leaves the count of faults unless it failed
abbrev pub CountsWrite : ℕ → ℕ → PutType → Type 0
CountsWrite faults faults' (puts.Put n) = faults' ≡ faults
CountsWrite faults faults' puts.Failed = faults ≤ faults'

-- the count of faults after a read, where nothing but `Failed` is counted
abbrev pub faults_after_read : ℕ → TookType → ℕ
faults_after_read count (tooks.Took n) = count
faults_after_read count tooks.End = count
faults_after_read count tooks.Failed = one_more count

-- the count of faults after a write, where nothing but `Failed` is counted
abbrev pub faults_after_write : ℕ → PutType → ℕ
faults_after_write count (puts.Put n) = count
faults_after_write count puts.Failed = one_more count

-- a front of the text was written
abbrev pub AppendsPart : Option (List ℕ) → Option (List ℕ) → List ℕ → Type 0
AppendsPart holds holds' text = (front : List ℕ) × (rest : List ℕ) × (text ≡ front ++ rest) × Appends holds holds' front

-- exactly n bytes were read
abbrev pub ConsumesMany : Option (List ℕ) → Option (List ℕ) → ℕ → Type 0
ConsumesMany left left' n = (text : List ℕ) × Consumes left left' text × (length text ≡ n)

-- n bytes were read, or fewer
abbrev pub ConsumesUpTo : Option (List ℕ) → Option (List ℕ) → ℕ → Type 0
ConsumesUpTo left left' n = (text : List ℕ) × Consumes left left' text × (length text ≤ n)

-- What the source and the sink in memory show to contracts, and what a call does to it.
use Rattle.std.specs.Prelude.{◌≡◌, ℕ, ◌-◌, ◌==◌, ◌&&◌, nat_lt, if◌then◌else◌, min, List, [], ◌++◌, length, take, drop, Contains, ◌↔◌, ⊤}
use Rattle.user_io.specs.declared.traits.Took.{Took as TookType}
use Rattle.user_io.specs.declared.traits.Took.TheVariants as tooks
use Rattle.user_io.specs.declared.traits.Put.{Put as PutType}
use Rattle.user_io.specs.declared.traits.Put.TheVariants as puts
use Rattle.user_io.specs.Outside.{one_more, faults_after_read, faults_after_write}

-- what is left, the most bytes of a call, the calls that fail, how many calls were made, and how many failed
pub record MemReading : Type 0 where
  pub left : List ℕ
  pub piece : ℕ
  pub fail : List ℕ
  pub calls : ℕ
  pub faults : ℕ

-- how many bytes a read took
abbrev pub taken_count : TookType → ℕ
taken_count (tooks.Took n) = n
taken_count tooks.End = 0
taken_count tooks.Failed = 0

-- a source in memory after a read: one call more, and what was taken is no longer left
abbrev pub after_read : MemReading → TookType → MemReading
after_read m took = record { left = drop (taken_count took) m.left; piece = m.piece; fail = m.fail; calls = one_more m.calls; faults = faults_after_read m.faults took }

-- a read takes all that is left, a piece, or what the buffer holds, whichever is least
abbrev pub TakesMost : MemReading → List ℕ → TookType → Type 0
TakesMost m buf (tooks.Took n) = n ≡ min (min (length m.left) m.piece) (length buf)
TakesMost m buf tooks.End = m.left ≡ []
TakesMost m buf tooks.Failed = ⊤

-- what a read of a source in memory does: exactly the listed calls fail
pub record MemRead (old new : MemReading) (buf : List ℕ) (took : TookType) : Type 0 where
  pub next : new ≡ after_read old took
  pub fails : (took ≡ tooks.Failed) ↔ Contains old.fail old.calls
  pub most : TakesMost old buf took

-- what was written, how many bytes there is room for, and how many calls failed
pub record MemWriting : Type 0 where
  pub held : List ℕ
  pub room : ℕ
  pub faults : ℕ

-- how many bytes a write put
abbrev pub put_count : PutType → ℕ
put_count (puts.Put n) = n
put_count puts.Failed = 0

-- a sink in memory after a write
abbrev pub after_write : MemWriting → List ℕ → PutType → MemWriting
after_write m buf put = record { held = m.held ++ take (put_count put) buf; room = m.room; faults = faults_after_write m.faults put }

-- what a write of so many bytes to a sink in memory answers: it takes what fits, and fails where nothing of a piece does
abbrev pub mem_put : MemWriting → ℕ → PutType
mem_put m n = if min (m.room - length m.held) n == 0 && nat_lt 0 n then puts.Failed else puts.Put (min (m.room - length m.held) n)

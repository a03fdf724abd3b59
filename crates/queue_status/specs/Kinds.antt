-- How many messages of each of the seven kinds there are, how many of them came since the last look, and their bits.
use Rattle.std.specs.Prelude.{if◌then◌else◌, ℕ, ◌==◌, ◌+◌, ◌≤◌, Bool, true, false}
use Rattle.win_num.specs.declared.names.TheConstants.{QS_KEY, QS_MOUSEBUTTON, QS_MOUSEMOVE, QS_PAINT, QS_POSTMESSAGE, QS_SENDMESSAGE, QS_TIMER}
use Rattle.queue_status.specs.declared.count.Count.{Count}
use Rattle.queue_status.specs.Counts.{none_there}

-- the counts of the seven kinds
pub record Counts : Type 0 where
  pub key : Count
  pub moved : Count
  pub button : Count
  pub posted : Count
  pub timer : Count
  pub paint : Count
  pub sent : Count

-- every count changed so
abbrev pub of_each : (Count → Count) → Counts → Counts
of_each f s = record { key = f s.key; moved = f s.moved; button = f s.button; posted = f s.posted; timer = f s.timer; paint = f s.paint; sent = f s.sent }

-- no message of any kind
abbrev pub no_counts : Counts
no_counts = record { key = none_there; moved = none_there; button = none_there; posted = none_there; timer = none_there; paint = none_there; sent = none_there }

-- no more are fresh than are there
pub record IsSound (s : Counts) : Type 0 where
  pub key : s.key.fresh ≤ s.key.there
  pub moved : s.moved.fresh ≤ s.moved.there
  pub button : s.button.fresh ≤ s.button.there
  pub posted : s.posted.fresh ≤ s.posted.there
  pub timer : s.timer.fresh ≤ s.timer.there
  pub paint : s.paint.fresh ≤ s.paint.there
  pub sent : s.sent.fresh ≤ s.sent.there

-- the count of the kind with this bit; of a number that is no kind's, none
abbrev pub count_of : ℕ → Counts → Count
count_of bit s =
    if bit == QS_KEY then s.key
    else (if bit == QS_MOUSEMOVE then s.moved
    else (if bit == QS_MOUSEBUTTON then s.button
    else (if bit == QS_POSTMESSAGE then s.posted
    else (if bit == QS_TIMER then s.timer
    else (if bit == QS_PAINT then s.paint
    else (if bit == QS_SENDMESSAGE then s.sent
    else none_there))))))

-- the count of that kind changed so, all others the same
abbrev pub changed : ℕ → (Count → Count) → Counts → Counts
changed bit f s =
    if bit == QS_KEY then record s { key = f s.key }
    else (if bit == QS_MOUSEMOVE then record s { moved = f s.moved }
    else (if bit == QS_MOUSEBUTTON then record s { button = f s.button }
    else (if bit == QS_POSTMESSAGE then record s { posted = f s.posted }
    else (if bit == QS_TIMER then record s { timer = f s.timer }
    else (if bit == QS_PAINT then record s { paint = f s.paint }
    else (if bit == QS_SENDMESSAGE then record s { sent = f s.sent }
    else s))))))

-- a kind's bit, where there is what it stands for
abbrev pub bit_where : Bool → ℕ → ℕ
bit_where true bit = bit
bit_where false bit = 0

-- the bits of the kinds whose count passes
abbrev pub bits_where : (Count → Bool) → Counts → ℕ
bits_where test s =
    bit_where (test s.key) QS_KEY
    + bit_where (test s.moved) QS_MOUSEMOVE
    + bit_where (test s.button) QS_MOUSEBUTTON
    + bit_where (test s.posted) QS_POSTMESSAGE
    + bit_where (test s.timer) QS_TIMER
    + bit_where (test s.paint) QS_PAINT
    + bit_where (test s.sent) QS_SENDMESSAGE

-- What an answer tells of its call, for sends, frames and what is served.
use Rattle.std.proofs.Common.{◌≡◌, ℕ, Bool, true, false, refl, sym}
use Rattle.std.specs.Prelude.{◌⊎◌}
use Rattle.std.proofs.lemmas.Bool.{false≢true}
use Rattle.user_model.specs.declared.call.Call.{Call}
use Rattle.user_model.specs.declared.call.Call.TheVariants.{EndThread}
use Rattle.user_model.specs.declared.entry.Answer.{Answer}
use Rattle.user_model.specs.declared.entry.Answer.TheVariants as answers
use Rattle.user_model.specs.declared.entry.Setup.{Setup}
use Rattle.user_model.specs.Past.{Past}
use Rattle.user_model.specs.Replies.{row}
use Rattle.user_model.specs.Idle.{reply}
use Rattle.user_model.proofs.ReplyLaws.{ByRow, by_row, is_of_thread}
use Rattle.user_model.proofs.AnswerFacts.{IsMade, IsInside, IsEntry, IsResult, IsInsideResult, IsLeft, IsDone, IsCalled, Says}
use Rattle.user_model.proofs.RowFacts.{row_said, says_of}

-- what the answer tells
abbrev pub Tells : Past → ℕ → Call → Answer → Type 0
Tells past who call (answers.Inside s proc_no) = IsInside past who call s.0 proc_no
Tells past who call (answers.Begun s) = IsMade past who call s.0 false
Tells past who call (answers.Enter s proc_no w message wparam lparam) = IsEntry past who call s.0 proc_no w.0 message wparam lparam
Tells past who call (answers.Callback s proc_no w message extra result) = IsResult past who call s.0 proc_no w.0 message extra result ⊎ IsInsideResult past who call s.0 proc_no w.0 message extra result
Tells past who call (answers.Left s) = IsLeft past who call s.0
Tells past who call (answers.Done result cause) = IsDone past who call result cause
Tells past who call (answers.Called proc_no) = IsCalled past who call proc_no
Tells past who call answers.Ended = call ≡ EndThread
Tells past who call _ = Unit {0}

pub record Told (past : Past) (who : ℕ) (call : Call) (a : Answer) : Type 0 where
  pub tells : Tells past who call a

abbrev pub is_of_sends : Answer → Bool
is_of_sends (answers.Inside s proc_no) = true
is_of_sends (answers.Begun s) = true
is_of_sends (answers.Enter s proc_no w message wparam lparam) = true
is_of_sends (answers.Callback s proc_no w message extra result) = true
is_of_sends (answers.Left s) = true
is_of_sends (answers.Done result cause) = true
is_of_sends (answers.Called proc_no) = true
is_of_sends answers.Ended = true
is_of_sends _ = false

pub record IsPlain (a : Answer) : Type 0 where
  pub misses : is_of_sends a ≡ false

pub plain_told : (past : Past) (who : ℕ) (call : Call) (a : Answer) → IsPlain a → Told past who call a
plain_told past who call a h = record { tells = by a h.misses }
  where
    by : (a : Answer) → is_of_sends a ≡ false → Tells past who call a
    by (answers.Inside s proc_no) h = absurd (false≢true (sym h))
    by (answers.Begun s) h = absurd (false≢true (sym h))
    by (answers.Enter s proc_no w message wparam lparam) h = absurd (false≢true (sym h))
    by (answers.Callback s proc_no w message extra result) h = absurd (false≢true (sym h))
    by (answers.Left s) h = absurd (false≢true (sym h))
    by (answers.Done result cause) h = absurd (false≢true (sym h))
    by (answers.Called proc_no) h = absurd (false≢true (sym h))
    by answers.Ended h = absurd (false≢true (sym h))
    by _ h = tt

-- what an answer says, as far as sends go
of_sends : (setup : Setup) (past : Past) (who : ℕ) (call : Call) (a : Answer) → Says setup past who call a → Tells past who call a
of_sends setup past who call (answers.Inside s proc_no) h = h
of_sends setup past who call (answers.Begun s) h = h
of_sends setup past who call (answers.Enter s proc_no w message wparam lparam) h = h
of_sends setup past who call (answers.Callback s proc_no w message extra result) h = h
of_sends setup past who call (answers.Left s) h = h
of_sends setup past who call (answers.Done result cause) h = h
of_sends setup past who call (answers.Called proc_no) h = h
of_sends setup past who call answers.Ended h = h
of_sends setup past who call _ h = tt

-- what the answer of a call tells
pub row_told : (setup : Setup) (past : Past) (who : ℕ) (call : Call) → Told past who call (row setup past who call)
row_told setup past who call = record { tells = of_sends setup past who call (row setup past who call) (row_said setup past who call).says }

pub of_thread : (a : Answer) → is_of_sends a ≡ true → is_of_thread a ≡ true
of_thread (answers.Refused code) h = absurd (false≢true h)
of_thread answers.Stuck h = absurd (false≢true h)
of_thread (answers.Advanced v) h = absurd (false≢true h)
of_thread (answers.Busy t) h = absurd (false≢true h)
of_thread (answers.Value v) h = absurd (false≢true h)
of_thread _ h = refl

-- what the answer of an entry of a lawful past tells: the caller runs and its stack allows the call
pub entry_told : (setup : Setup) (past : Past) (who : ℕ) (call : Call) (a : Answer) → reply setup past who call ≡ a → is_of_sends a ≡ true → ByRow setup past who call a × Tells past who call a
entry_told setup past who call a e h =
    let by = by_row setup past who call a e (of_thread a h) in
    (by, of_sends setup past who call a (says_of setup past who call a by.is_row))

-- How many sends came to what.
use Rattle.std.specs.Prelude.{ℕ, Bool, true, false, length, count_by, Option, Some, None}
use Rattle.win_num.specs.declared.send.Cause.{Cause}
use Rattle.win_num.specs.declared.send.Cause.TheVariants.{Proc, Reply, Loss, Timeout, Hung}
use Rattle.user_model.specs.declared.entry.SendCount.{SendCount}
use Rattle.user_model.specs.Past.{Past}
use Rattle.user_model.specs.Sends.{Outcome, sends, answer, is_entered, unfinished}

-- whether a cause counts as this one: a send that ended because its receiver was hung counts as timed out
abbrev pub same_cause : Cause → Cause → Bool
same_cause Proc Proc = true
same_cause Reply Reply = true
same_cause Loss Loss = true
same_cause Timeout Timeout = true
same_cause Hung Timeout = true
same_cause _ _ = false

-- whether there is an answer with the cause
abbrev pub has_cause : Cause → Option Outcome → Bool
has_cause cause (Some o) = same_cause o.cause cause
has_cause cause None = false

-- how many sends were answered by the cause
abbrev pub count_of_cause : Past → Cause → ℕ
count_of_cause past cause = count_by (λ x. has_cause cause (answer past x.number)) (sends past)

-- all counts at once
abbrev pub send_count : Past → SendCount
send_count past = record {
  begun = length (sends past);
  entered = count_by (λ x. is_entered past x.number) (sends past);
  by_proc = count_of_cause past Proc;
  by_reply = count_of_cause past Reply;
  by_loss = count_of_cause past Loss;
  by_timeout = count_of_cause past Timeout;
  unfinished = length (unfinished past);
}

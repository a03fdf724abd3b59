-- The statuses of the program.
use Rattle.std.specs.Prelude.{ℕ, Result, Ok, Err}
use Rattle.log_text.specs.declared.end.End.{End}
use Rattle.log_text.specs.declared.end.End.TheVariants as ends
use Rattle.log_text.specs.declared.writer.WriteFault.{WriteFault}
use Rattle.log_text.specs.declared.writer.WriteFault.TheVariants.{Write, Memory as OutOfMemory}
use Rattle.user_app.specs.declared.status.Status.{Status}
use Rattle.user_app.specs.declared.status.Status.TheVariants as statuses

-- the exit status of the process
abbrev pub number_of : Status → ℕ
number_of statuses.Done = 0
number_of statuses.Words = 2
number_of statuses.Script = 3
number_of statuses.Stuck = 4
number_of statuses.Spent = 5
number_of statuses.Illegal = 6
number_of statuses.ReadFault = 7
number_of statuses.WriteFault = 8
number_of statuses.Memory = 9
number_of statuses.WrongCall = 10

-- the status that the end of a run gives
abbrev pub status_of : End → Status
status_of ends.Done = statuses.Done
status_of ends.Stuck = statuses.Stuck
status_of ends.Spent = statuses.Spent
status_of ends.Cut = statuses.Spent

-- the status where a text was written whole, or by a fault in part
abbrev pub written_status : Result (Unit {0}) WriteFault → End → Status
written_status (Ok u) end = status_of end
written_status (Err Write) end = statuses.WriteFault
written_status (Err OutOfMemory) end = statuses.Memory

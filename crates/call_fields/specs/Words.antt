-- The words of sources, causes and codes.
use Rattle.std.specs.Prelude.{ℕ, List, Option, Some, None, codes}
use Rattle.win_num.specs.declared.code.Code.{Code}
use Rattle.win_num.specs.declared.code.Code.TheVariants as codes_of
use Rattle.win_num.specs.declared.send.Cause.{Cause}
use Rattle.win_num.specs.declared.send.Cause.TheVariants as causes
use Rattle.user_model.specs.declared.entry.Origin.{Origin}
use Rattle.user_model.specs.declared.entry.Origin.TheVariants as origins

-- where a message came from
abbrev pub source_word : Origin → List ℕ
source_word origins.Posted = codes "posted"
source_word origins.Quit = codes "quit"
source_word origins.Input = codes "input"
source_word origins.Paint = codes "paint"
source_word origins.Timer = codes "timer"

-- how a send came to its answer
abbrev pub cause_word : Cause → List ℕ
cause_word causes.Proc = codes "proc"
cause_word causes.Reply = codes "reply"
cause_word causes.Loss = codes "loss"
cause_word causes.Timeout = codes "timeout"
cause_word causes.Hung = codes "hung"

-- the word of a code that is no number of Windows
abbrev pub code_word : Code → Option (List ℕ)
code_word (codes_of.Win n) = None
code_word codes_of.Full = Some (codes "full")
code_word codes_of.NotNow = Some (codes "not_now")
code_word codes_of.NoTarget = Some (codes "no_target")

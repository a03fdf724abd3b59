-- What a get or a peek looks for.
use Rattle.std.specs.Prelude.{if◌then◌else◌, ℕ, nat_lt, Option, Some, None}
use Rattle.win_num.specs.declared.code.Code.{Code}
use Rattle.win_num.specs.declared.message.Filter.{Filter}
use Rattle.user_model.specs.declared.call.Call.{Call}
use Rattle.user_model.specs.declared.call.Call.TheVariants.{Get, Peek}
use Rattle.user_model.specs.declared.entry.Setup.{Setup}
use Rattle.user_model.specs.declared.entry.Answer.{Answer}
use Rattle.user_model.specs.declared.entry.Answer.TheVariants.{Nothing, Wait}
use Rattle.user_model.specs.Past.{Past, or_else}
use Rattle.user_model.specs.Filters.{filter_of, is_no_filter_window}
use Rattle.user_model.specs.Next.{next_input, next_paint, next_quit, next_timer}
use Rattle.user_model.specs.Refusals.{invalid_parameter, invalid_window_handle}

-- the filter of a get or a peek
abbrev pub filter_in : Call → Filter
filter_in (Get w min max) = filter_of w min max
filter_in (Peek w min max flags) = filter_of w min max
filter_in _ = filter_of 0 0 0

-- the answer where no message is there
abbrev pub none_found : Call → Answer
none_found (Get w min max) = Wait
none_found _ = Nothing

-- the refusal of a filter that no message is looked for with, or of flags that there aren't
abbrev pub filter_refusal : Past → ℕ → Call → Option Code
filter_refusal past who (Get w min max) = if is_no_filter_window past who w then Some invalid_window_handle else None
filter_refusal past who (Peek w min max flags) = if nat_lt 3 flags then Some invalid_parameter else if is_no_filter_window past who w then Some invalid_window_handle else None
filter_refusal past who _ = None

-- quit, else input, else painting, else a timer
abbrev pub next_unposted : Setup → Past → ℕ → Filter → Option Answer
next_unposted setup past t f = or_else (next_quit past t) (or_else (next_input setup past t f) (or_else (next_paint setup past t f) (next_timer past t f)))

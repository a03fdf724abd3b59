-- How many posted messages a retrieval reads.
use Rattle.std.specs.Prelude.{ℕ, ◌==◌, Bool, false, ◌&&◌}
use Rattle.win_num.specs.declared.message.Filter.{Filter}
use Rattle.user_model.specs.declared.call.Call.{Call}
use Rattle.user_model.specs.declared.call.Call.TheVariants.{Get, Peek}
use Rattle.user_model.specs.Past.{Past}
use Rattle.user_model.specs.Filters.{filter_of}
use Rattle.user_model.specs.Posts.{passes, posted}
use Rattle.thread_state.specs.Reads.{reads}

-- those posted to t up to the first that the filter lets pass, or all of them where it lets none pass
abbrev pub reads_for : Past → ℕ → Filter → ℕ
reads_for past t f = reads (passes past f) (posted past t)

-- those of a get or a peek, up to the one that it answers
abbrev pub reads_by : Past → ℕ → Call → ℕ
reads_by past t (Get w min max) = reads_for past t (filter_of w min max)
reads_by past t (Peek w min max flags) = reads_for past t (filter_of w min max)
reads_by past t _ = 0

-- whether it is a get or a peek that lets every message pass
abbrev pub is_unfiltered : Call → Bool
is_unfiltered (Get w min max) = (w == 0) && (min == 0) && (max == 0)
is_unfiltered (Peek w min max flags) = (w == 0) && (min == 0) && (max == 0)
is_unfiltered _ = false

-- The answers of the calls that post and retrieve messages, and of the one that asks which are there.
use Rattle.std.specs.Prelude.{ℕ, suc, ◌==◌, nat_lt, nat_le, Bool, not, ◌||◌, length, unwrap_or}
use Rattle.user_model.specs.declared.entry.Setup.{Setup}
use Rattle.user_model.specs.declared.entry.Answer.{Answer}
use Rattle.user_model.specs.declared.entry.Answer.TheVariants.{Nothing, Wait, Posted, Value}
use Rattle.user_model.specs.Past.{Past}
use Rattle.user_model.specs.Windows.{is_live}
use Rattle.user_model.specs.Filters.{filter_of, is_no_filter_window}
use Rattle.user_model.specs.Posts.{posts, posted, queue_of}
use Rattle.user_model.specs.Next.{next}
use Rattle.user_model.specs.Status.{status}
use Rattle.user_model.specs.Refusals.{refuse, is_no_message, invalid_parameter, invalid_window_handle, invalid_thread_id, not_enough_quota}
use Rattle.user_model.specs.Setups.{post_limit}
use Rattle.user_model.specs.Threads.{is_running}

-- the next message, or none
abbrev pub peek_reply : Setup → Past → ℕ → ℕ → ℕ → ℕ → ℕ → Answer
peek_reply setup past who w min max flags = refuse (nat_lt 3 flags) invalid_parameter (refuse (is_no_filter_window past who w) invalid_window_handle (unwrap_or (next setup past who (filter_of w min max)) Nothing))

-- the next message, or to wait
abbrev pub get_reply : Setup → Past → ℕ → ℕ → ℕ → ℕ → Answer
get_reply setup past who w min max = refuse (is_no_filter_window past who w) invalid_window_handle (unwrap_or (next setup past who (filter_of w min max)) Wait)

-- the number that the next post gets
abbrev pub next_post_number : Past → ℕ
next_post_number past = suc (length (posts past))

-- the post is made where the thread has fewer than its limit
abbrev pub post_to : Setup → Past → ℕ → Answer
post_to setup past t = refuse (nat_le (post_limit setup t) (length (posted past t))) not_enough_quota (Posted (next_post_number past))

-- whether w is neither 0 nor a live window
abbrev pub is_no_post_window : Past → ℕ → Bool
is_no_post_window past w = not ((w == 0) || is_live past w)

-- a post to a window, or for 0 to the caller
abbrev pub post_reply : Setup → Past → ℕ → ℕ → ℕ → Answer
post_reply setup past who w number = refuse (is_no_message number) invalid_parameter (refuse (is_no_post_window past w) invalid_window_handle (post_to setup past (queue_of past who w)))

-- a post to a thread that hasn't ended
abbrev pub post_thread_reply : Setup → Past → ℕ → ℕ → Answer
post_thread_reply setup past t number = refuse (is_no_message number) invalid_parameter (refuse (not (is_running setup past t)) invalid_thread_id (post_to setup past t))

-- what is there, and what came since the last look, as far as the flags ask for it
abbrev pub status_reply : Setup → Past → ℕ → ℕ → Answer
status_reply setup past who flags = refuse (nat_lt 127 flags) invalid_parameter (Value (status setup past who flags))

-- The answer of a get or a peek by what it is refused with, or by what it finds.
use Rattle.std.proofs.Common.{◌≡◌, ◌∙◌, ℕ, Bool, true, false, cond, Some, None, refl, ap}
use Rattle.std.specs.Prelude.{unwrap_or, nat_lt}
use Rattle.std.proofs.lemmas.Bool.{false≢true}
use Rattle.win_num.specs.declared.code.Code.{Code}
use Rattle.win_num.specs.declared.message.Filter.{Filter}
use Rattle.user_model.specs.declared.call.Call.{Call}
use Rattle.user_model.specs.declared.call.Call.TheVariants.{Get, Peek}
use Rattle.user_model.specs.declared.entry.Answer.{Answer}
use Rattle.user_model.specs.declared.entry.Answer.TheVariants.{Nothing, Refused, Wait}
use Rattle.user_model.specs.declared.entry.Setup.{Setup}
use Rattle.user_model.specs.Past.{Past}
use Rattle.user_model.specs.Filters.{filter_of, is_no_filter_window}
use Rattle.user_model.specs.Next.{next}
use Rattle.user_model.specs.Refusals.{refuse, invalid_parameter, invalid_window_handle}
use Rattle.user_model.specs.Replies.{row}
use Rattle.core_deliver.specs.Groups.{is_retrieval}
use Rattle.core_deliver.specs.Reads.{reads_by, reads_for}
use Rattle.core_deliver.specs.Searches.{filter_in, filter_refusal, none_found}

code_told : (b : Bool) (k code : Code) (y : Answer) → cond b (Some k) None ≡ Some code → Refused code ≡ refuse b k y
code_told true k code y e = cc
code_told false k code y e = cc

codes_told : (a b : Bool) (j k code : Code) (y : Answer) → cond a (Some j) (cond b (Some k) None) ≡ Some code → Refused code ≡ refuse a j (refuse b k y)
codes_told true b j k code y e = cc
codes_told false b j k code y e = code_told b k code y e

none_told : (b : Bool) (k : Code) (y : Answer) → cond b (Some k) None ≡ None → y ≡ refuse b k y
none_told true k y e = cc
none_told false k y e = refl

nones_told : (a b : Bool) (j k : Code) (y : Answer) → cond a (Some j) (cond b (Some k) None) ≡ None → y ≡ refuse a j (refuse b k y)
nones_told true b j k y e = cc
nones_told false b j k y e = none_told b k y e

-- what it is refused with is its answer
pub refused_is_row : (setup : Setup) (past : Past) (t : ℕ) (call : Call) (code : Code) → is_retrieval call ≡ true → filter_refusal past t call ≡ Some code → Refused code ≡ row setup past t call
refused_is_row setup past t (Get w min max) code h e = code_told (is_no_filter_window past t w) invalid_window_handle code (unwrap_or (next setup past t (filter_of w min max)) Wait) e
refused_is_row setup past t (Peek w min max flags) code h e = codes_told (nat_lt 3 flags) (is_no_filter_window past t w) invalid_parameter invalid_window_handle code (unwrap_or (next setup past t (filter_of w min max)) Nothing) e
refused_is_row setup past t _ code h e = absurd (false≢true h)

told : (setup : Setup) (past : Past) (t : ℕ) (call : Call) → is_retrieval call ≡ true → filter_refusal past t call ≡ None → unwrap_or (next setup past t (filter_in call)) (none_found call) ≡ row setup past t call
told setup past t (Get w min max) h e = none_told (is_no_filter_window past t w) invalid_window_handle (unwrap_or (next setup past t (filter_of w min max)) Wait) e
told setup past t (Peek w min max flags) h e = nones_told (nat_lt 3 flags) (is_no_filter_window past t w) invalid_parameter invalid_window_handle (unwrap_or (next setup past t (filter_of w min max)) Nothing) e
told setup past t _ h e = absurd (false≢true h)

-- else what comes next, or that there is none
pub found_is_row : (setup : Setup) (past : Past) (t : ℕ) (call : Call) (f : Filter) (a : Answer) → is_retrieval call ≡ true → filter_refusal past t call ≡ None → f ≡ filter_in call → a ≡ none_found call → unwrap_or (next setup past t f) a ≡ row setup past t call
found_is_row setup past t call f a h e same none = ap (λ g. unwrap_or (next setup past t g) a) same ∙ ap (λ b. unwrap_or (next setup past t (filter_in call)) b) none ∙ told setup past t call h e

-- the messages that it reads
pub found_reads : (past : Past) (t : ℕ) (call : Call) → is_retrieval call ≡ true → reads_for past t (filter_in call) ≡ reads_by past t call
found_reads past t (Get w min max) h = refl
found_reads past t (Peek w min max flags) h = refl
found_reads past t _ h = absurd (false≢true h)

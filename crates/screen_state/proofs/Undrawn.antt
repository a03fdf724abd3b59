-- Which entries change dirty pixels or begun painting, and no window.
use Rattle.std.proofs.Common.{◌≡◌, ◌∙◌, ℕ, Bool, true, false, eqb, None, refl, sym, ap}
use Rattle.std.specs.Prelude.{ℤ, ◌||◌, nat_lt, not, ◌&&◌}
use Rattle.std.proofs.lemmas.Bool.{false≢true, or_parts, true≢false}
use Rattle.win_num.specs.declared.shapes.Point.{Point}
use Rattle.user_model.specs.declared.call.Call.{Call}
use Rattle.user_model.specs.declared.call.Call.TheVariants as calls
use Rattle.user_model.specs.declared.entry.Answer.{Answer}
use Rattle.user_model.specs.declared.entry.Answer.TheVariants as answers
use Rattle.user_model.specs.declared.entry.Setup.{Setup}
use Rattle.user_model.specs.Past.{Past, is_refusal}
use Rattle.user_model.specs.Idle.{reply}
use Rattle.user_model.specs.Windows.{is_live}
use Rattle.user_model.specs.Colours.{session_told}
use Rattle.user_model.specs.Dirty.{cleans, flag_told, invalidates}
use Rattle.user_model.specs.Painting.{is_painting, painting_told}
use Rattle.user_model.specs.Refusals.{if_live, invalid_parameter, invalid_window_handle, access_denied, is_no_rect}
use Rattle.user_model.specs.Windows.{thread_of}
use Rattle.user_model.proofs.ReplyLaws.{by_call, not_false, not_refused}
use Rattle.screen_state.specs.Screens.{draws}

-- whether a call may change dirty pixels or begun painting, and no window
abbrev pub is_drawing : Call → Bool
is_drawing (calls.Invalidate w l t r b erase) = true
is_drawing (calls.Validate w l t r b) = true
is_drawing (calls.BeginPaint w) = true
is_drawing (calls.EndPaint w) = true
is_drawing _ = false

-- what such a call isn't says nothing of dirty pixels and of painting
pub no_clean : (call : Call) → is_drawing call ≡ false → (past : Past) (w : ℕ) (p : Point) → cleans call past w p ≡ false
no_clean (calls.Validate v l t r b) h past w p = absurd (true≢false h)
no_clean (calls.BeginPaint v) h past w p = absurd (true≢false h)
no_clean _ h past w p = refl

pub no_dirt : (call : Call) → is_drawing call ≡ false → (setup : Setup) (past : Past) (w : ℕ) (p : Point) → invalidates setup call past w p ≡ false
no_dirt (calls.Invalidate v l t r b erase) h setup past w p = absurd (true≢false h)
no_dirt _ h setup past w p = refl

pub no_flag : (call : Call) → is_drawing call ≡ false → (setup : Setup) (after : Past) (w : ℕ) → flag_told setup call after w ≡ None
no_flag (calls.Invalidate v l t r b erase) h setup after w = absurd (true≢false h)
no_flag (calls.Validate v l t r b) h setup after w = absurd (true≢false h)
no_flag (calls.BeginPaint v) h setup after w = absurd (true≢false h)
no_flag _ h setup after w = refl

pub no_paint : (call : Call) → is_drawing call ≡ false → (w : ℕ) → painting_told call w ≡ None
no_paint (calls.BeginPaint v) h w = absurd (true≢false h)
no_paint (calls.EndPaint v) h w = absurd (true≢false h)
no_paint _ h w = refl

pub no_session : (call : Call) → is_drawing call ≡ false → (w : ℕ) (before : Past) → session_told w call before ≡ None
no_session (calls.BeginPaint v) h w before = absurd (true≢false h)
no_session (calls.EndPaint v) h w before = absurd (true≢false h)
no_session _ h w before = refl

-- ---- what an answer to such a call tells

-- a rectangle of a live window was made dirty, or clean
pub record IsPart (past : Past) (w : ℕ) (l t r b : ℤ) (a : Answer) : Type 0 where
  pub fits : is_no_rect l t r b ≡ false
  pub lives : is_live past w ≡ true
  pub okay : a ≡ answers.Okay

pub invalidate_told : (setup : Setup) (past : Past) (who w : ℕ) (l t r b : ℤ) (erase : ℕ) (a : Answer) → reply setup past who (calls.Invalidate w l t r b erase) ≡ a → is_refusal a ≡ false → IsPart past w l t r b a
invalidate_told setup past who w l t r b erase a e fine =
    let by = by_call setup past who (calls.Invalidate w l t r b erase) a e refl fine in
    let good = not_refused (is_no_rect l t r b || nat_lt 1 erase) invalid_parameter (if_live past w answers.Okay) a fine by.is_row in
    let live = not_refused (not (is_live past w)) invalid_window_handle answers.Okay a fine good.1 in
    record { fits = (or_parts (is_no_rect l t r b) (nat_lt 1 erase) good.0).0; lives = not_false (is_live past w) live.0; okay = sym live.1 }

pub validate_told : (setup : Setup) (past : Past) (who w : ℕ) (l t r b : ℤ) (a : Answer) → reply setup past who (calls.Validate w l t r b) ≡ a → is_refusal a ≡ false → IsPart past w l t r b a
validate_told setup past who w l t r b a e fine =
    let by = by_call setup past who (calls.Validate w l t r b) a e refl fine in
    let good = not_refused (is_no_rect l t r b) invalid_parameter (if_live past w answers.Okay) a fine by.is_row in
    let live = not_refused (not (is_live past w)) invalid_window_handle answers.Okay a fine good.1 in
    record { fits = good.0; lives = not_false (is_live past w) live.0; okay = sym live.1 }

-- painting of a live window was begun, or ended
pub begin_told : (setup : Setup) (past : Past) (who w : ℕ) (a : Answer) → reply setup past who (calls.BeginPaint w) ≡ a → is_refusal a ≡ false → (is_live past w ≡ true) × (draws (calls.BeginPaint w) a ≡ true)
begin_told setup past who w a e fine =
    let by = by_call setup past who (calls.BeginPaint w) a e refl fine in
    let good = not_refused (is_live past w && is_painting past w) invalid_parameter _ a fine by.is_row in
    let live = not_refused (not (is_live past w)) invalid_window_handle _ a fine good.1 in
    let own = not_refused (not (eqb (thread_of past w) who)) access_denied _ a fine live.1 in
    (not_false (is_live past w) live.0, ap (draws (calls.BeginPaint w)) (sym own.1))

pub end_told : (setup : Setup) (past : Past) (who w : ℕ) (a : Answer) → reply setup past who (calls.EndPaint w) ≡ a → is_refusal a ≡ false → (is_live past w ≡ true) × (a ≡ answers.Okay)
end_told setup past who w a e fine =
    let by = by_call setup past who (calls.EndPaint w) a e refl fine in
    let good = not_refused (is_live past w && not (is_painting past w)) invalid_parameter _ a fine by.is_row in
    let live = not_refused (not (is_live past w)) invalid_window_handle _ a fine good.1 in
    let own = not_refused (not (eqb (thread_of past w) who)) access_denied answers.Okay a fine live.1 in
    (not_false (is_live past w) live.0, sym own.1)

-- such a call draws, or is refused
drawn : (a : Answer) (call : Call) → a ≡ answers.Okay → draws call answers.Okay ≡ true → draws call a ≡ false → ⊥
drawn a call is can not_so = false≢true (sym not_so ∙ (ap (draws call) is ∙ can))

pub undrawn : (setup : Setup) (past : Past) (who : ℕ) (call : Call) (a : Answer) → reply setup past who call ≡ a → is_refusal a ≡ false → draws call a ≡ false → is_drawing call ≡ false
undrawn setup past who (calls.Invalidate w l t r b erase) a e fine not_so = absurd (drawn a (calls.Invalidate w l t r b erase) (invalidate_told setup past who w l t r b erase a e fine).okay refl not_so)
undrawn setup past who (calls.Validate w l t r b) a e fine not_so = absurd (drawn a (calls.Validate w l t r b) (validate_told setup past who w l t r b a e fine).okay refl not_so)
undrawn setup past who (calls.BeginPaint w) a e fine not_so = absurd (false≢true (sym not_so ∙ (begin_told setup past who w a e fine).1))
undrawn setup past who (calls.EndPaint w) a e fine not_so = absurd (drawn a (calls.EndPaint w) (end_told setup past who w a e fine).1 refl not_so)
undrawn setup past who _ a e fine not_so = refl

-- The answers of the calls on classes and windows.
use Rattle.std.specs.Prelude.{if◌then◌else◌, ℕ, zero, suc, ◌==◌, ◌+◌, nat_lt, nat_le, Bool, true, false, not, ◌&&◌, ◌||◌, ℤ, pos, negsuc, ◌-ℤ◌, length, Option, Some, None, is_none, is_some, unwrap_or, option_map}
use Rattle.win_num.specs.declared.message.Hwnd.{Hwnd}
use Rattle.win_num.specs.declared.code.Code.TheVariants.{Full}
use Rattle.win_num.specs.declared.names.TheConstants.{SWP_HIDEWINDOW, SWP_NOACTIVATE, SWP_NOCOPYBITS, SWP_NOMOVE, SWP_NOSIZE, SWP_NOZORDER, SWP_SHOWWINDOW, WS_CHILD, WS_DISABLED, WS_EX_TOPMOST, WS_POPUP, WS_VISIBLE}
use Rattle.win_num.specs.PixelSets.{Box, box, same_int}
use Rattle.user_model.specs.declared.entry.Setup.{Setup}
use Rattle.user_model.specs.declared.entry.Answer.{Answer}
use Rattle.user_model.specs.declared.entry.Answer.TheVariants.{Okay, Wait, Gone, Value, Window as WindowTold, Tell, Last}
use Rattle.user_model.specs.Past.{Past}
use Rattle.user_model.specs.Windows.{Window, has_flag, live, window, is_live, thread_of, parent_in, windows_made, up, next_child}
use Rattle.user_model.specs.Looks.{Look, look, placed, style_of, is_shown, is_disabled}
use Rattle.user_model.specs.ZOrder.{hwnd, titled}
use Rattle.user_model.specs.Pixels.{point, owner}
use Rattle.user_model.specs.Destruction.{Step, told, ended, is_marked, was_given, next_step}
use Rattle.user_model.specs.Classes.{class, classes, registered_count, is_used, message_names, message_number}
use Rattle.user_model.specs.Refusals.{refuse, if_live, if_own, is_no_rect, has_beyond, invalid_parameter, invalid_window_handle, access_denied, child_without_parent, cannot_find_class, class_already_exists, class_does_not_exist, class_has_windows}

-- a class is registered
abbrev pub register_reply : Past → ℕ → ℕ → Answer
register_reply past name colour = refuse (nat_lt 15 colour) invalid_parameter (refuse (is_some (class past name)) class_already_exists (refuse (nat_le 64 (length (classes past))) Full (Value (suc (registered_count past)))))

-- a class is taken back
abbrev pub unregister_reply : Past → ℕ → Answer
unregister_reply past name = refuse (is_none (class past name)) class_does_not_exist (refuse (is_used past name) class_has_windows Okay)

-- the number of a message's name, or for a new name the next one
abbrev pub number_or_next : Past → ℕ → ℕ
number_or_next past name = unwrap_or (message_number past name) (49152 + length (message_names past))

-- the number of the message of a name, of which 16,384 are registered at most
abbrev pub message_reply : Past → ℕ → Answer
message_reply past name = refuse (is_none (message_number past name) && nat_le 16384 (length (message_names past))) Full (Value (number_or_next past name))

-- the styles that a window may have
abbrev pub known_styles : ℕ
known_styles = WS_CHILD + WS_POPUP + WS_DISABLED + WS_VISIBLE

-- an unknown style, a child that is a popup, or an extended style that isn't topmost, or is a child's
abbrev pub is_no_style : ℕ → ℕ → Bool
is_no_style style ex = has_beyond style known_styles || (has_flag style WS_CHILD && has_flag style WS_POPUP || (not ((ex == 0) || (ex == WS_EX_TOPMOST)) || (ex == WS_EX_TOPMOST) && has_flag style WS_CHILD))

-- whether the number is neither 0 nor a live window that isn't marked
abbrev pub is_no_parent : Past → ℕ → Bool
is_no_parent past parent = not ((parent == 0) || is_live past parent && not (is_marked past parent))

-- the number that the next window gets
abbrev pub next_window : Past → Hwnd
next_window past = record { 0 = 16 + length (windows_made past) }

-- a window is made where fewer than 1,024 are live
abbrev pub window_if_room : Past → Answer
window_if_room past = refuse (nat_le 1024 (length (live past))) Full (WindowTold (next_window past))

-- a window is made
abbrev pub new_window_reply : Past → ℕ → ℕ → ℕ → ℕ → ℕ → ℤ → ℤ → ℤ → ℤ → Answer
new_window_reply past who name parent style ex l t r b = refuse (is_no_rect l t r b || is_no_style style ex) invalid_parameter (
    refuse (is_no_parent past parent) invalid_window_handle (
    refuse (not (parent == 0) && not (thread_of past parent == who)) access_denied (
    refuse (has_flag style WS_CHILD && (parent == 0)) child_without_parent (
    refuse (is_none (class past name)) cannot_find_class (
    window_if_room past)))))

-- a window is marked with its kin
abbrev pub doom_reply : Past → ℕ → ℕ → Answer
doom_reply past who w = refuse (is_live past w && is_marked past w) invalid_window_handle (if_own past who w Okay)

-- the step of a destruction as an answer; once none is left, the window's last message again
abbrev pub step_answer : ℕ → Option Step → Answer
step_answer w (Some (told v)) = Tell (record { 0 = v })
step_answer w (Some (ended v)) = Last (record { 0 = v })
step_answer w None = Last (record { 0 = w })

-- the next step of the destruction of a live window that is marked
abbrev pub unmake_step : Past → ℕ → ℕ → Window → Answer
unmake_step past who w x = refuse (not (is_marked past w)) invalid_parameter (refuse (not (x.thread == who)) access_denied (step_answer w (next_step past x)))

-- the next step of a destruction
abbrev pub unmake_reply : Past → ℕ → ℕ → Answer
unmake_reply past who w = elim (window past w) [ None ↦ Gone | Some x ↦ unmake_step past who w x ]

-- a window is dropped with its kin
abbrev pub drop_reply : Past → ℕ → ℕ → Answer
drop_reply past who w = refuse (is_live past w && not (was_given past (ended w))) invalid_parameter (if_own past who w Okay)

-- the flags of a placing
abbrev pub known_placings : ℕ
known_placings = SWP_NOSIZE + SWP_NOMOVE + SWP_NOZORDER + SWP_NOACTIVATE + SWP_SHOWWINDOW + SWP_HIDEWINDOW + SWP_NOCOPYBITS

-- an unknown flag, or one that shows with one that hides
abbrev pub is_no_placing : ℕ → Bool
is_no_placing flags = has_beyond flags known_placings || has_flag flags SWP_SHOWWINDOW && has_flag flags SWP_HIDEWINDOW

-- whether v is a live window with the parent of w, and isn't w
abbrev pub is_sibling : Past → ℕ → ℕ → Bool
is_sibling past w v = is_live past v && ((parent_in (live past) v == parent_in (live past) w) && not (v == w))

-- whether w can come there among its siblings: at the top or the bottom, or below one; a top-level window also with its topmost flag
-- set or cleared
abbrev pub is_order : Past → ℕ → ℤ → Bool
is_order past w (pos zero) = true
is_order past w (pos (suc zero)) = true
is_order past w (pos (suc (suc n))) = is_sibling past w (suc (suc n))
is_order past w (negsuc zero) = parent_in (live past) w == 0
is_order past w (negsuc (suc zero)) = parent_in (live past) w == 0
is_order past w (negsuc (suc (suc n))) = false

-- whether the corner is another
abbrev pub has_moved : Box → Box → Bool
has_moved old new = not (same_int old.left new.left && same_int old.top new.top)

-- whether the width or the height is another
abbrev pub is_resized : Box → Box → Bool
is_resized old new = not (same_int (old.right -ℤ old.left) (new.right -ℤ new.left) && same_int (old.bottom -ℤ old.top) (new.bottom -ℤ new.top))

-- whether one holds and the other doesn't
abbrev pub differ : Bool → Bool → Bool
differ true b = not b
differ false b = b

-- a bit that is set where the test holds
abbrev pub bit_if : Bool → ℕ → ℕ
bit_if b n = if b then n else 0

-- 1 where the corner has moved, 2 where the size has changed, 4 where the window was shown or hidden
abbrev pub changes_told : Look → Look → ℕ
changes_told old new = bit_if (has_moved old.place new.place) 1 + (bit_if (is_resized old.place new.place) 2 + bit_if (differ (has_flag old.style WS_VISIBLE) (has_flag new.style WS_VISIBLE)) 4)

-- a window is put at a place
abbrev pub place_reply : Past → ℕ → ℤ → ℤ → ℤ → ℤ → ℤ → ℕ → Answer
place_reply past w after l t r b flags = refuse (is_no_rect l t r b || is_no_placing flags) invalid_parameter (
    refuse (not (has_flag flags SWP_NOZORDER) && (is_live past w && not (is_order past w after))) invalid_parameter (
    if_live past w (Value (changes_told (look past w) (placed flags after (box l t r b) (look past w))))))

-- a window is shown or hidden: 1 where it was shown, else 0
abbrev pub show_reply : Past → ℕ → ℕ → Answer
show_reply past w on = refuse (nat_lt 1 on) invalid_parameter (if_live past w (Value (if is_shown past w then 1 else 0)))

-- a window is enabled or disabled: 1 where it was disabled, else 0
abbrev pub enable_reply : Past → ℕ → ℕ → Answer
enable_reply past w on = refuse (nat_lt 1 on) invalid_parameter (if_live past w (Value (if is_disabled past w then 1 else 0)))

-- a window or none as an answer
abbrev pub window_told : ℕ → Answer
window_told w = WindowTold (record { 0 = w })

-- the highest top-level window of the title, or 0
abbrev pub find_reply : Past → ℕ → Answer
find_reply past title = WindowTold (unwrap_or (titled past title) (hwnd 0))

-- the same, and a wait where there is none
abbrev pub await_title_reply : Past → ℕ → Answer
await_title_reply past title = elim (titled past title) [ None ↦ Wait | Some w ↦ WindowTold w ]

-- the child of a window, or for 0 the top-level window, of least number above v, or 0
abbrev pub child_told : Past → ℕ → ℕ → Answer
child_told past parent v = window_told (unwrap_or (option_map (λ x. x.number) (next_child past parent v)) 0)

-- the top-level window of least number above w, or 0
abbrev pub next_top_reply : Past → ℕ → Answer
next_top_reply past w = child_told past 0 w

-- the child of a live window of least number above v, or 0
abbrev pub child_after_reply : Past → ℕ → ℕ → Answer
child_after_reply past w v = if_live past w (child_told past w v)

-- the style bits of a live window as they are now
abbrev pub style_of_reply : Past → ℕ → Answer
style_of_reply past w = if_live past w (Value (style_of past w))

-- the window that owns a pixel of the screen, or 0
abbrev pub window_at_reply : Setup → Past → ℤ → ℤ → Answer
window_at_reply setup past x y = WindowTold (owner setup past (point x y))

-- 1 for a live window, else 0
abbrev pub is_window_reply : Past → ℕ → Answer
is_window_reply past w = Value (if is_live past w then 1 else 0)

-- the parent of a child, else the owner, or 0
abbrev pub parent_reply : Past → ℕ → Answer
parent_reply past w = elim (window past w) [ None ↦ refuse true invalid_window_handle Okay | Some x ↦ window_told (up x) ]

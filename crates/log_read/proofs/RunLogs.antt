-- What is written of a run is the text of a log.
use Rattle.std.proofs.Common.{◌≡◌, ℕ, zero, suc, ◌+◌, ◌*◌, ◌≤◌, Bool, true, false, List, [], ◌∷◌, ◌++◌, length, Option, Some, None, refl, ap, sym, ◌∙◌, append-nil, arith, reverse, inl, inr}
use Rattle.std.specs.Prelude.{codes, ◌==◌, map, if◌then◌else◌, is_some, IfSome, ℤ, pos}
use Rattle.std.specs.List.{flat_map, AllByRecursion}
use Rattle.std.proofs.lemmas.Bool.{cases_Bool}
use Rattle.std.proofs.lemmas.Grind.{flat_map-append}
use Rattle.std.proofs.lemmas.List.{length-append, map-append, reverse-append}
use Rattle.user_model.specs.declared.call.Call.{Call}
use Rattle.user_model.specs.declared.entry.Answer.{Answer}
use Rattle.user_model.specs.declared.entry.Answer.TheVariants.{Snap}
use Rattle.user_model.specs.declared.entry.Entry.{Entry}
use Rattle.user_model.specs.declared.entry.Setup.{Setup}
use Rattle.region_box.specs.Screens.{row_points, screen_points}
use Rattle.user_model.specs.Colours.{colour, frame}
use Rattle.user_model.specs.Counts.{send_count}
use Rattle.user_model.specs.Past.{Past}
use Rattle.user_model.specs.Idle.{is_barred}
use Rattle.user_model.specs.Places.{has_ended}
use Rattle.user_model.specs.Threads.{from_each}
use Rattle.script_tree.specs.Tree.{Tree}
use Rattle.script_lines.specs.Known.{known_of}
use Rattle.script_lines.specs.NameLimits.{AreKnown}
use Rattle.log_text.specs.declared.end.End.{End}
use Rattle.log_text.specs.declared.end.End.TheVariants as ends
use Rattle.log_text.specs.Ends.{setup_of, end_of}
use Rattle.log_text.specs.Entries.{entry_text, entries_text}
use Rattle.log_text.specs.Frames.{shown}
use Rattle.log_text.specs.Endings.{end_line, last_call, waits_line, spent_line, extra, sends_line}
use Rattle.log_text.specs.Logs.{log}
use Rattle.log_read.specs.declared.log.Extra.{Extra}
use Rattle.log_read.specs.declared.log.Extra.TheVariants as extras
use Rattle.log_read.specs.Limits.{keeps_frame, IsCall, IsColour, IsFrame, IsEntry, IsLogEntry, IsExtra, AreCounts, IsLog, HasColours}
use Rattle.log_read.specs.Logs.{LogEntryTree, LogTree, log_entry_text, extra_line, spelling, log_entry_of, log_entries_of, waits_of, extra_of, log_of}
use Rattle.log_read.proofs.ListLaws.{all_append, all_parts, all_push, same_length}
use Rattle.log_read.proofs.OneLog.{one_log}

-- ---- the text

entries_are : (s : Tree) (past : Past) → entries_text s past ≡ flat_map (log_entry_text s) (log_entries_of s past)
entries_are s [] = refl
entries_are s (e ∷ past) =
    ap (λ (l : List ℕ). l ++ entry_text s past e) (entries_are s past)
    ∙ ap (λ (l : List ℕ). flat_map (log_entry_text s) (log_entries_of s past) ++ l) (sym (append-nil (entry_text s past e)))
    ∙ sym (flat_map-append (log_entry_text s) (log_entries_of s past) (log_entry_of s past e ∷ []))

waits_are : (s : Tree) (t : ℕ) (call : Option Call) → waits_line s t call ≡ flat_map (extra_line s) (waits_of t call)
waits_are s t None = refl
waits_are s t (Some c) = sym (append-nil (waits_line s t (Some c)))

choose : (s : Tree) (b : Bool) (line : List ℕ) (xs : List Extra) → line ≡ flat_map (extra_line s) xs → (if b then [] else line) ≡ flat_map (extra_line s) (if b then [] else xs)
choose s true line xs e = refl
choose s false line xs e = e

extra_is : (s : Tree) (past : Past) (end : End) (t : ℕ) → extra s past end t ≡ flat_map (extra_line s) (extra_of s past end t)
extra_is s past ends.Done t = refl
extra_is s past ends.Stuck t = choose s (has_ended past t) (waits_line s t (last_call past t)) (waits_of t (last_call past t)) (waits_are s t (last_call past t))
extra_is s past ends.Spent t = choose s (is_barred (setup_of s) past t) (spent_line t) (extras.Spent (record { 0 = t }) ∷ []) (sym (append-nil (spent_line t)))
extra_is s past ends.Cut t = refl

extras_are : (s : Tree) (past : Past) (end : End) (n : ℕ) → from_each (extra s past end) n ≡ flat_map (extra_line s) (from_each (extra_of s past end) n)
extras_are s past end zero = refl
extras_are s past end (suc n) =
    ap (λ (l : List ℕ). l ++ extra s past end (suc n)) (extras_are s past end n)
    ∙ ap (λ (l : List ℕ). flat_map (extra_line s) (from_each (extra_of s past end) n) ++ l) (extra_is s past end (suc n))
    ∙ sym (flat_map-append (extra_line s) (from_each (extra_of s past end) n) (extra_of s past end (suc n)))

pub run_text : (s : Tree) (past : Past) → log s past ≡ spelling s (log_of s past)
unfolding log spelling
run_text s past =
    let end : End = end_of s past in
    ap (λ (l : List ℕ). codes "log 1\n" ++ (l ++ (end_line end ++ (from_each (extra s past end) (length s.threads) ++ sends_line past)))) (entries_are s past)
    ∙ ap (λ (l : List ℕ). codes "log 1\n" ++ (flat_map (log_entry_text s) (log_entries_of s past) ++ (end_line end ++ (l ++ sends_line past)))) (extras_are s past end (length s.threads))

-- ---- its entries

-- they are the history
pub run_history : (s : Tree) (past : Past) → map (λ (e : LogEntryTree). e.entry) (log_entries_of s past) ≡ reverse past
run_history s [] = refl
run_history s (e ∷ past) =
    map-append (λ (x : LogEntryTree). x.entry) (log_entries_of s past) (log_entry_of s past e ∷ [])
    ∙ ap (λ (l : List Entry). l ++ e ∷ []) (run_history s past)
    ∙ sym (reverse-append (e ∷ []) past)

row_size : (y : ℤ) (x : ℕ) → length (row_points y x) ≡ x
unfolding row_points
row_size y zero = refl
row_size y (suc x) = omega (arith, row_size y x, length-append (row_points y x) (record { x = pos x; y = y } ∷ []))

screen_size : (w h : ℕ) → length (screen_points w h) ≡ h * w
unfolding screen_points
screen_size w zero = omega arith
screen_size w (suc h) =
    let next : suc h * w ≡ h * w + w = omega arith in
    omega (arith, next, screen_size w h, row_size (pos h) w, length-append (screen_points w h) (row_points (pos h) w))

frame_size : (setup : Setup) (past : Past) → length (frame setup past) ≡ setup.height * setup.width
frame_size setup past = same_length (colour setup past) (screen_points setup.width setup.height) ∙ screen_size setup.width setup.height

-- a frame stands exactly where one was kept
shown_there : (setup : Setup) (past : Past) (a : Answer) → is_some (shown setup past a) ≡ keeps_frame a
shown_there setup past (Snap k) = refl
shown_there setup past _ = refl

shown_fits : (s : Tree) (past : Past) (a : Answer) → IfSome (shown (setup_of s) past a) (AllByRecursion IsColour) → IfSome (shown (setup_of s) past a) (IsFrame s)
shown_fits s past (Snap k) colours = record { size = frame_size (setup_of s) past; below = colours }
shown_fits s past _ colours = tt

entries_fit : (s : Tree) (past : Past) → AllByRecursion (IsEntry s) past → HasColours s past → AllByRecursion (IsLogEntry s) (log_entries_of s past)
entries_fit s [] h colours = tt
entries_fit s (e ∷ past) h colours =
    let parts = all_parts (λ (x : LogEntryTree). IfSome x.frame (AllByRecursion IsColour)) (log_entries_of s past) (log_entry_of s past e ∷ []) colours in
    all_push (IsLogEntry s) (log_entries_of s past) (log_entry_of s past e) (entries_fit s past h.1 parts.0)
    (record { entry = h.0; kept = shown_there (setup_of s) past e.answer; frame = shown_fits s past e.answer parts.1.0 })

-- ---- its limits

last_fits : (s : Tree) (past : Past) (t : ℕ) → AllByRecursion (IsEntry s) past → IfSome (last_call past t) (IsCall s)
last_fits s [] t h = tt
last_fits s (e ∷ past) t h = elim (cases_Bool (e.who.0 == t)) [
  | inl hit ↦ rw hit h.0.call
  | inr miss ↦ rw miss (last_fits s past t h.1)
]

waits_fit : (s : Tree) (t : ℕ) (call : Option Call) → t ≤ 15 → IfSome call (IsCall s) → AllByRecursion (IsExtra s ends.Stuck) (waits_of t call)
waits_fit s t None small h = tt
waits_fit s t (Some c) small h = ((refl, (small, h)), tt)

if_all : {A : Type 0} (P : A → Type 0) (b : Bool) (xs : List A) → AllByRecursion P xs → AllByRecursion P (if b then [] else xs)
if_all P true xs h = tt
if_all P false xs h = h

extra_fits : (s : Tree) (past : Past) (end : End) (t : ℕ) → AllByRecursion (IsEntry s) past → t ≤ 15 → AllByRecursion (IsExtra s end) (extra_of s past end t)
extra_fits s past ends.Done t h small = tt
extra_fits s past ends.Stuck t h small = if_all (IsExtra s ends.Stuck) (has_ended past t) (waits_of t (last_call past t)) (waits_fit s t (last_call past t) small (last_fits s past t h))
extra_fits s past ends.Spent t h small = if_all (IsExtra s ends.Spent) (is_barred (setup_of s) past t) (extras.Spent (record { 0 = t }) ∷ []) ((refl, small), tt)
extra_fits s past ends.Cut t h small = tt

extras_fit : (s : Tree) (past : Past) (end : End) (n : ℕ) → AllByRecursion (IsEntry s) past → n ≤ 15 → AllByRecursion (IsExtra s end) (from_each (extra_of s past end) n)
extras_fit s past end zero h small = tt
extras_fit s past end (suc n) h small = all_append (IsExtra s end) (from_each (extra_of s past end) n) (extra_of s past end (suc n)) (extras_fit s past end n h (omega (arith, small))) (extra_fits s past end (suc n) h small)

pub run_fits : (s : Tree) (past : Past) → length s.threads ≤ 15 → AllByRecursion (IsEntry s) past → HasColours s past → AreCounts (send_count past) → IsLog s (log_of s past)
run_fits s past few entries colours counts = record {
  entries = entries_fit s past entries colours;
  extras = extras_fit s past (end_of s past) (length s.threads) entries few;
  sends = counts;
}

pub run_read : (s : Tree) (past : Past) (l : LogTree) → AreKnown (known_of s) → length s.threads ≤ 15 → AllByRecursion (IsEntry s) past → HasColours s past → AreCounts (send_count past) → IsLog s l → log s past ≡ spelling s l → l ≡ log_of s past
run_read s past l h few entries colours counts fits e = one_log s h l (log_of s past) fits (run_fits s past few entries colours counts) (sym e ∙ run_text s past)

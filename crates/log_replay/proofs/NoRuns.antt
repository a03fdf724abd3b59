-- A log with a bad place is no run's.
use Rattle.std.proofs.Common.{◌≡◌, ◌≢◌, ℕ, zero, suc, ◌<◌, ◌≤◌, Bool, true, false, not, List, [], ◌∷◌, ◌++◌, length, Option, Some, None, refl, ap, sym, ◌∙◌, subst, arith, reverse, map}
use Rattle.std.specs.Prelude.{is_none, ◌||◌, slice_get}
use Rattle.std.proofs.lemmas.Bool.{false≢true}
use Rattle.win_num.specs.declared.message.Thread.{Thread}
use Rattle.user_model.specs.declared.call.Call.{Call}
use Rattle.user_model.specs.declared.entry.Entry.{Entry}
use Rattle.user_model.specs.declared.entry.Setup.{Setup}
use Rattle.user_model.specs.Past.{Past}
use Rattle.user_model.specs.Idle.{is_barred, first_busy, have_all_ended, ends_stuck}
use Rattle.user_model.specs.Legal.{IsLawful}
use Rattle.script_tree.specs.Tree.{Tree}
use Rattle.script_tree.specs.Pieces.{Whole, Cut}
use Rattle.script_tree.specs.Traces.{IsTrace, trace_of}
use Rattle.script_tree.proofs.TraceLaws.{one_end}
use Rattle.log_text.specs.Ends.{setup_of}
use Rattle.log_text.specs.Frames.{shown}
use Rattle.log_read.specs.Logs.{LogEntryTree, LogTree, log_entry_of, log_entries_of, log_of}
use Rattle.illegal_text.specs.declared.illegal.Illegal.{Illegal}
use Rattle.illegal_text.specs.declared.illegal.Over.{Over}
use Rattle.illegal_text.specs.declared.illegal.Over.TheVariants as overs
use Rattle.illegal_text.specs.declared.illegal.Why.{Why}
use Rattle.illegal_text.specs.declared.illegal.Why.TheVariants as reasons
use Rattle.illegal_text.specs.EndingLines.{ending_lines}
use Rattle.user_pool.specs.Runs.{ComesNext, HasEntriesLeft, IsMove, IsRun}
use Rattle.user_pool.proofs.Interleavings.{run_front}
use Rattle.user_pool.proofs.OneRun.{run_lawful}
use Rattle.user_pool.proofs.Programs.{next_of}
use Rattle.user_pool.proofs.Turns.{barred_is_idle}
use Rattle.log_replay.specs.Replays.{IsRunLog, IsNoRunLog, IsOver, IsHeldBy, IsWrongMove, IsWrong, DifferAt, DifferInRow, IsWrongEntry, IsWrongEnding, IsBad, IsFirstBad}
use Rattle.log_replay.proofs.Pasts.{entry_in, same_past, behind_past, entry_there}

-- ---- a wrong move is no move

pub no_actor : (s : Tree) (past : Past) (who : ℕ) → length s.threads < who → HasEntriesLeft s past who → ⊥
no_actor s past zero few left = omega (arith, few)
no_actor s past (suc n) few left = omega (arith, few, left.0)

pub has_spent : (s : Tree) (past : Past) (who : ℕ) → 0 < who → HasEntriesLeft s past who → IsOver s past who overs.Spent → ⊥
has_spent s past zero some left over = omega (arith, some)
has_spent s past (suc n) some left over = omega (arith, left.1, over.1.spent)

pub has_ended : (s : Tree) (past : Past) (who : ℕ) (call : Call) → 0 < who → ComesNext s past who call → IsTrace s who (trace_of past who) Whole → ⊥
has_ended s past who call some next whole = let e = one_end s whole (next_of s past who call some next) in absurd cc

wrong_over : (s : Tree) (past : Past) (e : Entry) (over : Over) → IsMove s past e → IsOver s past e.who.0 over → ⊥
wrong_over s past e overs.Absent move wrong = no_actor s past e.who.0 wrong move.remains
wrong_over s past e overs.Stop move wrong = false≢true (sym move.free ∙ ap (is_barred (setup_of s) past) wrong.0 ∙ wrong.1.barred)
wrong_over s past e overs.Ended move wrong = has_ended s past e.who.0 e.call wrong.0.0 move.call wrong.1
wrong_over s past e overs.Spent move wrong = has_spent s past e.who.0 wrong.0.0 move.remains wrong

busy_bars : (setup : Setup) (past : Past) (t : ℕ) → first_busy setup past ≡ Some t → is_barred setup past 0 ≡ true
unfolding is_barred
busy_bars setup past t busy = ap (λ (o : Option ℕ). not (is_none o) || have_all_ended setup past || ends_stuck past) busy

pub wrong_held : (s : Tree) (past : Past) (who t : ℕ) → is_barred (setup_of s) past who ≡ false → IsHeldBy s past who t → ⊥
wrong_held s past zero t free held = false≢true (sym free ∙ busy_bars (setup_of s) past t held)
wrong_held s past (suc n) t free held = false≢true (sym free ∙ barred_is_idle (setup_of s) past (suc n) (omega arith) ∙ held.1.1.1)

-- one call comes next
pub one_next : (s : Tree) (past : Past) (who : ℕ) (a b : Call) → ComesNext s past who a → ComesNext s past who b → a ≡ b
one_next s past zero a b first second = first ∙ sym second
one_next s past (suc n) a b first second = let e = one_end s first second in cc

pub wrong_move : (s : Tree) (past : Past) (e : Entry) (why : Why) → IsMove s past e → IsWrongMove s past e why → ⊥
wrong_move s past e (reasons.Over over) move wrong = wrong_over s past e over move wrong
wrong_move s past e (reasons.Barred t) move wrong = wrong_held s past e.who.0 t.0 move.free wrong
wrong_move s past e (reasons.Call call) move wrong = wrong.1 (one_next s past e.who.0 e.call call move.call wrong.0.next)
wrong_move s past e (reasons.Answer a) move wrong = wrong.1.1 (move.answer ∙ sym wrong.1.0)
wrong_move s past e (reasons.Frame row) move wrong = wrong
wrong_move s past e (reasons.EndLine k) move wrong = wrong

-- ---- a wrong frame is none that was kept

no_difference : {A : Type 0} (xs : List A) (k : ℕ) → DifferAt xs xs k → ⊥
no_difference xs k differ = differ.there refl

no_row : (s : Tree) (frame : Option (List ℕ)) (row : ℕ) → DifferInRow s frame frame row → ⊥
no_row s None row differ = differ
no_row s (Some colours) row differ = differ.there refl

pub wrong_entry : (s : Tree) (past : Past) (e : LogEntryTree) (why : Why) → IsMove s past e.entry → e ≡ log_entry_of s past e.entry → IsWrong s past e why → ⊥
wrong_entry s past e (reasons.Over over) move is wrong = wrong_move s past e.entry (reasons.Over over) move wrong
wrong_entry s past e (reasons.Barred t) move is wrong = wrong_move s past e.entry (reasons.Barred t) move wrong
wrong_entry s past e (reasons.Call call) move is wrong = wrong_move s past e.entry (reasons.Call call) move wrong
wrong_entry s past e (reasons.Answer a) move is wrong = wrong_move s past e.entry (reasons.Answer a) move wrong
wrong_entry s past e (reasons.EndLine k) move is wrong = wrong
wrong_entry s past e (reasons.Frame row) move is wrong =
    let frame : e.frame ≡ shown (setup_of s) past e.entry.answer = ap (λ (x : LogEntryTree). x.frame) is in
    no_row s (shown (setup_of s) past e.entry.answer) row (subst (λ (f : Option (List ℕ)). DifferInRow s f (shown (setup_of s) past e.entry.answer) row) frame wrong.1)

-- ---- the first bad place of no run

entries_no_run : (s : Tree) (l : LogTree) (before now past : Past) (why : Why) → IsWrongEntry s l.entries before now why → IsRunLog s l past → ⊥
entries_no_run s l before now past why bad whole =
    let e : LogEntryTree = bad.entry in
    let is : log_entries_of s past ≡ log_entries_of s before ++ e ∷ bad.rest = sym (ap (λ (x : LogTree). x.entries) whole.log) ∙ bad.behind in
    let newer : Past = reverse (map entry_in bad.rest) in
    let made : past ≡ newer ++ e.entry ∷ before = behind_past s past before e bad.rest is in
    let run : IsRun s (e.entry ∷ before) = run_front s newer (e.entry ∷ before) (subst (IsRun s) made whole.run) in
    wrong_entry s before e why run.0 (entry_there s newer before e bad.rest (sym (ap (log_entries_of s) made) ∙ is)) bad.wrong

ending_no_run : (s : Tree) (l : LogTree) (before now past : Past) (k : ℕ) → IsWrongEnding s l before now k → IsRunLog s l past → ⊥
ending_no_run s l before now past k bad whole =
    let same : past ≡ before = same_past s past before (sym (ap (λ (x : LogTree). x.entries) whole.log) ∙ bad.entries) in
    let lines : ending_lines l ≡ ending_lines (log_of s before) = ap ending_lines whole.log ∙ ap (λ (h : Past). ending_lines (log_of s h)) same in
    bad.line.there (ap (λ xs. slice_get xs k) lines)

bad_no_run : (s : Tree) (l : LogTree) (before now past : Past) (why : Why) → IsBad s l before now why → IsRunLog s l past → ⊥
bad_no_run s l before now past (reasons.EndLine k) bad whole = ending_no_run s l before now past k bad whole
bad_no_run s l before now past (reasons.Over over) bad whole = entries_no_run s l before now past (reasons.Over over) bad whole
bad_no_run s l before now past (reasons.Barred t) bad whole = entries_no_run s l before now past (reasons.Barred t) bad whole
bad_no_run s l before now past (reasons.Call call) bad whole = entries_no_run s l before now past (reasons.Call call) bad whole
bad_no_run s l before now past (reasons.Answer a) bad whole = entries_no_run s l before now past (reasons.Answer a) bad whole
bad_no_run s l before now past (reasons.Frame row) bad whole = entries_no_run s l before now past (reasons.Frame row) bad whole

pub no_run : (s : Tree) (l : LogTree) (now : Past) (found : Illegal) → IsFirstBad s l now found → IsNoRunLog s l
no_run s l now found first = λ past whole. bad_no_run s l first.before now past found.why first.bad whole

-- ---- what was made up to there is lawful

bad_lawful : (s : Tree) (l : LogTree) (before now : Past) (why : Why) → IsRun s before → IsBad s l before now why → IsLawful (setup_of s) now
bad_lawful s l before now (reasons.EndLine k) run bad = subst (IsLawful (setup_of s)) (sym bad.made) (run_lawful s before run)
bad_lawful s l before now (reasons.Over over) run bad = bad.lawful
bad_lawful s l before now (reasons.Barred t) run bad = bad.lawful
bad_lawful s l before now (reasons.Call call) run bad = bad.lawful
bad_lawful s l before now (reasons.Answer a) run bad = bad.lawful
bad_lawful s l before now (reasons.Frame row) run bad = bad.lawful

pub lawful : (s : Tree) (l : LogTree) (now : Past) (found : Illegal) → IsFirstBad s l now found → IsLawful (setup_of s) now
lawful s l now found first = bad_lawful s l first.before now found.why first.run first.bad

-- the entries alone
pub stopped_bad : (s : Tree) (l : LogTree) (now : Past) (before : Past) (why : Why) → IsWrongEntry s l.entries before now why → IsBad s l before now why
stopped_bad s l now before (reasons.EndLine k) bad = absurd bad.wrong
stopped_bad s l now before (reasons.Over over) bad = bad
stopped_bad s l now before (reasons.Barred t) bad = bad
stopped_bad s l now before (reasons.Call call) bad = bad
stopped_bad s l now before (reasons.Answer a) bad = bad
stopped_bad s l now before (reasons.Frame row) bad = bad

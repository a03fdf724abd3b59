-- A log that is made again entry by entry, and its ending.
use Rattle.std.proofs.Common.{◌≡◌, ℕ, zero, suc, ◌+◌, ◌*◌, ◌<◌, ◌≤◌, ◌^◌, List, [], ◌∷◌, ◌++◌, length, get_or, take, drop, Option, Some, None, refl, ap, sym, ◌∙◌, subst, arith, map, take-append-drop, Bool, true, false}
use Rattle.std.specs.Prelude.{if◌then◌else◌}
use Rattle.std.proofs.lemmas.List.{take_more, drop_more, length-append, length-map, take_all}
use Rattle.user_model.specs.declared.call.Call.{Call}
use Rattle.user_model.specs.declared.entry.SendCount.{SendCount}
use Rattle.user_model.specs.Past.{Past}
use Rattle.user_model.specs.Idle.{is_barred}
use Rattle.user_model.specs.Legal.{IsLawful}
use Rattle.user_model.specs.Places.{has_ended}
use Rattle.user_model.specs.Threads.{from_each}
use Rattle.script_tree.specs.Tree.{Tree}
use Rattle.log_text.specs.declared.end.End.{End}
use Rattle.log_text.specs.declared.end.End.TheVariants as ends
use Rattle.log_text.specs.Ends.{setup_of, end_of}
use Rattle.log_text.specs.Endings.{last_call}
use Rattle.log_text.specs.Frames.{shown}
use Rattle.log_read.specs.declared.log.Extra.{Extra}
use Rattle.log_read.specs.declared.log.Extra.TheVariants as extras
use Rattle.log_read.specs.Logs.{LogEntryTree, LogTree, log_entry_of, log_entries_of, extra_of, waits_of, extras_of, log_of}
use Rattle.log_read.proofs.OneLog.{log_from}
use Rattle.illegal_text.specs.declared.illegal.Why.{Why}
use Rattle.illegal_text.specs.declared.lines.EndingLine.{EndingLine}
use Rattle.illegal_text.specs.declared.lines.EndingLine.TheVariants.{Ends, Tells, Counts}
use Rattle.illegal_text.specs.EndingLines.{lines_of, ending_lines}
use Rattle.user_pool.specs.Runs.{IsRun}
use Rattle.log_replay.specs.Replays.{WasWhole, WasBad, IsWrongEntry, IsStoppedAt}

-- ---- entries

entry_is : (s : Tree) (past : Past) (e : LogEntryTree) → e.frame ≡ shown (setup_of s) past e.entry.answer → e ≡ log_entry_of s past e.entry
entry_is s past e frame = ap (λ (f : Option (List ℕ)). let x : LogEntryTree = record { entry = e.entry; frame = f } in x) frame

pub run_more : (s : Tree) (past now : Past) (e : LogEntryTree) → IsRun s past → WasWhole s past now e → IsRun s now
run_more s past now e run whole = subst (IsRun s) (sym whole.right.made) (whole.right.move, run)

pub made_more : (s : Tree) (past now : Past) (entries : List LogEntryTree) (i : ℕ) (d : LogEntryTree) → i < length entries → take i entries ≡ log_entries_of s past → WasWhole s past now (get_or entries i d) → take (i + 1) entries ≡ log_entries_of s now
made_more s past now entries i d lt made whole =
    let e : LogEntryTree = get_or entries i d in
    take_more entries i d lt
    ∙ ap (λ (l : List LogEntryTree). l ++ e ∷ []) made
    ∙ ap (λ (x : LogEntryTree). log_entries_of s past ++ x ∷ []) (entry_is s past e whole.frame)
    ∙ ap (log_entries_of s) (sym whole.right.made)

pub place_more : (s : Tree) (past now : Past) (e : LogEntryTree) (place : ℕ) → place ≡ length past → WasWhole s past now e → place + 1 ≡ length now
place_more s past now e place is whole = omega (arith, is, ap length whole.right.made)

pub stopped_here : (s : Tree) (past now : Past) (entries : List LogEntryTree) (i place : ℕ) (d : LogEntryTree) (why : Why) → IsRun s past → place ≡ length past → i < length entries → take i entries ≡ log_entries_of s past
    → WasBad s past now (get_or entries i d) why → IsStoppedAt s entries now (record { place = place; why = why })
stopped_here s past now entries i place d why run is lt made bad = record {
  before = past;
  run = run;
  place = is;
  wrong = record {
    entry = get_or entries i d;
    rest = drop (i + 1) entries;
    behind = sym (take-append-drop i entries) ∙ ap (λ (l : List LogEntryTree). l ++ drop i entries) made ∙ ap (λ (l : List LogEntryTree). log_entries_of s past ++ l) (drop_more entries i d lt);
    wrong = bad.wrong;
    made = bad.made;
    lawful = bad.lawful;
  };
}

pub all_made : (s : Tree) (past : Past) (entries : List LogEntryTree) (i : ℕ) → length entries ≤ i → take i entries ≡ log_entries_of s past → entries ≡ log_entries_of s past
all_made s past entries i le made = sym (take_all i entries le) ∙ made

-- ---- the ending

head_is : {A : Type 0} (x y : A) (xs ys : List A) → x ∷ xs ≡ y ∷ ys → x ≡ y
head_is x y xs ys e = cc

tail_is : {A : Type 0} (x y : A) (xs ys : List A) → x ∷ xs ≡ y ∷ ys → xs ≡ ys
tail_is x y xs ys e = cc

told_same : (xs ys : List Extra) (c d : SendCount) → map (λ (x : Extra). Tells x) xs ++ Counts c ∷ [] ≡ map (λ (x : Extra). Tells x) ys ++ Counts d ∷ [] → (xs ≡ ys) × (c ≡ d)
told_same [] [] c d e = (refl, cc)
told_same [] (y ∷ ys) c d e = absurd cc
told_same (x ∷ xs) [] c d e = absurd cc
told_same (x ∷ xs) (y ∷ ys) c d e =
    let first : Tells x ≡ Tells y = head_is (Tells x) (Tells y) (map (λ (z : Extra). Tells z) xs ++ Counts c ∷ []) (map (λ (z : Extra). Tells z) ys ++ Counts d ∷ []) e in
    let one : x ≡ y = cc in
    let more = told_same xs ys c d (tail_is (Tells x) (Tells y) (map (λ (z : Extra). Tells z) xs ++ Counts c ∷ []) (map (λ (z : Extra). Tells z) ys ++ Counts d ∷ []) e) in
    (ap (λ (z : Extra). z ∷ xs) one ∙ ap (λ (zs : List Extra). y ∷ zs) more.0, more.1)

-- entries and ending are all of a log
pub same_log : (l m : LogTree) → l.entries ≡ m.entries → ending_lines l ≡ ending_lines m → l ≡ m
same_log l m entries lines =
    let first : Ends l.end ≡ Ends m.end = head_is (Ends l.end) (Ends m.end) (map (λ (z : Extra). Tells z) l.extras ++ Counts l.sends ∷ []) (map (λ (z : Extra). Tells z) m.extras ++ Counts m.sends ∷ []) lines in
    let end : l.end ≡ m.end = cc in
    let told = told_same l.extras m.extras l.sends m.sends (tail_is (Ends l.end) (Ends m.end) (map (λ (z : Extra). Tells z) l.extras ++ Counts l.sends ∷ []) (map (λ (z : Extra). Tells z) m.extras ++ Counts m.sends ∷ []) lines) in
    log_from l m entries end told.0 told.1

-- ---- an ending has few lines

waits_few : (t : ℕ) (call : Option Call) → length (waits_of t call) ≤ 1
waits_few t None = omega arith
waits_few t (Some call) = omega arith

if_few : (b : Bool) (xs : List Extra) → length xs ≤ 1 → length (if b then [] else xs) ≤ 1
if_few true xs few = omega arith
if_few false xs few = few

extra_few : (s : Tree) (past : Past) (end : End) (t : ℕ) → length (extra_of s past end t) ≤ 1
extra_few s past ends.Done t = omega arith
extra_few s past ends.Stuck t = if_few (has_ended past t) (waits_of t (last_call past t)) (waits_few t (last_call past t))
extra_few s past ends.Spent t = if_few (is_barred (setup_of s) past t) (extras.Spent (record { 0 = t }) ∷ []) (omega arith)
extra_few s past ends.Cut t = omega arith

each_few : (s : Tree) (past : Past) (end : End) (n : ℕ) → length (from_each (extra_of s past end) n) ≤ n
each_few s past end zero = omega arith
each_few s past end (suc n) = omega (arith, each_few s past end n, extra_few s past end (suc n), length-append (from_each (extra_of s past end) n) (extra_of s past end (suc n)))

pub lines_few : (s : Tree) (past : Past) → length s.threads ≤ 15 → length (ending_lines (log_of s past)) < 2 ^ 32
lines_few s past few =
    let xs : List Extra = extras_of s past (end_of s past) in
    omega (arith, few, each_few s past (end_of s past) (length s.threads), length-append (map (λ (x : Extra). Tells x) xs) (Counts (log_of s past).sends ∷ []), length-map xs (λ (x : Extra). Tells x))

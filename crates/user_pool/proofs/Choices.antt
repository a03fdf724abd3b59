-- Who is chosen, and what is then left of the order list.
use Rattle.std.proofs.Common.{◌≡◌, ℕ, zero, suc, ◌+◌, ◌-◌, ◌<◌, ◌≤◌, Bool, true, false, cond, eqb, List, [], ◌∷◌, length, get_or, drop, Option, Some, None, refl, ap, ◌∙◌, sym, inl, inr, arith, add-one}
use Rattle.std.specs.Prelude.{◌&&◌, nat_lt, find, slice_get, unwrap_or, not, map}
use Rattle.std.proofs.lemmas.Bool.{cases_Bool}
use Rattle.std.proofs.lemmas.Bool.Decides.{nat_tests}
use Rattle.std.proofs.lemmas.List.{drop_all, length-reverse, length-map}
use Rattle.user_model.specs.Past.{Past, or_else}
use Rattle.user_model.specs.declared.entry.Setup.{Setup}
use Rattle.user_model.specs.Places.{mine}
use Rattle.user_model.specs.Threads.{is_thread, lowest}
use Rattle.script_tree.specs.Traces.{trace_of, told}
use Rattle.user_model.specs.Idle.{is_idle, is_barred}
use Rattle.script_tree.specs.Tree.{Tree}
use Rattle.log_text.specs.Ends.{setup_of, used}
use Rattle.user_pool.specs.Runs.{is_runnable, behind_first, left, listed, last_thread, first_above, in_turn, clock_move, choice}
use Rattle.user_pool.specs.Moves.{IsNextPlace, first_between, left_after}
use Rattle.user_pool.specs.declared.seat.Seat.{Seat}
use Rattle.user_pool.specs.Seats.{SeatsCount}
use Rattle.user_pool.proofs.Turns.{is_thread_of, barred_is_idle, lowest_all, lowest_nobody, and_right, found_passes, turn_runs, runnable_can, thread_positive, thread_within}

-- ---- whether a thread can move, as the machine and its worker tell

pub used_is : (past : Past) (t : ℕ) → length (trace_of past t) ≡ used past t
used_is past t = length-reverse (map told (mine past t)) ∙ length-map (mine past t) told

pub seat_used : (s : Tree) (past : Past) (seats : List Seat) (t : ℕ) (d : Seat) → SeatsCount s past seats → 0 < t → t ≤ length seats → (get_or seats (t - 1) d).worker.used ≡ used past t
seat_used s past seats t d stands positive within =
    let back : t - 1 + 1 ≡ t = omega arith in
    (stands.at (t - 1) d (omega arith)).used ∙ ap (λ (u : ℕ). length (trace_of past u)) back ∙ used_is past t

pub runs_is : (s : Tree) (past : Past) (setup : Setup) (t : ℕ) → setup ≡ setup_of s → 0 < t → t ≤ length s.threads → is_runnable s past t ≡ (not (is_barred setup past t) && nat_lt (used past t) s.budget)
runs_is s past setup t same positive within =
    ap (λ b. b && (not (is_idle (setup_of s) past t) && nat_lt (used past t) s.budget)) (is_thread_of s t positive within)
    ∙ ap (λ b. not b && nat_lt (used past t) s.budget) (sym (barred_is_idle (setup_of s) past t positive) ∙ ap (λ (x : Setup). is_barred x past t) (sym same))

-- ---- some thread can move

runs_positive : (s : Tree) (past : Past) (t : ℕ) → is_runnable s past t ≡ true → eqb t 0 ≡ false
runs_positive s past t runs = let positive : 0 < t = thread_positive s t (runnable_can s past t runs).known in grind (arith, nat_tests, positive)

after_thread : (s : Tree) (past : Past) (t : ℕ) → is_runnable s past t ≡ true → left_after s past t ≡ behind_first (is_runnable s past) (left s past)
after_thread s past t runs = ap (λ b. cond b (left s past) (behind_first (is_runnable s past) (left s past))) (runs_positive s past t runs)

find_left : (s : Tree) (past : Past) (from place : ℕ) → left s past ≡ drop from s.order → IsNextPlace (is_runnable s past) s.order from place → listed s past ≡ slice_get s.order place
find_left s past from place so next = ap (find (is_runnable s past)) so ∙ next.found

behind_left : (s : Tree) (past : Past) (from place : ℕ) → left s past ≡ drop from s.order → IsNextPlace (is_runnable s past) s.order from place → behind_first (is_runnable s past) (left s past) ≡ drop (place + 1) s.order
behind_left s past from place so next = ap (behind_first (is_runnable s past)) so ∙ next.behind

pub by_list : (s : Tree) (past : Past) (from place t : ℕ) → left s past ≡ drop from s.order → IsNextPlace (is_runnable s past) s.order from place → slice_get s.order place ≡ Some t → choice s past ≡ Some t
by_list s past from place t so next here = ap (λ o. or_else o (or_else (in_turn s past) (clock_move s past))) (find_left s past from place so next ∙ here)

pub by_list_left : (s : Tree) (past : Past) (from place t : ℕ) → left s past ≡ drop from s.order → IsNextPlace (is_runnable s past) s.order from place → slice_get s.order place ≡ Some t → left_after s past t ≡ drop (place + 1) s.order
by_list_left s past from place t so next here =
    after_thread s past t (found_passes (is_runnable s past) (left s past) t (find_left s past from place so next ∙ here)) ∙ behind_left s past from place so next

or_some : (o : Option ℕ) (low : ℕ) → or_else o (Some low) ≡ Some (unwrap_or o low)
or_some None low = refl
or_some (Some t) low = refl

turn_is : (s : Tree) (past : Past) (low : ℕ) → first_above s past 0 ≡ Some low → in_turn s past ≡ Some (unwrap_or (first_above s past (last_thread past)) low)
turn_is s past low lowest = ap (or_else (first_above s past (last_thread past))) lowest ∙ or_some (first_above s past (last_thread past)) low

pub by_turn : (s : Tree) (past : Past) (from place low : ℕ) → left s past ≡ drop from s.order → IsNextPlace (is_runnable s past) s.order from place → slice_get s.order place ≡ None → first_above s past 0 ≡ Some low → choice s past ≡ Some (unwrap_or (first_above s past (last_thread past)) low)
by_turn s past from place low so next none lowest =
    ap (λ o. or_else o (or_else (in_turn s past) (clock_move s past))) (find_left s past from place so next ∙ none)
    ∙ ap (λ o. or_else o (clock_move s past)) (turn_is s past low lowest)

pub by_turn_left : (s : Tree) (past : Past) (from place low : ℕ) → left s past ≡ drop from s.order → IsNextPlace (is_runnable s past) s.order from place → length s.order ≤ place → first_above s past 0 ≡ Some low → left_after s past (unwrap_or (first_above s past (last_thread past)) low) ≡ drop place s.order
by_turn_left s past from place low so next le lowest =
    after_thread s past (unwrap_or (first_above s past (last_thread past)) low) (turn_runs s past (unwrap_or (first_above s past (last_thread past)) low) (turn_is s past low lowest))
    ∙ behind_left s past from place so next ∙ drop_all (place + 1) s.order (omega (arith, le)) ∙ sym (drop_all place s.order le)

-- ---- no thread can move

pub nobody_runs : (s : Tree) (past : Past) (t : ℕ) → first_above s past 0 ≡ None → is_runnable s past t ≡ false
nobody_runs s past t none = elim (cases_Bool (is_thread (setup_of s) t)) [
  | inr out ↦ ap (λ b. b && (not (is_idle (setup_of s) past t) && nat_lt (used past t) s.budget)) out
  | inl known ↦
      let positive = thread_positive s t known in
      let above : nat_lt 0 t ≡ true = grind (arith, nat_tests, positive) in
      and_right (nat_lt 0 t) (is_runnable s past t) above (lowest_all (λ x. nat_lt 0 x && is_runnable s past x) (length s.threads) t none positive (thread_within s t known))
]

find_none : (test : ℕ → Bool) (xs : List ℕ) → ((t : ℕ) → test t ≡ false) → find test xs ≡ None
find_none test [] h = refl
find_none test (x ∷ xs) h = ap (λ b. cond b (Some x) (find test xs)) (h x) ∙ find_none test xs h

or_none : (o : Option ℕ) → or_else o None ≡ o
or_none None = refl
or_none (Some t) = refl

and_false : (a b : Bool) → b ≡ false → (a && b) ≡ false
and_false true b e = e
and_false false b e = refl

none_above : (s : Tree) (past : Past) (low : ℕ) → first_above s past 0 ≡ None → first_above s past low ≡ None
none_above s past low none = lowest_nobody (λ t. nat_lt low t && is_runnable s past t) (length s.threads) (λ t p w. and_false (nat_lt low t) (is_runnable s past t) (nobody_runs s past t none))

-- then it is the clock's turn
pub by_clock : (s : Tree) (past : Past) (barred : Bool) → first_above s past 0 ≡ None → is_barred (setup_of s) past 0 ≡ barred → choice s past ≡ cond barred None (Some 0)
by_clock s past barred none is =
    ap (λ o. or_else o (or_else (in_turn s past) (clock_move s past))) (find_none (is_runnable s past) (left s past) (λ t. nobody_runs s past t none))
    ∙ ap (λ o. or_else (or_else o (first_above s past 0)) (clock_move s past)) (none_above s past (last_thread past) none)
    ∙ ap (λ o. or_else o (clock_move s past)) none
    ∙ ap (λ b. cond b None (Some 0)) is

-- ---- the order list is used up

-- where none above one number passes, the least passes no higher than that
lowest_stays : (test : ℕ → Bool) (h d : ℕ) → ((t : ℕ) → h < t → t ≤ d + h → test t ≡ false) → lowest test (d + h) ≡ lowest test h
lowest_stays test h zero f = let z : 0 + h ≡ h = omega arith in ap (lowest test) z
lowest_stays test h (suc d) f =
    let z : suc d + h ≡ (d + h) + 1 = omega arith in
    let one : lowest test ((d + h) + 1) ≡ or_else (lowest test (d + h)) (cond (test ((d + h) + 1)) (Some ((d + h) + 1)) None) = rw add-one refl in
    ap (lowest test) z ∙ one
    ∙ ap (λ b. or_else (lowest test (d + h)) (cond b (Some ((d + h) + 1)) None)) (f ((d + h) + 1) (omega arith) (omega arith))
    ∙ or_none (lowest test (d + h)) ∙ lowest_stays test h d (λ t a w. f t a (omega (arith, w)))

none_runs_above : (s : Tree) (past : Past) (low t : ℕ) → first_above s past low ≡ None → low < t → t ≤ length s.threads → is_runnable s past t ≡ false
none_runs_above s past low t none above within =
    let passes : nat_lt low t ≡ true = grind (arith, nat_tests, above) in
    and_right (nat_lt low t) (is_runnable s past t) passes (lowest_all (λ x. nat_lt low x && is_runnable s past x) (length s.threads) t none (omega (arith, above)) within)

-- where none above the last can move, the least that can is no higher
pub turn_below : (s : Tree) (past : Past) (high : ℕ) → first_above s past (last_thread past) ≡ None → high ≤ length s.threads → (high < length s.threads → last_thread past ≤ high) → in_turn s past ≡ first_between s past 0 high
turn_below s past high none within reach =
    let test : ℕ → Bool = λ t. nat_lt 0 t && is_runnable s past t in
    let whole : length s.threads ≡ (length s.threads - high) + high = omega (arith, within) in
    ap (λ o. or_else o (first_above s past 0)) none ∙ ap (lowest test) whole
    ∙ lowest_stays test high (length s.threads - high) (λ t a w. and_false (nat_lt 0 t) (is_runnable s past t)
    (let most : t ≤ length s.threads = omega (arith, w, whole) in
    let low : last_thread past ≤ high = reach (omega (arith, a, most)) in
    none_runs_above s past (last_thread past) t none (omega (arith, a, low)) most))

pub turn_above : (s : Tree) (past : Past) (t : ℕ) → first_above s past (last_thread past) ≡ Some t → in_turn s past ≡ Some t
turn_above s past t some = ap (λ o. or_else o (first_above s past 0)) some

or_else_nothing : (a b : Option ℕ) → or_else a b ≡ None → b ≡ None
or_else_nothing None b e = e
or_else_nothing (Some t) b e = absurd cc

pub turn_nobody : (s : Tree) (past : Past) → in_turn s past ≡ None → first_above s past 0 ≡ None
turn_nobody s past none = or_else_nothing (first_above s past (last_thread past)) (first_above s past 0) none

nothing_left : (s : Tree) (past : Past) (from : ℕ) → left s past ≡ drop from s.order → length s.order ≤ from → left s past ≡ []
nothing_left s past from so end = so ∙ drop_all from s.order end

pub in_turn_chosen : (s : Tree) (past : Past) (from t : ℕ) → left s past ≡ drop from s.order → length s.order ≤ from → in_turn s past ≡ Some t → choice s past ≡ Some t
in_turn_chosen s past from t so end turn =
    ap (λ xs. or_else (find (is_runnable s past) xs) (or_else (in_turn s past) (clock_move s past))) (nothing_left s past from so end)
    ∙ ap (λ o. or_else o (clock_move s past)) turn

pub in_turn_left : (s : Tree) (past : Past) (from t : ℕ) → left s past ≡ drop from s.order → length s.order ≤ from → in_turn s past ≡ Some t → left_after s past t ≡ drop from s.order
in_turn_left s past from t so end turn =
    after_thread s past t (turn_runs s past t turn) ∙ ap (behind_first (is_runnable s past)) (nothing_left s past from so end) ∙ sym (drop_all from s.order end)

-- ---- between two numbers

pub between_start : (s : Tree) (past : Past) (low high : ℕ) → high ≤ low → first_between s past low high ≡ None
between_start s past low high le =
    lowest_nobody (λ t. nat_lt low t && is_runnable s past t) high (λ t p w. let miss : nat_lt low t ≡ false = grind (arith, nat_tests, w, le) in ap (λ b. b && is_runnable s past t) miss)

pub between_test : (s : Tree) (past : Past) (low t : ℕ) (b : Bool) → low < t → is_runnable s past t ≡ b → (nat_lt low t && is_runnable s past t) ≡ b
between_test s past low t b above runs = let hit : nat_lt low t ≡ true = grind (arith, nat_tests, above) in ap (λ x. x && is_runnable s past t) hit ∙ runs

pub between_less : (s : Tree) (past : Past) (low high n : ℕ) → high ≤ n → first_between s past low n ≡ None → first_between s past low high ≡ None
between_less s past low high n le none =
    let test : ℕ → Bool = λ t. nat_lt low t && is_runnable s past t in
    lowest_nobody test high (λ t p w. lowest_all test n t none p (omega (arith, w, le)))

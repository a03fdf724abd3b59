-- A run never fills the history.
use Rattle.std.proofs.Common.{◌≡◌, ℕ, zero, suc, ◌+◌, ◌*◌, ◌<◌, ◌≤◌, Bool, true, false, not, cond, eqb, [], ◌∷◌, length, Option, Some, None, refl, ap, ◌∙◌, sym, inl, inr, arith, mul-le-mul_left}
use Rattle.std.specs.Prelude.{◌||◌, is_none}
use Rattle.std.proofs.Math.Dec.{leb}
use Rattle.std.proofs.lemmas.Bool.{cases_Bool, cases_lt, false≢true}
use Rattle.std.proofs.lemmas.Bool.Decides.{nat_tests, eqb_tells}
use Rattle.win_num.specs.declared.code.Code.TheVariants.{Full}
use Rattle.user_model.specs.declared.call.Call.{Call}
use Rattle.user_model.specs.declared.call.Call.TheVariants.{Advance}
use Rattle.user_model.specs.declared.entry.Entry.{Entry}
use Rattle.user_model.specs.declared.entry.Setup.{Setup}
use Rattle.user_model.specs.Past.{Past, is_full}
use Rattle.user_model.specs.Idle.{reply, is_barred, first_busy, have_all_ended, ends_stuck, advance_reply, busy_or, advanced, soonest}
use Rattle.user_model.proofs.WakeLaws.{advance_wakes}
use Rattle.script_tree.specs.Tree.{Tree}
use Rattle.log_text.specs.Ends.{setup_of, used}
use Rattle.user_pool.specs.Runs.{ComesNext, IsMove, IsRun}
use Rattle.user_pool.proofs.OneRun.{run_lawful}
use Rattle.user_pool.proofs.Turns.{move_can, thread_within, used_own, used_other, used_within, refuse_not}

-- ---- how many entries there are

-- the entries of the threads from 1 to n
abbrev total : ℕ → Past → ℕ
total zero past = 0
total (suc n) past = total n past + used past (suc n)

used_more : (e : Entry) (past : Past) (t : ℕ) → used past t ≤ used (e ∷ past) t
used_more e past t = elim (cases_Bool (eqb e.who.0 t)) [
  | inl hit ↦ omega (arith, used_own e past t hit)
  | inr miss ↦ omega (arith, used_other e past t miss)
]

total_more : (n : ℕ) (e : Entry) (past : Past) → total n past ≤ total n (e ∷ past)
total_more zero e past = omega arith
total_more (suc n) e past = omega (arith, total_more n e past, used_more e past (suc n))

total_own : (n : ℕ) (e : Entry) (past : Past) → 0 < e.who.0 → e.who.0 ≤ n → total n past + 1 ≤ total n (e ∷ past)
total_own zero e past positive within = absurd (omega arith)
total_own (suc n) e past positive within =
    elim (eqb_tells e.who.0 (suc n)) [
      | inl x ↦ omega (arith, total_more n e past, used_own e past (suc n) x.0)
      | inr x ↦ omega (arith, total_own n e past positive (omega (arith, x.1)), used_more e past (suc n))
    ]

total_within : (s : Tree) (past : Past) (n : ℕ) → IsRun s past → total n past ≤ n * s.budget
total_within s past zero run = omega arith
total_within s past (suc n) run =
    let product : suc n * s.budget ≡ n * s.budget + s.budget = omega arith in
    omega (arith, total_within s past n run, used_within s past (suc n) run (omega arith), product)

-- ---- the clock moves only where all are idle, and then some thread isn't or all is stuck

not_barred : (busy : Option ℕ) (ended stuck : Bool) → (not (is_none busy) || ended || stuck) ≡ false → (busy ≡ None) × (stuck ≡ false)
not_barred (Some t) ended stuck e = absurd (false≢true (sym e))
not_barred None true stuck e = absurd (false≢true (sym e))
not_barred None false stuck e = (refl, e)

pub quiet : (setup : Setup) (past : Past) → is_barred setup past 0 ≡ false → (first_busy setup past ≡ None) × (ends_stuck past ≡ false)
unfolding is_barred
quiet setup past free = not_barred (first_busy setup past) (have_all_ended setup past) (ends_stuck past) free

advance_is : (setup : Setup) (past : Past) → is_full past ≡ false → reply setup past 0 Advance ≡ advance_reply setup past
unfolding reply
advance_is setup past room = refuse_not (is_full past) Full (advance_reply setup past) room

clock_free : (s : Tree) (past : Past) (e : Entry) → IsMove s past e → e.who.0 ≡ 0 → is_barred (setup_of s) past 0 ≡ false
clock_free s past e move zero_is = ap (λ (w : ℕ). is_barred (setup_of s) past w) (sym zero_is) ∙ move.free

pub clock_call : (s : Tree) (past : Past) (who : ℕ) (call : Call) → who ≡ 0 → ComesNext s past who call → call ≡ Advance
clock_call s past zero call zero_is next = next
clock_call s past (suc n) call zero_is next = absurd (omega (arith, zero_is))

-- the clock's entry says that it went on to a time, or that nothing can go on
pub clock_answer : (s : Tree) (past : Past) (e : Entry) → IsMove s past e → e.who.0 ≡ 0 → e.answer ≡ advanced (soonest (setup_of s) past)
clock_answer s past e move zero_is =
    move.answer ∙ ap (λ (w : ℕ). reply (setup_of s) past w e.call) zero_is ∙ ap (reply (setup_of s) past 0) (clock_call s past e.who.0 e.call zero_is move.call)
    ∙ advance_is (setup_of s) past move.room
    ∙ ap (λ o. busy_or o (advanced (soonest (setup_of s) past))) (quiet (setup_of s) past (clock_free s past e move zero_is)).0

-- after it not all is quiet, or all is stuck
clock_busy : (s : Tree) (past : Past) (e : Entry) → IsRun s (e ∷ past) → e.who.0 ≡ 0 → (o : Option ℕ) → e.answer ≡ advanced o → is_barred (setup_of s) (e ∷ past) 0 ≡ false → ⊥
clock_busy s past e run zero_is (Some time) a free = some_busy (first_busy (setup_of s) (e ∷ past)) (quiet (setup_of s) (e ∷ past) free).0 (advance_wakes (setup_of s) past e time (run_lawful s (e ∷ past) run) zero_is a)
  where
    some_busy : (o : Option ℕ) → o ≡ None → is_none o ≡ false → ⊥
    some_busy None none busy = false≢true (sym busy)
    some_busy (Some t) none busy = absurd cc
clock_busy s past e run zero_is None a free =
    let stuck : ends_stuck (e ∷ past) ≡ true = rw (zero_is, a) refl in
    false≢true (sym (quiet (setup_of s) (e ∷ past) free).1 ∙ stuck)

-- so it doesn't move twice in a row
clock_stays : (s : Tree) (past : Past) (e f : Entry) → IsRun s (e ∷ past) → e.who.0 ≡ 0 → IsMove s (e ∷ past) f → 0 < f.who.0
clock_stays s past e f run zero_is next = elim (cases_lt 0 f.who.0) [
  | inl positive ↦ positive
  | inr le ↦ absurd (clock_busy s past e run zero_is (soonest (setup_of s) past) (clock_answer s past e run.0 zero_is) (clock_free s (e ∷ past) f next (omega (arith, le))))
]

-- one where the last entry is the clock's
abbrev by_clock : Past → ℕ
by_clock [] = 0
by_clock (e ∷ past) = cond (eqb e.who.0 0) 1 0

one_by_clock : (e : Entry) (past : Past) → eqb e.who.0 0 ≡ true → by_clock (e ∷ past) ≡ 1
one_by_clock e past hit = ap (λ b. cond {A = ℕ} b 1 0) hit

by_clock_most : (past : Past) → by_clock past ≤ 1
by_clock_most [] = omega arith
by_clock_most (e ∷ past) = pick (eqb e.who.0 0)
  where
    pick : (b : Bool) → cond b 1 0 ≤ 1
    pick true = omega arith
    pick false = omega arith

clock_then : (s : Tree) (past : Past) (f : Entry) → IsRun s past → IsMove s past f → f.who.0 ≡ 0 → by_clock past ≡ 0
clock_then s [] f run next zero_is = refl
clock_then s (e ∷ past) f run next zero_is =
    elim (eqb_tells e.who.0 0) [
      | inl x ↦ absurd (omega (arith, clock_stays s past e f run x.1 next, zero_is))
      | inr x ↦ ap (λ b. cond {A = ℕ} b 1 0) x.0
    ]

-- each entry is a thread's, or the clock's behind one of a thread
length_is : (s : Tree) (past : Past) → IsRun s past → length past ≤ 2 * total (length s.threads) past + by_clock past
length_is s [] run = omega arith
length_is s (e ∷ past) run =
    elim (eqb_tells e.who.0 0) [
      | inl x ↦ omega (arith, length_is s past run.1, total_more (length s.threads) e past, clock_then s past e run.1 run.0 x.1, one_by_clock e past x.0)
      | inr x ↦ let positive : 0 < e.who.0 = omega (arith, x.1) in
          omega (arith, length_is s past run.1, by_clock_most past, total_own (length s.threads) e past positive (thread_within s e.who.0 (move_can s past e run.0 positive).known))
    ]

mul_most : (a b : ℕ) → a ≤ 15 → b ≤ 65536 → a * b ≤ 983040
mul_most a b p q = omega (arith, mul-le-mul_left a q, p)

-- 15 threads with a budget of 65,536 entries each, and an entry of the clock behind each and before all
pub run_short : (s : Tree) (past : Past) → length s.threads ≤ 15 → s.budget ≤ 65536 → IsRun s past → length past ≤ 1966081
run_short s past few small run = omega (arith, length_is s past run, by_clock_most past, total_within s past (length s.threads) run, mul_most (length s.threads) s.budget few small)

pub has_room : (s : Tree) (past : Past) → length s.threads ≤ 15 → s.budget ≤ 65536 → IsRun s past → is_full past ≡ false
has_room s past few small run = le_false 2097152 (length past) (omega (arith, run_short s past few small run))
  where
    le_false : (a b : ℕ) → b < a → leb a b ≡ false
    le_false a b lt = grind (arith, nat_tests, lt)

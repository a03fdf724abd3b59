-- What is told of one run more.
use Rattle.std.proofs.Common.{◌≡◌, ℕ, ◌+◌, ◌<◌, ◌≤◌, Bool, true, false, cond, eqb, List, [], ◌∷◌, ◌++◌, length, get_or, Option, Some, None, refl, sym, ap, ◌∙◌, subst, inl, inr, arith}
use Rattle.std.specs.Prelude.{count_by, sum_by, take, drop}
use Rattle.std.proofs.lemmas.List.{take_more, take_all, take-append-drop, length-append}
use Rattle.std.proofs.lemmas.List.Sums.{sum_by-cons}
use Rattle.std.proofs.lemmas.Bool.{cases_Bool, false≢true}
use Rattle.std.proofs.lemmas.Bool.Decides.{nat_tests}
use Rattle.user_model.specs.Past.{Past, or_else}
use Rattle.script_tree.specs.Tree.{Tree}
use Rattle.run_explorer.specs.declared.step.Step.{Step}
use Rattle.run_explorer.specs.declared.report.Found.{Found}
use Rattle.run_explorer.specs.Steps.{AreStepsOf}
use Rattle.log_text.specs.declared.end.End.{End}
use Rattle.log_text.specs.declared.end.End.TheVariants as ends
use Rattle.log_text.specs.Ends.{end_of}
use Rattle.run_explorer.specs.declared.report.Report.{Report}
use Rattle.run_explorer.specs.Marks.{is_marked}
use Rattle.run_explorer.specs.Reports.{with_mover, movers, is_done, is_stuck, is_spent, first_that, IsOrderOf, AreFound, AreEndsTold, IsTold}
use Rattle.run_explorer.proofs.Stepping.{steps_length}

-- ---- counts

pub count_yes : (test : Past → Bool) (past : Past) (runs : List Past) → test past ≡ true → count_by test (past ∷ runs) ≡ count_by test runs + 1
count_yes test past runs e = sum_by-cons (λ (x : Past). cond (test x) 1 0) past runs ∙ let one : cond {A = ℕ} (test past) 1 0 ≡ 1 = rw e refl in omega (arith, one)

pub count_no : (test : Past → Bool) (past : Past) (runs : List Past) → test past ≡ false → count_by test (past ∷ runs) ≡ count_by test runs
count_no test past runs e = sum_by-cons (λ (x : Past). cond (test x) 1 0) past runs ∙ let none : cond {A = ℕ} (test past) 1 0 ≡ 0 = rw e refl in omega (arith, none)

-- ---- the first that passes

pub first_no : (test : Past → Bool) (past : Past) (runs : List Past) → test past ≡ false → first_that test (past ∷ runs) ≡ first_that test runs
first_no test past runs e = ap (λ b. or_else (first_that test runs) (cond b (Some past) None)) e ∙ none_behind (first_that test runs)
  where
    none_behind : (o : Option Past) → or_else o None ≡ o
    none_behind None = refl
    none_behind (Some x) = refl

-- where none was found before, this is the first
pub first_now : (test : Past → Bool) (past : Past) (runs : List Past) → test past ≡ true → count_by test runs ≡ 0 → first_that test (past ∷ runs) ≡ Some past
first_now test past runs e none = ap (λ o. or_else o (cond (test past) (Some past) None)) (no_first runs none) ∙ ap (λ b. cond {A = Option Past} b (Some past) None) e
  where
    no_first : (rs : List Past) → count_by test rs ≡ 0 → first_that test rs ≡ None
    no_first [] zeroth = refl
    no_first (r ∷ rs) zeroth = elim (cases_Bool (test r)) [
      | inl passes ↦ absurd (omega (arith, zeroth, count_yes test r rs passes))
      | inr other ↦ first_no test r rs other ∙ no_first rs (sym (count_no test r rs other) ∙ zeroth)
    ]

-- where one was found, it stays the first
here_first : (r : Past) (o : Option Past) (b : Bool) → b ≡ true → or_else o (cond b (Some r) None) ≡ None → ⊥
here_first r (Some x) b passes is = absurd cc
here_first r None true passes is = absurd cc
here_first r None false passes is = false≢true passes

has_first : (test : Past → Bool) (runs : List Past) → 0 < count_by test runs → first_that test runs ≡ None → ⊥
has_first test [] lt e = absurd (omega (arith, lt))
has_first test (r ∷ rs) lt e = elim (cases_Bool (test r)) [
  | inl passes ↦ here_first r (first_that test rs) (test r) passes e
  | inr other ↦ has_first test rs (omega (arith, lt, count_no test r rs other)) (sym (first_no test r rs other) ∙ e)
]

pub first_stays : (test : Past → Bool) (past : Past) (runs : List Past) → 0 < count_by test runs → first_that test (past ∷ runs) ≡ first_that test runs
first_stays test past runs some = keeps (first_that test runs) refl
  where
    keeps : (o : Option Past) → first_that test runs ≡ o → or_else (first_that test runs) (cond (test past) (Some past) None) ≡ first_that test runs
    keeps (Some x) e = rw e refl
    keeps None e = absurd (has_first test runs some e)

-- ---- movers

-- the threads among the movers of some steps
abbrev pub moved : List Step → List ℕ
moved [] = []
moved (x ∷ xs) = cond (eqb x.mover 0) (moved xs) (x.mover ∷ moved xs)

pub moved_push : (xs : List Step) (x : Step) → moved (xs ++ x ∷ []) ≡ with_mover (moved xs) x.mover
moved_push [] x = refl
moved_push (y ∷ xs) x = pick (eqb y.mover 0) (eqb x.mover 0) (moved xs) (moved (xs ++ x ∷ [])) (moved_push xs x)
  where
    pick : (a b : Bool) (ms ns : List ℕ) → ns ≡ cond b ms (ms ++ x.mover ∷ []) → cond a ns (y.mover ∷ ns) ≡ cond b (cond a ms (y.mover ∷ ms)) (cond a ms (y.mover ∷ ms) ++ x.mover ∷ [])
    pick true true ms ns e = e
    pick true false ms ns e = e
    pick false true ms ns e = ap (λ (k : List ℕ). y.mover ∷ k) e
    pick false false ms ns e = ap (λ (k : List ℕ). y.mover ∷ k) e

-- they are those that moved
pub movers_moved : (s : Tree) (bound : ℕ) (past : Past) (steps : List Step) → AreStepsOf s bound past steps → movers past ≡ moved steps
movers_moved s bound [] steps are = sym (ap moved are)
movers_moved s bound (e ∷ past) steps are =
    let before : movers past ≡ moved are.before = movers_moved s bound past are.before are.rest in
    sym (ap moved are.is ∙ moved_push are.before are.last ∙ ap (λ (t : ℕ). with_mover (moved are.before) t) are.step.mover
    ∙ ap (λ (ms : List ℕ). with_mover ms e.who.0) (sym before))

-- a front of some steps has no more
pub moved_front : (xs ys : List Step) → length (moved xs) ≤ length (moved (xs ++ ys))
moved_front [] ys = omega arith
moved_front (x ∷ xs) ys = pick (eqb x.mover 0) (moved xs) (moved (xs ++ ys)) (moved_front xs ys)
  where
    pick : (a : Bool) (ms ns : List ℕ) → length ms ≤ length ns → length (cond a ms (x.mover ∷ ms)) ≤ length (cond a ns (x.mover ∷ ns))
    pick true ms ns le = le
    pick false ms ns le = omega (arith, le)

-- the first steps with one more
moved_more : (steps : List Step) (i : ℕ) (d : Step) → i < length steps → moved (take (i + 1) steps) ≡ with_mover (moved (take i steps)) (get_or steps i d).mover
moved_more steps i d lt = ap moved (take_more steps i d lt) ∙ moved_push (take i steps) (get_or steps i d)

pub numbers_more : (steps : List Step) (i : ℕ) (d : Step) (numbers now : List ℕ) → i < length steps → numbers ≡ moved (take i steps) → now ≡ with_mover numbers (get_or steps i d).mover → now ≡ moved (take (i + 1) steps)
numbers_more steps i d numbers now lt were is = is ∙ ap (λ (ms : List ℕ). with_mover ms (get_or steps i d).mover) were ∙ sym (moved_more steps i d lt)

thread_more : (numbers : List ℕ) (mover : ℕ) (b : Bool) → b ≡ false → length (cond b numbers (numbers ++ mover ∷ [])) ≡ length numbers + 1
thread_more numbers mover b e = ap (λ c. length (cond c numbers (numbers ++ mover ∷ []))) e ∙ length-append numbers (mover ∷ [])

-- there are more than an order list has
pub long_order : (steps : List Step) (i : ℕ) (d : Step) (numbers : List ℕ) → i < length steps → 0 < (get_or steps i d).mover → numbers ≡ moved (take i steps) → length numbers ≡ 65536
    → (s : Tree) (bound : ℕ) (past : Past) → AreStepsOf s bound past steps → 65536 < length (movers past)
long_order steps i d numbers lt thread were full s bound past are =
    let other : eqb (get_or steps i d).mover 0 ≡ false = grind (arith, nat_tests, thread) in
    let more : length (moved (take (i + 1) steps)) ≡ 65536 + 1 = ap length (moved_more steps i d lt) ∙ thread_more (moved (take i steps)) (get_or steps i d).mover (eqb (get_or steps i d).mover 0) other ∙ omega (arith, full, ap length were) in
    let front : length (moved (take (i + 1) steps)) ≤ length (moved steps) = subst (λ (xs : List Step). length (moved (take (i + 1) steps)) ≤ length (moved xs)) (take-append-drop (i + 1) steps) (moved_front (take (i + 1) steps) (drop (i + 1) steps)) in
    omega (arith, more, front, ap length (movers_moved s bound past steps are))

-- they are all
pub whole_order : (steps : List Step) (i : ℕ) (numbers : List ℕ) → length steps ≤ i → numbers ≡ moved (take i steps) → length numbers ≤ 65536
    → (s : Tree) (bound : ℕ) (past : Past) → AreStepsOf s bound past steps → (numbers ≡ movers past) × (length (movers past) ≤ 65536)
whole_order steps i numbers le were few s bound past are =
    let same : numbers ≡ movers past = were ∙ ap moved (take_all i steps le) ∙ sym (movers_moved s bound past steps are) in
    (same, omega (arith, few, ap length same))

-- ---- one run more

pub found_first : (test : Past → Bool) (past : Past) (runs : List Past) (old now : Found) → AreFound test runs old → test past ≡ true → old.count ≡ 0 → now.count ≡ 1 → IsOrderOf (Some past) now.order → AreFound test (past ∷ runs) now
found_first test past runs old now were passes none one order = record {
  count = one ∙ omega (arith, none, were.count, count_yes test past runs passes);
  order = subst (λ o. IsOrderOf o now.order) (sym (first_now test past runs passes (sym were.count ∙ none))) order;
}

pub found_more : (test : Past → Bool) (past : Past) (runs : List Past) (old now : Found) → AreFound test runs old → test past ≡ true → 0 < old.count → now.count ≡ old.count + 1 → now.order ≡ old.order → AreFound test (past ∷ runs) now
found_more test past runs old now were passes some more order = record {
  count = more ∙ omega (arith, were.count, count_yes test past runs passes);
  order = subst (λ o. IsOrderOf o now.order) (sym (first_stays test past runs (omega (arith, were.count, some)))) (subst (λ x. IsOrderOf (first_that test runs) x) (sym order) were.order);
}

pub found_not : (test : Past → Bool) (past : Past) (runs : List Past) (found : Found) → AreFound test runs found → test past ≡ false → AreFound test (past ∷ runs) found
found_not test past runs found were misses = record {
  count = were.count ∙ sym (count_no test past runs misses);
  order = subst (λ o. IsOrderOf o found.order) (sym (first_no test past runs misses)) were.order;
}

-- the counts of a report, with one run more
record CountsMore (s : Tree) (bound : ℕ) (runs : List Past) (past : Past) (steps : List Step) (old now : Report) : Type 0 where
  were : AreEndsTold s runs old
  are : AreStepsOf s bound past steps
  runs_more : now.runs ≡ old.runs + 1
  entries_more : now.entries ≡ old.entries + length steps

entries_are : (s : Tree) (bound : ℕ) (runs : List Past) (past : Past) (steps : List Step) (old now : Report) → CountsMore s bound runs past steps old now → now.entries ≡ sum_by length (past ∷ runs)
entries_are s bound runs past steps old now more =
    let size : length steps ≡ length past = steps_length s bound past steps more.are in
    more.entries_more ∙ omega (arith, more.were.entries, size, sum_by-cons length past runs)

module _ (s : Tree) (bound : ℕ) (runs : List Past) (past : Past) (steps : List Step) (old now : Report) (end : End) (were : AreEndsTold s runs old) (are : AreStepsOf s bound past steps) (ended : end ≡ end_of s past)
    (runs_more : now.runs ≡ old.runs + 1) (entries_more : now.entries ≡ old.entries + length steps) where
  counts : CountsMore s bound runs past steps old now
  counts = record { were = were; are = are; runs_more = runs_more; entries_more = entries_more }

  pub told_done : end ≡ ends.Done → now.done ≡ old.done + 1 → now.stuck ≡ old.stuck → now.spent ≡ old.spent → AreEndsTold s (past ∷ runs) now
  told_done is done stuck spent =
      let e : end_of s past ≡ ends.Done = sym ended ∙ is in
      record {
        count = runs_more ∙ omega (arith, were.count);
        entries = entries_are s bound runs past steps old now counts;
        done = done ∙ omega (arith, were.done, count_yes (λ p. is_done (end_of s p)) past runs (ap is_done e));
        stuck = subst (AreFound (λ p. is_stuck (end_of s p)) (past ∷ runs)) (sym stuck) (found_not (λ p. is_stuck (end_of s p)) past runs old.stuck were.stuck (ap is_stuck e));
        spent = subst (AreFound (λ p. is_spent (end_of s p)) (past ∷ runs)) (sym spent) (found_not (λ p. is_spent (end_of s p)) past runs old.spent were.spent (ap is_spent e));
      }

  pub told_stuck : end ≡ ends.Stuck → now.done ≡ old.done → now.spent ≡ old.spent → ((test : Past → Bool) (t : Tree) (b : ℕ) (p : Past) (rs : List Past) → AreStepsOf t b p steps → test p ≡ true → AreFound test rs old.stuck → AreFound test (p ∷ rs) now.stuck) → AreEndsTold s (past ∷ runs) now
  told_stuck is done spent found =
      let e : end_of s past ≡ ends.Stuck = sym ended ∙ is in
      record {
        count = runs_more ∙ omega (arith, were.count);
        entries = entries_are s bound runs past steps old now counts;
        done = done ∙ were.done ∙ sym (count_no (λ p. is_done (end_of s p)) past runs (ap is_done e));
        stuck = found (λ p. is_stuck (end_of s p)) s bound past runs are (ap is_stuck e) were.stuck;
        spent = subst (AreFound (λ p. is_spent (end_of s p)) (past ∷ runs)) (sym spent) (found_not (λ p. is_spent (end_of s p)) past runs old.spent were.spent (ap is_spent e));
      }

  pub told_spent : end ≡ ends.Spent → now.done ≡ old.done → now.stuck ≡ old.stuck → ((test : Past → Bool) (t : Tree) (b : ℕ) (p : Past) (rs : List Past) → AreStepsOf t b p steps → test p ≡ true → AreFound test rs old.spent → AreFound test (p ∷ rs) now.spent) → AreEndsTold s (past ∷ runs) now
  told_spent is done stuck found =
      let e : end_of s past ≡ ends.Spent = sym ended ∙ is in
      record {
        count = runs_more ∙ omega (arith, were.count);
        entries = entries_are s bound runs past steps old now counts;
        done = done ∙ were.done ∙ sym (count_no (λ p. is_done (end_of s p)) past runs (ap is_done e));
        stuck = subst (AreFound (λ p. is_stuck (end_of s p)) (past ∷ runs)) (sym stuck) (found_not (λ p. is_stuck (end_of s p)) past runs old.stuck were.stuck (ap is_stuck e));
        spent = found (λ p. is_spent (end_of s p)) s bound past runs are (ap is_spent e) were.spent;
      }

  pub told_cut : end ≡ ends.Cut → now.done ≡ old.done → now.stuck ≡ old.stuck → now.spent ≡ old.spent → AreEndsTold s (past ∷ runs) now
  told_cut is done stuck spent =
      let e : end_of s past ≡ ends.Cut = sym ended ∙ is in
      record {
        count = runs_more ∙ omega (arith, were.count);
        entries = entries_are s bound runs past steps old now counts;
        done = done ∙ were.done ∙ sym (count_no (λ p. is_done (end_of s p)) past runs (ap is_done e));
        stuck = subst (AreFound (λ p. is_stuck (end_of s p)) (past ∷ runs)) (sym stuck) (found_not (λ p. is_stuck (end_of s p)) past runs old.stuck were.stuck (ap is_stuck e));
        spent = subst (AreFound (λ p. is_spent (end_of s p)) (past ∷ runs)) (sym spent) (found_not (λ p. is_spent (end_of s p)) past runs old.spent were.spent (ap is_spent e));
      }

-- whether these are all, and the mark, change nothing of the ends
pub ends_still : (s : Tree) (runs : List Past) (old now : Report) → AreEndsTold s runs old → now.runs ≡ old.runs → now.entries ≡ old.entries → now.done ≡ old.done → now.stuck ≡ old.stuck → now.spent ≡ old.spent → AreEndsTold s runs now
ends_still s runs old now told count entries done stuck spent = record {
  count = count ∙ told.count;
  entries = entries ∙ told.entries;
  done = done ∙ told.done;
  stuck = subst (AreFound (λ p. is_stuck (end_of s p)) runs) (sym stuck) told.stuck;
  spent = subst (AreFound (λ p. is_spent (end_of s p)) runs) (sym spent) told.spent;
}

-- whether these are all changes nothing that is told
pub told_still : (s : Tree) (name : Option (List ℕ)) (runs : List Past) (old now : Report) → IsTold s name runs old → now.runs ≡ old.runs → now.entries ≡ old.entries → now.done ≡ old.done → now.stuck ≡ old.stuck → now.spent ≡ old.spent
    → now.marked ≡ old.marked → now.asks_marked ≡ old.asks_marked → IsTold s name runs now
told_still s name runs old now told count entries done stuck spent marked asks = record {
  ends = ends_still s runs old now told.ends count entries done stuck spent;
  marked = subst (AreFound (is_marked s name) runs) (sym marked) told.marked;
  asks = asks ∙ told.asks;
}

-- ---- the mark of one run more

-- one that is marked
pub told_marked : (s : Tree) (bound : ℕ) (name : Option (List ℕ)) (runs : List Past) (past : Past) (steps : List Step) (old mid now : Report) → AreEndsTold s (past ∷ runs) mid → IsTold s name runs old → mid.marked ≡ old.marked → mid.asks_marked ≡ old.asks_marked
    → AreStepsOf s bound past steps → is_marked s name past ≡ true → ((test : Past → Bool) (t : Tree) (b : ℕ) (p : Past) (rs : List Past) → AreStepsOf t b p steps → test p ≡ true → AreFound test rs mid.marked → AreFound test (p ∷ rs) now.marked)
    → now.runs ≡ mid.runs → now.entries ≡ mid.entries → now.done ≡ mid.done → now.stuck ≡ mid.stuck → now.spent ≡ mid.spent → now.asks_marked ≡ mid.asks_marked → IsTold s name (past ∷ runs) now
told_marked s bound name runs past steps old mid now ends told were asked are marks found count entries done stuck spent asks = record {
  ends = ends_still s (past ∷ runs) mid now ends count entries done stuck spent;
  marked = found (is_marked s name) s bound past runs are marks (subst (AreFound (is_marked s name) runs) (sym were) told.marked);
  asks = asks ∙ asked ∙ told.asks;
}

-- one that isn't
pub told_unmarked : (s : Tree) (name : Option (List ℕ)) (runs : List Past) (past : Past) (old mid : Report) → AreEndsTold s (past ∷ runs) mid → IsTold s name runs old → mid.marked ≡ old.marked → mid.asks_marked ≡ old.asks_marked → is_marked s name past ≡ false → IsTold s name (past ∷ runs) mid
told_unmarked s name runs past old mid ends told were asked misses = record {
  ends = ends;
  marked = found_not (is_marked s name) past runs mid.marked (subst (AreFound (is_marked s name) runs) (sym were) told.marked) misses;
  asks = asked ∙ told.asks;
}

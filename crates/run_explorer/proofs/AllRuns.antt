-- What is told of all runs: each once, each within a bound that is as great as all budgets, and none that was counted out.
use Rattle.std.proofs.Common.{◌≡◌, ◌≢◌, ℕ, zero, suc, ◌+◌, ◌*◌, ◌<◌, ◌≤◌, Bool, true, false, eqb, List, [], ◌∷◌, length, get_or, Option, Some, None, sym, ap, ◌∙◌, inl, inr, arith}
use Rattle.std.specs.Prelude.{count_by, Contains}
use Rattle.std.proofs.lemmas.Bool.{cases_Bool, false≢true}
use Rattle.std.proofs.lemmas.Bool.Decides.{eqb_tells}
use Rattle.user_model.specs.declared.entry.Entry.{Entry}
use Rattle.user_model.specs.Past.{Past}
use Rattle.script_tree.specs.Tree.{Tree}
use Rattle.log_text.specs.declared.end.End.TheVariants as ends
use Rattle.log_text.specs.Ends.{used, end_of}
use Rattle.user_pool.specs.Runs.{choice, IsRun}
use Rattle.user_pool.proofs.Turns.{move_can, thread_within, used_own, used_other, used_within}
use Rattle.run_explorer.specs.declared.part.Part.{Part}
use Rattle.run_explorer.specs.declared.report.Report.{Report}
use Rattle.run_explorer.specs.declared.report.Found.{Found}
use Rattle.run_explorer.specs.Parts.{IsPartOf}
use Rattle.run_explorer.specs.Marks.{is_marked}
use Rattle.run_explorer.specs.Reports.{is_stuck, is_spent, AreFound, Explored}
use Rattle.run_explorer.specs.Orders.{is_switch, switches, IsWithin, IsBefore, AreRising}
use Rattle.run_explorer.proofs.Orders.{never_itself}
use Rattle.run_explorer.proofs.Moves.{takes_turn, one_more, no_more}
use Rattle.run_explorer.proofs.Telling.{count_yes, count_no}

-- ---- each once

rising_at : (runs : List Past) → AreRising runs → (i j : ℕ) (d : Past) → i < j → j < length runs → IsBefore (get_or runs j d) (get_or runs i d)
rising_at [] rising i j d lt within = absurd (omega (arith, within))
rising_at (last ∷ runs) rising i zero d lt within = absurd (omega (arith, lt))
rising_at (last ∷ runs) rising zero (suc j) d lt within = rising.0 j d (omega (arith, within))
rising_at (last ∷ runs) rising (suc i) (suc j) d lt within = rising_at runs rising.1 i j d (omega (arith, lt)) (omega (arith, within))

pub told_once : (runs : List Past) → AreRising runs → (i j : ℕ) (d : Past) → i < j → j < length runs → get_or runs i d ≡ get_or runs j d → ⊥
told_once runs rising i j d lt within same = never_itself (get_or runs j d) (get_or runs i d) (sym same) (rising_at runs rising i j d lt within)

-- ---- no more switches than entries of threads

-- the entries of the threads from 1 to n
abbrev total : ℕ → Past → ℕ
total zero past = 0
total (suc n) past = total n past + used past (suc n)

used_more : (e : Entry) (past : Past) (t : ℕ) → used past t ≤ used (e ∷ past) t
used_more e past t = elim (cases_Bool (eqb e.who.0 t)) [
  | inl hit ↦ omega (arith, used_own e past t hit)
  | inr miss ↦ omega (arith, used_other e past t miss)
]

total_more : (n : ℕ) (e : Entry) (past : Past) → total n past ≤ total n (e ∷ past)
total_more zero e past = omega arith
total_more (suc n) e past = omega (arith, total_more n e past, used_more e past (suc n))

total_own : (n : ℕ) (e : Entry) (past : Past) → 0 < e.who.0 → e.who.0 ≤ n → total n past + 1 ≤ total n (e ∷ past)
total_own zero e past positive within = absurd (omega arith)
total_own (suc n) e past positive within =
    elim (eqb_tells e.who.0 (suc n)) [
      | inl x ↦ omega (arith, total_more n e past, used_own e past (suc n) x.0)
      | inr x ↦ omega (arith, total_own n e past positive (omega (arith, x.1)), used_more e past (suc n))
    ]

total_within : (s : Tree) (past : Past) (n : ℕ) → IsRun s past → total n past ≤ n * s.budget
total_within s past zero run = omega arith
total_within s past (suc n) run =
    let product : suc n * s.budget ≡ n * s.budget + s.budget = omega arith in
    omega (arith, total_within s past n run, used_within s past (suc n) run (omega arith), product)

-- each switch is an entry of a thread
switches_total : (s : Tree) (past : Past) → IsRun s past → switches s past ≤ total (length s.threads) past
switches_total s [] run = omega arith
switches_total s (e ∷ past) run = elim (cases_Bool (is_switch s past e.who.0)) [
  | inl switch ↦
      let positive : 0 < e.who.0 = (takes_turn s past e.who.0 switch).thread in
      omega (arith, switches_total s past run.1, one_more (is_switch s past e.who.0) (switches s past) switch, total_own (length s.threads) e past positive (thread_within s e.who.0 (move_can s past e run.0 positive).known))
  | inr keeps ↦ omega (arith, switches_total s past run.1, no_more (is_switch s past e.who.0) (switches s past) keeps, total_more (length s.threads) e past)
]

pub all_within : (s : Tree) (bound : ℕ) (past : Past) → IsRun s past → choice s past ≡ None → length s.threads * s.budget ≤ bound → IsWithin s bound past
all_within s bound past run over great = record { run = run; over = over; few = omega (arith, switches_total s past run, total_within s past (length s.threads) run, great) }

-- ---- none of them

pub none_passes : (test : Past → Bool) (runs : List Past) (past : Past) → count_by test runs ≡ 0 → Contains runs past → test past ≡ false
none_passes test [] past none there = absurd (omega (arith, there.1))
none_passes test (r ∷ rs) past none there = elim (cases_Bool (test r)) [
  | inl passes ↦ absurd (omega (arith, none, count_yes test r rs passes))
  | inr other ↦ pick (λ c. none_passes test rs past (sym (count_no test r rs other) ∙ none) c) other there.0 there.1 there.2
]
  where
    pick : (Contains rs past → test past ≡ false) → test r ≡ false → (k : ℕ) → k < length (r ∷ rs) → get_or (r ∷ rs) k past ≡ past → test past ≡ false
    pick rest other zero lt same = ap test (sym same) ∙ other
    pick rest other (suc k) lt same = rest (k, omega (arith, lt), same)

-- where all are told and none is counted, none of the part is one
none_of_part : (s : Tree) (bound limit : ℕ) (part : Part) (name : Option (List ℕ)) (report : Report) (explored : Explored s bound limit part name report) (test : Past → Bool) (found : Found) → AreFound test explored.runs found → report.is_all ≡ true → found.count ≡ 0
    → (past : Past) → IsPartOf s bound part past → test past ≡ false
none_of_part s bound limit part name report explored test found are all none past within = none_passes test explored.runs past (sym are.count ∙ none) (explored.all all past within)

pub none_stuck : (s : Tree) (bound limit : ℕ) (part : Part) (name : Option (List ℕ)) (report : Report) → Explored s bound limit part name report → report.is_all ≡ true → report.stuck.count ≡ 0 → (past : Past) → IsPartOf s bound part past → end_of s past ≢ ends.Stuck
none_stuck s bound limit part name report explored all none past within stuck =
    false≢true (sym (none_of_part s bound limit part name report explored (λ p. is_stuck (end_of s p)) report.stuck explored.told.ends.stuck all none past within) ∙ ap is_stuck stuck)

pub none_spent : (s : Tree) (bound limit : ℕ) (part : Part) (name : Option (List ℕ)) (report : Report) → Explored s bound limit part name report → report.is_all ≡ true → report.spent.count ≡ 0 → (past : Past) → IsPartOf s bound part past → end_of s past ≢ ends.Spent
none_spent s bound limit part name report explored all none past within spent =
    false≢true (sym (none_of_part s bound limit part name report explored (λ p. is_spent (end_of s p)) report.spent explored.told.ends.spent all none past within) ∙ ap is_spent spent)

pub none_marked : (s : Tree) (bound limit : ℕ) (part : Part) (name : List ℕ) (report : Report) → Explored s bound limit part (Some name) report → report.is_all ≡ true → report.marked.count ≡ 0 → (past : Past) → IsPartOf s bound part past → is_marked s (Some name) past ≡ false
none_marked s bound limit part name report explored all none past within =
    none_of_part s bound limit part (Some name) report explored (is_marked s (Some name)) report.marked explored.told.marked all none past within

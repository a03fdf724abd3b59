-- A log has one first bad place, and one reason there.
use Rattle.std.proofs.Common.{◌≡◌, ◌≢◌, ℕ, zero, suc, ◌<◌, ◌≤◌, true, false, List, [], ◌∷◌, ◌++◌, length, take, Option, Some, None, refl, ap, sym, ◌∙◌, subst, inl, inr, ◌⊎◌, arith, append_assoc, append-nil}
use Rattle.std.specs.Prelude.{slice_get}
use Rattle.std.proofs.lemmas.Bool.{false≢true, cases_order, cases_lt}
use Rattle.std.proofs.lemmas.List.{length-append}
use Rattle.win_num.specs.declared.message.Thread.{Thread}
use Rattle.user_model.specs.declared.call.Call.{Call}
use Rattle.user_model.specs.declared.entry.Answer.{Answer}
use Rattle.user_model.specs.declared.entry.Entry.{Entry}
use Rattle.user_model.specs.Past.{Past}
use Rattle.user_model.specs.Idle.{is_barred}
use Rattle.script_tree.specs.Tree.{Tree}
use Rattle.script_tree.proofs.TraceLaws.{one_end}
use Rattle.log_text.specs.Ends.{setup_of}
use Rattle.log_text.specs.Frames.{rows, shown}
use Rattle.log_read.specs.Logs.{LogEntryTree, LogTree, log_entry_of, log_entries_of, log_of}
use Rattle.log_read.proofs.ListLaws.{first_same, rest_same, split_same}
use Rattle.illegal_text.specs.declared.illegal.Illegal.{Illegal}
use Rattle.illegal_text.specs.declared.illegal.Over.{Over}
use Rattle.illegal_text.specs.declared.illegal.Over.TheVariants as overs
use Rattle.illegal_text.specs.declared.illegal.Why.{Why}
use Rattle.illegal_text.specs.declared.illegal.Why.TheVariants as reasons
use Rattle.illegal_text.specs.EndingLines.{ending_lines}
use Rattle.user_pool.specs.Runs.{IsMove, IsRun}
use Rattle.log_replay.specs.Replays.{IsOver, IsHeldBy, MayMake, IsWrongMove, IsWrong, DifferAt, DifferInRow, IsWrongEntry, IsWrongEnding, IsBad, IsFirstBad}
use Rattle.log_replay.proofs.NoRuns.{no_actor, has_spent, has_ended, wrong_held, one_next, wrong_move, wrong_entry}
use Rattle.log_replay.proofs.Pasts.{same_past}

-- ---- where two lists first differ

module _ {A : Type 0} where
  slice_same : (xs ys : List A) (k n : ℕ) → take n xs ≡ take n ys → k < n → slice_get xs k ≡ slice_get ys k
  slice_same [] [] k n e lt = refl
  slice_same [] (y ∷ ys) k zero e lt = absurd (omega (arith, lt))
  slice_same [] (y ∷ ys) k (suc n) e lt = absurd cc
  slice_same (x ∷ xs) [] k zero e lt = absurd (omega (arith, lt))
  slice_same (x ∷ xs) [] k (suc n) e lt = absurd cc
  slice_same (x ∷ xs) (y ∷ ys) k zero e lt = absurd (omega (arith, lt))
  slice_same (x ∷ xs) (y ∷ ys) zero (suc n) e lt = ap (λ (z : A). let o : Option A = Some z in o) (first_same x y (take n xs) (take n ys) e)
  slice_same (x ∷ xs) (y ∷ ys) (suc k) (suc n) e lt = slice_same xs ys k n (rest_same x y (take n xs) (take n ys) e) (omega (arith, lt))

  one_difference : (xs ys : List A) (k n : ℕ) → DifferAt xs ys k → DifferAt xs ys n → k ≡ n
  one_difference xs ys k n first second = elim (cases_order k n) [
    | inl same ↦ same
    | inr o ↦ elim o [
      | inl lt ↦ absurd (first.there (slice_same xs ys k n second.before lt))
      | inr gt ↦ absurd (second.there (slice_same xs ys n k first.before gt))
    ]
  ]

row_same : (s : Tree) (o p : Option (List ℕ)) (k n : ℕ) → DifferInRow s o p k → DifferInRow s o p n → k ≡ n
row_same s (Some x) (Some y) k n first second = one_difference (rows s.width s.height x) (rows s.width s.height y) k n first second
row_same s (Some x) None k n first second = absurd first
row_same s None p k n first second = absurd first

-- ---- one reason for a move

over_same : (s : Tree) (past : Past) (who : ℕ) (o p : Over) → IsOver s past who o → IsOver s past who p → o ≡ p
over_same s past who overs.Absent overs.Absent a b = refl
over_same s past who overs.Absent overs.Stop a b = absurd (omega (arith, a, b.0))
over_same s past who overs.Absent overs.Ended a b = absurd (omega (arith, a, b.0.1))
over_same s past who overs.Absent overs.Spent a b = absurd (omega (arith, a, b.0.1))
over_same s past who overs.Stop overs.Absent a b = absurd (omega (arith, a.0, b))
over_same s past who overs.Stop overs.Stop a b = refl
over_same s past who overs.Stop overs.Ended a b = absurd (omega (arith, a.0, b.0.0))
over_same s past who overs.Stop overs.Spent a b = absurd (omega (arith, a.0, b.0.0))
over_same s past who overs.Ended overs.Absent a b = absurd (omega (arith, a.0.1, b))
over_same s past who overs.Ended overs.Stop a b = absurd (omega (arith, a.0.0, b.0))
over_same s past who overs.Ended overs.Ended a b = refl
over_same s past who overs.Ended overs.Spent a b = let e = one_end s a.1 b.1.next in absurd cc
over_same s past who overs.Spent overs.Absent a b = absurd (omega (arith, a.0.1, b))
over_same s past who overs.Spent overs.Stop a b = absurd (omega (arith, a.0.0, b.0))
over_same s past who overs.Spent overs.Ended a b = let e = one_end s b.1 a.1.next in absurd cc
over_same s past who overs.Spent overs.Spent a b = refl

over_held : (s : Tree) (past : Past) (who : ℕ) (o : Over) (t : ℕ) → IsOver s past who o → IsHeldBy s past who t → ⊥
over_held s past zero overs.Absent t a h = omega (arith, a)
over_held s past zero overs.Stop t a h = let quiet = a.1.quiet in absurd cc
over_held s past zero overs.Ended t a h = omega (arith, a.0.0)
over_held s past zero overs.Spent t a h = omega (arith, a.0.0)
over_held s past (suc n) overs.Absent t a h = omega (arith, a, h.1.0.1)
over_held s past (suc n) overs.Stop t a h = omega (arith, a.0)
over_held s past (suc n) overs.Ended t a h = let e = one_end s a.1 h.1.1.0.next in absurd cc
over_held s past (suc n) overs.Spent t a h = omega (arith, a.1.spent, h.1.1.0.left)

over_may : (s : Tree) (past : Past) (who : ℕ) (o : Over) (call : Call) → IsOver s past who o → MayMake s past who call → ⊥
over_may s past who overs.Absent call a may = no_actor s past who a may.remains
over_may s past who overs.Stop call a may = false≢true (sym may.free ∙ ap (is_barred (setup_of s) past) a.0 ∙ a.1.barred)
over_may s past who overs.Ended call a may = has_ended s past who call a.0.0 may.next a.1
over_may s past who overs.Spent call a may = has_spent s past who a.0.0 may.remains a

held_same : (s : Tree) (past : Past) (who t u : ℕ) → IsHeldBy s past who t → IsHeldBy s past who u → t ≡ u
held_same s past zero t u a b = cc
held_same s past (suc n) t u a b = a.0 ∙ sym b.0

thread_same : (t u : Thread) → t.0 ≡ u.0 → t ≡ u
thread_same t u e = ap (λ n. let x : Thread = record { 0 = n } in x) e

move_same : (s : Tree) (past : Past) (e : Entry) (a b : Why) → IsWrongMove s past e a → IsWrongMove s past e b → a ≡ b
move_same s past e (reasons.Frame row) b x y = absurd x
move_same s past e (reasons.EndLine k) b x y = absurd x
move_same s past e (reasons.Over o) (reasons.Frame row) x y = absurd y
move_same s past e (reasons.Over o) (reasons.EndLine k) x y = absurd y
move_same s past e (reasons.Over o) (reasons.Over p) x y = ap (λ (z : Over). reasons.Over z) (over_same s past e.who.0 o p x y)
move_same s past e (reasons.Over o) (reasons.Barred t) x y = absurd (over_held s past e.who.0 o t.0 x y)
move_same s past e (reasons.Over o) (reasons.Call c) x y = absurd (over_may s past e.who.0 o c x y.0)
move_same s past e (reasons.Over o) (reasons.Answer a) x y = absurd (over_may s past e.who.0 o e.call x y.0)
move_same s past e (reasons.Barred t) (reasons.Frame row) x y = absurd y
move_same s past e (reasons.Barred t) (reasons.EndLine k) x y = absurd y
move_same s past e (reasons.Barred t) (reasons.Over o) x y = absurd (over_held s past e.who.0 o t.0 y x)
move_same s past e (reasons.Barred t) (reasons.Barred u) x y = ap (λ (z : Thread). reasons.Barred z) (thread_same t u (held_same s past e.who.0 t.0 u.0 x y))
move_same s past e (reasons.Barred t) (reasons.Call c) x y = absurd (wrong_held s past e.who.0 t.0 y.0.free x)
move_same s past e (reasons.Barred t) (reasons.Answer a) x y = absurd (wrong_held s past e.who.0 t.0 y.0.free x)
move_same s past e (reasons.Call c) (reasons.Frame row) x y = absurd y
move_same s past e (reasons.Call c) (reasons.EndLine k) x y = absurd y
move_same s past e (reasons.Call c) (reasons.Over o) x y = absurd (over_may s past e.who.0 o c y x.0)
move_same s past e (reasons.Call c) (reasons.Barred t) x y = absurd (wrong_held s past e.who.0 t.0 x.0.free y)
move_same s past e (reasons.Call c) (reasons.Call d) x y = ap (λ (z : Call). reasons.Call z) (one_next s past e.who.0 c d x.0.next y.0.next)
move_same s past e (reasons.Call c) (reasons.Answer a) x y = absurd (x.1 (one_next s past e.who.0 e.call c y.0.next x.0.next))
move_same s past e (reasons.Answer a) (reasons.Frame row) x y = absurd y
move_same s past e (reasons.Answer a) (reasons.EndLine k) x y = absurd y
move_same s past e (reasons.Answer a) (reasons.Over o) x y = absurd (over_may s past e.who.0 o e.call y x.0)
move_same s past e (reasons.Answer a) (reasons.Barred t) x y = absurd (wrong_held s past e.who.0 t.0 x.0.free y)
move_same s past e (reasons.Answer a) (reasons.Call c) x y = absurd (y.1 (one_next s past e.who.0 e.call c x.0.next y.0.next))
move_same s past e (reasons.Answer a) (reasons.Answer b) x y = ap (λ (z : Answer). reasons.Answer z) (x.1.0 ∙ sym y.1.0)

-- ---- one reason for an entry

-- the entry is right, and its frame is wrong
record WrongFrame (s : Tree) (past : Past) (e : LogEntryTree) (why : Why) : Type 0 where
  row : ℕ
  is : why ≡ reasons.Frame row
  move : IsMove s past e.entry
  differ : DifferInRow s e.frame (shown (setup_of s) past e.entry.answer) row

parts : (s : Tree) (past : Past) (e : LogEntryTree) (why : Why) → IsWrong s past e why → IsWrongMove s past e.entry why ⊎ WrongFrame s past e why
parts s past e (reasons.Over o) x = inl x
parts s past e (reasons.Barred t) x = inl x
parts s past e (reasons.Call c) x = inl x
parts s past e (reasons.Answer a) x = inl x
parts s past e (reasons.EndLine k) x = inl x
parts s past e (reasons.Frame row) x = inr (record { row = row; is = refl; move = x.0; differ = x.1 })

reason_same : (s : Tree) (past : Past) (e : LogEntryTree) (a b : Why) → IsWrong s past e a → IsWrong s past e b → a ≡ b
reason_same s past e a b x y = elim (parts s past e a x) [
  | inl m ↦ elim (parts s past e b y) [
    | inl n ↦ move_same s past e.entry a b m n
    | inr f ↦ absurd (wrong_move s past e.entry a f.move m)
  ]
  | inr f ↦ elim (parts s past e b y) [
    | inl n ↦ absurd (wrong_move s past e.entry b f.move n)
    | inr g ↦ f.is ∙ ap (λ k. reasons.Frame k) (row_same s e.frame (shown (setup_of s) past e.entry.answer) f.row g.row f.differ g.differ) ∙ sym g.is
  ]
]

-- ---- one place

entries_length : (s : Tree) (past : Past) → length (log_entries_of s past) ≡ length past
entries_length s [] = refl
entries_length s (e ∷ past) = omega (arith, entries_length s past, length-append (log_entries_of s past) (log_entry_of s past e ∷ []))

-- what is behind a shorter past in the log of a longer run is right
deeper : (s : Tree) (q p : Past) (e : LogEntryTree) (rest more entries : List LogEntryTree) → length p < length q → entries ≡ log_entries_of s p ++ e ∷ rest → entries ≡ log_entries_of s q ++ more → IsRun s q → IsMove s p e.entry × (e ≡ log_entry_of s p e.entry)
deeper s [] p e rest more entries lt a b run = absurd (omega (arith, lt))
deeper s (x ∷ q) p e rest more entries lt a b run =
    let last : LogEntryTree = log_entry_of s q x in
    let behind : entries ≡ log_entries_of s q ++ (last ∷ more) = b ∙ append_assoc (log_entries_of s q) (last ∷ []) more in
    elim (cases_lt (length p) (length q)) [
      | inl less ↦ deeper s q p e rest (last ∷ more) entries less a behind run.1
      | inr le ↦
          let size : length (log_entries_of s p) ≡ length (log_entries_of s q) = omega (arith, lt, le, entries_length s p, entries_length s q) in
          let both = split_same (log_entries_of s p) (log_entries_of s q) (e ∷ rest) (last ∷ more) size (sym a ∙ behind) in
          let past : p ≡ q = same_past s p q both.0 in
          let there : e ≡ last = first_same e last rest more both.1 in
          let entry : e.entry ≡ x = ap (λ (z : LogEntryTree). z.entry) there in (
            subst (λ (h : Past). IsMove s h e.entry) (sym past) (subst (IsMove s q) (sym entry) run.0),
            there ∙ ap (log_entry_of s q) (sym entry) ∙ ap (λ (h : Past). log_entry_of s h e.entry) (sym past),
          )
    ]

-- what is wrong: an entry, or a line behind all
record WrongLine (s : Tree) (l : LogTree) (before now : Past) (why : Why) : Type 0 where
  line : ℕ
  is : why ≡ reasons.EndLine line
  ending : IsWrongEnding s l before now line

sides : (s : Tree) (l : LogTree) (before now : Past) (why : Why) → IsBad s l before now why → IsWrongEntry s l.entries before now why ⊎ WrongLine s l before now why
sides s l before now (reasons.EndLine k) bad = inr (record { line = k; is = refl; ending = bad })
sides s l before now (reasons.Over o) bad = inl bad
sides s l before now (reasons.Barred t) bad = inl bad
sides s l before now (reasons.Call c) bad = inl bad
sides s l before now (reasons.Answer a) bad = inl bad
sides s l before now (reasons.Frame row) bad = inl bad

behind_of : (s : Tree) (l : LogTree) (before now : Past) (why : Why) → IsBad s l before now why → (more : List LogEntryTree) × (l.entries ≡ log_entries_of s before ++ more)
behind_of s l before now why bad = elim (sides s l before now why bad) [
  | inl entry ↦ (entry.entry ∷ entry.rest, entry.behind)
  | inr line ↦ ([], line.ending.entries ∙ sym (append-nil (log_entries_of s before)))
]

-- no bad place stands before another
not_before : (s : Tree) (l : LogTree) (p q now : Past) (why : Why) (more : List LogEntryTree) → IsRun s q → length p < length q → l.entries ≡ log_entries_of s q ++ more → IsBad s l p now why → ⊥
not_before s l p q now why more run lt behind bad = elim (sides s l p now why bad) [
  | inl entry ↦
      let right = deeper s q p entry.entry entry.rest more l.entries lt entry.behind behind run in
      wrong_entry s p entry.entry why right.0 right.1 entry.wrong
  | inr line ↦
      let size = ap length (sym line.ending.entries ∙ behind) in
      omega (arith, lt, size, entries_length s p, entries_length s q, length-append (log_entries_of s q) more)
]

module _ (s : Tree) (l : LogTree) (p q now later : Past) (a b : Why) (same : length p ≡ length q) where
  entry_entry : IsWrongEntry s l.entries p now a → IsWrongEntry s l.entries q later b → a ≡ b
  entry_entry first second =
      let size : length (log_entries_of s p) ≡ length (log_entries_of s q) = omega (arith, same, entries_length s p, entries_length s q) in
      let both = split_same (log_entries_of s p) (log_entries_of s q) (first.entry ∷ first.rest) (second.entry ∷ second.rest) size (sym first.behind ∙ second.behind) in
      let past : p ≡ q = same_past s p q both.0 in
      let entry : first.entry ≡ second.entry = first_same first.entry second.entry first.rest second.rest both.1 in
      reason_same s q second.entry a b (subst (λ (e : LogEntryTree). IsWrong s q e a) entry (subst (λ (h : Past). IsWrong s h first.entry a) past first.wrong)) second.wrong

  entry_line : IsWrongEntry s l.entries p now a → WrongLine s l q later b → ⊥
  entry_line first second =
      let size = ap length (sym second.ending.entries ∙ first.behind) in
      omega (arith, same, size, entries_length s p, entries_length s q, length-append (log_entries_of s p) (first.entry ∷ first.rest))

  line_line : WrongLine s l p now a → WrongLine s l q later b → a ≡ b
  line_line first second =
      let past : p ≡ q = same_past s p q (sym first.ending.entries ∙ second.ending.entries) in
      let moved : DifferAt (ending_lines l) (ending_lines (log_of s q)) first.line = subst (λ (h : Past). DifferAt (ending_lines l) (ending_lines (log_of s h)) first.line) past first.ending.line in
      first.is ∙ ap (λ k. reasons.EndLine k) (one_difference (ending_lines l) (ending_lines (log_of s q)) first.line second.line moved second.ending.line) ∙ sym second.is

line_entry : (s : Tree) (l : LogTree) (p q now later : Past) (a b : Why) → length p ≡ length q → WrongLine s l p now a → IsWrongEntry s l.entries q later b → ⊥
line_entry s l p q now later a b same first second = entry_line s l q p later now b a (sym same) second first

why_same : (s : Tree) (l : LogTree) (p q now later : Past) (a b : Why) → length p ≡ length q → IsBad s l p now a → IsBad s l q later b → a ≡ b
why_same s l p q now later a b same x y = elim (sides s l p now a x) [
  | inl m ↦ elim (sides s l q later b y) [
    | inl n ↦ entry_entry s l p q now later a b same m n
    | inr g ↦ absurd (entry_line s l p q now later a b same m g)
  ]
  | inr f ↦ elim (sides s l q later b y) [
    | inl n ↦ absurd (line_entry s l p q now later a b same f n)
    | inr g ↦ line_line s l p q now later a b same f g
  ]
]

illegal_from : (a b : Illegal) → a.place ≡ b.place → a.why ≡ b.why → a ≡ b
illegal_from a b place why =
    ap (λ n. let x : Illegal = record { place = n; why = a.why } in x) place ∙ ap (λ (w : Why). let x : Illegal = record { place = b.place; why = w } in x) why

pub one_place : (s : Tree) (l : LogTree) (now later : Past) (a b : Illegal) → IsFirstBad s l now a → IsFirstBad s l later b → a ≡ b
one_place s l now later a b first second = elim (cases_order (length first.before) (length second.before)) [
  | inl same ↦ illegal_from a b (first.place ∙ same ∙ sym second.place) (why_same s l first.before second.before now later a.why b.why same first.bad second.bad)
  | inr o ↦ elim o [
    | inl lt ↦
        let behind = behind_of s l second.before later b.why second.bad in
        absurd (not_before s l first.before second.before now a.why behind.0 second.run lt behind.1 first.bad)
    | inr gt ↦
        let behind = behind_of s l first.before now a.why first.bad in
        absurd (not_before s l second.before first.before later b.why behind.0 first.run gt behind.1 second.bad)
  ]
]

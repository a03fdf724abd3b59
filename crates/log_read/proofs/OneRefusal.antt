-- A text is refused in one way.
use Rattle.std.proofs.Common.{◌≡◌, ◌⊎◌, ℕ, zero, suc, ◌+◌, ◌-◌, ◌^◌, ◌≤◌, ◌<◌, List, [], ◌∷◌, ◌++◌, length, take, drop, refl, sym, ap, ◌∙◌, arith, append_assoc, subst, inl, inr, take-append-drop}
use Rattle.std.specs.Prelude.{min, slice_index_or, codes}
use Rattle.std.proofs.lemmas.Bool.{false≢true}
use Rattle.user_model.specs.declared.entry.Entry.{Entry}
use Rattle.user_model.specs.declared.entry.SendCount.{SendCount}
use Rattle.script_tree.specs.Tree.{Tree}
use Rattle.script_lines.specs.Known.{known_of}
use Rattle.script_lines.specs.LineReading.{split_at, texts_of}
use Rattle.script_lines.specs.LineTexts.{joined}
use Rattle.script_lines.specs.NameLimits.{AreKnown}
use Rattle.script_lines.proofs.TextsAgain.{line_split}
use Rattle.script_text.specs.declared.fault.Reason.{Reason}
use Rattle.script_text.specs.declared.fault.Refusal.{Refusal}
use Rattle.log_text.specs.declared.end.End.{End}
use Rattle.log_read.specs.declared.log.Extra.{Extra}
use Rattle.log_read.specs.declared.log.Extra.TheVariants as extras
use Rattle.log_read.specs.declared.phase.Phase.{Phase}
use Rattle.log_read.specs.declared.phase.Phase.TheVariants as phases
use Rattle.log_read.specs.Grammar.{Begins, below_entry, IsStep, Leads}
use Rattle.log_read.specs.Reading.{is_end_line}
use Rattle.log_read.specs.Reasons.{line_reason}
use Rattle.log_read.specs.Refusals.{IsBadText, IsCutOff, IsTooShort, IsFirstBad}
use Rattle.log_read.specs.Words.{entry_words, end_words, extra_words, counts_words}
use Rattle.log_read.proofs.LineWords.{Words, entry_is_words, end_is_words, extra_is_words, counts_are_words}
use Rattle.log_read.proofs.ListLaws.{first_same, rest_same}
use Rattle.log_read.proofs.LogParts.{entry_no_end, end_is_end}
use Rattle.log_read.proofs.OneLog.{entry_same, end_same}
use Rattle.log_read.proofs.Rests.{Lines}

-- ---- one thing may stand behind a line

-- the words of a line that two spell
same_words : (text : List ℕ) (a b : Words) → split_at 32 (joined a) ≡ a → split_at 32 (joined b) ≡ b → text ≡ joined a → text ≡ joined b → a ≡ b
same_words text a b p q e f = sym p ∙ ap (split_at 32) (sym e ∙ f) ∙ q

waits_no_sends : codes "waits" ≡ codes "sends" → ⊥
waits_no_sends e = let letter : 119 ≡ 115 = first_same 119 115 (codes "aits") (codes "ends") e in omega (arith, letter)

spent_no_sends : codes "spent" ≡ codes "sends" → ⊥
spent_no_sends e = let letter : 112 ≡ 101 = first_same 112 101 (codes "ent") (codes "nds") (rest_same 115 115 (codes "pent") (codes "ends") e) in omega (arith, letter)

extra_no_counts : (s : Tree) (x : Extra) (c : SendCount) → extra_words s x ≡ counts_words c → ⊥
extra_no_counts s (extras.Waits t call) c e = waits_no_sends (first_same (codes "waits") (codes "sends") _ _ e)
extra_no_counts s (extras.Spent t) c e = spent_no_sends (first_same (codes "spent") (codes "sends") _ _ e)

module _ (s : Tree) (known : AreKnown (known_of s)) where
  one_step : (p : Phase) (text : List ℕ) (q r : Phase) → IsStep s p text q → IsStep s p text r → q ≡ r
  one_step phases.First text q r (e, m) (f, n) = m ∙ sym n
  one_step phases.Entries text q r (inl x) (inl y) =
      let words = same_words text (entry_words s x.entry) (entry_words s y.entry) (line_split (entry_words s x.entry) (entry_is_words s x.entry known x.fits)) (line_split (entry_words s y.entry) (entry_is_words s y.entry known y.fits)) x.line y.line in
      x.opens ∙ ap (λ (e : Entry). below_entry s e.answer) (entry_same s known x.entry y.entry x.fits y.fits words) ∙ sym y.opens
  one_step phases.Entries text q r (inl x) (inr y) = absurd (false≢true (sym (entry_no_end s x.entry x.fits) ∙ ap is_end_line (sym x.line ∙ y.line) ∙ end_is_end y.end))
  one_step phases.Entries text q r (inr x) (inl y) = absurd (false≢true (sym (entry_no_end s y.entry y.fits) ∙ ap is_end_line (sym y.line ∙ x.line) ∙ end_is_end x.end))
  one_step phases.Entries text q r (inr x) (inr y) =
      let words = same_words text (end_words x.end) (end_words y.end) (line_split (end_words x.end) (end_is_words x.end)) (line_split (end_words y.end) (end_is_words y.end)) x.line y.line in
      x.opens ∙ ap (λ (e : End). phases.Extras e) (end_same s known x.end y.end words) ∙ sym y.opens
  one_step (phases.Rows more) text q r (e, m) (f, n) = m ∙ sym n
  one_step (phases.Extras end) text q r (inl x) (inl y) = x.opens ∙ sym y.opens
  one_step (phases.Extras end) text q r (inl x) (inr y) =
      absurd (extra_no_counts s x.extra y.sends (same_words text (extra_words s x.extra) (counts_words y.sends) (line_split (extra_words s x.extra) (extra_is_words s end x.extra known x.fits)) (line_split (counts_words y.sends) (counts_are_words y.sends y.fits)) x.line y.line))
  one_step (phases.Extras end) text q r (inr x) (inl y) =
      absurd (extra_no_counts s y.extra x.sends (same_words text (extra_words s y.extra) (counts_words x.sends) (line_split (extra_words s y.extra) (extra_is_words s end y.extra known y.fits)) (line_split (counts_words x.sends) (counts_are_words x.sends x.fits)) y.line x.line))
  one_step (phases.Extras end) text q r (inr x) (inr y) = x.opens ∙ sym y.opens
  one_step phases.Over text q r none other = absurd none

  one_end : (p : Phase) (texts : Lines) (q r : Phase) → Leads s p texts q → Leads s p texts r → q ≡ r
  one_end p [] q r h k = sym h ∙ k
  one_end p (text ∷ texts) q r h k =
      let same : h.0 ≡ k.0 = one_step p text h.0 k.0 h.1 k.1 in
      one_end h.0 texts q r h.2 (subst (λ (x : Phase). Leads s x texts r) (sym same) k.2)

-- ---- one first bad line

ordered : (a b : ℕ) → (a < b) ⊎ ((b < a) ⊎ (a ≡ b))
ordered zero zero = inr (inr refl)
ordered zero (suc b) = inl (omega arith)
ordered (suc a) zero = inr (inl (omega arith))
ordered (suc a) (suc b) = elim (ordered a b) [
  | inl lt ↦ inl (omega (arith, lt))
  | inr (inl gt) ↦ inr (inl (omega (arith, gt)))
  | inr (inr same) ↦ inr (inr (ap (λ (n : ℕ). suc n) same))
]

take_front : (n m : ℕ) (xs : Lines) → n ≤ m → take n (take m xs) ≡ take n xs
take_front zero m xs le = refl
take_front (suc n) zero xs le = absurd (omega (arith, le))
take_front (suc n) (suc m) [] le = refl
take_front (suc n) (suc m) (x ∷ xs) le = ap (λ (l : Lines). x ∷ l) (take_front n m xs (omega (arith, le)))

-- what begins a log does so with fewer lines
begins_front : (s : Tree) (texts : Lines) (n m : ℕ) → n ≤ m → Begins s (take m texts) → Begins s (take n texts)
begins_front s texts n m le b =
    let front : take n (take m texts) ≡ take n texts = take_front n m texts le in
    let parts : take n texts ++ drop n (take m texts) ≡ take m texts = ap (λ (l : Lines). l ++ drop n (take m texts)) (sym front) ∙ take-append-drop n (take m texts) in
    let whole : take m texts ++ b.more ≡ take n texts ++ (drop n (take m texts) ++ b.more) = ap (λ (l : Lines). l ++ b.more) (sym parts) ∙ append_assoc (take n texts) (drop n (take m texts)) b.more in
    record { log = b.log; is_log = b.is_log; more = drop n (take m texts) ++ b.more; lines = b.lines ∙ whole }

-- why a line is the first bad one
abbrev Why : Tree → List ℕ → ℕ → Phase → Reason → Type 0
Why s bytes before phase reason = IsBadText s (texts_of bytes) before phase reason ⊎ (IsCutOff bytes before reason ⊎ IsTooShort bytes before reason)

module _ (s : Tree) (bytes : List ℕ) where
  within : (before : ℕ) (p : Phase) (reason : Reason) → Why s bytes before p reason → before ≤ length (texts_of bytes)
  within before p reason (inl h) = omega (arith, h.there)
  within before p reason (inr (inl h)) = omega (arith, h.all)
  within before p reason (inr (inr h)) = omega (arith, h.all)

  -- no later line is the first bad one
  not_later : (a b : ℕ) (p q : Phase) (reason why : Reason) → Why s bytes a p reason → Why s bytes b q why → Begins s (take b (texts_of bytes)) → a < b → ⊥
  not_later a b p q reason why (inl h) w good lt = h.bad (begins_front s (texts_of bytes) (a + 1) b (omega (arith, lt)) good)
  not_later a b p q reason why (inr (inl h)) w good lt = absurd (omega (arith, h.all, lt, within b q why w))
  not_later a b p q reason why (inr (inr h)) w good lt = absurd (omega (arith, h.all, lt, within b q why w))

  one_reason : (before : ℕ) (p q : Phase) (reason why : Reason) → p ≡ q → Why s bytes before p reason → Why s bytes before q why → reason ≡ why
  one_reason before p q reason why e (inl h) (inl k) = h.why ∙ ap (λ (x : Phase). line_reason s x (slice_index_or (texts_of bytes) before [])) e ∙ sym k.why
  one_reason before p q reason why e (inl h) (inr (inl k)) = absurd (omega (arith, h.there, k.all))
  one_reason before p q reason why e (inl h) (inr (inr k)) = absurd (omega (arith, h.there, k.all))
  one_reason before p q reason why e (inr (inl h)) (inl k) = absurd (omega (arith, k.there, h.all))
  one_reason before p q reason why e (inr (inl h)) (inr (inl k)) = h.why ∙ sym k.why
  one_reason before p q reason why e (inr (inl h)) (inr (inr k)) = absurd (h.cut k.ended)
  one_reason before p q reason why e (inr (inr h)) (inl k) = absurd (omega (arith, k.there, h.all))
  one_reason before p q reason why e (inr (inr h)) (inr (inl k)) = absurd (k.cut h.ended)
  one_reason before p q reason why e (inr (inr h)) (inr (inr k)) = h.why ∙ sym k.why

  same_place : (a b : Refusal) (h : IsFirstBad s bytes a) (k : IsFirstBad s bytes b) → h.before ≡ k.before
  same_place a b h k = elim (ordered h.before k.before) [
    | inl lt ↦ absurd (not_later h.before k.before h.phase k.phase a.reason b.reason h.bad k.bad k.good lt)
    | inr (inl gt) ↦ absurd (not_later k.before h.before k.phase h.phase b.reason a.reason k.bad h.bad h.good gt)
    | inr (inr same) ↦ same
  ]

  same_both : (a b : Refusal) → a.line ≡ b.line → a.reason ≡ b.reason → a ≡ b
  same_both a b e f =
      let at : ℕ → Reason → Refusal = λ n r. record { line = n; reason = r } in
      ap (λ (n : ℕ). at n a.reason) e ∙ ap (λ (r : Reason). at b.line r) f

  pub one_refusal : AreKnown (known_of s) → (a b : Refusal) → IsFirstBad s bytes a → IsFirstBad s bytes b → a ≡ b
  one_refusal known a b h k =
      let place = same_place a b h k in
      let front = subst (λ (n : ℕ). Leads s phases.First (take n (texts_of bytes)) k.phase) (sym place) k.front in
      let why = subst (λ (n : ℕ). Why s bytes n k.phase b.reason) (sym place) k.bad in
      let same = one_end s known phases.First (take h.before (texts_of bytes)) h.phase k.phase h.front front in
      same_both a b (h.number ∙ ap (λ (n : ℕ). min (n + 1) (2 ^ 32 - 1)) place ∙ sym k.number) (one_reason h.before h.phase k.phase a.reason b.reason same h.bad why)

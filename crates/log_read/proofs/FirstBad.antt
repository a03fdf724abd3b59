-- From the slices of the code to the first bad line of a log's text.
use Rattle.std.proofs.Common.{◌≡◌, ℕ, zero, suc, ◌+◌, ◌-◌, ◌^◌, ◌≤◌, ◌<◌, true, false, List, [], ◌∷◌, ◌++◌, length, take, get_or, refl, ap, sym, ◌∙◌, arith, subst, inl, inr}
use Rattle.std.specs.Prelude.{map, ◌==◌, min, slice_index_or}
use Rattle.std.proofs.lemmas.List.{take_all, take-map, length-map}
use Rattle.script_tree.specs.Tree.{Tree}
use Rattle.script_lines.specs.Known.{known_of}
use Rattle.script_lines.specs.LineReading.{texts_of}
use Rattle.script_lines.specs.NameLimits.{AreKnown}
use Rattle.script_text.specs.declared.fault.Reason.{Reason}
use Rattle.script_text.specs.declared.fault.Reason.TheVariants as reasons
use Rattle.script_text.specs.declared.fault.Refusal.{Refusal}
use Rattle.script_text.specs.Grammar.{rest_of}
use Rattle.script_text.proofs.FirstBad.{none_there, some_there, Parted}
use Rattle.script_text.proofs.Judging.{one_taken, lines_told, rest_told}
use Rattle.log_read.specs.declared.phase.Phase.{Phase}
use Rattle.log_read.specs.declared.phase.Phase.TheVariants as phases
use Rattle.log_read.specs.Grammar.{Begins, Leads}
use Rattle.log_read.specs.Judging.{IsBadAt, AreGood}
use Rattle.log_read.specs.Reasons.{line_reason}
use Rattle.log_read.specs.Refusals.{IsBadText, IsFirstBad, IsLineOf}
use Rattle.log_read.proofs.Rests.{Lines, IsRead, begins}

-- ---- one bad line

module _ {R : Type 0} (read : R → List ℕ) (s : Tree) (texts : List R) (i : ℕ) (d : R) where
  index_read : (xs : List R) (n : ℕ) → n < length xs → slice_index_or (map read xs) n [] ≡ read (get_or xs n d)
  index_read [] n h = absurd (omega (arith, h))
  index_read (x ∷ xs) zero h = refl
  index_read (x ∷ xs) (suc n) h = index_read xs n (omega (arith, h))

  pub bad_at : (p : Phase) (reason : Reason) → i < length texts → IsRead s (map read (take i texts)) p → (Begins s (map read (take i texts) ++ read (get_or texts i d) ∷ []) → ⊥) → reason ≡ line_reason s p (read (get_or texts i d)) → IsBadAt s (map read texts) i reason
  bad_at p reason lt front bad why =
      let same : map read (take i texts) ≡ take i (map read texts) = sym (take-map read i texts) in
      let longer : map read (take (i + 1) texts) ≡ take (i + 1) (map read texts) = sym (take-map read (i + 1) texts) in
      record {
        phase = p;
        front = subst (λ (l : Lines). Leads s phases.First l p) same front.front;
        bad = record {
          there = omega (arith, lt, length-map texts read);
          bad = subst (λ (l : Lines). Begins s l → ⊥) (one_taken read texts i d lt ∙ longer) bad;
          why = why ∙ ap (line_reason s p) (sym (index_read texts i lt));
        };
      }

-- ---- the lines of a text

module _ {R : Type 0} (read : R → List ℕ) (s : Tree) (known : AreKnown (known_of s)) (bytes : List ℕ) (lines lent : List R) (rest : R) (p : Parted read bytes lines lent rest) (refusal : Refusal) where
  texts_are : texts_of bytes ≡ map read lent
  texts_are = lines_told bytes (map read lines) (read rest) p.split ∙ ap (map read) (sym p.same)

  pub bad_there : (before : ℕ) (reason : Reason) → IsBadAt s (map read lent) before reason → (refusal.line ≡ min (before + 1) (2 ^ 32 - 1)) × (refusal.reason ≡ reason) → IsFirstBad s bytes refusal
  bad_there before reason h r =
      let front = subst (λ (l : Lines). Leads s phases.First (take before l) h.phase) (sym texts_are) h.front in
      let bad = subst (λ (l : Lines). IsBadText s l before h.phase reason) (sym texts_are) h.bad in
      record {
        before = before;
        phase = h.phase;
        number = r.0;
        good = begins s known (take before (texts_of bytes)) h.phase front;
        front = front;
        bad = inl (subst (λ (x : Reason). IsBadText s (texts_of bytes) before h.phase x) (sym r.1) bad);
      }

  module _ (h : AreGood s (map read lent)) (line : refusal.line ≡ min (length lines + 1) (2 ^ 32 - 1)) where
    all : take (length (texts_of bytes)) (texts_of bytes) ≡ texts_of bytes
    all = take_all (length (texts_of bytes)) (texts_of bytes) (omega arith)

    front : Leads s phases.First (take (length (texts_of bytes)) (texts_of bytes)) h.phase
    front = subst (λ (l : Lines). Leads s phases.First l h.phase) (sym (all ∙ texts_are)) h.front

    many : length lines ≡ length (texts_of bytes)
    many = omega (arith, ap length texts_are, length-map lent read, ap length p.same)

    last : refusal.line ≡ min (length (texts_of bytes) + 1) (2 ^ 32 - 1)
    last = line ∙ ap (λ (n : ℕ). min (n + 1) (2 ^ 32 - 1)) many

    rest_is : rest_of bytes ≡ read rest
    rest_is = rest_told bytes (map read lines) (read rest) p.split

    pub cut_there : (length (read rest) == 0) ≡ false → refusal.reason ≡ reasons.Bytes → IsFirstBad s bytes refusal
    cut_there some why = record {
      before = length (texts_of bytes);
      phase = h.phase;
      number = last;
      good = begins s known (take (length (texts_of bytes)) (texts_of bytes)) h.phase front;
      front = front;
      bad = inr (inl (record { all = refl; cut = λ e. some_there (read rest) some (sym rest_is ∙ e); why = why }));
    }

    pub ends_there : (length (read rest) == 0) ≡ true → refusal.reason ≡ reasons.End → IsFirstBad s bytes refusal
    ends_there none why = record {
      before = length (texts_of bytes);
      phase = h.phase;
      number = last;
      good = begins s known (take (length (texts_of bytes)) (texts_of bytes)) h.phase front;
      front = front;
      bad = inr (inr (record { all = refl; ended = rest_is ∙ none_there (read rest) none; why = why }));
    }

-- ---- the line that is told

few : (s : Tree) (bytes : List ℕ) (refusal : Refusal) (h : IsFirstBad s bytes refusal) → h.before ≤ length (texts_of bytes)
few s bytes refusal h = elim h.bad [
  | inl bad ↦ omega (arith, bad.there)
  | inr (inl cut) ↦ omega (arith, cut.all)
  | inr (inr short) ↦ omega (arith, short.all)
]

-- it is one of the text's, from 1 on, or the one behind the last
pub line_told : (s : Tree) (bytes : List ℕ) (refusal : Refusal) → IsFirstBad s bytes refusal → IsLineOf bytes refusal.line
line_told s bytes refusal h = (omega (arith, h.number), omega (arith, h.number, few s bytes refusal h))

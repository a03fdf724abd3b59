-- Reading lines one after the other, as the loops do.
use Rattle.std.proofs.Common.{◌≡◌, ℕ, ◌+◌, ◌<◌, ◌≤◌, List, [], ◌∷◌, ◌++◌, length, refl, sym, ap, ◌∙◌, append_assoc, append-nil, drop, get_or, arith}
use Rattle.std.specs.Prelude.{map}
use Rattle.std.specs.List.{AllByRecursion}
use Rattle.std.proofs.lemmas.List.{drop_more, drop_all}
use Rattle.script_lines.specs.LineTexts.{joined}
use Rattle.log_read.proofs.LineWords.{Words}
use Rattle.log_read.proofs.ListLaws.{first_same, rest_same}

-- what is left of the lines is that of what is left of the list
pub record Rest {R E : Type 0} (read : R → List ℕ) (words : E → Words) (Fits : E → Type 0) (left : List R) (front all : List E) : Type 0 where
  pub rest : List E
  pub fits : AllByRecursion Fits rest
  pub is : front ++ rest ≡ all
  pub lines : map read left ≡ map joined (map words rest)

module _ {R E : Type 0} (read : R → List ℕ) (words : E → Words) (Fits : E → Type 0) where
  pub at_start : (texts : List R) (all : List E) → AllByRecursion Fits all → map read texts ≡ map joined (map words all) → Rest read words Fits texts [] all
  at_start texts all fits lines = record { rest = all; fits = fits; is = refl; lines = lines }

  -- the line at hand is that of the next
  pub record Next (text : List ℕ) (left : List R) (front all : List E) : Type 0 where
    pub next : E
    pub next_fits : Fits next
    pub line : text ≡ joined (words next)
    pub after : Rest read words Fits left (front ++ next ∷ []) all

  next_of : (t : R) (left : List R) (front all rest : List E) → AllByRecursion Fits rest → front ++ rest ≡ all → map read (t ∷ left) ≡ map joined (map words rest) → Next (read t) left front all
  next_of t left front all [] fits is lines = absurd (omega (arith, ap length lines))
  next_of t left front all (e ∷ rest) fits is lines = record {
    next = e;
    next_fits = fits.0;
    line = first_same (read t) (joined (words e)) (map read left) (map joined (map words rest)) lines;
    after = record {
      rest = rest;
      fits = fits.1;
      is = append_assoc front (e ∷ []) rest ∙ is;
      lines = rest_same (read t) (joined (words e)) (map read left) (map joined (map words rest)) lines;
    };
  }

  pub next_line : (texts : List R) (i : ℕ) (d : R) (front all : List E) → i < length texts → Rest read words Fits (drop i texts) front all → Next (read (get_or texts i d)) (drop (i + 1) texts) front all
  next_line texts i d front all lt r =
      next_of (get_or texts i d) (drop (i + 1) texts) front all r.rest r.fits r.is (sym (ap (map read) (drop_more texts i d lt)) ∙ r.lines)

  none_left : (front all rest : List E) → front ++ rest ≡ all → [] ≡ map joined (map words rest) → front ≡ all
  none_left front all [] is lines = sym (append-nil front) ∙ is
  none_left front all (e ∷ rest) is lines = absurd (omega (arith, ap length lines))

  pub at_end : (texts : List R) (i : ℕ) (front all : List E) → length texts ≤ i → Rest read words Fits (drop i texts) front all → front ≡ all
  at_end texts i front all le r = none_left front all r.rest r.is (sym (ap (map read) (drop_all i texts le)) ∙ r.lines)

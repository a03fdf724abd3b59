-- Reading entries and their frames one after the other, as the loop does.
use Rattle.std.proofs.Common.{◌≡◌, ℕ, suc, ◌+◌, ◌-◌, ◌<◌, ◌≤◌, Bool, true, false, List, [], ◌∷◌, ◌++◌, length, Option, Some, None, refl, ap, sym, ◌∙◌, append_assoc, append-nil, take, drop, get_or, arith}
use Rattle.std.specs.Prelude.{map, is_some, if◌then◌else◌}
use Rattle.std.specs.List.{AllByRecursion}
use Rattle.std.proofs.lemmas.Bool.{false≢true}
use Rattle.std.proofs.lemmas.Grind.{flat_map-append}
use Rattle.std.proofs.lemmas.List.{length-append, map-append, drop_more, drop_all, drop-drop, drop_at, take_rest}
use Rattle.script_tree.specs.Tree.{Tree}
use Rattle.script_lines.specs.LineTexts.{joined}
use Rattle.log_read.specs.Limits.{IsLogEntry}
use Rattle.log_read.specs.Logs.{LogEntryTree}
use Rattle.log_read.specs.Reading.{is_end_line, line_count}
use Rattle.log_read.specs.Words.{entry_words, frame_words, log_entry_words, entries_words}
use Rattle.log_read.proofs.FrameRows.{row_count}
use Rattle.log_read.proofs.ListLaws.{first_same, rest_same, same_length, read_drop}
use Rattle.log_read.proofs.LogParts.{entry_no_end}

-- ---- how many lines an entry has

counted : (s : Tree) (frame : Option (List ℕ)) (kept : Bool) → is_some frame ≡ kept → suc (length (frame_words s frame)) ≡ (if kept then s.height + 1 else 1)
counted s None true e = absurd (cc e)
counted s None false e = refl
counted s (Some colours) true e = omega (arith, row_count s.width s.height colours)
counted s (Some colours) false e = absurd (cc e)

lines_counted : (s : Tree) (e : LogEntryTree) → IsLogEntry s e → length (log_entry_words s e) ≡ line_count s e.entry.answer
lines_counted s e fits = counted s e.frame _ fits.kept

-- ---- what is left of the lines

-- what is left of the lines is that of the entries that are left, then the line of the end, and more
pub record Left {R : Type 0} (read : R → List ℕ) (s : Tree) (lines : List R) (place : ℕ) (front all : List LogEntryTree) (end : List ℕ) (more : List (List ℕ)) : Type 0 where
  pub rest : List LogEntryTree
  pub fits : AllByRecursion (IsLogEntry s) rest
  pub is : front ++ rest ≡ all
  pub passed : place ≡ length (entries_words s front)
  pub texts : map read (drop place lines) ≡ map joined (entries_words s rest) ++ end ∷ more

module _ {R : Type 0} (read : R → List ℕ) (s : Tree) (lines : List R) (end : List ℕ) (more : List (List ℕ)) where
  pub all_left : (all : List LogEntryTree) → AllByRecursion (IsLogEntry s) all → map read lines ≡ map joined (entries_words s all) ++ end ∷ more → Left read s lines 0 [] all end more
  all_left all fits texts = record { rest = all; fits = fits; is = refl; passed = refl; texts = texts }

  opened : (place : ℕ) (d : R) (texts : List (List ℕ)) → place < length lines → map read (drop place lines) ≡ texts → read (get_or lines place d) ∷ map read (drop (place + 1) lines) ≡ texts
  opened place d texts lt e = sym (ap (map read) (drop_more lines place d lt)) ∙ e

  -- ---- the line of the end

  ended : (front all rest : List LogEntryTree) (text : List ℕ) (texts : List (List ℕ)) → AllByRecursion (IsLogEntry s) rest → front ++ rest ≡ all → text ∷ texts ≡ map joined (entries_words s rest) ++ end ∷ more → is_end_line text ≡ true → front ≡ all
  ended front all [] text texts fits is e hit = sym (append-nil front) ∙ is
  ended front all (x ∷ rest) text texts fits is e hit =
      let below : List (List ℕ) = map joined (frame_words s x.frame ++ entries_words s rest) ++ end ∷ more in
      let first : text ≡ joined (entry_words s x.entry) = first_same text (joined (entry_words s x.entry)) texts below e in
      absurd (false≢true (sym (entry_no_end s x.entry fits.0.entry) ∙ ap is_end_line (sym first) ∙ hit))

  -- at a line that begins with an e all entries have been read
  pub at_end_line : (place : ℕ) (d : R) (front all : List LogEntryTree) → place < length lines → Left read s lines place front all end more → is_end_line (read (get_or lines place d)) ≡ true → (front ≡ all) × (place ≡ length (entries_words s all))
  at_end_line place d front all lt left hit =
      let same : front ≡ all = ended front all left.rest (read (get_or lines place d)) (map read (drop (place + 1) lines)) left.fits left.is (opened place d _ lt left.texts) hit in
      (same, left.passed ∙ ap (λ (es : List LogEntryTree). length (entries_words s es)) same)

  -- and before it some line is left
  pub not_over : (place : ℕ) (front all : List LogEntryTree) → length lines ≤ place → Left read s lines place front all end more → ⊥
  not_over place front all le left =
      let none : [] ≡ map joined (entries_words s left.rest) ++ end ∷ more = sym (ap (map read) (drop_all place lines le)) ∙ left.texts in
      omega (arith, ap length none, length-append (map joined (entries_words s left.rest)) (end ∷ more))

  -- ---- the line of an entry

  -- the line at hand is that of the next entry, and those of its frame stand below
  pub record Next (place : ℕ) (d : R) (front all : List LogEntryTree) : Type 0 where
    pub next : LogEntryTree
    pub fits : IsLogEntry s next
    pub line : read (get_or lines place d) ≡ joined (entry_words s next.entry)
    pub texts : List (List ℕ)
    pub below : map read (take (length lines - (place + 1)) (drop (place + 1) lines)) ≡ map joined (frame_words s next.frame) ++ texts
    pub after : Left read s lines (place + line_count s next.entry.answer) (front ++ next ∷ []) all end more

  module _ (place : ℕ) (d : R) (front all : List LogEntryTree) (lt : place < length lines) where
    -- what is left behind an entry
    behind : (x : LogEntryTree) (rest : List LogEntryTree) → AllByRecursion (IsLogEntry s) (x ∷ rest) → front ++ x ∷ rest ≡ all → place ≡ length (entries_words s front)
        → map read (drop place lines) ≡ map joined (log_entry_words s x) ++ (map joined (entries_words s rest) ++ end ∷ more) → Left read s lines (place + line_count s x.entry.answer) (front ++ x ∷ []) all end more
    behind x rest fits is passed texts =
        let count : ℕ = line_count s x.entry.answer in
        let many : length (log_entry_words s x) ≡ count = lines_counted s x fits.0 in
        let longer : entries_words s (front ++ x ∷ []) ≡ entries_words s front ++ log_entry_words s x = flat_map-append (log_entry_words s) front (x ∷ []) ∙ ap (λ (l : List (List (List ℕ))). entries_words s front ++ l) (append-nil (log_entry_words s x)) in
        record {
          rest = rest;
          fits = fits.1;
          is = append_assoc front (x ∷ []) rest ∙ is;
          passed = omega (arith, passed, many, ap length longer, length-append (entries_words s front) (log_entry_words s x));
          texts =
              sym (ap (map read) (drop-drop count place lines)) ∙ read_drop read count (drop place lines) ∙ ap (drop count) texts
              ∙ drop_at (map joined (log_entry_words s x)) (map joined (entries_words s rest) ++ end ∷ more) count (same_length joined (log_entry_words s x) ∙ many);
        }

    next_of : (rest : List LogEntryTree) → AllByRecursion (IsLogEntry s) rest → front ++ rest ≡ all → place ≡ length (entries_words s front) → map read (drop place lines) ≡ map joined (entries_words s rest) ++ end ∷ more
        → is_end_line end ≡ true → is_end_line (read (get_or lines place d)) ≡ false → Next place d front all
    next_of [] fits is passed texts ends miss =
        let first : read (get_or lines place d) ≡ end = first_same (read (get_or lines place d)) end (map read (drop (place + 1) lines)) more (opened place d (end ∷ more) lt texts) in
        absurd (false≢true (sym miss ∙ ap is_end_line first ∙ ends))
    next_of (x ∷ rest) fits is passed texts ends miss =
        let last : List (List ℕ) = map joined (entries_words s rest) ++ end ∷ more in
        let below : List (List ℕ) = map joined (frame_words s x.frame) ++ last in
        let whole : map read (drop place lines) ≡ map joined (log_entry_words s x) ++ last =
        texts ∙ ap (λ (l : List (List ℕ)). l ++ end ∷ more) (map-append joined (log_entry_words s x) (entries_words s rest))
        ∙ append_assoc (map joined (log_entry_words s x)) (map joined (entries_words s rest)) (end ∷ more) in
        let both : read (get_or lines place d) ∷ map read (drop (place + 1) lines) ≡ joined (entry_words s x.entry) ∷ below = opened place d (joined (entry_words s x.entry) ∷ below) lt whole in
        record {
          next = x;
          fits = fits.0;
          line = first_same (read (get_or lines place d)) (joined (entry_words s x.entry)) (map read (drop (place + 1) lines)) below both;
          texts = last;
          below = ap (map read) (take_rest lines (place + 1)) ∙ rest_same (read (get_or lines place d)) (joined (entry_words s x.entry)) (map read (drop (place + 1) lines)) below both;
          after = behind x rest fits is passed whole;
        }

    pub next_entry : Left read s lines place front all end more → is_end_line end ≡ true → is_end_line (read (get_or lines place d)) ≡ false → Next place d front all
    next_entry left ends miss = next_of left.rest left.fits left.is left.passed left.texts ends miss

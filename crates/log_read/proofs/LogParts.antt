-- The parts of a log's text stand where they are looked for.
use Rattle.std.proofs.Common.{◌≡◌, ℕ, suc, ◌+◌, ◌-◌, ◌<◌, true, false, List, [], ◌∷◌, ◌++◌, length, refl, ap, sym, ◌∙◌, take, drop, get_or, arith}
use Rattle.std.specs.Prelude.{codes, decimal, map, ◌==◌, Result, Ok, Err, IfOk}
use Rattle.std.specs.List.{flat_map}
use Rattle.std.specs.Int.{IsInRange}
use Rattle.std.specs.Str.Parse.{AllDigits}
use Rattle.std.proofs.lemmas.Bool.Decides.{nat_tests}
use Rattle.std.proofs.lemmas.Fmt.{decimal_is_IsNumeral}
use Rattle.std.proofs.lemmas.List.{length-append, map-append, drop_more, take_all, length-drop}
use Rattle.std.proofs.lemmas.Str.Parse.{digit_from_value}
use Rattle.user_model.specs.declared.entry.Entry.{Entry}
use Rattle.script_tree.specs.Tree.{Tree}
use Rattle.script_lines.specs.Known.{known_of}
use Rattle.script_lines.specs.LineReading.{split_at, texts_of}
use Rattle.script_lines.specs.LineTexts.{blank_word, joined}
use Rattle.script_lines.specs.NameLimits.{AreKnown}
use Rattle.log_text.specs.declared.end.End.{End}
use Rattle.log_text.specs.declared.end.End.TheVariants as ends
use Rattle.log_read.specs.Limits.{IsEntry, IsLog}
use Rattle.log_read.specs.Logs.{LogTree, spelling}
use Rattle.log_read.specs.Reading.{is_end_line}
use Rattle.log_read.specs.Words.{call_words, answer_words, entry_words, entries_words, end_words, extra_words, counts_words, inner_words, log_words}
use Rattle.log_read.proofs.LineWords.{log_split}
use Rattle.log_read.proofs.ListLaws.{first_same, same_length, read_take, read_drop}

-- ---- lists

module _ {A : Type 0} where
  pub take_front : (xs ys : List A) → take (length xs) (xs ++ ys) ≡ xs
  take_front [] ys = refl
  take_front (x ∷ xs) ys = ap (λ (l : List A). x ∷ l) (take_front xs ys)

  pub drop_front : (xs ys : List A) → drop (length xs) (xs ++ ys) ≡ ys
  drop_front [] ys = refl
  drop_front (x ∷ xs) ys = drop_front xs ys

  pub but_last : (xs : List A) (y : A) → take (length (xs ++ y ∷ []) - 1) (xs ++ y ∷ []) ≡ xs
  but_last xs y =
      let n : length (xs ++ y ∷ []) - 1 ≡ length xs = omega (arith, length-append xs (y ∷ [])) in
      ap (λ (k : ℕ). take k (xs ++ y ∷ [])) n ∙ take_front xs (y ∷ [])

-- ---- the lines of a text

pub log_texts : (s : Tree) (l : LogTree) (bytes : List ℕ) → AreKnown (known_of s) → IsLog s l → bytes ≡ spelling s l → texts_of bytes ≡ map joined (log_words s l)
unfolding texts_of
log_texts s l bytes h fits e =
    ap (λ (ts : List (List ℕ)). take (length ts - 1) ts) (ap (split_at 10) e ∙ log_split s l h fits) ∙ but_last (map joined (log_words s l)) []

-- ---- the line of the end

letter : (c : ℕ) → IsInRange 48 57 c → (c == 101) ≡ false
letter c range = grind (arith, nat_tests, range)

no_e : (ds rest : List ℕ) → AllDigits 10 ds → 0 < length ds → is_end_line (ds ++ rest) ≡ false
no_e [] rest all some = absurd (omega arith)
no_e (c ∷ cs) rest all some = let range : IsInRange 48 57 c = digit_from_value c all.0 in letter c range

pub entry_no_end : (s : Tree) (e : Entry) → IsEntry s e → is_end_line (joined (entry_words s e)) ≡ false
entry_no_end s e fits =
    let numeral = decimal_is_IsNumeral e.who.0 (omega (arith, fits.who)) in
    no_e (decimal e.who.0) (flat_map blank_word (call_words s e.call (codes "=" ∷ answer_words s e.answer))) numeral.0.1 numeral.0.0

pub end_is_end : (end : End) → is_end_line (joined (end_words end)) ≡ true
end_is_end ends.Done = refl
end_is_end ends.Stuck = refl
end_is_end ends.Spent = refl
end_is_end ends.Cut = refl

-- ---- what stands there and behind it

module _ (s : Tree) (l : LogTree) where
  pub parted : map joined (inner_words s l) ≡ map joined (entries_words s l.entries) ++ (joined (end_words l.end) ∷ map joined (map (extra_words s) l.extras))
  parted = map-append joined (entries_words s l.entries) (end_words l.end ∷ map (extra_words s) l.extras)

  many : length (map joined (entries_words s l.entries)) ≡ length (entries_words s l.entries)
  many = same_length joined (entries_words s l.entries)

  pub from_end : drop (length (entries_words s l.entries)) (map joined (inner_words s l)) ≡ joined (end_words l.end) ∷ map joined (map (extra_words s) l.extras)
  from_end =
      ap (drop (length (entries_words s l.entries))) parted
      ∙ ap (λ (k : ℕ). drop k (map joined (entries_words s l.entries) ++ (joined (end_words l.end) ∷ map joined (map (extra_words s) l.extras)))) (sym many)
      ∙ drop_front (map joined (entries_words s l.entries)) (joined (end_words l.end) ∷ map joined (map (extra_words s) l.extras))

-- ---- the same, of lines that are read

module _ {R : Type 0} (read : R → List ℕ) where
  read_at : (k : ℕ) (xs : List R) (d : R) (t : List ℕ) (more : List (List ℕ)) → k < length xs → drop k (map read xs) ≡ t ∷ more → read (get_or xs k d) ≡ t
  read_at k xs d t more lt e =
      let opened : map read (drop k xs) ≡ read (get_or xs k d) ∷ map read (drop (k + 1) xs) = ap (map read) (drop_more xs k d lt) in
      first_same (read (get_or xs k d)) t (map read (drop (k + 1) xs)) more (sym opened ∙ read_drop read k xs ∙ e)

  module _ (s : Tree) (l : LogTree) (lines : List R) (p : ℕ) (same : map read lines ≡ map joined (inner_words s l)) (here : p ≡ length (entries_words s l.entries)) where
    pub ending_lines : map read (take (length lines - p) (drop p lines)) ≡ map joined (end_words l.end ∷ map (extra_words s) l.extras)
    ending_lines =
        ap (map read) (take_all (length lines - p) (drop p lines) (omega (arith, length-drop p lines)))
        ∙ read_drop read p lines ∙ ap (drop p) same ∙ ap (λ (k : ℕ). drop k (map joined (inner_words s l))) here ∙ from_end s l

  -- a first line and others
  module _ (lines : List R) (t : List ℕ) (more : List (List ℕ)) (same : map read lines ≡ t ∷ more) where
    pub some_line : length lines ≡ length more + 1
    some_line = omega (arith, sym (same_length read lines), ap length same)

    pub first_line : (d : R) → read (get_or lines 0 d) ≡ t
    first_line d = read_at 0 lines d t more (omega (arith, some_line)) same

    pub other_lines : map read (take (length lines - 1) (drop 1 lines)) ≡ more
    other_lines = ap (map read) (take_all (length lines - 1) (drop 1 lines) (omega (arith, length-drop 1 lines))) ∙ read_drop read 1 lines ∙ ap (drop 1) same

  inner_of : (xs : List R) (a c : List ℕ) (bs : List (List ℕ)) → map read xs ≡ a ∷ (bs ++ c ∷ []) → length xs ≡ length bs + 2
  inner_of xs a c bs e = omega (arith, sym (same_length read xs), ap length e, length-append bs (c ∷ []))

  module _ (s : Tree) (l : LogTree) (texts : List R) (same : map read texts ≡ map joined (log_words s l)) where
    whole : map read texts ≡ joined (codes "log" ∷ codes "1" ∷ []) ∷ (map joined (inner_words s l) ++ joined (counts_words l.sends) ∷ [])
    whole = same ∙ ap (λ (x : List (List ℕ)). joined (codes "log" ∷ codes "1" ∷ []) ∷ x) (map-append joined (inner_words s l) (counts_words l.sends ∷ []))

    pub enough : length texts ≡ length (map joined (inner_words s l)) + 2
    enough = inner_of texts (joined (codes "log" ∷ codes "1" ∷ [])) (joined (counts_words l.sends)) (map joined (inner_words s l)) whole

    pub inner_lines : map read (take (length texts - 1 - 1) (drop 1 texts)) ≡ map joined (inner_words s l)
    inner_lines =
        let n : length texts - 1 - 1 ≡ length (map joined (inner_words s l)) = omega (arith, enough) in
        read_take read (length texts - 1 - 1) (drop 1 texts) ∙ ap (take (length texts - 1 - 1)) (read_drop read 1 texts ∙ ap (drop 1) whole)
        ∙ ap (λ (k : ℕ). take k (map joined (inner_words s l) ++ joined (counts_words l.sends) ∷ [])) n
        ∙ take_front (map joined (inner_words s l)) (joined (counts_words l.sends) ∷ [])

    pub last_line : (d : R) → read (get_or texts (length texts - 1) d) ≡ joined (counts_words l.sends)
    last_line d =
        let n : length texts - 1 ≡ suc (length (map joined (inner_words s l))) = omega (arith, enough) in
        read_at (length texts - 1) texts d (joined (counts_words l.sends)) [] (omega (arith, enough))
        (ap (drop (length texts - 1)) whole
        ∙ ap (λ (k : ℕ). drop k (joined (codes "log" ∷ codes "1" ∷ []) ∷ (map joined (inner_words s l) ++ joined (counts_words l.sends) ∷ []))) n
        ∙ drop_front (map joined (inner_words s l)) (joined (counts_words l.sends) ∷ []))

-- what follows from what an Ok has
pub ok_then : {A E : Type 0} (P Q : A → Type 0) (r : Result A E) → ((a : A) → P a → Q a) → IfOk r P → IfOk r Q
ok_then P Q (Ok a) f h = f a h
ok_then P Q (Err e) f h = tt

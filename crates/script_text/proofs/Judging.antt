-- One line more of a text, and its first bad line.
use Rattle.std.proofs.Common.{◌≡◌, ℕ, zero, suc, ◌+◌, ◌-◌, ◌≤◌, ◌<◌, Bool, true, false, List, [], ◌∷◌, ◌++◌, length, take, drop, get_or, Option, Some, None, Result, Ok, Err, refl, ap, sym, ◌∙◌, arith, append_assoc, length-append, subst, inl, inr}
use Rattle.std.specs.Prelude.{map, ◌==◌, slice_get, slice_index_or, if◌then◌else◌, IfOk}
use Rattle.std.specs.List.{count_by}
use Rattle.std.specs.Str.{bytes_eq}
use Rattle.std.proofs.lemmas.Slice.Eq.{bytes_eq-Decides}
use Rattle.std.proofs.lemmas.Option.{same_Some}
use Rattle.std.proofs.lemmas.Bool.{false≢true}
use Rattle.std.proofs.lemmas.List.{drop_all, take_more, take_all, take-map, length-map}
use Rattle.std.proofs.lemmas.List.Splits.{length-slice_split}
use Rattle.std.proofs.lemmas.List.Sums.{count_by-le-length}
use Rattle.script_lines.specs.Known.{Known, nothing_known}
use Rattle.script_lines.specs.declared.line.Line.{Line}
use Rattle.statement_table.specs.declared.part.Part.{Part}
use Rattle.script_lines.specs.LineLimits.{IsLine}
use Rattle.script_lines.specs.LineParts.{line_parts}
use Rattle.script_lines.specs.LineReading.{split_at, texts_of, line_at}
use Rattle.script_lines.specs.Frequent.{IsFrequent}
use Rattle.script_lines.specs.LineTexts.{joined}
use Rattle.script_lines.specs.NameLimits.{AreKnown, seen_after, begun_after}
use Rattle.script_lines.specs.Words.{line_words}
use Rattle.script_lines.proofs.FrequentLines.{frequent_read, rejoined}
use Rattle.script_text.specs.declared.fault.Reason.{Reason}
use Rattle.script_text.specs.declared.fault.Reason.TheVariants as reasons
use Rattle.script_text.specs.declared.fault.Refusal.{Refusal}
use Rattle.script_text.specs.declared.head.HeadLine.{HeadLine}
use Rattle.script_text.specs.Grammar.{Stood, IsCode, IsWhole, Begins, Front, all_heads, rest_of, thread_of}
use Rattle.script_text.specs.Heads.{is_head_text}
use Rattle.script_text.specs.Judging.{IsBadAt, Adds}
use Rattle.script_text.specs.Nesting.{Nest, nested, start}
use Rattle.script_text.specs.Reasons.{line_reason}
use Rattle.script_text.specs.Refusals.{IsBadText, IsFirstBad}
use Rattle.script_text.specs.Steps.{IsStep, IsNoStep}
use Rattle.script_text.proofs.Closing.{begins, drop_front}
use Rattle.script_text.proofs.HeadLines.{head_told, head_found, heads_more, heads_at, heads_stay, head_early, head_late}
use Rattle.script_text.proofs.Steps.{one_more, goes_on}

-- nothing yet
pub nothing_stands : Front [] nothing_known start 0
nothing_stands = record {
  heads = tt;
  stood = record {
    said = [];
    spelled = refl;
    fits = tt;
    named = record { names = record { spelled = refl; distinct = refl; few = omega arith }; procedures = record { spelled = refl; distinct = refl; few = omega arith } };
    in_order = refl;
    procedures_in_order = refl;
    nested = refl;
    counted = refl;
    few = omega arith;
  };
}

module _ (texts : List (List ℕ)) (text : List ℕ) (known : Known) (nest : Nest) (threads : ℕ) (f : Front texts known nest threads) where
  pub front_head : (h : HeadLine) → slice_get all_heads (length texts) ≡ Some h → is_head_text h text ≡ true → Front (texts ++ text ∷ []) known nest threads
  front_head h at line =
      let few = head_early (length texts) h at in
      let a : drop 4 texts ≡ [] = drop_all 4 texts (omega (arith, few)) in
      let b : drop 4 (texts ++ text ∷ []) ≡ [] = drop_all 4 (texts ++ text ∷ []) (omega (arith, few, length-append texts (text ∷ []))) in
      let P : List (List ℕ) → Type 0 = λ l. Stood l known nest threads in
      record { heads = heads_more all_heads texts h text f.heads at (head_told h text line); stood = subst P (a ∙ sym b) f.stood }

  pub front_code : (after : Known) (behind : Nest) (begun : ℕ) → slice_get all_heads (length texts) ≡ None → IsStep known nest threads text after behind begun → AreKnown after → Front (texts ++ text ∷ []) after behind begun
  front_code after behind begun at s named =
      let long = head_late (length texts) at in
      let P : List (List ℕ) → Type 0 = λ l. Stood l after behind begun in
      record {
        heads = heads_stay all_heads texts (text ∷ []) f.heads long;
        stood = subst P (sym (drop_front 4 texts (text ∷ []) long)) (one_more (drop 4 texts) text known after nest behind threads begun f.stood s named);
      }

  pub no_head : (h : HeadLine) → slice_get all_heads (length texts) ≡ Some h → is_head_text h text ≡ false → Begins (texts ++ text ∷ []) → ⊥
  no_head h at line b = false≢true (sym line ∙ head_found h text (heads_at all_heads texts h text b.0 b.1.heads at))

  pub no_code : slice_get all_heads (length texts) ≡ None → IsNoStep known nest threads text → Begins (texts ++ text ∷ []) → ⊥
  no_code at none b =
      let long = head_late (length texts) at in
      let e : drop 4 ((texts ++ text ∷ []) ++ b.0) ≡ drop 4 texts ++ text ∷ b.0 = ap (drop 4) (append_assoc texts (text ∷ []) b.0) ∙ drop_front 4 texts (text ∷ b.0) long in
      let P : List (List ℕ) → Type 0 = IsCode in
      let g = goes_on (drop 4 texts) text b.0 known nest threads f.stood (subst P e b.1.code) in
      none g.0 g.1 g.2 g.3

-- ---- through the code's slices

length_take : {R : Type 0} (n : ℕ) (xs : List R) → n ≤ length xs → length (take n xs) ≡ n
length_take zero xs h = refl
length_take (suc n) [] h = absurd (omega (arith, h))
length_take (suc n) (x ∷ xs) h = omega (arith, length_take n xs (omega (arith, h)))

pub taken_length : {R : Type 0} (read : R → List ℕ) (texts : List R) (i : ℕ) → i < length texts → length (map read (take i texts)) ≡ i
taken_length read texts i lt = omega (arith, length-map (take i texts) read, length_take i texts (omega (arith, lt)))

module _ {R : Type 0} (read : R → List ℕ) (texts : List R) (i : ℕ) (d : R) where
  pub one_taken : i < length texts → map read (take i texts) ++ read (get_or texts i d) ∷ [] ≡ map read (take (i + 1) texts)
  one_taken lt = sym (ap (map read) (take_more texts i d lt) ∙ more (take i texts) (get_or texts i d))
    where
      more : (xs : List R) (x : R) → map read (xs ++ x ∷ []) ≡ map read xs ++ read x ∷ []
      more [] x = refl
      more (y ∷ xs) x = ap (λ (l : List (List ℕ)). read y ∷ l) (more xs x)

  index_read : (xs : List R) (n : ℕ) → n < length xs → slice_index_or (map read xs) n [] ≡ read (get_or xs n d)
  index_read [] n h = absurd (omega (arith, h))
  index_read (x ∷ xs) zero h = refl
  index_read (x ∷ xs) (suc n) h = index_read xs n (omega (arith, h))

  pub bad_at : (known : Known) (nest : Nest) (threads : ℕ) (reason : Reason) → i < length texts → Front (map read (take i texts)) known nest threads → (Begins (map read (take i texts) ++ read (get_or texts i d) ∷ []) → ⊥)
      → reason ≡ line_reason i known nest (read (get_or texts i d)) → IsBadAt (map read texts) i reason
  bad_at known nest threads reason lt front bad why =
      let F : List (List ℕ) → Type 0 = λ l. Front l known nest threads in
      let B : List (List ℕ) → Type 0 = λ l. Begins l → ⊥ in
      let same : map read (take i texts) ≡ take i (map read texts) = sym (take-map read i texts) in
      let longer : map read (take (i + 1) texts) ≡ take (i + 1) (map read texts) = sym (take-map read (i + 1) texts) in
      record {
        known = known;
        nest = nest;
        threads = threads;
        front = subst F same front;
        bad = record {
          there = omega (arith, lt, length-map texts read);
          bad = subst B (one_taken lt ∙ longer) bad;
          why = why ∙ ap (line_reason i known nest) (sym (index_read texts i lt));
        };
      }

-- ---- a text and its lines

take_front : (xs : List (List ℕ)) (x : List ℕ) → take (length xs) (xs ++ x ∷ []) ≡ xs
take_front [] x = refl
take_front (y ∷ xs) x = ap (λ (l : List (List ℕ)). y ∷ l) (take_front xs x)

last_of : (xs : List (List ℕ)) (x : List ℕ) → slice_index_or (xs ++ x ∷ []) (length xs) [] ≡ x
last_of [] x = refl
last_of (y ∷ xs) x = last_of xs x

one_less : (xs : List (List ℕ)) (x : List ℕ) → length (xs ++ x ∷ []) - 1 ≡ length xs
one_less xs x = omega (arith, length-append xs (x ∷ []))

pub lines_told : (bytes : List ℕ) (xs : List (List ℕ)) (x : List ℕ) → xs ++ x ∷ [] ≡ split_at 10 bytes → texts_of bytes ≡ xs
unfolding texts_of
lines_told bytes xs x e =
    ap (λ (l : List (List ℕ)). take (length l - 1) l) (sym e) ∙ ap (λ (n : ℕ). take n (xs ++ x ∷ [])) (one_less xs x) ∙ take_front xs x

pub rest_told : (bytes : List ℕ) (xs : List (List ℕ)) (x : List ℕ) → xs ++ x ∷ [] ≡ split_at 10 bytes → rest_of bytes ≡ x
unfolding rest_of
rest_told bytes xs x e =
    ap (λ (l : List (List ℕ)). slice_index_or l (length l - 1) []) (sym e) ∙ ap (λ (n : ℕ). slice_index_or (xs ++ x ∷ []) n []) (one_less xs x) ∙ last_of xs x

count_few : (p : ℕ → Bool) (xs : List ℕ) → count_by p xs ≤ length xs
count_few p xs = count_by-le-length p xs

pub few_lines : (bytes : List ℕ) (xs : List (List ℕ)) (x : List ℕ) → xs ++ x ∷ [] ≡ split_at 10 bytes → length xs ≤ length bytes
few_lines bytes xs x e = omega (arith, length-append xs (x ∷ []), ap length e, length-slice_split (λ b. b == 10) bytes, count_few (λ b. b == 10) bytes)

-- ---- the first bad line

pub bad_line : (bytes : List ℕ) (texts : List (List ℕ)) (before : ℕ) (reason : Reason) (refusal : Refusal) → texts_of bytes ≡ texts → IsBadAt texts before reason → refusal.line ≡ before + 1 → refusal.reason ≡ reason → IsFirstBad bytes refusal
bad_line bytes texts before reason refusal same h line why =
    let F : List (List ℕ) → Type 0 = λ l. Front (take before l) h.known h.nest h.threads in
    let B : List (List ℕ) → Type 0 = λ l. IsBadText l before h.known h.nest reason in
    let R : Reason → Type 0 = λ r. IsBadText (texts_of bytes) before h.known h.nest r in
    let front = subst F (sym same) h.front in
    record {
      before = before;
      known = h.known;
      nest = h.nest;
      threads = h.threads;
      number = line;
      good = begins (take before (texts_of bytes)) h.known h.nest h.threads front;
      front = front;
      bad = inl (subst R (sym why) (subst B (sym same) h.bad));
    }

-- all lines are good
module _ (bytes : List ℕ) (known : Known) (nest : Nest) (threads : ℕ) (refusal : Refusal) (front : Front (texts_of bytes) known nest threads) (line : refusal.line ≡ length (texts_of bytes) + 1) where
  all : take (length (texts_of bytes)) (texts_of bytes) ≡ texts_of bytes
  all = take_all (length (texts_of bytes)) (texts_of bytes) (omega arith)

  whole_front : Front (take (length (texts_of bytes)) (texts_of bytes)) known nest threads
  whole_front = let F : List (List ℕ) → Type 0 = λ l. Front l known nest threads in subst F (sym all) front

  pub cut_off : (rest_of bytes ≡ [] → ⊥) → refusal.reason ≡ reasons.Bytes → IsFirstBad bytes refusal
  cut_off some why = record {
    before = length (texts_of bytes);
    known = known;
    nest = nest;
    threads = threads;
    number = line;
    good = begins _ known nest threads whole_front;
    front = whole_front;
    bad = inr (inl (record { all = refl; cut = some; why = why }));
  }

  pub too_short : rest_of bytes ≡ [] → (IsWhole bytes → ⊥) → refusal.reason ≡ reasons.End → IsFirstBad bytes refusal
  too_short none other why = record {
    before = length (texts_of bytes);
    known = known;
    nest = nest;
    threads = threads;
    number = line;
    good = begins _ known nest threads whole_front;
    front = whole_front;
    bad = inr (inr (record { all = refl; ended = none; more = λ t. other (record { ended = none; text = t }); why = why }));
  }

-- ---- one line taken

pub none_read : (known : Known) (ws : List (List ℕ)) (text : List ℕ) (nest : Nest) (threads : ℕ) → None ≡ line_at known ws → ws ≡ split_at 32 text → IsNoStep known nest threads text
none_read known ws text nest threads found e = λ after behind begun s. let f : None ≡ Some (s.line, after) = found ∙ ap (line_at known) e ∙ s.read in absurd (cc f)

-- the counts and the parts are those of the code
pub seen_told : (a b c d : ℕ) (lent parts : List Part) → a ≡ c → b ≡ d → lent ≡ parts → seen_after a (Some b) lent ≡ Some a → seen_after c (Some d) parts ≡ Some c
seen_told a b c d lent parts p q r h =
    let P : ℕ → Type 0 = λ x. seen_after x (Some b) lent ≡ Some x in
    let Q : ℕ → Type 0 = λ x. seen_after c (Some x) lent ≡ Some c in
    let R : List Part → Type 0 = λ x. seen_after c (Some d) x ≡ Some c in
    subst R r (subst Q q (subst P p h))

pub begun_told : (a b c d : ℕ) (lent parts : List Part) → a ≡ c → b ≡ d → lent ≡ parts → begun_after a (Some b) lent ≡ Some a → begun_after c (Some d) parts ≡ Some c
begun_told a b c d lent parts p q r h =
    let P : ℕ → Type 0 = λ x. begun_after x (Some b) lent ≡ Some x in
    let Q : ℕ → Type 0 = λ x. begun_after c (Some x) lent ≡ Some c in
    let R : List Part → Type 0 = λ x. begun_after c (Some d) x ≡ Some c in
    subst R r (subst Q q (subst P p h))

pub spelled_told : (a b : List ℕ) → bytes_eq a b ≡ true → a ≡ b
spelled_told a b h = (bytes_eq-Decides a b).0 h

-- by the last call, which may want memory
pub added_last : {E : Type 0} (r : Result Bool E) (known k : Known) (ws : List (List ℕ)) (text : List ℕ) (l : Line) → (let o : Option (Line × Known) = Some (l, k) in o ≡ line_at known ws) → ws ≡ split_at 32 text → (before behind : List Line)
    → IfOk r (λ t. t ≡ true → behind ≡ before ++ l ∷ []) → IfOk r (λ t. t ≡ true → Adds known before text k behind)
added_last (Ok t) known k ws text l found e before behind h = λ yes. record { line = l; read = sym (found ∙ ap (line_at known) e); added = h yes }
added_last (Err x) known k ws text l found e before behind h = h

module _ (known k : Known) (ws : List (List ℕ)) (text : List ℕ) (l : Line) (found : (let o : Option (Line × Known) = Some (l, k) in o ≡ line_at known ws)) (e : ws ≡ split_at 32 text) (nest : Nest) (threads : ℕ) where
  same : (after : Known) (behind : Nest) (begun : ℕ) (s : IsStep known nest threads text after behind begun) → (l ≡ s.line) × (k ≡ after)
  same after behind begun s =
      let p = same_Some (l, k) (s.line, after) (found ∙ ap (line_at known) e ∙ s.read) in
      (ap (λ (q : Line × Known). q.0) p, ap (λ (q : Line × Known). q.1) p)

  pub not_spelled : bytes_eq (joined (line_words k l)) text ≡ false → IsNoStep known nest threads text
  not_spelled miss = λ after behind begun s.
      let two = same after behind begun s in
      let spelled : joined (line_words k l) ≡ text = ap (λ (x : Line). joined (line_words k x)) two.0 ∙ ap (λ (x : Known). joined (line_words x s.line)) two.1 ∙ s.spelled in
      false≢true (sym miss ∙ (bytes_eq-Decides (joined (line_words k l)) text).1 spelled)

  pub not_in_order : (seen_after (length k.names) (Some (length known.names)) (line_parts l) ≡ Some (length k.names) → ⊥) → IsNoStep known nest threads text
  not_in_order miss = λ after behind begun s.
      let two = same after behind begun s in
      let P : Line → Type 0 = λ x. seen_after (length k.names) (Some (length known.names)) (line_parts x) ≡ Some (length k.names) in
      let Q : Known → Type 0 = λ x. seen_after (length x.names) (Some (length known.names)) (line_parts s.line) ≡ Some (length x.names) in
      miss (subst P (sym two.0) (subst Q (sym two.1) s.in_order))

  pub not_begun : (begun_after (length k.procedures) (Some (length known.procedures)) (line_parts l) ≡ Some (length k.procedures) → ⊥) → IsNoStep known nest threads text
  not_begun miss = λ after behind begun s.
      let two = same after behind begun s in
      let P : Line → Type 0 = λ x. begun_after (length k.procedures) (Some (length known.procedures)) (line_parts x) ≡ Some (length k.procedures) in
      let Q : Known → Type 0 = λ x. begun_after (length x.procedures) (Some (length known.procedures)) (line_parts s.line) ≡ Some (length x.procedures) in
      miss (subst P (sym two.0) (subst Q (sym two.1) s.procedures_in_order))

  pub too_many : 15 < threads + thread_of l → IsNoStep known nest threads text
  too_many many = λ after behind begun s.
      let two = same after behind begun s in
      omega (arith, many, ap thread_of two.0, s.counted, s.few)

  pub not_nested : None ≡ nested nest l → IsNoStep known nest threads text
  not_nested none = λ after behind begun s.
      let two = same after behind begun s in
      let f : None ≡ Some behind = none ∙ ap (nested nest) two.0 ∙ s.nests in
      absurd (cc f)

  pub stepped : (behind : Nest) (begun : ℕ) → IsLine l → joined (line_words k l) ≡ text → seen_after (length k.names) (Some (length known.names)) (line_parts l) ≡ Some (length k.names) → begun_after (length k.procedures) (Some (length known.procedures)) (line_parts l) ≡ Some (length k.procedures)
      → Some behind ≡ nested nest l → threads + thread_of l ≡ begun → begun ≤ 15 → IsStep known nest threads text k behind begun
  stepped behind begun fits spelled seen had nests counted few = record {
    line = l;
    read = sym (found ∙ ap (line_at known) e);
    fits = fits;
    spelled = spelled;
    in_order = seen;
    procedures_in_order = had;
    nests = sym nests;
    counted = counted;
    few = few;
  }

  -- by the last call, which may want memory
  pub finished : {E : Type 0} (r : Result Bool E) (behind : Nest) (begun : ℕ) → IsLine l → joined (line_words k l) ≡ text → seen_after (length k.names) (Some (length known.names)) (line_parts l) ≡ Some (length k.names) → begun_after (length k.procedures) (Some (length known.procedures)) (line_parts l) ≡ Some (length k.procedures)
      → threads + thread_of l ≡ begun → begun ≤ 15 → IfOk r (λ t. (if t then Some behind else None) ≡ nested nest l) → IfOk r (λ t. t ≡ true → IsStep known nest threads text k behind begun)
  finished (Ok true) behind begun fits spelled seen had counted few step = λ e. stepped behind begun fits spelled seen had step counted few
  finished (Ok false) behind begun fits spelled seen had counted few step = λ e. absurd (false≢true e)
  finished (Err x) behind begun fits spelled seen had counted few step = step

  pub unfinished : {E : Type 0} (r : Result Bool E) (behind : Nest) → IfOk r (λ t. (if t then Some behind else None) ≡ nested nest l) → IfOk r (λ t. t ≡ false → IsNoStep known nest threads text)
  unfinished (Ok true) behind step = λ e. absurd (false≢true (sym e))
  unfinished (Ok false) behind step = λ e. not_nested step
  unfinished (Err x) behind step = step

-- ---- a frequent line taken

module _ (known : Known) (ws : List (List ℕ)) (text : List ℕ) (l : Line) (h : IsFrequent ws l) (e : ws ≡ split_at 32 text) (named : AreKnown known) where
  frequent_found : (let o : Option (Line × Known) = Some (l, known) in o ≡ line_at known ws)
  frequent_found = sym (frequent_read known ws l h named)

  no_thread : thread_of l ≡ 0
  no_thread = ap thread_of h.is

  frequent_spelled : joined (line_words known l) ≡ text
  frequent_spelled = ap joined (h.spelled known ∙ e) ∙ rejoined text

  pub frequent_taken : {E : Type 0} (r : Result Bool E) (nest behind : Nest) (threads : ℕ) → threads ≤ 15 → IfOk r (λ t. (if t then Some behind else None) ≡ nested nest l) → IfOk r (λ t. t ≡ true → IsStep known nest threads text known behind threads)
  frequent_taken r nest behind threads few step =
      finished known known ws text l frequent_found e nest threads r behind threads h.fits frequent_spelled (h.unnamed (length known.names) (Some (length known.names))) (h.unbegun (length known.procedures) (Some (length known.procedures)))
      (omega (arith, no_thread)) few step

  pub frequent_refused : {E : Type 0} (r : Result Bool E) (nest behind : Nest) (threads : ℕ) → IfOk r (λ t. (if t then Some behind else None) ≡ nested nest l) → IfOk r (λ t. t ≡ false → IsNoStep known nest threads text)
  frequent_refused r nest behind threads step = unfinished known known ws text l frequent_found e nest threads r behind step

  pub frequent_added : {E : Type 0} (r : Result Bool E) (before behind : List Line) → IfOk r (λ t. t ≡ true → behind ≡ before ++ l ∷ []) → IfOk r (λ t. t ≡ true → Adds known before text known behind)
  frequent_added r before behind added = added_last r known known ws text l frequent_found e before behind added

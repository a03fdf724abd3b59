-- From the slices of the code to the first bad line of a text.
use Rattle.std.proofs.Common.{◌≡◌, ℕ, ◌+◌, ◌≤◌, Bool, true, false, List, [], ◌∷◌, ◌++◌, ◌<◌, length, Option, Some, None, Result, Ok, Err, refl, ap, sym, ◌∙◌, arith, length-append, subst}
use Rattle.std.specs.Prelude.{map, drop, ◌==◌, slice_get, IfOk}
use Rattle.std.proofs.lemmas.Bool.Decides.{nat_tests}
use Rattle.std.proofs.lemmas.List.{drop_all, length-map, map-append}
use Rattle.std.proofs.lemmas.List.Splits.{length-slice_split}
use Rattle.script_tree.specs.declared.statement.Statement.{Statement}
use Rattle.script_lines.specs.Known.{Known, nothing_known}
use Rattle.script_lines.specs.declared.line.Line.{Line}
use Rattle.script_lines.specs.LineReading.{split_at, texts_of, lines_at}
use Rattle.script_lines.specs.NameLimits.{AreKnown}
use Rattle.script_text.specs.declared.builder.Block.{Block}
use Rattle.script_text.specs.declared.fault.Reason.{Reason}
use Rattle.script_text.specs.declared.fault.Reason.TheVariants as reasons
use Rattle.script_text.specs.declared.fault.Refusal.{Refusal}
use Rattle.script_text.specs.declared.reading.Reading.{Reading}
use Rattle.script_text.specs.Building.{built_lines, nest_of, IsSound}
use Rattle.script_text.specs.declared.head.HeadLine.{HeadLine}
use Rattle.script_text.specs.Grammar.{Front, IsWhole, Begins, all_heads, rest_of}
use Rattle.script_text.specs.Heads.{is_head_text}
use Rattle.script_text.specs.Judging.{nest_in, lines_in, IsReading, IsBadAt, Adds}
use Rattle.script_text.specs.Refusals.{IsFirstBad}
use Rattle.script_text.specs.Steps.{IsStep, IsNoStep}
use Rattle.script_text.proofs.Closing.{drop_front}
use Rattle.script_text.proofs.HeadLines.{head_early, head_late}
use Rattle.script_text.proofs.LinesTaken.{read_more}
use Rattle.script_text.proofs.Judging.{nothing_stands, front_head, front_code, no_head, no_code, lines_told, rest_told, few_lines, bad_line, cut_off, too_short}

-- ---- nothing yet

pub nothing_read : (known : Known) (procedures threads : List (List Statement)) (blocks : List Block) → known ≡ nothing_known → procedures ≡ [] → threads ≡ [] → blocks ≡ [] → Front [] known (nest_of procedures threads blocks) 0
nothing_read known procedures threads blocks a b c d =
    let A : Known → Type 0 = λ k. Front [] k (nest_of procedures threads blocks) 0 in
    let B : List (List Statement) → Type 0 = λ l. Front [] nothing_known (nest_of l threads blocks) 0 in
    let C : List (List Statement) → Type 0 = λ l. Front [] nothing_known (nest_of [] l blocks) 0 in
    let D : List Block → Type 0 = λ l. Front [] nothing_known (nest_of [] [] l) 0 in
    subst A (sym a) (subst B (sym b) (subst C (sym c) (subst D (sym d) nothing_stands)))

pub nothing_built : (known : Known) (procedures threads : List (List Statement)) (blocks : List Block) → known ≡ nothing_known → procedures ≡ [] → threads ≡ [] → blocks ≡ [] → lines_at nothing_known [] ≡ Some (built_lines procedures threads blocks, known)
unfolding lines_at
nothing_built known procedures threads blocks a b c d =
    ap (λ (k : Known). let o : Option (List Line × Known) = Some ([], k) in o) (sym a)
    ∙ ap (λ (l : List (List Statement)). let o : Option (List Line × Known) = Some (built_lines l [] [], known) in o) (sym b)
    ∙ ap (λ (l : List (List Statement)). let o : Option (List Line × Known) = Some (built_lines procedures l [], known) in o) (sym c)
    ∙ ap (λ (l : List Block). let o : Option (List Line × Known) = Some (built_lines procedures threads l, known) in o) (sym d)

pub nothing_sound : (procedures threads : List (List Statement)) (blocks : List Block) → blocks ≡ [] → IsSound procedures threads blocks
nothing_sound procedures threads blocks d = let P : List Block → Type 0 = IsSound procedures threads in subst P (sym d) tt

-- ---- one line more

-- nothing stands behind lines before the fifth
none_behind : (texts : List (List ℕ)) (text : List ℕ) → length texts < 4 → drop 4 (texts ++ text ∷ []) ≡ drop 4 texts
none_behind texts text few = drop_all 4 (texts ++ text ∷ []) (omega (arith, few, length-append texts (text ∷ []))) ∙ sym (drop_all 4 texts (omega (arith, few)))

-- a line before the procedures and threads
pub head_good : {E : Type 0} (r : Result Bool E) (reading : Reading) (text : List ℕ) (before : ℕ) (h : HeadLine) → Some h ≡ slice_get all_heads before → IfOk r (λ good. good ≡ is_head_text h text)
    → IfOk r (λ taken. (texts : List (List ℕ)) → length texts ≡ before → IsReading texts reading → taken ≡ true → IsReading (texts ++ text ∷ []) reading)
head_good (Ok t) reading text before h at told = λ texts long are e.
    let place : slice_get all_heads (length texts) ≡ Some h = ap (slice_get all_heads) long ∙ sym at in
    record { front = front_head texts text reading.known (nest_in reading.builder) reading.threads are.front h place (sym told ∙ e); sound = are.sound; built = ap (lines_at nothing_known) (none_behind texts text (head_early (length texts) h place)) ∙ are.built }
head_good (Err x) reading text before h at told = told

pub head_bad : {E : Type 0} (r : Result Bool E) (reading : Reading) (text : List ℕ) (before : ℕ) (h : HeadLine) → Some h ≡ slice_get all_heads before → IfOk r (λ good. good ≡ is_head_text h text)
    → IfOk r (λ taken. (texts : List (List ℕ)) → length texts ≡ before → IsReading texts reading → taken ≡ false → Begins (texts ++ text ∷ []) → ⊥)
head_bad (Ok t) reading text before h at told = λ texts long are e b. no_head texts text reading.known (nest_in reading.builder) reading.threads are.front h (ap (slice_get all_heads) long ∙ sym at) (sym told ∙ e) b
head_bad (Err x) reading text before h at told = told

-- a line of procedures and threads
abbrev pub Taken : Reading → Reading → List ℕ → Bool → Type 0
Taken old new text t = t ≡ true → IsStep old.known (nest_in old.builder) old.threads text new.known (nest_in new.builder) new.threads

abbrev pub StaysSound : Reading → Bool → Type 0
StaysSound new t = t ≡ true → IsSound new.builder.procedures.items new.builder.threads.items new.builder.blocks.items

abbrev pub AddsTo : Reading → Reading → List ℕ → Bool → Type 0
AddsTo old new text t = t ≡ true → Adds old.known (lines_in old.builder) text new.known (lines_in new.builder)

pub code_good : {E : Type 0} (r : Result Bool E) (old new : Reading) (text : List ℕ) (before : ℕ) → None ≡ slice_get all_heads before → AreKnown new.known → IfOk r (Taken old new text) → IfOk r (AddsTo old new text) → IfOk r (StaysSound new)
    → IfOk r (λ taken. (texts : List (List ℕ)) → length texts ≡ before → IsReading texts old → taken ≡ true → IsReading (texts ++ text ∷ []) new)
code_good (Ok t) old new text before at named step adds sound = λ texts long are e.
    let place : slice_get all_heads (length texts) ≡ None = ap (slice_get all_heads) long ∙ sym at in
    let more = adds e in
    record {
      front = front_code texts text old.known (nest_in old.builder) old.threads are.front new.known (nest_in new.builder) new.threads place (step e) named;
      sound = sound e;
      built =
          ap (lines_at nothing_known) (drop_front 4 texts (text ∷ []) (head_late (length texts) place))
          ∙ read_more nothing_known old.known new.known (drop 4 texts) text (lines_in old.builder) more.line are.built more.read
          ∙ ap (λ (ls : List Line). let o : Option (List Line × Known) = Some (ls, new.known) in o) (sym more.added);
    }
code_good (Err x) old new text before at named step adds sound = step

pub code_bad : {E : Type 0} (r : Result Bool E) (old : Reading) (text : List ℕ) (before : ℕ) → None ≡ slice_get all_heads before → IfOk r (λ t. t ≡ false → IsNoStep old.known (nest_in old.builder) old.threads text)
    → IfOk r (λ taken. (texts : List (List ℕ)) → length texts ≡ before → IsReading texts old → taken ≡ false → Begins (texts ++ text ∷ []) → ⊥)
code_bad (Ok t) old text before at none = λ texts long are e b. no_code texts text old.known (nest_in old.builder) old.threads are.front (ap (slice_get all_heads) long ∙ sym at) (none e) b
code_bad (Err x) old text before at none = none

-- ---- the lines of a text

pub none_there : (text : List ℕ) → (length text == 0) ≡ true → text ≡ []
none_there [] h = refl
none_there (c ∷ text) h = absurd (grind (arith, nat_tests, h))

pub some_there : (text : List ℕ) → (length text == 0) ≡ false → text ≡ [] → ⊥
some_there text h e = let none : length text ≡ 0 = ap length e in grind (arith, nat_tests, h, none)

-- a text falls into one part more than it has line feeds
pub never_none : {R : Type 0} (read : R → List ℕ) (bytes : List ℕ) (own : List R) → map read own ≡ split_at 10 bytes → length own ≡ 0 → ⊥
never_none read bytes own split none = omega (arith, none, length-map own read, ap length split, length-slice_split (λ b. b == 10) bytes)

-- the whole lines of a text, which the code lends, and what stands behind its last line feed
pub record Parted {R : Type 0} (read : R → List ℕ) (bytes : List ℕ) (lines lent : List R) (rest : R) : Type 0 where
  pub split : map read lines ++ read rest ∷ [] ≡ split_at 10 bytes
  pub same : lent ≡ lines

pub parted : {R : Type 0} (read : R → List ℕ) (bytes : List ℕ) (own lines lent : List R) (rest : R) → map read own ≡ split_at 10 bytes → own ≡ lines ++ rest ∷ [] → lent ≡ lines → Parted read bytes lines lent rest
parted read bytes own lines lent rest split e same = record { split = sym (map-append read lines (rest ∷ [])) ∙ sym (ap (map read) e) ∙ split; same = same }

module _ {R : Type 0} (read : R → List ℕ) (bytes : List ℕ) (lines lent : List R) (rest : R) (p : Parted read bytes lines lent rest) where
  pub texts_are : texts_of bytes ≡ map read lent
  texts_are = lines_told bytes (map read lines) (read rest) p.split ∙ ap (map read) (sym p.same)

  pub few_parted : length lines ≤ length bytes
  few_parted = omega (arith, few_lines bytes (map read lines) (read rest) p.split, length-map lines read)

  pub few_before : (before : ℕ) (reason : Reason) → IsBadAt (map read lent) before reason → before ≤ length bytes
  few_before before reason h = omega (arith, h.bad.there, length-map lent read, ap length p.same, few_parted)

  pub bad_there : (before : ℕ) (reason : Reason) (refusal : Refusal) → IsBadAt (map read lent) before reason → (refusal.line ≡ before + 1) × (refusal.reason ≡ reason) → IsFirstBad bytes refusal
  bad_there before reason refusal h r = bad_line bytes (map read lent) before reason refusal texts_are h r.0 r.1

  module _ (reading : Reading) (h : IsReading (map read lent) reading) (refusal : Refusal) (line : refusal.line ≡ length lines + 1) where
    front : Front (texts_of bytes) reading.known (nest_in reading.builder) reading.threads
    front = let P : List (List ℕ) → Type 0 = λ l. Front l reading.known (nest_in reading.builder) reading.threads in subst P (sym texts_are) h.front

    last : refusal.line ≡ length (texts_of bytes) + 1
    last = omega (arith, line, ap length texts_are, length-map lent read, ap length p.same)

    rest_is : rest_of bytes ≡ read rest
    rest_is = rest_told bytes (map read lines) (read rest) p.split

    pub cut_there : (length (read rest) == 0) ≡ false → refusal.reason ≡ reasons.Bytes → IsFirstBad bytes refusal
    cut_there some why = cut_off bytes reading.known (nest_in reading.builder) reading.threads refusal front last (λ e. some_there (read rest) some (sym rest_is ∙ e)) why

    pub ends_there : (length (read rest) == 0) ≡ true → (IsWhole bytes → ⊥) → refusal.reason ≡ reasons.End → IsFirstBad bytes refusal
    ends_there none other why = too_short bytes reading.known (nest_in reading.builder) reading.threads refusal front last (rest_is ∙ none_there (read rest) none) other why

-- What lines say that were taken.
use Rattle.std.proofs.Common.{◌≡◌, ℕ, ◌≤◌, ◌<◌, true, List, [], ◌∷◌, ◌++◌, length, drop, Option, Some, None, refl, ap, sym, ◌∙◌, arith, length-drop}
use Rattle.std.specs.Prelude.{map}
use Rattle.std.specs.List.{zip}
use Rattle.std.proofs.lemmas.List.{length-map}
use Rattle.std.proofs.lemmas.Option.{same_Some}
use Rattle.script_tree.specs.declared.statement.Statement.{Statement}
use Rattle.script_tree.specs.Tree.{ProcedureTree}
use Rattle.script_lines.specs.declared.line.Line.{Line}
use Rattle.script_lines.specs.Known.{Known, nothing_known}
use Rattle.script_lines.specs.LineReading.{◌>>=◌, Names, split_at, texts_of, line_at, lines_at}
use Rattle.script_lines.specs.LineTexts.{joined}
use Rattle.script_lines.specs.NameLimits.{are_procedures_in_order}
use Rattle.script_lines.specs.Words.{line_words}
use Rattle.script_text.specs.declared.reading.Program.{Program}
use Rattle.script_text.specs.Grammar.{Stood, IsText, Front, rest_of, thread_count}
use Rattle.script_text.specs.Limits.{IsScript}
use Rattle.script_text.specs.Lines.{procedure_of}
use Rattle.script_text.specs.Nesting.{Nest, nested_all, start}
use Rattle.script_text.specs.Programs.{IsFitting, IsLeft, tree_at}
use Rattle.script_text.specs.Reading.{width_at, height_at, budget_at, order_at}
use Rattle.script_text.specs.Spelling.{spelling}
use Rattle.script_text.proofs.LimitLemmas.{fitting_script}
use Rattle.script_text.proofs.PartsAgain.{IsFound, program_found, found_parts, found_program, fitting_tree}
use Rattle.script_text.proofs.ReadAgain.{Says, says, head_of, found_within, found_spelled, whole_is}
use Rattle.script_text.proofs.Steps.{pair_same, stood_read}

-- where one reading goes on with another, both found something
told_Some : {A B : Type 0} (o : Option A) (f : A → Option B) (y : B) → (o >>= f) ≡ Some y → (x : A) × (o ≡ Some x) × (f x ≡ Some y)
told_Some None f y e = absurd (cc e)
told_Some (Some x) f y e = (x, refl, e)

abbrev found : List Line → Known → Option (List Line × Known)
found ls known = Some (ls, known)

-- a line more is read behind the others
pub read_more : (first known after : Known) (texts : List (List ℕ)) (text : List ℕ) (ls : List Line) (l : Line) → lines_at first texts ≡ Some (ls, known) → line_at known (split_at 32 text) ≡ Some (l, after) → lines_at first (texts ++ text ∷ []) ≡ Some (ls ++ l ∷ [], after)
unfolding lines_at
read_more first known after [] text ls l h e =
    let two = pair_same [] ls first known h in
    ap (λ (k : Known). line_at k (split_at 32 text) >>= λ x. found (x.0 ∷ []) x.1) two.1
    ∙ ap (λ (o : Option (Line × Known)). o >>= λ x. found (x.0 ∷ []) x.1) e
    ∙ ap (λ (front : List Line). found (front ++ l ∷ []) after) two.0
read_more first known after (t ∷ texts) text ls l h e =
    let one = told_Some (line_at first (split_at 32 t)) (λ x. lines_at x.1 texts >>= λ others. Some (x.0 ∷ others.0, others.1)) (ls, known) h in
    let rest = told_Some (lines_at one.0.1 texts) (λ others. Some (one.0.0 ∷ others.0, others.1)) (ls, known) one.2 in
    let two = pair_same (one.0.0 ∷ rest.0.0) ls rest.0.1 known rest.2 in
    let here : lines_at one.0.1 texts ≡ Some (rest.0.0, known) = rest.1 ∙ ap (λ (k : Known). found rest.0.0 k) two.1 in
    let more = read_more one.0.1 known after texts text rest.0.0 l here e in
    ap (λ (o : Option (Line × Known)). o >>= λ x. lines_at x.1 (texts ++ text ∷ []) >>= λ others. found (x.0 ∷ others.0) others.1) one.1
    ∙ ap (λ (o : Option (List Line × Known)). o >>= λ others. found (one.0.0 ∷ others.0) others.1) more
    ∙ ap (λ (front : List Line). found (front ++ l ∷ []) after) two.0

-- ---- all lines

count_some : (ls : List Line) → 0 < thread_count ls → 0 < length ls
count_some [] h = absurd (omega (arith, h))
count_some (l ∷ ls) h = omega arith

some_lines : (texts : List (List ℕ)) (known : Known) (nest : Nest) (threads : ℕ) → Stood texts known nest threads → 0 < threads → 0 < length texts
some_lines texts known nest threads s some =
    let words : List (List (List ℕ)) = map (line_words known) s.said in
    let some_said : 0 < length s.said = count_some s.said (omega (arith, s.counted, some)) in
    omega (arith, some_said, ap length s.spelled, length-map words joined, length-map s.said (line_words known))

-- lines behind which nothing stands open, and that begin a thread, are all those of a script
pub all_lines : (texts : List (List ℕ)) (known : Known) (nest : Nest) (threads : ℕ) → Front texts known nest threads → nest.kinds ≡ [] → 0 < threads → IsText texts
all_lines texts known nest threads f none some = record {
  long = omega (arith, some_lines (drop 4 texts) known nest threads f.stood some, length-drop 4 texts);
  heads = f.heads;
  code = record { known = known; nest = nest; threads = threads; stood = f.stood; closed = none; some = some };
}

-- and behind all those of a script this is so
pub none_left : (texts : List (List ℕ)) (known : Known) (nest : Nest) (threads : ℕ) → Front texts known nest threads → IsText texts → (nest.kinds ≡ []) × (0 < threads)
none_left texts known nest threads f t =
    let s = t.code.stood in
    let two = pair_same f.stood.said s.said known t.code.known (sym (stood_read (drop 4 texts) known nest threads f.stood) ∙ stood_read (drop 4 texts) t.code.known t.code.nest t.code.threads s) in
    let nests : Some nest ≡ Some t.code.nest = sym f.stood.nested ∙ ap (nested_all (Some start)) two.0 ∙ s.nested in
    let count : threads ≡ t.code.threads = sym f.stood.counted ∙ ap thread_count two.0 ∙ s.counted in
    (ap (λ (n : Nest). n.kinds) (same_Some nest t.code.nest nests) ∙ t.code.closed, omega (arith, count, t.code.some))

-- ---- the script

module _ (bytes : List ℕ) (texts : List (List ℕ)) (known : Known) (lines : List Line) (p : Program) (t : IsText texts) (built : lines_at nothing_known (drop 4 texts) ≡ Some (lines, known)) (left : IsLeft p known lines) where
  s : Says texts
  s = says texts t

  same : (s.said ≡ lines) × (s.known ≡ known)
  same = pair_same s.said lines s.known known (sym (program_found s.known nothing_known s.said (drop 4 texts) refl s.program (ap (drop 4) s.is)) ∙ built)

  abbrev names : Names
  names = p.names.items

  abbrev procedures : List ProcedureTree
  procedures = map procedure_of (zip p.procedure_names.items p.bodies.procedures.items)

  abbrev threads : List (List Statement)
  threads = p.bodies.threads.items

  is_found : IsFound names procedures threads s.known s.said
  is_found =
      let told : p.procedure_names.items ≡ s.known.procedures = left.procedures ∙ ap (λ (k : Known). k.procedures) (sym same.1) in
      let ordered : are_procedures_in_order (length p.procedure_names.items) s.said ≡ true = ap (λ (l : Names). are_procedures_in_order (length l) s.said) told ∙ s.program.procedures_in_order in
      found_parts s.known names p.procedure_names.items (length p.procedure_names.items) s.said s.said lines p.bodies.procedures.items threads procedures
      (left.names ∙ ap (λ (k : Known). k.names) (sym same.1)) told refl refl (sym same.0) ordered left.built refl

  is_fitting : IsFitting (tree_at texts p)
  is_fitting =
      fitting_tree (tree_at texts p) (width_at texts) (height_at texts) (budget_at texts) (order_at texts) names procedures threads refl
      (found_within texts s (tree_at texts p) (width_at texts) (height_at texts) (budget_at texts) (order_at texts) names procedures threads refl refl refl refl refl is_found)
      (found_program s.known names procedures threads s.said is_found s.program)

  pub text_is : rest_of bytes ≡ [] → texts_of bytes ≡ texts → bytes ≡ spelling (tree_at texts p)
  text_is none e =
      whole_is bytes (head_of s.width s.height s.budget s.order ++ map (line_words s.known) s.said) none (e ∙ s.is)
      ∙ sym (found_spelled texts s (tree_at texts p) (width_at texts) (height_at texts) (budget_at texts) (order_at texts) names procedures threads refl refl refl refl refl is_found)

  pub script_is : rest_of bytes ≡ [] → texts_of bytes ≡ texts → length bytes ≤ 1048576 → IsScript (tree_at texts p)
  script_is none e short = fitting_script (tree_at texts p) bytes is_fitting (text_is none e) short

-- The text of a script is a whole text.
use Rattle.std.proofs.Common.{◌≡◌, ℕ, ◌≤◌, true, List, [], ◌∷◌, ◌++◌, length, Option, Some, None, refl, ap, sym, ◌∙◌, arith, subst}
use Rattle.std.specs.Prelude.{map, decimal, codes, nat_le, ◌&&◌}
use Rattle.std.proofs.lemmas.Bool.{false≢true, and_from}
use Rattle.std.proofs.lemmas.Bool.Decides.{nat_tests}
use Rattle.std.proofs.lemmas.Fmt.{decimal_digit}
use Rattle.std.proofs.lemmas.List.{length-map}
use Rattle.script_tree.specs.Tree.{Tree}
use Rattle.script_lines.specs.Known.{known_of}
use Rattle.script_lines.specs.LineReading.{split_at}
use Rattle.script_lines.specs.LineTexts.{joined}
use Rattle.script_lines.specs.NameLimits.{are_procedures_in_order}
use Rattle.script_lines.specs.Words.{line_words}
use Rattle.script_lines.proofs.TextsAgain.{texts_again}
use Rattle.script_text.specs.declared.head.HeadLine.TheVariants as heads
use Rattle.script_text.specs.Grammar.{IsHeadLine, AreHeads, all_heads, IsCode, IsText, IsWhole, thread_count}
use Rattle.script_text.specs.Limits.{IsScript}
use Rattle.script_text.specs.Lines.{names_of, bodies_of, script_lines}
use Rattle.script_text.specs.Nesting.{Kind, Nest, nested_all, none_open, all_closed, start}
use Rattle.script_text.specs.Spelling.{script_words, spelling}
use Rattle.script_text.proofs.Counting.{thread_total, threads_counted}
use Rattle.script_text.proofs.Judging.{lines_told, rest_told}
use Rattle.script_text.proofs.PartsAgain.{all_words}

le_true : (a b : ℕ) → a ≤ b → nat_le a b ≡ true
le_true a b h = grind (arith, nat_tests)

between : (least most n : ℕ) → least ≤ n → n ≤ most → (nat_le least n && nat_le n most) ≡ true
between least most n a b = and_from _ _ (le_true least n a) (le_true n most b)

pub no_kinds : (ks : List Kind) → none_open ks ≡ true → ks ≡ []
no_kinds [] h = refl
no_kinds (k ∷ ks) h = absurd (false≢true h)

-- what stands open behind lines that close all
record Ends (o : Option Nest) : Type 0 where
  pub behind : Nest
  pub is : o ≡ Some behind
  pub none : behind.kinds ≡ []

ends : (o : Option Nest) → all_closed o ≡ true → Ends o
ends None h = absurd (false≢true h)
ends (Some n) h = record { behind = n; is = refl; none = no_kinds n.kinds h }

thread_number : (s : Tree) → thread_count (script_lines s) ≡ length s.threads
unfolding script_lines
thread_number s = thread_total (script_lines s) ∙ threads_counted (bodies_of s.procedures) s.threads

code_of : (s : Tree) → IsScript s → IsCode (map joined (map (line_words (known_of s)) (script_lines s)))
code_of s h =
    let e = ends (nested_all (Some start) (script_lines s)) h.nested in
    let count = thread_number s in
    let many : length (names_of s.procedures) ≡ length s.procedures = length-map s.procedures (λ p. p.name) in
    record {
      known = known_of s;
      nest = e.behind;
      threads = thread_count (script_lines s);
      stood = record {
        said = script_lines s;
        spelled = refl;
        fits = h.lines;
        named = h.named;
        in_order = h.in_order;
        procedures_in_order = ap (λ (n : ℕ). are_procedures_in_order n (script_lines s)) many ∙ h.procedures_in_order;
        nested = e.is;
        counted = refl;
        few = omega (arith, count, h.threads.1);
      };
      closed = e.none;
      some = omega (arith, count, h.threads.0);
    }

first_line : IsHeadLine heads.User (codes "user 1")
first_line = let e : codes "1" ≡ decimal 1 = sym (decimal_digit 1 (omega arith)) in (1 ∷ [], refl, ap (λ (d : List ℕ). joined (codes "user" ∷ d ∷ [])) e)

heads_of : (s : Tree) → IsScript s → AreHeads all_heads (map joined (script_words s))
heads_of s h = (
  first_line,
  (
    (s.width ∷ s.height ∷ [], and_from _ _ (between 1 128 s.width (omega (arith, h.wide.0)) h.wide.1) (between 1 64 s.height (omega (arith, h.high.0)) h.high.1), refl),
    ((s.budget ∷ [], between 1 65536 s.budget (omega (arith, h.budget.0)) h.budget.1, refl), ((s.order, and_from _ _ h.turns (le_true (length s.order) 65536 h.few_turns), refl), tt)),
  ),
)

text_of : (s : Tree) → IsScript s → IsText (map joined (script_words s))
text_of s h = record { long = omega arith; heads = heads_of s h; code = code_of s h }

split_of : (s : Tree) → IsScript s → map joined (script_words s) ++ [] ∷ [] ≡ split_at 10 (spelling s)
unfolding spelling
split_of s h = sym (texts_again (script_words s) (all_words s h))

pub whole_of : (s : Tree) (bytes : List ℕ) → IsScript s → bytes ≡ spelling s → IsWhole bytes
whole_of s bytes h e =
    let all : List (List ℕ) = map joined (script_words s) in
    let split : all ++ [] ∷ [] ≡ split_at 10 bytes = split_of s h ∙ ap (split_at 10) (sym e) in
    let P : List (List ℕ) → Type 0 = IsText in
    record { ended = rest_told bytes all [] split; text = subst P (sym (lines_told bytes all [] split)) (text_of s h) }

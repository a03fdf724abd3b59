-- The tree that is made from a number is a script, and has that text.
use Rattle.std.proofs.Common.{◌≡◌, ℕ, ◌≤◌, List, [], ◌∷◌, ◌++◌, length, refl, ap, ◌∙◌, sym, subst, append_assoc, append-nil, arith, rules, Vec, Global}
use Rattle.std.specs.Prelude.{codes, decimal, map}
use Rattle.std.specs.List.{AllByRecursion, flat_map}
use Rattle.std.proofs.lemmas.List.{length-append}
use Rattle.std.proofs.lemmas.Fmt.{decimal_digit, decimal_step, length-decimal-le}
use Rattle.script_tree.specs.declared.operand.Test.{Test}
use Rattle.script_tree.specs.declared.statement.Statement.{Statement, Row_of-Statement, end_of-Statement, more_of-Statement, items-the_row-Statement, the_lemmas}
use Rattle.script_tree.specs.declared.statement.Statement.TheVariants.{While}
use Rattle.script_tree.specs.Tree.{Tree}
use Rattle.script_lines.specs.declared.line.Line.{Line}
use Rattle.script_lines.specs.declared.line.Line.TheVariants.{Thread, While as WhileLine, End}
use Rattle.script_lines.specs.LineLimits.{IsLine}
use Rattle.script_lines.specs.LineTexts.{line_text}
use Rattle.script_lines.specs.Known.{nothing_known}
use Rattle.script_lines.specs.NameLimits.{are_in_order, are_procedures_in_order}
use Rattle.script_lines.specs.Words.{line_words}
use Rattle.script_text.specs.Lines.{statement_lines, row_lines, body_lines, thread_lines, script_lines}
use Rattle.script_text.specs.Nesting.{nests}
use Rattle.script_text.specs.Spelling.{spelling, head_words}
use Rattle.user_app.specs.Made.{made_text, IsMade, sender_lines, receiver_lines}

-- the lines of a row are those of its statements
row_is : {m : _} (row : Row_of-Statement m) → row_lines row ≡ body_lines (items-the_row-Statement _ row)
row_is end_of-Statement = refl
row_is (more_of-Statement s rest) = ap (λ (l : List Line). statement_lines s ++ l) (row_is rest)

-- the lines of a loop
pub loop_lines : (t : Test) (pass : Vec Statement Global) → statement_lines (While t pass) ≡ WhileLine t ∷ (body_lines pass.items ++ End ∷ [])
loop_lines t pass = search (rules, the_lemmas, row_is)

-- the tree of these bodies
abbrev pub made_tree : List Statement → List Statement → Tree
made_tree a b = record { width = 8; height = 4; budget = 65536; order = []; names = []; procedures = []; threads = a ∷ b ∷ [] }

-- its lines
abbrev made_lines : ℕ → List Line
made_lines n = Thread ∷ (sender_lines n ++ End ∷ (Thread ∷ (receiver_lines ++ End ∷ [])))

lines_are : (n : ℕ) (a b : List Statement) → body_lines a ≡ sender_lines n → body_lines b ≡ receiver_lines → script_lines (made_tree a b) ≡ made_lines n
unfolding script_lines
lines_are n a b x y =
    ap (λ (l : List Line). (Thread ∷ (l ++ End ∷ [])) ++ (thread_lines b ++ [])) x
    ∙ ap (λ (l : List Line). (Thread ∷ (sender_lines n ++ End ∷ [])) ++ ((Thread ∷ (l ++ End ∷ [])) ++ [])) y

-- numbers in decimal
nought : decimal 0 ≡ codes "0"
nought = decimal_digit 0 (omega arith)

one : decimal 1 ≡ codes "1"
one = decimal_digit 1 (omega arith)

two : decimal 2 ≡ codes "2"
two = decimal_digit 2 (omega arith)

four : decimal 4 ≡ codes "4"
four = decimal_digit 4 (omega arith)

eight : decimal 8 ≡ codes "8"
eight = decimal_digit 8 (omega arith)

most : decimal 65536 ≡ codes "65536"
most =
    decimal_step 65536 (omega arith) (omega arith) ∙ ap (λ (l : List ℕ). l ++ codes "6") (
    decimal_step 6553 (omega arith) (omega arith) ∙ ap (λ (l : List ℕ). l ++ codes "3") (
    decimal_step 655 (omega arith) (omega arith) ∙ ap (λ (l : List ℕ). l ++ codes "5") (
    decimal_step 65 (omega arith) (omega arith) ∙ ap (λ (l : List ℕ). l ++ codes "5") (decimal_digit 6 (omega arith)))))

line_end : (d more : List ℕ) → ((d ++ []) ++ 10 ∷ []) ++ more ≡ d ++ 10 ∷ more
line_end d more = ap (λ (l : List ℕ). (l ++ 10 ∷ []) ++ more) (append-nil d) ∙ append_assoc d (10 ∷ []) more

-- the text before the number, and behind its line
abbrev front : List ℕ
front = codes "user 1\nscreen 8 4\nbudget 65536\norder\nthread\nwhile a < "

abbrev rest : List ℕ
rest = codes "post_thread 2 WM_USER a 0\nlet a a + 1\nend\npost_thread 2 WM_QUIT 0 0\nend\nthread\nget 0 0 0\nwhile r = 1\nlet b b + gwp\nget 0 0 0\nend\nend\n"

spelled : (n : ℕ) (a b : List Statement) → body_lines a ≡ sender_lines n → body_lines b ≡ receiver_lines → spelling (made_tree a b) ≡ made_text n
unfolding spelling
spelled n a b x y =
    ap (λ (l : List Line). flat_map line_text (head_words (made_tree a b) ++ map (line_words nothing_known) l)) (lines_are n a b x y) ∙ simp (nought, one, two, four, eight, most) (ap (λ (l : List ℕ). front ++ l) (line_end (decimal n) rest))

are_lines : (n : ℕ) → n ≤ 60000 → AllByRecursion IsLine (made_lines n)
are_lines n few = (tt, ((tt, (tt, (omega (arith, few), tt))), ((omega arith, (refl, (tt, (omega arith, tt)))), ((tt, (tt, (tt, (omega arith, tt)))), (tt, ((omega arith, (refl, (omega arith, (omega arith, tt)))), (tt, (tt, ((omega arith, (omega arith, (omega arith, tt))), ((tt, (tt, (omega arith, tt))), ((tt, (tt, (tt, (tt, tt)))), ((omega arith, (omega arith, (omega arith, tt))), (tt, (tt, tt))))))))))))))

short : (n : ℕ) → n ≤ 60000 → length (made_text n) ≤ 1048576
short n few =
    let back : List ℕ = 10 ∷ rest in
    let size : length back ≤ 200 = omega arith in
    omega (arith, length-append (decimal n) back, size, length-decimal-le 5 n (omega arith) (omega arith) (omega arith))

pub made : (n : ℕ) (a b : List Statement) → n ≤ 60000 → body_lines a ≡ sender_lines n → body_lines b ≡ receiver_lines → IsMade n (made_tree a b)
made n a b few x y =
    let lines = lines_are n a b x y in
    record {
      is_script = record {
        wide = (omega arith, omega arith);
        high = (omega arith, omega arith);
        budget = (omega arith, omega arith);
        turns = refl;
        few_turns = omega arith;
        named = record { names = record { spelled = refl; distinct = refl; few = omega arith }; procedures = record { spelled = refl; distinct = refl; few = omega arith } };
        threads = (omega arith, omega arith);
        lines = subst (AllByRecursion IsLine) (sym lines) (are_lines n few);
        in_order = ap (are_in_order 0) lines;
        procedures_in_order = ap (are_procedures_in_order 0) lines;
        nested = ap nests lines;
        short = subst (λ (l : List ℕ). length l ≤ 1048576) (sym (spelled n a b x y)) (short n few);
      };
      spelled = spelled n a b x y;
    }

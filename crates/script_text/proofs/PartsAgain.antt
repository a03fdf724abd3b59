-- A text that spells a script is taken apart into it.
use Rattle.std.proofs.Common.{◌≡◌, ℕ, ◌+◌, ◌-◌, ◌^◌, ◌≤◌, ◌<◌, true, List, [], ◌∷◌, ◌++◌, length, take, drop, get_or, Option, Some, None, refl, ap, sym, ◌∙◌, append_assoc, arith, length-append, append-nil, subst}
use Rattle.std.proofs.Math.Seq.{get_or-append_seam}
use Rattle.std.proofs.lemmas.List.{length-map, map-append}
use Rattle.std.specs.Prelude.{codes, decimal, map, min, nat_le}
use Rattle.std.specs.List.{list_all, flat_map, zip}
use Rattle.std.proofs.lemmas.Bool.{and_parts, and_from}
use Rattle.std.proofs.lemmas.Bool.Decides.{nat_tests}
use Rattle.std.proofs.lemmas.List.Concat.{flat_map-append}
use Rattle.script_tree.specs.Tree.{ProcedureTree, Tree}
use Rattle.script_tree.specs.declared.statement.Statement.{Statement}
use Rattle.script_lines.specs.declared.line.Line.{Line}
use Rattle.script_lines.specs.declared.line.Line.TheVariants as lines
use Rattle.script_lines.specs.Known.{Known, nothing_known, known_of}
use Rattle.script_lines.specs.LineReading.{Names, split_at, word_at, texts_of, lines_at}
use Rattle.script_lines.specs.LineTexts.{blank_word, joined, line_text}
use Rattle.script_lines.specs.NameLimits.{are_procedures_in_order}
use Rattle.script_lines.specs.Words.{line_words}
use Rattle.script_text.specs.Limits.{IsScript, is_turn, is_within}
use Rattle.script_text.specs.Lines.{body_lines, thread_lines, procedure_lines, numbered_lines, procedure_of, names_of, bodies_of, code_lines, script_lines}
use Rattle.script_text.specs.Programs.{IsProgram, IsFitting}
use Rattle.script_text.specs.Reading.{small_number_at, width_at, height_at, budget_at, order_at}
use Rattle.script_text.specs.Refusals.{IsSame}
use Rattle.script_text.specs.Spelling.{head_words, script_words, head_text, procedure_words, spelling}
use Rattle.script_lines.proofs.WordsAgain.{number_again}
use Rattle.script_lines.proofs.TextsAgain.{is_word, decimal_word, is_line_of_words, lines_are_words, words_again, texts_again}
use Rattle.script_lines.proofs.LinesAgain.{lines_again}
use Rattle.script_text.proofs.Counting.{as_many}

front : (xs : List (List ℕ)) (x : List ℕ) → take (length xs) (xs ++ x ∷ []) ≡ xs
front [] x = refl
front (y ∷ xs) x = ap (λ (l : List (List ℕ)). y ∷ l) (front xs x)

le_told : (a b : ℕ) → nat_le a b ≡ true → a ≤ b
le_told a b h = grind (arith, nat_tests, h)

turn_small : (t : ℕ) → is_turn t ≡ true → t ≤ 15
turn_small t h = le_told t 15 (and_parts (nat_le 1 t) (nat_le t 15) h).1

pub turns_words : (order : List ℕ) → list_all is_turn order ≡ true → list_all is_word (map decimal order) ≡ true
turns_words [] h = refl
turns_words (t ∷ order) h =
    let two = and_parts (is_turn t) (list_all is_turn order) h in
    let small : t < 2 ^ 64 = omega (arith, turn_small t two.0) in
    and_from _ _ (decimal_word t small) (turns_words order two.1)

screen_words : (s : Tree) → IsScript s → list_all is_word (decimal s.width ∷ decimal s.height ∷ []) ≡ true
screen_words s h =
    let w : s.width < 2 ^ 64 = omega (arith, h.wide.1) in
    let v : s.height < 2 ^ 64 = omega (arith, h.high.1) in
    and_from _ _ (decimal_word s.width w) (and_from _ _ (decimal_word s.height v) refl)

budget_words : (s : Tree) → IsScript s → list_all is_word (decimal s.budget ∷ []) ≡ true
budget_words s h = let n : s.budget < 2 ^ 64 = omega (arith, h.budget.1) in and_from _ _ (decimal_word s.budget n) refl

pub all_words : (s : Tree) → IsScript s → list_all is_line_of_words (script_words s) ≡ true
all_words s h =
    and_from true _ refl (and_from _ _ (screen_words s h) (and_from _ _ (budget_words s h) (and_from _ _ (turns_words s.order h.turns) (lines_are_words (known_of s) (script_lines s) h.lines h.named))))

pub texts_found : (s : Tree) → IsScript s → texts_of (spelling s) ≡ map joined (script_words s)
unfolding texts_of spelling
texts_found s h =
    let split : split_at 10 (flat_map line_text (script_words s)) ≡ map joined (script_words s) ++ [] ∷ [] = texts_again (script_words s) (all_words s h) in
    let all : List (List ℕ) = map joined (script_words s) in
    let len : length (all ++ [] ∷ []) - 1 ≡ length all = omega (arith, length-append all ([] ∷ [])) in
    ap (λ (l : List (List ℕ)). take (length l - 1) l) split ∙ ap (λ (n : ℕ). take n (all ++ [] ∷ [])) len ∙ front all []

pub small_again : (most n : ℕ) → n ≤ most → n < 2 ^ 64 → small_number_at most (decimal n) ≡ n
small_again most n le small = let e = number_again n small in ap (λ (x : ℕ). min x most) e ∙ omega arith

width_again : (s : Tree) → IsScript s → width_at (map joined (script_words s)) ≡ s.width
unfolding width_at
width_again s h =
    ap (λ (ws : List (List ℕ)). small_number_at 65535 (word_at ws 1)) (words_again (codes "screen") (decimal s.width ∷ decimal s.height ∷ []) refl (screen_words s h))
    ∙ small_again 65535 s.width (omega (arith, h.wide.1)) (omega (arith, h.wide.1))

height_again : (s : Tree) → IsScript s → height_at (map joined (script_words s)) ≡ s.height
unfolding height_at
height_again s h =
    ap (λ (ws : List (List ℕ)). small_number_at 65535 (word_at ws 2)) (words_again (codes "screen") (decimal s.width ∷ decimal s.height ∷ []) refl (screen_words s h))
    ∙ small_again 65535 s.height (omega (arith, h.high.1)) (omega (arith, h.high.1))

budget_again : (s : Tree) → IsScript s → budget_at (map joined (script_words s)) ≡ s.budget
unfolding budget_at
budget_again s h =
    ap (λ (ws : List (List ℕ)). small_number_at 4294967295 (word_at ws 1)) (words_again (codes "budget") (decimal s.budget ∷ []) refl (budget_words s h))
    ∙ small_again 4294967295 s.budget (omega (arith, h.budget.1)) (omega (arith, h.budget.1))

pub turns_again : (order : List ℕ) → list_all is_turn order ≡ true → map (small_number_at 255) (map decimal order) ≡ order
turns_again [] h = refl
turns_again (t ∷ order) h =
    let two = and_parts (is_turn t) (list_all is_turn order) h in
    let small = turn_small t two.0 in
    ap (λ (x : ℕ). x ∷ map (small_number_at 255) (map decimal order)) (small_again 255 t (omega (arith, small)) (omega (arith, small)))
    ∙ ap (λ (l : List ℕ). t ∷ l) (turns_again order two.1)

order_again : (s : Tree) → IsScript s → order_at (map joined (script_words s)) ≡ s.order
unfolding order_at
order_again s h =
    ap (λ (ws : List (List ℕ)). map (small_number_at 255) (drop 1 ws)) (words_again (codes "order") (map decimal s.order) refl (turns_words s.order h.turns))
    ∙ turns_again s.order h.turns

-- the parts of a text that spells a script
pub record Apart (texts : List (List ℕ)) (s : Tree) : Type 0 where
  pub is_width : width_at texts ≡ s.width
  pub is_height : height_at texts ≡ s.height
  pub is_budget : budget_at texts ≡ s.budget
  pub is_order : order_at texts ≡ s.order
  pub rest : drop 4 texts ≡ map joined (map (line_words (known_of s)) (script_lines s))
  pub long : 4 ≤ length texts

apart_spelled : (s : Tree) → IsScript s → Apart (map joined (script_words s)) s
apart_spelled s h = record { is_width = width_again s h; is_height = height_again s h; is_budget = budget_again s h; is_order = order_again s h; rest = refl; long = omega arith }

pub apart : (s : Tree) (bytes : List ℕ) (texts : List (List ℕ)) → IsScript s → bytes ≡ spelling s → texts ≡ texts_of bytes → Apart texts s
apart s bytes texts h e same =
    let all : texts ≡ map joined (script_words s) = same ∙ ap texts_of e ∙ texts_found s h in
    let P : List (List ℕ) → Type 0 = λ l. Apart l s in
    subst P (sym all) (apart_spelled s h)

pub program_of : (s : Tree) → IsScript s → IsProgram (known_of s) (script_lines s)
program_of s h =
    let many : length (names_of s.procedures) ≡ length s.procedures = length-map s.procedures (λ p. p.name) in
    record { named = h.named; fits = h.lines; in_order = h.in_order; procedures_in_order = ap (λ (n : ℕ). are_procedures_in_order n (script_lines s)) many ∙ h.procedures_in_order; nested = h.nested }

pub program_found : (known seen : Known) (lines : List Line) (texts : List (List ℕ)) → seen ≡ nothing_known → IsProgram known lines → texts ≡ map joined (map (line_words known) lines) → lines_at seen texts ≡ Some (lines, known)
program_found known seen lines texts none h e =
    ap (λ (k : Known). lines_at k texts) none ∙ ap (lines_at nothing_known) e ∙ lines_again known 0 0 lines h.fits h.named (omega arith) (omega arith) h.in_order h.procedures_in_order

same_pair : (a c : List Line) (b d : Known) → (let x : Option (List Line × Known) = Some (a, b) in let y : Option (List Line × Known) = Some (c, d) in x ≡ y) → (a ≡ c) × (b ≡ d)
same_pair a c b d e =
    let f : Option (List Line × Known) → List Line × Known = λ o. elim o [ None ↦ (a, b) | Some p ↦ p ] in
    let p = ap f e in
    (ap (λ (q : List Line × Known). q.0) p, ap (λ (q : List Line × Known). q.1) p)

abbrev pub Texts : Known → List Line → List (List ℕ)
Texts known lines = map joined (map (line_words known) lines)

-- ---- procedures of names and bodies

zipped_names : (names : Names) (bodies : List (List Statement)) → length names ≡ length bodies → names_of (map procedure_of (zip names bodies)) ≡ names
zipped_names [] bodies e = refl
zipped_names (name ∷ names) [] e = absurd (omega arith)
zipped_names (name ∷ names) (body ∷ bodies) e = ap (λ (l : Names). name ∷ l) (zipped_names names bodies (omega arith))

zipped_bodies : (names : Names) (bodies : List (List Statement)) → length names ≡ length bodies → bodies_of (map procedure_of (zip names bodies)) ≡ bodies
zipped_bodies [] [] e = refl
zipped_bodies [] (body ∷ bodies) e = absurd (omega arith)
zipped_bodies (name ∷ names) [] e = absurd (omega arith)
zipped_bodies (name ∷ names) (body ∷ bodies) e = ap (λ (l : List (List Statement)). body ∷ l) (zipped_bodies names bodies (omega arith))

-- what the names and the procedures of a tree are known by
abbrev pub known_by : Names → List ProcedureTree → Known
known_by names procedures = record { names = names; procedures = names_of procedures }

-- what was found has these names, these procedures' names and these lines
abbrev pub IsFound : Names → List ProcedureTree → List (List Statement) → Known → List Line → Type 0
IsFound names made threads known lines = (names ≡ known.names) × (names_of made ≡ known.procedures) × (code_lines (bodies_of made) threads ≡ lines)

pub found_parts : (known : Known) (names titles : Names) (count : ℕ) (ls lent built : List Line) (bodies threads : List (List Statement)) (made : List ProcedureTree) → names ≡ known.names → titles ≡ known.procedures → count ≡ length titles → lent ≡ ls → built ≡ ls
    → are_procedures_in_order count lent ≡ true → code_lines bodies threads ≡ built → made ≡ map procedure_of (zip titles bodies) → IsFound names made threads known ls
found_parts known names titles count ls lent built bodies threads made named titled len same both ordered e zipped =
    let many : length titles ≡ length bodies = as_many count titles bodies threads ls len (ap (are_procedures_in_order count) (sym same) ∙ ordered) (e ∙ both) in (
      named,
      ap names_of zipped ∙ zipped_names titles bodies many ∙ titled,
      ap (λ (b : List (List Statement)). code_lines b threads) (ap bodies_of zipped ∙ zipped_bodies titles bodies many) ∙ e ∙ both,
    )

-- what was found is a program
pub found_program : (known : Known) (names : Names) (made : List ProcedureTree) (threads : List (List Statement)) (ls : List Line) → IsFound names made threads known ls → IsProgram known ls → IsProgram (known_by names made) (code_lines (bodies_of made) threads)
found_program known names made threads ls found h =
    let P : Known → Type 0 = λ k. IsProgram k (code_lines (bodies_of made) threads) in
    let Q : List Line → Type 0 = IsProgram known in
    let same : known ≡ known_by names made = ap (λ (x : Names). record { names = x; procedures = known.procedures }) (sym found.0) ∙ ap (λ (x : Names). record { names = names; procedures = x }) (sym found.1) in
    subst P same (subst Q (sym found.2) h)

-- ---- the tree that was found

abbrev pub tree_of : ℕ → ℕ → ℕ → List ℕ → Names → List ProcedureTree → List (List Statement) → Tree
tree_of w v n turns names procedures threads = record { width = w; height = v; budget = n; order = turns; names = names; procedures = procedures; threads = threads }

program_parts : (w v n : ℕ) (turns : List ℕ) (names : Names) (procedures : List ProcedureTree) (threads : List (List Statement)) → is_within (tree_of w v n turns names procedures threads) ≡ true → IsProgram (known_by names procedures) (code_lines (bodies_of procedures) threads) → IsFitting (tree_of w v n turns names procedures threads)
unfolding script_lines
program_parts w v n turns names procedures threads h g = record { within = h; program = g }

pub fitting_tree : (t : Tree) (w v n : ℕ) (turns : List ℕ) (names : Names) (procedures : List ProcedureTree) (threads : List (List Statement)) → t ≡ tree_of w v n turns names procedures threads → is_within t ≡ true → IsProgram (known_by names procedures) (code_lines (bodies_of procedures) threads) → IsFitting t
fitting_tree t w v n turns names procedures threads e h g =
    let P : Tree → Type 0 = λ x. IsFitting x in
    subst P (sym e) (program_parts w v n turns names procedures threads (sym (ap is_within e) ∙ h) g)

-- ---- one tree for a text

pub one_tree : (s t : Tree) → IsScript s → IsScript t → spelling s ≡ spelling t → IsSame s t
one_tree s t h g e =
    let a = apart s (spelling s) (texts_of (spelling s)) h refl refl in
    let c = apart t (spelling s) (texts_of (spelling s)) g e refl in
    let rest : List (List ℕ) = drop 4 (texts_of (spelling s)) in
    let p = program_found (known_of s) nothing_known (script_lines s) rest refl (program_of s h) a.rest in
    let q = program_found (known_of t) nothing_known (script_lines t) rest refl (program_of t g) c.rest in
    let both = same_pair (script_lines s) (script_lines t) (known_of s) (known_of t) (sym p ∙ q) in
    record {
      width = sym a.is_width ∙ c.is_width;
      height = sym a.is_height ∙ c.is_height;
      budget = sym a.is_budget ∙ c.is_budget;
      order = sym a.is_order ∙ c.is_order;
      names = ap (λ (k : Known). k.names) both.1;
      procedures = ap (λ (k : Known). k.procedures) both.1;
      lines = both.0;
    }

-- ---- the text of a script in the order in which it is written

abbrev pub head_form : ℕ → ℕ → ℕ → List ℕ → List ℕ
head_form w v n turns = codes "user 1\nscreen" ++ (blank_word (decimal w) ++ (blank_word (decimal v) ++ (codes "\nbudget" ++ (blank_word (decimal n) ++ (codes "\norder" ++ (flat_map blank_word (map decimal turns) ++ 10 ∷ []))))))

pub head_same : (s : Tree) (w v n : ℕ) (turns : List ℕ) → w ≡ s.width → v ≡ s.height → n ≡ s.budget → turns ≡ s.order → head_form w v n turns ≡ head_text s
head_same s w v n turns a c d e =
    ap (λ (x : ℕ). head_form x v n turns) a ∙ ap (λ (x : ℕ). head_form s.width x n turns) c ∙ ap (λ (x : ℕ). head_form s.width s.height x turns) d ∙ ap (head_form s.width s.height s.budget) e

-- a line of one number, and of two
one_number : (a rest : List ℕ) → ((a ++ []) ++ 10 ∷ []) ++ rest ≡ a ++ 10 ∷ rest
one_number a rest = ap (λ (l : List ℕ). (l ++ 10 ∷ []) ++ rest) (append-nil a) ∙ append_assoc a (10 ∷ []) rest

two_numbers : (a c rest : List ℕ) → ((a ++ 32 ∷ (c ++ [])) ++ 10 ∷ []) ++ rest ≡ a ++ 32 ∷ (c ++ 10 ∷ rest)
two_numbers a c rest =
    ap (λ (l : List ℕ). ((a ++ 32 ∷ l) ++ 10 ∷ []) ++ rest) (append-nil c)
    ∙ append_assoc (a ++ 32 ∷ c) (10 ∷ []) rest ∙ append_assoc a (32 ∷ c) (10 ∷ rest)

head_regrouped : (s : Tree) → flat_map line_text (head_words s) ≡ head_text s
head_regrouped s =
    let last : List ℕ = codes "order" ++ (flat_map blank_word (map decimal s.order) ++ 10 ∷ []) in
    let e1 : ((codes "order" ++ flat_map blank_word (map decimal s.order)) ++ 10 ∷ []) ++ [] ≡ last = append-nil last in
    let after : List ℕ = codes "budget" ++ (32 ∷ (decimal s.budget ++ 10 ∷ last)) in
    let e2 : (codes "budget" ++ (32 ∷ ((decimal s.budget ++ []) ++ 10 ∷ []))) ++ last ≡ after = ap (λ (l : List ℕ). codes "budget" ++ (32 ∷ l)) (one_number (decimal s.budget) last) in
    let e3 : (codes "screen" ++ (32 ∷ ((decimal s.width ++ 32 ∷ (decimal s.height ++ [])) ++ 10 ∷ []))) ++ after ≡ codes "screen" ++ (32 ∷ (decimal s.width ++ 32 ∷ (decimal s.height ++ 10 ∷ after))) = ap (λ (l : List ℕ). codes "screen" ++ (32 ∷ l)) (two_numbers (decimal s.width) (decimal s.height) after) in
    let screen : List ℕ = codes "screen" ++ (32 ∷ ((decimal s.width ++ 32 ∷ (decimal s.height ++ [])) ++ 10 ∷ [])) in
    let budget : List ℕ = codes "budget" ++ (32 ∷ ((decimal s.budget ++ []) ++ 10 ∷ [])) in
    ap (λ (l : List ℕ). codes "user 1\n" ++ (screen ++ (budget ++ l))) e1
    ∙ ap (λ (l : List ℕ). codes "user 1\n" ++ (screen ++ l)) e2
    ∙ ap (λ (l : List ℕ). codes "user 1\n" ++ l) e3

-- the lines of the head, as they are written
head_written : (s : Tree) (rest : List ℕ) → flat_map line_text (head_words s) ++ rest ≡ head_text s ++ rest
head_written s rest = ap (λ (l : List ℕ). l ++ rest) (head_regrouped s)

-- the procedures before and behind a place, with their names
named_at : (known : Known) (before behind : List ProcedureTree) → known.procedures ≡ names_of (before ++ behind) → flat_map (procedure_words known) behind ≡ map (line_words known) (numbered_lines (length before) (bodies_of behind))
named_at known before [] e = refl
named_at known before (p ∷ behind) e =
    let all : List (List ℕ) = names_of before ++ p.name ∷ names_of behind in
    let same : known.procedures ≡ all = e ∙ map-append (λ q. q.name) before (p ∷ behind) in
    let place : length (names_of before) ≡ length before = length-map before (λ q. q.name) in
    let name : p.name ≡ get_or known.procedures (length before) [] =
    sym (get_or-append_seam (names_of before) p.name (names_of behind) [])
    ∙ ap (λ (n : ℕ). get_or all n []) place ∙ ap (λ (l : List (List ℕ)). get_or l (length before) []) (sym same) in
    let k : ℕ = length before in
    let next : length (before ++ p ∷ []) ≡ k + 1 = omega (arith, length-append before (p ∷ [])) in
    let rest = named_at known (before ++ p ∷ []) behind (e ∙ ap names_of (sym (append_assoc before (p ∷ []) behind))) ∙ ap (λ (n : ℕ). map (line_words known) (numbered_lines n (bodies_of behind))) next in
    let body : List (List (List ℕ)) = map (line_words known) (body_lines p.body ++ lines.End ∷ []) in
    ap (λ (w : List ℕ). (codes "proc" ∷ w ∷ []) ∷ (body ++ flat_map (procedure_words known) behind)) name
    ∙ ap (λ (l : List (List (List ℕ))). map (line_words known) (procedure_lines k p.body) ++ l) rest
    ∙ sym (map-append (line_words known) (procedure_lines k p.body) (numbered_lines (k + 1) (bodies_of behind)))

pub written : (s : Tree) (out : List ℕ) → out ≡ (head_text s ++ flat_map line_text (flat_map (procedure_words (known_of s)) s.procedures)) ++ flat_map line_text (map (line_words (known_of s)) (flat_map thread_lines s.threads)) → out ≡ spelling s
unfolding spelling script_lines
written s out e =
    let words : List Line → List (List (List ℕ)) = map (line_words (known_of s)) in
    let first : List Line = numbered_lines 0 (bodies_of s.procedures) in
    let second : List Line = flat_map thread_lines s.threads in
    e ∙ ap (λ (l : List (List (List ℕ))). (head_text s ++ flat_map line_text l) ++ flat_map line_text (words second)) (named_at (known_of s) [] s.procedures refl)
    ∙ append_assoc (head_text s) (flat_map line_text (words first)) (flat_map line_text (words second))
    ∙ ap (λ (l : List ℕ). head_text s ++ l) (sym (flat_map-append line_text (words first) (words second)))
    ∙ ap (λ (l : List (List (List ℕ))). head_text s ++ flat_map line_text l) (sym (map-append (line_words (known_of s)) first second))
    ∙ sym (head_written s (flat_map line_text (words (first ++ second))))
    ∙ sym (flat_map-append line_text (head_words s) (words (first ++ second)))

-- A whole text is taken apart into a tree that has this text.
use Rattle.std.proofs.Common.{◌≡◌, ℕ, suc, ◌≤◌, ◌<◌, true, List, [], ◌∷◌, ◌++◌, length, drop, refl, ap, sym, ◌∙◌, arith, subst, append_assoc, append-nil, take, ◌-◌, inl, inr}
use Rattle.std.specs.Prelude.{map, decimal, codes, nat_le, nat_lt, ◌==◌, ◌&&◌, slice_index_or}
use Rattle.std.specs.List.{list_all, flat_map, onto_first}
use Rattle.std.proofs.lemmas.Bool.{false≢true, and_parts, and_from, cases_Bool}
use Rattle.std.proofs.lemmas.Bool.Decides.{nat_tests}
use Rattle.std.proofs.lemmas.Fmt.{decimal_digit}
use Rattle.script_tree.specs.Tree.{ProcedureTree, Tree}
use Rattle.script_tree.specs.declared.statement.Statement.{Statement}
use Rattle.script_lines.specs.declared.line.Line.{Line}
use Rattle.script_lines.specs.Known.{Known}
use Rattle.script_lines.specs.LineReading.{Names, split_at, texts_of, word_at}
use Rattle.script_lines.specs.LineTexts.{joined, line_text}
use Rattle.script_lines.specs.Words.{line_words}
use Rattle.script_text.specs.declared.head.HeadLine.TheVariants as heads
use Rattle.script_text.specs.Grammar.{is_between, are_head_numbers, head_text, IsText, thread_count, rest_of}
use Rattle.script_text.specs.Limits.{is_turn, is_within}
use Rattle.script_text.specs.Nesting.{Kind, none_open, all_closed}
use Rattle.script_text.specs.Lines.{names_of, bodies_of, code_lines, script_lines}
use Rattle.script_text.specs.Programs.{IsProgram}
use Rattle.script_text.specs.Reading.{small_number_at, width_at, height_at, budget_at, order_at}
use Rattle.script_text.specs.Spelling.{spelling}
use Rattle.script_lines.proofs.TextsAgain.{is_word, decimal_word, words_again}
use Rattle.script_text.proofs.Counting.{thread_total, threads_counted, total}
use Rattle.script_text.proofs.PartsAgain.{small_again, turns_words, turns_again, tree_of, known_by, IsFound}

eq_told : (a b : ℕ) → (a == b) ≡ true → a ≡ b
eq_told a b h = grind (arith, nat_tests, h)

-- ---- the numbers of the lines before the procedures and threads

version : (ns : List ℕ) → are_head_numbers heads.User ns ≡ true → ns ≡ 1 ∷ []
version [] e = absurd (false≢true e)
version (n ∷ []) e = ap (λ (j : ℕ). j ∷ []) (eq_told n 1 e)
version (n ∷ m ∷ ns) e = absurd (false≢true e)

record IsScreen (ns : List ℕ) : Type 0 where
  pub width : ℕ
  pub height : ℕ
  pub is : ns ≡ width ∷ height ∷ []
  pub fits : (is_between 1 128 width && is_between 1 64 height) ≡ true

screen : (ns : List ℕ) → are_head_numbers heads.Screen ns ≡ true → IsScreen ns
screen [] e = absurd (false≢true e)
screen (w ∷ []) e = absurd (false≢true e)
screen (w ∷ h ∷ []) e = record { width = w; height = h; is = refl; fits = e }
screen (w ∷ h ∷ n ∷ ns) e = absurd (false≢true e)

record IsBudget (ns : List ℕ) : Type 0 where
  pub budget : ℕ
  pub is : ns ≡ budget ∷ []
  pub fits : is_between 1 65536 budget ≡ true

budget : (ns : List ℕ) → are_head_numbers heads.Budget ns ≡ true → IsBudget ns
budget [] e = absurd (false≢true e)
budget (n ∷ []) e = record { budget = n; is = refl; fits = e }
budget (n ∷ m ∷ ns) e = absurd (false≢true e)

-- ---- what a whole text says

abbrev pub head_of : ℕ → ℕ → ℕ → List ℕ → List (List (List ℕ))
head_of w v n turns = (codes "user" ∷ codes "1" ∷ []) ∷ (codes "screen" ∷ decimal w ∷ decimal v ∷ []) ∷ (codes "budget" ∷ decimal n ∷ []) ∷ (codes "order" ∷ map decimal turns) ∷ []

pub record Says (texts : List (List ℕ)) : Type 0 where
  pub width : ℕ
  pub height : ℕ
  pub budget : ℕ
  pub order : List ℕ
  pub known : Known
  pub said : List Line
  pub is : texts ≡ map joined (head_of width height budget order ++ map (line_words known) said)
  pub screen_fits : (is_between 1 128 width && is_between 1 64 height) ≡ true
  pub budget_fits : is_between 1 65536 budget ≡ true
  pub order_fits : (list_all is_turn order && nat_le (length order) 65536) ≡ true
  pub threads : (0 < thread_count said) × (thread_count said ≤ 15)
  pub program : IsProgram known said

no_kinds_open : (ks : List Kind) → ks ≡ [] → none_open ks ≡ true
no_kinds_open ks e = ap none_open e

pub says : (texts : List (List ℕ)) → IsText texts → Says texts
says [] h = absurd (omega (arith, h.long))
says (a ∷ []) h = absurd (omega (arith, h.long))
says (a ∷ b ∷ []) h = absurd (omega (arith, h.long))
says (a ∷ b ∷ c ∷ []) h = absurd (omega (arith, h.long))
says (a ∷ b ∷ c ∷ d ∷ code) h =
    let first = h.heads.0 in
    let second = h.heads.1.0 in
    let third = h.heads.1.1.0 in
    let fourth = h.heads.1.1.1.0 in
    let one = version first.0 first.1 in
    let two = screen second.0 second.1 in
    let three = budget third.0 third.1 in
    let digit : decimal 1 ≡ codes "1" = decimal_digit 1 (omega arith) in
    let is_a : a ≡ joined (codes "user" ∷ codes "1" ∷ []) = first.2 ∙ ap (head_text heads.User) one ∙ ap (λ (x : List ℕ). joined (codes "user" ∷ x ∷ [])) digit in
    let is_b : b ≡ joined (codes "screen" ∷ decimal two.width ∷ decimal two.height ∷ []) = second.2 ∙ ap (head_text heads.Screen) two.is in
    let is_c : c ≡ joined (codes "budget" ∷ decimal three.budget ∷ []) = third.2 ∙ ap (head_text heads.Budget) three.is in
    let s = h.code.stood in
    let A : List ℕ = joined (codes "user" ∷ codes "1" ∷ []) in
    let B : List ℕ = joined (codes "screen" ∷ decimal two.width ∷ decimal two.height ∷ []) in
    let C : List ℕ = joined (codes "budget" ∷ decimal three.budget ∷ []) in
    let D : List ℕ = joined (codes "order" ∷ map decimal fourth.0) in
    record {
      width = two.width;
      height = two.height;
      budget = three.budget;
      order = fourth.0;
      known = h.code.known;
      said = s.said;
      is =
          ap (λ (x : List ℕ). x ∷ b ∷ c ∷ d ∷ code) is_a
          ∙ ap (λ (x : List ℕ). A ∷ x ∷ c ∷ d ∷ code) is_b
          ∙ ap (λ (x : List ℕ). A ∷ B ∷ x ∷ d ∷ code) is_c
          ∙ ap (λ (x : List ℕ). A ∷ B ∷ C ∷ x ∷ code) fourth.2
          ∙ ap (λ (x : List (List ℕ)). A ∷ B ∷ C ∷ D ∷ x) s.spelled;
      screen_fits = two.fits;
      budget_fits = three.fits;
      order_fits = fourth.1;
      threads = (omega (arith, s.counted, h.code.some), omega (arith, s.counted, s.few));
      program = record {
        named = s.named;
        fits = s.fits;
        in_order = s.in_order;
        procedures_in_order = s.procedures_in_order;
        nested = ap all_closed s.nested ∙ no_kinds_open h.code.nest.kinds h.code.closed;
      };
    }

-- ---- a text and its lines

-- parts with a line feed between each two
abbrev glue : List (List ℕ) → List ℕ
glue [] = []
glue (x ∷ []) = x
glue (x ∷ y ∷ xs) = x ++ 10 ∷ glue (y ∷ xs)

glue_onto : (c : ℕ) (x : List ℕ) (xs : List (List ℕ)) → glue (onto_first c (x ∷ xs)) ≡ c ∷ glue (x ∷ xs)
glue_onto c x [] = refl
glue_onto c x (y ∷ xs) = refl

abbrev IsSome : List (List ℕ) → Type 0
IsSome l = (x : List ℕ) × (xs : List (List ℕ)) × (l ≡ x ∷ xs)

onto_some : (c : ℕ) (l : List (List ℕ)) → IsSome (onto_first c l)
onto_some c [] = (c ∷ [], [], refl)
onto_some c (x ∷ xs) = (c ∷ x, xs, refl)

split_some : (bytes : List ℕ) → IsSome (split_at 10 bytes)
split_some [] = ([], [], refl)
split_some (c ∷ bytes) = elim (cases_Bool (c == 10)) [
  | inl hit ↦ ([], split_at 10 bytes, rw hit refl)
  | inr miss ↦
      let f : split_at 10 (c ∷ bytes) ≡ onto_first c (split_at 10 bytes) = rw miss refl in
      let s = onto_some c (split_at 10 bytes) in
      (s.0, s.1, f ∙ s.2)
]

glued : (bytes : List ℕ) → glue (split_at 10 bytes) ≡ bytes
glued [] = refl
glued (c ∷ bytes) =
    let s = split_some bytes in
    let rest : glue (s.0 ∷ s.1) ≡ bytes = sym (ap glue s.2) ∙ glued bytes in
    elim (cases_Bool (c == 10)) [
      | inl hit ↦
          let f : split_at 10 (c ∷ bytes) ≡ [] ∷ split_at 10 bytes = rw hit refl in
          let e : 10 ≡ c = sym (eq_told c 10 hit) in
          ap glue f ∙ ap (λ (l : List (List ℕ)). glue ([] ∷ l)) s.2 ∙ ap (λ (l : List ℕ). 10 ∷ l) rest ∙ ap (λ (j : ℕ). j ∷ bytes) e
      | inr miss ↦
          let f : split_at 10 (c ∷ bytes) ≡ onto_first c (split_at 10 bytes) = rw miss refl in
          ap glue f ∙ ap (λ (l : List (List ℕ)). glue (onto_first c l)) s.2 ∙ glue_onto c s.0 s.1 ∙ ap (λ (l : List ℕ). c ∷ l) rest
    ]

glue_ended : (words : List (List (List ℕ))) → glue (map joined words ++ [] ∷ []) ≡ flat_map line_text words
glue_ended [] = refl
glue_ended (w ∷ []) = sym (append-nil (line_text w))
glue_ended (w ∷ v ∷ words) = ap (λ (l : List ℕ). joined w ++ 10 ∷ l) (glue_ended (v ∷ words)) ∙ sym (append_assoc (joined w) (10 ∷ []) (flat_map line_text (v ∷ words)))

front_last : (x : List ℕ) (xs : List (List ℕ)) → x ∷ xs ≡ take (length (x ∷ xs) - 1) (x ∷ xs) ++ slice_index_or (x ∷ xs) (length (x ∷ xs) - 1) [] ∷ []
front_last x [] = refl
front_last x (y ∷ xs) =
    let more : suc (length (y ∷ xs) - 1) ≡ length (x ∷ y ∷ xs) - 1 = omega arith in
    ap (λ (l : List (List ℕ)). x ∷ l) (front_last y xs) ∙ ap (λ (n : ℕ). take n (x ∷ y ∷ xs) ++ slice_index_or (x ∷ y ∷ xs) n [] ∷ []) more

-- a whole text is its lines, each with its line feed
pub whole_is : (bytes : List ℕ) (words : List (List (List ℕ))) → rest_of bytes ≡ [] → texts_of bytes ≡ map joined words → bytes ≡ flat_map line_text words
unfolding texts_of rest_of
whole_is bytes words none e =
    let s = split_some bytes in
    let P : List (List ℕ) → Type 0 = λ l. l ≡ take (length l - 1) l ++ slice_index_or l (length l - 1) [] ∷ [] in
    let split : split_at 10 bytes ≡ texts_of bytes ++ rest_of bytes ∷ [] = subst P (sym s.2) (front_last s.0 s.1) in
    sym (glued bytes) ∙ ap glue (split ∙ ap (λ (l : List (List ℕ)). l ++ rest_of bytes ∷ []) e ∙ ap (λ (x : List ℕ). map joined words ++ x ∷ []) none) ∙ glue_ended words

-- ---- the tree that is found

le_told : (a b : ℕ) → nat_le a b ≡ true → a ≤ b
le_told a b h = grind (arith, nat_tests, h)

lt_true : (a b : ℕ) → a < b → nat_lt a b ≡ true
lt_true a b h = grind (arith, nat_tests)

le_true : (a b : ℕ) → a ≤ b → nat_le a b ≡ true
le_true a b h = grind (arith, nat_tests)

module _ (texts : List (List ℕ)) (s : Says texts) where
  wide : s.width ≤ 128
  wide = let two = and_parts (is_between 1 128 s.width) (is_between 1 64 s.height) s.screen_fits in le_told s.width 128 (and_parts (nat_le 1 s.width) (nat_le s.width 128) two.0).1

  high : s.height ≤ 64
  high = let two = and_parts (is_between 1 128 s.width) (is_between 1 64 s.height) s.screen_fits in le_told s.height 64 (and_parts (nat_le 1 s.height) (nat_le s.height 64) two.1).1

  rich : s.budget ≤ 65536
  rich = le_told s.budget 65536 (and_parts (nat_le 1 s.budget) (nat_le s.budget 65536) s.budget_fits).1

  screen_words : list_all is_word (decimal s.width ∷ decimal s.height ∷ []) ≡ true
  screen_words = and_from _ _ (decimal_word s.width (omega (arith, wide))) (and_from _ _ (decimal_word s.height (omega (arith, high))) refl)

  budget_words : list_all is_word (decimal s.budget ∷ []) ≡ true
  budget_words = and_from _ _ (decimal_word s.budget (omega (arith, rich))) refl

  turns : list_all is_turn s.order ≡ true
  turns = (and_parts (list_all is_turn s.order) (nat_le (length s.order) 65536) s.order_fits).0

  pub width_is : width_at texts ≡ s.width
  unfolding width_at
  width_is =
      ap width_at s.is ∙ ap (λ (ws : List (List ℕ)). small_number_at 65535 (word_at ws 1)) (words_again (codes "screen") (decimal s.width ∷ decimal s.height ∷ []) refl screen_words)
      ∙ small_again 65535 s.width (omega (arith, wide)) (omega (arith, wide))

  pub height_is : height_at texts ≡ s.height
  unfolding height_at
  height_is =
      ap height_at s.is ∙ ap (λ (ws : List (List ℕ)). small_number_at 65535 (word_at ws 2)) (words_again (codes "screen") (decimal s.width ∷ decimal s.height ∷ []) refl screen_words)
      ∙ small_again 65535 s.height (omega (arith, high)) (omega (arith, high))

  pub budget_is : budget_at texts ≡ s.budget
  unfolding budget_at
  budget_is =
      ap budget_at s.is ∙ ap (λ (ws : List (List ℕ)). small_number_at 4294967295 (word_at ws 1)) (words_again (codes "budget") (decimal s.budget ∷ []) refl budget_words)
      ∙ small_again 4294967295 s.budget (omega (arith, rich)) (omega (arith, rich))

  pub order_is : order_at texts ≡ s.order
  unfolding order_at
  order_is =
      ap order_at s.is ∙ ap (λ (ws : List (List ℕ)). map (small_number_at 255) (drop 1 ws)) (words_again (codes "order") (map decimal s.order) refl (turns_words s.order turns))
      ∙ turns_again s.order turns

  module _ (t : Tree) (w v n : ℕ) (order : List ℕ) (names : Names) (procedures : List ProcedureTree) (threads : List (List Statement)) (is : t ≡ tree_of w v n order names procedures threads)
      (a : w ≡ width_at texts) (b : v ≡ height_at texts) (c : n ≡ budget_at texts) (d : order ≡ order_at texts) (found : IsFound names procedures threads s.known s.said) where
    many : length threads ≡ thread_count s.said
    many = sym (threads_counted (bodies_of procedures) threads) ∙ ap (total 0 1) found.2 ∙ sym (thread_total s.said)

    pub found_within : is_within t ≡ true
    found_within =
        let two = and_parts (is_between 1 128 s.width) (is_between 1 64 s.height) s.screen_fits in
        let p = and_parts (nat_le 1 s.width) (nat_le s.width 128) two.0 in
        let q = and_parts (nat_le 1 s.height) (nat_le s.height 64) two.1 in
        let r = and_parts (nat_le 1 s.budget) (nat_le s.budget 65536) s.budget_fits in
        let o = and_parts (list_all is_turn s.order) (nat_le (length s.order) 65536) s.order_fits in
        let some : nat_lt 0 (length threads) ≡ true = lt_true 0 (length threads) (omega (arith, many, s.threads.0)) in
        let few : nat_le (length threads) 15 ≡ true = le_true (length threads) 15 (omega (arith, many, s.threads.1)) in
        ap is_within is
        ∙ ap (λ (x : ℕ). is_within (tree_of x v n order names procedures threads)) (a ∙ width_is)
        ∙ ap (λ (x : ℕ). is_within (tree_of s.width x n order names procedures threads)) (b ∙ height_is)
        ∙ ap (λ (x : ℕ). is_within (tree_of s.width s.height x order names procedures threads)) (c ∙ budget_is)
        ∙ ap (λ (x : List ℕ). is_within (tree_of s.width s.height s.budget x names procedures threads)) (d ∙ order_is)
        ∙ and_from _ _ p.0 (and_from _ _ p.1 (and_from _ _ q.0 (and_from _ _ q.1 (and_from _ _ r.0 (and_from _ _ r.1 (and_from _ _ o.0 (and_from _ _ o.1 (and_from _ _ some few))))))))

    pub found_spelled : spelling t ≡ flat_map line_text (head_of s.width s.height s.budget s.order ++ map (line_words s.known) s.said)
    unfolding spelling script_lines
    found_spelled =
        let lines : List Line = code_lines (bodies_of procedures) threads in
        let known : Known = known_by names procedures in
        ap spelling is ∙ ap (flat_map line_text) (
        ap (λ (x : ℕ). head_of x v n order ++ map (line_words known) lines) (a ∙ width_is)
        ∙ ap (λ (x : ℕ). head_of s.width x n order ++ map (line_words known) lines) (b ∙ height_is)
        ∙ ap (λ (x : ℕ). head_of s.width s.height x order ++ map (line_words known) lines) (c ∙ budget_is)
        ∙ ap (λ (x : List ℕ). head_of s.width s.height s.budget x ++ map (line_words known) lines) (d ∙ order_is)
        ∙ ap (λ (x : Names). head_of s.width s.height s.budget s.order ++ map (line_words (record { names = x; procedures = names_of procedures })) lines) found.0
        ∙ ap (λ (x : Names). head_of s.width s.height s.budget s.order ++ map (line_words (record { names = s.known.names; procedures = x })) lines) found.1
        ∙ ap (λ (x : List Line). head_of s.width s.height s.budget s.order ++ map (line_words s.known) x) found.2)

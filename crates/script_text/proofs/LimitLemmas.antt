-- The limits as tests.
use Rattle.std.proofs.Common.{◌≡◌, ℕ, ◌+◌, ◌≤◌, ◌<◌, Bool, true, false, List, length, drop, get_or, Option, Some, None, refl, ap, sym, ◌∙◌, arith}
use Rattle.std.specs.Prelude.{◌&&◌, nat_lt, nat_le}
use Rattle.std.specs.List.{list_all, AllByRecursion}
use Rattle.std.proofs.lemmas.Bool.{false≢true}
use Rattle.std.proofs.lemmas.Bool.Decides.{nat_tests}
use Rattle.std.proofs.lemmas.List.{drop_more, length-map}
use Rattle.script_tree.specs.Tree.{Tree}
use Rattle.statement_table.specs.declared.part.Part.{Part}
use Rattle.script_lines.specs.LineLimits.{IsLine}
use Rattle.script_lines.specs.Known.{known_of}
use Rattle.script_lines.specs.NameLimits.{AreKnown, seen_with_part, seen_after, are_in_order, begun_with_part, begun_after, are_procedures_in_order}
use Rattle.script_lines.proofs.LinesAgain.{none_after, none_begun_after}
use Rattle.script_text.specs.Limits.{IsScript, is_turn, is_within}
use Rattle.script_text.specs.Lines.{names_of, script_lines}
use Rattle.script_text.specs.Nesting.{nests}
use Rattle.script_text.specs.Programs.{IsFitting}
use Rattle.script_text.specs.Spelling.{spelling}

-- a part with a name that is out of order
pub unseen_part : (count : ℕ) (parts : List Part) (i : ℕ) (d : Part) (seen : ℕ) (total : Option ℕ) → i < length parts → seen_with_part count (Some seen) (get_or parts i d) ≡ None → seen_after count (Some seen) (drop i parts) ≡ total → total ≡ None
unseen_part count parts i d seen total lt none so_far =
    sym so_far ∙ ap (seen_after count (Some seen)) (drop_more parts i d lt) ∙ ap (λ (o : Option ℕ). seen_after count o (drop (i + 1) parts)) none ∙ none_after count (drop (i + 1) parts)

-- a part with a procedure that is out of order
pub unbegun_part : (count : ℕ) (parts : List Part) (i : ℕ) (d : Part) (begun : ℕ) (total : Option ℕ) → i < length parts → begun_with_part count (Some begun) (get_or parts i d) ≡ None → begun_after count (Some begun) (drop i parts) ≡ total → total ≡ None
unbegun_part count parts i d begun total lt none so_far =
    sym so_far ∙ ap (begun_after count (Some begun)) (drop_more parts i d lt) ∙ ap (λ (o : Option ℕ). begun_after count o (drop (i + 1) parts)) none ∙ none_begun_after count (drop (i + 1) parts)

le_told : (a b : ℕ) → nat_le a b ≡ true → a ≤ b
le_told a b h = grind (arith, nat_tests, h)

lt_told : (a b : ℕ) → nat_lt a b ≡ true → a < b
lt_told a b h = grind (arith, nat_tests, h)

first_two : (a b : Bool) → (a && b) ≡ true → (a ≡ true) × (b ≡ true)
first_two true b e = (refl, e)
first_two false b e = absurd (false≢true e)

script_of : (s : Tree) → is_within s ≡ true → AreKnown (known_of s) → AllByRecursion IsLine (script_lines s) → are_in_order (length s.names) (script_lines s) ≡ true → are_procedures_in_order (length s.procedures) (script_lines s) ≡ true → nests (script_lines s) ≡ true → length (spelling s) ≤ 1048576 → IsScript s
script_of s e named fits ordered begun nested short =
    let a1 = first_two (nat_le 1 s.width) _ e in
    let a2 = first_two (nat_le s.width 128) _ a1.1 in
    let a3 = first_two (nat_le 1 s.height) _ a2.1 in
    let a4 = first_two (nat_le s.height 64) _ a3.1 in
    let a5 = first_two (nat_le 1 s.budget) _ a4.1 in
    let a6 = first_two (nat_le s.budget 65536) _ a5.1 in
    let a7 = first_two (list_all is_turn s.order) _ a6.1 in
    let a8 = first_two (nat_le (length s.order) 65536) _ a7.1 in
    let a9 = first_two (nat_lt 0 (length s.threads)) _ a8.1 in
    record {
      wide = (omega (arith, le_told 1 s.width a1.0), le_told s.width 128 a2.0);
      high = (omega (arith, le_told 1 s.height a3.0), le_told s.height 64 a4.0);
      budget = (omega (arith, le_told 1 s.budget a5.0), le_told s.budget 65536 a6.0);
      turns = a7.0;
      few_turns = le_told (length s.order) 65536 a8.0;
      named = named;
      threads = (lt_told 0 (length s.threads) a9.0, le_told (length s.threads) 15 a9.1);
      lines = fits;
      in_order = ordered;
      procedures_in_order = begun;
      nested = nested;
      short = short;
    }

-- what was found is a script where its text is short enough
pub fitting_script : (s : Tree) (bytes : List ℕ) → IsFitting s → bytes ≡ spelling s → length bytes ≤ 1048576 → IsScript s
fitting_script s bytes h e short =
    let many : length (names_of s.procedures) ≡ length s.procedures = length-map s.procedures (λ p. p.name) in
    let begun : are_procedures_in_order (length s.procedures) (script_lines s) ≡ true = ap (λ (n : ℕ). are_procedures_in_order n (script_lines s)) (sym many) ∙ h.program.procedures_in_order in
    let len : length (spelling s) ≤ 1048576 = omega (arith, short, ap length e) in
    script_of s h.within h.program.named h.program.fits h.program.in_order begun h.program.nested len

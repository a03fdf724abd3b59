-- Names of a script are UTF-8.
use Rattle.std.proofs.Common.{◌≡◌, ℕ, Bool, true, false, List, [], ◌∷◌, length, map, refl, arith, IsUtf8}
use Rattle.std.specs.Prelude.{nat_le, nat_lt, ◌==◌, ◌&&◌, ◌||◌}
use Rattle.std.specs.List.{list_all, AllByRecursion}
use Rattle.std.proofs.lemmas.Bool.{and_parts, and_from}
use Rattle.std.proofs.lemmas.Bool.Decides.{nat_tests}
use Rattle.script_tree.specs.Tree.{Tree, ProcedureTree}
use Rattle.script_lines.specs.Known.{known_of}
use Rattle.script_lines.specs.NameLimits.{AreKnown, is_name, is_name_byte, is_small_letter}
use Rattle.log_json.specs.Texts.{IsText, AreTexts}
use Rattle.log_json.proofs.Utf8Texts.{is_plain, plain}

letter_plain : (c : ℕ) → is_small_letter c ≡ true → nat_lt c 128 ≡ true
letter_plain c h = let two = and_parts (nat_le 97 c) (nat_le c 122) h in let a = two.1 in grind (arith, nat_tests)

digit_plain : (c : ℕ) → (nat_le 48 c && nat_le c 57) ≡ true → nat_lt c 128 ≡ true
digit_plain c h = let two = and_parts (nat_le 48 c) (nat_le c 57) h in let a = two.1 in grind (arith, nat_tests)

bar_plain : (c : ℕ) → (c == 95) ≡ true → nat_lt c 128 ≡ true
bar_plain c h = grind (arith, nat_tests, h)

or_plain : (a b t : Bool) → (a ≡ true → t ≡ true) → (b ≡ true → t ≡ true) → (a || b) ≡ true → t ≡ true
or_plain true b t p q h = p refl
or_plain false b t p q h = q h

byte_plain : (c : ℕ) → is_name_byte c ≡ true → nat_lt c 128 ≡ true
byte_plain c h =
    or_plain (is_small_letter c) ((nat_le 48 c && nat_le c 57) || (c == 95)) (nat_lt c 128) (letter_plain c)
    (λ k. or_plain (nat_le 48 c && nat_le c 57) (c == 95) (nat_lt c 128) (digit_plain c) (bar_plain c) k) h

bytes_plain : (cs : List ℕ) → list_all is_name_byte cs ≡ true → is_plain cs ≡ true
bytes_plain [] h = refl
bytes_plain (c ∷ cs) h = let two = and_parts (is_name_byte c) (list_all is_name_byte cs) h in and_from _ _ (byte_plain c two.0) (bytes_plain cs two.1)

name_plain : (name : List ℕ) → is_name name ≡ true → is_plain name ≡ true
name_plain [] h = refl
name_plain (c ∷ cs) h =
    let two = and_parts (is_small_letter c) (list_all is_name_byte cs && nat_le (length cs) 31) h in
    let more = and_parts (list_all is_name_byte cs) (nat_le (length cs) 31) two.1 in
    and_from _ _ (letter_plain c two.0) (bytes_plain cs more.0)

names_texts : (names : List (List ℕ)) → list_all is_name names ≡ true → AllByRecursion IsUtf8 names
names_texts [] h = tt
names_texts (x ∷ names) h = let two = and_parts (is_name x) (list_all is_name names) h in (plain x (name_plain x two.0), names_texts names two.1)

procedures_texts : (procedures : List ProcedureTree) → list_all is_name (map (λ (p : ProcedureTree). p.name) procedures) ≡ true → AllByRecursion IsText procedures
procedures_texts [] h = tt
procedures_texts (p ∷ procedures) h =
    let two = and_parts (is_name p.name) (list_all is_name (map (λ (q : ProcedureTree). q.name) procedures)) h in
    (plain p.name (name_plain p.name two.0), procedures_texts procedures two.1)

pub known_texts : (s : Tree) → AreKnown (known_of s) → AreTexts s
known_texts s h = record { names = names_texts s.names h.names.spelled; procedures = procedures_texts s.procedures h.procedures.spelled }

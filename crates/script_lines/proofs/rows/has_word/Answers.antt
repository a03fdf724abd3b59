use Rattle.std.proofs.Common.{◌≡◌, ℕ, List, length, Bool, true, false, nat_eq, arith, ap, sym, refl, ◌∙◌}
use Rattle.std.specs.Str.{bytes_eq}
use Rattle.std.proofs.lemmas.Bool.Decides.{nat_tests}
use Rattle.std.proofs.lemmas.Slice.Eq.{bytes_eq-Decides}
use Rattle.script_lines.specs.Rows.{command_word}
use Rattle.script_lines.proofs.rows.has_word.Goals as goal

-- texts of different lengths are not the same
other_length : (xs ys : List ℕ) (same : Bool) → bytes_eq xs ys ≡ same → (length xs ≡ length ys → ⊥) → same ≡ false
other_length xs ys true e h = absurd (h (ap length ((bytes_eq-Decides xs ys).0 e)))
other_length xs ys false e h = refl

not_equal : (n m : ℕ) → (n ≡ m → ⊥) → nat_eq n m ≡ false
not_equal n m h = grind (arith, nat_tests, h)

pub returns-else-first-word : goal.returns-else-first-word
returns-else-first-word c =
    let first = c.command_word-first.ensures in
    let word = c.args.word.now in
    not_equal _ _ c.if-first-word.false ∙ sym (other_length (command_word c.args.command) word (bytes_eq (command_word c.args.command) word) refl (λ e. c.if-first-word.false (ap length first ∙ e)))

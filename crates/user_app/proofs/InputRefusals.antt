-- Why an input is refused.
use Rattle.std.proofs.Common.{◌≡◌, ℕ, ◌-◌, ◌≤◌, List, ◌++◌, length, Result, Err, ap, arith, length-append}
use Rattle.std.specs.Prelude.{◌==◌}
use Rattle.std.specs.Result.{IsErrOf}
use Rattle.std.proofs.lemmas.List.{length-take-le}
use Rattle.std.proofs.lemmas.List.Splits.{length-slice_split}
use Rattle.std.proofs.lemmas.List.Sums.{count_by-le-length}
use Rattle.script_tree.specs.Tree.{Tree}
use Rattle.script_lines.specs.LineReading.{split_at, texts_of}
use Rattle.script_text.specs.declared.fault.Refusal.{Refusal}
use Rattle.script_text.specs.Limits.{IsScript}
use Rattle.script_text.specs.Spelling.{spelling}
use Rattle.log_read.specs.Refusals.{IsLineOf}
use Rattle.user_app.specs.declared.input.InputFault.{InputFault}
use Rattle.user_app.specs.declared.input.InputFault.TheVariants.{Refused}

-- one refusal is told
pub same_refusal : {X : Type 0} (a b : Refusal) → (let r : Result X InputFault = Err (Refused a) in IsErrOf r (Refused b)) → a ≡ b
same_refusal {X} a b is = cc

-- a text has no more lines than bytes
pub few_texts : (bytes : List ℕ) → length (texts_of bytes) ≤ length bytes
unfolding texts_of
few_texts bytes = omega (arith, length-take-le (length (split_at 10 bytes) - 1) (split_at 10 bytes), length-slice_split (λ (b : ℕ). b == 10) bytes, count_by-le-length (λ (b : ℕ). b == 10) bytes)

-- the lines of a script
pub short_front : (s : Tree) (front : List ℕ) → IsScript s → front ≡ spelling s → length front ≤ 1048576
short_front s front script same = omega (arith, ap (λ (l : List ℕ). length l) same, script.short)

-- a line of the log behind it
pub early_line : (text front back : List ℕ) (line : ℕ) → text ≡ front ++ back → length text ≤ 268435456 → IsLineOf back line → line ≤ 268435457
early_line text front back line whole short told = omega (arith, ap (λ (l : List ℕ). length l) whole, length-append front back, short, told.1, few_texts back)

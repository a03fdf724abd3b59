-- Reading lines one after the other, as the loop does.
use Rattle.std.proofs.Common.{◌≡◌, ℕ, List, [], ◌∷◌, ◌++◌, Option, Some, ap}
use Rattle.std.specs.List.{AllByRecursion}
use Rattle.script_lines.specs.declared.line.Line.{Line}
use Rattle.script_lines.specs.Known.{Known}
use Rattle.script_lines.specs.LineReading.{◌>>=◌, split_at, line_at, lines_at}

abbrev pub step : Option (Line × Known) → List (List ℕ) → Option (List Line × Known)
step first more = first >>= λ f. lines_at f.1 more >>= λ others. Some (f.0 ∷ others.0, others.1)

pub one_step : (known : Known) (text : List ℕ) (more : List (List ℕ)) (o : Option (Line × Known)) → line_at known (split_at 32 text) ≡ o → lines_at known (text ∷ more) ≡ step o more
unfolding lines_at
one_step known text more o e = ap (λ (x : Option (Line × Known)). step x more) e

pub all_push : {A : Type 0} (P : A → Type 0) (xs : List A) (y : A) → AllByRecursion P xs → P y → AllByRecursion P (xs ++ y ∷ [])
all_push P [] y h p = (p, tt)
all_push P (x ∷ xs) y h p = (h.0, all_push P xs y h.1 p)

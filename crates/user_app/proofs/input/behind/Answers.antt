use Rattle.std.proofs.Common.{ℕ, List, length, ap, arith}
use Rattle.std.proofs.lemmas.List.{length-map}
use Rattle.user_app.proofs.InputRefusals.{few_texts}
use Rattle.user_app.proofs.input.behind.Goals as goal

pub overflow_cast-result : goal.overflow_cast-result
overflow_cast-result c =
    omega (arith, few_texts c.args.script.now, ap (λ (l : List (List ℕ)). length l) c.in_ok-texts.ensures, length-map c.in_ok-texts.texts.items (λ w. w.now), c.requires.short, c.len.ensures)

pub overflow_add-result : goal.overflow_add-result
overflow_add-result c =
    omega (arith, few_texts c.args.script.now, ap (λ (l : List (List ℕ)). length l) c.in_ok-texts.ensures, length-map c.in_ok-texts.texts.items (λ w. w.now), c.requires.short, c.requires.few, c.len.ensures)

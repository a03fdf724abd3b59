use Rattle.std.proofs.Common.{List, ℕ, ◌-◌, ◌∷◌, ◌++◌, sym, ap, ◌∙◌, length, take, drop}
use Rattle.script_lines.proofs.Fronts.{first_parted, number_parted, zero_word}
use Rattle.script_lines.proofs.front.Rest.number.Goals as goal

pub returns-then-first-eq48 : goal.returns-then-first-eq48
returns-then-first-eq48 c =
    let text : List ℕ = c.args.self.now.text.now in
    let word : List ℕ = take (length text - 1) (drop 1 text) in
    first_parted text 32 c.in-len1-up.len_at_least c.if-blank-ne32.false ∙ ap (λ (w : List ℕ). 32 ∷ w) (first_parted word 48 c.in-len1-up-word.len_at_least c.if-first-eq48.true)
    ∙ ap (λ (z : List ℕ). 32 ∷ (z ++ take (length word - 1) (drop 1 word))) (sym zero_word)

pub returns : goal.returns
returns c =
    let text : List ℕ = c.args.self.now.text.now in
    let word : List ℕ = take (length text - 1) (drop 1 text) in
    let front = c.front_digits-value in
    first_parted text 32 c.in-len1-up.len_at_least c.if-blank-ne32.false
    ∙ ap (λ (w : List ℕ). 32 ∷ w) (number_parted word front.result.0 front.result.1 front.ensures.digits front.ensures.value front.ensures.few front.ensures.within c.if-digits-eq0.false c.if-first-eq48.false)

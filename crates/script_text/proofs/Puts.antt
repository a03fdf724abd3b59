-- Lines put one behind the other.
use Rattle.std.proofs.Common.{◌≡◌, List, [], ◌∷◌, ◌++◌, ap, ◌∙◌, append_assoc}
use Rattle.script_lines.specs.declared.line.Line.{Line}

-- a block: its first line, its body, its end
pub block_put : (old a b c body : List Line) (first last : Line) → a ≡ old ++ first ∷ [] → b ≡ a ++ body → c ≡ b ++ last ∷ [] → c ≡ old ++ (first ∷ (body ++ last ∷ []))
block_put old a b c body first last p q r =
    r ∙ ap (λ (l : List Line). l ++ last ∷ []) (q ∙ ap (λ (l : List Line). l ++ body) p)
    ∙ ap (λ (l : List Line). l ++ last ∷ []) (append_assoc old (first ∷ []) body) ∙ append_assoc old (first ∷ body) (last ∷ [])

-- an `if` with both bodies
pub both_put : (old a b c d e one two : List Line) (first middle last : Line) → a ≡ old ++ first ∷ [] → b ≡ a ++ one → c ≡ b ++ middle ∷ [] → d ≡ c ++ two → e ≡ d ++ last ∷ [] → e ≡ old ++ (first ∷ (one ++ middle ∷ (two ++ last ∷ [])))
both_put old a b c d e one two first middle last p q r s t =
    block_put b c d e two middle last r s t
    ∙ ap (λ (l : List Line). l ++ (middle ∷ (two ++ last ∷ []))) (q ∙ ap (λ (l : List Line). l ++ one) p ∙ append_assoc old (first ∷ []) one)
    ∙ append_assoc old (first ∷ one) (middle ∷ (two ++ last ∷ []))

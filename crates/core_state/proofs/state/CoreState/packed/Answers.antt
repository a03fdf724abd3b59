use Rattle.std.proofs.Common.{rules, arith, ◌≡◌, ℕ, ◌+◌, ◌*◌, w32, w64, ℤ, ◌-ℤ◌, to_z, of_z, ap, ◌∙◌}
use Rattle.std.proofs.lemmas.Int.{ints}
use mir.Val.{SFits}
use Rattle.win_num.specs.declared.shapes.Point.{Point}
use Rattle.user_model.specs.Targets.{low_word}
use Rattle.core_state.proofs.state.CoreState.packed.Goals as goal

difference : (p s from_p from_s : ℤ) → SFits w32 p → SFits w32 s → from_p ≡ to_z w32 (of_z w32 p) → from_s ≡ to_z w32 (of_z w32 s) → to_z w64 (of_z w64 (to_z w64 (of_z w64 from_p) -ℤ to_z w64 (of_z w64 from_s))) ≡ p -ℤ s
difference p s from_p from_s one other ep es = omega (arith, ints, one, other, ep, es)

pub returns : goal.returns
returns c =
    let p = c.args.pixel in
    let start = c.corner-start.result in
    let px : SFits w32 c.args.pixel.x = search rules in
    let py : SFits w32 c.args.pixel.y = search rules in
    let sx : SFits w32 c.corner-start.result.x = search rules in
    let sy : SFits w32 c.corner-start.result.y = search rules in
    let wx : c.low_word.result ≡ low_word (p.x -ℤ start.x) = c.low_word.ensures.word ∙ ap low_word (difference p.x start.x c.from.result c.from-2.result px sx c.from.ensures c.from-2.ensures) in
    let wy : c.low_word-2.result ≡ low_word (p.y -ℤ start.y) = c.low_word-2.ensures.word ∙ ap low_word (difference p.y start.y c.from-3.result c.from-4.result py sy c.from-3.ensures c.from-4.ensures) in
    ap (λ (n : ℕ). n + 65536 * c.low_word-2.result) wx
    ∙ ap (λ (n : ℕ). low_word (p.x -ℤ start.x) + 65536 * n) wy
    ∙ ap (λ (o : Point). low_word (p.x -ℤ o.x) + 65536 * low_word (p.y -ℤ o.y)) c.corner-start.ensures

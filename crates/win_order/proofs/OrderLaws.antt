-- The laws of mending at the list of windows that an order keeps.
use Rattle.std.proofs.Common.{◌≡◌, ◌∙◌, ℕ, List, [], ◌∷◌, map, refl, sym, ap, subst, arith}
use Rattle.std.specs.List.{All}
use Rattle.std.specs.List.Sorted.{IsPermutation}
use Rattle.std.proofs.lemmas.List.Elements.{All-cons, All-tail}
use Rattle.std.proofs.lemmas.List.Sorted.{All-permutation, IsPermutation-map}
use Rattle.win_num.specs.declared.message.Hwnd.{Hwnd}
use Rattle.win_order.specs.Standing.{Standing}
use Rattle.win_order.specs.declared.top_level.TopLevel.{TopLevel}
use Rattle.win_order.specs.Layers.{settled}
use Rattle.win_order.specs.Mended.{IsMended, AreOwned}
use Rattle.win_order.specs.Mending.{mended}
use Rattle.win_order.specs.Standings.{top_level}
use Rattle.win_order.proofs.MendingLaws.{mended_moves, mended_is_mended}

abbrev IsKnown : List Standing → TopLevel → Type 0
IsKnown ss t = top_level ss t.window ≡ t

all_known : (ss : List Standing) (ws : List Hwnd) → All (IsKnown ss) (map (top_level ss) ws)
all_known ss [] = λ k d lt. absurd (omega arith)
all_known ss (w ∷ ws) = All-cons (IsKnown ss) (top_level ss w) (map (top_level ss) ws) refl (all_known ss ws)

known_again : (ss : List Standing) (ts : List TopLevel) → All (IsKnown ss) ts → map (top_level ss) (map (λ t. t.window) ts) ≡ ts
known_again ss [] a = refl
known_again ss (t ∷ ts) a = ap (λ u. u ∷ map (top_level ss) (map (λ v. v.window) ts)) (a 0 t (omega arith)) ∙ ap (λ us. t ∷ us) (known_again ss ts (All-tail (IsKnown ss) t ts a))

pub windows_again : (ss : List Standing) (ws : List Hwnd) → map (λ t. t.window) (map (top_level ss) ws) ≡ ws
windows_again ss [] = refl
windows_again ss (w ∷ ws) = ap (λ vs. w ∷ vs) (windows_again ss ws)

-- the list of top-level windows is mended where their owners are among them
pub settled_is_mended : (age : ℕ → ℕ) (ss : List Standing) (ws : List Hwnd) → AreOwned age (map (top_level ss) ws) → IsMended (map (top_level ss) (settled ss 0 ws))
settled_is_mended age ss ws o =
    let tops = map (top_level ss) ws in
    subst IsMended (sym (known_again ss (mended tops) (All-permutation (IsKnown ss) tops (mended tops) (mended_moves tops) (all_known ss ws)))) (mended_is_mended age tops o)

-- and has the same windows
pub settled_moves : (ss : List Standing) (ws : List Hwnd) → IsPermutation ws (settled ss 0 ws)
settled_moves ss ws =
    let tops = map (top_level ss) ws in
    subst (λ vs. IsPermutation vs (settled ss 0 ws)) (windows_again ss ws) (IsPermutation-map (λ t. t.window) tops (mended tops) (mended_moves tops))

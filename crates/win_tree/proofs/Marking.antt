-- Marking windows one after another changes no kin.
use Rattle.std.proofs.Common.{◌≡◌, ◌∙◌, inl, inr, ℕ, ◌+◌, ◌<◌, suc, zero, List, [], ◌∷◌, ◌++◌, length, get_or, take, drop, map, set, Bool, true, false, eqb, find, refl, ap}
use Rattle.std.proofs.lemmas.Bool.{cases_Bool}
use Rattle.std.proofs.lemmas.List.{take-append-drop}
use Rattle.std.proofs.lemmas.List.Edits.{map_over_more}
use Rattle.win_num.specs.declared.message.Hwnd.{Hwnd}
use Rattle.win_rows.specs.declared.window.Window.{Window}
use Rattle.win_rows.specs.Windows.{marked_also, window_of}
use Rattle.win_tree.specs.Kin.{above, kin_within, is_kin, doomed_if}

-- marks don't change what stands above
above_marked : (b : Window → Bool) (xs ys : List Window) (w : ℕ) → above (map (λ x. marked_also (b x) x) xs ++ ys) w ≡ above (xs ++ ys) w
above_marked b [] ys w = refl
above_marked b (x ∷ xs) ys w = elim (cases_Bool (eqb x.number.0 w)) [
  | inl h ↦ rw (h, above, window_of, find) refl
  | inr h ↦ rw (h, above, window_of, find) (above_marked b xs ys w)
]

-- where the same stands above each window, each has the same kin
pub kin_agree : (ws us : List Window) → ((w : ℕ) → above ws w ≡ above us w) → (n v w : ℕ) → kin_within n ws v w ≡ kin_within n us v w
kin_agree ws us h zero v w = refl
kin_agree ws us h (suc n) v w =
    let up : kin_within n ws v (above ws w).0 ≡ kin_within n us v (above us w).0 = ap (λ (a : Hwnd). kin_within n ws v a.0) (h w) ∙ kin_agree ws us h n v (above us w).0 in
    ap (λ (r : Bool). let out : Bool = elim (eqb w 0) [ true ↦ false | false ↦ elim (eqb w v) [ true ↦ true | false ↦ r ] ] in out) up

-- the kin of the windows of which some were marked
kin_marked : (ws : List Window) (v w i : ℕ) → is_kin (map (doomed_if ws v) (take i ws) ++ drop i ws) v w ≡ is_kin ws v w
kin_marked ws v w i = kin_agree (map (doomed_if ws v) (take i ws) ++ drop i ws) ws (λ u. above_marked (λ x. is_kin ws v x.number.0) (take i ws) (drop i ws) u ∙ ap (λ (us : List Window). above us u) (take-append-drop i ws)) w v w

-- one more window is marked
pub one_more : (ws us : List Window) (v i : ℕ) (x y : Window) → i < length ws → us ≡ map (doomed_if ws v) (take i ws) ++ drop i ws → x ≡ get_or us i x → y ≡ doomed_if us v x → set us i y ≡ map (doomed_if ws v) (take (i + 1) ws) ++ drop (i + 1) ws
one_more ws us v i x y lt h is made =
    ap (λ (z : Window). set us i z) (made ∙ ap (λ (b : Bool). marked_also b x) (ap (λ (vs : List Window). is_kin vs v x.number.0) h ∙ kin_marked ws v x.number.0 i))
    ∙ map_over_more (doomed_if ws v) ws us i x lt h is

-- Walks up, one step after another.
use Rattle.std.proofs.Common.{◌≡◌, ◌∙◌, ℕ, ◌+◌, ◌-◌, ◌<◌, suc, List, eqb, true, false, refl, sym, ap, arith}
use Rattle.win_num.specs.declared.message.Hwnd.{Hwnd}
use Rattle.win_rows.specs.declared.window.Window.{Window}
use Rattle.win_tree.specs.Kin.{above, parent_of, kin_within, below_within, top_within}

-- one step less is left
left : (n c : ℕ) → c < n → n - c ≡ suc (n - (c + 1))
left n c lt = omega arith

pub kin_nobody : (n c : ℕ) (ws : List Window) (v w : ℕ) → c < n → eqb w 0 ≡ true → kin_within (n - c) ws v w ≡ false
kin_nobody n c ws v w lt none = ap (λ k. kin_within k ws v w) (left n c lt) ∙ rw (none, kin_within) refl

pub kin_same : (n c : ℕ) (ws : List Window) (v w : ℕ) → c < n → eqb w 0 ≡ false → eqb w v ≡ true → kin_within (n - c) ws v w ≡ true
kin_same n c ws v w lt some same = ap (λ k. kin_within k ws v w) (left n c lt) ∙ rw (some, same, kin_within) refl

pub kin_up : (n c : ℕ) (ws : List Window) (v w : ℕ) → c < n → eqb w 0 ≡ false → eqb w v ≡ false → kin_within (n - (c + 1)) ws v (above ws w).0 ≡ kin_within (n - c) ws v w
kin_up n c ws v w lt some other = sym (ap (λ k. kin_within k ws v w) (left n c lt) ∙ rw (some, other, kin_within) refl)

pub below_nobody : (n c : ℕ) (ws : List Window) (v w : ℕ) → c < n → eqb (parent_of ws w).0 0 ≡ true → below_within (n - c) ws v w ≡ false
below_nobody n c ws v w lt none = ap (λ k. below_within k ws v w) (left n c lt) ∙ rw (none, below_within) refl

pub below_same : (n c : ℕ) (ws : List Window) (v w : ℕ) → c < n → eqb (parent_of ws w).0 0 ≡ false → eqb (parent_of ws w).0 v ≡ true → below_within (n - c) ws v w ≡ true
below_same n c ws v w lt some same = ap (λ k. below_within k ws v w) (left n c lt) ∙ rw (some, same, below_within) refl

pub below_up : (n c : ℕ) (ws : List Window) (v w : ℕ) → c < n → eqb (parent_of ws w).0 0 ≡ false → eqb (parent_of ws w).0 v ≡ false → below_within (n - (c + 1)) ws v (parent_of ws w).0 ≡ below_within (n - c) ws v w
below_up n c ws v w lt some other = sym (ap (λ k. below_within k ws v w) (left n c lt) ∙ rw (some, other, below_within) refl)

pub top_here : (n c : ℕ) (ws : List Window) (w : Hwnd) → c < n → eqb (parent_of ws w.0).0 0 ≡ true → top_within (n - c) ws w ≡ w
top_here n c ws w lt none = ap (λ k. top_within k ws w) (left n c lt) ∙ rw (none, top_within) refl

pub top_up : (n c : ℕ) (ws : List Window) (w : Hwnd) → c < n → eqb (parent_of ws w.0).0 0 ≡ false → top_within (n - (c + 1)) ws (parent_of ws w.0) ≡ top_within (n - c) ws w
top_up n c ws w lt some = sym (ap (λ k. top_within k ws w) (left n c lt) ∙ rw (some, top_within) refl)

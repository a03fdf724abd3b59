-- What is left of the numbers and the windows when a window goes with its kin.
use Rattle.std.proofs.Common.{◌≡◌, ◌∙◌, inl, inr, ℕ, List, [], ◌∷◌, Bool, true, false, ◌&&◌, ◌||◌, eqb, map, filter, refl, sym, ap, subst}
use Rattle.std.specs.List.{list_any}
use Rattle.std.proofs.lemmas.Bool.{cases_Bool, eqb-true, eq-eqb}
use Rattle.std.proofs.lemmas.Map.Views.{any-filter_same}
use Rattle.win_num.specs.declared.message.Hwnd.{Hwnd}
use Rattle.win_rows.specs.declared.window.Window.{Window}
use Rattle.std.specs.List.Sorted.{IsNonDecreasingBy}
use Rattle.win_rows.specs.Windows.{IsOrdered, number_of}
use Rattle.win_rows.specs.Index.{has}
use Rattle.win_tree.proofs.Ordered.{ordered_filter}
use Rattle.win_rows.proofs.Rising.{RisesBy, rises}

-- the numbers of the windows that stay are the numbers that stay
pub map-filter : (p : ℕ → Bool) (ws : List Window) → filter (λ v. p v.0) (map number_of ws) ≡ map number_of (filter (λ x. p x.number.0) ws)
map-filter p [] = refl
map-filter p (x ∷ ws) = elim (cases_Bool (p x.number.0)) [
  | inl h ↦ rw (h, filter) (ap (λ (vs : List Hwnd). x.number ∷ vs) (map-filter p ws))
  | inr h ↦ rw (h, filter) (map-filter p ws)
]

pub or-true : (a b : Bool) → b ≡ true → (a || b) ≡ true
or-true true b h = refl
or-true false b h = h

pub true-or : (a b : Bool) → a ≡ true → (a || b) ≡ true
true-or true b h = refl
true-or false b h = absurd (cc h)

and-true : (a b : Bool) → b ≡ true → (a && b) ≡ a
and-true true b h = h
and-true false b h = refl

-- a filter that tests also whether the number is among these, where all are
stays : (p : ℕ → Bool) (ks : List Hwnd) (us : List Window) → ((n : ℕ) → list_any (λ v. eqb v.0 n) (map number_of us) ≡ true → list_any (λ v. eqb v.0 n) ks ≡ true) → filter (λ x. p x.number.0 && has ks x) us ≡ filter (λ x. p x.number.0) us
stays p ks [] h = refl
stays p ks (x ∷ us) h =
    let here : has ks x ≡ true = h x.number.0 (true-or _ _ (eq-eqb x.number.0 x.number.0 refl)) in
    let rest = stays p ks us (λ n e. h n (or-true (eqb x.number.0 n) _ e)) in
    elim (cases_Bool (p x.number.0)) [
      | inl h1 ↦ rw (h1, here, filter) (ap (λ (vs : List Window). x ∷ vs) rest)
      | inr h0 ↦ rw (h0, filter) rest
    ]

pub agree : (p q : Window → Bool) → ((x : Window) → p x ≡ q x) → (ws : List Window) → filter p ws ≡ filter q ws
agree p q h [] = refl
agree p q h (x ∷ ws) = elim (cases_Bool (q x)) [
  | inl h1 ↦ rw (h x, h1, filter) (ap (λ (vs : List Window). x ∷ vs) (agree p q h ws))
  | inr h0 ↦ rw (h x, h0, filter) (agree p q h ws)
]

-- the windows whose numbers stay
pub kept : (p : ℕ → Bool) (ws : List Window) → filter (has (filter (λ v. p v.0) (map number_of ws))) ws ≡ filter (λ x. p x.number.0) ws
kept p ws =
    agree (has (filter (λ v. p v.0) (map number_of ws))) (λ x. p x.number.0 && has (map number_of ws) x)
    (λ x. any-filter_same (λ v. eqb v.0 x.number.0) (λ v. p v.0) (p x.number.0) (λ k e. ap p (eqb-true k.0 x.number.0 e)) (map number_of ws)) ws
    ∙ stays p (map number_of ws) ws (λ n e. e)

module _ (p : ℕ → Bool) (ws : List Window) (ks ks' : List Hwnd) (ws' : List Window) (same : ks ≡ map number_of ws) (numbers : ks' ≡ filter (λ v. p v.0) ks) (windows : ws' ≡ filter (λ x. list_any (λ v. eqb v.0 x.number.0) ks') ws) where
  pub kept_windows : ws' ≡ filter (λ x. p x.number.0) ws
  kept_windows = windows ∙ (ap (λ (vs : List Hwnd). filter (has vs) ws) (numbers ∙ ap (λ (vs : List Hwnd). filter (λ v. p v.0) vs) same) ∙ kept p ws)

  pub kept_numbers : ks' ≡ map number_of ws'
  kept_numbers = numbers ∙ (ap (λ (vs : List Hwnd). filter (λ v. p v.0) vs) same ∙ (map-filter p ws ∙ ap (map number_of) (sym kept_windows)))

numbers_rise : (from last : ℕ) (ws : List Window) → IsOrdered from last ws → RisesBy (λ v. v.0) from (map number_of ws)
numbers_rise from last [] h = tt
numbers_rise from last (x ∷ ws) h = (h.0, numbers_rise x.number.0 last ws h.2)

-- the numbers of some of the windows rise
pub some_rise : (p : Window → Bool) (last : ℕ) (ws : List Window) (ks : List Hwnd) → IsOrdered 15 last ws → ks ≡ map number_of (filter p ws) → IsNonDecreasingBy (λ (v : Hwnd). v.0) ks
some_rise p last ws ks h same = subst (λ (vs : List Hwnd). IsNonDecreasingBy (λ (v : Hwnd). v.0) vs) (sym same) (rises (λ (v : Hwnd). v.0) 15 (map number_of (filter p ws)) (numbers_rise 15 last (filter p ws) (ordered_filter p 15 last ws h)))

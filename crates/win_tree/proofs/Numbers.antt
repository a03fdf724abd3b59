-- What changes windows but not their numbers.
use Rattle.std.proofs.Common.{◌≡◌, ◌∙◌, inl, inr, ℕ, List, [], ◌∷◌, map, eqb, refl, ap}
use Rattle.std.proofs.lemmas.Bool.{cases_Bool}
use Rattle.win_num.specs.declared.message.Hwnd.{Hwnd}
use Rattle.win_num.specs.declared.shapes.Rect.{Rect}
use Rattle.win_rows.specs.declared.row.Unmade.{Unmade}
use Rattle.win_rows.specs.declared.row.Unmade.TheVariants.{Tell, Last, Gone, NotDoomed}
use Rattle.win_rows.specs.declared.window.Window.{Window}
use Rattle.win_rows.specs.Windows.{number_of, told_if, ended_if, set_if}
use Rattle.win_rows.specs.Destruction.{given}

-- windows that keep their numbers
pub same_numbers : (f : Window → Window) → ((x : Window) → number_of (f x) ≡ number_of x) → (ws : List Window) → map number_of (map f ws) ≡ map number_of ws
same_numbers f h [] = refl
same_numbers f h (x ∷ ws) = ap (λ (n : Hwnd). n ∷ map number_of (map f ws)) (h x) ∙ ap (λ (ns : List Hwnd). number_of x ∷ ns) (same_numbers f h ws)

pub set_number : (w style ex : ℕ) (place : Rect) (x : Window) → number_of (set_if w style ex place x) ≡ number_of x
set_number w style ex place x = elim (cases_Bool (eqb x.number.0 w)) [ inl h ↦ rw h refl | inr h ↦ rw h refl ]

pub given_numbers : (step : Unmade) (ws : List Window) → map number_of (given step ws) ≡ map number_of ws
given_numbers (Tell w) ws = same_numbers (told_if w.0) (λ x. refl) ws
given_numbers (Last w) ws = same_numbers (ended_if w.0) (λ x. refl) ws
given_numbers Gone ws = refl
given_numbers NotDoomed ws = refl

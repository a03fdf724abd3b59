-- The window of a title, as the past has it.
use Rattle.std.proofs.Common.{◌≡◌, ℕ, Bool, false, cond, eqb, List, [], ◌∷◌, Option, Some, None, refl, ap, ◌∙◌, sym}
use Rattle.std.specs.Prelude.{find, option_map, reverse, unwrap_or}
use Rattle.std.specs.List.{AllByRecursion}
use Rattle.win_num.specs.declared.message.Hwnd.{Hwnd}
use Rattle.win_order.specs.Layers.{Layers}
use Rattle.win_rows.specs.declared.window.Window.{Window as KeptWindow}
use Rattle.win_rows.specs.Windows.{Windows}
use Rattle.win_rows.specs.Windows as kept
use Rattle.user_model.specs.Past.{Past}
use Rattle.user_model.specs.Windows.{Window}
use Rattle.user_model.specs.ZOrder.{has_title, titled}
use Rattle.window_state.specs.Trees.{as_made, IsTreeAt}
use Rattle.window_state.specs.Orders.{IsOrderAt}
use Rattle.window_state.specs.Pixels.{has_title_in, titled_in}
use Rattle.window_state.proofs.TreeFacts.{window_at}

-- what all items have
pub all_of : {X : Type 0} (P : X → Type 0) → ((x : X) → P x) → (xs : List X) → AllByRecursion P xs
all_of P h [] = tt
all_of P h (x ∷ xs) = (h x, all_of P h xs)

-- tests that agree on each item find the same
pub find_agree : {X : Type 0} (f g : X → Bool) (xs : List X) → AllByRecursion (λ x. f x ≡ g x) xs → find f xs ≡ find g xs
find_agree f g [] h = refl
find_agree f g (x ∷ xs) h = ap (λ b. cond b (Some x) (find f xs)) h.0 ∙ ap (λ o. cond (g x) (Some x) o) (find_agree f g xs h.1)

title_made : (title : ℕ) (o : Option KeptWindow) → (elim o as (λ p. Bool) [ None ↦ false | Some x ↦ eqb x.row.title title ]) ≡ unwrap_or (option_map (λ (x : Window). eqb x.title title) (option_map as_made o)) false
title_made title None = refl
title_made title (Some x) = refl

module _ (past : Past) (t : Windows) (z : Layers) (at : IsTreeAt past t) (order : IsOrderAt past z) (title : ℕ) where
  has_title_at : (w : Hwnd) → has_title_in t.live title w ≡ has_title past title w
  has_title_at w = title_made title (kept.window_of t.live w.0) ∙ ap (λ (o : Option Window). unwrap_or (option_map (λ (x : Window). eqb x.title title) o) false) (sym (window_at past t at w.0))

  -- the table tells the highest top-level window of the title
  pub titled_at : titled_in t.live z title ≡ titled past title
  titled_at =
      ap (λ (ws : List Hwnd). find (has_title_in t.live title) (reverse ws)) (order.lists 0)
      ∙ find_agree (has_title_in t.live title) (has_title past title) _ (all_of _ has_title_at _)

-- The screen, its colours and its frames after an entry: an entry that draws was done by the change that may want memory, and what another leaves was taken over.
use Rattle.std.proofs.Common.{◌≡◌, ◌∷◌, ℕ, ℤ, Bool, true, false, Option, None, refl, sym, subst}
use Rattle.std.proofs.lemmas.Bool.{false≢true}
use Rattle.win_rows.specs.Windows.{Windows}
use Rattle.win_class.specs.ClassTable.{ClassTable}
use Rattle.win_order.specs.Layers.{Layers}
use Rattle.user_model.specs.declared.call.Call.{Call}
use Rattle.user_model.specs.declared.call.Call.TheVariants.{Invalidate, Validate, BeginPaint, EndPaint, Fill, Erase, Snap}
use Rattle.user_model.specs.declared.entry.Answer.{Answer}
use Rattle.user_model.specs.declared.entry.Answer.TheVariants as answers
use Rattle.user_model.specs.declared.entry.Entry.{Entry}
use Rattle.user_model.specs.declared.entry.Setup.{Setup}
use Rattle.user_model.specs.Past.{Past}
use Rattle.user_model.specs.Idle.{reply}
use Rattle.user_model.specs.Legal.{IsLawful}
use Rattle.window_state.specs.ClassTables.{classes_at}
use Rattle.window_state.specs.Orders.{IsOrderAt}
use Rattle.window_state.specs.Trees.{IsTreeAt}
use Rattle.screen_state.specs.Screens.{Change, draws}
use Rattle.display_state.specs.Displays.{DrawsDisplay, FitsDisplay, FollowsDisplay, IsDisplayAt, IsShown, Shown}
use Rattle.display_state.proofs.Followed.{none_taken}

-- what is kept of the display follows the past
pub display_step : (setup : Setup) (past : Past) (t : Windows) (z : Layers) (c : ClassTable) (e : Entry) (old drawn new : Shown) (o : Option Change)
    → IsLawful setup past → IsTreeAt past t → IsOrderAt past z → c ≡ classes_at past → e.answer ≡ reply setup past e.who.0 e.call → IsDisplayAt setup past old
    → (draws e.call e.answer ≡ false → FollowsDisplay setup t z o e old) → (draws e.call e.answer ≡ true → o ≡ None)
    → (draws e.call e.answer ≡ true → DrawsDisplay t c e old drawn) → (draws e.call e.answer ≡ false → drawn ≡ old) → IsShown o drawn new
    → IsDisplayAt setup (e ∷ past) new
display_step setup past t z c e old drawn new o lawful tree order classes right at follows none drew same shown = pick (draws e.call e.answer) refl
  where
    pick : (b : Bool) → draws e.call e.answer ≡ b → IsDisplayAt setup (e ∷ past) new
    pick true h = subst (IsDisplayAt setup (e ∷ past)) (sym (none_taken drawn new (subst (λ (q : Option Change). IsShown q drawn new) (none h) shown))) (drew h setup past lawful tree classes right at)
    pick false h = follows h past new (subst (λ (k : Shown). IsShown o k new) (same h) shown) lawful tree order right at

-- what has come fits the display still, once an entry that draws was done
pub fits_drawn : (e : Entry) (old drawn : Shown) (o : Option Change) → (draws e.call e.answer ≡ true → o ≡ None) → (draws e.call e.answer ≡ false → drawn ≡ old) → FitsDisplay o old → FitsDisplay o drawn
fits_drawn e old drawn o none same fits = pick (draws e.call e.answer) refl
  where
    pick : (b : Bool) → draws e.call e.answer ≡ b → FitsDisplay o drawn
    pick true h = subst (λ (q : Option Change). FitsDisplay q drawn) (sym (none h)) tt
    pick false h = subst (FitsDisplay o) (sym (same h)) fits

-- a call that draws is answered by ok, that painting was begun, or the number of a frame
pub no_draws : (call : Call) (a : Answer) → (a ≡ answers.Okay → ⊥) → ((erase : ℕ) (l t r b : ℤ) → a ≡ answers.Painting erase l t r b → ⊥) → ((k : ℕ) → a ≡ answers.Snap k → ⊥) → draws call a ≡ true → ⊥
no_draws (Invalidate w l t r b erase) answers.Okay okay painting snap drawn = okay refl
no_draws (Validate w l t r b) answers.Okay okay painting snap drawn = okay refl
no_draws (EndPaint w) answers.Okay okay painting snap drawn = okay refl
no_draws (Fill w l t r b colour) answers.Okay okay painting snap drawn = okay refl
no_draws (Erase w) answers.Okay okay painting snap drawn = okay refl
no_draws (BeginPaint w) (answers.Painting erase l t r b) okay painting snap drawn = painting erase l t r b refl
no_draws Snap (answers.Snap k) okay painting snap drawn = snap k refl
no_draws _ _ okay painting snap drawn = false≢true drawn

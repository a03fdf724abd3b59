-- Live windows that an entry leaves.
use Rattle.std.proofs.Common.{◌≡◌, ℕ, Bool, true, false, not, eqb, ◌∷◌, Some, refl, ap, ◌∙◌, sym}
use Rattle.std.specs.Prelude.{◌||◌}
use Rattle.std.proofs.lemmas.Bool.{false≢true}
use Rattle.user_model.specs.declared.entry.Entry.{Entry}
use Rattle.user_model.specs.Past.{Past, is_refused}
use Rattle.user_model.specs.Windows.{Window, live, window, find_window, made_by, drops}
use Rattle.user_model.proofs.ListLaws.{find_kept}
use Rattle.user_model.proofs.WindowLaws.{live-next, live-refused}

pub not_true : (b : Bool) → not b ≡ true → b ≡ false
not_true true e = sym e
not_true false e = refl

pub or_neither : (a b : Bool) → (a || b) ≡ false → (a ≡ false) × (b ≡ false)
or_neither true b e = absurd (false≢true (sym e))
or_neither false b e = (refl, e)

-- a live window that an entry doesn't drop stays
pub window-kept : (e : Entry) (past : Past) (w : ℕ) (x : Window) → window past w ≡ Some x → drops e (live past) x ≡ false → window (e ∷ past) w ≡ Some x
window-kept e past w x found kept = step (is_refused e) refl
  where
    step : (b : Bool) → is_refused e ≡ b → window (e ∷ past) w ≡ Some x
    step true h = ap (λ ws. find_window ws w) (live-refused e past h) ∙ found
    step false h = ap (λ ws. find_window ws w) (live-next e past h) ∙ find_kept (λ y. eqb y.number w) (λ y. not (drops e (live past) y)) (live past) (made_by e.who.0 e.answer e.call (live past)) x found (ap not kept)

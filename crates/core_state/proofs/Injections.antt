-- What a call injects, and whom it is meant for.
use Rattle.std.proofs.Common.{◌≡◌, ◌∙◌, ℕ, Some, None, refl, ap, sym}
use Rattle.std.specs.Prelude.{ℤ}
use Rattle.user_model.specs.declared.call.Call.{Call}
use Rattle.user_model.specs.declared.call.Call.TheVariants as calls
use Rattle.user_model.specs.declared.entry.Setup.{Setup}
use Rattle.user_model.specs.Past.{Past}
use Rattle.user_model.specs.Pixels.{point}
use Rattle.user_model.specs.Inputs.{Injection, home_of, injection, key_message, of_key, of_mouse}

same_some : (i j : Injection) → Some i ≡ Some j → i ≡ j
same_some i j e = cc

pub home_of_mouse : (setup : Setup) (past : Past) (home number : ℕ) (x y : ℤ) (call : Call) (i : Injection) → call ≡ calls.Mouse number x y → injection call ≡ Some i → ((message : ℕ) → home ≡ home_of setup past (of_mouse message (point x y))) → home ≡ home_of setup past i
home_of_mouse setup past home number x y call i is h told = told number ∙ ap (home_of setup past) (same_some (of_mouse number (point x y)) i (sym (ap injection is) ∙ h))

pub home_of_key : (setup : Setup) (past : Past) (home down key : ℕ) (call : Call) (i : Injection) → call ≡ calls.Key down key → injection call ≡ Some i → ((message : ℕ) (k : ℕ) → home ≡ home_of setup past (of_key message k)) → home ≡ home_of setup past i
home_of_key setup past home down key call i is h told = told (key_message down) key ∙ ap (home_of setup past) (same_some (of_key (key_message down) key) i (sym (ap injection is) ∙ h))

-- any other call injects nothing
pub injects_none : (call : Call) (i : Injection) → ((number : ℕ) (x y : ℤ) → call ≡ calls.Mouse number x y → ⊥) → ((down key : ℕ) → call ≡ calls.Key down key → ⊥) → injection call ≡ Some i → ⊥
injects_none (calls.Mouse number x y) i no_mouse no_key h = no_mouse number x y refl
injects_none (calls.Key down key) i no_mouse no_key h = no_key down key refl
injects_none _ i no_mouse no_key h = let none : None ≡ Some i = h in absurd cc

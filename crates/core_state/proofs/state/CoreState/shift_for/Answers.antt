use Rattle.std.proofs.Common.{◌≡◌, ℕ, Bool, false, refl, ap}
use Rattle.user_model.specs.declared.call.Call.{Call}
use Rattle.user_model.specs.declared.call.Call.TheVariants.{Translate}
use Rattle.user_model.specs.Deeds.{posting_of}
use Rattle.user_model.specs.Keys.{is_shift_down}
use Rattle.core_state.proofs.state.CoreState.shift_for.Goals as goal

-- Shift decides on no other post
unshifted : (b c : Bool) (call : Call) → ((w number key lparam : ℕ) → call ≡ Translate w number key lparam → ⊥) → posting_of b call ≡ posting_of c call
unshifted b c (Translate w number key lparam) none = absurd (none w number key lparam refl)
unshifted b c _ none = refl

pub returns-in-Translate : goal.returns-in-Translate
returns-in-Translate c = λ runs. ap (λ b. posting_of b c.args.entry.call) (c.is_shift_down.ensures runs)

pub returns-in_default : goal.returns-in_default
returns-in_default c = λ runs. unshifted false (is_shift_down c.args.self.now.past c.args.entry.who.0) c.args.entry.call c.in_default.not-Translate

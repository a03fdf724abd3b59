-- What came after an earlier past, told by the clock and by what was counted then.
use Rattle.std.specs.Prelude.{◌≡◌, ◌⊎◌, ℕ, ◌==◌, nat_lt, Bool, ◌&&◌, [], ◌∷◌}
use Rattle.std.specs.List.{list_any}
use Rattle.user_model.specs.declared.entry.Setup.{Setup}
use Rattle.user_model.specs.Past.{Past}
use Rattle.user_model.specs.Posts.{posted}
use Rattle.user_model.specs.Inputs.{untaken}
use Rattle.user_model.specs.Targets.{taker}
use Rattle.user_model.specs.Timers.{timers_of, due_time, is_due}

-- a past that there was before: after some of the entries, or before all of them
abbrev pub IsTail : Past → Past → Type 0
IsTail look [] = look ≡ []
IsTail look (e ∷ past) = (look ≡ e ∷ past) ⊎ IsTail look past

-- whether a message is posted to t with a number above this
abbrev pub has_post_above : Past → ℕ → ℕ → Bool
has_post_above past t n = list_any (λ x. nat_lt n x.number) (posted past t)

-- whether there is input of a kind that t would take, with a number above this
abbrev pub has_input_above : (ℕ → Bool) → Setup → Past → ℕ → ℕ → Bool
has_input_above is_kind setup past t n = list_any (λ x. nat_lt n x.number && (is_kind x.message && (taker setup past x == t))) (untaken setup past)

-- whether a timer of t is due, and later than this time
abbrev pub has_due_after : Past → ℕ → ℕ → Bool
has_due_after past t time = list_any (λ x. is_due past x && nat_lt time (due_time past x)) (timers_of past t)

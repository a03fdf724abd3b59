-- Ended threads at a past with one entry more.
use Rattle.std.proofs.Common.{◌≡◌, ℕ, eqb, Bool, true, false, cond, ◌∷◌, refl}
use Rattle.std.specs.Prelude.{◌&&◌}
use Rattle.user_model.specs.declared.entry.Answer.{Answer}
use Rattle.user_model.specs.declared.entry.Answer.TheVariants as answers
use Rattle.user_model.specs.declared.entry.Entry.{Entry}
use Rattle.user_model.specs.Past.{Past, is_refusal}
use Rattle.user_model.specs.Places.{has_ended, is_end}

pick : (a : Answer) (own ended : Bool) → (elim (is_refusal a) as (λ b. Bool) [ true ↦ ended | false ↦ elim ended as (λ b. Bool) [ true ↦ true | false ↦ is_end a && own ] ]) ≡ cond (is_end a && own) true ended
pick answers.Ended true true = refl
pick answers.Ended true false = refl
pick answers.Ended false true = refl
pick answers.Ended false false = refl
pick (answers.Refused code) own ended = refl
pick _ own true = refl
pick _ own false = refl

-- a thread has ended where this entry ended it, or it had before
pub has_ended-next : (e : Entry) (past : Past) (t : ℕ) → has_ended (e ∷ past) t ≡ cond (is_end e.answer && eqb e.who.0 t) true (has_ended past t)
has_ended-next e past t = pick e.answer (eqb e.who.0 t) (has_ended past t)

-- The cursor and the number of inputs after an entry.
use Rattle.std.proofs.Common.{◌≡◌, ℕ, true, false, length, ◌∷◌, Option, None, refl, ◌∙◌, sym, arith}
use Rattle.std.specs.Prelude.{unwrap_or}
use Rattle.win_num.specs.declared.code.Code.{Code}
use Rattle.win_num.specs.declared.shapes.Point.{Point}
use Rattle.user_model.specs.declared.call.Call.{Call}
use Rattle.user_model.specs.declared.call.Call.TheVariants as calls
use Rattle.user_model.specs.declared.entry.Answer.{Answer}
use Rattle.user_model.specs.declared.entry.Answer.TheVariants as answers
use Rattle.user_model.specs.declared.entry.Entry.{Entry}
use Rattle.user_model.specs.declared.entry.Setup.{Setup}
use Rattle.user_model.specs.Past.{Past, is_refusal}
use Rattle.user_model.specs.Places.{cursor, moved_to}
use Rattle.user_model.specs.Inputs.{inputs}
use Rattle.user_model.specs.Idle.{reply}
use Rattle.user_model.proofs.ClockLaws.{cursor-next}
use Rattle.user_model.proofs.DeliveryReplies.{injected_told}
use Rattle.user_model.proofs.InputCounts.{inputs-next, inputs_after}
use Rattle.user_model.proofs.ReplyLaws.{by_row}
use Rattle.pending_state.specs.Changes.{FitsCursor, FitsMoving, counted_with, cursor_with, moved_by}

-- ---- the cursor

-- an answer that is no refusal lets the call move it
pub fits_of : (a : Answer) (call : Call) → ((code : Code) → a ≡ answers.Refused code → ⊥) → FitsCursor a call → FitsMoving call
fits_of (answers.Refused code) call none fits = absurd (none code refl)
fits_of _ call none fits = fits

pub moved_of : (a : Answer) (call : Call) (p : Point) → ((code : Code) → a ≡ answers.Refused code → ⊥) → moved_by call p ≡ cursor_with a call p
moved_of (answers.Refused code) call p none = absurd (none code refl)
moved_of _ call p none = refl

by_call : (call : Call) (p : Point) → moved_by call p ≡ unwrap_or (moved_to call) p
by_call (calls.Mouse number x y) p = refl
by_call _ p = refl

by_answer : (a : Answer) (call : Call) (p : Point) → cursor_with a call p ≡ unwrap_or (elim (is_refusal a) as (λ _. Option Point) [ true ↦ None | false ↦ moved_to call ]) p
by_answer (answers.Refused code) call p = refl
by_answer _ call p = by_call call p

-- it follows the past
pub cursor_with-next : (e : Entry) (past : Past) → cursor_with e.answer e.call (cursor past) ≡ cursor (e ∷ past)
cursor_with-next e past = by_answer e.answer e.call (cursor past) ∙ sym (cursor-next e past)

-- ---- the number of inputs

count_step : (setup : Setup) (past : Past) (who : ℕ) (a : Answer) (call : Call) → a ≡ reply setup past who call → counted_with a (length (inputs past)) ≡ inputs_after a (length (inputs past))
count_step setup past who (answers.Input k) call e =
    let p = injected_told setup past who call k (by_row setup past who call (answers.Input k) (sym e) refl).is_row in
    omega (arith, p.is_next)
count_step setup past who _ call e = refl

-- it follows the past too
pub counted_with-next : (setup : Setup) (past : Past) (e : Entry) → e.answer ≡ reply setup past e.who.0 e.call → counted_with e.answer (length (inputs past)) ≡ length (inputs (e ∷ past))
counted_with-next setup past e right = count_step setup past e.who.0 e.answer e.call right ∙ sym (inputs-next e past)

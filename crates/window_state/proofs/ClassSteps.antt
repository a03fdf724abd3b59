-- What an entry does to the table of classes is what it does to the classes.
use Rattle.std.proofs.Common.{◌≡◌, ℕ, suc, Bool, true, false, ◌∷◌, None, refl, ap, ◌∙◌, sym, subst}
use Rattle.std.proofs.lemmas.Bool.{true≢false, false≢true, ltb-false}
use Rattle.win_num.specs.declared.message.Thread.{Thread}
use Rattle.win_class.specs.ClassTable.{ClassTable, unregister_refusal}
use Rattle.user_model.specs.declared.call.Call.{Call}
use Rattle.user_model.specs.declared.call.Call.TheVariants as calls
use Rattle.user_model.specs.declared.entry.Answer.{Answer}
use Rattle.user_model.specs.declared.entry.Answer.TheVariants as answers
use Rattle.user_model.specs.declared.entry.Entry.{Entry}
use Rattle.user_model.specs.declared.entry.Setup.{Setup}
use Rattle.user_model.specs.Past.{Past, is_refused, is_refusal}
use Rattle.user_model.specs.Idle.{reply}
use Rattle.user_model.specs.Machines.{entry_of}
use Rattle.window_state.specs.ClassTables.{classes_at}
use Rattle.window_state.specs.Effects.{added_classes, affected_classes}
use Rattle.window_state.specs.Needs.{FitsNaming}
use Rattle.user_model.specs.Classes.{registered_count}
use Rattle.user_model.specs.ReplyWindows.{number_or_next}
use Rattle.user_model.proofs.WindowReplies.{register_told, unregister_told, register_value, message_value, unregister_okay}
use Rattle.window_state.proofs.ClassLaws.{changes_classes, register_not_refused, unregister_not_refused, message_not_refused, classes_at-rest, classes_at-refused, classes_at-register, classes_at-unregister, classes_at-message}

-- no change by any other call
unchanged : (a : Answer) (call : Call) (t : ClassTable) → changes_classes call ≡ false → affected_classes a call (added_classes a call t) ≡ t
unchanged (answers.Value v) call t h = by_value call h
  where
    by_value : (call : Call) → changes_classes call ≡ false → affected_classes (answers.Value v) call (added_classes (answers.Value v) call t) ≡ t
    by_value (calls.Register name proc_no colour) h = absurd (true≢false h)
    by_value (calls.Message name) h = absurd (true≢false h)
    by_value _ h = refl
unchanged answers.Okay call t h = by_okay call h
  where
    by_okay : (call : Call) → changes_classes call ≡ false → affected_classes answers.Okay call (added_classes answers.Okay call t) ≡ t
    by_okay (calls.Unregister name) h = absurd (true≢false h)
    by_okay _ h = refl
unchanged _ call t h = refl

-- the table after an answer to a call of who
abbrev Follows : Past → Thread → Answer → Call → Type 0
Follows past who a call = classes_at (entry_of who call a ∷ past) ≡ affected_classes a call (added_classes a call (classes_at past))

refused : (past : Past) (who : Thread) (a : Answer) (call : Call) → is_refusal a ≡ true → Follows past who a call
refused past who (answers.Refused code) call h = classes_at-refused past (entry_of who call (answers.Refused code)) refl
refused past who _ call h = absurd (false≢true h)

answered : (setup : Setup) (past : Past) (who : Thread) (a : Answer) (call : Call) → a ≡ reply setup past who.0 call → is_refusal a ≡ false → Follows past who a call
answered setup past who a (calls.Register name proc_no colour) right fine =
    let is = register_value setup past who.0 name proc_no colour a (sym right) fine in
    subst (λ (b : Answer). Follows past who b (calls.Register name proc_no colour)) (sym is) (classes_at-register past who name proc_no colour (suc (registered_count past)))
answered setup past who a (calls.Message name) right fine =
    let is = message_value setup past who.0 name a (sym right) fine in
    subst (λ (b : Answer). Follows past who b (calls.Message name)) (sym is) (classes_at-message past who name (number_or_next past name))
answered setup past who a (calls.Unregister name) right fine =
    let is = unregister_okay setup past who.0 name a (sym right) fine in
    subst (λ (b : Answer). Follows past who b (calls.Unregister name)) (sym is) (classes_at-unregister past who name)
answered setup past who a call right fine = classes_at-rest past (entry_of who call a) refl ∙ sym (unchanged a call (classes_at past) refl)

-- the table that an entry leaves is the table of the past with the entry
pub classes_after : (setup : Setup) (past : Past) (e : Entry) → e.answer ≡ reply setup past e.who.0 e.call → classes_at (e ∷ past) ≡ affected_classes e.answer e.call (added_classes e.answer e.call (classes_at past))
classes_after setup past e right = pick (is_refused e) refl
  where
    pick : (b : Bool) → is_refused e ≡ b → classes_at (e ∷ past) ≡ affected_classes e.answer e.call (added_classes e.answer e.call (classes_at past))
    pick true h = refused past e.who e.answer e.call h
    pick false h = answered setup past e.who e.answer e.call right h

-- what a call that was answered by a value registers can be registered
pub fits_naming : (setup : Setup) (past : Past) (who n : ℕ) (call : Call) → reply setup past who call ≡ answers.Value n → FitsNaming (classes_at past) call
fits_naming setup past who n (calls.Register name proc_no colour) right = (register_not_refused setup past who name proc_no colour n right, ltb-false 15 colour (register_told setup past who name proc_no colour n right).0)
fits_naming setup past who n (calls.Message name) right = message_not_refused setup past who name n right
fits_naming setup past who n _ right = tt

-- a class that is taken back is there
pub fits_unregister : (setup : Setup) (past : Past) (who name : ℕ) → reply setup past who (calls.Unregister name) ≡ answers.Okay → unregister_refusal (classes_at past) name false ≡ None
fits_unregister setup past who name right = ap (λ (u : Bool). unregister_refusal (classes_at past) name u) (sym (unregister_told setup past who name right).1) ∙ unregister_not_refused setup past who name right

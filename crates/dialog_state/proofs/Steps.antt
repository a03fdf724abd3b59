-- The dialogs of a past with one entry more.
use Rattle.std.proofs.Common.{◌≡◌, ℕ, Bool, true, false, List, [], ◌∷◌, Option, Some, None, refl, sym, ap, ◌∙◌}
use Rattle.std.specs.Prelude.{unwrap_or}
use Rattle.std.proofs.lemmas.Bool.{false≢true}
use Rattle.user_model.specs.declared.call.Call.{Call}
use Rattle.user_model.specs.declared.call.Call.TheVariants.{BeginDialog, DialogState, EndDialog}
use Rattle.user_model.specs.declared.dialog.Dialog.{Dialog}
use Rattle.user_model.specs.declared.entry.Answer.{Answer}
use Rattle.user_model.specs.declared.entry.Answer.TheVariants as answers
use Rattle.user_model.specs.declared.entry.Entry.{Entry}
use Rattle.user_model.specs.Past.{Past, is_refusal, last_of}
use Rattle.user_model.specs.Dialogs.{turned, dialog}
use Rattle.dialog_state.specs.Dialogs.{dialog_in, turns, Follows, AreDialogsAt}

-- what is said last, where one entry more says this
said_last : (b : Bool) (o : Option (Option Dialog)) (before : Option (Option Dialog)) → (b ≡ true → o ≡ None) → unwrap_or (elim b as (λ c. Option (Option Dialog)) [ true ↦ before | false ↦ elim o as (λ c. Option (Option Dialog)) [ Some a ↦ Some a | None ↦ before ] ]) None ≡ unwrap_or o (unwrap_or before None)
said_last true o before none = ap (λ x. unwrap_or x (unwrap_or before None)) (sym (none refl))
said_last false (Some a) before none = refl
said_last false None before none = refl

-- a refusal turns nothing
refused_none : (w : ℕ) (a : Answer) (call : Call) → is_refusal a ≡ true → turned w a call ≡ None
refused_none w (answers.Refused code) call h = refl
refused_none w _ call h = absurd (false≢true h)

-- the dialog on a window with one entry more
pub dialog-next : (past : Past) (e : Entry) (w : ℕ) → dialog (e ∷ past) w ≡ unwrap_or (turned w e.answer e.call) (dialog past w)
dialog-next past e w = said_last (is_refusal e.answer) (turned w e.answer e.call) (last_of (λ e before. turned w e.answer e.call) past) (refused_none w e.answer e.call)

-- before the first entry there is none
pub none_at_first : AreDialogsAt [] []
none_at_first w = refl

-- what follows an entry are the dialogs of the past with it
pub followed_stands : (past : Past) (e : Entry) (old new : List (ℕ × Dialog)) → AreDialogsAt past old → Follows e.answer e.call old new → AreDialogsAt (e ∷ past) new
followed_stands past e old new stands follows w = follows w ∙ ap (unwrap_or (turned w e.answer e.call)) (stands w) ∙ sym (dialog-next past e w)

-- an entry that does nothing to a dialog leaves each as it is
pub unturned : (w : ℕ) (a : Answer) (call : Call) → turns a call ≡ false → turned w a call ≡ None
unturned w (answers.Window owner) (BeginDialog v) h = absurd (false≢true (sym h))
unturned w (answers.Window owner) _ h = refl
unturned w answers.Okay (EndDialog v result) h = absurd (false≢true (sym h))
unturned w answers.Okay _ h = refl
unturned w (answers.Finished result) (DialogState v) h = absurd (false≢true (sym h))
unturned w (answers.Finished result) _ h = refl
unturned w _ call h = refl

pub follows_same : (a : Answer) (call : Call) (ds : List (ℕ × Dialog)) → turns a call ≡ false → Follows a call ds ds
follows_same a call ds h w = ap (λ o. unwrap_or o (dialog_in ds w)) (sym (unturned w a call h))

-- No retrieval, no status and no call of drawing is one that takes the place of its entry alone.
use Rattle.std.proofs.Common.{◌≡◌, true, false, refl}
use Rattle.std.proofs.lemmas.Bool.{false≢true}
use Rattle.user_model.specs.declared.call.Call.{Call}
use Rattle.user_model.specs.declared.call.Call.TheVariants as calls
use Rattle.core_state.specs.OnePlace.{takes_one_place}
use Rattle.core_deliver.specs.Groups.{is_drawing, is_retrieval, is_status}

pub no_retrieval : (call : Call) → is_retrieval call ≡ true → takes_one_place call ≡ false
no_retrieval (calls.Peek w min max flags) h = refl
no_retrieval (calls.Get w min max) h = refl
no_retrieval _ h = absurd (false≢true h)

pub no_status : (call : Call) → is_status call ≡ true → takes_one_place call ≡ false
no_status (calls.Status flags) h = refl
no_status _ h = absurd (false≢true h)

pub no_drawing : (call : Call) → is_drawing call ≡ true → takes_one_place call ≡ false
no_drawing (calls.Invalidate w l t r b erase) h = refl
no_drawing (calls.Validate w l t r b) h = refl
no_drawing (calls.UpdateRect w) h = refl
no_drawing (calls.BeginPaint w) h = refl
no_drawing (calls.EndPaint w) h = refl
no_drawing (calls.Fill w l t r b colour) h = refl
no_drawing (calls.Erase w) h = refl
no_drawing calls.Snap h = refl
no_drawing _ h = absurd (false≢true h)

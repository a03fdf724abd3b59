-- A call is made of its parts again.
use Rattle.std.proofs.Common.{◌≡◌, ℕ, Bool, true, List, Some, refl, ap, sym, ◌∙◌}
use Rattle.std.specs.Prelude.{find, map}
use Rattle.std.specs.List.{list_all}
use Rattle.std.specs.Str.{bytes_eq}
use Rattle.user_model.specs.declared.call.Call.{Call}
use Rattle.user_model.specs.declared.call.Call.TheVariants as calls
use Rattle.call_fields.specs.declared.value.Value.{Value}
use Rattle.call_fields.specs.Values.{field_of}
use Rattle.call_fields.proofs.Finding.{found_passes}
use Rattle.call_table.specs.declared.calls.CallName.{CallName}
use Rattle.call_table.specs.declared.calls.CallName.TheVariants as groups
use Rattle.call_table.specs.declared.clock.ClockCall.TheVariants as clock
use Rattle.call_table.specs.declared.delivery.DeliveryCall.TheVariants as delivery
use Rattle.call_table.specs.declared.drawing.DrawingCall.TheVariants as drawing
use Rattle.call_table.specs.declared.input.InputCall.TheVariants as input
use Rattle.call_table.specs.declared.lookups.LookupCall.TheVariants as lookups
use Rattle.call_table.specs.declared.registrations.RegistrationCall.TheVariants as registrations
use Rattle.call_table.specs.declared.replies.ReplyCall.TheVariants as replies
use Rattle.call_table.specs.declared.sends.SendCall.TheVariants as sends
use Rattle.call_table.specs.declared.windows.WindowCall.TheVariants as windows
use Rattle.call_table.specs.Calls.{IsCallOf, all_calls, call_name, call_parts, call_row, call_named, found_split, made_call}

-- no call is left out
pub is_found : (c : Call) → found_split c ≡ Some (record { name = call_name c; values = call_parts c })
is_found calls.Clock = refl
is_found c = refl

-- ---- names and values

pub made_again : (c : Call) → made_call (call_name c) (call_parts c) ≡ c
made_again calls.Clock = refl
made_again c = refl

pub made_name : (name : CallName) (vs : List Value) → call_name (made_call name vs) ≡ name
made_name (groups.Delivery delivery.Get) vs = refl
made_name (groups.Send sends.Send) vs = refl
made_name (groups.Reply replies.Reply) vs = refl
made_name (groups.Registration registrations.Message) vs = refl
made_name (groups.Window windows.Doom) vs = refl
made_name (groups.Lookup lookups.Find) vs = refl
made_name (groups.Input input.SetFocus) vs = refl
made_name (groups.Drawing drawing.Validate) vs = refl
made_name (groups.Clock clock.Clock) vs = refl
made_name name vs = refl

pub parts_fit : (c : Call) → map field_of (call_parts c) ≡ (call_row (call_name c)).fields
parts_fit calls.Clock = refl
parts_fit c = refl

pub made_of : (name : CallName) (vs : List Value) (x : Call) → IsCallOf name vs x → made_call name vs ≡ x
made_of name vs x is = ap (λ (n : CallName). made_call n vs) (sym is.name_is) ∙ ap (made_call (call_name x)) (sym is.parts_are) ∙ made_again x

pub named_again : (n : CallName) → call_named (call_row n).word ≡ Some n
unfolding call_named
named_again (groups.Delivery delivery.Get) = refl
named_again (groups.Send sends.Send) = refl
named_again (groups.Reply replies.Reply) = refl
named_again (groups.Registration registrations.Message) = refl
named_again (groups.Window windows.Doom) = refl
named_again (groups.Lookup lookups.Find) = refl
named_again (groups.Input input.SetFocus) = refl
named_again (groups.Drawing drawing.Validate) = refl
named_again (groups.Clock clock.Clock) = refl
named_again n = refl

named_by_word : (n : CallName) → find (λ m. bytes_eq (call_row m).word (call_row n).word) all_calls ≡ Some n
unfolding call_named
named_by_word n = named_again n

-- a test that the words of all pass
pub each_call_word : (test : List ℕ → Bool) → list_all (λ n. test (call_row n).word) all_calls ≡ true → (n : CallName) → test (call_row n).word ≡ true
each_call_word test passed n = found_passes (λ m. bytes_eq (call_row m).word (call_row n).word) (λ m. test (call_row m).word) all_calls n (named_by_word n) passed

use Rattle.std.proofs.Common.{◌≡◌, ℕ, reverse, ap, subst, sym, ◌∙◌}
use Rattle.user_model.specs.Past.{Past}
use Rattle.core_state.specs.States.{Seen}
use Rattle.core_state.specs.Frames.{IsOnTop}
use Rattle.core_state.proofs.Tops.{top_kept, top_row}
use Rattle.std.specs.Prelude.{option_map}
use Rattle.std.proofs.Common.{Some}
use Rattle.user_model.specs.Sends.{SentMsg, send}
use Rattle.core_state.proofs.Tops.{IsKept}
use Rattle.send_state.specs.Standing.{row_of}
use Rattle.core_state.proofs.state.CoreState.sent.Goals as goal

numbered : (past : Past) (n : ℕ) (k : IsKept past n) (x : SentMsg) → send past n ≡ Some x → x.number ≡ n
numbered past n k x found =
    let both : Some k.of ≡ Some x = sym k.found ∙ found in
    let same : k.of ≡ x = cc in
    ap (λ (y : SentMsg). y.number) (sym same) ∙ k.is_number

pub returns : goal.returns
returns c =
    let s = c.self.inside in
    let past : Past = reverse s.history.items in
    let n = c.args.number.0 in
    let on : IsOnTop past c.args.thread n = subst (λ (v : Seen). IsOnTop v.past c.args.thread n) (sym c.self.view_is) c.requires.on_top in
    let kept = top_kept s.setup past c.args.thread n c.self.invariant.lawful on in
    record {
      row = c.copied.ensures ∙ c.row.ensures ∙ top_row s.setup past s.sends n kept c.self.invariant.sends ∙ ap (λ (v : Seen). option_map row_of (send v.past n)) c.self.view_is;
      number = subst (λ (v : Seen). (x : SentMsg) → send v.past n ≡ Some x → x.number ≡ n) c.self.view_is (numbered past n kept);
    }

use Rattle.std.proofs.Common.{◌≡◌, reverse, ap, sym, ◌∙◌, Some}
use Rattle.user_model.specs.Past.{Past}
use Rattle.user_model.specs.Classes.{proc_of}
use Rattle.user_model.specs.Next.{next_ready}
use Rattle.user_model.specs.Ready.{ready_head, to_enter}
use Rattle.user_model.specs.Sends.{SentMsg}
use Rattle.send_state.specs.Parts.{next_window}
use Rattle.send_state.proofs.Values.{next-stands}
use Rattle.core_state.specs.States.{Seen}
use Rattle.core_state.proofs.Threads.{is_ours, in_book}
use Rattle.core_state.proofs.Running.{first_proc, none_runs}
use Rattle.core_state.proofs.state.CoreState.next_ready.Goals as goal

pub next_window-requires : goal.next_window-requires
next_window-requires c =
    let s = c.self.inside in
    let past : Past = reverse s.history.items in
    in_book s.setup past s.sends c.args.thread c.self.invariant.sends (is_ours c.args.self.now s.setup past c.args.thread c.self.view_is c.requires.some c.requires.known)

pub next_ready-requires : goal.next_ready-requires
next_ready-requires c =
    let s = c.self.inside in
    let past : Past = reverse s.history.items in
    in_book s.setup past s.sends c.args.thread c.self.invariant.sends (is_ours c.args.self.now s.setup past c.args.thread c.self.view_is c.requires.some c.requires.known)

pub returns : goal.returns
returns c =
    let s = c.self.inside in
    let past : Past = reverse s.history.items in
    let t = c.args.thread in
    let ours = is_ours c.args.self.now s.setup past t c.self.view_is c.requires.some c.requires.known in
    let found : next_window s.sends t ≡ Some c.in_ok-window.window = sym c.in_ok-window.ensures in
    let is_proc : (x : SentMsg) → ready_head past t ≡ Some (to_enter x) → c.proc_of.result ≡ proc_of past x.hwnd = λ x is.
    c.proc_of.ensures ∙ ap (proc_of c.args.self.now.past) c.from.ensures ∙ sym (ap (λ (v : Seen). proc_of v.past c.in_ok-window.window.0) c.self.view_is)
    ∙ first_proc s.setup past s.sends t c.in_ok-window.window c.self.invariant.lawful ours c.self.invariant.sends found x is in
    c.next_ready.ensures
    ∙ next-stands s.setup past s.sends t c.proc_of.result c.self.invariant.lawful c.self.invariant.sends ours is_proc
    ∙ ap (λ (v : Seen). next_ready v.past t) c.self.view_is

pub returns-in_err-window : goal.returns-in_err-window
returns-in_err-window c =
    let s = c.self.inside in
    let past : Past = reverse s.history.items in
    let t = c.args.thread in
    let ours = is_ours c.args.self.now s.setup past t c.self.view_is c.requires.some c.requires.known in
    c.from_residual.ensures ∙ sym (none_runs s.setup past s.sends t c.self.invariant.lawful ours c.self.invariant.sends (sym c.in_err-window.ensures))
    ∙ ap (λ (v : Seen). next_ready v.past t) c.self.view_is

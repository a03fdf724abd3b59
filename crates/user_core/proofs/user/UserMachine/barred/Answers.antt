use Rattle.std.proofs.Common.{◌≡◌, ℕ, ap, sym, ◌∙◌}
use Rattle.user_model.specs.Idle.{is_barred}
use Rattle.core_state.specs.States.{Seen}
use Rattle.user_core.proofs.user.UserMachine.barred.Goals as goal

pub returns-in-Clock : goal.returns-in-Clock
returns-in-Clock c =
    let s = c.self.inside.state in
    let zero : c.args.who.0 ≡ 0 = rw c.in-Clock.is at c.actor_of.ensures in
    c.is_clock_barred.ensures
    ∙ ap (λ (n : ℕ). is_barred s.setup s.past n) (sym zero)
    ∙ ap (λ (v : Seen). is_barred v.setup v.past c.args.who.0) c.self.view_is

pub is_barred-requires : goal.is_barred-requires
is_barred-requires c = (rw c.in-Numbered.is at c.actor_of.ensures).1

pub returns-in-Numbered : goal.returns-in-Numbered
returns-in-Numbered c =
    let s = c.self.inside.state in
    let is = rw c.in-Numbered.is at c.actor_of.ensures in
    c.is_barred.ensures
    ∙ ap (λ (n : ℕ). is_barred s.setup s.past n) is.0
    ∙ ap (λ (v : Seen). is_barred v.setup v.past c.args.who.0) c.self.view_is

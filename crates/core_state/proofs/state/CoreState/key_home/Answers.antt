use Rattle.std.proofs.Common.{◌≡◌, ◌≤◌, cond, ap, ◌∙◌, reverse, sym, subst, arith}
use Rattle.user_model.specs.Past.{Past}
use Rattle.user_model.specs.Legal.{IsLawful}
use Rattle.user_model.specs.Places.{has_ended}
use Rattle.user_model.specs.Focus.{foreground}
use Rattle.user_model.specs.Inputs.{if_lives}
use Rattle.core_state.specs.States.{Seen}
use Rattle.core_state.proofs.Homes.{both_zero, foreground_known}
use Rattle.core_state.proofs.state.CoreState.key_home.Goals as goal

pub has_ended-requires-clause-some : goal.has_ended-requires-clause-some
has_ended-requires-clause-some c = omega (arith, c.if-thread-eq0.false)

pub has_ended-requires-clause-known : goal.has_ended-requires-clause-known
has_ended-requires-clause-known c =
    let s = c.self.inside in
    let past : Past = reverse s.history.items in
    let v = c.args.self.now in
    let lawful : IsLawful v.setup v.past = subst (λ (seen : Seen). IsLawful seen.setup seen.past) c.self.view_is c.self.invariant.lawful in
    let at : c.foreground-thread.result ≡ foreground v.past = c.foreground-thread.ensures s.setup past c.self.invariant.groups ∙ ap (λ (seen : Seen). foreground seen.past) c.self.view_is in
    subst (λ n. n ≤ v.setup.threads) (sym at) (foreground_known v.setup v.past lawful)

pub returns-then-thread-eq0-clause-home : goal.returns-then-thread-eq0-clause-home
returns-then-thread-eq0-clause-home c =
    let s = c.self.inside in
    let past : Past = reverse s.history.items in
    let v = c.args.self.now in
    let at : c.foreground-thread.result ≡ foreground v.past = c.foreground-thread.ensures s.setup past c.self.invariant.groups ∙ ap (λ (seen : Seen). foreground seen.past) c.self.view_is in
    λ message key. sym (both_zero (has_ended v.past 0)) ∙ ap (if_lives v.past) (sym c.if-thread-eq0.true ∙ at)

pub returns-then-has_ended-clause-home : goal.returns-then-has_ended-clause-home
returns-then-has_ended-clause-home c =
    let s = c.self.inside in
    let past : Past = reverse s.history.items in
    let v = c.args.self.now in
    let thread = c.foreground-thread.result in
    let at : thread ≡ foreground v.past = c.foreground-thread.ensures s.setup past c.self.invariant.groups ∙ ap (λ (seen : Seen). foreground seen.past) c.self.view_is in
    λ message key. sym (ap (λ b. cond b 0 thread) (sym c.has_ended.ensures ∙ c.if-has_ended.true)) ∙ ap (if_lives v.past) at

pub returns : goal.returns
returns c =
    let s = c.self.inside in
    let past : Past = reverse s.history.items in
    let v = c.args.self.now in
    let thread = c.foreground-thread.result in
    let lawful : IsLawful v.setup v.past = subst (λ (seen : Seen). IsLawful seen.setup seen.past) c.self.view_is c.self.invariant.lawful in
    let at : thread ≡ foreground v.past = c.foreground-thread.ensures s.setup past c.self.invariant.groups ∙ ap (λ (seen : Seen). foreground seen.past) c.self.view_is in
    record {
      home = λ message key. sym (ap (λ b. cond b 0 thread) (sym c.has_ended.ensures ∙ c.if-has_ended.false)) ∙ ap (if_lives v.past) at;
      known = subst (λ n. n ≤ v.setup.threads) (sym at) (foreground_known v.setup v.past lawful);
    }

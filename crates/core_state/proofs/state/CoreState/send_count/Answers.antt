use Rattle.std.proofs.Common.{◌≤◌, ℕ, reverse, length, ap, ◌∙◌, arith}
use Rattle.user_model.specs.declared.entry.SendCount.{SendCount}
use Rattle.user_model.specs.Past.{Past}
use Rattle.user_model.specs.Sends.{sends}
use Rattle.user_model.specs.Counts.{send_count}
use Rattle.send_state.specs.declared.tally.Tally.{Tally}
use Rattle.send_state.specs.Tallies.{tally_at}
use Rattle.core_state.specs.States.{Seen}
use Rattle.core_state.proofs.Unfinished.{known_count, known_few}
use Rattle.core_state.proofs.state.CoreState.send_count.Goals as goal

-- the counts with how many were begun and are unfinished
abbrev count_with : ℕ → Tally → ℕ → SendCount
count_with begun t unfinished = record { begun = begun; entered = t.entered; by_proc = t.by_proc; by_reply = t.by_reply; by_loss = t.by_loss; by_timeout = t.by_timeout; unfinished = unfinished }

pub overflow_cast-result : goal.overflow_cast-result
overflow_cast-result c =
    let s = c.self.inside in
    let past : Past = reverse s.history.items in
    let few = known_few s.setup past s.sends c.self.invariant.lawful c.self.invariant.sends in
    let small : c.unfinished.result ≤ 1024 = omega (arith, few, c.unfinished.ensures) in
    omega (arith, small)

pub returns : goal.returns
returns c =
    let s = c.self.inside in
    let past : Past = reverse s.history.items in
    ap (λ n. count_with n s.tally c.unfinished.result) (c.begun.ensures ∙ c.self.invariant.sends.book.begun)
    ∙ ap (λ (t : Tally). count_with (length (sends past)) t c.unfinished.result) c.self.invariant.tally
    ∙ ap (count_with (length (sends past)) (tally_at past)) (c.unfinished.ensures ∙ known_count s.setup past s.sends c.self.invariant.lawful c.self.invariant.sends)
    ∙ ap (λ (v : Seen). send_count v.past) c.self.view_is

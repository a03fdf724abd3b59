use Rattle.std.proofs.Common.{◌≡◌, sym, ap, ◌∙◌}
use Rattle.win_num.specs.declared.message.Hwnd.{Hwnd}
use Rattle.timer_source.specs.Settings.{without}
use Rattle.timer_state.specs.Changes.{kept_of}
use Rattle.timer_state.proofs.Kept.{killed}
use Rattle.timer_state.proofs.changes.carry_out.Goals as goal

pub returns-in-KillTimer : goal.returns-in-KillTimer
returns-in-KillTimer c =
    let k = c.kill-killed in
    let window : Hwnd = c.window_or_none.result in
    let same : window ≡ record { 0 = c.in-KillTimer.w } = ap (λ n. record { 0 = n }) c.window_or_none.ensures in
    killed window c.in-KillTimer.id c.args.timers.now k.new.self k.result k.ensures.answer k.ensures.ok k.ensures.err
    ∙ ap (λ (h : Hwnd). without h c.in-KillTimer.id c.args.timers.now) same
    ∙ sym (ap (λ call. kept_of c.args.tree.now.live call c.args.timers.now) c.in-KillTimer.is)

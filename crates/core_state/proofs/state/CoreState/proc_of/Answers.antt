use Rattle.std.proofs.Common.{reverse, ap, ◌∙◌}
use Rattle.user_model.specs.Past.{Past}
use Rattle.user_model.specs.Classes.{proc_of}
use Rattle.win_rows.specs.Windows.{window_of}
use Rattle.core_state.specs.States.{Seen}
use Rattle.window_state.proofs.Procs.{no_proc, unfound}
use Rattle.core_state.proofs.state.CoreState.proc_of.Goals as goal

pub returns-in-None : goal.returns-in-None
returns-in-None c =
    let s = c.self.inside in
    let past : Past = reverse s.history.items in
    no_proc past s.tree.live c.args.w c.self.invariant.tree.windows (unfound (window_of s.tree.live c.args.w) c.in-None.ensures.window)
    ∙ ap (λ (v : Seen). proc_of v.past c.args.w) c.self.view_is

use Rattle.std.proofs.Common.{reverse, ap, ◌∙◌}
use Rattle.std.specs.Prelude.{option_map, unwrap_or}
use Rattle.user_model.specs.Past.{Past}
use Rattle.user_model.specs.Classes.{proc_of}
use Rattle.win_class.specs.declared.classes.Class.{Class}
use Rattle.core_state.specs.States.{Seen}
use Rattle.window_state.proofs.Procs.{no_proc, row_proc}
use Rattle.core_state.proofs.state.CoreState.window_proc.Goals as goal

pub returns-in_default : goal.returns-in_default
returns-in_default c =
    let s = c.self.inside in
    let past : Past = reverse s.history.items in
    no_proc past s.tree.live c.args.window.0 c.self.invariant.tree.windows c.in_default.ensures
    ∙ ap (λ (v : Seen). proc_of v.past c.args.window.0) c.self.view_is

pub returns-in-Some-class : goal.returns-in-Some-class
returns-in-Some-class c =
    let s = c.self.inside in
    let past : Past = reverse s.history.items in
    ap (λ o. unwrap_or (option_map (λ (k : Class). k.proc_no) o) 0) c.in-Some-class.ensures
    ∙ row_proc past s.tree.live c.args.window.0 s.classes c.in-Some.row.now c.self.invariant.tree.windows c.self.invariant.classes c.in-Some.ensures
    ∙ ap (λ (v : Seen). proc_of v.past c.args.window.0) c.self.view_is

pub returns-in-None : goal.returns-in-None
returns-in-None c =
    let s = c.self.inside in
    let past : Past = reverse s.history.items in
    ap (λ o. unwrap_or (option_map (λ (k : Class). k.proc_no) o) 0) c.in-None.ensures
    ∙ row_proc past s.tree.live c.args.window.0 s.classes c.in-Some.row.now c.self.invariant.tree.windows c.self.invariant.classes c.in-Some.ensures
    ∙ ap (λ (v : Seen). proc_of v.past c.args.window.0) c.self.view_is

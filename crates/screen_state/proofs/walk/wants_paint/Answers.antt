use Rattle.std.proofs.Common.{eqb, sym, ◌∙◌}
use Rattle.std.proofs.lemmas.Bool.{eq-eqb, ne_eqb}
use Rattle.win_num.specs.Numbers.{passes_range}
use Rattle.win_num.specs.declared.names.TheConstants.{WM_PAINT}
use Rattle.user_model.specs.Windows.{thread_of}
use Rattle.user_model.specs.Filters.{passes_window}
use Rattle.user_model.specs.Dirty.{has_dirty}
use Rattle.screen_state.proofs.Walking.{clean_no, foreign_no, passes_same, thread_same, window_told}
use Rattle.screen_state.proofs.walk.wants_paint.Goals as goal

pub returns-then-not-is_dirty : goal.returns-then-not-is_dirty
returns-then-not-is_dirty c setup past seen =
    let f = c.args.asked.filter in
    clean_no (eqb (thread_of past c.args.w.0) c.args.asked.thread.0) (passes_range f.min f.max WM_PAINT) (passes_window past f.hwnd c.args.w.0) (has_dirty setup past c.args.w.0)
    (sym (c.is_dirty.ensures setup past seen.dirty) ∙ c.if-not-is_dirty.true)

pub returns-then-thread_of-asked : goal.returns-then-thread_of-asked
returns-then-thread_of-asked c setup past seen =
    let f = c.args.asked.filter in
    foreign_no (eqb (thread_of past c.args.w.0) c.args.asked.thread.0) (passes_range f.min f.max WM_PAINT) (passes_window past f.hwnd c.args.w.0) (has_dirty setup past c.args.w.0)
    (ne_eqb (thread_of past c.args.w.0) c.args.asked.thread.0 (λ e. c.if-thread_of-asked.true (c.thread_of.ensures ∙ (thread_same past c.args.tree.now seen.tree c.args.w.0 ∙ e))))

pub returns : goal.returns
returns c setup past seen =
    let f = c.args.asked.filter in
    c.passes_window.ensures ∙ (passes_same past c.args.tree.now seen.tree f.hwnd c.args.w.0
    ∙ window_told (eqb (thread_of past c.args.w.0) c.args.asked.thread.0) (passes_range f.min f.max WM_PAINT) (passes_window past f.hwnd c.args.w.0) (has_dirty setup past c.args.w.0)
    (eq-eqb (thread_of past c.args.w.0) c.args.asked.thread.0 (sym (c.thread_of.ensures ∙ thread_same past c.args.tree.now seen.tree c.args.w.0) ∙ c.if-thread_of-asked.false))
    (c.passes_number.ensures.0 c.if-not-passes_number.false)
    (sym (c.is_dirty.ensures setup past seen.dirty) ∙ c.if-not-is_dirty.false))

use Rattle.std.proofs.Common.{◌≡◌, ◌∙◌, inl, inr, Option, None, Some, is_some, false, option_map, refl, sym, ap, arith}
use Rattle.std.proofs.lemmas.Bool.{cases_Bool}
use Rattle.win_rows.specs.declared.window.Window.{Window}
use Rattle.win_rows.specs.Windows.{Windows, window_of, is_live, number_of}
use Rattle.win_tree.proofs.Ordered.{live_small}
use Rattle.win_rows.proofs.Ones.{number_is}
use Rattle.win_tree.proofs.tree.Tree.find.Goals as goal

none_if : (o : Option Window) → is_some o ≡ false → None ≡ option_map number_of o
none_if None h = refl
none_if (Some x) h = absurd (cc h)

pub returns-then-w-from-clause-window : goal.returns-then-w-from-clause-window
returns-then-w-from-clause-window c =
    let ws = c.self.inside.rows in
    let w = c.args.w in
    let none : None ≡ option_map number_of (window_of ws w) = elim (cases_Bool (is_live ws w)) [
      | inl l ↦ absurd (omega (arith, live_small 15 c.self.inside.last ws w c.self.invariant.1 l))
      | inr n ↦ none_if (window_of ws w) n
    ] in
    none ∙ ap (λ (t : Windows). option_map number_of (window_of t.live w)) c.self.view_is

pub returns-in-Some-clause-same : goal.returns-in-Some-clause-same
returns-in-Some-clause-same c = number_is c.self.inside.rows c.args.w c.in-Some.x.now (sym c.in-Some.ensures)

use Rattle.std.proofs.Common.{◌≡◌, ◌∙◌, ◌<◌, find, Some, sym, ap, arith}
use Rattle.win_num.specs.declared.message.Hwnd.{Hwnd}
use Rattle.win_rows.specs.Tours.{is_past}
use Rattle.win_rows.specs.Windows.{window_of}
use Rattle.win_rows.proofs.Ones.{number_is}
use Rattle.win_rows.proofs.Tours.{next_sibling, next_up, next_gone, found_live}
use Rattle.win_rows.proofs.tour.outward.Goals as goal

pub returns-in-Some-clause-next : goal.returns-in-Some-clause-next
returns-in-Some-clause-next c =
    let ws = c.args.rows.now in
    let v = c.args.visit.now in
    let lower : v.depth < c.args.top = omega (arith, c.requires.within.within, c.if-visit-top.false) in
    next_sibling c.args.link ws c.args.top v c.requires.within c.in-Some.window c.requires.left lower
    (ap (λ (a : Hwnd). find (is_past c.args.link a.0 v.window.number.0) ws) (sym c.above_by-above.ensures) ∙ sym c.in-Some.ensures)

pub returns-in-Some-clause-within : goal.returns-in-Some-clause-within
returns-in-Some-clause-within c = record {
  rising = c.requires.within.rising;
  live = found_live (is_past c.args.link c.above_by-above.result.0 c.args.visit.now.window.number.0) 0 c.args.rows.now c.in-Some.window c.requires.within.rising (sym c.in-Some.ensures);
  deep = c.requires.within.deep;
  within = c.requires.within.within;
}

pub returns-in-Some-find-clause-next : goal.returns-in-Some-find-clause-next
returns-in-Some-find-clause-next c =
    let ws = c.args.rows.now in
    let v = c.args.visit.now in
    let lower : v.depth < c.args.top = omega (arith, c.requires.within.within, c.if-visit-top.false) in
    next_up c.args.link ws c.args.top v c.requires.within c.in-Some-find.x.now c.requires.left lower
    (ap (λ (a : Hwnd). find (is_past c.args.link a.0 v.window.number.0) ws) (sym c.above_by-above.ensures) ∙ sym c.in_default.ensures)
    (ap (λ (a : Hwnd). window_of ws a.0) (sym c.above_by-above.ensures) ∙ sym c.in-Some-find.ensures)

pub returns-in-Some-find-clause-within : goal.returns-in-Some-find-clause-within
returns-in-Some-find-clause-within c =
    let ws = c.args.rows.now in
    let found : window_of ws c.above_by-above.result.0 ≡ Some c.in-Some-find.x.now = sym c.in-Some-find.ensures in
    record {
      rising = c.requires.within.rising;
      live = ap (window_of ws) (number_is ws c.above_by-above.result.0 c.in-Some-find.x.now found) ∙ found;
      deep = omega (arith, c.requires.within.deep);
      within = omega (arith, c.requires.within.within, c.if-visit-top.false);
    }

pub returns-in-None-clause-next : goal.returns-in-None-clause-next
returns-in-None-clause-next c =
    let ws = c.args.rows.now in
    let v = c.args.visit.now in
    let lower : v.depth < c.args.top = omega (arith, c.requires.within.within, c.if-visit-top.false) in
    next_gone c.args.link ws c.args.top v c.requires.within c.requires.left lower
    (ap (λ (a : Hwnd). find (is_past c.args.link a.0 v.window.number.0) ws) (sym c.above_by-above.ensures) ∙ sym c.in_default.ensures)
    (ap (λ (a : Hwnd). window_of ws a.0) (sym c.above_by-above.ensures) ∙ sym c.in-None.ensures)

use Rattle.std.proofs.Common.{◌∙◌, ap, subst, sym, not, eqb}
use Rattle.std.specs.List.{filter}
use Rattle.win_order.specs.Entries.{newest_first}
use Rattle.win_order.specs.Kept.{AllCameNew}
use Rattle.win_order.specs.Standing.{Standing}
use Rattle.win_order.specs.Tops.{AreTopmost}
use Rattle.win_order.proofs.EntryLaws.{newest_without}
use Rattle.win_order.proofs.KeptLaws.{alone, new_without}
use Rattle.win_order.proofs.TopLaws.{one_less, topmost_staying}
use Rattle.win_order.proofs.standings.Standings.remove.Goals as goal

pub invariant_of-self : goal.invariant_of-self
invariant_of-self c =
    let w = c.args.window.0 in
    let es = c.self.inside.windows.entries in
    let older = subst AllCameNew c.self.view_is c.self.invariant.1 in
    let new = ap newest_first c.shift_remove.ensures.entries ∙ (newest_without es w c.self.invariant.0 ∙ ap (filter (λ (s : Standing). not (eqb s.window.0 w))) c.self.view_is) in
    let less = one_less c.self.inside.topmost.keys c.swap_remove.new.self.keys w c.swap_remove.ensures.updates.0 in
    let topmost = topmost_staying (λ v. eqb v w) c.self.inside.topmost.keys c.swap_remove.new.self.keys c.args.self.now (alone w c.args.self.now c.requires.last) less (subst (AreTopmost c.self.inside.topmost.keys) c.self.view_is c.self.invariant.2) in
    (c.shift_remove.ensures.unique, subst AllCameNew (sym new) (new_without w c.args.self.now older c.requires.stands c.requires.last), subst (AreTopmost c.swap_remove.new.self.keys) (sym new) topmost)

pub returns : goal.returns
returns c =
    let w = c.args.window.0 in
    ap newest_first c.shift_remove.ensures.entries ∙ (newest_without c.self.inside.windows.entries w c.self.invariant.0 ∙ ap (filter (λ (s : Standing). not (eqb s.window.0 w))) c.self.view_is)

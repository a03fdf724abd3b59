use Rattle.std.proofs.Common.{◌≡◌, ◌∙◌, ℕ, [], ◌∷◌, ◌++◌, ap, subst}
use Rattle.win_order.specs.declared.standings.Known.{Known}
use Rattle.win_order.specs.Entries.{newest_first, standing}
use Rattle.win_order.specs.Kept.{AllCameNew}
use Rattle.win_order.specs.Tops.{AreTopmost}
use Rattle.win_order.proofs.EntryLaws.{newest_push}
use Rattle.win_order.proofs.TopLaws.{topmost_older}
use Rattle.win_order.proofs.standings.Standings.forget_newest.Goals as goal

pub invariant_of-self : goal.invariant_of-self
invariant_of-self c =
    let es = c.pop.new.self.entries in
    let e : ℕ × Known = (c.in-Some.window, c.in-Some._known) in
    let whole : c.self.inside.windows.entries ≡ es ++ e ∷ [] = c.in-Some.ensures.entries in
    let all : newest_first c.self.inside.windows.entries ≡ standing e ∷ newest_first es = ap newest_first whole ∙ newest_push es e in
    let new : AllCameNew (standing e ∷ newest_first es) = subst AllCameNew all c.self.invariant.1 in
    (c.pop.ensures.unique, new.1, topmost_older c.self.inside.topmost.keys c.swap_remove.new.self.keys (standing e) (newest_first es) new.0 c.swap_remove.ensures.updates.0 (subst (AreTopmost c.self.inside.topmost.keys) all c.self.invariant.2))

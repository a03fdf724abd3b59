use Rattle.std.proofs.lemmas.Grind.{common_steps}
use Rattle.std.proofs.Common.{◌≡◌, ◌<◌, ◌∙◌, length, map, get_or, sym, ap, subst, arith}
use Rattle.std.proofs.lemmas.List.{get_or_default, length-map}
use Rattle.win_num.specs.declared.message.Hwnd.{Hwnd}
use Rattle.win_rows.specs.Windows.{number_of}
use Rattle.screen_owners.specs.Shares.{IsParentless}
use Rattle.screen_owners.proofs.Shared.{not_reached}
use Rattle.screen_owners.proofs.shares.share_of.Goals as goal

pub share_under-requires-clause-below : goal.share_under-requires-clause-below
share_under-requires-clause-below c = c.in-Some.ensures.some.below c.index-shares-i.result c.index-shares-i.is

pub returns-in-None : goal.returns-in-None
returns-in-None c w e =
    let ws = c.args.tree.now.live in
    let none : Hwnd = record { 0 = 0 } in
    let within : c.args.k < length (map number_of ws) = subst (λ m. c.args.k < m) (sym (length-map ws number_of)) c.requires.within in
    let same : get_or c.windows.result.now c.args.k none ≡ w = ap (λ us. get_or us c.args.k none) c.windows.ensures.numbers ∙ (get_or_default (map number_of ws) c.args.k none w within ∙ sym e) in
    not_reached ws c.args.order.now c.args.tree.now.last c.args.part.now c.windows.ensures.ordered c.requires.children c.args.k w c.args.shares.now c.requires.within e c.requires.shares (subst (IsParentless ws c.args.shares.now) same c.in-None.ensures.none)

pub returns-in-Some : goal.returns-in-Some
returns-in-Some c = grind (arith, common_steps)

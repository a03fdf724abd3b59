use Rattle.std.proofs.Common.{◌≡◌, ◌∙◌, true, sym}
use Rattle.win_tree.specs.Kin.{is_alone}
use Rattle.win_tree.proofs.Alone.{alone_doomed}
use Rattle.win_tree.proofs.KinLists.{kin_all, kin_marked}
use Rattle.win_tree.proofs.tree.mark_kin.Goals as goal

pub returns-then-is_alone : goal.returns-then-is_alone
returns-then-is_alone c =
    let alone : is_alone c.args.windows.now c.args.w.0 ≡ true = sym c.is_alone.ensures ∙ c.if-is_alone.true in
    c.mark_one.ensures ∙ alone_doomed c.args.windows.now c.args.w.0 alone

pub mark_these-requires : goal.mark_these-requires
mark_these-requires c = kin_all c.requires.0 c.args.windows.now c.args.w.0 _ c.requires.1 (c.deref.ensures.value ∙ c.in-Some.ensures)

pub returns-in-Some : goal.returns-in-Some
returns-in-Some c = c.mark_these.ensures ∙ kin_marked c.args.windows.now c.args.w.0 _ (c.deref.ensures.value ∙ c.in-Some.ensures)

use Rattle.std.proofs.Common.{◌∙◌, not, eqb, rules, tests}
use Rattle.std.specs.List.{list_any}
use Rattle.std.specs.List.Sorted.{IsNonDecreasingBy}
use Rattle.std.proofs.lemmas.Fn.{filter_same}
use Rattle.std.proofs.iter.Serving.{serving}
use Rattle.win_num.specs.declared.message.Hwnd.{Hwnd}
use Rattle.win_tree.specs.Kin.{is_kin}
use Rattle.win_tree.proofs.KinLists.{kin_all, kin_taken}
use Rattle.win_tree.proofs.kin.take_kin.Goals as goal

pub retain-requires : goal.retain-requires
retain-requires c =
    let sorted : IsNonDecreasingBy (λ (v : Hwnd). v.0) c.in-Some.kin.items = kin_all c.requires.ordered.0 c.args.windows.now c.args.w.0 _ c.requires.ordered.1 c.in-Some.ensures in
    grind (serving, sorted)

pub returns-in-Some : goal.returns-in-Some
returns-in-Some c =
    filter_same _ (λ v. not (list_any (λ (u : Hwnd). eqb u.0 v.0) c.in-Some.kin.items)) _ (λ x b q k. search (rules, tests)) _ _ c.retain.ensures.filtered
    ∙ kin_taken c.args.windows.now c.args.w.0 c.in-Some.kin.items c.args.numbers.now.items c.in-Some.ensures c.requires.numbers

pub returns-in-None : goal.returns-in-None
returns-in-None c = filter_same _ (λ v. not (is_kin c.args.windows.now c.args.w.0 v.0)) _ (λ x b q k. search (rules, tests)) _ _ c.retain-in-None.ensures.filtered

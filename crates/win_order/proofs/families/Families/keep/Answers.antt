use Rattle.std.proofs.Common.{◌∙◌, List, ap, map, not, rules, tests}
use Rattle.std.specs.List.{filter}
use Rattle.win_num.specs.declared.message.Hwnd.{Hwnd}
use Rattle.win_order.specs.Layers.{is_gone, staying_in}
use Rattle.win_order.specs.Listed.{siblings}
use Rattle.win_order.specs.Siblings.{Siblings}
use Rattle.win_order.proofs.ListedLaws.{changed_pairs, keep_listed}
use Rattle.win_order.proofs.families.Families.keep.Goals as goal

pub returns : goal.returns
returns c =
    let rising = c.requires in
    let staying = c.args.staying.now in
    let entries = changed_pairs _ (λ p. not (is_gone staying p)) (filter (λ (v : Hwnd). not (is_gone staying v.0))) _ (λ k v b w g call. search (rules, tests, rising)) _ _ c.retain.ensures.filtered in
    ap (map siblings) entries ∙ (keep_listed staying c.self.inside.lists.entries ∙ ap (λ (fs : List Siblings). map (staying_in staying) (filter (λ f. not (is_gone staying f.parent.0)) fs)) c.self.view_is)

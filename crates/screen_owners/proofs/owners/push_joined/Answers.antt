use Rattle.std.proofs.Common.{◌≡◌, ◌∙◌, [], length, ap, sym, refl}
use Rattle.std.proofs.lemmas.Bool.Decides.{Decides-eqb}
use Rattle.std.proofs.lemmas.List.{nil_from_length}
use Rattle.screen_owners.proofs.JoinedLaws.{joined_none, joined_push}
use Rattle.screen_owners.proofs.owners.push_joined.Goals as goal

pub returns-then-is_empty : goal.returns-then-is_empty
returns-then-is_empty c =
    let rs = c.in_ok-region.region in
    let none : rs ≡ [] = nil_from_length rs (ap length (sym c.rects.ensures.value) ∙ (Decides-eqb (length c.rects.result.now) 0).0 (sym c.is_empty.ensures ∙ c.if-is_empty.true)) in
    joined_none c.args.part.now c.args.old.now c.args.new.now c.args.w rs c.in_ok-region.ensures c.args.entries.now.items c.args.entries.now.items refl none

pub returns : goal.returns
returns c = joined_push c.args.part.now c.args.old.now c.args.new.now c.args.w c.in_ok-region.region c.in_ok-region.ensures c.args.entries.now.items _ c.in_ok-push.ensures.items

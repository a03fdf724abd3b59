use Rattle.std.proofs.Common.{◌≡◌, ◌∙◌, ◌+◌, List, ℕ, Some, slice_get, take, ap, sym, subst, arith}
use Rattle.std.specs.Map.Iter.{deref_pair}
use Rattle.std.specs.Option.{option_map}
use Rattle.std.proofs.lemmas.List.{take_all}
use Rattle.win_order.specs.declared.standings.Known.{Known}
use Rattle.win_order.specs.Entries.{newest_first}
use Rattle.win_order.specs.Tops.{AreTopmost, marked}
use Rattle.win_order.proofs.TopLaws.{topmost_next_one}
use Rattle.win_order.proofs.standings.topmost_among.Goals as goal

pub loop-i-preserved : goal.loop-i-preserved
loop-i-preserved c =
    let es = c.args.windows.now.entries in
    let i = c.loop-i.i in
    let e : ℕ × Known = (c.unwrap.result.0.now, c.unwrap.result.1.now) in
    let found : slice_get es i ≡ Some e = sym c.get_index.ensures.entry ∙ ap (option_map deref_pair) c.unwrap.ensures in
    let marks : c.mark.new.topmost.keys ≡ marked c.loop-i.topmost.keys e.0 e.1 = c.mark.ensures ∙ ap (λ (ks : List ℕ). marked ks e.0 e.1) c.reserve.ensures.keys in
    subst (λ (ks : List ℕ). AreTopmost ks (newest_first (take (i + 1) es))) (sym marks) (topmost_next_one es i e c.loop-i.topmost.keys found c.requires c.loop-i.invariant)

pub returns : goal.returns
returns c = subst (λ (es : List (ℕ × Known)). AreTopmost c.loop-i.topmost.keys (newest_first es)) (take_all c.loop-i.i c.args.windows.now.entries (omega arith)) c.loop-i.invariant

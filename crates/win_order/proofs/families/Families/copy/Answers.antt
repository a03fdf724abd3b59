use Rattle.std.proofs.Common.{◌≡◌, ◌∙◌, ◌++◌, ◌∷◌, [], List, ℕ, Some, None, nat_eq, slice_get, map, ap, sym, arith}
use Rattle.std.specs.Map.{lookup}
use Rattle.std.specs.Map.Iter.{deref_pair}
use Rattle.std.specs.Option.{option_map}
use Rattle.std.proofs.lemmas.List.{take_all}
use Rattle.indexmap.specs.IndexMap.{insert_entry}
use Rattle.indexmap.proofs.CallerLemmas.{insert_entry-new}
use Rattle.win_num.specs.declared.message.Hwnd.{Hwnd}
use Rattle.win_order.specs.Listed.{siblings}
use Rattle.win_order.proofs.ListedLaws.{Entries, copy_new}
use Rattle.win_order.proofs.TopLaws.{one_more}
use Rattle.win_order.proofs.families.Families.copy.Goals as goal

pub loop-i-preserved : goal.loop-i-preserved
loop-i-preserved c =
    let es = c.self.inside.lists.entries in
    let i = c.loop-i.i in
    let k = c.unwrap.result.0.now in
    let ws = c.unwrap.result.1.now in
    let e : ℕ × List Hwnd = (k, ws) in
    let found : slice_get es i ≡ Some e = sym c.get_index.ensures.entry ∙ ap (option_map deref_pair) c.unwrap.ensures in
    let none : lookup (nat_eq k) c.loop-i.lists.entries ≡ None = ap (lookup (nat_eq k)) c.loop-i.invariant.same ∙ copy_new es i e c.self.invariant found in
    record {
      same = c.in_ok-insert.ensures.entries ∙ (ap (λ (v : List Hwnd). insert_entry nat_eq c.loop-i.lists.entries k v) c.in_ok-copy.ensures ∙ (insert_entry-new nat_eq c.loop-i.lists k ws none ∙ (ap (λ (l : Entries). l ++ e ∷ []) c.loop-i.invariant.same ∙ sym (one_more es i e found))));
      unique = c.insert.ensures.unique;
    }

pub returns : goal.returns
returns c = ap (map siblings) (c.loop-i.invariant.same ∙ take_all c.loop-i.i c.self.inside.lists.entries (omega arith)) ∙ c.self.view_is

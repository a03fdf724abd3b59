use Rattle.std.proofs.Common.{◌≡◌, ◌≤◌, ◌<◌, ◌-◌, ◌∙◌, ℕ, List, [], length, get_or, slice_get, option_map, sym, ap, subst, arith}
use Rattle.send_variants.specs.declared.slot.Ends.{Ends}
use Rattle.send_variants.specs.Lists.{Entry, list_of}
use Rattle.send_variants.specs.Tables.{entry_of, listed, lists_in, slot_under, no_ends}
use Rattle.send_variants.proofs.Tables.{ends_at, head_walk, list_at, lists_length}
use Rattle.send_variants.proofs.linked.LinkedLists.head.Goals as goal

pub returns-clause-head : goal.returns-clause-head
returns-clause-head c =
    let s = c.self.inside.slots.items in
    let ends = c.self.inside.ends.items in
    let i : ℕ = c.from-at.result - 1 in
    let i_is : i ≡ c.args.t.0 - 1 = ap (λ n. n - 1) c.from-at.ensures in
    let high : c.args.t.0 ≤ length (lists_in s ends) = subst (λ (b : List (List Entry)). c.args.t.0 ≤ length b) (sym c.self.view_is) c.requires.1 in
    let within : i < length ends = omega (arith, i_is, high, c.requires.0, lists_length s ends) in
    let e : Ends = c.index.result.now in
    let pair : e ≡ get_or ends i no_ends = ends_at ends i e within c.index.ensures in
    let head : slice_get (list_of c.args.self.now c.args.t.0) 0 ≡ option_map entry_of (slot_under s e.first) =
    ap (λ (b : List (List Entry)). slice_get (list_of b c.args.t.0) 0) (sym c.self.view_is)
    ∙ ap (λ n. slice_get (get_or (lists_in s ends) n []) 0) (sym i_is)
    ∙ ap (λ (es : List Entry). slice_get es 0) (list_at s ends i within ∙ ap (listed s) (sym pair))
    ∙ head_walk s 1024 e.first (omega arith) in
    sym (ap (option_map (λ (x : Entry). x.1)) (head ∙ ap (option_map entry_of) (sym c.in_ok-slot.ensures)))

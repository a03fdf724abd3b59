use Rattle.std.proofs.Common.{◌∙◌, nat_eq, ap, subst, sym, not, rules, tests}
use Rattle.std.specs.List.{filter, list_any}
use Rattle.std.proofs.lemmas.Fn.{filter_same}
use Rattle.indexmap.proofs.CallerLemmas.{filter-RetainsPairs}
use Rattle.win_order.specs.Entries.{newest_first}
use Rattle.win_order.specs.Kept.{AllCameNew}
use Rattle.win_order.specs.Layers.{is_gone}
use Rattle.win_order.specs.Standing.{Standing}
use Rattle.win_order.specs.Tops.{AreTopmost}
use Rattle.win_order.proofs.EntryLaws.{newest_filter}
use Rattle.win_order.proofs.StandingLaws.{new_left}
use Rattle.win_order.proofs.TopLaws.{fewer, topmost_staying}
use Rattle.win_order.proofs.standings.Standings.keep.Goals as goal

pub invariant_of-self : goal.invariant_of-self
invariant_of-self c =
    let rising = c.requires.rising in
    let staying = c.args.staying.now in
    let older = subst AllCameNew c.self.view_is c.self.invariant.1 in
    let entries = filter-RetainsPairs _ (λ e. not (is_gone staying e.0)) _ (λ k v b w g call. search (rules, tests, rising)) _ _ c.retain.ensures.filtered in
    let new = ap newest_first entries ∙ (newest_filter (λ (s : Standing). not (is_gone staying s.window.0)) c.self.inside.windows.entries ∙ ap (filter (λ (s : Standing). not (is_gone staying s.window.0))) c.self.view_is) in
    let marks = filter_same _ (λ k. not (is_gone staying k)) _ (λ k b g call. search (rules, tests, rising)) _ _ c.retain-2.ensures.filtered in
    let topmost = topmost_staying (is_gone staying) c.self.inside.topmost.keys c.retain-2.new.self.keys c.args.self.now c.requires.along (λ q. ap (list_any (nat_eq q)) marks ∙ fewer (is_gone staying) c.self.inside.topmost.keys q) (subst (AreTopmost c.self.inside.topmost.keys) c.self.view_is c.self.invariant.2) in
    (c.retain.ensures.unique, subst AllCameNew (sym new) (new_left (is_gone staying) c.args.self.now c.requires.along older), subst (AreTopmost c.retain-2.new.self.keys) (sym new) topmost)

pub returns : goal.returns
returns c =
    let rising = c.requires.rising in
    let staying = c.args.staying.now in
    let entries = filter-RetainsPairs _ (λ e. not (is_gone staying e.0)) _ (λ k v b w g call. search (rules, tests, rising)) _ _ c.retain.ensures.filtered in
    ap newest_first entries ∙ (newest_filter (λ (s : Standing). not (is_gone staying s.window.0)) c.self.inside.windows.entries ∙ ap (filter (λ (s : Standing). not (is_gone staying s.window.0))) c.self.view_is)

use Rattle.std.proofs.Common.{◌≡◌, ◌∙◌, ℕ, List, ◌∷◌, nat_eq, ap, sym, subst, not}
use Rattle.indexmap.proofs.CallerLemmas.{insert_entry-new}
use Rattle.win_order.specs.Entries.{newest_first, standing}
use Rattle.win_order.specs.Kept.{AllCameNew}
use Rattle.win_order.specs.Standing.{Standing}
use Rattle.win_order.specs.Tops.{AreTopmost, marked}
use Rattle.win_order.proofs.EntryLaws.{lookup_new, newest_push}
use Rattle.win_order.proofs.StandingLaws.{among}
use Rattle.win_order.proofs.TopLaws.{topmost_added}
use Rattle.win_order.proofs.standings.Standings.insert.Goals as goal

pub invariant_of-self-2 : goal.invariant_of-self-2
invariant_of-self-2 c =
    let w = c.args.window.0 in
    let m = c.self.inside.windows in
    let none = lookup_new m.entries w c.self.invariant.0 (ap (λ l. not (among w l)) c.self.view_is ∙ c.requires.fresh) in
    let new = ap newest_first (c.in_ok-insert.ensures.entries ∙ insert_entry-new nat_eq m w c.args.known none) ∙ (newest_push m.entries (w, c.args.known) ∙ ap (λ (l : List Standing). standing (w, c.args.known) ∷ l) c.self.view_is) in
    let older = subst AllCameNew c.self.view_is c.self.invariant.1 in
    let before = subst (AreTopmost c.self.inside.topmost.keys) c.self.view_is c.self.invariant.2 in
    let marks : c.mark.new.topmost.keys ≡ marked c.self.inside.topmost.keys w c.args.known = c.mark.ensures ∙ ap (λ (ks : List ℕ). marked ks w c.args.known) c.reserve.ensures.keys in
    (c.insert.ensures.unique, subst AllCameNew (sym new) (c.requires, older), subst (AreTopmost c.mark.new.topmost.keys) (sym new) (subst (λ (ks : List ℕ). AreTopmost ks (standing (w, c.args.known) ∷ c.args.self.now)) (sym marks) (topmost_added c.self.inside.topmost.keys c.args.self.now w c.args.known c.requires older before)))

pub returns-clause-ok : goal.returns-clause-ok
returns-clause-ok c =
    let w = c.args.window.0 in
    let m = c.self.inside.windows in
    let none = lookup_new m.entries w c.self.invariant.0 (ap (λ l. not (among w l)) c.self.view_is ∙ c.requires.fresh) in
    ap newest_first (c.in_ok-insert.ensures.entries ∙ insert_entry-new nat_eq m w c.args.known none) ∙ (newest_push m.entries (w, c.args.known) ∙ ap (λ (l : List Standing). standing (w, c.args.known) ∷ l) c.self.view_is)

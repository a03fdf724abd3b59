use Rattle.std.proofs.Common.{◌≡◌, ℕ, Some, None, ◌∷◌, ◌++◌, [], List, ◌∙◌, refl, sym, ap, subst, rules, tests}
use Rattle.slab.specs.Slab.{Slab, get, Updates}
use Rattle.win_rows.specs.declared.window.Window.{Window}
use Rattle.win_rows.specs.declared.rows.Place.{Place}
use Rattle.win_rows.specs.Windows.{RisesFrom}
use Rattle.win_rows.proofs.Indexed.{pushed_index, pushed_rows}
use Rattle.win_rows.proofs.rows.Rows.push.Goals as goal

pub invariant_of-self-2 : goal.invariant_of-self-2
invariant_of-self-2 c =
    let s = c.self.inside.slab in
    let s1 = c.reserve-2.new.self in
    let s2 = c.insert_reserved-key.new.self in
    let ps = c.self.inside.places.items in
    let key = c.insert_reserved-key.result in
    let x = c.args.window in
    let place : Place = record { number = x.number; key = key } in
    let same : (k : ℕ) → get s1 k ≡ get s k = λ k. ap (λ (t : Slab Window). get t k) c.reserve-2.ensures.rest_kept in
    let vacant : get s key ≡ None = sym (same key) ∙ c.insert_reserved-key.ensures.was_vacant in
    let updates : Updates s s2 key (Some x) = record { changed = c.insert_reserved-key.ensures.updates.changed; others = λ other d. c.insert_reserved-key.ensures.updates.others other d ∙ same other } in
    let put : c.push.new.self.items ≡ ps ++ place ∷ [] = search (rules, tests) in
    pushed_index s s2 ps c.push.new.self.items c.self.invariant x key vacant updates place refl refl put
    (subst (λ (ws : List Window). RisesFrom 0 (ws ++ x ∷ [])) (sym c.self.view_is) c.requires)

pub returns-clause-ok : goal.returns-clause-ok
returns-clause-ok c =
    let s = c.self.inside.slab in
    let s1 = c.reserve-2.new.self in
    let s2 = c.insert_reserved-key.new.self in
    let ps = c.self.inside.places.items in
    let key = c.insert_reserved-key.result in
    let x = c.args.window in
    let place : Place = record { number = x.number; key = key } in
    let same : (k : ℕ) → get s1 k ≡ get s k = λ k. ap (λ (t : Slab Window). get t k) c.reserve-2.ensures.rest_kept in
    let vacant : get s key ≡ None = sym (same key) ∙ c.insert_reserved-key.ensures.was_vacant in
    let updates : Updates s s2 key (Some x) = record { changed = c.insert_reserved-key.ensures.updates.changed; others = λ other d. c.insert_reserved-key.ensures.updates.others other d ∙ same other } in
    let put : c.push.new.self.items ≡ ps ++ place ∷ [] = search (rules, tests) in
    pushed_rows s s2 ps c.push.new.self.items c.self.invariant x key vacant updates place refl refl put
    ∙ ap (λ (ws : List Window). ws ++ x ∷ []) c.self.view_is

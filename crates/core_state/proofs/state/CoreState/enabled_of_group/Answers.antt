use Rattle.std.proofs.Common.{rules, arith, ◌≡◌, ◌≤◌, ℤ, w32, w64, to_z, of_z, cond, ap, ◌∙◌, reverse, sym, subst}
use Rattle.std.proofs.lemmas.Int.{ints}
use mir.Val.{SFits}
use Rattle.win_num.specs.declared.message.Hwnd.{Hwnd}
use Rattle.win_num.specs.declared.shapes.Point.{Point}
use Rattle.user_model.specs.Past.{Past}
use Rattle.user_model.specs.Focus.{if_of_group}
use Rattle.user_model.specs.Pixels.{owner, point}
use Rattle.user_model.specs.Targets.{enabled_at}
use Rattle.core_state.specs.Inputs.{IsNoneOrLive}
use Rattle.core_state.specs.States.{Seen}
use Rattle.core_state.proofs.Homes.{owner_held}
use Rattle.core_state.proofs.state.CoreState.enabled_of_group.Goals as goal

pub is_of_group-requires : goal.is_of_group-requires
is_of_group-requires c = (c.requires.some, subst (λ n. c.args.thread ≤ n) (sym c.self.invariant.groups.threads) (subst (λ (v : Seen). c.args.thread ≤ v.setup.threads) (sym c.self.view_is) c.requires.known))

same_pixel : (x y : ℤ) (p : Point) → SFits w32 p.x → SFits w32 p.y → x ≡ to_z w32 (of_z w32 p.x) → y ≡ to_z w32 (of_z w32 p.y) → point (to_z w64 (of_z w64 x)) (to_z w64 (of_z w64 y)) ≡ p
same_pixel x y p fits_x fits_y ex ey =
    let is_x : to_z w64 (of_z w64 x) ≡ p.x = omega (arith, ints, fits_x, ex) in
    let is_y : to_z w64 (of_z w64 y) ≡ p.y = omega (arith, ints, fits_y, ey) in
    ap (λ z. point z (to_z w64 (of_z w64 y))) is_x ∙ ap (point p.x) is_y

pub returns-then-is_of_group : goal.returns-then-is_of_group
returns-then-is_of_group c =
    let s = c.self.inside in
    let past : Past = reverse s.history.items in
    let w = c.enabled_at-window.result in
    let x : SFits w32 c.args.pixel.x = search rules in
    let y : SFits w32 c.args.pixel.y = search rules in
    let owned : c.owner_at-owner.result ≡ owner s.setup past c.args.pixel =
    c.owner_at-owner.ensures
    ∙ ap (owner c.args.self.now.setup c.args.self.now.past) (same_pixel c.from.result c.from-2.result c.args.pixel x y c.from.ensures c.from-2.ensures)
    ∙ sym (ap (λ (v : Seen). owner v.setup v.past c.args.pixel) c.self.view_is) in
    let held : IsNoneOrLive past c.owner_at-owner.result.0 = subst (λ (h : Hwnd). IsNoneOrLive past h.0) (sym owned) (owner_held s.setup past c.args.pixel c.self.invariant.lawful) in
    let window : w.0 ≡ enabled_at past c.owner_at-owner.result.0 = c.enabled_at-window.ensures s.setup past c.self.invariant.lawful c.self.invariant.tree held in
    let of_group = sym (c.is_of_group.ensures s.setup past c.self.invariant.lawful c.self.invariant.tree c.self.invariant.groups) ∙ c.if-is_of_group.true in
    sym (ap (λ b. cond b w.0 0) of_group)
    ∙ ap (if_of_group past c.args.thread) (window ∙ ap (λ (h : Hwnd). enabled_at past h.0) owned)
    ∙ ap (λ (v : Seen). if_of_group v.past c.args.thread (enabled_at v.past (owner v.setup v.past c.args.pixel).0)) c.self.view_is

pub returns-else-is_of_group : goal.returns-else-is_of_group
returns-else-is_of_group c =
    let s = c.self.inside in
    let past : Past = reverse s.history.items in
    let w = c.enabled_at-window.result in
    let x : SFits w32 c.args.pixel.x = search rules in
    let y : SFits w32 c.args.pixel.y = search rules in
    let owned : c.owner_at-owner.result ≡ owner s.setup past c.args.pixel =
    c.owner_at-owner.ensures
    ∙ ap (owner c.args.self.now.setup c.args.self.now.past) (same_pixel c.from.result c.from-2.result c.args.pixel x y c.from.ensures c.from-2.ensures)
    ∙ sym (ap (λ (v : Seen). owner v.setup v.past c.args.pixel) c.self.view_is) in
    let held : IsNoneOrLive past c.owner_at-owner.result.0 = subst (λ (h : Hwnd). IsNoneOrLive past h.0) (sym owned) (owner_held s.setup past c.args.pixel c.self.invariant.lawful) in
    let window : w.0 ≡ enabled_at past c.owner_at-owner.result.0 = c.enabled_at-window.ensures s.setup past c.self.invariant.lawful c.self.invariant.tree held in
    let lost = sym (c.is_of_group.ensures s.setup past c.self.invariant.lawful c.self.invariant.tree c.self.invariant.groups) ∙ c.if-is_of_group.false in
    sym (ap (λ b. cond b w.0 0) lost)
    ∙ ap (if_of_group past c.args.thread) (window ∙ ap (λ (h : Hwnd). enabled_at past h.0) owned)
    ∙ ap (λ (v : Seen). if_of_group v.past c.args.thread (enabled_at v.past (owner v.setup v.past c.args.pixel).0)) c.self.view_is

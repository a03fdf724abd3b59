use Rattle.std.proofs.Common.{◌≡◌, List, not, ap, sym, ◌∙◌}
use Rattle.std.specs.Prelude.{◌&&◌, ◌||◌}
use Rattle.std.proofs.lemmas.Result.{IfOk-weaker}
use Rattle.win_num.specs.declared.shapes.Point.{Point}
use Rattle.win_num.specs.declared.shapes.Rect.{Rect}
use Rattle.band_region.specs.Regions.{region_has}
use Rattle.screen_owners.specs.Owners.{region_in}
use Rattle.dirty_windows.specs.Changes.{exposes}
use Rattle.dirty_windows.proofs.Exposing.{exposed_is, none_for_other, none_owned, owned_is}
use Rattle.dirty_windows.proofs.change.exposed_part.Goals as goal

pub returns-in-Some : goal.returns-in-Some
returns-in-Some c = IfOk-weaker c.newly_owned.result
    (λ x. (p : Point) → region_has x p ≡ ((region_has c.in-Some.owned.now p && (c.has_number-moves.result || not (region_has (region_in c.args.old.now c.args.w.0) p))) && not (c.has_number-moves.result && region_has c.args.carried.now p)))
    (λ x. (p : Point) → region_has x p ≡ exposes c.args.old.now c.args.new.now c.args.moved.now c.args.carried.now c.args.w.0 p)
    (λ x h. exposed_is c.args.old.now c.args.new.now c.args.moved.now c.args.carried.now c.args.w.0 c.has_number-moves.result c.in-Some.owned.now x c.requires.window c.has_number-moves.ensures (owned_is c.args.new.now c.args.w.0 _ c.in-Some.ensures) h)
    c.newly_owned.ensures

pub returns-in-None : goal.returns-in-None
returns-in-None c p = ap (λ (r : List Rect). region_has r p) c.empty.ensures ∙ sym (none_for_other c.args.old.now c.args.new.now c.args.moved.now c.args.carried.now c.args.w.0 p (ap (λ (r : List Rect). region_has r p) (sym (none_owned c.args.new.now c.args.w.0 c.in-None.ensures))))

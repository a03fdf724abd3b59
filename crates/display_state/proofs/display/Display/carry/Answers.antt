use Rattle.std.proofs.Common.{ap, rules, w32, FitsSigned}
use Rattle.std.proofs.lemmas.Int.{to_z-of_z}
use Rattle.std.specs.Prelude.{map}
use Rattle.display_state.specs.Displays.{Shown}
use Rattle.display_state.proofs.Followed.{carrying}
use Rattle.display_state.proofs.display.Display.carry.Goals as goal

pub returns : goal.returns
returns c =
    let dx : FitsSigned w32 c.shift-shift.result.dx = search rules in
    let dy : FitsSigned w32 c.shift-shift.result.dy = search rules in
    let new : Shown = record { screen = c.self.inside.screen; colours = c.carry.new.self; frames = map (λ f. f.items) c.self.inside.frames.items } in
    carrying c.args.change.now c.args.self.now new c.self.inside.colours c.carried.result.now c.shift-shift.result.dx c.shift-shift.result.dy
    (ap (λ (v : Shown). v.colours) c.self.view_is) c.carried.ensures c.shift-shift.ensures.across c.shift-shift.ensures.down (simp to_z-of_z at c.carry.ensures)
    (ap (λ (v : Shown). v.screen) c.self.view_is) (ap (λ (v : Shown). v.frames) c.self.view_is)

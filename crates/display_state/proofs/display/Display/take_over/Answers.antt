use Rattle.std.proofs.Common.{◌∙◌, Some, ap, subst, sym}
use Rattle.std.specs.Prelude.{map}
use Rattle.screen_state.specs.Screens.{replaced}
use Rattle.display_state.specs.Displays.{IsShown, Shown}
use Rattle.display_state.proofs.Followed.{come_shown}
use Rattle.display_state.proofs.display.Display.take_over.Goals as goal

pub returns-in-Some : goal.returns-in-Some
returns-in-Some c =
    let mid : Shown = record { screen = c.take_over.new.self; colours = c.self.inside.colours; frames = map (λ f. f.items) c.self.inside.frames.items } in
    subst (λ o. IsShown o c.args.self.now c.bare.new.self) (sym c.in-Some.is)
    (come_shown c.in-Some.change c.args.self.now c.carry.new.self mid c.bare.new.self c.carry.ensures
    (c.take_over.ensures ∙ ap (λ (v : Shown). replaced (Some c.in-Some.change) v.screen) c.self.view_is)
    (ap (λ (v : Shown). v.colours) c.self.view_is) (ap (λ (v : Shown). v.frames) c.self.view_is) c.bare.ensures)

use Rattle.std.proofs.Common.{ap, ◌∙◌}
use Rattle.std.specs.Prelude.{option_map, unwrap_or}
use Rattle.win_class.specs.declared.classes.Class.{Class}
use Rattle.display_state.proofs.ClassColours.{no_colour, row_colour}
use Rattle.display_state.proofs.erasing.class_colour.Goals as goal

pub returns-in_default : goal.returns-in_default
returns-in_default c past tree same = no_colour past c.args.tree.now.live c.args.w.0 tree.windows c.in_default.ensures

pub returns-in-Some-class : goal.returns-in-Some-class
returns-in-Some-class c past tree same =
    ap (λ o. unwrap_or (option_map (λ (k : Class). k.colour) o) 0) c.in-Some-class.ensures
    ∙ row_colour past c.args.tree.now.live c.args.w.0 c.args.classes.now c.in-Some.row.now tree.windows same c.in-Some.ensures

pub returns-in-None : goal.returns-in-None
returns-in-None c past tree same =
    ap (λ o. unwrap_or (option_map (λ (k : Class). k.colour) o) 0) c.in-None.ensures
    ∙ row_colour past c.args.tree.now.live c.args.w.0 c.args.classes.now c.in-Some.row.now tree.windows same c.in-Some.ensures

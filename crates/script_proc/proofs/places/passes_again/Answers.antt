use Rattle.std.proofs.Common.{◌≤◌, ◌+◌, ◌^◌, ◌-◌, min, [], ◌∷◌, length, Some, refl, sym, ap, ◌∙◌, arith, append-nil}
use Rattle.std.specs.Prelude.{slice_get, if◌then◌else◌}
use Rattle.std.proofs.lemmas.Option.{slice_get_read, slice_get_past}
use Rattle.script_tree.specs.Values.{holds}
use Rattle.script_tree.specs.Pieces.{Going}
use Rattle.script_proc.specs.declared.item.Item.TheVariants.{At, PassEnd}
use Rattle.script_proc.proofs.ItemLaws.{once_moves, no_loop_moves, same_line, in_going, pass_on}
use Rattle.script_proc.proofs.places.passes_again.Goals as goal

pub returns-in_default : goal.returns-in_default
returns-in_default c below began mode call e other going =
    let p = c.args.program.now in
    let n = c.args.used in
    let v = c.args.variables.now in
    let at = c.args.at in
    let found = ap (λ xs. slice_get xs c.args.at) (sym c.lines.ensures) ∙ slice_get_past _ _ c.in_default.ensures.lookup.3 in
    record {
      below = below;
      item = PassEnd at began;
      few = [];
      last = e;
      put = c.drop_last.ensures.items below (PassEnd at began) e ∙ sym (append-nil below);
      moves = in_going p n (PassEnd at began) [] (Going v) v mode going (pass_on p n at began v [] other (no_loop_moves p n at v (λ t k g. absurd (let f = sym found ∙ g in cc))));
    }

pub returns-in-While : goal.returns-in-While
returns-in-While c below began mode call e other going =
    let p = c.args.program.now in
    let n = c.args.used in
    let v = c.args.variables.now in
    let at = c.args.at in
    let a = c.in-Some.ensures.lookup in
    let found = ap (λ xs. slice_get xs c.args.at) (sym c.lines.ensures) ∙ slice_get_read c.lines.result.now _ c.args.at c.in-Some.line.now refl a.3.0 a.1 ∙ ap Some c.in-While.is in
    let short : length c.args.program.now.lines.items ≤ 2 ^ 64 - 1 = omega (arith, c.args.program.now.lines.ok) in
    let next = min (at + 1 + c.in-While.passed) (2 ^ 64 - 1) in
    let few = if holds c.in-While.test.now v then PassEnd at n ∷ At (at + 1) ∷ [] else At next ∷ [] in
    record {
      below = below;
      item = PassEnd at began;
      few = few;
      last = e;
      put = c.again_at.ensures below began e;
      moves = pass_on p n at began v few other (once_moves p n at c.in-While.test c.in-While.passed (2 ^ 64 - 1) next v found short refl);
    }

pub returns-in_default-line : goal.returns-in_default-line
returns-in_default-line c below began mode call e other going =
    let p = c.args.program.now in
    let n = c.args.used in
    let v = c.args.variables.now in
    let at = c.args.at in
    let a = c.in-Some.ensures.lookup in
    let found = ap (λ xs. slice_get xs c.args.at) (sym c.lines.ensures) ∙ slice_get_read c.lines.result.now _ c.args.at c.in-Some.line.now refl a.3.0 a.1 in
    record {
      below = below;
      item = PassEnd at began;
      few = [];
      last = e;
      put = c.drop_last-in_default-line.ensures.items below (PassEnd at began) e ∙ sym (append-nil below);
      moves = in_going p n (PassEnd at began) [] (Going v) v mode going (pass_on p n at began v [] other (no_loop_moves p n at v (λ t k g. c.in_default-line.not-While t k (same_line (sym found ∙ g)))));
    }

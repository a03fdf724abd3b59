use Rattle.std.proofs.Common.{◌≡◌, ◌≤◌, ◌+◌, ◌^◌, ◌-◌, min, [], ◌∷◌, length, Some, refl, sym, ap, subst, ◌∙◌, arith, append-nil}
use Rattle.std.specs.Prelude.{slice_get, if◌then◌else◌}
use Rattle.std.proofs.lemmas.Option.{slice_get_read, slice_get_past}
use Rattle.script_tree.specs.Pieces.{Going, Becomes}
use Rattle.script_tree.specs.Steps.{statement}
use Rattle.script_tree.specs.Values.{holds}
use Rattle.script_proc.specs.declared.item.Item.TheVariants.{At, PassEnd}
use Rattle.script_proc.specs.declared.program.Line.TheVariants.{Return}
use Rattle.script_proc.specs.Items.{state_of}
use Rattle.script_proc.specs.Programs.{IsSlow}
use Rattle.script_proc.proofs.StandLaws.{slow_compound}
use Rattle.script_proc.proofs.ItemLaws.{past_moves, while_moves, simple_moves, in_going}
use Rattle.script_proc.proofs.places.slow_line.Goals as goal

pub returns-in_default : goal.returns-in_default
returns-in_default c call =
    let below = c.args.items.now.items in
    let p = c.args.program.now in
    let n = c.args.used in
    let v = c.args.variables.now in
    let at = c.args.at in
    let found = ap (λ xs. slice_get xs c.args.at) (sym c.lines.ensures) ∙ slice_get_past _ _ c.in_default.ensures.lookup.3 in
    record {
      below = below;
      item = At at;
      few = [];
      last = refl;
      put = sym (append-nil below);
      moves = in_going p n (At at) [] (Going v) v c.hand_nothing.new.mode c.hand_nothing.ensures (past_moves p n at v found);
    }

pub returns-in-While : goal.returns-in-While
returns-in-While c call =
    let below = c.args.items.now.items in
    let p = c.args.program.now in
    let n = c.args.used in
    let v = c.args.variables.now in
    let at = c.args.at in
    let a = c.in-Some.ensures.lookup in
    let found = ap (λ xs. slice_get xs c.args.at) (sym c.lines.ensures) ∙ slice_get_read c.lines.result.now _ c.args.at c.in-Some.line.now refl a.3.0 a.1 ∙ ap Some c.in-While.is in
    let short : length c.args.program.now.lines.items ≤ 2 ^ 64 - 1 = omega (arith, c.args.program.now.lines.ok) in
    let next = min (at + 1 + c.in-While.passed) (2 ^ 64 - 1) in
    let few = if holds c.in-While.test.now v then PassEnd at n ∷ At (at + 1) ∷ [] else At next ∷ [] in
    record {
      below = below;
      item = At at;
      few = few;
      last = refl;
      put = c.while_at.ensures;
      moves = while_moves p n at c.in-While.test c.in-While.passed (2 ^ 64 - 1) next v found short refl;
    }

pub returns-in-Return : goal.returns-in-Return
returns-in-Return c call =
    let below = c.args.items.now.items in
    let p = c.args.program.now in
    let n = c.args.used in
    let v = c.args.variables.now in
    let at = c.args.at in
    let a = c.in-Some.ensures.lookup in
    let found = ap (λ xs. slice_get xs c.args.at) (sym c.lines.ensures) ∙ slice_get_read c.lines.result.now _ c.args.at c.in-Some.line.now refl a.3.0 a.1 ∙ ap Some c.in-Return.is in
    record {
      below = below;
      item = At at;
      few = At (at + 1) ∷ [];
      last = refl;
      put = c.returns.ensures.items;
      moves = simple_moves p n at (Return c.in-Return.operand) [] (At (at + 1) ∷ []) v (state_of v c.returns.new.mode) found tt tt refl (λ line' k says. ap (λ m. Becomes [] (state_of v m)) c.returns.ensures.mode ∙ ap (λ l. statement l v k) (sym says));
    }

pub returns-in_default-line : goal.returns-in_default-line
returns-in_default-line c call =
    let below = c.args.items.now.items in
    let p = c.args.program.now in
    let n = c.args.used in
    let v = c.args.variables.now in
    let at = c.args.at in
    let a = c.in-Some.ensures.lookup in
    let found = ap (λ xs. slice_get xs c.args.at) (sym c.lines.ensures) ∙ slice_get_read c.lines.result.now _ c.args.at c.in-Some.line.now refl a.3.0 a.1 in
    let line = c.in-Some.line.now in
    let kind = c.in_default-line in
    let of = c.requires.slow in
    let same : Some of.0 ≡ Some line = sym of.1 ∙ found in
    let slow : IsSlow line = let e : of.0 ≡ line = cc in subst IsSlow e of.2 in
    let both = slow_compound line slow kind.not-While kind.not-Return in
    let puts = c.begins.ensures in
    record {
      below = below;
      item = At at;
      few = At (at + 1) ∷ puts.0;
      last = refl;
      put = puts.1;
      moves = in_going p n (At at) (At (at + 1) ∷ puts.0) (Going v) v c.hand_nothing.new.mode c.hand_nothing.ensures (simple_moves p n at line puts.0 (At (at + 1) ∷ puts.0) v (Going v) found both.0 puts.2 refl (λ line' k. puts.3 line' k both.1));
    }

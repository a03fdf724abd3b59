use Rattle.std.proofs.Common.{◌≤◌, ◌+◌, ◌^◌, ◌-◌, [], ◌∷◌, length, Some, refl, sym, ap, ◌∙◌, arith, append-nil}
use Rattle.std.specs.Prelude.{slice_get}
use Rattle.std.proofs.lemmas.Option.{slice_get_read, slice_get_past}
use Rattle.script_tree.specs.Pieces.{Going}
use Rattle.script_tree.specs.Steps.{statement}
use Rattle.script_proc.specs.declared.item.Item.TheVariants.{At, Settle, Making}
use Rattle.script_proc.specs.declared.program.Line.TheVariants.{Let, Compute, Call}
use Rattle.script_proc.proofs.ItemLaws.{past_moves, then_moves, otherwise_moves, else_moves, end_moves, simple_moves, in_going}
use Rattle.script_proc.proofs.places.quick_line.Goals as goal

pub returns-in_default-clause-quick : goal.returns-in_default-clause-quick
returns-in_default-clause-quick c below n =
    let p = c.args.program.now in
    let v = c.args.variables.now in
    let at = c.args.at in
    let found = ap (λ xs. slice_get xs c.args.at) (sym c.lines.ensures) ∙ slice_get_past _ _ c.in_default.ensures.lookup.3 in
    record {
      below = below;
      item = At at;
      few = [];
      last = refl;
      put = sym (append-nil below);
      moves = in_going p n (At at) [] (Going v) v c.hand_nothing.new.mode c.hand_nothing.ensures (past_moves p n at v found);
    }

pub returns-then-holds-clause-quick : goal.returns-then-holds-clause-quick
returns-then-holds-clause-quick c below n =
    let p = c.args.program.now in
    let v = c.args.variables.now in
    let at = c.args.at in
    let a = c.in-Some.ensures.lookup in
    let found = ap (λ xs. slice_get xs c.args.at) (sym c.lines.ensures) ∙ slice_get_read c.lines.result.now _ c.args.at c.in-Some.line.now refl a.3.0 a.1 ∙ ap Some c.in-If.is in
    record {
      below = below;
      item = At at;
      few = At (at + 1) ∷ [];
      last = refl;
      put = refl;
      moves = then_moves p n at c.in-If.test c.in-If.passed v found (sym c.holds.ensures ∙ c.if-holds.true);
    }

pub returns-else-holds-clause-quick : goal.returns-else-holds-clause-quick
returns-else-holds-clause-quick c below n =
    let p = c.args.program.now in
    let v = c.args.variables.now in
    let at = c.args.at in
    let a = c.in-Some.ensures.lookup in
    let found = ap (λ xs. slice_get xs c.args.at) (sym c.lines.ensures) ∙ slice_get_read c.lines.result.now _ c.args.at c.in-Some.line.now refl a.3.0 a.1 ∙ ap Some c.in-If.is in
    let short : length c.args.program.now.lines.items ≤ 2 ^ 64 - 1 = omega (arith, c.args.program.now.lines.ok) in
    record {
      below = below;
      item = At at;
      few = At c.behind.result ∷ [];
      last = refl;
      put = refl;
      moves = otherwise_moves p n at c.in-If.test c.in-If.passed (2 ^ 64 - 1) c.behind.result v found (sym c.holds.ensures ∙ c.if-holds.false) short c.behind.ensures;
    }

pub returns-in-Else-clause-quick : goal.returns-in-Else-clause-quick
returns-in-Else-clause-quick c below n =
    let p = c.args.program.now in
    let v = c.args.variables.now in
    let at = c.args.at in
    let a = c.in-Some.ensures.lookup in
    let found = ap (λ xs. slice_get xs c.args.at) (sym c.lines.ensures) ∙ slice_get_read c.lines.result.now _ c.args.at c.in-Some.line.now refl a.3.0 a.1 ∙ ap Some c.in-Else.is in
    let short : length c.args.program.now.lines.items ≤ 2 ^ 64 - 1 = omega (arith, c.args.program.now.lines.ok) in
    record {
      below = below;
      item = At at;
      few = At c.behind-in-Else.result ∷ [];
      last = refl;
      put = refl;
      moves = else_moves p n at c.in-Else.passed (2 ^ 64 - 1) c.behind-in-Else.result v found short c.behind-in-Else.ensures;
    }

pub returns-in-End-clause-quick : goal.returns-in-End-clause-quick
returns-in-End-clause-quick c below n =
    let p = c.args.program.now in
    let v = c.args.variables.now in
    let at = c.args.at in
    let a = c.in-Some.ensures.lookup in
    let found = ap (λ xs. slice_get xs c.args.at) (sym c.lines.ensures) ∙ slice_get_read c.lines.result.now _ c.args.at c.in-Some.line.now refl a.3.0 a.1 ∙ ap Some c.in-End.is in
    record {
      below = below;
      item = At at;
      few = [];
      last = refl;
      put = sym (append-nil below);
      moves = in_going p n (At at) [] (Going v) v c.hand_nothing-in-End.new.mode c.hand_nothing-in-End.ensures (end_moves p n at v found);
    }

pub returns-in-Call-clause-quick : goal.returns-in-Call-clause-quick
returns-in-Call-clause-quick c below n =
    let p = c.args.program.now in
    let v = c.args.variables.now in
    let at = c.args.at in
    let a = c.in-Some.ensures.lookup in
    let found = ap (λ xs. slice_get xs c.args.at) (sym c.lines.ensures) ∙ slice_get_read c.lines.result.now _ c.args.at c.in-Some.line.now refl a.3.0 a.1 ∙ ap Some c.in-Call.is in
    let call = c.called.new.call in
    let few = Settle call ∷ Making call ∷ [] in
    record {
      below = below;
      item = At at;
      few = At (at + 1) ∷ few;
      last = refl;
      put = refl;
      moves = simple_moves p n at (Call c.in-Call.statement) few (At (at + 1) ∷ few) v (Going v) found tt (tt, (tt, tt)) refl c.called.ensures;
    }

pub returns-in-Let-clause-quick : goal.returns-in-Let-clause-quick
returns-in-Let-clause-quick c below n =
    let p = c.args.program.now in
    let v = c.args.variables.now in
    let at = c.args.at in
    let a = c.in-Some.ensures.lookup in
    let found = ap (λ xs. slice_get xs c.args.at) (sym c.lines.ensures) ∙ slice_get_read c.lines.result.now _ c.args.at c.in-Some.line.now refl a.3.0 a.1 ∙ ap Some c.in-Let.is in
    record {
      below = below;
      item = At at;
      few = At (at + 1) ∷ [];
      last = refl;
      put = refl;
      moves = simple_moves p n at (Let c.in-Let.letter c.in-Let.operand) [] (At (at + 1) ∷ []) v (Going c.lets.new.variables) found tt tt refl (λ line' k says. c.lets.ensures k ∙ ap (λ l. statement l v k) (sym says));
    }

pub returns-in-Compute-clause-quick : goal.returns-in-Compute-clause-quick
returns-in-Compute-clause-quick c below n =
    let p = c.args.program.now in
    let v = c.args.variables.now in
    let at = c.args.at in
    let a = c.in-Some.ensures.lookup in
    let found = ap (λ xs. slice_get xs c.args.at) (sym c.lines.ensures) ∙ slice_get_read c.lines.result.now _ c.args.at c.in-Some.line.now refl a.3.0 a.1 ∙ ap Some c.in-Compute.is in
    record {
      below = below;
      item = At at;
      few = At (at + 1) ∷ [];
      last = refl;
      put = refl;
      moves = simple_moves p n at (Compute c.in-Compute.letter c.in-Compute.operator c.in-Compute.left c.in-Compute.right) [] (At (at + 1) ∷ []) v (Going c.computes.new.variables) found tt tt refl (λ line' k says. c.computes.ensures k ∙ ap (λ l. statement l v k) (sym says));
    }

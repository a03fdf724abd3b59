use Rattle.std.proofs.Common.{◌≡◌, ◌≤◌, ◌+◌, ◌^◌, ◌-◌, ◌==◌, true, false, min, [], ◌∷◌, ◌++◌, length, Some, refl, sym, ap, subst, ◌∙◌, arith, rules, append_assoc}
use Rattle.std.specs.Prelude.{slice_get}
use Rattle.std.proofs.lemmas.Option.{slice_get_read}
use Rattle.script_tree.specs.Values.{holds}
use Rattle.script_tree.specs.Pieces.{Going}
use Rattle.script_proc.specs.declared.item.Item.TheVariants.{At, PassEnd}
use Rattle.script_proc.specs.Items.{state_of}
use Rattle.script_proc.specs.Works.{Moves, Steps}
use Rattle.script_proc.proofs.Lasts.{last_at}
use Rattle.script_proc.proofs.ItemLaws.{once_moves, pass_on, while_few}
use Rattle.script_proc.proofs.places.quick_pass.Goals as goal

pub returns-clause-quick : goal.returns-clause-quick
returns-clause-quick c call =
    let p = c.args.program.now in
    let n = c.args.used in
    let v = c.args.variables.now in
    let place = c.in-Some-PassEnd.at in
    let began = c.in-Some-PassEnd.began in
    let test = c.in-Some-While.test in
    let h = c.in-Some-PassEnd.ensures.item in
    let at = last_at c.deref.result.now c.in-Some-PassEnd.field-0.now h.3.0 in
    let same = sym c.deref.ensures.value ∙ at.1 ∙ ap (λ x. at.0 ++ x ∷ []) (sym h.1 ∙ c.in-Some-PassEnd.field-0-is) in
    let other : (n == began) ≡ false = search rules in
    let a = c.in-Some-While.ensures.lookup in
    let found = ap (λ xs. slice_get xs place) (sym c.lines.ensures) ∙ slice_get_read c.lines.result.now _ place c.in-Some-While.field-0.now refl a.3.0 a.1 ∙ ap Some c.in-Some-While.field-0-is in
    let short : length p.lines.items ≤ 2 ^ 64 - 1 = omega (arith, p.lines.ok) in
    let next = min (place + 1 + c.in-Some-While.field-0-1) (2 ^ 64 - 1) in
    let passes : holds test.now v ≡ true = sym c.holds.ensures ∙ c.if-not-holds.false in
    let moves = pass_on p n place began v (while_few p n place (holds test.now v) next) other (once_moves p n place test c.in-Some-While.field-0-1 (2 ^ 64 - 1) next v found short refl) in
    let few = PassEnd place n ∷ At (place + 1) ∷ [] in
    let steps : Steps p n c.args.items.now.items (Going v) (c.begin_pass.new.items.items ++ At (place + 1) ∷ []) (Going v) = record {
      below = at.0;
      item = PassEnd place began;
      few = few;
      last = same;
      put = ap (λ xs. xs ++ At (place + 1) ∷ []) (c.begin_pass.ensures at.0 place began same) ∙ append_assoc at.0 (PassEnd place n ∷ []) (At (place + 1) ∷ []);
      moves = subst (λ b. Moves p n (PassEnd place began) (Going v) (while_few p n place b next) (Going v)) passes moves;
    } in
    subst (λ x. Steps p n c.args.items.now.items (state_of v x) (c.begin_pass.new.items.items ++ At (place + 1) ∷ []) (Going v)) (sym c.in-Going.is) steps

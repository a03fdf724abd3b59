use Rattle.std.proofs.Common.{◌≡◌, ◌==◌, true, false, [], ◌∷◌, ◌++◌, sym, ap, subst, ◌∙◌, rules}
use Rattle.user_model.specs.declared.call.Call.TheVariants.{Yield}
use Rattle.script_tree.specs.Pieces.{Going}
use Rattle.script_proc.specs.declared.item.Item.TheVariants.{At, Once, PassEnd, Quiet, Making}
use Rattle.script_proc.specs.Items.{state_of, state_at, with_next}
use Rattle.script_proc.specs.Works.{Steps}
use Rattle.script_proc.proofs.Lasts.{last_at}
use Rattle.script_proc.proofs.ItemLaws.{going_from, in_going, yield_moves}
use Rattle.script_proc.proofs.places.going.Goals as goal

pub returns-in-At : goal.returns-in-At
returns-in-At c =
    let p = c.args.program.now in
    let n = c.args.used in
    let h = c.in-Some.ensures.item in
    let item = c.in-Some.item.now in
    let at = last_at c.deref.result.now item h.3.0 in
    let same = sym c.deref.ensures.value ∙ at.1 ∙ ap (λ x. at.0 ++ x ∷ []) (sym h.1 ∙ c.in-At.is) in
    let back = ap (λ xs. xs ++ At c.in-At.at ∷ []) (c.drop_last.ensures.items at.0 (At c.in-At.at) same) ∙ sym same in
    subst (λ xs. Steps p n xs (Going c.args.variables.now) (with_next c.line_at.new.items.items c.line_at.new.call c.line_at.result) (state_at c.line_at.new.variables c.line_at.new.mode c.line_at.result)) back c.line_at.ensures

pub returns-in-Once : goal.returns-in-Once
returns-in-Once c =
    let p = c.args.program.now in
    let n = c.args.used in
    let v = c.args.variables.now in
    let h = c.in-Some.ensures.item in
    let item = c.in-Some.item.now in
    let at = last_at c.deref.result.now item h.3.0 in
    let new = with_next c.once.new.items.items c.args.call.now c.once.result in
    let same = sym c.deref.ensures.value ∙ at.1 ∙ ap (λ x. at.0 ++ x ∷ []) (sym h.1 ∙ c.in-Once.is) in
    let back = ap (λ xs. xs ++ Once c.in-Once.at ∷ []) (c.drop_last-in-Once.ensures.items at.0 (Once c.in-Once.at) same) ∙ sym same in
    subst (λ xs. Steps p n xs (Going v) new (state_at v c.args.mode.now c.once.result)) back (c.once.ensures c.args.mode.now c.args.call.now c.requires.going)

pub returns-then-used-began : goal.returns-then-used-began
returns-then-used-began c =
    let p = c.args.program.now in
    let n = c.args.used in
    let v = c.args.variables.now in
    let h = c.in-Some.ensures.item in
    let item = c.in-Some.item.now in
    let at = last_at c.deref.result.now item h.3.0 in
    let place = c.in-PassEnd.at in
    let began = c.in-PassEnd.began in
    let same = sym c.deref.ensures.value ∙ at.1 ∙ ap (λ x. at.0 ++ x ∷ []) (sym h.1 ∙ c.in-PassEnd.is) in
    let even : (n == began) ≡ true = search rules in
    record {
      below = at.0;
      item = PassEnd place began;
      few = Once place ∷ Quiet ∷ Making Yield ∷ [];
      last = same;
      put = c.yields.ensures at.0 (PassEnd place began) same;
      moves = in_going p n (PassEnd place began) (Once place ∷ Quiet ∷ Making Yield ∷ []) (Going v) v c.args.mode.now c.requires.going (yield_moves p n place began v even);
    }

pub returns-else-used-began : goal.returns-else-used-began
returns-else-used-began c =
    let n = c.args.used in
    let h = c.in-Some.ensures.item in
    let item = c.in-Some.item.now in
    let at = last_at c.deref.result.now item h.3.0 in
    let same = sym c.deref.ensures.value ∙ at.1 ∙ ap (λ x. at.0 ++ x ∷ []) (sym h.1 ∙ c.in-PassEnd.is) in
    let other : (n == c.in-PassEnd.began) ≡ false = search rules in
    c.passes_again.ensures at.0 c.in-PassEnd.began c.args.mode.now c.args.call.now same other c.requires.going

pub returns-in-Running : goal.returns-in-Running
returns-in-Running c =
    let p = c.args.program.now in
    let n = c.args.used in
    let v = c.args.variables.now in
    let h = c.in-Some.ensures.item in
    let item = c.in-Some.item.now in
    let at = last_at c.deref.result.now item h.3.0 in
    let same = sym c.deref.ensures.value ∙ at.1 ∙ ap (λ x. at.0 ++ x ∷ []) (sym h.1) in
    c.running.ensures at.0 n (same ∙ ap (λ x. at.0 ++ x ∷ []) c.in-Running.is)

pub returns-in_default-item : goal.returns-in_default-item
returns-in_default-item c =
    going_from c.args.program.now c.args.used c.args.items.now.items c.placeless.new.items.items (state_of c.placeless.new.variables c.placeless.new.mode) c.args.variables.now c.args.mode.now c.requires.going (c.placeless.ensures c.args.program.now c.args.used)

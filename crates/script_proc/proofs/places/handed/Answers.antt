use Rattle.std.proofs.Common.{[], ◌∷◌, ◌++◌, sym, ap, ◌∙◌, append-nil}
use Rattle.script_proc.specs.Items.{state_of}
use Rattle.script_proc.proofs.Lasts.{last_at}
use Rattle.script_proc.proofs.ItemLaws.{is_plain, is_settling, settling_plain, plain_moves, placed_moves, placed_is, hands_on}
use Rattle.script_proc.proofs.places.handed.Goals as goal

pub returns-in-Settle : goal.returns-in-Settle
returns-in-Settle c p n =
    let h = c.in-Some.ensures.item in
    let item = c.in-Some.item.now in
    let at = last_at c.deref.result.now item h.3.0 in
    let same = sym c.deref.ensures.value ∙ at.1 ∙ ap (λ x. at.0 ++ x ∷ []) (sym h.1) in
    let settling = is_settling item c.in-Settle.is in
    record {
      below = at.0;
      item = item;
      few = [];
      last = same;
      put = c.drop_last-in-Settle.ensures.items at.0 item same ∙ sym (append-nil at.0);
      moves = plain_moves p n item [] (state_of c.args.variables.now c.args.mode.now) (state_of c.settled.new.variables c.settled.new.mode) (settling_plain item settling) tt (λ s k. c.settled.ensures s k settling);
    }

pub returns-in-At : goal.returns-in-At
returns-in-At c p n =
    let h = c.in-Some.ensures.item in
    let item = c.in-Some.item.now in
    let at = last_at c.deref.result.now item h.3.0 in
    let same = sym c.deref.ensures.value ∙ at.1 ∙ ap (λ x. at.0 ++ x ∷ []) (sym h.1) in
    record {
      below = at.0;
      item = item;
      few = [];
      last = same;
      put = c.drop_last-in-At.ensures.items at.0 item same ∙ sym (append-nil at.0);
      moves = placed_moves p n item c.args.mode.now c.args.variables.now (placed_is p n item c.in-At.is) (hands_on p n c.args.mode.now c.requires.handed);
    }

pub returns-in-Leaving : goal.returns-in-Leaving
returns-in-Leaving c p n =
    let h = c.in-Some.ensures.item in
    let item = c.in-Some.item.now in
    let at = last_at c.deref.result.now item h.3.0 in
    c.leaving.ensures at.0 p n c.args.variables.now (sym c.deref.ensures.value ∙ at.1 ∙ ap (λ x. at.0 ++ x ∷ []) (sym h.1 ∙ c.in-Leaving.is))

pub returns-in-Again : goal.returns-in-Again
returns-in-Again c p n =
    let h = c.in-Some.ensures.item in
    let item = c.in-Some.item.now in
    let at = last_at c.deref.result.now item h.3.0 in
    c.again.ensures at.0 p n c.args.variables.now (sym c.deref.ensures.value ∙ at.1 ∙ ap (λ x. at.0 ++ x ∷ []) (sym h.1 ∙ c.in-Again.is))

pub returns-in_default-item : goal.returns-in_default-item
returns-in_default-item c p n =
    let h = c.in-Some.ensures.item in
    let item = c.in-Some.item.now in
    let at = last_at c.deref.result.now item h.3.0 in
    let same = sym c.deref.ensures.value ∙ at.1 ∙ ap (λ x. at.0 ++ x ∷ []) (sym h.1) in
    let kind = c.in_default-item in
    record {
      below = at.0;
      item = item;
      few = [];
      last = same;
      put = c.drop_last.ensures.items at.0 item same ∙ sym (append-nil at.0);
      moves = plain_moves p n item [] (state_of c.args.variables.now c.args.mode.now) (state_of c.through.new.variables c.through.new.mode) (is_plain item kind.not-At kind.not-Once kind.not-PassEnd kind.not-Running) tt c.through.ensures;
    }

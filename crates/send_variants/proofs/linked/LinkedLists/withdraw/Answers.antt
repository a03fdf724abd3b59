use Rattle.std.proofs.Common.{◌≡◌, ◌≤◌, ◌<◌, ◌∙◌, ◌++◌, ◌∷◌, [], ℕ, suc, true, List, Option, Some, None, length, get_or, set, slice_get, option_map, IfSome, sym, ap, subst, arith}
use Rattle.std.proofs.lemmas.Bool.{eq-eqb}
use Rattle.send_variants.specs.declared.slot.Slot.{Slot}
use Rattle.send_variants.specs.declared.slot.Ends.{Ends}
use Rattle.send_variants.specs.Lists.{Entry, IsSound, IsWithdrawn, all_without, count_in, named_by, names, place_in, place_on, without}
use Rattle.send_variants.specs.Tables.{IsReached, IsRow, IsTable, IsTaken, entries_at, entry_of, jump, lists_in, no_ends, seen}
use Rattle.send_variants.proofs.Entries.{count-total, sound-withdraw}
use Rattle.send_variants.proofs.Named.{count_middle, without_middle, all_none, all_one}
use Rattle.send_variants.proofs.Tables.{list_within, jumped}
use Rattle.send_variants.proofs.Steps.{old_parts, take_view, take_table}
use Rattle.send_variants.proofs.linked.LinkedLists.withdraw.Goals as goal

pub returns-in_err-at-clause-place : goal.returns-in_err-at-clause-place
returns-in_err-at-clause-place c =
    ap (option_map (λ (r : ℕ × ℕ). r.1)) c.from_residual.ensures
    ∙ sym (all_none c.args.s.0 (lists_in c.self.inside.slots.items c.self.inside.ends.items) c.in_err-at.ensures.none).1
    ∙ ap (place_on c.args.s.0) c.self.view_is

pub returns-in_err-at-clause-rest : goal.returns-in_err-at-clause-rest
returns-in_err-at-clause-rest c =
    sym c.self.view_is
    ∙ sym (all_none c.args.s.0 (lists_in c.self.inside.slots.items c.self.inside.ends.items) c.in_err-at.ensures.none).0
    ∙ ap (all_without c.args.s.0) c.self.view_is

module _ (c : goal.After-with_place) where
  abbrev s : List Slot
  s = c.self.inside.slots.items

  abbrev ends : List Ends
  ends = c.self.inside.ends.items

  abbrev lists : List (List Entry)
  lists = lists_in s ends

  abbrev i : ℕ
  i = c.in_ok-at.at

  abbrev key : ℕ
  key = c.in_ok-at.key

  within : i < length ends
  within = c.in_ok-at.ensures.some.0

  abbrev way : IsReached s (get_or ends i no_ends).first c.args.s.0 key
  way = c.in_ok-at.ensures.some.1

  row : IsRow s (suc i) (get_or ends i no_ends) (c.self.invariant.0.rows i)
  row = c.self.invariant.0.row i within

  abbrev cut : (us : List (ℕ × ℕ)) × (vs : List (ℕ × ℕ)) × (p : ℕ) × (c.self.invariant.0.rows i ≡ us ++ (p, key) ∷ vs)
  cut = jumped s (suc i) way.steps key None 0 (c.self.invariant.0.rows i) row.linked (ap (jump (slice_get s) way.steps) (sym row.first) ∙ way.way)

  abbrev was : Slot
  was = way.found

  abbrev told : (pair : Ends) × IsTaken s c.take_at.new.slots.items c.self.inside.free c.take_at.new.free (get_or ends i no_ends) pair key was c.take_at.result × (c.take_at.new.ends.items ≡ set ends i pair)
  told = c.take_at.ensures was way.here

  abbrev xs : List Entry
  xs = entries_at (seen s (suc i)) cut.0

  abbrev ys : List Entry
  ys = entries_at (seen s (suc i)) cut.1

  old : get_or lists i [] ≡ xs ++ entry_of was ∷ ys
  old = old_parts s c.take_at.new.slots.items ends i key c.self.inside.free c.take_at.new.free told.0 c.self.invariant.0 within cut.0 cut.1 cut.2 cut.3 was c.take_at.result way.here told.1

  named : names c.args.s.0 (entry_of was) ≡ true
  named = eq-eqb (named_by was.ready) c.args.s.0 way.named

  once : count_in c.args.s.0 (xs ++ entry_of was ∷ ys) ≤ 1
  once = omega (arith, ap (count_in c.args.s.0) old, count-total c.args.s.0 lists i, c.self.invariant.1.once c.args.s.0)

  abbrev parted : (without c.args.s.0 (xs ++ entry_of was ∷ ys) ≡ xs ++ ys) × (place_in c.args.s.0 (xs ++ entry_of was ∷ ys) ≡ Some was.place)
  parted = without_middle c.args.s.0 xs ys (entry_of was) named once

  one : (set lists i (without c.args.s.0 (get_or lists i [])) ≡ all_without c.args.s.0 lists) × (place_on c.args.s.0 lists ≡ Some was.place)
  one = all_one c.args.s.0 lists i was.place (list_within s ends i within) (ap (place_in c.args.s.0) old ∙ parted.1) (omega (arith, ap (count_in c.args.s.0) old, count_middle c.args.s.0 xs ys (entry_of was) named)) (c.self.invariant.1.once c.args.s.0)

  view : lists_in c.take_at.new.slots.items c.take_at.new.ends.items ≡ all_without c.args.s.0 lists
  view =
      ap (lists_in c.take_at.new.slots.items) told.2
      ∙ take_view s c.take_at.new.slots.items ends i key c.self.inside.free c.take_at.new.free told.0 c.self.invariant.0 within cut.0 cut.1 cut.2 cut.3 was c.take_at.result way.here told.1
      ∙ ap (λ (es : List Entry). set lists i es) (sym (ap (without c.args.s.0) old ∙ parted.0))
      ∙ one.0

  table : IsTable c.take_at.new.slots.items c.take_at.new.ends.items c.take_at.new.free
  table = subst (λ (es : List Ends). IsTable c.take_at.new.slots.items es c.take_at.new.free) (sym told.2)
      (take_table s c.take_at.new.slots.items ends i key c.self.inside.free c.take_at.new.free told.0 c.self.invariant.0 within cut.0 cut.1 cut.2 cut.3 was c.take_at.result way.here told.1)

  sound : IsSound (lists_in c.take_at.new.slots.items c.take_at.new.ends.items)
  sound = subst IsSound (sym view) (sound-withdraw lists c.args.s.0 c.self.invariant.1)

pub invariant_of-self : goal.invariant_of-self
invariant_of-self c = (table c, sound c)

pub returns-clause-place : goal.returns-clause-place
returns-clause-place c =
    ap (option_map (λ (r : ℕ × ℕ). r.1)) (c.with_place.ensures ∙ ap (option_map (λ (e : Entry). let r : ℕ × ℕ = (i c, e.0) in r)) (told c).1.entry_is)
    ∙ sym (one c).1
    ∙ ap (place_on c.args.s.0) c.self.view_is

pub returns-clause-rest : goal.returns-clause-rest
returns-clause-rest c = view c ∙ ap (all_without c.args.s.0) c.self.view_is

pub returns-clause-sound : goal.returns-clause-sound
returns-clause-sound c = sound c

-- the list that had it lost this entry alone
withdrawn : (c : goal.After-with_place) → IsWithdrawn (lists c) (lists_in c.take_at.new.slots.items c.take_at.new.ends.items) (i c) (was c).place
withdrawn c = record {
  within = list_within (s c) (ends c) (i c) (within c);
  before = xs c;
  after = ys c;
  ready = (was c).ready;
  was = old c;
  is =
      ap (lists_in c.take_at.new.slots.items) (told c).2
      ∙ take_view (s c) c.take_at.new.slots.items (ends c) (i c) (key c) c.self.inside.free c.take_at.new.free (told c).0 c.self.invariant.0 (within c) (cut c).0 (cut c).1 (cut c).2 (cut c).3 (was c) c.take_at.result (way c).here (told c).1;
}

pub returns-clause-from : goal.returns-clause-from
returns-clause-from c =
    let told : c.with_place.result ≡ Some (i c, (was c).place) = c.with_place.ensures ∙ ap (option_map (λ (e : Entry). let r : ℕ × ℕ = (i c, e.0) in r)) (told c).1.entry_is in
    subst (λ (o : Option (ℕ × ℕ)). IfSome o (λ r. IsWithdrawn c.args.self.now (lists_in c.take_at.new.slots.items c.take_at.new.ends.items) r.0 r.1)) (sym told)
    (subst (λ (b : List (List Entry)). IsWithdrawn b (lists_in c.take_at.new.slots.items c.take_at.new.ends.items) (i c) (was c).place) c.self.view_is (withdrawn c))

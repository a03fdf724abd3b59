use Rattle.std.proofs.Common.{◌≡◌, ◌≤◌, ◌<◌, ◌-◌, ◌∙◌, ◌∷◌, [], ℕ, suc, List, Some, None, drop, length, get_or, set, slice_get, sym, ap, subst, arith}
use Rattle.std.proofs.lemmas.List.{length-set}
use Rattle.send_variants.specs.declared.slot.Slot.{Slot}
use Rattle.send_variants.specs.declared.slot.Ends.{Ends}
use Rattle.send_variants.specs.Lists.{Entry, IsSound, list_of, with_list}
use Rattle.send_variants.specs.Tables.{IsRow, IsTable, IsTaken, Linked, entries_at, entry_of, first_key, lists_in, no_ends, seen}
use Rattle.send_variants.proofs.Entries.{sound-take}
use Rattle.send_variants.proofs.Joins.{first_parts}
use Rattle.send_variants.proofs.Tables.{ends_at, lists_length, seen_is}
use Rattle.send_variants.proofs.Steps.{old_parts, take_view, take_table}
use Rattle.send_variants.proofs.linked.LinkedLists.take.Goals as goal

module _ (c : goal.After-take_at) where
  abbrev s : List Slot
  s = c.self.inside.slots.items

  abbrev ends : List Ends
  ends = c.self.inside.ends.items

  abbrev lists : List (List Entry)
  lists = lists_in s ends

  abbrev i : ℕ
  i = c.from-at.result - 1

  abbrev key : ℕ
  key = c.in_ok-key.key

  i_is : i ≡ c.args.t.0 - 1
  i_is = ap (λ n. n - 1) c.from-at.ensures

  high : c.args.t.0 ≤ length lists
  high = subst (λ (b : List (List Entry)). c.args.t.0 ≤ length b) (sym c.self.view_is) c.requires.1

  within : i < length ends
  within = omega (arith, i_is, high, c.requires.0, lists_length s ends)

  row : IsRow s (suc i) (get_or ends i no_ends) (c.self.invariant.0.rows i)
  row = c.self.invariant.0.row i within

  first_is : first_key (c.self.invariant.0.rows i) None ≡ Some key
  first_is = sym row.first ∙ ap (λ (e : Ends). e.first) (sym (ends_at ends i c.index.result.now within c.index.ensures)) ∙ c.in_ok-key.was

  abbrev cut : (p : ℕ) × (vs : List (ℕ × ℕ)) × (c.self.invariant.0.rows i ≡ (p, key) ∷ vs)
  cut = first_parts (c.self.invariant.0.rows i) key first_is

  linked : Linked (seen s (suc i)) None 0 ((cut.0, key) ∷ cut.1) None
  linked = subst (λ (es : List (ℕ × ℕ)). Linked (seen s (suc i)) None 0 es None) cut.2 row.linked

  abbrev was : Slot
  was = linked.0.held

  here : slice_get s key ≡ Some was
  here = (seen_is s (suc i) key was linked.0.here).0

  abbrev told : (pair : Ends) × IsTaken s c.take_at.new.slots.items c.self.inside.free c.take_at.new.free (get_or ends i no_ends) pair key was c.take_at.result × (c.take_at.new.ends.items ≡ set ends i pair)
  told = c.take_at.ensures was here

  old : list_of lists c.args.t.0 ≡ entry_of was ∷ entries_at (seen s (suc i)) cut.1
  old =
      ap (λ n. get_or lists n []) (sym i_is)
      ∙ old_parts s c.take_at.new.slots.items ends i key c.self.inside.free c.take_at.new.free told.0 c.self.invariant.0 within [] cut.1 cut.0 cut.2 was c.take_at.result here told.1

  view : lists_in c.take_at.new.slots.items c.take_at.new.ends.items ≡ with_list lists c.args.t.0 (drop 1 (list_of lists c.args.t.0))
  view =
      ap (lists_in c.take_at.new.slots.items) told.2
      ∙ take_view s c.take_at.new.slots.items ends i key c.self.inside.free c.take_at.new.free told.0 c.self.invariant.0 within [] cut.1 cut.0 cut.2 was c.take_at.result here told.1
      ∙ ap (λ n. set lists n (entries_at (seen s (suc i)) cut.1)) i_is
      ∙ ap (λ (es : List Entry). with_list lists c.args.t.0 (drop 1 es)) (sym old)

  table : IsTable c.take_at.new.slots.items c.take_at.new.ends.items c.take_at.new.free
  table = subst (λ (es : List Ends). IsTable c.take_at.new.slots.items es c.take_at.new.free) (sym told.2)
      (take_table s c.take_at.new.slots.items ends i key c.self.inside.free c.take_at.new.free told.0 c.self.invariant.0 within [] cut.1 cut.0 cut.2 was c.take_at.result here told.1)

  sound : IsSound (lists_in c.take_at.new.slots.items c.take_at.new.ends.items)
  sound = subst IsSound (sym view) (sound-take lists c.args.t.0 c.self.invariant.1 c.requires.0 high)

pub invariant_of-self : goal.invariant_of-self
invariant_of-self c = (table c, sound c)

pub returns-clause-taken : goal.returns-clause-taken
returns-clause-taken c =
    (told c).1.entry_is
    ∙ sym (ap (λ (es : List Entry). slice_get es 0) (old c))
    ∙ ap (λ (b : List (List Entry)). slice_get (list_of b c.args.t.0) 0) c.self.view_is

pub returns-clause-rest : goal.returns-clause-rest
returns-clause-rest c = view c ∙ ap (λ (b : List (List Entry)). with_list b c.args.t.0 (drop 1 (list_of b c.args.t.0))) c.self.view_is

pub returns-clause-threads : goal.returns-clause-threads
returns-clause-threads c = ap length (view c) ∙ length-set (lists c) (c.args.t.0 - 1) (drop 1 (list_of (lists c) c.args.t.0)) ∙ ap length c.self.view_is

pub returns-clause-sound : goal.returns-clause-sound
returns-clause-sound c = sound c

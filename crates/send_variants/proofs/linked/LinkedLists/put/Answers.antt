use Rattle.std.proofs.Common.{◌≡◌, ◌≤◌, ◌<◌, ◌-◌, ◌∙◌, ◌++◌, ◌∷◌, [], ℕ, List, length, get_or, set, sym, ap, subst, arith}
use Rattle.std.proofs.lemmas.List.{length-set}
use Rattle.send_variants.specs.declared.slot.Ends.{Ends}
use Rattle.send_variants.specs.Lists.{AreBelow, Entry, IsSound, count_on, list_of, named_by, total, with_list}
use Rattle.send_variants.specs.Tables.{IsTable, IsPut, lists_in, no_ends, slot_of}
use Rattle.send_variants.proofs.Entries.{sound-put}
use Rattle.send_variants.proofs.Tables.{lists_length}
use Rattle.send_variants.proofs.Steps.{IsFirstFree, first_free, put_view, put_table}
use Rattle.send_variants.proofs.linked.LinkedLists.put.Goals as goal

module _ (c : goal.After-put_at) where
  abbrev lists : List (List Entry)
  lists = lists_in c.self.inside.slots.items c.self.inside.ends.items

  abbrev i : ℕ
  i = c.from-at.result - 1

  i_is : i ≡ c.args.t.0 - 1
  i_is = ap (λ n. n - 1) c.from-at.ensures

  room : total lists < 1024
  room = subst (λ b. total b < 1024) (sym c.self.view_is) c.requires.room

  below : AreBelow c.args.place (list_of lists c.args.t.0)
  below = subst (λ b. AreBelow c.args.place (list_of b c.args.t.0)) (sym c.self.view_is) c.requires.above

  high : c.args.t.0 ≤ length lists
  high = subst (λ (b : List (List Entry)). c.args.t.0 ≤ length b) (sym c.self.view_is) c.requires.thread.1

  within : i < length c.self.inside.ends.items
  within = omega (arith, i_is, high, c.requires.thread.0, lists_length c.self.inside.slots.items c.self.inside.ends.items)

  abbrev first : IsFirstFree c.self.inside.slots.items c.self.inside.free c.self.invariant.0.unused
  first = first_free c.self.inside.slots.items c.self.inside.free c.self.invariant.0.unused c.self.invariant.0.freed (omega (arith, c.self.invariant.0.full, room))

  abbrev told : (pair : Ends) × IsPut c.self.inside.slots.items c.put_at.new.slots.items c.put_at.new.free (get_or c.self.inside.ends.items i no_ends) pair first.key first.was (slot_of i c.args.place c.args.r (get_or c.self.inside.ends.items i no_ends)) × (c.put_at.new.ends.items ≡ set c.self.inside.ends.items i pair)
  told = c.put_at.ensures first.key first.was first.at first.here

  below_i : AreBelow c.args.place (get_or lists i [])
  below_i = subst (λ n. AreBelow c.args.place (get_or lists n [])) (sym i_is) below

  view : lists_in c.put_at.new.slots.items c.put_at.new.ends.items ≡ with_list lists c.args.t.0 (list_of lists c.args.t.0 ++ (c.args.place, c.args.r) ∷ [])
  view =
      ap (lists_in c.put_at.new.slots.items) told.2
      ∙ put_view c.self.inside.slots.items c.put_at.new.slots.items c.self.inside.ends.items i c.args.place c.args.r c.self.inside.free c.put_at.new.free told.0 c.self.invariant.0 within below_i room first told.1
      ∙ ap (λ n. set lists n (get_or lists n [] ++ (c.args.place, c.args.r) ∷ [])) i_is

  table : IsTable c.put_at.new.slots.items c.put_at.new.ends.items c.put_at.new.free
  table = subst (λ (es : List Ends). IsTable c.put_at.new.slots.items es c.put_at.new.free) (sym told.2)
      (put_table c.self.inside.slots.items c.put_at.new.slots.items c.self.inside.ends.items i c.args.place c.args.r c.self.inside.free c.put_at.new.free told.0 c.self.invariant.0 within below_i room first told.1)

  sound : IsSound (lists_in c.put_at.new.slots.items c.put_at.new.ends.items)
  sound = subst IsSound (sym view) (sound-put lists c.args.t.0 c.args.place c.args.r c.self.invariant.1 c.requires.thread.0 high below room (subst (λ b. count_on (named_by c.args.r) b ≡ 0) (sym c.self.view_is) c.requires.unnamed))

pub invariant_of-self : goal.invariant_of-self
invariant_of-self c = (table c, sound c)

pub returns-clause-put : goal.returns-clause-put
returns-clause-put c = view c ∙ ap (λ (b : List (List Entry)). with_list b c.args.t.0 (list_of b c.args.t.0 ++ (c.args.place, c.args.r) ∷ [])) c.self.view_is

pub returns-clause-threads : goal.returns-clause-threads
returns-clause-threads c = ap length (view c) ∙ length-set (lists c) (c.args.t.0 - 1) (list_of (lists c) c.args.t.0 ++ (c.args.place, c.args.r) ∷ []) ∙ ap length c.self.view_is

pub returns-clause-sound : goal.returns-clause-sound
returns-clause-sound c = sound c

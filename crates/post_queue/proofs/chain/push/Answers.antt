use Rattle.std.proofs.Common.{◌≡◌, ◌≢◌, ◌∙◌, ◌≤◌, ◌++◌, ◌∷◌, [], ℕ, List, Option, Some, None, Result, Ok, Err, sym, ap, subst, refl}
use Rattle.std.specs.Prelude.{OnErr}
use Rattle.slab.specs.Slab.{Slab, get}
use Rattle.post_queue.specs.declared.slot.Slot.{Slot}
use Rattle.post_queue.specs.Queue.{post_of}
use Rattle.post_queue.specs.Chains.{posted_of, posted_at, first_key, last_key, above_all, Linked, IsAfterChanged, IsChangedAt}
use Rattle.post_queue.proofs.Chains.{pushed, pushed_posted}
use Rattle.post_queue.proofs.Indexes.{below_all, entries_below, first_more, last_more, linked_same, posted_same}
use Rattle.post_queue.proofs.chain.push.Goals as goal

pub returns-in_err-reserve-clause-chain : goal.returns-in_err-reserve-clause-chain
returns-in_err-reserve-clause-chain c = record {
  linked = linked_same c.args.chain.now.slots c.reserve.new.self c.args.chain.now.index.entries c.args.chain.now.index.entries c.reserve.ensures.rest_kept refl c.requires.chain.linked;
  first = c.requires.chain.first;
  last = c.requires.chain.last;
}

pub returns-in_err-push-clause-chain : goal.returns-in_err-push-clause-chain
returns-in_err-push-clause-chain c = record {
  linked = linked_same c.args.chain.now.slots c.reserve.new.self c.args.chain.now.index.entries c.push.new.self.entries c.reserve.ensures.rest_kept c.in_err-push.ensures.err c.requires.chain.linked;
  first = c.requires.chain.first ∙ ap (λ (es : List (ℕ × ℕ)). first_key es None) (sym c.in_err-push.ensures.err);
  last = c.requires.chain.last ∙ ap (last_key None) (sym c.in_err-push.ensures.err);
}

on_err : {T E : Type 0} (r : Result T E) (P : Type 0) → P → OnErr r P
on_err (Ok u) P p = tt
on_err (Err e) P p = p

pub returns-in_err-push-clause-err : goal.returns-in_err-push-clause-err
returns-in_err-push-clause-err c = on_err c.from_residual-in_err-push.result _ (posted_same c.args.chain.now.slots c.reserve.new.self c.args.chain.now.index.entries c.push.new.self.entries c.reserve.ensures.rest_kept c.in_err-push.ensures.err)

pub push-requires : goal.push-requires
push-requires c = record { above = entries_below (get c.args.chain.now.slots) c.args.number c.args.chain.now.index.entries c.requires.chain.linked c.requires.above }

module _ (s s1 s2 s3 : Slab Slot) (es es' : List (ℕ × ℕ)) (n key key' : ℕ) (first last first' : Option ℕ) (y : Slot) (kept : s1 ≡ record s { capacity = s1.capacity }) (linked : Linked (get s) None 0 es None) (is_first : first ≡ first_key es None) (is_last : last ≡ last_key None es) (low : above_all 0 es ≤ n) (same_key : key' ≡ key) (vacant : get s1 key ≡ None) (put : get s2 key' ≡ Some y) (others : (c : ℕ) → c ≢ key' → get s2 c ≡ get s1 c) (number : y.number ≡ n) (is_before : y.before ≡ last) (is_after : y.after ≡ None) (changed : IsChangedAt last (IsAfterChanged (Some key)) (get s2) (get s3)) (entries : es' ≡ es ++ (n, key) ∷ []) where
  before : Slab Slot → ℕ → Option Slot
  before t = get t

  was : (c : ℕ) → get s1 c ≡ get s c
  was c = ap (λ (t : Slab Slot). get t c) kept

  free : get s key ≡ None
  free = sym (was key) ∙ vacant

  there : get s2 key ≡ Some y
  there = ap (get s2) (sym same_key) ∙ put

  rest : (c : ℕ) → c ≢ key → get s2 c ≡ get s c
  rest c differs = others c (λ same. differs (same ∙ same_key)) ∙ was c

  after : IsChangedAt (last_key None es) (IsAfterChanged (Some key)) (get s2) (get s3)
  after = subst (λ (o : Option ℕ). IsChangedAt o (IsAfterChanged (Some key)) (get s2) (get s3)) is_last changed

  more_linked : Linked (get s3) None 0 es' None
  more_linked = subst (λ (ds : List (ℕ × ℕ)). Linked (get s3) None 0 ds None) (sym entries) (pushed (get s) (get s2) (get s3) es n key y linked low free there rest number (is_before ∙ is_last) is_after after)

  more_posted : posted_at (get s3) es' ≡ posted_at (get s) es ++ posted_of y ∷ []
  more_posted = ap (posted_at (get s3)) entries ∙ pushed_posted (get s) (get s2) (get s3) es n key y linked low free there rest number (is_before ∙ is_last) is_after after

pub returns-clause-chain : goal.returns-clause-chain
returns-clause-chain c =
    let s = c.args.chain.now.slots in
    let es = c.args.chain.now.index.entries in
    let low : above_all 0 es ≤ c.args.number = below_all (get s) c.args.number es c.requires.chain.linked c.requires.above in
    let entries : c.push.new.self.entries ≡ es ++ (c.args.number, c.vacant_key-key.result) ∷ [] = c.in_ok-push.ensures.ok in
    record {
      linked = more_linked s c.reserve.new.self c.insert_reserved.new.self c.join_after.new.slots es c.push.new.self.entries c.args.number c.vacant_key-key.result c.insert_reserved.result c.args.chain.now.first c.args.chain.now.last c.join_after.new.first _ c.reserve.ensures.rest_kept c.requires.chain.linked c.requires.chain.first c.requires.chain.last low (c.insert_reserved.ensures.key ∙ sym c.vacant_key-key.ensures.value) c.vacant_key-key.ensures.vacant c.insert_reserved.ensures.updates.changed c.insert_reserved.ensures.updates.others refl refl refl c.join_after.ensures.slots entries;
      first = c.join_after.ensures.first ∙ first_more es c.args.number c.vacant_key-key.result c.args.chain.now.first c.args.chain.now.last c.requires.chain.first c.requires.chain.last ∙ ap (λ (ds : List (ℕ × ℕ)). first_key ds None) (sym entries);
      last = last_more es c.args.number c.vacant_key-key.result ∙ ap (last_key None) (sym entries);
    }

pub returns-clause-ok : goal.returns-clause-ok
returns-clause-ok c =
    let s = c.args.chain.now.slots in
    let es = c.args.chain.now.index.entries in
    let low : above_all 0 es ≤ c.args.number = below_all (get s) c.args.number es c.requires.chain.linked c.requires.above in
    let entries : c.push.new.self.entries ≡ es ++ (c.args.number, c.vacant_key-key.result) ∷ [] = c.in_ok-push.ensures.ok in
    more_posted s c.reserve.new.self c.insert_reserved.new.self c.join_after.new.slots es c.push.new.self.entries c.args.number c.vacant_key-key.result c.insert_reserved.result c.args.chain.now.first c.args.chain.now.last c.join_after.new.first _ c.reserve.ensures.rest_kept c.requires.chain.linked c.requires.chain.first c.requires.chain.last low (c.insert_reserved.ensures.key ∙ sym c.vacant_key-key.ensures.value) c.vacant_key-key.ensures.vacant c.insert_reserved.ensures.updates.changed c.insert_reserved.ensures.updates.others refl refl refl c.join_after.ensures.slots entries
    ∙ ap (λ m. posted_at (get s) es ++ post_of c.args.number m ∷ []) c.new.ensures

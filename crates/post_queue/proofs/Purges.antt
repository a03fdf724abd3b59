-- Taking out messages on a walk along the links.
use Rattle.std.proofs.Common.{◌≡◌, ◌∙◌, ℕ, ◌<◌, ◌≤◌, List, [], ◌∷◌, ◌++◌, length, cond, filter, Bool, true, false, not, Option, Some, None, append_assoc, append-nil, refl, sym, ap, arith}
use Rattle.std.proofs.lemmas.List.{length-append}
use Rattle.std.proofs.lemmas.List.Elements.{filter-append}
use Rattle.slab.specs.Slab.{get}
use Rattle.win_num.specs.declared.message.Hwnd.{Hwnd}
use Rattle.post_queue.specs.declared.slot.Slot.{Slot}
use Rattle.post_queue.specs.declared.chain.Chain.{Chain}
use Rattle.post_queue.specs.Queue.{Posted}
use Rattle.post_queue.specs.Chains.{posted_of, posted_at, posted_in, first_key, left_from, IsChain}
use Rattle.post_queue.proofs.Chains.{posted_here}
use Rattle.post_queue.proofs.Walks.{IsWalk, IsStep, stepped, left_is, fewer_left, ended, posted_more}

-- of the messages that were passed those are left whose window stays, where the closure tells a test
abbrev pub AreKept : (Hwnd → Bool → Type 0) → List Posted → List Posted → Type 0
AreKept R passed kept = (test : ℕ → Bool) → ((w : Hwnd) (b : Bool) → R w b → b ≡ test w.0) → kept ≡ filter (λ p. not (test p.msg.hwnd.0)) passed

pub record IsPurge (R : Hwnd → Bool → Type 0) (old now : Chain) (at : Option ℕ) : Type 0 where
  pub chain : IsChain now
  pub walk : IsWalk (get now.slots) now.index.entries at
  pub passed : List Posted
  pub parts : posted_in old ≡ passed ++ posted_at (get now.slots) walk.todo
  pub kept : AreKept R passed (posted_at (get now.slots) walk.done)
  pub fewer : length (posted_at (get now.slots) walk.done) ≤ length passed

module _ (R : Hwnd → Bool → Type 0) (old now : Chain) (at : Option ℕ) (key : ℕ) (z : Slot) (p : IsPurge R old now at) (there : get now.slots key ≡ Some z) (s : IsStep (get now.slots) now.index.entries key z p.walk.done p.walk.todo) where
  abbrev slot : ℕ → Option Slot
  slot = get now.slots

  parts_more : posted_in old ≡ (p.passed ++ posted_of z ∷ []) ++ posted_at slot s.later
  parts_more =
      p.parts
      ∙ ap (λ (ds : List (ℕ × ℕ)). p.passed ++ posted_at slot ds) s.is
      ∙ ap (λ (ps : List Posted). p.passed ++ ps) (posted_here slot (z.number, key) s.later z there)
      ∙ sym (append_assoc p.passed (posted_of z ∷ []) (posted_at slot s.later))

  filtered : (test : ℕ → Bool) → (b : Bool) → b ≡ test z.hwnd.0 → filter (λ q. not (test q.msg.hwnd.0)) (p.passed ++ posted_of z ∷ []) ≡ filter (λ q. not (test q.msg.hwnd.0)) p.passed ++ cond (not b) (posted_of z ∷ []) []
  filtered test b is =
      filter-append (λ q. not (test q.msg.hwnd.0)) p.passed (posted_of z ∷ [])
      ∙ ap (λ (c : Bool). filter (λ q. not (test q.msg.hwnd.0)) p.passed ++ cond (not c) (posted_of z ∷ []) []) (ap (λ (h : Hwnd). test h.0) (sym z.same_window) ∙ sym is)

  -- the message stays
  pub stays : R z.hwnd false → IsPurge R old now z.after
  stays told = record {
    chain = p.chain;
    walk = stepped slot now.index.entries key z p.walk.done p.walk.todo s;
    passed = p.passed ++ posted_of z ∷ [];
    parts = parts_more;
    kept = λ test tells.
        posted_more slot p.walk.done key z there
        ∙ ap (λ (ps : List Posted). ps ++ posted_of z ∷ []) (p.kept test tells)
        ∙ sym (filtered test false (tells z.hwnd false told));
    fewer = omega (arith, p.fewer, ap length (posted_more slot p.walk.done key z there), length-append (posted_at slot p.walk.done) (posted_of z ∷ []), length-append p.passed (posted_of z ∷ []));
  }

  -- the message goes
  module _ (new : Chain) (chain : IsChain new) (taken : (us vs : List (ℕ × ℕ)) (k : ℕ) → now.index.entries ≡ us ++ (z.number, k) ∷ vs → (new.index.entries ≡ us ++ vs) × (posted_at (get new.slots) us ≡ posted_at (get now.slots) us) × (posted_at (get new.slots) vs ≡ posted_at (get now.slots) vs)) where
    abbrev left : (new.index.entries ≡ p.walk.done ++ s.later) × (posted_at (get new.slots) p.walk.done ≡ posted_at (get now.slots) p.walk.done) × (posted_at (get new.slots) s.later ≡ posted_at (get now.slots) s.later)
    left = taken p.walk.done s.later key s.whole

    pub goes : R z.hwnd true → IsPurge R old new z.after
    goes told = record {
      chain = chain;
      walk = record { done = p.walk.done; todo = s.later; parts = left.0; here = s.next };
      passed = p.passed ++ posted_of z ∷ [];
      parts = parts_more ∙ ap (λ (ps : List Posted). (p.passed ++ posted_of z ∷ []) ++ ps) (sym left.2);
      kept = λ test tells. left.1 ∙ p.kept test tells ∙ sym (filtered test true (tells z.hwnd true told) ∙ append-nil (filter (λ q. not (test q.msg.hwnd.0)) p.passed));
      fewer = omega (arith, p.fewer, ap length left.1, length-append p.passed (posted_of z ∷ []));
    }

    pub fewer_goes : left_from z.after new.index.entries < left_from at now.index.entries
    fewer_goes =
        let w : IsWalk (get new.slots) new.index.entries z.after = record { done = p.walk.done; todo = s.later; parts = left.0; here = s.next } in
        omega (arith, left_is (get new.slots) new.index.entries z.after chain.linked w, left_is slot now.index.entries at p.chain.linked p.walk, ap length s.is)

  pub fewer_stays : left_from z.after now.index.entries < left_from at now.index.entries
  fewer_stays = fewer_left slot now.index.entries at key z p.chain.linked p.walk s

-- all were passed
module _ (R : Hwnd → Bool → Type 0) (old now : Chain) (at : Option ℕ) (p : IsPurge R old now at) (end : at ≡ None) where
  all_done : now.index.entries ≡ p.walk.done
  all_done = ended (get now.slots) now.index.entries p.chain.linked at p.walk end

  no_more : posted_at (get now.slots) p.walk.todo ≡ []
  no_more = pick p.walk.todo refl
    where
      pick : (ds : List (ℕ × ℕ)) → p.walk.todo ≡ ds → posted_at (get now.slots) p.walk.todo ≡ []
      pick [] e = ap (posted_at (get now.slots)) e
      pick (d ∷ ds) e = absurd (cc (sym end ∙ p.walk.here ∙ ap (λ (cs : List (ℕ × ℕ)). first_key cs None) e))

  all_passed : posted_in old ≡ p.passed
  all_passed = p.parts ∙ ap (λ (ps : List Posted). p.passed ++ ps) no_more ∙ append-nil p.passed

  pub purged : (test : ℕ → Bool) → ((w : Hwnd) (b : Bool) → R w b → b ≡ test w.0) → posted_in now ≡ filter (λ q. not (test q.msg.hwnd.0)) (posted_in old)
  purged test tells = ap (posted_at (get now.slots)) all_done ∙ p.kept test tells ∙ ap (filter (λ q. not (test q.msg.hwnd.0))) (sym all_passed)

  pub purged_fewer : length (posted_in now) ≤ length (posted_in old)
  purged_fewer = omega (arith, p.fewer, ap (λ (ds : List (ℕ × ℕ)). length (posted_at (get now.slots) ds)) all_done, ap length all_passed)

pub purge_begun : (R : Hwnd → Bool → Type 0) (c : Chain) (at : Option ℕ) → IsChain c → at ≡ c.first → IsPurge R c c at
purge_begun R c at chain is = record {
  chain = chain;
  walk = record { done = []; todo = c.index.entries; parts = refl; here = is ∙ chain.first };
  passed = [];
  parts = refl;
  kept = λ test tells. refl;
  fewer = omega arith;
}

use Rattle.std.proofs.Common.{◌≡◌, ◌∙◌, ◌++◌, ◌∷◌, ℕ, List, Option, Some, None, is_some, option_map, sym, ap, subst}
use Rattle.slab.specs.Slab.{get}
use Rattle.win_num.specs.declared.message.Msg.{Msg}
use Rattle.post_queue.specs.Queue.{without_number, message_of}
use Rattle.post_queue.specs.Places.{key_of, without_key}
use Rattle.post_queue.specs.Chains.{posted_at, first_key, last_key, Linked}
use Rattle.post_queue.proofs.Chains.{split_linked, unlinked, message_there, others_there, before_x, after_x, left_posted, right_posted, some_same}
use Rattle.post_queue.proofs.Indexes.{parted, absent, between, first_left, last_left}
use Rattle.post_queue.proofs.chain.take.Goals as goal

pub returns-in_err-key-clause-message : goal.returns-in_err-key-clause-message
returns-in_err-key-clause-message c =
    let none = absent (get c.args.chain.now.slots) c.args.number None 0 c.args.chain.now.index.entries None c.requires.linked (sym c.in_err-key.ensures.value) in
    c.from_residual.ensures ∙ sym (ap (option_map (λ p. p.msg)) none.0)

pub returns-in_err-key-clause-rest : goal.returns-in_err-key-clause-rest
returns-in_err-key-clause-rest c =
    let g = get c.args.chain.now.slots in
    let none = absent g c.args.number None 0 c.args.chain.now.index.entries None c.requires.linked (sym c.in_err-key.ensures.value) in
    ap (posted_at g) (c.in_err-key.ensures.entries ∙ none.2) ∙ sym none.1

pub returns-in_err-key-clause-chain : goal.returns-in_err-key-clause-chain
returns-in_err-key-clause-chain c =
    let g = get c.args.chain.now.slots in
    let none = absent g c.args.number None 0 c.args.chain.now.index.entries None c.requires.linked (sym c.in_err-key.ensures.value) in
    let same : c.take.new.self.entries ≡ c.args.chain.now.index.entries = c.in_err-key.ensures.entries ∙ none.2 in
    record {
      linked = subst (λ (es : List (ℕ × ℕ)). Linked g None 0 es None) (sym same) c.requires.linked;
      first = c.requires.first ∙ ap (λ (es : List (ℕ × ℕ)). first_key es None) (sym same);
      last = c.requires.last ∙ ap (last_key None) (sym same);
    }

pub remove-slot-requires : goal.remove-slot-requires
remove-slot-requires c =
    let g = get c.args.chain.now.slots in
    let cut = parted c.args.number c.args.chain.now.index.entries c.in_ok-key.key (sym c.in_ok-key.ensures.value) in
    let linked = split_linked g None 0 cut.0 ((c.args.number, c.in_ok-key.key) ∷ cut.1) None (subst (λ (es : List (ℕ × ℕ)). Linked g None 0 es None) cut.2 c.requires.linked) in
    ap is_some linked.1.0.here

pub returns-clause-message : goal.returns-clause-message
returns-clause-message c =
    let g = get c.args.chain.now.slots in
    let cut = parted c.args.number c.args.chain.now.index.entries c.in_ok-key.key (sym c.in_ok-key.ensures.value) in
    let linked = subst (λ (es : List (ℕ × ℕ)). Linked g None 0 es None) cut.2 c.requires.linked in
    let x = c.remove-slot.result in
    ap (λ (m : Msg). let o : Option Msg = Some m in o) c.into_msg.ensures
    ∙ sym (ap (λ (es : List (ℕ × ℕ)). message_of (posted_at g es) c.args.number) cut.2
    ∙ ap (option_map (λ p. p.msg)) (message_there g (get c.remove-slot.new.self) (get c.join_after.new.slots) (get c.join_before.new.slots) cut.0 cut.1 (c.args.number, c.in_ok-key.key) linked x c.remove-slot.ensures.value c.remove-slot.ensures.updates.others c.join_after.ensures.slots c.join_before.ensures.slots))

pub returns-clause-rest : goal.returns-clause-rest
returns-clause-rest c =
    let g = get c.args.chain.now.slots in
    let g3 = get c.join_before.new.slots in
    let cut = parted c.args.number c.args.chain.now.index.entries c.in_ok-key.key (sym c.in_ok-key.ensures.value) in
    let linked = subst (λ (es : List (ℕ × ℕ)). Linked g None 0 es None) cut.2 c.requires.linked in
    let x = c.remove-slot.result in
    ap (posted_at g3) (c.in_ok-key.ensures.entries ∙ cut.3)
    ∙ others_there g (get c.remove-slot.new.self) (get c.join_after.new.slots) g3 cut.0 cut.1 (c.args.number, c.in_ok-key.key) linked x c.remove-slot.ensures.value c.remove-slot.ensures.updates.others c.join_after.ensures.slots c.join_before.ensures.slots
    ∙ ap (λ (es : List (ℕ × ℕ)). without_number (posted_at g es) c.args.number) (sym cut.2)

pub returns-clause-chain : goal.returns-clause-chain
returns-clause-chain c =
    let g = get c.args.chain.now.slots in
    let g1 = get c.remove-slot.new.self in
    let g2 = get c.join_after.new.slots in
    let g3 = get c.join_before.new.slots in
    let cut = parted c.args.number c.args.chain.now.index.entries c.in_ok-key.key (sym c.in_ok-key.ensures.value) in
    let e : ℕ × ℕ = (c.args.number, c.in_ok-key.key) in
    let linked = subst (λ (es : List (ℕ × ℕ)). Linked g None 0 es None) cut.2 c.requires.linked in
    let x = c.remove-slot.result in
    let entries : c.take.new.self.entries ≡ cut.0 ++ cut.1 = c.in_ok-key.ensures.entries ∙ cut.3 in
    let before = before_x g g1 g2 g3 cut.0 cut.1 e linked x c.remove-slot.ensures.value c.remove-slot.ensures.updates.others c.join_after.ensures.slots c.join_before.ensures.slots in
    let after = after_x g g1 g2 g3 cut.0 cut.1 e linked x c.remove-slot.ensures.value c.remove-slot.ensures.updates.others c.join_after.ensures.slots c.join_before.ensures.slots in
    record {
      linked = subst (λ (es : List (ℕ × ℕ)). Linked g3 None 0 es None) (sym entries) (unlinked g g1 g2 g3 cut.0 cut.1 e linked x c.remove-slot.ensures.value c.remove-slot.ensures.updates.others c.join_after.ensures.slots c.join_before.ensures.slots);
      first =
          c.join_after.ensures.first
          ∙ first_left cut.0 cut.1 e x.before x.after before after c.args.chain.now.first (c.requires.first ∙ ap (λ (es : List (ℕ × ℕ)). first_key es None) cut.2)
          ∙ ap (λ (es : List (ℕ × ℕ)). first_key es None) (sym entries);
      last =
          c.join_before.ensures.last
          ∙ last_left cut.0 cut.1 e x.before x.after before after c.args.chain.now.last (c.requires.last ∙ ap (last_key None) cut.2)
          ∙ ap (last_key None) (sym entries);
    }

pub returns-in_err-key-clause-parts : goal.returns-in_err-key-clause-parts
returns-in_err-key-clause-parts c = λ us vs key is.
    let g = get c.args.chain.now.slots in
    let linked = subst (λ (es : List (ℕ × ℕ)). Linked g None 0 es None) is c.requires.linked in
    let found = (between g c.args.number key None 0 us vs None linked).0 in
    absurd (cc (c.in_err-key.ensures.value, ap (key_of c.args.number) is ∙ found))

pub returns-clause-parts : goal.returns-clause-parts
returns-clause-parts c = λ us vs key is.
    let g = get c.args.chain.now.slots in
    let g1 = get c.remove-slot.new.self in
    let g2 = get c.join_after.new.slots in
    let g3 = get c.join_before.new.slots in
    let linked = subst (λ (es : List (ℕ × ℕ)). Linked g None 0 es None) is c.requires.linked in
    let both = between g c.args.number key None 0 us vs None linked in
    let same : key ≡ c.in_ok-key.key = some_same key c.in_ok-key.key (sym (ap (key_of c.args.number) is ∙ both.0) ∙ sym c.in_ok-key.ensures.value) in
    let e : ℕ × ℕ = (c.args.number, c.in_ok-key.key) in
    let whole = subst (λ (k : ℕ). Linked g None 0 (us ++ (c.args.number, k) ∷ vs) None) same linked in
    let x = c.remove-slot.result in (
      c.in_ok-key.ensures.entries ∙ ap (without_key c.args.number) is ∙ both.1,
      left_posted g g1 g2 g3 us vs e whole x c.remove-slot.ensures.value c.remove-slot.ensures.updates.others c.join_after.ensures.slots c.join_before.ensures.slots,
      right_posted g g1 g2 g3 us vs e whole x c.remove-slot.ensures.value c.remove-slot.ensures.updates.others c.join_after.ensures.slots c.join_before.ensures.slots,
    )

use Rattle.std.proofs.Common.{◌≡◌, ◌∙◌, ℕ, Option, Some, None, nat_lt, option_copied, sym, ap}
use Rattle.slab.specs.Slab.{get}
use Rattle.post_queue.specs.declared.slot.Slot.{Slot}
use Rattle.post_queue.proofs.Chains.{some_same}
use Rattle.post_queue.proofs.Newest.{last_tells, none_above}
use Rattle.post_queue.proofs.chain.has_above.Goals as goal

pub returns-in_default : goal.returns-in_default
returns-in_default c = sym (none_above (get c.args.chain.now.slots) c.args.number c.args.chain.now.index.entries (sym c.requires.last ∙ c.in_default.is))

pub returns-in-Some-get : goal.returns-in-Some-get
returns-in-Some-get c =
    let told = last_tells (get c.args.chain.now.slots) c.args.number None 0 c.args.chain.now.index.entries None c.requires.linked c.in-Some.key (sym c.requires.last ∙ c.in-Some.is) in
    let found : get c.args.chain.now.slots c.in-Some.key ≡ Some c.in-Some-get.slot.now = sym c.get.ensures ∙ ap option_copied c.in-Some-get.is in
    sym (told.2 ∙ ap (λ (z : Slot). nat_lt c.args.number z.number) (some_same told.0 c.in-Some-get.slot.now (sym told.1 ∙ found)))

pub returns-in-None : goal.returns-in-None
returns-in-None c =
    let told = last_tells (get c.args.chain.now.slots) c.args.number None 0 c.args.chain.now.index.entries None c.requires.linked c.in-Some.key (sym c.requires.last ∙ c.in-Some.is) in
    let none : None ≡ Some told.0 = ap option_copied (sym c.in-None.is) ∙ c.get.ensures ∙ told.1 in
    absurd cc

use Rattle.std.proofs.Common.{◌≡◌, ◌∙◌, Some, sym, ap, refl}
use Rattle.std.specs.Option.{option_copied_mut}
use Rattle.slab.specs.Slab.{get}
use Rattle.post_queue.specs.Chains.{IsAfterChanged}
use Rattle.post_queue.proofs.Chains.{changed_at}
use Rattle.post_queue.proofs.chain.set_after.Goals as goal

pub returns-in-Some-get_mut : goal.returns-in-Some-get_mut
returns-in-Some-get_mut c =
    let found : get c.args.slots.now c.in-Some.key ≡ Some c.in-Some-get_mut.slot.now = sym c.get_mut.follows ∙ ap option_copied_mut c.in-Some-get_mut.is in
    changed_at (IsAfterChanged c.args.after) c.args.slots.now c.args.at c.in-Some.key c.in-Some-get_mut.slot.now _ c.in-Some.is found (record { number = refl; sealed = refl; left = refl; right = refl })

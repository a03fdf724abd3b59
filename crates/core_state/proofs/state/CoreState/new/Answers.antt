use Rattle.std.proofs.Common.{refl}
use Rattle.core_state.proofs.Fresh.{fresh_stands}
use Rattle.core_state.proofs.state.CoreState.new.Goals as goal

pub invariant_of-result : goal.invariant_of-result
invariant_of-result c =
    fresh_stands c.args.setup _ c.new-6.result c.new-7.result c.in_ok-display.display c.new-8.result c.in_ok-threads.threads.items c.new-9.result c.in_ok-groups.groups c.new-10.result c.new-11.result c.in_ok-sends.sends c.new-12.result c.new-13.result.items c.in_ok-looks.looks c.new-14.result
    c.requires c.new-5.ensures.items c.new-6.ensures c.new-7.ensures c.in_ok-display.ensures c.new-8.ensures c.in_ok-threads.ensures.length c.in_ok-threads.ensures.fresh c.new-9.ensures (c.in_ok-groups.ensures c.args.setup c.requires refl) c.new-10.ensures c.new-11.ensures c.in_ok-sends.ensures c.new-12.ensures c.new-13.ensures.items (c.in_ok-looks.ensures c.args.setup refl) c.new-14.ensures

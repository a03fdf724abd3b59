use Rattle.std.proofs.Common.{sym, subst}
use Rattle.core_state.specs.Inputs.{IsNoneOrLive}
use Rattle.core_state.proofs.Homes.{target_in_held}
use Rattle.core_state.proofs.state.CoreState.handed_out.Goals as goal

pub packed-requires : goal.packed-requires
packed-requires c = subst (IsNoneOrLive c.args.self.now.past) (sym c.target-hwnd.ensures) (target_in_held c.args.self.now.setup c.args.self.now.past c.args.element.now)

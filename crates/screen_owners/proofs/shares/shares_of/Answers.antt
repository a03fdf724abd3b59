use Rattle.std.proofs.lemmas.Grind.{common_steps}
use Rattle.std.proofs.Common.{◌≡◌, ◌<◌, ◌∙◌, length, map, ◌+◌, get_or, sym, ap, subst, arith}
use Rattle.std.specs.Prelude.{MatchOption}
use Rattle.std.proofs.lemmas.List.{get_or_default, length-map}
use Rattle.win_num.specs.declared.message.Hwnd.{Hwnd}
use Rattle.win_rows.specs.Windows.{number_of}
use Rattle.screen_owners.specs.Shares.{IsShareOf, IsSharedUpTo, IsUnreached}
use Rattle.screen_owners.proofs.Shared.{more_shared, same_shared}
use Rattle.screen_owners.proofs.shares.shares_of.Goals as goal
use Rattle.screen_owners.proofs.shares.shares_of.Goals.{in-Some+in_ok-push-2, in_default}

pub loop-k-preserved : goal.loop-k-preserved
loop-k-preserved c =
    let ws = c.args.tree.now.live in
    let z = c.args.order.now in
    let k = c.loop-k.k in
    let none : Hwnd = record { 0 = 0 } in
    let u : Hwnd = get_or (map number_of ws) k none in
    let many : length c.windows-windows.result.now ≡ length (map number_of ws) = ap length c.windows-windows.ensures.numbers in
    let within : k < length (map number_of ws) = omega (arith, many) in
    let inside : k < length ws = omega (arith, within, length-map ws number_of) in
    let at : u ≡ get_or (map number_of ws) k u = get_or_default (map number_of ws) k none u within in
    elim c.match-branch-4.branch [
      | in-Some+in_ok-push-2 b ↦
          let of = subst (λ o. MatchOption o (IsUnreached ws z c.args.part.now u) (IsShareOf ws z c.args.part.now u)) b.in-Some.is (c.in_ok-share.ensures u at) in
          more_shared ws c.args.order.now c.args.tree.now.last c.args.part.now c.windows-windows.ensures.ordered c.requires k u c.loop-k.shares.items c.match-branch-4.shares.items b.in-Some.share inside at (ap (λ v. v.items) b.shares-is ∙ b.in_ok-push-2.ensures.items) of c.loop-k.invariant
      | in_default b ↦
          let never = subst (λ o. MatchOption o (IsUnreached ws z c.args.part.now u) (IsShareOf ws z c.args.part.now u)) b.in_default.is (c.in_ok-share.ensures u at) in
          subst (λ v. IsSharedUpTo (k + 1) ws z c.args.part.now v.items) (sym b.shares-is) (same_shared ws c.args.order.now c.args.tree.now.last c.args.part.now c.windows-windows.ensures.ordered c.requires k u c.loop-k.shares.items inside at never c.loop-k.invariant)
    ]

pub share_of-requires-clause-within : goal.share_of-requires-clause-within
share_of-requires-clause-within c = grind (arith, common_steps)

pub returns-clause-shares : goal.returns-clause-shares
returns-clause-shares c = grind (arith, common_steps)

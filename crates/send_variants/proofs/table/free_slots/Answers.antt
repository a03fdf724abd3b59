use Rattle.std.proofs.Common.{◌≡◌, ◌++◌, ◌∷◌, [], List, Some, length, length-append, refl, sym, ap, subst, arith}
use Rattle.send_variants.specs.declared.slot.Slot.{Slot}
use Rattle.send_variants.specs.Tables.{Freed, seen}
use Rattle.send_variants.proofs.Tables.{pushed_free}
use Rattle.send_variants.proofs.table.free_slots.Goals as goal

pub loop-key-preserved : goal.loop-key-preserved
loop-key-preserved c =
    let s = c.loop-key.slots.items in
    let inv = c.loop-key.invariant in
    let y : Slot = _ in
    let items : c.push.new.self.items ≡ s ++ y ∷ [] = c.in_ok-push.ensures.items in
    let more = pushed_free s y c.loop-key.free inv.1.0 refl refl inv.1.1 in (
      omega (arith, ap length items, length-append s (y ∷ []), inv.0),
      (length s ∷ inv.1.0, subst (λ (xs : List Slot). Freed (seen xs 0) (Some c.loop-key.key) (length s ∷ inv.1.0)) (sym items) (subst (λ n. Freed (seen (s ++ y ∷ []) 0) (Some n) (length s ∷ inv.1.0)) inv.0 more), omega (arith, inv.1.2)),
    )

use Rattle.std.proofs.Common.{◌≡◌, ap, sym, subst, ◌∙◌}
use Rattle.std.specs.Prelude.{IsSome, true, false}
use Rattle.std.specs.Option.{option_copied_mut}
use Rattle.std.specs.Ordering.{nat_cmp}
use Rattle.std.specs.Map.{lookup}
use Rattle.std.specs.BTreeMap.{is_at}
use Rattle.std.specs.FinMap as map
use Rattle.send_frames.proofs.Maps.{written, get_by_lookup}
use Rattle.send_frames.proofs.table.Table.set.Goals as goal
use Rattle.send_frames.proofs.table.Table.set.Goals.{in-Some, in_default}

pub returns : goal.returns
returns c =
    let found : IsSome (lookup (is_at (nat_cmp c.args.send.0)) c.self.inside.items.entries) =
    subst IsSome (ap (λ m. map.get m c.args.send.0) (sym c.self.view_is) ∙ get_by_lookup c.self.inside.items.entries c.args.send.0) c.requires in
    elim c.match-get_mut.branch [
      | in-Some w ↦ rw w.self-inside-is (
          written c.self.inside.items.entries (c.get_mut.follows.lender c.args.item).entries c.args.send.0 c.args.item ((c.get_mut.follows.holds c.args.item).3 found).0
          ∙ ap (λ m. map.insert m c.args.send.0 c.args.item) c.self.view_is)
      | in_default w ↦
          let never : false ≡ true = subst IsSome (sym c.get_mut.ensures.value ∙ ap option_copied_mut w.in_default.is) found in
          cc
    ]

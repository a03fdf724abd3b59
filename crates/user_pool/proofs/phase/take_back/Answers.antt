use Rattle.std.proofs.Common.{◌≡◌, ◌<◌, ◌++◌, length, get_or, refl, ap, arith}
use Rattle.user_pool.proofs.Filling.{taken_next, emptied, left_behind, kept_set}
use Rattle.user_pool.proofs.phase.take_back.Goals as goal

pub loop-place-preserved : goal.loop-place-preserved
loop-place-preserved g c =
    let l = c.loop-place in
    let before = c.args.groups.now in
    let groups = l.groups in
    let inside : l.place < length groups = omega arith in
    let d = c.index-groups-place.result in
    let y = record (get_or groups l.place d) { seats = c.append.new.other } in
    let items : c.append.new.self.items ≡ l.seats.items ++ (get_or groups l.place d).seats.items = c.in_ok-append.ensures.items in
    record {
      taken = taken_next (λ x. x.seats.items) before l.place d c.args.clock l.seats.items (get_or groups l.place d).seats.items c.append.new.self.items (omega (arith, inside, l.invariant.workers.count)) l.invariant.taken (ap (λ x. x.seats.items) (l.invariant.left l.place d (omega arith) inside)) items;
      none = emptied (λ x. x.seats.items) groups l.place y inside c.in_ok-append.ensures.other_items l.invariant.none;
      left = left_behind groups before l.place y l.invariant.left;
      workers = kept_set before groups (λ x. x.workers.items) l.place y d inside refl l.invariant.workers;
    }

use Rattle.std.proofs.lemmas.Grind.{common_steps}
use Rattle.std.proofs.Common.{◌≡◌, ◌+◌, ◌<◌, ◌%◌, suc, ◌∷◌, [], ◌++◌, length, get_or, length-set, add-one, refl, ap, ◌∙◌, arith}
use Rattle.std.proofs.lemmas.Nat.{mod_below}
use Rattle.turn_lock.specs.Seats.{new_seat, new_seats}
use Rattle.user_pool.proofs.Handing.{new_seats_at}
use Rattle.user_pool.proofs.Filling.{seat_left, seat_is, rest_left, handed_next, kept_set}
use Rattle.user_pool.proofs.phase.hand_out.Goals as goal

pub remove-requires : goal.remove-requires
remove-requires g c =
    let l = c.loop-thread in
    omega (arith, seat_left c.args.desk.now (c.args.threads + 1) l.seats.items (l.thread + 1) l.invariant.rest (omega arith), l.seats.ok)

pub loop-thread-preserved : goal.loop-thread-preserved
loop-thread-preserved g c =
    let l = c.loop-thread in
    let desk = c.args.desk.now in
    let groups = l.groups in
    let place = l.thread % length groups in
    let inside : place < length groups = mod_below l.thread (length groups) l.invariant.some in
    let d = c.index-groups-place.result in
    let y = record (get_or groups place d) { seats = c.push.new.self } in
    let seat : c.remove.result ≡ new_seat desk (suc l.thread) = seat_is desk (c.args.threads + 1) l.seats.items (l.thread + 1) l.invariant.rest (omega arith) c.remove.result c.remove.ensures.value ∙ ap (λ k. new_seat desk k) (add-one l.thread) in
    let pushed : c.push.new.self.items ≡ (get_or groups place d).seats.items ++ new_seat desk (suc l.thread) ∷ [] = cc (c.in_ok-push.ensures.items, seat) in
    record {
      rest = rest_left (new_seats desk (c.args.threads + 1)) l.seats.items (l.thread + 1) l.invariant.rest c.remove.new.self.items c.remove.ensures.items;
      seats = handed_next desk groups (λ x. x.seats.items) l.thread place y d refl inside pushed l.invariant.seats;
      workers = kept_set c.args.groups.now groups (λ x. x.workers.items) place y d inside refl l.invariant.workers;
      some = omega (arith, length-set groups place y, l.invariant.some);
    }

pub returns-clause-clock : goal.returns-clause-clock
returns-clause-clock g c =
    let clock = c.remove-clock.result in
    c.remove-clock.ensures.value ∙ ap (λ seats. get_or seats 0 clock) c.requires.seats ∙ new_seats_at c.args.desk.now (c.args.threads + 1) 0 clock (omega arith)

pub remove-clock-requires : goal.remove-clock-requires
remove-clock-requires g c = grind (arith, common_steps)

use Rattle.std.proofs.Common.{◌+◌, ◌<◌, [], ◌∷◌, length, get_or, sym, ap, ◌∙◌, subst, length-append}
use Rattle.user_pool.specs.Seats.{IsSeatOf}
use Rattle.user_pool.proofs.Seating.{each_pushed}
use Rattle.user_pool.proofs.seat.new_seats.Goals as goal

pub loop-thread-preserved : goal.loop-thread-preserved
loop-thread-preserved c =
    let l = c.loop-thread in
    let s = c.args.script.now in
    let p = c.args.program.now in
    let seat = c.in_ok-new.field-0 in
    let items = c.in_ok-push.ensures.items in
    let here = subst (λ k. IsSeatOf s p [] (k + 1) seat) (sym l.invariant.count) (c.in_ok-new.ensures s c.requires.program) in
    record {
      count = ap length items ∙ length-append l.seats.items (seat ∷ []) ∙ ap (λ k. k + 1) l.invariant.count;
      at = λ i d lt.
          subst (λ xs. IsSeatOf s p [] (i + 1) (get_or xs i d)) (sym items)
          (each_pushed (λ k x. IsSeatOf s p [] (k + 1) x) l.seats.items seat l.invariant.at here i d (subst (λ xs. i < length xs) items lt));
    }

use Rattle.std.proofs.Common.{◌+◌, ◌++◌, List, ℕ, take, arith}
use Rattle.std.proofs.KnownBytes.{Consumes-trans}
use Rattle.std.proofs.lemmas.List.{length-append, length-take, length-take-le}
use Rattle.user_io.proofs.reading.read_all.Goals as goal

pub returns-clause-long : goal.returns-clause-long
returns-clause-long g c = λ e. (c.loop-piece.text.items, c.loop-piece.invariant.bytes, omega (arith, c.loop-piece.text.ok))

-- the text so far and the piece that found no room in memory
pub returns-in_err-extend_from_slice-in-Took-clause-bound : goal.returns-in_err-extend_from_slice-in-Took-clause-bound
returns-in_err-extend_from_slice-in-Took-clause-bound g c =
    let read : List ℕ = take c.in-Took.count c.read.new.buf in
    let so_far : List ℕ = c.loop-piece.text.items in
    let within = c.in-Took.ensures.taken.within in (
      so_far ++ read,
      Consumes-trans _ _ _ so_far read c.loop-piece.invariant.bytes c.in-Took.ensures.taken.bytes,
      omega (arith, within, c.read.auto.buf, length-take (c.min-room.result + 1) c.loop-piece.piece, length-append so_far read, length-take-le c.in-Took.count c.read.new.buf within, c.min-room.ensures, c.loop-piece.text.ok),
    )

use Rattle.std.proofs.Common.{◌≡◌, ◌<◌, ◌+◌, true, [], ◌∷◌, ◌++◌, length, ap, sym, ◌∙◌, subst, arith, length-append}
use mathlib.Core.Option.{none}
use Rattle.atomic_table.specs.Table.{step}
use Rattle.status_board.specs.Lists.{shown, said_by, Counts}
use Rattle.status_board.proofs.Beginnings.{said_back, counts_push}
use Rattle.status_board.proofs.Keeping.{adds, still_writes}
use Rattle.status_board.proofs.writer.BoardWriter.show.Goals as goal

pub store-requires : goal.store-requires
store-requires c =
    let here = c.self.invariant.3 ∙ sym (ap (λ b. b.shared.table_id) c.deref.ensures) in
    let writes : c.self.inside.place.me.0.writes ≡ true = ap (λ m. m.0.writes) c.self.invariant.0 in
    let small : c.args.value < 4294967296 = c.ranges.value.fits in
    let is : said_by c.word-word.result ≡ shown (c.self.inside.counter + 1) c.args.value = ap said_by c.word-word.ensures ∙ said_back (shown (c.self.inside.counter + 1) c.args.value) small in
    let next : (said_by c.word-word.result).number ≡ length c.self.inside.place.me.0.list + 1 = ap (λ x. x.number) is ∙ ap (λ n. n + 1) (sym c.self.invariant.2) in (
      here,
      omega (arith, c.self.invariant.4, ap (λ t. t.words) here),
      adds (step c.deref.result.now.shared.table_id.slots 0 c.word-word.result 0 none) _ c.self.inside.place.id c.self.inside.place.me.0 c.self.inside.place.me.1 c.word-word.result writes next,
    )

-- the list goes on by what was published
added : (c : goal.After-self-1) → c.store.new.seat.me.0.list ≡ c.self.inside.place.me.0.list ++ shown (c.self.inside.counter + 1) c.args.value ∷ []
added c =
    let is : said_by c.word-word.result ≡ shown (c.self.inside.counter + 1) c.args.value = ap said_by c.word-word.ensures ∙ said_back (shown (c.self.inside.counter + 1) c.args.value) c.ranges.value.fits in
    ap (λ m. m.0.list) c.store.ensures.2 ∙ ap (λ x. c.self.inside.place.me.0.list ++ x ∷ []) is

counts : (c : goal.After-self-1) → Counts c.store.new.seat.me.0.list
counts c = subst Counts (sym (added c)) (counts_push 0 c.self.inside.place.me.0.list (shown (c.self.inside.counter + 1) c.args.value) c.self.invariant.1 (omega (arith, c.self.invariant.2)) c.ranges.value.fits)

pub invariant_of-self : goal.invariant_of-self
invariant_of-self c = (
  still_writes c.self.inside.place.me c.store.new.seat.me (said_by c.word-word.result) c.self.invariant.0 c.store.ensures.2,
  counts c,
  omega (arith, ap (λ l. length l) (added c), length-append c.self.inside.place.me.0.list (shown (c.self.inside.counter + 1) c.args.value ∷ []), c.self.invariant.2),
  c.store.ensures.0 ∙ c.self.invariant.3,
  ap (λ t. t.words) c.store.ensures.0 ∙ c.self.invariant.4,
)

pub returns-clause-numbers : goal.returns-clause-numbers
returns-clause-numbers c = counts c

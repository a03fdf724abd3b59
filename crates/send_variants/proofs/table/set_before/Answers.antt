use Rattle.std.proofs.Common.{◌≡◌, length, Some, slice_get, slice_set, refl, sym, ap, subst, ◌∙◌, arith}
use Rattle.std.proofs.lemmas.Option.{slice_get_read, slice_get_past}
use Rattle.send_variants.specs.Tables.{IsBeforeChanged, IsChangedAt}
use Rattle.send_variants.proofs.Tables.{changed_at, absent_at}
use Rattle.send_variants.proofs.table.set_before.Goals as goal

pub returns-then-i-len : goal.returns-then-i-len
returns-then-i-len c =
    let s = c.args.slots.now.items in
    let i = c.from-i.result in
    let z = c.index_mut.result.now in
    let found : slice_get s i ≡ Some z = slice_get_read s (length s) i z refl (omega (arith, c.if-i-len.true, c.len.ensures, c.args.slots.now.ok)) c.index_mut.ensures.value in
    subst (λ n. IsChangedAt (Some n) (IsBeforeChanged c.args.before) (slice_get s) (slice_get (slice_set s i (record z { before = c.args.before })))) c.from-i.ensures
    (changed_at (IsBeforeChanged c.args.before) s i z (record z { before = c.args.before }) found (record { thread = refl; place = refl; ready = refl; left = refl; right = refl }))

pub returns-else-i-len : goal.returns-else-i-len
returns-else-i-len c =
    let s = c.args.slots.now.items in
    absent_at (IsBeforeChanged c.args.before) s c.args.key (ap (slice_get s) (sym c.from-i.ensures) ∙ slice_get_past s c.from-i.result (omega (arith, c.if-i-len.false, c.len.ensures, c.args.slots.now.ok)))

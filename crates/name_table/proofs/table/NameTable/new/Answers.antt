use Rattle.std.proofs.Common.{◌≡◌, true, refl, sym, ◌∙◌}
use Rattle.std.proofs.lemmas.Bool.{false≢true}
use Rattle.name_table.specs.Rows.{is_one_to_one, IsFirstRepeat}
use Rattle.name_table.specs.Tables.{all_named}
use Rattle.name_table.proofs.RowsLemmas.{first_repeat, repeat-shares, one_to_one_more, whole}
use Rattle.name_table.proofs.table.NameTable.new.Goals as goal

pub returns-in-Some : goal.returns-in-Some
returns-in-Some c =
    let found = c.first_before.ensures in
    let repeat : IsFirstRepeat (all_named c.args.rows.now) c.in-Some.first c.loop-second.second = first_repeat c.args.rows.now c.in-Some.first c.loop-second.second found.0 c.loop-second-test.true found.1 (sym found.2 ∙ c.in-Some.is) c.loop-second.invariant in
    record { ok = tt; one_to_one = (λ e. absurd (false≢true e), λ h. absurd (repeat-shares (all_named c.args.rows.now) c.in-Some.first c.loop-second.second repeat h)); repeat = repeat }

pub returns : goal.returns
returns c =
    let h : is_one_to_one (all_named c.args.rows.now) ≡ true = whole c.args.rows.now c.loop-second.second c.loop-second-test.false c.loop-second.invariant in
    record { ok = refl; one_to_one = (λ e. h, λ e. refl); repeat = tt }

pub loop-second-preserved : goal.loop-second-preserved
loop-second-preserved c =
    let found = c.first_before.ensures in
    one_to_one_more c.args.rows.now c.loop-second.second found.0 c.loop-second-test.true found.1 (sym found.2 ∙ c.in_default.is) c.loop-second.invariant

use Rattle.std.proofs.Common.{◌≡◌, refl, sym, ◌∙◌, true, arith}
use Rattle.log_text.specs.Ends.{end_of}
use Rattle.run_explorer.specs.Reports.{is_stuck, is_spent}
use Rattle.run_explorer.specs.Marks.{is_marked}
use Rattle.run_explorer.proofs.report.Report.new.Goals as goal

pub returns-clause-told : goal.returns-clause-told
returns-clause-told c = λ s name asked. record {
  ends = record {
    count = refl;
    entries = refl;
    done = refl;
    stuck = c.new.ensures (λ past. is_stuck (end_of s past));
    spent = c.new-2.ensures (λ past. is_spent (end_of s past));
  };
  marked = c.new-3.ensures (is_marked s name);
  asks = sym asked;
}

pub returns-clause-sized : goal.returns-clause-sized
returns-clause-sized c =
    let stuck : c.new.result.count ≡ 0 = (c.new.ensures (λ past. true)).count ∙ refl in
    let spent : c.new-2.result.count ≡ 0 = (c.new-2.ensures (λ past. true)).count ∙ refl in
    let marked : c.new-3.result.count ≡ 0 = (c.new-3.ensures (λ past. true)).count ∙ refl in
    record { entries = omega arith; done = omega arith; stuck = omega (arith, stuck); spent = omega (arith, spent); marked = omega (arith, marked) }

use Rattle.std.proofs.Common.{rules, ◌≡◌, ◌≤◌, ◌∙◌, true, false, refl, sym, arith}
use Rattle.std.specs.Prelude.{option_copied}
use Rattle.run_explorer.proofs.Exploring.{made_short, none_made, next_made, all_explored, some_explored}
use Rattle.run_explorer.proofs.Marking.{some_copied}
use Rattle.run_explorer.proofs.Ways.{ways_fall}
use Rattle.run_explorer.proofs.search.explore.Goals as goal

pub loop-report-init : goal.loop-report-init
loop-report-init g c =
    let s = c.args.script.now in
    let name = option_copied c.args.name in
    record {
      made = none_made s c.args.bound c.args.part name c.new-path.result c.new-report.result (c.new-path.ensures s c.args.bound c.args.part) (c.new-report.ensures.told s name (some_copied c.args.name ∙ sym c.is_some.ensures));
      sized = c.new-report.ensures.sized;
      few = omega (arith, c.new-report.ensures.none);
      more = c.new-report.ensures.more;
    }

pub returns-then-not-turn_back : goal.returns-then-not-turn_back
returns-then-not-turn_back g c =
    let s = c.args.script.now in
    let further = c.in_ok-tell_run.ensures.further in
    let over : c.turn_back.result ≡ false = search (rules, c.if-not-turn_back.true) in
    let few : c.tell_run.new.report.runs ≤ c.args.limit = omega (arith, c.in_ok-tell_run.ensures.count) in
    all_explored s c.args.bound c.args.part (option_copied c.args.name) c.args.limit c.tell_run.new.path c.tell_run.new.report _ further few
    (c.turn_back.ensures.none over s c.args.bound c.args.part further.runs further.last further.made further.closed) refl refl refl refl refl refl refl refl

pub loop-report-preserved : goal.loop-report-preserved
loop-report-preserved g c =
    let s = c.args.script.now in
    let further = c.in_ok-tell_run.ensures.further in
    let on : c.turn_back.result ≡ true = search (rules, c.if-not-turn_back.false) in
    record {
      made = next_made s c.args.bound c.args.part (option_copied c.args.name) c.tell_run.new.path c.turn_back.new.self c.tell_run.new.report further (c.turn_back.ensures.turned on s c.args.bound c.args.part further.runs further.last further.made further.closed);
      sized = c.in_ok-tell_run.ensures.sized;
      few = omega (arith, c.in_ok-tell_run.ensures.count);
      more = c.in_ok-tell_run.ensures.same ∙ c.loop-report.invariant.more;
    }

pub loop-report-smaller : goal.loop-report-smaller
loop-report-smaller g c =
    let s = c.args.script.now in
    let further = c.in_ok-tell_run.ensures.further in
    let on : c.turn_back.result ≡ true = search (rules, c.if-not-turn_back.false) in
    let short = made_short s c.args.bound c.tell_run.new.path.steps.items further.last c.requires.few c.requires.small further.made in
    ways_fall 2097152 c.turn_back.new.self c.tell_run.new.path c.loop-report.path (c.turn_back.ensures.further on s c.args.bound further.last c.requires.few further.made) c.in_ok-tell_run.ensures.along short

pub returns : goal.returns
returns g c =
    let full : c.args.limit ≤ c.loop-report.report.runs = omega arith in
    some_explored c.args.script.now c.args.bound c.args.part (option_copied c.args.name) c.args.limit c.loop-report.path c.loop-report.report c.loop-report.invariant.made c.loop-report.invariant.more c.loop-report.invariant.few full

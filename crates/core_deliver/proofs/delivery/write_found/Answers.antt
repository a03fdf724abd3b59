use Rattle.std.proofs.Common.{ap, arith, sym, ◌∙◌}
use Rattle.core_deliver.specs.Reads.{reads_for}
use Rattle.core_deliver.proofs.Searching.{found_is_row, found_reads, refused_is_row}
use Rattle.core_deliver.proofs.delivery.write_found.Goals as goal

pub returns-in-Some-clause-answer : goal.returns-in-Some-clause-answer
returns-in-Some-clause-answer g c = refused_is_row c.args.state.now.setup c.args.state.now.past c.args.who c.args.call.now c.in-Some.code c.requires.group (sym c.filter_refusal.ensures ∙ c.in-Some.is)

pub returns-in-None-clause-answer : goal.returns-in-None-clause-answer
returns-in-None-clause-answer g c =
    c.write_next.ensures.answer
    ∙ found_is_row c.args.state.now.setup c.args.state.now.past c.args.who c.args.call.now c.filter_in.result c.none_found.result c.requires.group (sym c.filter_refusal.ensures ∙ c.in-None.is) c.filter_in.ensures c.none_found.ensures

pub returns-in-None-clause-reads : goal.returns-in-None-clause-reads
returns-in-None-clause-reads g c =
    let same = ap (reads_for c.args.state.now.past c.args.who) c.filter_in.ensures ∙ found_reads c.args.state.now.past c.args.who c.args.call.now c.requires.group in
    omega (arith, same, c.write_next.ensures.reads)

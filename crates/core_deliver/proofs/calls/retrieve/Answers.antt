use Rattle.std.proofs.Common.{arith}
use Rattle.core_deliver.proofs.Reading.{reads_of_posted, reads_unfiltered}
use Rattle.core_deliver.proofs.calls.retrieve.Goals as goal

pub returns-clause-unfiltered : goal.returns-clause-unfiltered
returns-clause-unfiltered g c = λ all.
    let few = reads_unfiltered c.args.s.now.past c.args.who.0 c.args.call.now all in
    omega (arith, few, c.retrieve_in.ensures.reads)

pub returns-clause-most : goal.returns-clause-most
returns-clause-most g c =
    let few = reads_of_posted c.args.s.now.past c.args.who.0 c.args.call.now in
    omega (arith, few, c.retrieve_in.ensures.reads)

pub returns-in_err-retrieve_in-clause-unfiltered : goal.returns-in_err-retrieve_in-clause-unfiltered
returns-in_err-retrieve_in-clause-unfiltered g c = λ all.
    let few = reads_unfiltered c.args.s.now.past c.args.who.0 c.args.call.now all in
    omega (arith, few, c.retrieve_in.ensures.reads)

pub returns-in_err-retrieve_in-clause-most : goal.returns-in_err-retrieve_in-clause-most
returns-in_err-retrieve_in-clause-most g c =
    let few = reads_of_posted c.args.s.now.past c.args.who.0 c.args.call.now in
    omega (arith, few, c.retrieve_in.ensures.reads)

use Rattle.std.proofs.Common.{◌∙◌, sym}
use Rattle.post_queue.proofs.PlaceLemmas.{first_gone}
use Rattle.post_queue.proofs.index.taken_first.Goals as goal

pub drop_left-requires : goal.drop_left-requires
drop_left-requires c = (first_gone c.args.number c.args.places.now.items c.pop_front.new.self.items c.in_ok-first.first c.requires.first c.in_ok-first.ensures.items c.requires.rises).2

pub returns-clause-value : goal.returns-clause-value
returns-clause-value c = sym (first_gone c.args.number c.args.places.now.items c.pop_front.new.self.items c.in_ok-first.first c.requires.first c.in_ok-first.ensures.items c.requires.rises).0

pub returns-clause-kept : goal.returns-clause-kept
returns-clause-kept c = c.drop_left.ensures.kept ∙ sym (first_gone c.args.number c.args.places.now.items c.pop_front.new.self.items c.in_ok-first.first c.requires.first c.in_ok-first.ensures.items c.requires.rises).1

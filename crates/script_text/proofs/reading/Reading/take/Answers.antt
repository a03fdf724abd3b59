use Rattle.std.proofs.Common.{refl}
use Rattle.script_lines.specs.declared.line.Line.TheVariants.{Call}
use Rattle.script_lines.specs.LineReading.{split_at}
use Rattle.script_text.specs.Judging.{nest_in, lines_in}
use Rattle.script_text.proofs.BuildLemmas.{sound_last}
use Rattle.script_text.proofs.Judging.{frequent_taken, frequent_refused, frequent_added}
use Rattle.script_text.proofs.reading.Reading.take.Goals as goal

pub returns-in-Some-clause-taken : goal.returns-in-Some-clause-taken
returns-in-Some-clause-taken c =
    let old = c.args.self.now in
    frequent_taken old.known (split_at 32 c.args.text.now) c.args.text.now (Call c.in-Some.call) c.in-Some.ensures refl c.requires.known c.take_call.result (nest_in old.builder) (nest_in c.take_call.new.self) old.threads c.requires.few c.take_call.ensures.nest

pub returns-in-Some-clause-refused : goal.returns-in-Some-clause-refused
returns-in-Some-clause-refused c =
    let old = c.args.self.now in
    frequent_refused old.known (split_at 32 c.args.text.now) c.args.text.now (Call c.in-Some.call) c.in-Some.ensures refl c.requires.known c.take_call.result (nest_in old.builder) (nest_in c.take_call.new.self) old.threads c.take_call.ensures.nest

pub returns-in-Some-clause-added : goal.returns-in-Some-clause-added
returns-in-Some-clause-added c =
    let old = c.args.self.now in
    frequent_added old.known (split_at 32 c.args.text.now) c.args.text.now (Call c.in-Some.call) c.in-Some.ensures refl c.requires.known c.take_call.result (lines_in old.builder) (lines_in c.take_call.new.self) c.take_call.ensures.lines

pub returns-in-Some-clause-sound : goal.returns-in-Some-clause-sound
returns-in-Some-clause-sound c =
    let old = c.args.self.now.builder in
    let new = c.take_call.new.self in
    sound_last c.take_call.result old.procedures.items old.threads.items new.procedures.items new.threads.items old.blocks.items new.blocks.items (Call c.in-Some.call) c.requires.sound c.take_call.ensures.nest

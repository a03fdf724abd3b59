use Rattle.std.proofs.Common.{◌≡◌, ℕ, List, Bor, ap, ◌∙◌}
use Rattle.std.specs.Prelude.{map}
use Rattle.script_lines.specs.LineReading.{split_at}
use Rattle.script_text.specs.Judging.{nest_in, lines_in}
use Rattle.script_text.proofs.BuildLemmas.{sound_last}
use Rattle.script_text.proofs.Judging.{frequent_taken, frequent_refused, frequent_added}
use Rattle.script_text.proofs.reading.Reading.take_text.Goals as goal

pub returns-in-Some-clause-taken : goal.returns-in-Some-clause-taken
returns-in-Some-clause-taken c =
    let read : Bor (List ℕ) → List ℕ = λ w. w.now in
    let old = c.args.self.now in
    let words : map read c.deref.result.now ≡ split_at 32 c.args.text.now = ap (map read) c.deref.ensures.value ∙ c.in_ok-words_into.ensures in
    frequent_taken old.known (map read c.deref.result.now) c.args.text.now c.in-Some.line c.in-Some.ensures words c.requires.known c.take.result (nest_in old.builder) (nest_in c.take.new.self) old.threads c.requires.few c.take.ensures.nest

pub returns-in-Some-clause-refused : goal.returns-in-Some-clause-refused
returns-in-Some-clause-refused c =
    let read : Bor (List ℕ) → List ℕ = λ w. w.now in
    let old = c.args.self.now in
    let words : map read c.deref.result.now ≡ split_at 32 c.args.text.now = ap (map read) c.deref.ensures.value ∙ c.in_ok-words_into.ensures in
    frequent_refused old.known (map read c.deref.result.now) c.args.text.now c.in-Some.line c.in-Some.ensures words c.requires.known c.take.result (nest_in old.builder) (nest_in c.take.new.self) old.threads c.take.ensures.nest

pub returns-in-Some-clause-added : goal.returns-in-Some-clause-added
returns-in-Some-clause-added c =
    let read : Bor (List ℕ) → List ℕ = λ w. w.now in
    let old = c.args.self.now in
    let words : map read c.deref.result.now ≡ split_at 32 c.args.text.now = ap (map read) c.deref.ensures.value ∙ c.in_ok-words_into.ensures in
    frequent_added old.known (map read c.deref.result.now) c.args.text.now c.in-Some.line c.in-Some.ensures words c.requires.known c.take.result (lines_in old.builder) (lines_in c.take.new.self) c.take.ensures.lines

pub returns-in-Some-clause-sound : goal.returns-in-Some-clause-sound
returns-in-Some-clause-sound c =
    let old = c.args.self.now.builder in
    let new = c.take.new.self in
    sound_last c.take.result old.procedures.items old.threads.items new.procedures.items new.threads.items old.blocks.items new.blocks.items c.in-Some.line c.requires.sound c.take.ensures.nest

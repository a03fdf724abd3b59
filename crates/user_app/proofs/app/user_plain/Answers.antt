use Rattle.std.proofs.Common.{map, refl, subst, inl, inr}
use Rattle.std.specs.String.{string_bytes}
use Rattle.user_pool.specs.Runs.{IsListed}
use Rattle.user_app.specs.declared.request.LogForm.{LogForm}
use Rattle.user_app.specs.Checks.{CheckEnds}
use Rattle.user_app.specs.Outcomes.{MakeEnds, InputEnds}
use Rattle.user_app.proofs.InputEndings.{write_failed, never_words, never_illegal, never_wrong}
use Rattle.user_app.proofs.Requests.{asks_to_run, same_form, same_number, check_no_run, check_no_make, check_no_threads, run_or_threads, make_or_threads}
use Rattle.user_app.proofs.app.user_plain.Goals as goal

pub returns-in-Run-clause-run : goal.returns-in-Run-clause-run
returns-in-Run-clause-run g c = λ form asks.
    subst (λ (f : LogForm). InputEnds IsListed f (g.S.Source.left c.args.source.now) (g.S.Source.left c.run_input.new.source) (g.K.Sink.holds c.args.sink.now) (g.K.Sink.holds c.run_input.new.sink) (g.S.Source.faults c.args.source.now) (g.S.Source.faults c.run_input.new.source) (g.K.Sink.faults c.args.sink.now) (g.K.Sink.faults c.run_input.new.sink) c.run_input.result) (same_form (map string_bytes c.args.words.now) c.in-Run.form form c.in-Run.ensures asks) c.run_input.ensures.ends

pub returns-in-Run-clause-write_fault : goal.returns-in-Run-clause-write_fault
returns-in-Run-clause-write_fault g c = λ is. write_failed IsListed c.in-Run.form (g.S.Source.left c.args.source.now) (g.S.Source.left c.run_input.new.source) (g.K.Sink.holds c.args.sink.now) (g.K.Sink.holds c.run_input.new.sink) (g.S.Source.faults c.args.source.now) (g.S.Source.faults c.run_input.new.source) (g.K.Sink.faults c.args.sink.now) (g.K.Sink.faults c.run_input.new.sink) c.run_input.result is c.run_input.ensures.ends

pub returns-in-Run-clause-words_only : goal.returns-in-Run-clause-words_only
returns-in-Run-clause-words_only g c = λ is. absurd (never_words IsListed c.in-Run.form (g.S.Source.left c.args.source.now) (g.S.Source.left c.run_input.new.source) (g.K.Sink.holds c.args.sink.now) (g.K.Sink.holds c.run_input.new.sink) (g.S.Source.faults c.args.source.now) (g.S.Source.faults c.run_input.new.source) (g.K.Sink.faults c.args.sink.now) (g.K.Sink.faults c.run_input.new.sink) c.run_input.result is c.run_input.ensures.ends)

pub returns-in-Check-clause-run : goal.returns-in-Check-clause-run
returns-in-Check-clause-run g c = λ form asks. absurd (check_no_run (map string_bytes c.args.words.now) form c.in-Check.ensures asks)

pub returns-in-Make-clause-made : goal.returns-in-Make-clause-made
returns-in-Make-clause-made g c = λ n asks.
    (refl, subst (λ k. MakeEnds k (g.K.Sink.holds c.args.sink.now) (g.K.Sink.holds c.run_made.new.sink) (g.K.Sink.faults c.args.sink.now) (g.K.Sink.faults c.run_made.new.sink) c.run_made.result) (same_number (map string_bytes c.args.words.now) c.in-Make.number n c.in-Make.ensures asks) c.run_made.ensures.written)

pub returns-in-Run-clause-words : goal.returns-in-Run-clause-words
returns-in-Run-clause-words g c = λ none. absurd (asks_to_run (map string_bytes c.args.words.now) c.in-Run.form c.in-Run.ensures none)

pub returns-in-Run-clause-read : goal.returns-in-Run-clause-read
returns-in-Run-clause-read g c = λ is. inl (c.in-Run.form, c.in-Run.ensures)

pub returns-in-Run-clause-read_fault : goal.returns-in-Run-clause-read_fault
returns-in-Run-clause-read_fault g c = λ is.
    let told = c.run_input.ensures.read_fault is in
    (inl (c.in-Run.form, c.in-Run.ensures), told.0, told.1)

pub returns-in-Run-clause-checked : goal.returns-in-Run-clause-checked
returns-in-Run-clause-checked g c = λ asks. absurd (check_no_run (map string_bytes c.args.words.now) c.in-Run.form asks c.in-Run.ensures)

pub returns-in-Run-clause-illegal : goal.returns-in-Run-clause-illegal
returns-in-Run-clause-illegal g c = λ is. absurd (never_illegal IsListed c.in-Run.form (g.S.Source.left c.args.source.now) (g.S.Source.left c.run_input.new.source) (g.K.Sink.holds c.args.sink.now) (g.K.Sink.holds c.run_input.new.sink) (g.S.Source.faults c.args.source.now) (g.S.Source.faults c.run_input.new.source) (g.K.Sink.faults c.args.sink.now) (g.K.Sink.faults c.run_input.new.sink) c.run_input.result is c.run_input.ensures.ends)

pub returns-in-Make-clause-checked : goal.returns-in-Make-clause-checked
returns-in-Make-clause-checked g c = λ asks. absurd (check_no_make (map string_bytes c.args.words.now) c.in-Make.number asks c.in-Make.ensures)

pub returns-in-Make-clause-illegal : goal.returns-in-Make-clause-illegal
returns-in-Make-clause-illegal g c = λ is. absurd (subst (MakeEnds c.in-Make.number (g.K.Sink.holds c.args.sink.now) (g.K.Sink.holds c.run_made.new.sink) (g.K.Sink.faults c.args.sink.now) (g.K.Sink.faults c.run_made.new.sink)) is c.run_made.ensures.written)

pub returns-in-Check-clause-words : goal.returns-in-Check-clause-words
returns-in-Check-clause-words g c = λ none. absurd (none.no_check c.in-Check.ensures)

pub returns-in-Check-clause-words_only : goal.returns-in-Check-clause-words_only
returns-in-Check-clause-words_only g c = λ is.
    absurd (subst (CheckEnds (g.S.Source.left c.args.source.now) (g.S.Source.left c.check_input.new.source) (g.S.Source.faults c.args.source.now) (g.S.Source.faults c.check_input.new.source) (g.K.Sink.holds c.args.sink.now) (g.K.Sink.holds c.check_input.new.sink) (g.K.Sink.faults c.args.sink.now) (g.K.Sink.faults c.check_input.new.sink)) is c.check_input.ensures.checked)

pub returns-in-Check-clause-read : goal.returns-in-Check-clause-read
returns-in-Check-clause-read g c = λ is. inr c.in-Check.ensures

pub returns-in-Check-clause-read_fault : goal.returns-in-Check-clause-read_fault
returns-in-Check-clause-read_fault g c = λ is.
    let told = c.check_input.ensures.read_fault is in
    (inr c.in-Check.ensures, told.0, told.1)

pub returns-in-Check-clause-made : goal.returns-in-Check-clause-made
returns-in-Check-clause-made g c = λ n asks. absurd (check_no_make (map string_bytes c.args.words.now) n c.in-Check.ensures asks)

pub returns-in-Check-clause-checked : goal.returns-in-Check-clause-checked
returns-in-Check-clause-checked g c = λ asks. c.check_input.ensures.checked

pub returns-in-Check-clause-illegal : goal.returns-in-Check-clause-illegal
returns-in-Check-clause-illegal g c = λ is. c.in-Check.ensures

pub returns-in-Run-clause-wrong : goal.returns-in-Run-clause-wrong
returns-in-Run-clause-wrong g c = λ asks. absurd (run_or_threads (map string_bytes c.args.words.now) c.in-Run.form asks.0 c.in-Run.ensures asks.1)

pub returns-in-Make-clause-wrong : goal.returns-in-Make-clause-wrong
returns-in-Make-clause-wrong g c = λ asks. absurd (make_or_threads (map string_bytes c.args.words.now) c.in-Make.number asks.0 c.in-Make.ensures asks.1)

pub returns-in-Threads-clause-made : goal.returns-in-Threads-clause-made
returns-in-Threads-clause-made g c = λ n asks. absurd (make_or_threads (map string_bytes c.args.words.now) n c.in-Threads.field-0 asks c.in-Threads.ensures)

pub returns-in-Check-clause-wrong : goal.returns-in-Check-clause-wrong
returns-in-Check-clause-wrong g c = λ asks. absurd (check_no_threads (map string_bytes c.args.words.now) asks.0 c.in-Check.ensures asks.1)

pub returns-in-Threads-clause-checked : goal.returns-in-Threads-clause-checked
returns-in-Threads-clause-checked g c = λ asks. absurd (check_no_threads (map string_bytes c.args.words.now) c.in-Threads.field-0 asks c.in-Threads.ensures)

pub returns-in-Run-clause-wrong_only : goal.returns-in-Run-clause-wrong_only
returns-in-Run-clause-wrong_only g c = λ is. absurd (never_wrong IsListed c.in-Run.form (g.S.Source.left c.args.source.now) (g.S.Source.left c.run_input.new.source) (g.K.Sink.holds c.args.sink.now) (g.K.Sink.holds c.run_input.new.sink) (g.S.Source.faults c.args.source.now) (g.S.Source.faults c.run_input.new.source) (g.K.Sink.faults c.args.sink.now) (g.K.Sink.faults c.run_input.new.sink) c.run_input.result is c.run_input.ensures.ends)

pub returns-in-Make-clause-wrong_only : goal.returns-in-Make-clause-wrong_only
returns-in-Make-clause-wrong_only g c = λ is. absurd (subst (MakeEnds c.in-Make.number (g.K.Sink.holds c.args.sink.now) (g.K.Sink.holds c.run_made.new.sink) (g.K.Sink.faults c.args.sink.now) (g.K.Sink.faults c.run_made.new.sink)) is c.run_made.ensures.written)

pub returns-in-Check-clause-wrong_only : goal.returns-in-Check-clause-wrong_only
returns-in-Check-clause-wrong_only g c = λ is.
    absurd (subst (CheckEnds (g.S.Source.left c.args.source.now) (g.S.Source.left c.check_input.new.source) (g.S.Source.faults c.args.source.now) (g.S.Source.faults c.check_input.new.source) (g.K.Sink.holds c.args.sink.now) (g.K.Sink.holds c.check_input.new.sink) (g.K.Sink.faults c.args.sink.now) (g.K.Sink.faults c.check_input.new.sink)) is c.check_input.ensures.checked)

use Rattle.std.proofs.Common.{map, refl, inl, inr}
use Rattle.std.specs.String.{string_bytes}
use Rattle.user_pool.specs.Runs.{IsRun}
use Rattle.user_app.specs.declared.request.LogForm.TheVariants.{Plain}
use Rattle.user_app.proofs.InputEndings.{never_words, never_wrong, write_failed}
use Rattle.user_app.proofs.Requests.{plain_or_threads, asks_plain, asks_to_run, run_or_threads, make_or_threads, check_no_threads}
use Rattle.user_app.proofs.threads.user_threads.Goals as goal

pub returns-in-Threads-clause-words : goal.returns-in-Threads-clause-words
returns-in-Threads-clause-words g c = λ none. absurd (none.no_threads c.in-Threads.groups c.in-Threads.ensures)

pub returns-in-Threads-clause-words_only : goal.returns-in-Threads-clause-words_only
returns-in-Threads-clause-words_only g c = λ is.
    absurd (never_words IsRun Plain (g.S.Source.left c.args.source.now) (g.S.Source.left c.run_input.new.source) (g.K.Sink.holds c.args.sink.now) (g.K.Sink.holds c.run_input.new.sink) (g.S.Source.faults c.args.source.now) (g.S.Source.faults c.run_input.new.source) (g.K.Sink.faults c.args.sink.now) (g.K.Sink.faults c.run_input.new.sink)
    c.run_input.result is c.run_input.ensures.ends)

pub returns-in-Threads-clause-wrong : goal.returns-in-Threads-clause-wrong
returns-in-Threads-clause-wrong g c = λ plain. absurd (plain_or_threads (map string_bytes c.args.words.now) plain (c.in-Threads.groups, c.in-Threads.ensures))

pub returns-in-Threads-clause-wrong_only : goal.returns-in-Threads-clause-wrong_only
returns-in-Threads-clause-wrong_only g c = λ is.
    absurd (never_wrong IsRun Plain (g.S.Source.left c.args.source.now) (g.S.Source.left c.run_input.new.source) (g.K.Sink.holds c.args.sink.now) (g.K.Sink.holds c.run_input.new.sink) (g.S.Source.faults c.args.source.now) (g.S.Source.faults c.run_input.new.source) (g.K.Sink.faults c.args.sink.now) (g.K.Sink.faults c.run_input.new.sink)
    c.run_input.result is c.run_input.ensures.ends)

pub returns-in-Threads-clause-read : goal.returns-in-Threads-clause-read
returns-in-Threads-clause-read g c = λ is. (c.in-Threads.groups, c.in-Threads.ensures)

pub returns-in-Threads-clause-read_fault : goal.returns-in-Threads-clause-read_fault
returns-in-Threads-clause-read_fault g c = λ is.
    let told = c.run_input.ensures.read_fault is in
    ((c.in-Threads.groups, c.in-Threads.ensures), told.0, told.1)

pub returns-in-Threads-clause-write_fault : goal.returns-in-Threads-clause-write_fault
returns-in-Threads-clause-write_fault g c = λ is.
    write_failed IsRun Plain (g.S.Source.left c.args.source.now) (g.S.Source.left c.run_input.new.source) (g.K.Sink.holds c.args.sink.now) (g.K.Sink.holds c.run_input.new.sink) (g.S.Source.faults c.args.source.now) (g.S.Source.faults c.run_input.new.source) (g.K.Sink.faults c.args.sink.now) (g.K.Sink.faults c.run_input.new.sink)
    c.run_input.result is c.run_input.ensures.ends

pub returns-in-Nothing-clause-wrong : goal.returns-in-Nothing-clause-wrong
returns-in-Nothing-clause-wrong g c = λ plain. absurd (asks_plain (map string_bytes c.args.words.now) plain c.in-Nothing.ensures)

pub returns-in-Nothing-clause-threads : goal.returns-in-Nothing-clause-threads
returns-in-Nothing-clause-threads g c = λ n asks. absurd (c.in-Nothing.ensures.no_threads n asks)

pub returns-in-Run-clause-words : goal.returns-in-Run-clause-words
returns-in-Run-clause-words g c = λ none. absurd (asks_to_run (map string_bytes c.args.words.now) c.in-Run.field-0 c.in-Run.ensures none)

pub returns-in-Run-clause-wrong_only : goal.returns-in-Run-clause-wrong_only
returns-in-Run-clause-wrong_only g c = λ is. (inl (inl (c.in-Run.field-0, c.in-Run.ensures)), refl, refl)

pub returns-in-Run-clause-threads : goal.returns-in-Run-clause-threads
returns-in-Run-clause-threads g c = λ n asks. absurd (run_or_threads (map string_bytes c.args.words.now) c.in-Run.field-0 n c.in-Run.ensures asks)

pub returns-in-Make-clause-words : goal.returns-in-Make-clause-words
returns-in-Make-clause-words g c = λ none. absurd (none.no_make c.in-Make.field-0 c.in-Make.ensures)

pub returns-in-Make-clause-wrong_only : goal.returns-in-Make-clause-wrong_only
returns-in-Make-clause-wrong_only g c = λ is. (inr (c.in-Make.field-0, c.in-Make.ensures), refl, refl)

pub returns-in-Make-clause-threads : goal.returns-in-Make-clause-threads
returns-in-Make-clause-threads g c = λ n asks. absurd (make_or_threads (map string_bytes c.args.words.now) c.in-Make.field-0 n c.in-Make.ensures asks)

pub returns-in-Check-clause-words : goal.returns-in-Check-clause-words
returns-in-Check-clause-words g c = λ none. absurd (none.no_check c.in-Check.ensures)

pub returns-in-Check-clause-wrong_only : goal.returns-in-Check-clause-wrong_only
returns-in-Check-clause-wrong_only g c = λ is. (inl (inr c.in-Check.ensures), refl, refl)

pub returns-in-Check-clause-threads : goal.returns-in-Check-clause-threads
returns-in-Check-clause-threads g c = λ n asks. absurd (check_no_threads (map string_bytes c.args.words.now) n c.in-Check.ensures asks)

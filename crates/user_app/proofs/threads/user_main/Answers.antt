use Rattle.std.proofs.Common.{map, ap, subst, ◌∙◌, inl, inr}
use Rattle.std.specs.String.{string_bytes}
use Rattle.user_io.specs.Outside.{Rose}
use Rattle.user_pool.specs.Runs.{IsRun}
use Rattle.user_app.specs.declared.request.LogForm.TheVariants.{Plain}
use Rattle.user_app.proofs.InputEndings.{never_illegal, moved}
use Rattle.user_app.proofs.Requests.{plain_or_threads, run_or_threads, make_or_threads, check_no_threads}
use Rattle.user_app.proofs.threads.user_main.Goals as goal

pub returns-in-WrongCall-clause-run : goal.returns-in-WrongCall-clause-run
returns-in-WrongCall-clause-run g c = λ form asks.
    absurd (run_or_threads (map string_bytes c.args.words.now) form (c.user_plain.ensures.wrong_only c.in-WrongCall.is).0.0 asks (c.user_plain.ensures.wrong_only c.in-WrongCall.is).0.1)

pub returns-in-WrongCall-clause-words_only : goal.returns-in-WrongCall-clause-words_only
returns-in-WrongCall-clause-words_only g c = λ is.
    let wrong = c.user_plain.ensures.wrong_only c.in-WrongCall.is in
    let told = c.user_threads.ensures.words_only is in
    (told.0, told.1 ∙ wrong.1, told.2 ∙ wrong.2)

pub returns-in-WrongCall-clause-never_wrong : goal.returns-in-WrongCall-clause-never_wrong
returns-in-WrongCall-clause-never_wrong g c = λ is. plain_or_threads (map string_bytes c.args.words.now) (c.user_threads.ensures.wrong_only is).0 (c.user_plain.ensures.wrong_only c.in-WrongCall.is).0

pub returns-in-WrongCall-clause-read : goal.returns-in-WrongCall-clause-read
returns-in-WrongCall-clause-read g c = λ is. inr (c.user_plain.ensures.wrong_only c.in-WrongCall.is).0

pub returns-in-WrongCall-clause-read_fault : goal.returns-in-WrongCall-clause-read_fault
returns-in-WrongCall-clause-read_fault g c = λ is.
    let wrong = c.user_plain.ensures.wrong_only c.in-WrongCall.is in
    let told = c.user_threads.ensures.read_fault is in
    (inr wrong.0, subst (λ s. Rose (g.S.Source.faults s) (g.S.Source.faults c.user_threads.new.source)) wrong.1 told.1, told.2 ∙ wrong.2)

pub returns-in-WrongCall-clause-write_fault : goal.returns-in-WrongCall-clause-write_fault
returns-in-WrongCall-clause-write_fault g c = λ is.
    subst (λ s. Rose (g.K.Sink.faults s) (g.K.Sink.faults c.user_threads.new.sink)) (c.user_plain.ensures.wrong_only c.in-WrongCall.is).2 (c.user_threads.ensures.write_fault is)

pub returns-in-WrongCall-clause-whole : goal.returns-in-WrongCall-clause-whole
returns-in-WrongCall-clause-whole g c = λ whole.
    let wrong = c.user_plain.ensures.wrong_only c.in-WrongCall.is in
    let told = c.user_threads.ensures.whole whole in
    (told.0 ∙ ap (λ s. g.S.Source.faults s) wrong.1, told.1 ∙ ap (λ s. g.K.Sink.faults s) wrong.2)

pub returns-in-WrongCall-clause-made : goal.returns-in-WrongCall-clause-made
returns-in-WrongCall-clause-made g c = λ n asks.
    absurd (make_or_threads (map string_bytes c.args.words.now) n (c.user_plain.ensures.wrong_only c.in-WrongCall.is).0.0 asks (c.user_plain.ensures.wrong_only c.in-WrongCall.is).0.1)

pub returns-in-WrongCall-clause-checked : goal.returns-in-WrongCall-clause-checked
returns-in-WrongCall-clause-checked g c = λ asks.
    absurd (check_no_threads (map string_bytes c.args.words.now) (c.user_plain.ensures.wrong_only c.in-WrongCall.is).0.0 asks (c.user_plain.ensures.wrong_only c.in-WrongCall.is).0.1)

pub returns-in-WrongCall-clause-illegal : goal.returns-in-WrongCall-clause-illegal
returns-in-WrongCall-clause-illegal g c = λ is.
    absurd (never_illegal IsRun Plain (g.S.Source.left c.user_plain.new.source) (g.S.Source.left c.user_threads.new.source) (g.K.Sink.holds c.user_plain.new.sink) (g.K.Sink.holds c.user_threads.new.sink) (g.S.Source.faults c.user_plain.new.source) (g.S.Source.faults c.user_threads.new.source) (g.K.Sink.faults c.user_plain.new.sink) (g.K.Sink.faults c.user_threads.new.sink) c.user_threads.result is (c.user_threads.ensures.threads (c.user_plain.ensures.wrong_only c.in-WrongCall.is).0.0 (c.user_plain.ensures.wrong_only c.in-WrongCall.is).0.1))

pub returns-in-WrongCall-clause-threads : goal.returns-in-WrongCall-clause-threads
returns-in-WrongCall-clause-threads g c = λ n asks.
    let wrong = c.user_plain.ensures.wrong_only c.in-WrongCall.is in
    moved IsRun Plain g.S.Source.left g.S.Source.faults g.K.Sink.holds g.K.Sink.faults c.args.source.now c.user_plain.new.source c.user_threads.new.source c.args.sink.now c.user_plain.new.sink c.user_threads.new.sink c.user_threads.result wrong.1 wrong.2 (c.user_threads.ensures.threads n asks)

pub returns-in_default-clause-never_wrong : goal.returns-in_default-clause-never_wrong
returns-in_default-clause-never_wrong g c = λ is. absurd (c.in_default.not-WrongCall is)

pub returns-in_default-clause-read : goal.returns-in_default-clause-read
returns-in_default-clause-read g c = λ is. inl (c.user_plain.ensures.read is)

pub returns-in_default-clause-read_fault : goal.returns-in_default-clause-read_fault
returns-in_default-clause-read_fault g c = λ is.
    let told = c.user_plain.ensures.read_fault is in
    (inl told.0, told.1, told.2)

pub returns-in_default-clause-threads : goal.returns-in_default-clause-threads
returns-in_default-clause-threads g c = λ n asks. absurd (c.in_default.not-WrongCall (c.user_plain.ensures.wrong (n, asks)))

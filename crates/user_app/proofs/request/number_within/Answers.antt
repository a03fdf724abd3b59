use Rattle.std.proofs.Common.{◌≡◌, Ok, sym, ap, ◌∙◌, arith}
use Rattle.std.specs.Prelude.{decimal}
use Rattle.std.proofs.lemmas.Bool.{false≢true}
use Rattle.std.proofs.lemmas.Fmt.{parse-decimal}
use Rattle.user_app.proofs.Requests.{same_ok}
use Rattle.user_app.proofs.request.number_within.Goals as goal
use Rattle.user_app.proofs.request.number_within.Goals.{then-number-lt1-via-then-number-lt1, then-number-lt1-via-else-number-lt1+then-number-most}

pub returns-in_default-clause-none : goal.returns-in_default-clause-none
returns-in_default-clause-none c = λ _ n some few e.
    let parsed : c.parse.result ≡ Ok n = parse-decimal 32 n c.args.word.now c.parse.result (omega arith) (omega arith) e c.parse.ensures.value.0 in
    let failed = c.in_default.is in
    absurd cc

pub returns-then-number-lt1-clause-none : goal.returns-then-number-lt1-clause-none
returns-then-number-lt1-clause-none c = λ _ n some few e.
    let parsed : c.parse.result ≡ Ok n = parse-decimal 32 n c.args.word.now c.parse.result (omega arith) (omega arith) e c.parse.ensures.value.0 in
    let same : c.in-Ok.number ≡ n = same_ok c.parse.result c.in-Ok.number n c.in-Ok.is parsed in
    elim c.then-number-lt1.branch [
      | then-number-lt1-via-then-number-lt1 w ↦ absurd (omega (arith, same, some, w.if-number-lt1.true))
      | then-number-lt1-via-else-number-lt1+then-number-most w ↦ absurd (omega (arith, same, few, w.if-number-most.true))
    ]

pub returns-then-not-same_text-clause-none : goal.returns-then-not-same_text-clause-none
returns-then-not-same_text-clause-none c = λ _ n some few e.
    let parsed : c.parse.result ≡ Ok n = parse-decimal 32 n c.args.word.now c.parse.result (omega arith) (omega arith) e c.parse.ensures.value.0 in
    let same : c.in-Ok.number ≡ n = same_ok c.parse.result c.in-Ok.number n c.in-Ok.is parsed in
    let texts : c.as_bytes.result.now ≡ c.as_bytes-2.result.now = c.as_bytes.ensures.value ∙ c.format.ensures.text ∙ ap decimal same ∙ sym e ∙ sym c.as_bytes-2.ensures.value in
    let hit = c.same_text.ensures.1 texts in
    absurd (false≢true (sym c.if-not-same_text.true ∙ hit))

use Rattle.std.proofs.Common.{ap, ◌∙◌, arith}
use Rattle.std.specs.Prelude.{map}
use Rattle.log_read.proofs.LogParts.{log_texts, enough, inner_lines, last_line, ok_then}
use Rattle.log_read.proofs.parser.parse.Goals as goal

pub returns-in_default-clause-again : goal.returns-in_default-clause-again
returns-in_default-clause-again c l fits e =
    let s = c.args.words.now.script.now in
    let texts = ap (map (λ w. w.now)) c.as_slice.ensures.value ∙ c.in_ok-texts.ensures ∙ log_texts s l c.args.bytes.now c.requires.named fits e in
    absurd (omega (arith, enough (λ w. w.now) s l c.as_slice.result.now texts, c.in_default.len_below))

pub returns-clause-again : goal.returns-clause-again
returns-clause-again c =
    ok_then _ _ c.log_at.result
    (λ found again l fits e.
    let s = c.args.words.now.script.now in
    let texts = ap (map (λ w. w.now)) c.as_slice.ensures.value ∙ c.in_ok-texts.ensures ∙ log_texts s l c.args.bytes.now c.requires.named fits e in
    again l fits (inner_lines (λ w. w.now) s l c.as_slice.result.now texts) (last_line (λ w. w.now) s l c.as_slice.result.now texts _))
    c.log_at.ensures.again

use Rattle.std.proofs.Common.{ap, sym, ◌∙◌}
use Rattle.answer_table.specs.Answers.{answer_name}
use Rattle.log_read.proofs.EntryParts.{answer_here, answer_read}
use Rattle.log_read.proofs.OneLog.{some_same}
use Rattle.log_read.proofs.entries.answer_at.Goals as goal

pub returns-in_err-name-clause-again : goal.returns-in_err-name-clause-again
returns-in_err-name-clause-again c x front fits e n =
    let s = c.args.words.now.script.now in
    let named = c.in_err-name.ensures.back (answer_name x) (sym (c.word_at.ensures ∙ answer_here s x _ front c.args.at e n)) in
    absurd (cc named)

pub returns-in_err-values-clause-again : goal.returns-in_err-values-clause-again
returns-in_err-values-clause-again c x front fits e n =
    let s = c.args.words.now.script.now in
    let named = some_same _ _ (c.in_ok-name.ensures.back (answer_name x) (sym (c.word_at.ensures ∙ answer_here s x _ front c.args.at e n))) in
    let read = answer_read s x _ front c.args.at c.in_ok-name.name _ _ c.requires.named fits e n named (ap (λ r. r.fields) c.answer_form.ensures) c.in_err-values.ensures.found in
    absurd (cc read)

pub returns-clause-again : goal.returns-clause-again
returns-clause-again c x front fits e n =
    let s = c.args.words.now.script.now in
    let named = some_same _ _ (c.in_ok-name.ensures.back (answer_name x) (sym (c.word_at.ensures ∙ answer_here s x _ front c.args.at e n))) in
    let read = answer_read s x _ front c.args.at c.in_ok-name.name _ _ c.requires.named fits e n named (ap (λ r. r.fields) c.answer_form.ensures) c.in_ok-values.ensures.found in
    c.answer_of_parts.ensures.back x (record { name_is = sym named; parts_are = sym (c.deref.ensures.0 ∙ some_same _ _ read) })

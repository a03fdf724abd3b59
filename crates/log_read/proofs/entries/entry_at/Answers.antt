use Rattle.std.proofs.Common.{Option, ◌+◌, [], ◌∷◌, length, Some, ap, ◌∙◌, refl}
use Rattle.std.specs.Prelude.{codes, decimal}
use Rattle.call_table.specs.Calls.{call_row, call_name}
use Rattle.user_model.specs.declared.entry.Entry.{Entry}
use Rattle.log_read.specs.Reading.{actor_at}
use Rattle.log_read.specs.Words.{call_words, answer_words}
use Rattle.log_read.proofs.EntryParts.{actor_here, before_answer, answer_behind, answer_place}
use Rattle.log_read.proofs.OneLog.{some_same, entry_of}
use Rattle.log_read.proofs.entries.entry_at.Goals as goal

pub returns-in_err-who-clause-again : goal.returns-in_err-who-clause-again
returns-in_err-who-clause-again c e fits same =
    let s = c.args.words.now.script.now in
    let who = actor_here s e.who _ [] (call_words s e.call (codes "=" ∷ answer_words s e.answer)) 0 fits.who same refl in
    let found = c.in_err-who.ensures.found ∙ ap actor_at c.word_at.ensures ∙ who in
    absurd (cc found)

pub returns-in_err-call-clause-again : goal.returns-in_err-call-clause-again
returns-in_err-call-clause-again c e fits same =
    let s = c.args.words.now.script.now in
    let call = c.in_err-call.ensures.again e.call (decimal e.who.0 ∷ []) (codes "=" ∷ answer_words s e.answer) fits.call same refl in
    absurd (cc call)

pub returns-in_err-answer-clause-again : goal.returns-in_err-answer-clause-again
returns-in_err-answer-clause-again c e fits same =
    let s = c.args.words.now.script.now in
    let call = some_same _ _ (c.in_ok-call.ensures.again e.call (decimal e.who.0 ∷ []) (codes "=" ∷ answer_words s e.answer) fits.call same refl) in
    let place = ap (λ r. 3 + length r.fields) c.call_form.ensures ∙ ap (λ n. 3 + length (call_row n).fields) (c.call_name.ensures ∙ ap call_name call) in
    let answer = c.in_err-answer.ensures.again e.answer (before_answer s e) fits.answer (answer_behind s e _ same) (answer_place s e _ place) in
    absurd (cc answer)

pub returns-clause-again : goal.returns-clause-again
returns-clause-again c e fits same =
    let s = c.args.words.now.script.now in
    let who = some_same _ _ (c.in_ok-who.ensures.found ∙ ap actor_at c.word_at.ensures ∙ actor_here s e.who _ [] (call_words s e.call (codes "=" ∷ answer_words s e.answer)) 0 fits.who same refl) in
    let call = some_same _ _ (c.in_ok-call.ensures.again e.call (decimal e.who.0 ∷ []) (codes "=" ∷ answer_words s e.answer) fits.call same refl) in
    let place = ap (λ r. 3 + length r.fields) c.call_form.ensures ∙ ap (λ n. 3 + length (call_row n).fields) (c.call_name.ensures ∙ ap call_name call) in
    let answer = some_same _ _ (c.in_ok-answer.ensures.again e.answer (before_answer s e) fits.answer (answer_behind s e _ same) (answer_place s e _ place)) in
    ap (λ (x : Entry). let o : Option Entry = Some x in o) (entry_of _ e (ap (λ t. t.0) who) call answer)

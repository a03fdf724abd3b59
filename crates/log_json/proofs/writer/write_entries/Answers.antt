use Rattle.std.proofs.Common.{List, ℕ, ◌++◌, ◌∙◌, ap, reverse, subst}
use Rattle.std.specs.Prelude.{option_copied}
use Rattle.std.proofs.lemmas.List.{reverse-reverse}
use Rattle.user_model.specs.declared.call.Call.TheVariants.{Peek}
use Rattle.user_model.specs.declared.entry.Answer.TheVariants.{Okay}
use Rattle.user_model.specs.declared.entry.Entry.{Entry}
use Rattle.user_io.specs.Outside.{AppendsPart}
use Rattle.user_io.proofs.Written.{keep_err}
use Rattle.log_text.specs.Passing.{Passes}
use Rattle.log_json.specs.Logs.{entries_json}
use Rattle.log_text.proofs.EntryTexts.{all_past}
use Rattle.log_json.proofs.EntryLines.{entry_shown, entry_passed, part_of_entries}
use Rattle.log_json.proofs.writer.write_entries.Goals as goal

abbrev any : Entry
any = record { who = record { 0 = 0 }; call = Peek 0 0 0 0; answer = Okay }

pub returns-in_err-write_entry-clause-err : goal.returns-in_err-write_entry-clause-err
returns-in_err-write_entry-clause-err g c =
    let s = c.args.words.now.script.now in
    let past = g.M.Machine.past c.args.machine.now in
    let h = c.history-history.result.now in
    let a = g.K.Sink.holds c.args.sink.now in
    let b = g.K.Sink.holds c.loop-entry.sink in
    let d = g.K.Sink.holds c.write_entry.new.sink in
    let piece = entry_shown s (g.M.Machine.setup c.args.machine.now) past h c.loop-entry.entry-index any (option_copied c.frame_at.result) c.requires.setup c.requires.lawful c.history-history.ensures c.loop-entry-test.true c.frame_at.ensures in
    let part = subst (λ (l : List ℕ). AppendsPart b d (c.loop-entry.text.items ++ l)) piece c.in_err-write_entry.ensures.err in
    let front = part_of_entries a b d c.args.text.now.items c.loop-entry.text.items s h c.loop-entry.entry-index any c.loop-entry-test.true c.loop-entry.invariant.passed part in
    keep_err c.from_residual.result (subst (λ p. AppendsPart a d (c.args.text.now.items ++ entries_json s p)) (ap reverse c.history-history.ensures ∙ reverse-reverse past) front)

pub loop-entry-preserved : goal.loop-entry-preserved
loop-entry-preserved g c =
    let s = c.args.words.now.script.now in
    let past = g.M.Machine.past c.args.machine.now in
    let h = c.history-history.result.now in
    let a = g.K.Sink.holds c.args.sink.now in
    let b = g.K.Sink.holds c.loop-entry.sink in
    let d = g.K.Sink.holds c.write_entry.new.sink in
    let piece = entry_shown s (g.M.Machine.setup c.args.machine.now) past h c.loop-entry.entry-index any (option_copied c.frame_at.result) c.requires.setup c.requires.lawful c.history-history.ensures c.loop-entry-test.true c.frame_at.ensures in
    let passed = subst (λ (l : List ℕ). Passes b d c.loop-entry.text.items c.write_entry.new.text.items l) piece c.in_ok-write_entry.ensures.ok in
    record {
      passed = entry_passed a b d c.args.text.now.items c.loop-entry.text.items c.write_entry.new.text.items s h c.loop-entry.entry-index any c.loop-entry-test.true c.loop-entry.invariant.passed passed;
      faults = c.in_ok-write_entry.ensures.unfailed ∙ c.loop-entry.invariant.faults;
    }

pub returns-clause-ok : goal.returns-clause-ok
returns-clause-ok g c =
    let s = c.args.words.now.script.now in
    let past = g.M.Machine.past c.args.machine.now in
    subst (λ p. Passes (g.K.Sink.holds c.args.sink.now) (g.K.Sink.holds c.loop-entry.sink) c.args.text.now.items c.loop-entry.text.items (entries_json s p))
    (all_past c.history-history.result.now past c.loop-entry.entry-index c.history-history.ensures c.loop-entry-test.false) c.loop-entry.invariant.passed

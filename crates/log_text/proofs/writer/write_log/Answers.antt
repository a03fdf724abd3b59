use Rattle.std.proofs.Common.{◌≡◌, ◌++◌, List, ℕ, ap, ◌∙◌, subst}
use Rattle.std.specs.Prelude.{codes}
use Rattle.std.specs.Io.KnownBytes.{Appends}
use Rattle.user_io.specs.Outside.{AppendsPart}
use Rattle.user_io.proofs.Written.{part_none, part_longer, keep_err}
use Rattle.script_tree.specs.Tree.{Tree}
use Rattle.log_text.specs.Ends.{end_of}
use Rattle.log_text.specs.Entries.{entries_text}
use Rattle.log_text.specs.Endings.{ending}
use Rattle.log_text.specs.Logs.{log}
use Rattle.log_text.specs.Passing.{Passes}
use Rattle.log_text.proofs.Passed.{part_then, part_so_far, written_then}
use Rattle.log_text.proofs.writer.write_log.Goals as goal

pub returns-in_err-put_text-clause-err : goal.returns-in_err-put_text-clause-err
returns-in_err-put_text-clause-err g c = keep_err c.from_residual.result (part_none _ _)

pub returns-in_err-write_entries-clause-err : goal.returns-in_err-write_entries-clause-err
unfolding log
returns-in_err-write_entries-clause-err g c =
    let h = g.M.Machine.past c.args.machine.now in
    let a = g.K.Sink.holds c.args.sink.now in
    let b = g.K.Sink.holds c.write_entries.new.sink in
    let lines : List ℕ = entries_text c.args.script.now h in
    let last : List ℕ = ending c.args.script.now h (end_of c.args.script.now h) in
    let first : c.put_text.new.out.items ≡ codes "log 1\n" = c.in_ok-put_text.ensures.is ∙ ap (λ (l : List ℕ). l ++ codes "log 1\n") c.new-text.ensures.items in
    let part : AppendsPart a b (c.put_text.new.out.items ++ lines) = subst (λ (x : Tree). AppendsPart a b (c.put_text.new.out.items ++ entries_text x h)) c.new-words.ensures c.in_err-write_entries.ensures.err in
    let front : AppendsPart a b (codes "log 1\n" ++ lines) = subst (λ (l : List ℕ). AppendsPart a b (l ++ lines)) first part in
    keep_err c.from_residual-in_err-write_entries.result (part_longer a b (codes "log 1\n" ++ lines) last front)

pub returns-in_err-put_ending-clause-err : goal.returns-in_err-put_ending-clause-err
unfolding log
returns-in_err-put_ending-clause-err g c =
    let h = g.M.Machine.past c.args.machine.now in
    let a = g.K.Sink.holds c.args.sink.now in
    let b = g.K.Sink.holds c.write_entries.new.sink in
    let lines : List ℕ = entries_text c.args.script.now h in
    let last : List ℕ = ending c.args.script.now h (end_of c.args.script.now h) in
    let first : c.put_text.new.out.items ≡ codes "log 1\n" = c.in_ok-put_text.ensures.is ∙ ap (λ (l : List ℕ). l ++ codes "log 1\n") c.new-text.ensures.items in
    let passed : Passes a b c.put_text.new.out.items c.write_entries.new.text.items lines = subst (λ (x : Tree). Passes a b c.put_text.new.out.items c.write_entries.new.text.items (entries_text x h)) c.new-words.ensures c.in_ok-write_entries.ensures.ok in
    let front : Passes a b (codes "log 1\n") c.write_entries.new.text.items lines = subst (λ (l : List ℕ). Passes a b l c.write_entries.new.text.items lines) first passed in
    keep_err c.from_residual-in_err-put_ending.result (part_so_far a b (codes "log 1\n") c.write_entries.new.text.items lines last front)

pub returns-in_err-write_all-clause-err : goal.returns-in_err-write_all-clause-err
unfolding log
returns-in_err-write_all-clause-err g c =
    let s = c.args.script.now in
    let h = g.M.Machine.past c.args.machine.now in
    let a = g.K.Sink.holds c.args.sink.now in
    let b = g.K.Sink.holds c.write_entries.new.sink in
    let d = g.K.Sink.holds c.write_all.new.sink in
    let lines : List ℕ = entries_text c.args.script.now h in
    let last : List ℕ = ending s h (end_of s h) in
    let first : c.put_text.new.out.items ≡ codes "log 1\n" = c.in_ok-put_text.ensures.is ∙ ap (λ (l : List ℕ). l ++ codes "log 1\n") c.new-text.ensures.items in
    let passed : Passes a b c.put_text.new.out.items c.write_entries.new.text.items lines = subst (λ (x : Tree). Passes a b c.put_text.new.out.items c.write_entries.new.text.items (entries_text x h)) c.new-words.ensures c.in_ok-write_entries.ensures.ok in
    let front : Passes a b (codes "log 1\n") c.write_entries.new.text.items lines = subst (λ (l : List ℕ). Passes a b l c.write_entries.new.text.items lines) first passed in
    let text : c.deref.result.now ≡ c.write_entries.new.text.items ++ last = c.deref.ensures.value ∙ c.in_ok-put_ending.ensures.is ∙ ap (λ (x : Tree). c.write_entries.new.text.items ++ ending x h c.args.end) c.new-words.ensures ∙ ap (λ e. c.write_entries.new.text.items ++ ending s h e) c.requires.end in
    let part : AppendsPart b d (c.write_entries.new.text.items ++ last) = subst (AppendsPart b d) text c.in_err-write_all.ensures.err in
    keep_err c.from_residual-in_err-write_all.result (part_then a b d (codes "log 1\n") c.write_entries.new.text.items lines last front part)

pub returns-clause-ok : goal.returns-clause-ok
unfolding log
returns-clause-ok g c =
    let s = c.args.script.now in
    let h = g.M.Machine.past c.args.machine.now in
    let a = g.K.Sink.holds c.args.sink.now in
    let b = g.K.Sink.holds c.write_entries.new.sink in
    let d = g.K.Sink.holds c.write_all.new.sink in
    let lines : List ℕ = entries_text c.args.script.now h in
    let last : List ℕ = ending s h (end_of s h) in
    let first : c.put_text.new.out.items ≡ codes "log 1\n" = c.in_ok-put_text.ensures.is ∙ ap (λ (l : List ℕ). l ++ codes "log 1\n") c.new-text.ensures.items in
    let passed : Passes a b c.put_text.new.out.items c.write_entries.new.text.items lines = subst (λ (x : Tree). Passes a b c.put_text.new.out.items c.write_entries.new.text.items (entries_text x h)) c.new-words.ensures c.in_ok-write_entries.ensures.ok in
    let front : Passes a b (codes "log 1\n") c.write_entries.new.text.items lines = subst (λ (l : List ℕ). Passes a b l c.write_entries.new.text.items lines) first passed in
    let text : c.deref.result.now ≡ c.write_entries.new.text.items ++ last = c.deref.ensures.value ∙ c.in_ok-put_ending.ensures.is ∙ ap (λ (x : Tree). c.write_entries.new.text.items ++ ending x h c.args.end) c.new-words.ensures ∙ ap (λ e. c.write_entries.new.text.items ++ ending s h e) c.requires.end in
    written_then a b d (codes "log 1\n") c.write_entries.new.text.items lines last front (subst (Appends b d) text c.in_ok-write_all.ensures.ok)

use Rattle.std.proofs.Common.{◌≡◌, [], ◌++◌, List, ℕ, ap, ◌∙◌, subst}
use Rattle.std.specs.Io.KnownBytes.{Appends}
use Rattle.user_io.specs.Outside.{AppendsPart}
use Rattle.user_io.proofs.Written.{part_longer, keep_err}
use Rattle.script_tree.specs.Tree.{Tree}
use Rattle.log_text.specs.Ends.{end_of}
use Rattle.log_text.specs.Passing.{Passes}
use Rattle.log_text.proofs.Passed.{part_then, part_so_far, written_then}
use Rattle.log_json.specs.Logs.{entries_json, json}
use Rattle.log_json.specs.Objects.{ending}
use Rattle.log_json.proofs.writer.write_json.Goals as goal

pub returns-in_err-write_entries-clause-err : goal.returns-in_err-write_entries-clause-err
unfolding json
returns-in_err-write_entries-clause-err g c =
    let h = g.M.Machine.past c.args.machine.now in
    let a = g.K.Sink.holds c.args.sink.now in
    let b = g.K.Sink.holds c.write_entries.new.sink in
    let lines : List ℕ = entries_json c.args.script.now h in
    let last : List ℕ = ending c.args.script.now h (end_of c.args.script.now h) in
    let part : AppendsPart a b (c.new-text.result.items ++ lines) = subst (λ (x : Tree). AppendsPart a b (c.new-text.result.items ++ entries_json x h)) c.new-words.ensures c.in_err-write_entries.ensures.err in
    let front : AppendsPart a b lines = subst (λ (l : List ℕ). AppendsPart a b (l ++ lines)) c.new-text.ensures.items part in
    keep_err c.from_residual.result (part_longer a b lines last front)

pub returns-in_err-put_ending-clause-err : goal.returns-in_err-put_ending-clause-err
unfolding json
returns-in_err-put_ending-clause-err g c =
    let h = g.M.Machine.past c.args.machine.now in
    let a = g.K.Sink.holds c.args.sink.now in
    let b = g.K.Sink.holds c.write_entries.new.sink in
    let lines : List ℕ = entries_json c.args.script.now h in
    let last : List ℕ = ending c.args.script.now h (end_of c.args.script.now h) in
    let passed : Passes a b c.new-text.result.items c.write_entries.new.text.items lines = subst (λ (x : Tree). Passes a b c.new-text.result.items c.write_entries.new.text.items (entries_json x h)) c.new-words.ensures c.in_ok-write_entries.ensures.ok in
    let front : Passes a b [] c.write_entries.new.text.items lines = subst (λ (l : List ℕ). Passes a b l c.write_entries.new.text.items lines) c.new-text.ensures.items passed in
    keep_err c.from_residual-in_err-put_ending.result (part_so_far a b [] c.write_entries.new.text.items lines last front)

pub returns-in_err-write_all-clause-err : goal.returns-in_err-write_all-clause-err
unfolding json
returns-in_err-write_all-clause-err g c =
    let s = c.args.script.now in
    let h = g.M.Machine.past c.args.machine.now in
    let a = g.K.Sink.holds c.args.sink.now in
    let b = g.K.Sink.holds c.write_entries.new.sink in
    let d = g.K.Sink.holds c.write_all.new.sink in
    let lines : List ℕ = entries_json s h in
    let last : List ℕ = ending s h (end_of s h) in
    let passed : Passes a b c.new-text.result.items c.write_entries.new.text.items lines = subst (λ (x : Tree). Passes a b c.new-text.result.items c.write_entries.new.text.items (entries_json x h)) c.new-words.ensures c.in_ok-write_entries.ensures.ok in
    let front : Passes a b [] c.write_entries.new.text.items lines = subst (λ (l : List ℕ). Passes a b l c.write_entries.new.text.items lines) c.new-text.ensures.items passed in
    let text : c.deref.result.now ≡ c.write_entries.new.text.items ++ last = c.deref.ensures.value ∙ c.in_ok-put_ending.ensures.is ∙ ap (λ (x : Tree). c.write_entries.new.text.items ++ ending x h c.args.end) c.new-words.ensures ∙ ap (λ e. c.write_entries.new.text.items ++ ending s h e) c.requires.end in
    let part : AppendsPart b d (c.write_entries.new.text.items ++ last) = subst (AppendsPart b d) text c.in_err-write_all.ensures.err in
    keep_err c.from_residual-in_err-write_all.result (part_then a b d [] c.write_entries.new.text.items lines last front part)

pub returns-clause-ok : goal.returns-clause-ok
unfolding json
returns-clause-ok g c =
    let s = c.args.script.now in
    let h = g.M.Machine.past c.args.machine.now in
    let a = g.K.Sink.holds c.args.sink.now in
    let b = g.K.Sink.holds c.write_entries.new.sink in
    let d = g.K.Sink.holds c.write_all.new.sink in
    let lines : List ℕ = entries_json s h in
    let last : List ℕ = ending s h (end_of s h) in
    let passed : Passes a b c.new-text.result.items c.write_entries.new.text.items lines = subst (λ (x : Tree). Passes a b c.new-text.result.items c.write_entries.new.text.items (entries_json x h)) c.new-words.ensures c.in_ok-write_entries.ensures.ok in
    let front : Passes a b [] c.write_entries.new.text.items lines = subst (λ (l : List ℕ). Passes a b l c.write_entries.new.text.items lines) c.new-text.ensures.items passed in
    let text : c.deref.result.now ≡ c.write_entries.new.text.items ++ last = c.deref.ensures.value ∙ c.in_ok-put_ending.ensures.is ∙ ap (λ (x : Tree). c.write_entries.new.text.items ++ ending x h c.args.end) c.new-words.ensures ∙ ap (λ e. c.write_entries.new.text.items ++ ending s h e) c.requires.end in
    written_then a b d [] c.write_entries.new.text.items lines last front (subst (Appends b d) text c.in_ok-write_all.ensures.ok)

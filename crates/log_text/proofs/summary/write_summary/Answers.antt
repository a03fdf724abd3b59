use Rattle.std.proofs.Common.{◌≡◌, ◌++◌, List, ℕ, reverse, ap, ◌∙◌, subst}
use Rattle.std.proofs.lemmas.List.{reverse-reverse}
use Rattle.user_io.specs.Outside.{AppendsPart}
use Rattle.user_io.proofs.Written.{keep_err}
use Rattle.user_model.specs.declared.entry.Entry.{Entry}
use Rattle.user_model.specs.declared.entry.SendCount.{SendCount}
use Rattle.user_model.specs.Past.{Past}
use Rattle.user_model.specs.Counts.{send_count}
use Rattle.log_text.specs.declared.end.End.{End}
use Rattle.log_text.specs.Summaries.{summary_with, summary}
use Rattle.log_text.proofs.summary.write_summary.Goals as goal

-- the summary by a history and counts is that of the past
of_past : (made : ℕ) (end : End) (past : Past) (history : List Entry) (count : SendCount) → history ≡ reverse past → count ≡ send_count past → summary_with made (reverse history) end count ≡ summary made past end
of_past made end past history count h k =
    ap (λ (p : Past). summary_with made p end count) (ap reverse h ∙ reverse-reverse past) ∙ ap (summary_with made past end) k

pub returns-in_err-write_all-clause-err : goal.returns-in_err-write_all-clause-err
returns-in_err-write_all-clause-err g c =
    let h = g.M.Machine.past c.args.machine.now in
    let told = summary_with c.args.made (reverse c.history.result.now) c.args.end c.send_count.result in
    let added : c.put_summary.new.out.items ≡ told = c.in_ok-put_summary.ensures.is ∙ ap (λ (l : List ℕ). l ++ told) c.new-text.ensures.items in
    let is : told ≡ summary c.args.made h c.args.end = of_past c.args.made c.args.end h c.history.result.now c.send_count.result c.history.ensures c.send_count.ensures in
    let text : c.deref.result.now ≡ summary c.args.made h c.args.end = c.deref.ensures.value ∙ (added ∙ is) in
    keep_err c.from_residual-in_err-write_all.result (subst (AppendsPart (g.K.Sink.holds c.args.sink.now) (g.K.Sink.holds c.write_all.new.sink)) text c.in_err-write_all.ensures.err)

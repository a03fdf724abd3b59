use Rattle.std.proofs.Common.{[], ◌∷◌, ◌++◌, ap, ◌∙◌}
use Rattle.script_proc.specs.declared.program.Line.TheVariants.{End}
use Rattle.script_proc.proofs.Programming.{whole_starts}
use Rattle.script_proc.proofs.compile.put_whole.Goals as goal

pub returns-clause-begins : goal.returns-clause-begins
returns-clause-begins c =
    let h = c.in_ok-put_body.ensures.put in
    whole_starts c.args.lines.now.items h.0 c.push.new.self.items c.args.statements.now c.len-place.result (c.len-place.ensures ∙ c.args.lines.now.ok.0) (c.in_ok-push.ensures.items ∙ ap (λ ls. ls ++ End ∷ []) (h.1 ∙ ap (λ ls. ls ++ h.0) c.reserve.ensures.items)) h.2

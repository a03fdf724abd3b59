use Rattle.std.proofs.Common.{List, ℕ, sym, arith, rules, subst}
use Rattle.std.specs.Prelude.{codes, IfSome}
use Rattle.script_lines.specs.declared.line.Line.TheVariants.{Call}
use Rattle.script_lines.specs.Frequent.{IsFrequent}
use Rattle.script_lines.specs.LineReading.{split_at}
use Rattle.script_lines.proofs.Fronts.{word_parted}
use Rattle.script_lines.proofs.numbered.numbered_call.Goals as goal

pub returns-in-112 : goal.returns-in-112
returns-in-112 c =
    let told : List ℕ → Type 0 = λ text. IfSome c.post_thread_call.result (λ call. IsFrequent (split_at 32 text) (Call call)) in
    subst told (sym (word_parted c.args.text.now (codes "post_thread") 11 (omega arith) c.in-112.len_at_least (search rules))) c.post_thread_call.ensures

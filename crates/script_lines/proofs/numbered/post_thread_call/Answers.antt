use Rattle.std.proofs.Common.{rules}
use Rattle.script_lines.proofs.Numbers.{post_thread_told}
use Rattle.script_lines.proofs.numbered.post_thread_call.Goals as goal

pub returns : goal.returns
returns c =
    let p = c.in_ok-posting.posting in
    post_thread_told c.args.numbers.now p.target p.message p.wparam p.lparam (search rules) (search rules) (search rules) (search rules) (search rules)

use Rattle.std.proofs.Common.{◌≡◌, rules, arith}
use Rattle.user_io.proofs.Texts.{two}
use Rattle.script_lines.proofs.Puts.{adds_along}
use Rattle.script_text.proofs.PartsAgain.{head_same}
use Rattle.script_text.proofs.writer.put_head.Goals as goal

pub returns : goal.returns
returns c =
    let w : c.from.result ≡ c.args.script.now.width = first_of (cc, search rules, grind arith) in
    let v : c.from-2.result ≡ c.args.script.now.height = first_of (cc, search rules, grind arith) in
    let n : c.from-3.result ≡ c.args.script.now.budget = first_of (cc, search rules, grind arith) in
    adds_along _ _ _ _ (head_same c.args.script.now c.from.result c.from-2.result c.from-3.result c.order.result.now w v n c.order.ensures)
    (two c.in_ok-put_text.ensures (two c.in_ok-put_operand.ensures (two c.in_ok-put_operand-2.ensures (two c.in_ok-put_text-2.ensures
    (two c.in_ok-put_operand-3.ensures (two c.in_ok-put_text-3.ensures (two c.in_ok-put_order.ensures c.in_ok-put_text-4.ensures)))))))

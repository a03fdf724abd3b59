use Rattle.std.proofs.Common.{◌≡◌, Bool, Option, ◌++◌, ap, sym, ◌∙◌, subst}
use Rattle.std.specs.Prelude.{IfSome}
use Rattle.std.specs.Str.{bytes_eq}
use Rattle.call_fields.proofs.Finding.{found_further, found_word}
use Rattle.call_table.specs.declared.calls.CallName.{CallName}
use Rattle.call_table.specs.Calls.{all_calls, call_named, call_row}
use Rattle.call_table.specs.Clock.{clock_calls}
use Rattle.call_table.specs.Delivery.{delivery_calls}
use Rattle.call_table.specs.Drawing.{drawing_calls}
use Rattle.call_table.specs.Input.{input_calls}
use Rattle.call_table.specs.Lookups.{lookup_calls}
use Rattle.call_table.specs.Registrations.{registration_calls}
use Rattle.call_table.specs.Replies.{reply_calls}
use Rattle.call_table.specs.Sends.{send_calls}
use Rattle.call_table.specs.Windows.{window_calls}
use Rattle.call_table.proofs.CallLaws.{named_again}
use Rattle.call_table.proofs.calls.call_named.Goals as goal

pub returns-clause-value : goal.returns-clause-value
unfolding call_named
returns-clause-value c =
    let has : CallName → Bool = λ n. bytes_eq (call_row n).word c.args.word.now in
    let sends = found_further has delivery_calls send_calls c.call_in-found.result c.or_in-found.result c.call_in-found.ensures c.or_in-found.ensures in
    let replies = found_further has (delivery_calls ++ send_calls) reply_calls c.or_in-found.result c.or_in-found-2.result sends c.or_in-found-2.ensures in
    let registrations = found_further has (delivery_calls ++ send_calls ++ reply_calls) registration_calls c.or_in-found-2.result c.or_in-found-3.result replies c.or_in-found-3.ensures in
    let windows = found_further has (delivery_calls ++ send_calls ++ reply_calls ++ registration_calls) window_calls c.or_in-found-3.result c.or_in-found-4.result registrations c.or_in-found-4.ensures in
    let lookups = found_further has (delivery_calls ++ send_calls ++ reply_calls ++ registration_calls ++ window_calls) lookup_calls c.or_in-found-4.result c.or_in-found-5.result windows c.or_in-found-5.ensures in
    let input = found_further has (delivery_calls ++ send_calls ++ reply_calls ++ registration_calls ++ window_calls ++ lookup_calls) input_calls c.or_in-found-5.result c.or_in-found-6.result lookups c.or_in-found-6.ensures in
    let drawing = found_further has (delivery_calls ++ send_calls ++ reply_calls ++ registration_calls ++ window_calls ++ lookup_calls ++ input_calls) drawing_calls c.or_in-found-6.result c.or_in-found-7.result input c.or_in-found-7.ensures in
    found_further has (delivery_calls ++ send_calls ++ reply_calls ++ registration_calls ++ window_calls ++ lookup_calls ++ input_calls ++ drawing_calls) clock_calls c.or_in-found-7.result c.or_in.result drawing c.or_in.ensures

pub returns-clause-found : goal.returns-clause-found
unfolding call_named
returns-clause-found c = subst (λ (o : Option CallName). IfSome o (λ n. (call_row n).word ≡ c.args.word.now)) (sym (returns-clause-value c)) (found_word (λ n. (call_row n).word) c.args.word.now all_calls)

pub returns-clause-back : goal.returns-clause-back
returns-clause-back c n same = returns-clause-value c ∙ ap call_named (sym same) ∙ named_again n

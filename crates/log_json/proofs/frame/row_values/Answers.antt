use Rattle.std.proofs.Common.{◌≡◌, ℕ, ◌+◌, ◌-◌, List, ◌++◌, length, map, take, drop, ap, ◌∙◌, arith}
use Rattle.std.specs.Prelude.{min}
use Rattle.std.proofs.lemmas.List.{map_push}
use Rattle.serde_json.specs.Data.{string}
use Rattle.serde_json.specs.View.{view}
use Rattle.log_text.specs.Frames.{rows}
use Rattle.log_json.specs.Objects.{row_string}
use Rattle.log_json.proofs.FrameLines.{string_seen, row_made, rows_made}
use Rattle.log_json.proofs.frame.row_values.Goals as goal

pub loop-preserved : goal.loop-preserved
loop-preserved c =
    let rest : List ℕ = c.loop.rest.now in
    let cut : c.min.result ≡ min (length rest) c.args.width = grind (arith, c.min.ensures, c.from.ensures) in
    let pushed = ap (map view) c.in_ok-push.ensures.items ∙ map_push view c.loop.values.items _ in
    ap (λ l. l ++ map row_string (rows c.args.width (c.args.height - (c.loop.counter + 1)) c.split_at.result.1.now)) pushed
    ∙ row_made c.args.width c.args.height c.loop.counter (map view c.loop.values.items) rest c.split_at.result.0.now c.split_at.result.1.now _ _ c.loop-test.true c.loop.invariant (string_seen c.in_ok-row_text.field-0 ∙ ap string c.in_ok-row_text.ensures)
    (c.split_at.ensures.front ∙ ap (λ k. take k rest) cut) (c.split_at.ensures.back ∙ ap (λ k. drop k rest) cut)

pub returns : goal.returns
returns c = rows_made c.args.width c.args.height c.loop.counter (map view c.loop.values.items) c.loop.rest.now _ c.loop-test.false c.loop.invariant

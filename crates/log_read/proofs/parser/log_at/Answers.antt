use Rattle.std.proofs.Common.{List, ℕ, Option, Some, ap, ◌∙◌}
use Rattle.std.specs.Prelude.{map}
use Rattle.log_read.specs.Logs.{LogTree}
use Rattle.log_read.proofs.LogParts.{end_is_end, parted, ending_lines}
use Rattle.log_read.proofs.OneLog.{some_same, log_from}
use Rattle.log_read.proofs.parser.log_at.Goals as goal

pub returns-in_default-clause-again : goal.returns-in_default-clause-again
returns-in_default-clause-again c l fits lines last =
    let s = c.args.words.now.script.now in
    let body = c.in_ok-body.ensures.again l.entries _ _ fits.entries (end_is_end l.end) (lines ∙ parted s l) in
    absurd (cc (rw c.in_default.is at body.0))

pub returns-in-None-clause-again : goal.returns-in-None-clause-again
returns-in-None-clause-again c l fits lines last =
    let s = c.args.words.now.script.now in
    let body = rw c.in-Some.is at (c.in_ok-body.ensures.again l.entries _ _ fits.entries (end_is_end l.end) (lines ∙ parted s l)) in
    let ending = c.in_ok-ending.ensures.again l.end l.extras fits.extras (ending_lines (λ w. w.now) s l c.args.lines.now c.in-Some.body.end_place lines (some_same _ _ body.1)) in
    absurd (cc (rw c.in-None.is at ending.0))

pub returns-in-Some-2-clause-fits : goal.returns-in-Some-2-clause-fits
returns-in-Some-2-clause-fits c =
    let entries = rw c.in-Some.is at c.in_ok-body.ensures.fits in
    let extras = rw c.in-Some-2.is at c.in_ok-ending.ensures.fits in
    rw c.new.ensures (record { entries = entries; extras = extras; sends = c.in_ok-sends.ensures.fits })

pub returns-in-Some-2-clause-again : goal.returns-in-Some-2-clause-again
returns-in-Some-2-clause-again c l fits lines last =
    let s = c.args.words.now.script.now in
    let body = rw c.in-Some.is at (c.in_ok-body.ensures.again l.entries _ _ fits.entries (end_is_end l.end) (lines ∙ parted s l)) in
    let ending = rw c.in-Some-2.is at (c.in_ok-ending.ensures.again l.end l.extras fits.extras (ending_lines (λ w. w.now) s l c.args.lines.now c.in-Some.body.end_place lines (some_same _ _ body.1))) in
    ap (λ (x : LogTree). let o : Option LogTree = Some x in o) (c.new.ensures ∙ log_from _ l (some_same _ _ body.0) (some_same _ _ ending.0) (some_same _ _ ending.1) (c.in_ok-sends.ensures.again l.sends fits.sends last))

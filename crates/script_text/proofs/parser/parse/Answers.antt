use Rattle.std.proofs.Common.{◌≡◌, true, false, [], ◌∷◌, ◌++◌, sym, ap, ◌∙◌}
use Rattle.script_lines.specs.LineReading.{texts_of}
use Rattle.script_text.proofs.FirstLines.{text_parts, head_there}
use Rattle.script_text.proofs.ReadWhole.{is_over, not_over, script_made, text_made}
use Rattle.script_text.proofs.parser.parse.Goals as goal

pub returns-in_default-clause-none : goal.returns-in_default-clause-none
returns-in_default-clause-none c = λ e w. head_there c.args.bytes.now w c.in_default.ensures.none

pub returns-in_default-into_program-clause-none : goal.returns-in_default-into_program-clause-none
returns-in_default-into_program-clause-none c = λ e w.
    let r = c.take_all.new.self in
    let miss : false ≡ is_over r = rw c.in_default-into_program.is at c.into_program.ensures.whole in
    not_over c.args.bytes.now r (c.in_ok-take_all.ensures.good c.if-not-branch.false) (sym miss) w

pub returns-clause-script : goal.returns-clause-script
returns-clause-script c =
    let r = c.take_all.new.self in
    let of = c.in_ok-take_all.ensures.good c.if-not-branch.false in
    let over : true ≡ is_over r = rw c.in-Some-into_program.is at c.into_program.ensures.whole in
    let left = rw c.in-Some-into_program.is at c.into_program.ensures.program in
    let parts = text_parts c.args.bytes.now ∙ ap (λ x. texts_of c.args.bytes.now ++ x ∷ []) of.0 in
    script_made c.args.bytes.now r of (sym over) c.in-Some-into_program.program left c.in_ok-script_of.field-0 (c.in_ok-script_of.ensures (texts_of c.args.bytes.now) (c.in-Some.ensures.head (texts_of c.args.bytes.now) parts)) c.requires.short

pub returns-clause-text : goal.returns-clause-text
returns-clause-text c =
    let r = c.take_all.new.self in
    let of = c.in_ok-take_all.ensures.good c.if-not-branch.false in
    let over : true ≡ is_over r = rw c.in-Some-into_program.is at c.into_program.ensures.whole in
    let left = rw c.in-Some-into_program.is at c.into_program.ensures.program in
    let parts = text_parts c.args.bytes.now ∙ ap (λ x. texts_of c.args.bytes.now ++ x ∷ []) of.0 in
    text_made c.args.bytes.now r of (sym over) c.in-Some-into_program.program left c.in_ok-script_of.field-0 (c.in_ok-script_of.ensures (texts_of c.args.bytes.now) (c.in-Some.ensures.head (texts_of c.args.bytes.now) parts))

use Rattle.std.proofs.Common.{◌≡◌, length, sym, ◌∙◌}
use Rattle.std.proofs.lemmas.Bool.{false≢true}
use Rattle.log_read.proofs.RowTexts.{same_number, number_same, row_told, row_digits, row_size}
use Rattle.log_read.proofs.lines.is_row.Goals as goal

pub returns-then-are_colours : goal.returns-then-are_colours
returns-then-are_colours c =
    let s = c.args.script.now in
    let text = c.args.text.now in
    let width : c.from.result ≡ s.width = c.from.ensures ∙ c.width.ensures in (
      λ h. row_told s text (sym c.are_colours.ensures ∙ c.if-are_colours.true) (same_number (length text) c.from.result h ∙ width),
      λ row. number_same (length text) c.from.result (row_size s text row ∙ sym width),
    )

pub returns-else-are_colours : goal.returns-else-are_colours
returns-else-are_colours c = (
  λ h. absurd (false≢true (sym c.if-are_colours.false ∙ h)),
  λ row. absurd (false≢true (sym c.if-are_colours.false ∙ c.are_colours.ensures ∙ row_digits c.args.script.now c.args.text.now row)),
)

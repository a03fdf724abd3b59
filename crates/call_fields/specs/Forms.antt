-- The form of a call or an answer.
use Rattle.std.specs.Prelude.{ℕ, List}
use Rattle.call_fields.specs.declared.form.Field.{Field}
use Rattle.call_fields.specs.declared.form.Form.{Form}

-- its word, byte by byte, and the kinds of its fields
pub record Row : Type 0 where
  pub word : List ℕ
  pub fields : List Field

-- a row from its parts
abbrev pub row : List ℕ → List Field → Row
row word fields = record { word = word; fields = fields }

-- a form, read
abbrev pub read_form : Form → Row
read_form f = row f.word.now f.fields.now

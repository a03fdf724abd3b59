use Rattle.std.proofs.Common.{◌≡◌, ℕ, List, Option, length, refl, sym, ap, ◌∙◌, arith, rules}
use Rattle.std.proofs.lemmas.Slice.Eq.{HasBytesAt, text_from_reads}
use Rattle.std.specs.Prelude.{codes}
use Rattle.call_table.specs.Calls.{call_named}
use Rattle.script_lines.specs.declared.line.Command.{Command}
use Rattle.script_lines.specs.Rows.{own_command, first_command}
use Rattle.script_lines.proofs.rows.first_command.Goals as goal

-- a word that was read byte by byte begins what its text does
read_as : (word text : List ℕ) (found : Option Command) → length word ≡ length text → HasBytesAt word 0 text → found ≡ first_command text → found ≡ first_command word
read_as word text found long same h = h ∙ ap first_command (sym (text_from_reads word text long same))

pub returns-in-let : goal.returns-in-let
unfolding own_command call_named
returns-in-let c = read_as c.args.word.now (codes "let") _ (omega arith) (search rules) refl

pub returns-in-end : goal.returns-in-end
unfolding own_command call_named
returns-in-end c = read_as c.args.word.now (codes "end") _ (omega arith) (search rules) refl

pub returns-in-get : goal.returns-in-get
unfolding own_command call_named
returns-in-get c = read_as c.args.word.now (codes "get") _ (omega arith) (search rules) refl

pub returns-in-post : goal.returns-in-post
unfolding own_command call_named
returns-in-post c = read_as c.args.word.now (codes "post") _ (omega arith) (search rules) refl

pub returns-in-send : goal.returns-in-send
unfolding own_command call_named
returns-in-send c = read_as c.args.word.now (codes "send") _ (omega arith) (search rules) refl

pub returns-in-112 : goal.returns-in-112
unfolding own_command call_named
returns-in-112 c = read_as c.args.word.now (codes "post_thread") _ (omega arith) (search rules) refl

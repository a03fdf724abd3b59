-- The script that is made from a number.
use Rattle.std.specs.Prelude.{◌≡◌, ℕ, List, [], ◌∷◌, ◌++◌, codes, decimal}
use Rattle.script_tree.specs.declared.operand.Letter.{Letter}
use Rattle.script_tree.specs.declared.operand.Letter.TheVariants.{A, B}
use Rattle.script_tree.specs.declared.operand.Variable.TheVariants.{Letter as LetterOf, Result as LastResult, GotWparam}
use Rattle.script_tree.specs.declared.operand.Operand.{Operand}
use Rattle.script_tree.specs.declared.operand.Operand.TheVariants.{Number, Message, Variable}
use Rattle.script_tree.specs.declared.operand.Operator.TheVariants.{Plus}
use Rattle.script_tree.specs.declared.operand.Comparison.TheVariants.{Equal, Below}
use Rattle.script_tree.specs.declared.operand.Test.{Test}
use Rattle.script_tree.specs.declared.statement.CallStatement.{CallStatement}
use Rattle.script_tree.specs.declared.statement.CallStatement.TheVariants.{Get, PostThread}
use Rattle.script_tree.specs.Tree.{Tree}
use Rattle.script_lines.specs.declared.line.Line.{Line}
use Rattle.script_lines.specs.declared.line.Line.TheVariants.{Compute, While, End, Call}
use Rattle.script_text.specs.Limits.{IsScript}
use Rattle.script_text.specs.Spelling.{spelling}

-- its text: a thread posts so many messages to another, which adds up what it gets
abbrev pub made_text : ℕ → List ℕ
made_text n = codes "user 1\nscreen 8 4\nbudget 65536\norder\nthread\nwhile a < " ++ (decimal n ++ codes "\npost_thread 2 WM_USER a 0\nlet a a + 1\nend\npost_thread 2 WM_QUIT 0 0\nend\nthread\nget 0 0 0\nwhile r = 1\nlet b b + gwp\nget 0 0 0\nend\nend\n")

-- the script of that text
pub record IsMade (n : ℕ) (s : Tree) : Type 0 where
  pub is_script : IsScript s
  pub spelled : spelling s ≡ made_text n

-- a letter as an operand
abbrev pub letter : Letter → Operand
letter v = Variable (LetterOf v)

-- the post of a message to the second thread
abbrev pub post : ℕ → Operand → CallStatement
post message wparam = PostThread (Number 2) (Message message) wparam (Number 0)

-- the next message, whichever it is
abbrev pub get_any : CallStatement
get_any = Get (Number 0) (Number 0) (Number 0)

-- whether the posts are not yet so many
abbrev pub fewer : ℕ → Test
fewer n = record { left = letter A; comparison = Below; right = Number n }

-- whether the last message was not that of quit
abbrev pub goes_on : Test
goes_on = record { left = Variable LastResult; comparison = Equal; right = Number 1 }

-- the lines of the thread that posts
abbrev pub sender_lines : ℕ → List Line
sender_lines n = While (fewer n) ∷ Call (post 1024 (letter A)) ∷ Compute A (letter A) Plus (Number 1) ∷ End ∷ Call (post 18 (Number 0)) ∷ []

-- the lines of the thread that gets
abbrev pub receiver_lines : List Line
receiver_lines = Call get_any ∷ While goes_on ∷ Compute B (letter B) Plus (Variable GotWparam) ∷ Call get_any ∷ End ∷ []

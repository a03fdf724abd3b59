-- The lines of scripts of any length, and the lines with which they begin.
use Rattle.std.specs.Prelude.{◌≡◌, ℕ, ◌+◌, ◌-◌, ◌≤◌, ◌<◌, Bool, true, false, ◌&&◌, ◌==◌, nat_le, List, [], ◌∷◌, ◌++◌, length, map, drop, codes, decimal, slice_index_or, Some}
use Rattle.std.specs.List.{AllByRecursion, list_all}
use Rattle.script_lines.specs.declared.line.Line.{Line}
use Rattle.script_lines.specs.declared.line.Line.TheVariants as lines
use Rattle.script_lines.specs.Known.{Known}
use Rattle.script_lines.specs.LineLimits.{IsLine}
use Rattle.script_lines.specs.LineReading.{split_at, texts_of}
use Rattle.script_lines.specs.LineTexts.{joined}
use Rattle.script_lines.specs.NameLimits.{AreKnown, are_in_order, are_procedures_in_order}
use Rattle.script_lines.specs.Words.{line_words}
use Rattle.script_text.specs.declared.head.HeadLine.{HeadLine}
use Rattle.script_text.specs.declared.head.HeadLine.TheVariants as heads
use Rattle.script_text.specs.Limits.{is_turn}
use Rattle.script_text.specs.Nesting.{Nest, nested_all, start}

-- ---- lines before the procedures and threads

-- the first word of each
abbrev pub head_word : HeadLine → List ℕ
head_word heads.User = codes "user"
head_word heads.Screen = codes "screen"
head_word heads.Budget = codes "budget"
head_word heads.Order = codes "order"

abbrev pub is_between : ℕ → ℕ → ℕ → Bool
is_between least most n = nat_le least n && nat_le n most

-- the numbers behind it: the version, the width and the height of the screen, the budget, and the order list
abbrev pub are_head_numbers : HeadLine → List ℕ → Bool
are_head_numbers heads.User (n ∷ []) = n == 1
are_head_numbers heads.Screen (w ∷ h ∷ []) = is_between 1 128 w && is_between 1 64 h
are_head_numbers heads.Budget (n ∷ []) = is_between 1 65536 n
are_head_numbers heads.Order ns = list_all is_turn ns && nat_le (length ns) 65536
are_head_numbers h ns = false

abbrev pub head_text : HeadLine → List ℕ → List ℕ
head_text h ns = joined (head_word h ∷ map decimal ns)

abbrev pub IsHeadLine : HeadLine → List ℕ → Type 0
IsHeadLine h text = (ns : List ℕ) × (are_head_numbers h ns ≡ true) × (text ≡ head_text h ns)

-- in this order
abbrev pub all_heads : List HeadLine
all_heads = heads.User ∷ heads.Screen ∷ heads.Budget ∷ heads.Order ∷ []

-- lines are those before the procedures and threads, as far as both go
abbrev pub AreHeads : List HeadLine → List (List ℕ) → Type 0
AreHeads [] texts = Unit {0}
AreHeads (h ∷ hs) [] = Unit {0}
AreHeads (h ∷ hs) (text ∷ texts) = IsHeadLine h text × AreHeads hs texts

-- ---- lines of procedures and threads

-- how many threads a line begins
abbrev pub thread_of : Line → ℕ
thread_of lines.Thread = 1
thread_of l = 0

abbrev pub thread_count : List Line → ℕ
thread_count [] = 0
thread_count (l ∷ ls) = thread_of l + thread_count ls

-- the lines stand at the front of the procedures and threads; behind them these names are known, this stands open, and so many threads have begun
pub record Stood (texts : List (List ℕ)) (known : Known) (nest : Nest) (threads : ℕ) : Type 0 where
  pub said : List Line
  pub spelled : texts ≡ map joined (map (line_words known) said)
  pub fits : AllByRecursion IsLine said
  pub named : AreKnown known
  pub in_order : are_in_order (length known.names) said ≡ true
  pub procedures_in_order : are_procedures_in_order (length known.procedures) said ≡ true
  pub nested : nested_all (Some start) said ≡ Some nest
  pub counted : thread_count said ≡ threads
  pub few : threads ≤ 15

-- the lines are all procedures and threads of a script: nothing stands open, and there is a thread
pub record IsCode (texts : List (List ℕ)) : Type 0 where
  pub known : Known
  pub nest : Nest
  pub threads : ℕ
  pub stood : Stood texts known nest threads
  pub closed : nest.kinds ≡ []
  pub some : 0 < threads

-- ---- whole texts

-- the lines are those of a script, however long it is
pub record IsText (texts : List (List ℕ)) : Type 0 where
  pub long : 4 ≤ length texts
  pub heads : AreHeads all_heads texts
  pub code : IsCode (drop 4 texts)

-- a script begins with these lines
abbrev pub Begins : List (List ℕ) → Type 0
Begins texts = (more : List (List ℕ)) × IsText (texts ++ more)

-- the lines stand at the front of a script
pub record Front (texts : List (List ℕ)) (known : Known) (nest : Nest) (threads : ℕ) : Type 0 where
  pub heads : AreHeads all_heads texts
  pub stood : Stood (drop 4 texts) known nest threads

-- what stands behind the last line feed of a text
unfoldable pub rest_of : List ℕ → List ℕ
rest_of bytes = slice_index_or (split_at 10 bytes) (length (split_at 10 bytes) - 1) []

-- each line has its line feed, and the lines are those of a script
pub record IsWhole (bytes : List ℕ) : Type 0 where
  pub ended : rest_of bytes ≡ []
  pub text : IsText (texts_of bytes)

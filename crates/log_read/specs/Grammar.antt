-- The lines with which logs begin, and what each of them leaves open.
use Rattle.std.specs.Prelude.{◌≡◌, ◌⊎◌, ℕ, zero, suc, if◌then◌else◌, List, [], ◌∷◌, ◌++◌, length, codes}
use Rattle.std.specs.List.{AllByRecursion}
use Rattle.user_model.specs.declared.entry.Answer.{Answer}
use Rattle.user_model.specs.declared.entry.Entry.{Entry}
use Rattle.user_model.specs.declared.entry.SendCount.{SendCount}
use Rattle.script_tree.specs.Tree.{Tree}
use Rattle.script_lines.specs.LineReading.{texts_of}
use Rattle.script_lines.specs.LineTexts.{joined}
use Rattle.log_text.specs.declared.end.End.{End}
use Rattle.log_read.specs.declared.log.Extra.{Extra}
use Rattle.log_read.specs.declared.phase.Phase.{Phase}
use Rattle.log_read.specs.declared.phase.Phase.TheVariants as phases
use Rattle.log_read.specs.Limits.{keeps_frame, IsColour, IsEntry, IsExtra, AreCounts, IsLog}
use Rattle.log_read.specs.Logs.{LogTree, spelling}
use Rattle.log_read.specs.Words.{entry_words, row_words, end_words, extra_words, counts_words}

-- a log of the script begins with these lines
pub record Begins (s : Tree) (texts : List (List ℕ)) : Type 0 where
  pub log : LogTree
  pub is_log : IsLog s log
  pub more : List (List ℕ)
  pub lines : texts_of (spelling s log) ≡ texts ++ more

-- ---- one line

-- what may stand where so many rows of a frame are to come
abbrev pub with_rows : ℕ → Phase
with_rows zero = phases.Entries
with_rows (suc more) = phases.Rows more

-- what may stand below the line of an entry that was answered so
abbrev pub below_entry : Tree → Answer → Phase
below_entry s a = if keeps_frame a then with_rows s.height else phases.Entries

-- the line of an entry
pub record IsEntryLine (s : Tree) (text : List ℕ) (next : Phase) : Type 0 where
  pub entry : Entry
  pub fits : IsEntry s entry
  pub line : text ≡ joined (entry_words s entry)
  pub opens : next ≡ below_entry s entry.answer

-- the line of the end
pub record IsEndLine (text : List ℕ) (next : Phase) : Type 0 where
  pub end : End
  pub line : text ≡ joined (end_words end)
  pub opens : next ≡ phases.Extras end

-- a row of a frame: a colour for each pixel of the screen's width
pub record IsRowLine (s : Tree) (text : List ℕ) : Type 0 where
  pub colours : List ℕ
  pub size : length colours ≡ s.width
  pub below : AllByRecursion IsColour colours
  pub line : text ≡ joined (row_words colours)

-- an extra line after this end
pub record IsExtraLine (s : Tree) (end : End) (text : List ℕ) (next : Phase) : Type 0 where
  pub extra : Extra
  pub fits : IsExtra s end extra
  pub line : text ≡ joined (extra_words s extra)
  pub opens : next ≡ phases.Extras end

-- the counts of sends
pub record IsCountsLine (text : List ℕ) (next : Phase) : Type 0 where
  pub sends : SendCount
  pub fits : AreCounts sends
  pub line : text ≡ joined (counts_words sends)
  pub opens : next ≡ phases.Over

-- the text may stand as the next line, and behind it may stand this
abbrev pub IsStep : Tree → Phase → List ℕ → Phase → Type 0
IsStep s phases.First text next = (text ≡ codes "log 1") × (next ≡ phases.Entries)
IsStep s phases.Entries text next = IsEntryLine s text next ⊎ IsEndLine text next
IsStep s (phases.Rows more) text next = IsRowLine s text × (next ≡ with_rows more)
IsStep s (phases.Extras end) text next = IsExtraLine s end text next ⊎ IsCountsLine text next
IsStep s phases.Over text next = ⊥

-- ---- lines in a row

-- the lines may stand there one below the other, and behind them may stand this
abbrev pub Leads : Tree → Phase → List (List ℕ) → Phase → Type 0
Leads s phase [] last = phase ≡ last
Leads s phase (text ∷ texts) last = (next : Phase) × IsStep s phase text next × Leads s next texts last

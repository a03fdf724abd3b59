-- Which trees are scripts.
use Rattle.std.specs.Prelude.{◌≡◌, ℕ, ◌≤◌, ◌<◌, Bool, true, ◌&&◌, nat_le, nat_lt, length}
use Rattle.std.specs.List.{AllByRecursion, list_all}
use Rattle.script_tree.specs.Tree.{Tree}
use Rattle.script_lines.specs.LineLimits.{IsLine}
use Rattle.script_lines.specs.Known.{known_of}
use Rattle.script_lines.specs.NameLimits.{AreKnown, are_in_order, are_procedures_in_order}
use Rattle.script_text.specs.Lines.{script_lines}
use Rattle.script_text.specs.Nesting.{nests}
use Rattle.script_text.specs.Spelling.{spelling}

-- a thread of the order list
abbrev pub is_turn : ℕ → Bool
is_turn t = nat_le 1 t && nat_le t 15

-- the tree is within all limits of a script, and so is its text
pub record IsScript (s : Tree) : Type 0 where
  pub wide : (0 < s.width) × (s.width ≤ 128)
  pub high : (0 < s.height) × (s.height ≤ 64)
  pub budget : (0 < s.budget) × (s.budget ≤ 65536)
  pub turns : list_all is_turn s.order ≡ true
  pub few_turns : length s.order ≤ 65536
  pub named : AreKnown (known_of s)
  pub threads : (0 < length s.threads) × (length s.threads ≤ 15)
  pub lines : AllByRecursion IsLine (script_lines s)
  pub in_order : are_in_order (length s.names) (script_lines s) ≡ true
  -- no procedure is named above its line
  pub procedures_in_order : are_procedures_in_order (length s.procedures) (script_lines s) ≡ true
  -- each `end` closes what stands open there, no more than 33 lines ever stand open, that of the body and 32 blocks, and `return` and `default` stand in procedures
  pub nested : nests (script_lines s) ≡ true
  pub short : length (spelling s) ≤ 1048576

-- the limits of the head as a test
abbrev pub is_within : Tree → Bool
is_within s = nat_le 1 s.width && (nat_le s.width 128 && (nat_le 1 s.height && (nat_le s.height 64 && (nat_le 1 s.budget && (nat_le s.budget 65536 && (list_all is_turn s.order && (nat_le (length s.order) 65536 && (nat_lt 0 (length s.threads) && nat_le (length s.threads) 15))))))))

-- The marks of ready lists, and what is counted of each.
use Rattle.std.specs.Prelude.{◌≡◌, ℕ, List, [], ◌∷◌, map}
use Rattle.queue_status.specs.Counting.{counted}
use Rattle.queue_status.specs.Counts.{none_there}
use Rattle.send_variants.specs.declared.mark.Mark.{Mark}
use Rattle.send_variants.specs.Lists.{Entry, is_new}

-- the mark of a thread that hasn't looked, with an empty list
abbrev pub no_mark : Mark
no_mark = record { from = 0; count = none_there }

-- the marks alone
abbrev pub marks_in : List Mark → List ℕ
marks_in ms = map (λ m. m.from) ms

-- each mark counts its list
abbrev pub AreCounted : List Mark → List (List Entry) → Type 0
AreCounted [] [] = Unit {0}
AreCounted (m ∷ ms) (es ∷ lists) = (m.count ≡ counted (is_new m.from) es) × AreCounted ms lists
AreCounted [] (es ∷ lists) = ⊥
AreCounted (m ∷ ms) [] = ⊥

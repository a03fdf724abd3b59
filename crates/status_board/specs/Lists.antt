-- Lists of published values, the oldest first.
use Rattle.std.specs.Prelude.{◌≡◌, ◌<◌, if◌then◌else◌, ℕ, ◌+◌, ◌*◌, ◌/◌, ◌%◌, nat_lt, List, [], ◌∷◌, length}
use Rattle.status_board.specs.declared.shown.Shown.{Shown}

-- this value, published under this number
abbrev pub shown : ℕ → ℕ → Shown
shown number value = record { number = number; value = value }

-- what is read where nothing was published
abbrev pub nothing : Shown
nothing = shown 0 0

-- the last of a list, or where it is empty what came before it
abbrev pub latest : Shown → List Shown → Shown
latest before [] = before
latest before (x ∷ xs) = latest x xs

-- the last that was published
abbrev pub last_of : List Shown → Shown
last_of list = latest nothing list

-- the numbers count on from n, and each value is a number of 32 bits
abbrev pub CountsOn : ℕ → List Shown → Type 0
CountsOn n [] = Unit {0}
CountsOn n (x ∷ xs) = (x.number ≡ n + 1) × (x.value < 4294967296) × CountsOn (n + 1) xs

-- the numbers count from 1 up
abbrev pub Counts : List Shown → Type 0
Counts list = CountsOn 0 list

-- the longer of two lists, or of two as long the first
abbrev pub longer : List Shown → List Shown → List Shown
longer first second = if nat_lt (length first) (length second) then second else first

-- a number and a value as one word: the number in its high half
abbrev pub word_of : Shown → ℕ
word_of x = x.number * 4294967296 + x.value

-- what a word says
abbrev pub said_by : ℕ → Shown
said_by word = shown (word / 4294967296) (word % 4294967296)

-- Ready lists, one for each thread.
use Rattle.std.specs.Prelude.{◌≡◌, ℕ, ◌+◌, ◌-◌, ◌≤◌, ◌<◌, ◌==◌, nat_le, Bool, if◌then◌else◌, List, [], ◌∷◌, ◌++◌, length, slice_index_or, slice_set, Option, Some, None}
use Rattle.send_variants.specs.declared.ready.Ready.{Ready}
use Rattle.send_variants.specs.declared.ready.Ready.TheVariants.{Send, Result}

-- an entry: the place, and what is ready there
abbrev pub Entry : Type 0
Entry = ℕ × Ready

-- the send that is ready, or whose result is
abbrev pub named_by : Ready → ℕ
named_by (Send s) = s.0
named_by (Result s) = s.0

-- whether an entry names a send
abbrev pub names : ℕ → Entry → Bool
names s e = named_by e.1 == s

-- the list of thread t
abbrev pub list_of : List (List Entry) → ℕ → List Entry
list_of lists t = slice_index_or lists (t - 1) []

-- thread t has this list
abbrev pub with_list : List (List Entry) → ℕ → List Entry → List (List Entry)
with_list lists t es = slice_set lists (t - 1) es

-- t is one of the threads
abbrev pub IsThread : List (List Entry) → ℕ → Type 0
IsThread lists t = (1 ≤ t) × (t ≤ length lists)

-- how many entries all lists have
abbrev pub total : List (List Entry) → ℕ
total [] = 0
total (es ∷ lists) = length es + total lists

-- how many entries of a list name a send
abbrev pub count_in : ℕ → List Entry → ℕ
count_in s [] = 0
count_in s (e ∷ es) = (if names s e then 1 else 0) + count_in s es

-- how many entries of all lists name a send
abbrev pub count_on : ℕ → List (List Entry) → ℕ
count_on s [] = 0
count_on s (es ∷ lists) = count_in s es + count_on s lists

-- every place of a list is below this one
abbrev pub AreBelow : ℕ → List Entry → Type 0
AreBelow place [] = Unit {0}
AreBelow place (e ∷ es) = (e.0 < place) × AreBelow place es

-- every place of a list is above this one
abbrev pub AreAbove : ℕ → List Entry → Type 0
AreAbove place [] = Unit {0}
AreAbove place (e ∷ es) = (place < e.0) × AreAbove place es

-- the places of a list rise
abbrev pub IsRising : List Entry → Type 0
IsRising [] = Unit {0}
IsRising (e ∷ es) = AreAbove e.0 es × IsRising es

-- a list without the entries that name a send
abbrev pub without : ℕ → List Entry → List Entry
without s [] = []
without s (e ∷ es) = if names s e then without s es else e ∷ without s es

-- all lists without the entries that name a send
abbrev pub all_without : ℕ → List (List Entry) → List (List Entry)
all_without s [] = []
all_without s (es ∷ lists) = without s es ∷ all_without s lists

-- the place of the first entry of a list that names a send
abbrev pub place_in : ℕ → List Entry → Option ℕ
place_in s [] = None
place_in s (e ∷ es) = if names s e then Some e.0 else place_in s es

-- the first of two that exists
abbrev pub or_else : Option ℕ → Option ℕ → Option ℕ
or_else None o = o
or_else (Some n) o = Some n

-- the place of the entry of all lists that names a send
abbrev pub place_on : ℕ → List (List Entry) → Option ℕ
place_on s [] = None
place_on s (es ∷ lists) = or_else (place_in s es) (place_on s lists)

-- what is so of all ready lists that can be reached: places rise in each, and a send is named at most once in all
pub record IsSound (lists : List (List Entry)) : Type 0 where
  pub threads : (1 ≤ length lists) × (length lists ≤ 15)
  pub rising : (t : ℕ) → IsRising (list_of lists t)
  pub once : (s : ℕ) → count_on s lists ≤ 1
  pub few : total lists ≤ 1024

-- an entry with this place went from the list at i, and nothing else
pub record IsWithdrawn (old new : List (List Entry)) (i place : ℕ) : Type 0 where
  pub within : i < length old
  pub before : List Entry
  pub after : List Entry
  pub ready : Ready
  pub was : slice_index_or old i [] ≡ before ++ (place, ready) ∷ after
  pub is : new ≡ slice_set old i (before ++ after)

-- the lists of all threads, and for each thread a mark: what has this place or a later one came since its last look
pub record ReadyView : Type 0 where
  pub lists : List (List Entry)
  pub marks : List ℕ

-- the mark of thread t
abbrev pub mark_of : List ℕ → ℕ → ℕ
mark_of marks t = slice_index_or marks (t - 1) 0

-- whether an entry came since the look that left this mark
abbrev pub is_new : ℕ → Entry → Bool
is_new mark e = nat_le mark e.0

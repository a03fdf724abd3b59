-- What is known of each window that stands, the newest first.
use Rattle.std.specs.Prelude.{if◌then◌else◌, ℕ, ◌==◌, Bool, true, false, List, [], ◌∷◌, map}
use Rattle.win_num.specs.declared.message.Hwnd.{Hwnd}
use Rattle.win_order.specs.declared.after.After.{After}
use Rattle.win_order.specs.declared.after.After.TheVariants.{Bottom, Below, Top, Topmost, NoTopmost}
use Rattle.win_order.specs.Standing.{Standing}
use Rattle.win_order.specs.declared.top_level.TopLevel.{TopLevel}

-- no window
abbrev pub nobody : Hwnd
nobody = record { 0 = 0 }

-- the parent of a window, or nobody
abbrev pub parent_of : List Standing → ℕ → Hwnd
parent_of [] w = nobody
parent_of (s ∷ ss) w = elim (s.window.0 == w) [ true ↦ s.parent | false ↦ parent_of ss w ]

-- the owner of a window, or nobody
abbrev pub owner_of : List Standing → ℕ → Hwnd
owner_of [] w = nobody
owner_of (s ∷ ss) w = elim (s.window.0 == w) [ true ↦ s.owner | false ↦ owner_of ss w ]

-- a window is topmost by its own flag or by that of an owner up the chain, each owner older than what it owns
abbrev pub is_topmost : List Standing → ℕ → Bool
is_topmost [] w = false
is_topmost (s ∷ ss) w = elim (s.window.0 == w) [ true ↦ elim s.topmost [ true ↦ true | false ↦ elim (s.owner.0 == 0) [ true ↦ false | false ↦ is_topmost ss s.owner.0 ] ] | false ↦ is_topmost ss w ]

-- the window as mending sees it
abbrev pub top_level : List Standing → Hwnd → TopLevel
top_level ss w = record { window = w; owner = owner_of ss w.0; topmost = is_topmost ss w.0 }

-- what is known of a window, with this flag if it is w
abbrev pub flagged : ℕ → Bool → Standing → Standing
flagged w flag s = if s.window.0 == w then record s { topmost = flag } else s

-- only two places set or clear the topmost flag
abbrev pub pinned : After → ℕ → List Standing → List Standing
pinned Topmost w ss = map (flagged w true) ss
pinned NoTopmost w ss = map (flagged w false) ss
pinned Top w ss = ss
pinned Bottom w ss = ss
pinned (Below sibling) w ss = ss

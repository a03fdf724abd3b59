-- What stands of windows, of posts and of input.
use Rattle.std.specs.Prelude.{◌≡◌, ◌≢◌, ◌⊎◌, ◌<◌, ℕ, Bool, List, [], ◌∷◌, true}
use Rattle.std.specs.List.{AllByRecursion}
use Rattle.user_model.specs.declared.entry.Entry.{Entry}
use Rattle.user_model.specs.Past.{Past}
use Rattle.user_model.specs.Windows.{Window, live, above, made_by, drops, is_live, thread_of}
use Rattle.user_model.specs.Posts.{PostedMsg}
use Rattle.user_model.specs.Inputs.{Element}
use Rattle.user_model.specs.Ready.{ReadyMsg, to_enter, to_call_back, place_of}

-- the window that the entry makes
abbrev pub makes_window : Entry → Past → List Window
makes_window e before = made_by e.who.0 e.answer e.call (live before)

-- whether the entry drops the window
abbrev pub drops_it : Entry → Past → Window → Bool
drops_it e before x = drops e (live before) x

-- the post is for no window, or for a live window of the thread
abbrev pub IsForItsThread : Past → ℕ → PostedMsg → Type 0
IsForItsThread past t x = (x.msg.hwnd.0 ≡ 0) ⊎ ((is_live past x.msg.hwnd.0 ≡ true) × (thread_of past x.msg.hwnd.0 ≡ t))

-- each post has a greater number than those before it
abbrev pub RisesByNumber : List PostedMsg → Type 0
RisesByNumber [] = Unit {0}
RisesByNumber (x ∷ xs) = AllByRecursion (λ y. x.number < y.number) xs × RisesByNumber xs

-- the same of input
abbrev pub RisesByInput : List Element → Type 0
RisesByInput [] = Unit {0}
RisesByInput (x ∷ xs) = AllByRecursion (λ y. x.number < y.number) xs × RisesByInput xs

-- the number of the send that is ready to be entered, or whose result is ready
abbrev pub number_ready : ReadyMsg → ℕ
number_ready (to_enter x) = x.number
number_ready (to_call_back x proc_no extra place) = x.number

-- r has a lesser place than q, or the same place and a lesser number
abbrev pub IsReadyBefore : ReadyMsg → ReadyMsg → Type 0
IsReadyBefore r q = (place_of r < place_of q) ⊎ ((place_of r ≡ place_of q) × (number_ready r < number_ready q))

-- each of what is ready comes before those behind it, by place and number
abbrev pub RisesByPlace : List ReadyMsg → Type 0
RisesByPlace [] = Unit {0}
RisesByPlace (r ∷ rs) = AllByRecursion (IsReadyBefore r) rs × RisesByPlace rs

-- from a window a chain of what stands above leads to v: the window is v, or what it stands under or is owned by leads there
pub data LeadsTo (ws : List Window) (v : ℕ) : ℕ → Type 0 where
  itself : v ≢ 0 → LeadsTo ws v v
  further : {w : ℕ} → w ≢ 0 → LeadsTo ws v (above ws w) → LeadsTo ws v w

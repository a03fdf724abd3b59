-- Window classes and registered messages.
use Rattle.std.specs.Prelude.{if◌then◌else◌, ℕ, suc, ◌+◌, ◌==◌, nat_eq, Bool, true, false, List, [], ◌∷◌, ◌++◌, length, find, position, Option, Some, None, option_map, is_some, unwrap_or}
use Rattle.std.specs.List.{list_any}
use Rattle.user_model.specs.declared.call.Call.{Call}
use Rattle.user_model.specs.declared.call.Call.TheVariants.{Register, Unregister, Message}
use Rattle.user_model.specs.Past.{Past, is_refused, standing, each_of}
use Rattle.user_model.specs.Windows.{live, window}

-- a window class: its name, its atom, its procedure and its colour
pub record Class : Type 0 where
  pub name : ℕ
  pub atom : ℕ
  pub proc_no : ℕ
  pub colour : ℕ

-- one where the call registers a class
abbrev pub counts_class : Call → List ℕ
counts_class (Register name proc_no colour) = name ∷ []
counts_class _ = []

-- how many classes were ever registered
abbrev pub registered_count : Past → ℕ
registered_count past = length (each_of (λ e before. counts_class e.call) past)

-- the class that a call registers; atoms are numbered in order of registration
abbrev pub registers : Call → Past → List Class
registers (Register name proc_no colour) before = record { name = name; atom = suc (registered_count before); proc_no = proc_no; colour = colour } ∷ []
registers _ before = []

-- whether the call takes the class back
abbrev pub unregisters : Call → Class → Bool
unregisters (Unregister name) c = name == c.name
unregisters _ c = false

-- the classes that were registered and not taken back since
abbrev pub classes : Past → List Class
classes past = standing (λ e before. registers e.call before) (λ e before c. unregisters e.call c) past

-- the class of a name
abbrev pub class : Past → ℕ → Option Class
class past name = find (λ c. name == c.name) (classes past)

-- the class of a live window
abbrev pub class_of : Past → ℕ → Option Class
class_of past w = elim (window past w) [ Some x ↦ class past x.class | None ↦ None ]

-- the procedure of a window
abbrev pub proc_of : Past → ℕ → ℕ
proc_of past w = unwrap_or (option_map (λ c. c.proc_no) (class_of past w)) 0

-- the colour of a window's class
abbrev pub colour_of : Past → ℕ → ℕ
colour_of past w = unwrap_or (option_map (λ c. c.colour) (class_of past w)) 0

-- whether a live window has the class
abbrev pub is_used : Past → ℕ → Bool
is_used past name = list_any (λ x. x.class == name) (live past)

-- the place of a name among these
abbrev pub place_in : List ℕ → ℕ → Option ℕ
place_in names name = position (nat_eq name) names

-- the name that a call gives a number, where it has none among these
abbrev pub names_new : Call → List ℕ → List ℕ
names_new (Message name) names = if is_some (place_in names name) then [] else name ∷ []
names_new _ names = []

-- the names of messages that have numbers, in order of registration
abbrev pub message_names : Past → List ℕ
message_names [] = []
message_names (e ∷ past) = elim (is_refused e) [ true ↦ message_names past | false ↦ message_names past ++ names_new e.call (message_names past) ]

-- the number of the message of a name, from 49152 in order of registration
abbrev pub message_number : Past → ℕ → Option ℕ
message_number past name = option_map (λ place. 49152 + place) (place_in (message_names past) name)

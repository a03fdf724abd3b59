-- Window classes and registered messages.
use Rattle.std.specs.Prelude.{ℕ, ◌+◌, ◌==◌, if◌then◌else◌, Bool, not, ◌||◌, nat_eq, List, [], ◌∷◌, ◌++◌, length, filter, position, Option, Some, None, option_map, is_some}
use Rattle.std.specs.Map.{lookup}
use Rattle.win_num.specs.declared.code.Code.{Code}
use Rattle.win_num.specs.declared.code.Code.TheVariants.{Win, Full}
use Rattle.win_class.specs.declared.classes.Class.{Class}

-- the classes that are registered, each under its name, in order of registration; how many were ever
-- registered; and the names of the registered messages, in order
pub record ClassTable : Type 0 where
  pub classes : List (ℕ × Class)
  pub registered : ℕ
  pub messages : List ℕ

-- no class and no message
abbrev pub no_classes : ClassTable
no_classes = record { classes = []; registered = 0; messages = [] }

-- a class from its parts
abbrev pub class : ℕ → ℕ → ℕ → Class
class atom proc_no colour = record { atom = atom; proc_no = proc_no; colour = colour }

-- the class of a name
abbrev pub class_in : ClassTable → ℕ → Option Class
class_in t name = lookup (nat_eq name) t.classes

-- whether a class has the name
abbrev pub has_class : ClassTable → ℕ → Bool
has_class t name = is_some (class_in t name)

-- with one more class, whose atom is the count of all that were ever registered
abbrev pub with_class : ClassTable → ℕ → ℕ → ℕ → ClassTable
with_class t name proc_no colour = record {
  classes = t.classes ++ (name, class (t.registered + 1) proc_no colour) ∷ [];
  registered = t.registered + 1;
  messages = t.messages;
}

-- without the class of the name
abbrev pub without_class : ClassTable → ℕ → ClassTable
without_class t name = record { classes = filter (λ e. not (name == e.0)) t.classes; registered = t.registered; messages = t.messages }

-- why a class can't be registered: its name is taken, or 64 classes are there, or all atoms were given
abbrev pub register_refusal : ClassTable → ℕ → Option Code
register_refusal t name =
    if has_class t name
    then Some (Win 1410)
    else (if (length t.classes == 64) || (t.registered == 4294967295) then Some Full else None)

-- why a class can't be unregistered: there is none of the name, or a window has it
abbrev pub unregister_refusal : ClassTable → ℕ → Bool → Option Code
unregister_refusal t name used =
    if has_class t name
    then (if used then Some (Win 1412) else None)
    else Some (Win 1411)

-- the number of a registered message, from 49152 in order of registration
abbrev pub number_in : ClassTable → ℕ → Option ℕ
number_in t name = option_map (λ place. 49152 + place) (position (nat_eq name) t.messages)

-- with the message registered, if it isn't
abbrev pub with_message : ClassTable → ℕ → ClassTable
with_message t name = record {
  classes = t.classes;
  registered = t.registered;
  messages = if is_some (number_in t name) then t.messages else t.messages ++ name ∷ [];
}

-- why a message can't be registered: it isn't, and 16,384 are
abbrev pub message_refusal : ClassTable → ℕ → Option Code
message_refusal t name =
    if is_some (number_in t name)
    then None
    else (if length t.messages == 16384 then Some Full else None)

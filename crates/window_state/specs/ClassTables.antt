-- The table of classes and registered messages that a past has made.
use Rattle.std.specs.Prelude.{ℕ, map}
use Rattle.win_class.specs.declared.classes.Class.{Class as KeptClass}
use Rattle.win_class.specs.ClassTable.{ClassTable, class as class_of}
use Rattle.user_model.specs.Past.{Past}
use Rattle.user_model.specs.Classes.{Class, classes, registered_count, message_names}

-- a class under its name, as the table has it
abbrev pub class_entry : Class → ℕ × KeptClass
class_entry c = (c.name, class_of c.atom c.proc_no c.colour)

-- the classes in order of registration, the count of all that were registered, and the names of messages
abbrev pub classes_at : Past → ClassTable
classes_at past = record { classes = map class_entry (classes past); registered = registered_count past; messages = message_names past }

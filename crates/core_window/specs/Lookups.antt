-- Calls of this layer that make and change no window and no class.
use Rattle.user_model.specs.declared.call.Call.{Call}
use Rattle.user_model.specs.declared.call.Call.TheVariants.{Register, Unregister, NewWindow, Doom, Unmake, Drop, Place, Show, Enable, EndThread}

-- a call that isn't about one class, and makes, changes and drops no window
abbrev pub IsLookup : Call → Type 0
IsLookup (Register name proc_no colour) = ⊥
IsLookup (Unregister name) = ⊥
IsLookup (NewWindow class title parent style ex l t r b) = ⊥
IsLookup (Doom w) = ⊥
IsLookup (Unmake w) = ⊥
IsLookup (Drop w) = ⊥
IsLookup (Place w after l t r b flags) = ⊥
IsLookup (Show w on) = ⊥
IsLookup (Enable w on) = ⊥
IsLookup EndThread = ⊥
IsLookup _ = Unit {0}

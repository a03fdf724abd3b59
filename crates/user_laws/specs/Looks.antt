-- What the entries make of how a window looks.
use Rattle.std.specs.Prelude.{if◌then◌else◌, ℕ, ◌==◌, Bool, false, Option, Some, None}
use Rattle.user_model.specs.declared.entry.Answer.{Answer}
use Rattle.user_model.specs.declared.entry.Answer.TheVariants.{Value, Window as WindowMade}
use Rattle.user_model.specs.declared.entry.Entry.{Entry}
use Rattle.user_model.specs.Past.{Past}
use Rattle.user_model.specs.Deeds.{Deed, making, placing, showing, enabling, deed}
use Rattle.user_model.specs.Looks.{Look, look, relooked}

-- whether an answered call makes w, puts it at a place, shows or hides it, or enables or disables it
abbrev pub touches : ℕ → Answer → Deed → Bool
touches w (WindowMade v) (making class title parent style ex l t r b) = v.0 == w
touches w (Value n) (placing v after l t r b flags) = v == w
touches w (Value n) (showing v on) = v == w
touches w (Value n) (enabling v on) = v == w
touches w _ _ = false

-- the look that an entry gives w, made of the one that w had before
abbrev pub gives_look : ℕ → Entry → Past → Option Look
gives_look w e before = if touches w e.answer (deed e.call) then Some (relooked w e.answer (deed e.call) (look before w)) else None

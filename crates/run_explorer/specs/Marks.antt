-- Runs in which some thread makes a registered message of a name, as a mark.
use Rattle.std.specs.Prelude.{ℕ, Bool, false, List, slice_get, Option, Some, None}
use Rattle.std.specs.List.{list_any}
use Rattle.std.specs.Str.{bytes_eq}
use Rattle.user_model.specs.declared.call.Call.{Call}
use Rattle.user_model.specs.declared.call.Call.TheVariants.{Message}
use Rattle.user_model.specs.Past.{Past}
use Rattle.script_tree.specs.Tree.{Tree}

-- whether there is a text, which is the name
abbrev pub has_text : Option (List ℕ) → List ℕ → Bool
has_text None name = false
has_text (Some text) name = bytes_eq text name

-- whether the call is a `message` of this name, where the script's names are these
abbrev pub makes_message : List (List ℕ) → List ℕ → Call → Bool
makes_message names name (Message number) = has_text (slice_get names number) name
makes_message names name _ = false

-- whether some call of the run is one; no run is marked where there is no name
abbrev pub is_marked : Tree → Option (List ℕ) → Past → Bool
is_marked s None past = false
is_marked s (Some name) past = list_any (λ e. makes_message s.names name e.call) past

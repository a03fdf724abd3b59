-- What one entry does to the table of windows and to the z-order together.
use Rattle.std.specs.Prelude.{◌≡◌, ℕ, None, ◌∷◌}
use Rattle.win_rows.specs.Windows.{Windows}
use Rattle.win_tree.specs.Kin.{doom_refusal, drop_refusal}
use Rattle.win_order.specs.Layers.{Layers}
use Rattle.user_model.specs.declared.call.Call.{Call}
use Rattle.user_model.specs.declared.call.Call.TheVariants.{Doom, Drop}
use Rattle.user_model.specs.declared.entry.Answer.{Answer}
use Rattle.user_model.specs.declared.entry.Answer.TheVariants.{Okay, Value, Window, Tell, Last}
use Rattle.user_model.specs.declared.entry.Entry.{Entry}
use Rattle.user_model.specs.declared.entry.Setup.{Setup}
use Rattle.user_model.specs.Past.{Past}
use Rattle.user_model.specs.Legal.{IsLawful}
use Rattle.window_state.specs.Effects.{IsAddedBy, IsAffected}
use Rattle.window_state.specs.Needs.{FitsLooking, FitsMaking, FitsUnmaking}
use Rattle.window_state.specs.Trees.{IsTreeAt}
use Rattle.window_state.specs.Orders.{FitsOrder, FitsOrderEffect, IsOrderAdded, affected_order}

-- what a call needs of the table that is answered by ok: the window that it marks or drops isn't refused
abbrev pub FitsCarryingOut : Call → Windows → Type 0
FitsCarryingOut (Doom w) t = doom_refusal t.live w ≡ None
FitsCarryingOut (Drop w) t = drop_refusal t.live w ≡ None
FitsCarryingOut _ t = Unit {0}

-- what an answer needs of the table
abbrev pub FitsTable : ℕ → Answer → Call → Windows → Type 0
FitsTable who (Window w) call t = FitsMaking who call t
FitsTable who (Value n) call t = FitsLooking t call
FitsTable who Okay call t = FitsCarryingOut call t
FitsTable who (Tell w) call t = FitsUnmaking t call
FitsTable who (Last w) call t = FitsUnmaking t call
FitsTable who _ call t = Unit {0}

-- what an entry needs of the table and of the order
pub record FitsEntry (who : ℕ) (a : Answer) (call : Call) (t : Windows) (z : Layers) : Type 0 where
  pub table : FitsTable who a call t
  pub order : FitsOrder who a call t z
  pub effect : FitsOrderEffect who a call t z

-- an entry after a lawful past has made the table t2 of the table t
pub record IsMade (t t2 : Windows) (e : Entry) : Type 0 where
  pub setup : Setup
  pub past : Past
  pub lawful : IsLawful setup (e ∷ past)
  pub before : IsTreeAt past t
  pub after : IsTreeAt (e ∷ past) t2

-- the table t and the order z have become t2 and z2: first what may want memory was done, then what takes none
pub record IsEntered (who : ℕ) (a : Answer) (call : Call) (t t2 : Windows) (z z2 : Layers) : Type 0 where
  pub grown : Windows
  pub placed : Layers
  pub added : IsAddedBy who a call t grown
  pub settled : IsAffected who a call grown t2
  pub put : IsOrderAdded a call t grown z placed
  pub left : z2 ≡ affected_order a call t2 placed

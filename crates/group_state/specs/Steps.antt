-- An entry that comes next, and what it makes of what is kept of groups.
use Rattle.std.specs.Prelude.{if◌then◌else◌, ◌≡◌, ℕ, ◌∷◌, ◌&&◌, Bool, false, List, Option, Some, None, length, nat_lt, option_map}
use Rattle.win_num.specs.declared.message.Msg.{Msg}
use Rattle.win_rows.specs.declared.window.Window.{Window}
use Rattle.win_rows.specs.Windows.{window_of}
use Rattle.input_state.specs.Groups.{has_bit}
use Rattle.user_model.specs.declared.call.Call.{Call}
use Rattle.user_model.specs.declared.entry.Entry.{Entry}
use Rattle.user_model.specs.declared.entry.Setup.{Setup}
use Rattle.user_model.specs.Past.{Past, is_refused}
use Rattle.user_model.specs.Retrievals.{removes, input_got}
use Rattle.user_model.specs.Keys.{KeyChange, change_in}
use Rattle.user_model.specs.Idle.{reply}
use Rattle.user_model.specs.Legal.{IsLawful}
use Rattle.group_state.specs.GroupTables.{Kept, IsGroupsAt}

-- the entry comes next at the place, after a lawful past that has made these groups
pub record IsNextAt (setup : Setup) (past : Past) (g : Kept) (place : ℕ) (e : Entry) : Type 0 where
  pub lawful : IsLawful setup past
  pub groups : IsGroupsAt setup past g
  pub at : place ≡ length past
  pub right : e.answer ≡ reply setup past e.who.0 e.call

-- the same for some past
pub record HasNext (g : Kept) (place : ℕ) (e : Entry) : Type 0 where
  pub setup : Setup
  pub past : Past
  pub next : IsNextAt setup past g place e

-- wherever the entry comes next after what was kept, the new is kept after it
abbrev pub Follows : ℕ → Entry → Kept → Kept → Type 0
Follows place e old new = (setup : Setup) (past : Past) → IsNextAt setup past old place e → IsGroupsAt setup (e ∷ past) new

-- the same of an entry that isn't refused and takes no input
abbrev pub FollowsCall : ℕ → Entry → Kept → Kept → Type 0
FollowsCall place e old new = (setup : Setup) (past : Past) → IsNextAt setup past old place e → is_refused e ≡ false → input_got e.answer e.call ≡ None → IsGroupsAt setup (e ∷ past) new

-- a change of a key as it is kept
abbrev pub key_pair : KeyChange → ℕ × Bool
key_pair c = (c.key, c.down)

-- the key that goes down or up by an input that a call hands out, and whether it goes down; a call that doesn't remove takes none
abbrev pub key_taken : Call → Msg → Option (ℕ × Bool)
key_taken call m = if removes call then option_map key_pair (change_in m.number m.wparam) else None

-- whether w is a live window of a thread that has its bit in the group
abbrev pub holds_in : List Window → ℕ → ℕ → Bool
holds_in ws group w = elim (window_of ws w) [ None ↦ false | Some x ↦ nat_lt x.row.thread.0 16 && has_bit group x.row.thread.0 ]

-- The owner of a window, told by the table.
use Rattle.std.proofs.Common.{◌≡◌, ℕ, List, map, Option, Some, None, refl, ap, ◌∙◌, sym}
use Rattle.std.specs.Prelude.{option_map, unwrap_or}
use Rattle.win_rows.specs.declared.window.Window.{Window as KeptWindow}
use Rattle.win_rows.specs.declared.row.WindowRow.{WindowRow}
use Rattle.win_rows.specs.Windows as kept
use Rattle.user_model.specs.Past.{Past}
use Rattle.user_model.specs.Windows.{Window, find_window, live}
use Rattle.user_model.specs.ReplyDialogs.{owner_of}
use Rattle.window_state.specs.Trees.{as_made}
use Rattle.window_state.proofs.Bridges.{window_made}

-- the owner of a window that may be none
abbrev owner_in : Option Window → ℕ
owner_in o = unwrap_or (option_map (λ x. x.owner) o) 0

owner_is : (past : Past) (ws : List KeptWindow) (w : ℕ) → map as_made ws ≡ live past → owner_of past w ≡ owner_in (option_map as_made (kept.window_of ws w))
owner_is past ws w e = ap (λ (us : List Window). owner_in (find_window us w)) (sym e) ∙ ap owner_in (window_made ws w)

none_owned : (o : Option KeptWindow) → None ≡ option_map (λ (x : KeptWindow). x.row) o → 0 ≡ owner_in (option_map as_made o)
none_owned None e = refl
none_owned (Some x) e = absurd cc

-- a number of no window has none
pub no_owner : (past : Past) (ws : List KeptWindow) (w : ℕ) → map as_made ws ≡ live past → None ≡ option_map (λ (x : KeptWindow). x.row) (kept.window_of ws w) → 0 ≡ owner_of past w
no_owner past ws w e none = none_owned (kept.window_of ws w) none ∙ sym (owner_is past ws w e)

some_owned : (o : Option KeptWindow) (row : WindowRow) → Some row ≡ option_map (λ (x : KeptWindow). x.row) o → row.owner.0 ≡ owner_in (option_map as_made o)
some_owned None row e = absurd cc
some_owned (Some x) row e =
    let same : row ≡ x.row = cc in
    ap (λ (r : WindowRow). r.owner.0) same

-- a window has that of its row
pub row_owner : (past : Past) (ws : List KeptWindow) (w : ℕ) (row : WindowRow) → map as_made ws ≡ live past → Some row ≡ option_map (λ (x : KeptWindow). x.row) (kept.window_of ws w) → row.owner.0 ≡ owner_of past w
row_owner past ws w row e found = some_owned (kept.window_of ws w) row found ∙ sym (owner_is past ws w e)

-- What a look-up in the table of windows finds.
use Rattle.std.proofs.Common.{◌≡◌, ℕ, Bool, false, List, Option, Some, None, refl, ap, sym}
use Rattle.std.specs.Prelude.{is_some, option_map, unwrap_or}
use Rattle.win_rows.specs.declared.window.Window.{Window}
use Rattle.win_rows.specs.declared.row.WindowRow.{WindowRow}
use Rattle.win_num.specs.declared.message.Hwnd.{Hwnd}
use Rattle.win_num.specs.declared.names.TheConstants.{WS_DISABLED, WS_VISIBLE}
use Rattle.win_rows.specs.Windows.{nobody, number_of, window_of, is_marked, is_ended}
use Rattle.win_tree.specs.Kin.{parent_of}
use Rattle.user_model.specs.Windows.{has_flag}
use Rattle.window_state.specs.Placings.{disabled_in, shown_in}
use Rattle.window_state.specs.Trees.{thread_in}
use Rattle.window_state.specs.Steps.{up_of}

-- a number is found where a window is
pub number_found : (o : Option Window) → is_some (option_map number_of o) ≡ is_some o
number_found None = refl
number_found (Some x) = refl

none_of : (o : Option Window) → None ≡ option_map number_of o → o ≡ None
none_of None e = refl
none_of (Some x) e = absurd cc

-- where no number is found, no window is
pub none_found : (ws : List Window) (w : ℕ) → None ≡ option_map number_of (window_of ws w) → window_of ws w ≡ None
none_found ws w e = none_of (window_of ws w) e

pub none_marked : (ws : List Window) (w : ℕ) → None ≡ option_map number_of (window_of ws w) → false ≡ is_marked ws w
none_marked ws w e = sym (ap (λ (o : Option Window). unwrap_or (option_map (λ x. x.marked) o) false) (none_found ws w e))

pub none_ended : (ws : List Window) (w : ℕ) → None ≡ option_map number_of (window_of ws w) → false ≡ is_ended ws w
none_ended ws w e = sym (ap (λ (o : Option Window). unwrap_or (option_map (λ x. x.ended) o) false) (none_found ws w e))

pub none_threaded : (ws : List Window) (w : ℕ) → None ≡ option_map number_of (window_of ws w) → 0 ≡ thread_in ws w
none_threaded ws w e = sym (ap (λ (o : Option Window). unwrap_or (option_map (λ x. x.row.thread.0) o) 0) (none_found ws w e))

pub none_parented : (ws : List Window) (w : ℕ) → None ≡ option_map number_of (window_of ws w) → 0 ≡ (parent_of ws w).0
none_parented ws w e = sym (ap (λ (o : Option Window). (elim o as (λ p. Hwnd) [ Some x ↦ x.row.parent | None ↦ nobody ]).0) (none_found ws w e))

pub none_shown : (ws : List Window) (w : ℕ) → None ≡ option_map number_of (window_of ws w) → false ≡ shown_in ws w
none_shown ws w e = sym (ap (λ (o : Option Window). elim o as (λ p. Bool) [ None ↦ false | Some x ↦ has_flag x.row.style WS_VISIBLE ]) (none_found ws w e))

pub none_disabled : (ws : List Window) (w : ℕ) → None ≡ option_map number_of (window_of ws w) → false ≡ disabled_in ws w
none_disabled ws w e = sym (ap (λ (o : Option Window). elim o as (λ p. Bool) [ None ↦ false | Some x ↦ has_flag x.row.style WS_DISABLED ]) (none_found ws w e))

-- what stands above the window of a row
pub row_up : (o : Option Window) (row : WindowRow) → Some row ≡ option_map (λ (x : Window). x.row) o → Some (up_of row).0 ≡ option_map (λ (x : Window). (up_of x.row).0) o
row_up None row e = absurd cc
row_up (Some x) row e =
    let same : row ≡ x.row = cc in
    ap (λ (r : WindowRow). let o : Option ℕ = Some (up_of r).0 in o) same

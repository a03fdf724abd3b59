-- The colour of a window's class, told by the tables.
use Rattle.std.proofs.Common.{◌≡◌, ℕ, List, map, Option, Some, None, refl, ap, ◌∙◌, sym}
use Rattle.std.specs.Prelude.{option_map, unwrap_or}
use Rattle.win_class.specs.declared.classes.Class.{Class as KeptClass}
use Rattle.win_class.specs.ClassTable.{ClassTable, class_in}
use Rattle.win_rows.specs.declared.window.Window.{Window as KeptWindow}
use Rattle.win_rows.specs.declared.row.WindowRow.{WindowRow}
use Rattle.win_rows.specs.Windows as kept
use Rattle.user_model.specs.Past.{Past}
use Rattle.user_model.specs.Windows.{Window, find_window, live}
use Rattle.user_model.specs.Classes.{Class, class, colour_of}
use Rattle.window_state.specs.ClassTables.{classes_at}
use Rattle.window_state.specs.Trees.{as_made}
use Rattle.window_state.proofs.Bridges.{window_made}
use Rattle.window_state.proofs.ClassLaws.{class_at, kept_class}

-- the colour of the class of a window that may be none
abbrev colour_in : Past → Option Window → ℕ
colour_in past o = unwrap_or (option_map (λ (c : Class). c.colour) (elim o as (λ _. Option Class) [ Some x ↦ class past x.class | None ↦ None ])) 0

colour_is : (past : Past) (ws : List KeptWindow) (w : ℕ) → map as_made ws ≡ live past → colour_of past w ≡ colour_in past (option_map as_made (kept.window_of ws w))
colour_is past ws w e = ap (λ (us : List Window). colour_in past (find_window us w)) (sym e) ∙ ap (colour_in past) (window_made ws w)

none_colour : (past : Past) (o : Option KeptWindow) → None ≡ option_map (λ (x : KeptWindow). x.row) o → 0 ≡ colour_in past (option_map as_made o)
none_colour past None e = refl
none_colour past (Some x) e = absurd cc

-- a number of no window has none
pub no_colour : (past : Past) (ws : List KeptWindow) (w : ℕ) → map as_made ws ≡ live past → None ≡ option_map (λ (x : KeptWindow). x.row) (kept.window_of ws w) → 0 ≡ colour_of past w
no_colour past ws w e none = none_colour past (kept.window_of ws w) none ∙ sym (colour_is past ws w e)

some_colour : (past : Past) (o : Option KeptWindow) (row : WindowRow) → Some row ≡ option_map (λ (x : KeptWindow). x.row) o → colour_in past (option_map as_made o) ≡ unwrap_or (option_map (λ (c : Class). c.colour) (class past row.class)) 0
some_colour past None row e = absurd cc
some_colour past (Some x) row e =
    let same : x.row ≡ row = cc in
    ap (λ (r : WindowRow). unwrap_or (option_map (λ (c : Class). c.colour) (class past r.class)) 0) same

class_colour : (o : Option KeptClass) (q : Option Class) → o ≡ option_map kept_class q → unwrap_or (option_map (λ (c : KeptClass). c.colour) o) 0 ≡ unwrap_or (option_map (λ (c : Class). c.colour) q) 0
class_colour o None e = ap (λ (p : Option KeptClass). unwrap_or (option_map (λ (c : KeptClass). c.colour) p) 0) e
class_colour o (Some c) e = ap (λ (p : Option KeptClass). unwrap_or (option_map (λ (c : KeptClass). c.colour) p) 0) e

-- a window has that of its class
pub row_colour : (past : Past) (ws : List KeptWindow) (w : ℕ) (t : ClassTable) (row : WindowRow) → map as_made ws ≡ live past → t ≡ classes_at past → Some row ≡ option_map (λ (x : KeptWindow). x.row) (kept.window_of ws w) → unwrap_or (option_map (λ (c : KeptClass). c.colour) (class_in t row.class)) 0 ≡ colour_of past w
row_colour past ws w t row e same found =
    class_colour (class_in t row.class) (class past row.class) (ap (λ (u : ClassTable). class_in u row.class) same ∙ class_at past row.class)
    ∙ sym (some_colour past (kept.window_of ws w) row found) ∙ sym (colour_is past ws w e)

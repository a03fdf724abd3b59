-- The procedure of a window, told by the tables.
use Rattle.std.proofs.Common.{◌≡◌, ℕ, List, map, Option, Some, None, refl, ap, ◌∙◌, sym}
use Rattle.std.specs.Prelude.{option_map, unwrap_or}
use Rattle.win_class.specs.declared.classes.Class.{Class as KeptClass}
use Rattle.win_class.specs.ClassTable.{ClassTable, class_in}
use Rattle.win_rows.specs.declared.window.Window.{Window as KeptWindow}
use Rattle.win_rows.specs.declared.row.WindowRow.{WindowRow}
use Rattle.win_rows.specs.Windows as kept
use Rattle.user_model.specs.Past.{Past}
use Rattle.user_model.specs.Windows.{Window, find_window, live}
use Rattle.user_model.specs.Classes.{Class, class, proc_of}
use Rattle.window_state.specs.ClassTables.{classes_at}
use Rattle.window_state.specs.Trees.{as_made}
use Rattle.window_state.proofs.Bridges.{window_made}
use Rattle.window_state.proofs.ClassLaws.{class_at, kept_class}

-- the procedure of a window that may be none
abbrev proc_in : Past → Option Window → ℕ
proc_in past o = unwrap_or (option_map (λ (c : Class). c.proc_no) (elim o as (λ _. Option Class) [ Some x ↦ class past x.class | None ↦ None ])) 0

proc_is : (past : Past) (ws : List KeptWindow) (w : ℕ) → map as_made ws ≡ live past → proc_of past w ≡ proc_in past (option_map as_made (kept.window_of ws w))
proc_is past ws w e = ap (λ (us : List Window). proc_in past (find_window us w)) (sym e) ∙ ap (proc_in past) (window_made ws w)

none_proc : (past : Past) (o : Option KeptWindow) → None ≡ option_map (λ (x : KeptWindow). x.row) o → 0 ≡ proc_in past (option_map as_made o)
none_proc past None e = refl
none_proc past (Some x) e = absurd cc

-- a number of no window has none
pub no_proc : (past : Past) (ws : List KeptWindow) (w : ℕ) → map as_made ws ≡ live past → None ≡ option_map (λ (x : KeptWindow). x.row) (kept.window_of ws w) → 0 ≡ proc_of past w
no_proc past ws w e none = none_proc past (kept.window_of ws w) none ∙ sym (proc_is past ws w e)

some_proc : (past : Past) (o : Option KeptWindow) (row : WindowRow) → Some row ≡ option_map (λ (x : KeptWindow). x.row) o → proc_in past (option_map as_made o) ≡ unwrap_or (option_map (λ (c : Class). c.proc_no) (class past row.class)) 0
some_proc past None row e = absurd cc
some_proc past (Some x) row e =
    let same : x.row ≡ row = cc in
    ap (λ (r : WindowRow). unwrap_or (option_map (λ (c : Class). c.proc_no) (class past r.class)) 0) same

class_proc : (o : Option KeptClass) (q : Option Class) → o ≡ option_map kept_class q → unwrap_or (option_map (λ (c : KeptClass). c.proc_no) o) 0 ≡ unwrap_or (option_map (λ (c : Class). c.proc_no) q) 0
class_proc o None e = ap (λ (p : Option KeptClass). unwrap_or (option_map (λ (c : KeptClass). c.proc_no) p) 0) e
class_proc o (Some c) e = ap (λ (p : Option KeptClass). unwrap_or (option_map (λ (c : KeptClass). c.proc_no) p) 0) e

-- a window has that of its class
pub row_proc : (past : Past) (ws : List KeptWindow) (w : ℕ) (t : ClassTable) (row : WindowRow) → map as_made ws ≡ live past → t ≡ classes_at past → Some row ≡ option_map (λ (x : KeptWindow). x.row) (kept.window_of ws w) → unwrap_or (option_map (λ (c : KeptClass). c.proc_no) (class_in t row.class)) 0 ≡ proc_of past w
row_proc past ws w t row e same found =
    class_proc (class_in t row.class) (class past row.class) (ap (λ (u : ClassTable). class_in u row.class) same ∙ class_at past row.class)
    ∙ sym (some_proc past (kept.window_of ws w) row found) ∙ sym (proc_is past ws w e)

-- a window that isn't found has no row
pub unfound : (o : Option KeptWindow) → None ≡ option_map kept.number_of o → None ≡ option_map (λ (x : KeptWindow). x.row) o
unfound None e = refl
unfound (Some x) e = absurd cc

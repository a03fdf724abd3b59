-- Settings at a past with one entry more.
use Rattle.std.proofs.Common.{◌≡◌, ◌≢◌, ◌⊎◌, ℕ, ◌+◌, ◌*◌, ◌<◌, Bool, true, false, cond, eqb, List, ◌∷◌, length, Some, None, get_or, set, refl, ap, ◌∙◌, sym, inl, inr, arith}
use Rattle.std.specs.Prelude.{◌&&◌}
use Rattle.std.proofs.lemmas.Bool.{cases_eq, eq-eqb, ne_eqb}
use Rattle.std.proofs.lemmas.List.{get_or-set_same, get_or-set_other}
use Rattle.win_num.specs.declared.message.Hwnd.{Hwnd}
use Rattle.input_state.specs.declared.state.Slot.{Slot}
use Rattle.input_state.specs.declared.state.Slot.TheVariants.{Focus, Active, Capture}
use Rattle.input_state.specs.State.{State, cell, row_number, with_window}
use Rattle.user_model.specs.declared.call.Call.{Call}
use Rattle.user_model.specs.declared.call.Call.TheVariants as calls
use Rattle.user_model.specs.declared.entry.Entry.{Entry}
use Rattle.user_model.specs.Past.{Past, is_refused}
use Rattle.user_model.specs.Focus.{last_set, set_in}
use Rattle.user_model.specs.ZOrder.{hwnd}
use Rattle.group_state.specs.GroupTables.{HasSetting, named, order_of}
use Rattle.group_state.proofs.LastSettings.{place-refused, place-told, place-untold, told-refused, told-told, told-untold}
use Rattle.group_state.proofs.Setters.{setting_in}

-- ---- cells

pub row_low : (s : Slot) → row_number s < 3
row_low Focus = omega arith
row_low Active = omega arith
row_low Capture = omega arith

pub cell_low : (rows r t : ℕ) → r < rows → t < 16 → cell r t < 16 * rows
cell_low rows r t lr lt = omega (arith, lr, lt)

-- one cell of a table was written
pub cell_written : {X : Type 0} (rows : ℕ) (xs : List X) (r s t u : ℕ) (x d : X) → length xs ≡ 16 * rows → r < rows → t < 16 → u < 16 → get_or (set xs (cell r t) x) (cell s u) d ≡ cond (eqb r s && eqb t u) x (get_or xs (cell s u) d)
cell_written rows xs r s t u x d long lr lt lu = by (cases_eq r s) (cases_eq t u)
  where
    apart : cell s u ≢ cell r t → (eqb r s && eqb t u) ≡ false → get_or (set xs (cell r t) x) (cell s u) d ≡ cond (eqb r s && eqb t u) x (get_or xs (cell s u) d)
    apart ne other = get_or-set_other xs (cell r t) (cell s u) x d ne ∙ sym (ap (λ b. cond b x (get_or xs (cell s u) d)) other)

    none : (b : Bool) → (b && false) ≡ false
    none true = refl
    none false = refl

    by : (r ≡ s) ⊎ (r ≡ s → ⊥) → (t ≡ u) ⊎ (t ≡ u → ⊥) → get_or (set xs (cell r t) x) (cell s u) d ≡ cond (eqb r s && eqb t u) x (get_or xs (cell s u) d)
    by (inl e) (inl f) =
        ap (λ k. get_or (set xs (cell r t) x) k d) (ap (λ k. cell k u) (sym e) ∙ ap (cell r) (sym f))
        ∙ get_or-set_same xs (cell r t) x d (let low : cell r t < 16 * rows = cell_low rows r t lr lt in omega (arith, low, long))
        ∙ sym (ap (λ b. cond (b && eqb t u) x (get_or xs (cell s u) d)) (eq-eqb r s e) ∙ ap (λ b. cond b x (get_or xs (cell s u) d)) (eq-eqb t u f))
    by (inr ne) f = apart (λ k. ne (let h : 16 * s + u ≡ 16 * r + t = k in omega (arith, h, lt, lu))) (ap (λ b. b && eqb t u) (ne_eqb r s ne))
    by (inl e) (inr nf) = apart (λ k. nf (let h : 16 * s + u ≡ 16 * r + t = k in omega (arith, h, e))) (ap (λ b. eqb r s && b) (ne_eqb t u nf) ∙ none (eqb r s))

-- ---- what a call sets

-- the call sets this slot alone
pub record SetsOne (call : Call) (slot : Slot) (w : ℕ) : Type 0 where
  pub sets : (s : Slot) → set_in (named s) call ≡ cond (eqb (row_number slot) (row_number s)) (Some w) None

-- the call sets no slot
abbrev pub SetsNone : Call → Type 0
SetsNone call = (s : Slot) → set_in (named s) call ≡ None

focus_alone : (w : ℕ) (s : Slot) → set_in (named s) (calls.SetFocus w) ≡ cond (eqb 0 (row_number s)) (Some w) None
focus_alone w Focus = refl
focus_alone w Active = refl
focus_alone w Capture = refl

active_alone : (w : ℕ) (s : Slot) → set_in (named s) (calls.SetActive w) ≡ cond (eqb 1 (row_number s)) (Some w) None
active_alone w Focus = refl
active_alone w Active = refl
active_alone w Capture = refl

capture_alone : (w : ℕ) (s : Slot) → set_in (named s) (calls.SetCapture w) ≡ cond (eqb 2 (row_number s)) (Some w) None
capture_alone w Focus = refl
capture_alone w Active = refl
capture_alone w Capture = refl

release_alone : (s : Slot) → set_in (named s) calls.ReleaseCapture ≡ cond (eqb 2 (row_number s)) (Some 0) None
release_alone Focus = refl
release_alone Active = refl
release_alone Capture = refl

pub sets_focus : (w : ℕ) → SetsOne (calls.SetFocus w) Focus w
sets_focus w = record { sets = focus_alone w }

pub sets_active : (w : ℕ) → SetsOne (calls.SetActive w) Active w
sets_active w = record { sets = active_alone w }

pub sets_capture : (w : ℕ) → SetsOne (calls.SetCapture w) Capture w
sets_capture w = record { sets = capture_alone w }

pub sets_release : SetsOne calls.ReleaseCapture Capture 0
sets_release = record { sets = release_alone }

-- ---- the settings that are kept

pub settings_refused : (e : Entry) (past : Past) (s : State) (slot : Slot) (t : ℕ) → is_refused e ≡ true → HasSetting past s slot t → HasSetting (e ∷ past) s slot t
settings_refused e past s slot t h has = record {
  window = has.window ∙ ap hwnd (sym (told-refused (setting_in (named slot)) 0 (λ u. eqb u t) e past h));
  order = has.order ∙ sym (place-refused (setting_in (named slot)) t e past h);
}

pub settings_rest : (e : Entry) (past : Past) (s : State) (slot : Slot) (t : ℕ) → is_refused e ≡ false → SetsNone e.call → HasSetting past s slot t → HasSetting (e ∷ past) s slot t
settings_rest e past s slot t fine none has = record {
  window = has.window ∙ ap hwnd (sym (told-untold (setting_in (named slot)) 0 (λ u. eqb u t) e past fine (none slot)));
  order = has.order ∙ sym (place-untold (setting_in (named slot)) t e past fine (none slot));
}

-- one is set
pub setting_made : (e : Entry) (past : Past) (s : State) (slot : Slot) (w : ℕ) (v : Hwnd) (place : ℕ) → is_refused e ≡ false → SetsOne e.call slot w → v ≡ hwnd w → place ≡ length past → e.who.0 < 16 → length s.windows ≡ 48 → length s.window_orders ≡ 48
    → (x : Slot) (t : ℕ) → t < 16 → HasSetting past s x t → HasSetting (e ∷ past) (with_window s e.who slot v place) x t
setting_made e past s slot w v place fine call is at low long longer x t lt has = record {
  window =
      cell_written 3 s.windows (row_number slot) (row_number x) e.who.0 t v (hwnd 0) long (row_low slot) low lt
      ∙ ap (λ k. cond (eqb (row_number slot) (row_number x) && eqb e.who.0 t) v k) has.window
      ∙ ap (λ k. cond (eqb (row_number slot) (row_number x) && eqb e.who.0 t) k (hwnd (last_set (λ u. eqb u t) (named x) past))) is
      ∙ windows (eqb (row_number slot) (row_number x)) refl;
  order =
      cell_written 3 s.window_orders (row_number slot) (row_number x) e.who.0 t (place + 1) 0 longer (row_low slot) low lt
      ∙ ap (λ k. cond (eqb (row_number slot) (row_number x) && eqb e.who.0 t) (place + 1) k) has.order
      ∙ ap (λ k. cond (eqb (row_number slot) (row_number x) && eqb e.who.0 t) (k + 1) (order_of t (named x) past)) at
      ∙ orders (eqb (row_number slot) (row_number x)) refl;
}
  where
    told : (b : Bool) → eqb (row_number slot) (row_number x) ≡ b → set_in (named x) e.call ≡ cond b (Some w) None
    told b h = call.sets x ∙ ap (λ c. cond c (Some w) None) h

    in_hwnd : (b : Bool) (m : ℕ) → cond b (hwnd w) (hwnd m) ≡ hwnd (cond b w m)
    in_hwnd true m = refl
    in_hwnd false m = refl

    windows : (b : Bool) → eqb (row_number slot) (row_number x) ≡ b → cond (b && eqb e.who.0 t) (hwnd w) (hwnd (last_set (λ u. eqb u t) (named x) past)) ≡ hwnd (last_set (λ u. eqb u t) (named x) (e ∷ past))
    windows true h = in_hwnd (eqb e.who.0 t) (last_set (λ u. eqb u t) (named x) past) ∙ ap hwnd (sym (told-told (setting_in (named x)) 0 (λ u. eqb u t) e past w fine (told true h)))
    windows false h = ap hwnd (sym (told-untold (setting_in (named x)) 0 (λ u. eqb u t) e past fine (told false h)))

    orders : (b : Bool) → eqb (row_number slot) (row_number x) ≡ b → cond (b && eqb e.who.0 t) (length past + 1) (order_of t (named x) past) ≡ order_of t (named x) (e ∷ past)
    orders true h = sym (place-told (setting_in (named x)) t e past w fine (told true h))
    orders false h = sym (place-untold (setting_in (named x)) t e past fine (told false h))

-- A window that wasn't made has no erase flag.
use Rattle.std.proofs.Common.{◌≡◌, ◌∙◌, ℕ, ◌+◌, ◌<◌, Bool, true, false, not, cond, eqb, List, [], ◌∷◌, ◌++◌, length, append-nil, Option, Some, None, refl, sym, ap, inl, inr, arith}
use Rattle.std.specs.Prelude.{◌||◌, ◌&&◌, filter, unwrap_or, is_some}
use Rattle.std.proofs.lemmas.Bool.{eqb-true, ne_eqb, false≢true, true≢false}
use Rattle.user_model.specs.declared.call.Call.{Call}
use Rattle.user_model.specs.declared.call.Call.TheVariants as calls
use Rattle.user_model.specs.declared.entry.Entry.{Entry}
use Rattle.user_model.specs.declared.entry.Setup.{Setup}
use Rattle.user_model.specs.Past.{Past, is_refused}
use Rattle.user_model.specs.Idle.{reply}
use Rattle.user_model.specs.Legal.{IsLawful}
use Rattle.user_model.specs.Windows.{Window, drops, find_window, is_live, live, windows_made}
use Rattle.user_model.specs.Dirty.{carries, exposes, exposes_some, flag_told, flags_erase, has_dirty, moves, must_erase, owns, set_where}
use Rattle.region_box.specs.Screens.{screen_points}
use Rattle.user_model.proofs.DirtyLaws.{flag-next, flag-refused}
use Rattle.user_model.proofs.LiveWindows.{live-made, makes, sound}
use Rattle.user_model.proofs.WindowFacts.{made_grows, not_made}
use Rattle.user_model.proofs.WindowLaws.{live-next, live-refused}
use Rattle.screen_state.proofs.Owning.{dead_owns}
use Rattle.screen_state.proofs.QuietEntries.{none_kept}
use Rattle.screen_state.proofs.Somewhere.{none_passes}
use Rattle.screen_state.proofs.Undrawn.{invalidate_told}

-- an entry exposes nothing for a window that isn't live after it
pub dead_unexposed : (setup : Setup) (past : Past) (e : Entry) (w : ℕ) → IsLawful setup (e ∷ past) → is_live (e ∷ past) w ≡ false → exposes_some setup e past w ≡ false
dead_unexposed setup past e w lawful dead = none_passes (exposes setup e past w) (screen_points setup.width setup.height) (λ p. ap (λ b. (b && (moves e past w || not (owns setup past w p))) && not (carries setup e past w p)) (dead_owns setup (e ∷ past) lawful w p dead))

unset_told : (setup : Setup) (past : Past) (e : Entry) (w : ℕ) → IsLawful setup (e ∷ past) → is_refused e ≡ false → is_live past w ≡ false → unwrap_or (flag_told setup e.call (e ∷ past) w) false ≡ false
unset_told setup past e w lawful fine dead = by e.call refl
  where
    cleared : (b : Bool) → unwrap_or (set_where b false) false ≡ false
    cleared true = refl
    cleared false = refl

    by : (call : Call) → e.call ≡ call → unwrap_or (flag_told setup call (e ∷ past) w) false ≡ false
    by (calls.Invalidate v l t r b erase) k =
        let told = invalidate_told setup past e.who.0 v l t r b erase e.answer (ap (reply setup past e.who.0) (sym k) ∙ sym lawful.1) fine in
        let other : eqb v w ≡ false = ne_eqb v w (λ (same : v ≡ w). false≢true (sym dead ∙ (ap (is_live past) (sym same) ∙ told.lives))) in
        ap (λ c. unwrap_or (set_where (c && eqb erase 1) true) false) other
    by (calls.Validate v l t r b) k = cleared (eqb v w && not (has_dirty setup (e ∷ past) w))
    by (calls.BeginPaint v) k = cleared (eqb v w)
    by _ k = refl

lower : (setup : Setup) (e : Entry) (past : Past) (w : ℕ) → 15 + length (windows_made (e ∷ past)) < w → 15 + length (windows_made past) < w
lower setup e past w lt = omega (arith, lt, made_grows e past)

pub unset_new : (setup : Setup) (past : Past) (w : ℕ) → IsLawful setup past → 15 + length (windows_made past) < w → must_erase setup past w ≡ false
unset_new setup [] w lawful lt = refl
unset_new setup (e ∷ past) w lawful lt = by (unset_new setup past w lawful.0 (lower setup e past w lt)) (is_refused e) refl
  where
    dead : is_live (e ∷ past) w ≡ false
    dead = ap (λ (o : Option Window). is_some o) (not_made setup (e ∷ past) w lawful lt)

    was_dead : is_live past w ≡ false
    was_dead = ap (λ (o : Option Window). is_some o) (not_made setup past w lawful.0 (lower setup e past w lt))

    by : must_erase setup past w ≡ false → (b : Bool) → is_refused e ≡ b → must_erase setup (e ∷ past) w ≡ false
    by before true h = flag-refused setup e past w h ∙ before
    by before false h =
        flag-next setup e past w h
        ∙ (ap (unwrap_or (flags_erase setup w e past)) before
        ∙ (ap (λ b. unwrap_or (elim b as (λ c. Option Bool) [ true ↦ Some true | false ↦ flag_told setup e.call (e ∷ past) w ]) false) (dead_unexposed setup past e w lawful dead)
        ∙ unset_told setup past e w lawful h was_dead))

-- ---- windows that are new

gone_stays : (q : Window → Bool) (ws : List Window) (v : ℕ) → is_some (find_window ws v) ≡ false → is_some (find_window (filter q ws) v) ≡ false
gone_stays q ws v dead = by (find_window ws v) refl dead
  where
    by : (o : Option Window) → find_window ws v ≡ o → is_some o ≡ false → is_some (find_window (filter q ws) v) ≡ false
    by None k h = ap (λ (o : Option Window). is_some o) (none_kept q ws v k)
    by (Some x) k h = absurd (true≢false h)

last_found : (ws : List Window) (z : Window) (v : ℕ) → is_some (find_window ws v) ≡ false → is_some (find_window (ws ++ z ∷ []) v) ≡ true → z.number ≡ v
last_found [] z v dead lives = by (eqb z.number v) refl lives
  where
    by : (b : Bool) → eqb z.number v ≡ b → is_some (cond b (Some z) None) ≡ true → z.number ≡ v
    by true k h = eqb-true z.number v k
    by false k h = absurd (false≢true h)
last_found (x ∷ ws) z v dead lives = by (last_found ws z v) (eqb x.number v) dead lives
  where
    by : (is_some (find_window ws v) ≡ false → is_some (find_window (ws ++ z ∷ []) v) ≡ true → z.number ≡ v) → (b : Bool) → is_some (cond b (Some x) (find_window ws v)) ≡ false → is_some (cond b (Some x) (find_window (ws ++ z ∷ []) v)) ≡ true → z.number ≡ v
    by rest true d h = absurd (true≢false d)
    by rest false d h = rest d h

-- a window that is live with the entry, and wasn't before, has the next number
pub is_new : (setup : Setup) (past : Past) (e : Entry) (w : ℕ) → IsLawful setup (e ∷ past) → is_live past w ≡ false → is_live (e ∷ past) w ≡ true → 15 + length (windows_made past) < w
is_new setup past e w lawful dead lives = by (is_refused e) refl
  where
    by : (b : Bool) → is_refused e ≡ b → 15 + length (windows_made past) < w
    by true h = absurd (false≢true (sym dead ∙ (ap (λ (ws : List Window). is_some (find_window ws w)) (sym (live-refused e past h)) ∙ lives)))
    by false h = elim (makes setup past e.who e.call e.answer lawful.1 (sound setup past lawful.0).under) [
      | inl none ↦ (
          let left : live (e ∷ past) ≡ filter (λ y. not (drops e (live past) y)) (live past) =
          live-next e past h ∙ (ap (λ us. filter (λ y. not (drops e (live past) y)) (live past) ++ us) none.none ∙ append-nil (filter (λ y. not (drops e (live past) y)) (live past))) in
          absurd (false≢true (sym (gone_stays (λ y. not (drops e (live past) y)) (live past) w dead) ∙ (ap (λ (ws : List Window). is_some (find_window ws w)) (sym left) ∙ lives))))
      | inr one ↦ (
          let same = last_found (live past) one.z w dead (ap (λ (ws : List Window). is_some (find_window ws w)) (sym (live-made setup past e one h)) ∙ lives) in
          omega (arith, same, one.is_next))
    ]

-- so its flag is clear
pub unset_fresh : (setup : Setup) (past : Past) (e : Entry) (w : ℕ) → IsLawful setup (e ∷ past) → is_live past w ≡ false → is_live (e ∷ past) w ≡ true → must_erase setup past w ≡ false
unset_fresh setup past e w lawful dead lives = unset_new setup past w lawful.0 (is_new setup past e w lawful dead lives)

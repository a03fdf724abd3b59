-- The nearest window that isn't disabled, as the past has it.
use Rattle.std.proofs.Common.{◌≡◌, ◌≢◌, ◌∙◌, ℕ, zero, suc, ◌-◌, Bool, true, false, cond, List, Option, Some, None, refl, sym, ap, inl, inr, arith}
use Rattle.std.specs.Prelude.{◌⊎◌, ◌&&◌, option_map}
use Rattle.std.proofs.lemmas.Bool.{eq-eqb, ne_eqb}
use Rattle.win_rows.specs.declared.row.WindowRow.{WindowRow}
use Rattle.win_rows.specs.declared.window.Window.{Window as KeptWindow}
use Rattle.win_rows.specs.Windows as kept
use Rattle.win_rows.specs.Windows.{Windows}
use Rattle.user_model.specs.declared.entry.Setup.{Setup}
use Rattle.user_model.specs.Legal.{IsLawful}
use Rattle.user_model.specs.Looks.{is_disabled}
use Rattle.user_model.specs.Past.{Past}
use Rattle.user_model.specs.Targets.{enabled_within}
use Rattle.user_model.specs.Windows.{is_live, live, parent_in}
use Rattle.window_state.specs.Enabled.{IsEnabledAt, enabled_from}
use Rattle.window_state.specs.Placings.{disabled_in}
use Rattle.window_state.specs.Trees.{IsTreeAt}
use Rattle.window_state.proofs.BoxLaws.{in_table, no_row}
use Rattle.window_state.proofs.LookSteps.{disabled_at}

-- one step up in the table
abbrev stepped : ℕ → List KeptWindow → ℕ → Option KeptWindow → ℕ
stepped n ws w o = elim o as (λ q. ℕ) [ None ↦ 0 | Some x ↦ cond (disabled_in ws w) (enabled_from n ws x.row.parent.0) w ]

-- one step down in the past
abbrev walked : ℕ → Past → ℕ → ℕ → Bool → Bool → ℕ
walked n past w parent none disabled = elim none as (λ q. ℕ) [ true ↦ 0 | false ↦ elim disabled as (λ q. ℕ) [ true ↦ enabled_within n past parent | false ↦ w ] ]

either_way : (b : Bool) (x y : ℕ) → cond b x y ≡ elim b as (λ q. ℕ) [ true ↦ x | false ↦ y ]
either_way true x y = refl
either_way false x y = refl

module _ (setup : Setup) (past : Past) (lawful : IsLawful setup past) (t : Windows) (at : IsTreeAt past t) where
  enabled_from_at : (n w : ℕ) → (w ≡ 0) ⊎ (is_live past w ≡ true) → enabled_from n t.live w ≡ enabled_within n past w
  enabled_from_at zero w known = refl
  enabled_from_at (suc n) w (inl none) =
      ap (stepped n t.live w) (no_row setup past lawful t at w none)
      ∙ sym (ap (λ b. walked n past w (parent_in (live past) w) b (is_disabled past w)) (eq-eqb w 0 none))
  enabled_from_at (suc n) w (inr lives) =
      let x = in_table setup past lawful t at w lives in
      let disabled : disabled_in t.live w ≡ is_disabled past w = disabled_at past t w at ∙ ap (λ b. b && is_disabled past w) lives in
      ap (stepped n t.live w) x.is_row
      ∙ ap (λ b. cond b (enabled_from n t.live x.row.row.parent.0) w) disabled
      ∙ ap (λ v. cond (is_disabled past w) v w) (enabled_from_at n x.row.row.parent.0 x.known)
      ∙ either_way (is_disabled past w) (enabled_within n past x.row.row.parent.0) w
      ∙ sym (ap (λ b. walked n past w (parent_in (live past) w) b (is_disabled past w)) (ne_eqb w 0 x.some) ∙ ap (λ p. walked n past w p false (is_disabled past w)) x.parent)

-- what the walk finds is what the past says
pub is_enabled : (t : Windows) (w v : ℕ) → v ≡ enabled_from w t.live w → IsEnabledAt t w v
is_enabled t w v is setup past lawful at known = is ∙ enabled_from_at setup past lawful t at w w known

row_at : (o : Option KeptWindow) (row : WindowRow) (n w : ℕ) (ws : List KeptWindow) → Some row ≡ option_map (λ (x : KeptWindow). x.row) o → stepped n ws w o ≡ cond (disabled_in ws w) (enabled_from n ws row.parent.0) w
row_at None row n w ws e = let none : Some row ≡ None = e in absurd cc
row_at (Some x) row n w ws e = let same : row ≡ x.row = cc in sym (ap (λ (r : WindowRow). cond (disabled_in ws w) (enabled_from n ws r.parent.0) w) same)

-- one step of the walk
pub enabled_step : (n : ℕ) (ws : List KeptWindow) (w : ℕ) (row : WindowRow) → n ≢ 0 → Some row ≡ option_map (λ (x : KeptWindow). x.row) (kept.window_of ws w) → enabled_from n ws w ≡ cond (disabled_in ws w) (enabled_from (n - 1) ws row.parent.0) w
enabled_step zero ws w row some e = absurd (some refl)
enabled_step (suc n) ws w row some e =
    let less : suc n - 1 ≡ n = omega arith in
    row_at (kept.window_of ws w) row n w ws e ∙ sym (ap (λ m. cond (disabled_in ws w) (enabled_from m ws row.parent.0) w) less)

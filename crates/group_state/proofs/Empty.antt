-- What is kept of groups before the first entry.
use Rattle.std.proofs.Common.{◌≡◌, ℕ, ◌<◌, false, List, [], refl, ap, ◌∙◌, sym, arith}
use Rattle.std.proofs.lemmas.List.{get_or-replicate, length-replicate}
use Rattle.std.proofs.lemmas.Nat.Bits.{bit_at-zero}
use Rattle.std.specs.Int.{bit_at}
use Rattle.input_state.specs.declared.state.Slot.{Slot}
use Rattle.input_state.specs.State.{cell, fresh, row_number}
use Rattle.user_model.specs.declared.entry.Setup.{Setup}
use Rattle.user_model.specs.Setups.{IsSetup}
use Rattle.user_model.specs.ZOrder.{hwnd}
use Rattle.group_state.specs.GroupTables.{HasKey, HasSetting, IsGroupsAt}
use Rattle.group_state.proofs.SettingSteps.{cell_low, row_low}

-- no thread has set anything, or is attached to another
pub empty_groups : (setup : Setup) (threads : ℕ) (groups : List ℕ) → IsSetup setup → setup.threads ≡ threads → IsGroupsAt setup [] (record { inputs = fresh threads groups; foreground = 0 })
empty_groups setup threads groups ready same = record {
  threads = sym same;
  few = ready.size.few_threads;
  links = λ t u lt lu. ap (λ m. bit_at m u) (get_or-replicate 16 t 0 0 lt) ∙ bit_at-zero u;
  windows = length-replicate 48 (hwnd 0);
  orders = length-replicate {A = ℕ} 48 0;
  downs = length-replicate 4096 false;
  key_orders = length-replicate {A = ℕ} 4096 0;
  settings = λ slot t lt. unset slot t lt;
  keys = λ key t lk lt. up key t lk lt;
  places = omega arith;
  foreground = refl;
}
  where
    unset : (slot : Slot) (t : ℕ) → t < 16 → HasSetting [] (fresh threads groups) slot t
    unset slot t lt =
        let low : cell (row_number slot) t < 48 = cell_low 3 (row_number slot) t (row_low slot) lt in
        record { window = get_or-replicate 48 (cell (row_number slot) t) (hwnd 0) (hwnd 0) low; order = get_or-replicate 48 (cell (row_number slot) t) 0 0 low }

    up : (key t : ℕ) → key < 256 → t < 16 → HasKey [] (fresh threads groups) key t
    up key t lk lt =
        let low : cell key t < 4096 = cell_low 256 key t lk lt in
        record { down = get_or-replicate 4096 (cell key t) false false low; order = get_or-replicate 4096 (cell key t) 0 0 low }

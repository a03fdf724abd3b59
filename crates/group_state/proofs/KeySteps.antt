-- Which keys are down, at a past with one entry more.
use Rattle.std.proofs.Common.{◌≡◌, ℕ, ◌+◌, ◌<◌, ◌≤◌, Bool, true, false, cond, eqb, ◌∷◌, length, Option, Some, None, refl, ap, ◌∙◌, sym, subst, arith}
use Rattle.std.specs.Prelude.{◌&&◌}
use Rattle.input_state.specs.State.{State, with_key}
use Rattle.user_model.specs.declared.entry.Entry.{Entry}
use Rattle.user_model.specs.Past.{Past, is_refused}
use Rattle.user_model.specs.Retrievals.{input_got}
use Rattle.win_num.specs.declared.names.TheConstants.{VK_LBUTTON, VK_RBUTTON, WM_KEYDOWN, WM_KEYUP, WM_LBUTTONDOWN, WM_LBUTTONUP, WM_RBUTTONDOWN, WM_RBUTTONUP}
use Rattle.user_model.specs.Keys.{KeyChange, change_from, change_in, change_of, down_after, last_down}
use Rattle.group_state.specs.GroupTables.{HasKey, key_order_of}
use Rattle.group_state.proofs.LastSettings.{place-refused, place-told, place-untold, told-refused, told-told, told-untold}
use Rattle.group_state.proofs.SettingSteps.{cell_written}
use Rattle.group_state.proofs.Setters.{key_in}

pub keys_refused : (e : Entry) (past : Past) (s : State) (key t : ℕ) → is_refused e ≡ true → HasKey past s key t → HasKey (e ∷ past) s key t
keys_refused e past s key t h has = record {
  down = has.down ∙ sym (told-refused (key_in key) false (λ u. eqb u t) e past h);
  order = has.order ∙ sym (place-refused (key_in key) t e past h);
}

pub keys_rest : (e : Entry) (past : Past) (s : State) (key t : ℕ) → is_refused e ≡ false → key_in key e ≡ None → HasKey past s key t → HasKey (e ∷ past) s key t
keys_rest e past s key t fine none has = record {
  down = has.down ∙ sym (told-untold (key_in key) false (λ u. eqb u t) e past fine none);
  order = has.order ∙ sym (place-untold (key_in key) t e past fine none);
}

-- one goes down or up
pub key_made : (e : Entry) (past : Past) (s : State) (c : KeyChange) (place : ℕ) → is_refused e ≡ false → change_of (input_got e.answer e.call) ≡ Some c → place ≡ length past → e.who.0 < 16 → c.key < 256 → length s.downs ≡ 4096 → length s.key_orders ≡ 4096
    → (key t : ℕ) → t < 16 → HasKey past s key t → HasKey (e ∷ past) (with_key s e.who c.key c.down place) key t
key_made e past s c place fine changes at low low_key long longer key t lt has = record {
  down =
      cell_written 256 s.downs c.key key e.who.0 t c.down false long low_key low lt
      ∙ ap (λ k. cond (eqb c.key key && eqb e.who.0 t) c.down k) has.down
      ∙ downs (eqb c.key key) refl;
  order =
      cell_written 256 s.key_orders c.key key e.who.0 t (place + 1) 0 longer low_key low lt
      ∙ ap (λ k. cond (eqb c.key key && eqb e.who.0 t) (place + 1) k) has.order
      ∙ ap (λ k. cond (eqb c.key key && eqb e.who.0 t) (k + 1) (key_order_of t key past)) at
      ∙ orders (eqb c.key key) refl;
}
  where
    told : (b : Bool) → eqb c.key key ≡ b → key_in key e ≡ cond b (Some c.down) None
    told b h = ap (down_after key) changes ∙ ap (λ b. cond b (Some c.down) None) h

    downs : (b : Bool) → eqb c.key key ≡ b → cond (b && eqb e.who.0 t) c.down (last_down (λ u. eqb u t) key past) ≡ last_down (λ u. eqb u t) key (e ∷ past)
    downs true h = sym (told-told (key_in key) false (λ u. eqb u t) e past c.down fine (told true h))
    downs false h = sym (told-untold (key_in key) false (λ u. eqb u t) e past fine (told false h))

    orders : (b : Bool) → eqb c.key key ≡ b → cond (b && eqb e.who.0 t) (length past + 1) (key_order_of t key past) ≡ key_order_of t key (e ∷ past)
    orders true h = sym (place-told (key_in key) t e past c.down fine (told true h))
    orders false h = sym (place-untold (key_in key) t e past fine (told false h))

-- ---- the key of a message

-- a key, or 0
abbrev key_or : Option KeyChange → ℕ
key_or None = 0
key_or (Some c) = c.key

picked : (w : ℕ) → w ≤ 254 → (a b c d e f : Bool) → key_or (change_from (cond a (Some w) (cond b (Some VK_LBUTTON) (cond c (Some VK_RBUTTON) None))) (cond d (Some w) (cond e (Some VK_LBUTTON) (cond f (Some VK_RBUTTON) None)))) < 256
picked w h true b c d e f = omega (arith, h)
picked w h false true c d e f = omega arith
picked w h false false true d e f = omega arith
picked w h false false false true e f = omega (arith, h)
picked w h false false false false true f = omega arith
picked w h false false false false false true = omega arith
picked w h false false false false false false = omega arith

-- it fits where the wParam does
pub key_fits : (number w : ℕ) (c : KeyChange) → w ≤ 254 → change_in number w ≡ Some c → c.key < 256
key_fits number w c h is = subst (λ o. key_or o < 256) is (picked w h (eqb number WM_KEYDOWN) (eqb number WM_LBUTTONDOWN) (eqb number WM_RBUTTONDOWN) (eqb number WM_KEYUP) (eqb number WM_LBUTTONUP) (eqb number WM_RBUTTONUP))

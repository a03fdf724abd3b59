-- A window that was live at an earlier past and is live is the same window.
use Rattle.std.proofs.Common.{◌≡◌, ◌∙◌, ℕ, ◌+◌, ◌≤◌, Bool, true, false, not, cond, eqb, List, [], ◌∷◌, ◌++◌, filter, length, append-nil, Option, Some, None, refl, sym, ap, inl, inr, arith}
use Rattle.std.specs.Prelude.{is_some}
use Rattle.std.proofs.lemmas.Bool.{eqb-true}
use Rattle.user_model.specs.declared.entry.Entry.{Entry}
use Rattle.user_model.specs.declared.entry.Setup.{Setup}
use Rattle.user_model.specs.Past.{Past, is_refused}
use Rattle.user_model.specs.Windows.{Window, drops, find_window, live, window, windows_made}
use Rattle.user_model.specs.Legal.{IsLawful}
use Rattle.user_model.specs.Since.{IsTail}
use Rattle.user_model.proofs.LookLaws.{tail_lawful, tail_least}
use Rattle.user_model.proofs.LiveWindows.{live-made, makes, sound}
use Rattle.user_model.proofs.WindowFacts.{live_within, made_grows}
use Rattle.user_model.proofs.WindowLaws.{live-next, live-refused}
use Rattle.screen_state.proofs.QuietEntries.{none_kept}
use Rattle.screen_state.proofs.Unmoved.{same_window}

found_last : (ws : List Window) (z x : Window) (w : ℕ) → find_window ws w ≡ None → find_window (ws ++ z ∷ []) w ≡ Some x → z.number ≡ w
found_last [] z x w none h = by (eqb z.number w) refl h
  where
    by : (b : Bool) → eqb z.number w ≡ b → cond b (Some z) None ≡ Some x → z.number ≡ w
    by true k h = eqb-true z.number w k
    by false k h = absurd cc
found_last (y ∷ ws) z x w none h = by (eqb y.number w) none h (λ n k. found_last ws z x w n k)
  where
    by : (b : Bool) → cond b (Some y) (find_window ws w) ≡ None → cond b (Some y) (find_window (ws ++ z ∷ []) w) ≡ Some x → (find_window ws w ≡ None → find_window (ws ++ z ∷ []) w ≡ Some x → z.number ≡ w) → z.number ≡ w
    by true n k rest = absurd cc
    by false n k rest = rest n k

-- a window that isn't live before an entry and is after it has a new number
new_number : (setup : Setup) (past : Past) (e : Entry) (w : ℕ) (x : Window) → IsLawful setup (e ∷ past) → window past w ≡ None → window (e ∷ past) w ≡ Some x → w ≡ 16 + length (windows_made past)
new_number setup past e w x lawful none is = by (is_refused e) refl
  where
    by : (b : Bool) → is_refused e ≡ b → w ≡ 16 + length (windows_made past)
    by true r = let both : None ≡ Some x = sym none ∙ sym (ap (λ (ws : List Window). find_window ws w) (live-refused e past r)) ∙ is in absurd cc
    by false r = elim (makes setup past e.who e.call e.answer lawful.1 (sound setup past lawful.0).under) [
      | inl made ↦ (
          let left : live (e ∷ past) ≡ filter (λ y. not (drops e (live past) y)) (live past) =
          live-next e past r ∙ (ap (λ us. filter (λ y. not (drops e (live past) y)) (live past) ++ us) made.none ∙ append-nil (filter (λ y. not (drops e (live past) y)) (live past))) in
          let both : None ≡ Some x = sym (ap (λ (ws : List Window). find_window ws w) left ∙ none_kept (λ y. not (drops e (live past) y)) (live past) w none) ∙ is in
          absurd cc)
      | inr made ↦ sym (found_last (live past) made.z x w none (sym (ap (λ (ws : List Window). find_window ws w) (live-made setup past e made r)) ∙ is)) ∙ made.is_next
    ]

grows : (setup : Setup) (e : Entry) (past : Past) → IsLawful setup (e ∷ past) → length (windows_made past) ≤ length (windows_made (e ∷ past))
grows setup e past lawful = made_grows e past

-- it is the same window
pub window_then : (setup : Setup) (look past : Past) (w : ℕ) (y x : Window) → IsTail look past → IsLawful setup past → window look w ≡ Some y → window past w ≡ Some x → y ≡ x
window_then setup look [] w y x tail lawful was is = absurd cc
window_then setup look (e ∷ past) w y x tail lawful was is = elim tail [
  | inl same ↦ (let both : Some y ≡ Some x = sym was ∙ ap (λ p. window p w) same ∙ is in cc)
  | inr rest ↦ by (window past w) refl (λ z k. window_then setup look past w y z rest lawful.0 was k) rest
]
  where
    lives : is_some (window (e ∷ past) w) ≡ true
    lives = ap is_some is

    by : (o : Option Window) → window past w ≡ o → ((z : Window) → window past w ≡ Some z → y ≡ z) → IsTail look past → y ≡ x
    by (Some z) k before rest = let both : Some z ≡ Some x = sym (same_window setup past e w z lawful k lives) ∙ is in let one : z ≡ x = cc in before z k ∙ one
    by None k before rest =
        let number = new_number setup past e w x lawful k is in
        let within = (live_within setup look w (tail_lawful setup look past rest lawful.0) (ap is_some was)).1 in
        let fewer = tail_least setup (λ p. length (windows_made p)) (grows setup) look past rest lawful.0 in
        absurd (omega (arith, number, within, fewer))

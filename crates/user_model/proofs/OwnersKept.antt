-- Where an entry leaves the live windows, where they are shown, and their siblings, it leaves the owners of pixels. A refused one leaves them all.
use Rattle.std.proofs.Common.{◌≡◌, ◌∙◌, ℕ, zero, suc, true, false, cond, eqb, List, [], ◌∷◌, length, Option, Some, None, refl, ap}
use Rattle.std.specs.Prelude.{◌&&◌, pos, find, reverse}
use Rattle.std.proofs.lemmas.Bool.{false≢true}
use Rattle.win_num.specs.declared.message.Thread.{Thread}
use Rattle.win_num.specs.declared.message.Hwnd.{Hwnd}
use Rattle.win_num.specs.declared.shapes.Point.{Point}
use Rattle.win_num.specs.PixelSets.{Box, has_pixel}
use Rattle.user_model.specs.declared.call.Call.{Call}
use Rattle.user_model.specs.declared.entry.Answer.{Answer}
use Rattle.user_model.specs.declared.entry.Answer.TheVariants.{Refused}
use Rattle.user_model.specs.declared.entry.Entry.{Entry}
use Rattle.user_model.specs.declared.entry.Setup.{Setup}
use Rattle.user_model.specs.Past.{Past, is_refusal, is_refused}
use Rattle.user_model.specs.Windows.{Window, live, parent_in}
use Rattle.user_model.specs.Looks.{look, place_of, is_shown}
use Rattle.user_model.specs.ZOrder.{hwnd, siblings}
use Rattle.user_model.specs.Machines.{entry_of}
use Rattle.user_model.proofs.WindowLooks.{SameShape}
use Rattle.user_model.specs.Pixels.{box_of, corner_from, covers, deepest, highest, origin, origin_within, owner, point, screen, shifted}

module _ (past : Past) (e : Entry) (lives : live (e ∷ past) ≡ live past) (looks : (w : ℕ) → SameShape (look (e ∷ past) w) (look past w)) (lists : (q : ℕ) → siblings (e ∷ past) q ≡ siblings past q) where
  abbrev later : Past
  later = e ∷ past

  -- one step up
  abbrev stepped : ℕ → ℕ → Point → Box → Point
  stepped n w o b = elim (eqb w 0) [ true ↦ point (pos 0) (pos 0) | false ↦ corner_from o b ]

  origin_same : (n w : ℕ) → origin_within n later w ≡ origin_within n past w
  origin_same zero w = refl
  origin_same (suc n) w =
      ap (λ (ws : List Window). stepped n w (origin_within n later (parent_in ws w)) (place_of later w)) lives
      ∙ ap (λ (o : Point). stepped n w o (place_of later w)) (origin_same n (parent_in (live past) w))
      ∙ ap (stepped n w (origin_within n past (parent_in (live past) w))) (looks w).place

  pub box_same : (w : ℕ) → box_of later w ≡ box_of past w
  box_same w =
      ap (λ (ws : List Window). shifted (origin later (parent_in ws w)) (place_of later w)) lives
      ∙ ap (λ (o : Point). shifted o (place_of later w)) (origin_same (parent_in (live past) w) (parent_in (live past) w))
      ∙ ap (λ (b : Box). shifted (origin past (parent_in (live past) w)) b) (looks w).place

  covers_same : (p : Point) (w : Hwnd) → covers later p w ≡ covers past p w
  covers_same p w =
      ap (λ s. s && has_pixel (box_of later w.0) p) (looks w.0).shown
      ∙ ap (λ (b : Box). is_shown past w.0 && has_pixel b p) (box_same w.0)

  found_same : (p : Point) (ws : List Hwnd) → find (covers later p) ws ≡ find (covers past p) ws
  found_same p [] = refl
  found_same p (w ∷ ws) = ap (λ b. cond b (Some w) (find (covers later p) ws)) (covers_same p w) ∙ ap (λ o. cond (covers past p w) (Some w) o) (found_same p ws)

  highest_same : (p : Point) (w : ℕ) → highest later p w ≡ highest past p w
  highest_same p w = ap (λ (ws : List Hwnd). find (covers later p) (reverse ws)) (lists w) ∙ found_same p (reverse (siblings past w))

  deepest_same : (n : ℕ) (p : Point) (w : Hwnd) → deepest n later p w ≡ deepest n past p w
  deepest_same zero p w = refl
  deepest_same (suc n) p w = ap (λ o. elim o as (λ c. Hwnd) [ Some v ↦ deepest n later p v | None ↦ w ]) (highest_same p w.0) ∙ further (highest past p w.0) (λ v. deepest_same n p v)
    where
      further : (o : Option Hwnd) → ((v : Hwnd) → deepest n later p v ≡ deepest n past p v) → (elim o as (λ c. Hwnd) [ Some v ↦ deepest n later p v | None ↦ w ]) ≡ (elim o as (λ c. Hwnd) [ Some v ↦ deepest n past p v | None ↦ w ])
      further None rest = refl
      further (Some v) rest = rest v

  pub owner_same : (setup : Setup) (p : Point) → owner setup later p ≡ owner setup past p
  owner_same setup p =
      ap (λ (w : Hwnd). cond (has_pixel (screen setup) p) w (hwnd 0))
      (ap (λ (ws : List Window). deepest (length ws) later p (hwnd 0)) lives ∙ deepest_same (length (live past)) p (hwnd 0))

owner_of_refused : (setup : Setup) (past : Past) (who : Thread) (call : Call) (a : Answer) (p : Point) → is_refusal a ≡ true → owner setup (entry_of who call a ∷ past) p ≡ owner setup past p
owner_of_refused setup past who call (Refused code) p h = owner_same past (entry_of who call (Refused code)) refl (λ w. record { shown = refl; place = refl }) (λ q. refl) setup p
owner_of_refused setup past who call _ p h = absurd (false≢true h)

-- a refused entry leaves the owners of pixels
pub owner-refused : (setup : Setup) (e : Entry) (past : Past) (p : Point) → is_refused e ≡ true → owner setup (e ∷ past) p ≡ owner setup past p
owner-refused setup e past p h = owner_of_refused setup past e.who e.call e.answer p h

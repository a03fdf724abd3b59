-- What stands of windows and of posts.
use Rattle.std.proofs.Common.{◌≡◌, inl, inr, ◌≤◌, ◌+◌, ℕ, zero, suc, eqb, eq-eqb, length, arith, Bool, true, false, not, List, [], ◌∷◌, ◌++◌, filter, refl, sym, ap, ◌∙◌, subst}
use Rattle.std.specs.Prelude.{unwrap_or, option_map, is_some}
use Rattle.std.specs.List.{AllByRecursion}
use Rattle.std.proofs.lemmas.Bool.{false≢true, eqb-true, eqb-false}
use Rattle.user_model.specs.declared.entry.Setup.{Setup}
use Rattle.user_model.specs.Past.{Past, is_refused, standing}
use Rattle.user_model.specs.Windows.{Window, live, above, is_kin, kin_within, windows_made}
use Rattle.user_model.specs.Posts.{PostedMsg, posted, posts_to, ends_post}
use Rattle.user_model.specs.Ready.{ReadyMsg, arrives, departs, ready}
use Rattle.user_model.specs.Legal.{IsLawful}
use Rattle.user_model.proofs.ListLaws.{all_weaker}
use Rattle.user_model.proofs.PostLaws.{IsRising, posted_rises}
use Rattle.user_model.proofs.PostOwners.{IsHeld, all_held}
use Rattle.user_model.proofs.Forests.{IsRising as NumbersRise, kin_enough, is_kin-up}
use Rattle.user_model.proofs.LiveWindows.{sound}
use Rattle.user_laws.specs.Words.{IsIn, IsAddedForGood}
use Rattle.user_laws.specs.Stands.{makes_window, drops_it, IsForItsThread, LeadsTo, itself, further, RisesByNumber}
use Rattle.user_laws.proofs.WordLaws.{stands_exactly}

-- the live windows are what stands of those that were made
live_stands : (past : Past) → live past ≡ standing makes_window drops_it past
live_stands [] = refl
live_stands (e ∷ past) =
    ap (λ (l : List Window). elim (is_refused e) as (λ b. List Window) [ true ↦ l | false ↦ filter (λ x. not (drops_it e past x)) l ++ makes_window e past ]) (live_stands past)

-- exactly those that were made and not dropped
pub windows_exactly : (past : Past) (x : Window) → (IsIn x (live past) → IsAddedForGood makes_window drops_it past x) × (IsAddedForGood makes_window drops_it past x → IsIn x (live past))
windows_exactly past x =
    let same = live_stands past in
    let stands = stands_exactly makes_window drops_it past x in
    (λ is. stands.0 (subst (IsIn x) same is), λ r. subst (IsIn x) (sym same) (stands.1 r))

-- exactly those that were posted and not ended
pub posts_exactly : (past : Past) (t : ℕ) (x : PostedMsg) → (IsIn x (posted past t) → IsAddedForGood (posts_to t) (ends_post t) past x) × (IsAddedForGood (posts_to t) (ends_post t) past x → IsIn x (posted past t))
posts_exactly past t x = stands_exactly (posts_to t) (ends_post t) past x

held_so : (past : Past) (t : ℕ) (x : PostedMsg) → IsHeld past t x.msg.hwnd.0 → IsForItsThread past t x
held_so past t x (inl none) = inl none
held_so past t x (inr of) = inr (ap is_some of.is_live, ap (λ o. unwrap_or (option_map (λ w. w.thread) o) 0) of.is_live ∙ of.is_of)

-- each is for no window, or for a live window of the thread
pub posts_held : (setup : Setup) (past : Past) (t : ℕ) → IsLawful setup past → AllByRecursion (IsForItsThread past t) (posted past t)
posts_held setup past t lawful = all_weaker (λ (x : PostedMsg). IsHeld past t x.msg.hwnd.0) (IsForItsThread past t) (held_so past t) (posted past t) (all_held setup past t lawful)

rises : (xs : List PostedMsg) → IsRising xs → RisesByNumber xs
rises [] is = tt
rises (x ∷ xs) is = (is.0, rises xs is.1)

-- and they rise by number
pub posts_rise : (setup : Setup) (past : Past) (t : ℕ) → IsLawful setup past → RisesByNumber (posted past t)
posts_rise setup past t lawful = rises (posted past t) (posted_rises setup past t lawful)

leads_so : (ws : List Window) (v n w : ℕ) → kin_within n ws v w ≡ true → LeadsTo ws v w
leads_so ws v zero w is = absurd (false≢true is)
leads_so ws v (suc n) w is = by (leads_so ws v n (above ws w)) (eqb w 0) refl (eqb w v) refl is
  where
    by : (kin_within n ws v (above ws w) ≡ true → LeadsTo ws v (above ws w)) → (b : Bool) → eqb w 0 ≡ b → (c : Bool) → eqb w v ≡ c
        → (elim b as (λ x. Bool) [ true ↦ false | false ↦ elim (eqb w v) as (λ y. Bool) [ true ↦ true | false ↦ kin_within n ws v (above ws w) ] ]) ≡ true → LeadsTo ws v w
    by rest true none c here is = absurd (false≢true is)
    by rest false some true here is = let same : w ≡ v = eqb-true w v here in subst (LeadsTo ws v) (sym same) (itself (λ zero_v. eqb-false w 0 some (same ∙ zero_v)))
    by rest false some false here is =
        further (eqb-false w 0 some) (rest (sym (ap (λ y. elim y as (λ z. Bool) [ true ↦ true | false ↦ kin_within n ws v (above ws w) ]) here) ∙ is))

leads_back : (from last : ℕ) (ws : List Window) (v w : ℕ) → NumbersRise from last ws → LeadsTo ws v w → is_kin ws v w ≡ true
leads_back from last ws v w rising (itself some) = is_kin-up from last ws v v rising some ∙ ap (λ y. elim y as (λ z. Bool) [ true ↦ true | false ↦ is_kin ws v (above ws v) ]) (eq-eqb v v refl)
leads_back from last ws v w rising (further some chain) = is_kin-up from last ws v w rising some ∙ by (leads_back from last ws v (above ws w) rising chain) (eqb w v)
  where
    by : is_kin ws v (above ws w) ≡ true → (c : Bool) → (elim c as (λ z. Bool) [ true ↦ true | false ↦ is_kin ws v (above ws w) ]) ≡ true
    by rest true = refl
    by rest false = rest

-- kin are those from which a chain leads
pub kin_exactly : (setup : Setup) (past : Past) (v w : ℕ) → IsLawful setup past → (is_kin (live past) v w ≡ true → LeadsTo (live past) v w) × (LeadsTo (live past) v w → is_kin (live past) v w ≡ true)
kin_exactly setup past v w lawful = (leads_so (live past) v w w, leads_back 15 (15 + length (windows_made past)) (live past) v w (sound setup past lawful).rising)

-- a longer walk finds no more
pub walk_enough : (setup : Setup) (past : Past) (n v w : ℕ) → IsLawful setup past → w ≤ n → kin_within n (live past) v w ≡ is_kin (live past) v w
walk_enough setup past n v w lawful long = kin_enough 15 (15 + length (windows_made past)) (live past) v (sound setup past lawful).rising n w w long (omega arith)

-- exactly what became ready and wasn't served
pub ready_exactly : (past : Past) (t : ℕ) (r : ReadyMsg) → (IsIn r (ready past t) → IsAddedForGood (arrives t) (departs t) past r) × (IsAddedForGood (arrives t) (departs t) past r → IsIn r (ready past t))
ready_exactly past t r = stands_exactly (arrives t) (departs t) past r

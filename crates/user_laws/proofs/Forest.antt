-- Live windows as a forest: a window has a parent or an owner, and what owns a window has no parent.
use Rattle.std.proofs.Common.{◌≡◌, ◌≢◌, ◌⊎◌, inl, inr, ◌≤◌, ◌<◌, ◌+◌, ℕ, zero, suc, eqb, Bool, true, false, not, cond, List, [], ◌∷◌, ◌++◌, filter, length, Option, Some, None, refl, sym, ap, ◌∙◌, subst, arith}
use Rattle.std.specs.Prelude.{option_map, unwrap_or}
use Rattle.std.specs.List.{AllByRecursion}
use Rattle.std.proofs.lemmas.Bool.{eqb-true, eqb-false}
use Rattle.win_num.specs.declared.names.TheConstants.{WS_CHILD}
use Rattle.user_model.specs.declared.call.Call.{Call}
use Rattle.user_model.specs.declared.call.Call.TheVariants.{NewWindow}
use Rattle.user_model.specs.declared.entry.Answer.{Answer}
use Rattle.user_model.specs.declared.entry.Answer.TheVariants.{Window as WindowMade}
use Rattle.user_model.specs.declared.entry.Entry.{Entry}
use Rattle.user_model.specs.declared.entry.Setup.{Setup}
use Rattle.user_model.specs.Past.{Past, is_refused}
use Rattle.user_model.specs.Windows.{Window, has_flag, find_window, up, parent_in, top_within, top_of, live, made_by, drops, windows_made}
use Rattle.user_model.specs.Legal.{IsLawful}
use Rattle.user_model.proofs.Forests.{IsRising, IsBetween, all_between, all_by_number, between_found, number_found}
use Rattle.user_model.proofs.LiveWindows.{sound}
use Rattle.user_model.proofs.WindowLaws.{live-refused, live-next}
use Rattle.user_laws.specs.Words.{IsIn}
use Rattle.user_laws.proofs.WordLaws.{in_append, in_left, in_right, in_filter}

pub all_in : {A : Type 0} (P : A → Type 0) (xs : List A) (x : A) → AllByRecursion P xs → IsIn x xs → P x
all_in P [] x all is = absurd is
all_in P (y ∷ xs) x all (inl same) = subst P (sym same) all.0
all_in P (y ∷ xs) x all (inr there) = all_in P xs x all.1 there

pub in_found : (ws : List Window) (w : ℕ) (x : Window) → find_window ws w ≡ Some x → IsIn x ws
in_found [] w x e = absurd cc
in_found (y ∷ ws) w x e = by (in_found ws w x) (eqb y.number w) e
  where
    by : (find_window ws w ≡ Some x → IsIn x ws) → (b : Bool) → cond b (Some y) (find_window ws w) ≡ Some x → IsIn x (y ∷ ws)
    by rest true e = let same : y ≡ x = cc in inl (sym same)
    by rest false e = inr (rest e)

-- numbers rise, each window has a parent or an owner at most, and what owns a window stands under none
pub record IsForest (ws : List Window) : Type 0 where
  pub last : ℕ
  pub rising : IsRising 15 last ws
  pub one_up : (x : Window) → IsIn x ws → (x.parent ≡ 0) ⊎ (x.owner ≡ 0)
  pub top_owner : (x y : Window) → IsIn x ws → IsIn y ws → y.number ≡ x.owner → y.parent ≡ 0

pub some_number : (ws : List Window) (x : Window) → IsForest ws → IsIn x ws → 15 < x.number
some_number ws x f is = (all_in (IsBetween 15 f.last) ws x (all_between 15 f.last ws f.rising) is).over

pub up_less : (ws : List Window) (x : Window) → IsForest ws → IsIn x ws → up x < x.number
up_less ws x f is = (all_in (IsBetween 15 f.last) ws x (all_between 15 f.last ws f.rising) is).older

-- each is found by its number
pub found_in : (ws : List Window) (x : Window) → IsForest ws → IsIn x ws → find_window ws x.number ≡ Some x
found_in ws x f is = all_in (λ (y : Window). find_window ws y.number ≡ Some y) ws x (all_by_number 15 f.last ws f.rising) is

-- what stands under a window is newer
pub child_newer : (ws : List Window) (x y : Window) → IsForest ws → IsIn y ws → y.parent ≡ x.number → 15 < x.number → x.number < y.number
child_newer ws x y f is under some = by (eqb y.parent 0) refl (up_less ws y f is)
  where
    by : (b : Bool) → eqb y.parent 0 ≡ b → cond b y.owner y.parent < y.number → x.number < y.number
    by true e less = absurd (omega (arith, eqb-true y.parent 0 e, under, some))
    by false e less = omega (arith, less, under)

-- and so is what is owned by it
pub owned_newer : (ws : List Window) (x y : Window) → IsForest ws → IsIn y ws → y.owner ≡ x.number → 15 < x.number → x.number < y.number
owned_newer ws x y f is under some = by (eqb y.parent 0) refl (up_less ws y f is)
  where
    by : (b : Bool) → eqb y.parent 0 ≡ b → cond b y.owner y.parent < y.number → x.number < y.number
    by true e less = omega (arith, less, under)
    by false e less = elim (f.one_up y is) [
      | inl none ↦ absurd (eqb-false y.parent 0 e none)
      | inr none ↦ absurd (omega (arith, none, under, some))
    ]

-- ---- the live windows of a lawful past are one

-- what a window that is made stands under or is owned by
record IsMadeWell (ws : List Window) (z : Window) : Type 0 where
  one_up : (z.parent ≡ 0) ⊎ (z.owner ≡ 0)
  top_owner : parent_in ws z.owner ≡ 0

parent_less : (last : ℕ) (ws : List Window) (w : ℕ) → IsRising 15 last ws → parent_in ws w ≢ 0 → parent_in ws w < w
parent_less last ws w rising some = by (find_window ws w) refl some
  where
    by : (o : Option Window) → find_window ws w ≡ o → unwrap_or (option_map (λ (x : Window). x.parent) o) 0 ≢ 0 → unwrap_or (option_map (λ (x : Window). x.parent) o) 0 < w
    by None e some = absurd (some refl)
    by (Some x) e some = under (eqb x.parent 0) refl (between_found 15 last ws w x rising e).older
      where
        under : (b : Bool) → eqb x.parent 0 ≡ b → cond b x.owner x.parent < x.number → x.parent < w
        under true q less = absurd (some (eqb-true x.parent 0 q))
        under false q less = omega (arith, less, number_found ws w x e)

-- a top-level ancestor has no parent
top_is_top : (last : ℕ) (ws : List Window) (n w : ℕ) → IsRising 15 last ws → w ≤ n → parent_in ws (top_within n ws w) ≡ 0
top_is_top last ws zero w rising le = by (parent_in ws w) refl
  where
    by : (p : ℕ) → parent_in ws w ≡ p → parent_in ws w ≡ 0
    by zero e = e
    by (suc p) e = absurd (omega (arith, le, e, parent_less last ws w rising (λ z. omega (arith, z, e))))
top_is_top last ws (suc n) w rising le = by (λ less. top_is_top last ws n (parent_in ws w) rising (omega (arith, le, less))) (eqb (parent_in ws w) 0) refl
  where
    by : (parent_in ws w < w → parent_in ws (top_within n ws (parent_in ws w)) ≡ 0) → (b : Bool) → eqb (parent_in ws w) 0 ≡ b → parent_in ws (elim b as (λ c. ℕ) [ true ↦ w | false ↦ top_within n ws (parent_in ws w) ]) ≡ 0
    by rest true e = eqb-true (parent_in ws w) 0 e
    by rest false e = rest (parent_less last ws w rising (eqb-false (parent_in ws w) 0 e))

no_parent : (last : ℕ) (ws : List Window) → IsRising 15 last ws → parent_in ws 0 ≡ 0
no_parent last ws rising = top_is_top last ws 0 0 rising (omega arith)

made_well : (last : ℕ) (ws : List Window) (who : ℕ) (a : Answer) (call : Call) (z : Window) → IsRising 15 last ws → IsIn z (made_by who a call ws) → IsMadeWell ws z
made_well last ws who (WindowMade w) (NewWindow class title parent style ex l t r b) z rising (inl same) = by (has_flag style WS_CHILD) same
  where
    by : (child : Bool) → (let made : Window = record { number = w.0; thread = who; class = class; title = title; parent = cond child parent 0; owner = cond child 0 (top_of ws parent) } in z ≡ made) → IsMadeWell ws z
    by true same = record { one_up = inr (ap (λ (x : Window). x.owner) same); top_owner = ap (λ (x : Window). parent_in ws x.owner) same ∙ no_parent last ws rising }
    by false same = record { one_up = inl (ap (λ (x : Window). x.parent) same); top_owner = ap (λ (x : Window). parent_in ws x.owner) same ∙ top_is_top last ws parent parent rising (omega arith) }
made_well last ws who (WindowMade w) (NewWindow class title parent style ex l t r b) z rising (inr none) = absurd none
made_well last ws who _ _ z rising is = absurd is

-- what owns a window, where it is live, has no parent
top_of_owner : (ws : List Window) (x y : Window) → find_window ws y.number ≡ Some y → y.number ≡ x.owner → parent_in ws x.owner ≡ 0 → y.parent ≡ 0
top_of_owner ws x y found same top = sym (ap (λ (o : Option Window). unwrap_or (option_map (λ (z : Window). z.parent) o) 0) found) ∙ ap (parent_in ws) same ∙ top

made_one : (ws : List Window) (who : ℕ) (a : Answer) (call : Call) (x y : Window) → IsIn x (made_by who a call ws) → IsIn y (made_by who a call ws) → x ≡ y
made_one ws who (WindowMade w) (NewWindow class title parent style ex l t r b) x y (inl same) (inl too) = same ∙ sym too
made_one ws who (WindowMade w) (NewWindow class title parent style ex l t r b) x y (inr none) is = absurd none
made_one ws who (WindowMade w) (NewWindow class title parent style ex l t r b) x y (inl same) (inr none) = absurd none
made_one ws who _ _ x y is there = absurd is

pub rising_over : (from last : ℕ) (ws : List Window) (y : Window) → IsRising from last ws → IsIn y ws → from < y.number
rising_over from last ws y rising is = (all_in (IsBetween from last) ws y (all_between from last ws rising) is).over

-- of two parts the numbers of the first are less
rising_apart : (from last : ℕ) (xs ys : List Window) (x y : Window) → IsRising from last (xs ++ ys) → IsIn x xs → IsIn y ys → x.number < y.number
rising_apart from last [] ys x y rising is there = absurd is
rising_apart from last (z ∷ xs) ys x y rising (inl same) there =
    let less : z.number < y.number = rising_over z.number last (xs ++ ys) y rising.2 (in_right y xs ys there) in
    subst (λ (u : Window). u.number < y.number) (sym same) less
rising_apart from last (z ∷ xs) ys x y rising (inr is) there = rising_apart z.number last xs ys x y rising.2 is there

owner_less : (x : Window) → (x.parent ≡ 0) ⊎ (x.owner ≡ 0) → 15 < x.number → up x < x.number → x.owner < x.number
owner_less x one some less = by (eqb x.parent 0) refl less
  where
    by : (b : Bool) → eqb x.parent 0 ≡ b → cond b x.owner x.parent < x.number → x.owner < x.number
    by true e less = less
    by false e less = elim one [
      | inl none ↦ absurd (eqb-false x.parent 0 e none)
      | inr none ↦ omega (arith, none, some)
    ]

module _ (ws : List Window) (keep : Window → Bool) (made : List Window) (f : IsForest ws) (last : ℕ) (rising : IsRising 15 last (filter keep ws ++ made))
    (well : (z : Window) → IsIn z made → IsMadeWell ws z) (single : (x y : Window) → IsIn x made → IsIn y made → x ≡ y) where
  all_one_up : (x : Window) → IsIn x (filter keep ws ++ made) → (x.parent ≡ 0) ⊎ (x.owner ≡ 0)
  all_one_up x is = elim (in_append x (filter keep ws) made is) [
    | inl there ↦ f.one_up x (in_filter keep x ws there).0
    | inr new ↦ (well x new).one_up
  ]

  owner_older : (x : Window) → IsIn x (filter keep ws ++ made) → x.owner < x.number
  owner_older x is =
      let b = all_in (IsBetween 15 last) (filter keep ws ++ made) x (all_between 15 last (filter keep ws ++ made) rising) is in
      owner_less x (all_one_up x is) b.over b.older

  top_owners : (x y : Window) → IsIn x (filter keep ws) ⊎ IsIn x made → IsIn y (filter keep ws) ⊎ IsIn y made → y.number ≡ x.owner → y.parent ≡ 0
  top_owners x y (inl is) (inl there) same = f.top_owner x y (in_filter keep x ws is).0 (in_filter keep y ws there).0 same
  top_owners x y (inl is) (inr new) same = absurd (omega (arith, same, rising_apart 15 last (filter keep ws) made x y rising is new, owner_older x (in_left x (filter keep ws) made is)))
  top_owners x y (inr new) (inl there) same = top_of_owner ws x y (found_in ws y f (in_filter keep y ws there).0) same (well x new).top_owner
  top_owners x y (inr new) (inr too) same =
      let one : x.number ≡ y.number = ap (λ (z : Window). z.number) (single x y new too) in
      absurd (omega (arith, same, one, owner_older x (in_right x (filter keep ws) made new)))

  next_forest : IsForest (filter keep ws ++ made)
  next_forest = record {
    last = last;
    rising = rising;
    one_up = all_one_up;
    top_owner = λ x y is there same. top_owners x y (in_append x (filter keep ws) made is) (in_append y (filter keep ws) made there) same;
  }

forest_next : (setup : Setup) (past : Past) (e : Entry) → IsForest (live past) → IsRising 15 (15 + length (windows_made (e ∷ past))) (live (e ∷ past)) → (b : Bool) → is_refused e ≡ b → IsForest (live (e ∷ past))
forest_next setup past e f rising true at = subst IsForest (sym (live-refused e past at)) f
forest_next setup past e f rising false at =
    let made = made_by e.who.0 e.answer e.call (live past) in
    subst IsForest (sym (live-next e past at))
    (next_forest (live past) (λ x. not (drops e (live past) x)) made f (15 + length (windows_made (e ∷ past))) (subst (IsRising 15 (15 + length (windows_made (e ∷ past)))) (live-next e past at) rising)
    (λ z new. made_well f.last (live past) e.who.0 e.answer e.call z f.rising new)
    (λ x y new too. made_one (live past) e.who.0 e.answer e.call x y new too))

pub live_forest : (setup : Setup) (past : Past) → IsLawful setup past → IsForest (live past)
live_forest setup [] lawful = record { last = 15; rising = omega arith; one_up = λ x is. absurd is; top_owner = λ x y is there same. absurd is }
live_forest setup (e ∷ past) lawful = forest_next setup past e (live_forest setup past lawful.0) (sound setup (e ∷ past) lawful).rising (is_refused e) refl

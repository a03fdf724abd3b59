-- Whether all dirty pixels were dirty at a look tells whether there is a new one.
use Rattle.std.proofs.Common.{◌≡◌, ◌∙◌, ℕ, zero, suc, ◌+◌, ◌<◌, ◌≤◌, Bool, true, false, not, cond, eqb, List, [], ◌∷◌, get_or, length, take, Option, Some, None, refl, sym, ap, subst, arith}
use Rattle.std.specs.Prelude.{◌&&◌, ◌||◌, ◌↔◌, All, IsTrue, option_map, unwrap_or}
use Rattle.std.specs.List.{AllByRecursion, list_any}
use Rattle.std.proofs.lemmas.Bool.{and_from, and_parts, eq-eqb, eqb-true, false≢true, false_from_ne_true}
use Rattle.std.proofs.lemmas.List.{take_all}
use Rattle.std.proofs.lemmas.List.Elements.{All-more, All-same}
use Rattle.win_num.specs.declared.shapes.Point.{Point}
use Rattle.win_num.specs.declared.shapes.Rect.{Rect}
use Rattle.win_num.specs.PixelSets.{has_pixel}
use Rattle.win_rows.specs.Windows.{Windows}
use Rattle.band_region.specs.Regions.{IsEmpty, IsSameSet, region_has}
use Rattle.region_box.specs.Screens.{screen_points}
use Rattle.dirty_windows.specs.declared.entries.DirtyWindow.{DirtyWindow}
use Rattle.dirty_windows.specs.LookUps.{RisesFrom, area_in, entry_of, update_in_entry}
use Rattle.dirty_windows.proofs.Lists.{above_first, entry_other, entry_same, number}
use Rattle.user_model.specs.declared.entry.Setup.{Setup}
use Rattle.user_model.specs.Past.{Past}
use Rattle.user_model.specs.Windows.{Window, find_window, is_live, live, thread_of, window, windows_made}
use Rattle.user_model.specs.Pixels.{screen}
use Rattle.user_model.specs.Dirty.{has_some, is_dirty, owns, pixels_of}
use Rattle.user_model.specs.Legal.{IsLawful}
use Rattle.user_model.specs.Since.{IsTail}
use Rattle.user_model.specs.Status.{has_paint, is_newly_dirty}
use Rattle.user_model.proofs.DirtyOwners.{dirty_owned}
use Rattle.user_model.proofs.Forests.{all_by_number, number_found}
use Rattle.user_model.proofs.LiveWindows.{sound}
use Rattle.user_model.proofs.LookLaws.{tail_lawful}
use Rattle.user_model.proofs.WindowFacts.{live_window}
use Rattle.window_state.specs.Trees.{IsTreeAt, thread_in}
use Rattle.screen_state.specs.Walks.{AreDirtyAt}
use Rattle.screen_state.proofs.DirtyAt.{passing}
use Rattle.screen_state.proofs.Owning.{dead_owns}
use Rattle.screen_state.proofs.Somewhere.{none_passes, some_listed}
use Rattle.screen_state.proofs.Walking.{thread_same}
use Rattle.look_state.specs.declared.seen.SeenWindow.{SeenWindow}
use Rattle.look_state.specs.Looks.{IsCovered, IsSeenAt, IsWithin, was_seen}
use Rattle.look_state.proofs.WindowPasts.{window_then}

-- ---- regions

pub within_same : (rs us : List Rect) → IsSameSet rs us → IsWithin rs (Some us)
within_same rs us same p h = sym (same p) ∙ h

and_not : (a b : Bool) → (a && not b) ≡ false → a ≡ true → b ≡ true
and_not true true h k = refl
and_not true false h k = absurd (false≢true (sym h))
and_not false b h k = absurd (false≢true k)

pub within_left : (rs us left : List Rect) → ((p : Point) → region_has left p ≡ (region_has rs p && not (region_has us p))) → IsEmpty left → IsWithin rs (Some us)
within_left rs us left is none p h = and_not (region_has rs p) (region_has us p) (sym (is p) ∙ none p) h

pub left_within : (rs us left : List Rect) → ((p : Point) → region_has left p ≡ (region_has rs p && not (region_has us p))) → IsWithin rs (Some us) → IsEmpty left
left_within rs us left is within p = is p ∙ by (region_has rs p) refl
  where
    by : (b : Bool) → region_has rs p ≡ b → (b && not (region_has us p)) ≡ false
    by true k = ap not (within p k)
    by false k = refl

pub within_none : (rs : List Rect) → IsEmpty rs → IsWithin rs None
within_none rs none p h = absurd (false≢true (sym (none p) ∙ h))

pub none_within : (rs : List Rect) → IsWithin rs None → IsEmpty rs
none_within rs within p = false_from_ne_true (region_has rs p) (λ h. false≢true (within p h))

-- ---- entries of a list

-- what each has, one that is found has
found_all : (P : DirtyWindow → Type 0) (ds : List DirtyWindow) (w : ℕ) (d : DirtyWindow) → All P ds → entry_of ds w ≡ Some d → P d
found_all P [] w d all h = absurd cc
found_all P (x ∷ ds) w d all h = by (eqb (number x) w) h (λ k. found_all P ds w d (λ i y lt. all (suc i) y (omega (arith, lt))) k)
  where
    by : (b : Bool) → cond b (Some x) (entry_of ds w) ≡ Some d → (entry_of ds w ≡ Some d → P d) → P d
    by true k rest = let same : x ≡ d = cc in subst P same (all 0 x (omega arith))
    by false k rest = rest k

found_number : (ds : List DirtyWindow) (w : ℕ) (d : DirtyWindow) → entry_of ds w ≡ Some d → number d ≡ w
found_number [] w d h = absurd cc
found_number (x ∷ ds) w d h = by (eqb (number x) w) refl h (λ k. found_number ds w d k)
  where
    by : (b : Bool) → eqb (number x) w ≡ b → cond b (Some x) (entry_of ds w) ≡ Some d → (entry_of ds w ≡ Some d → number d ≡ w) → number d ≡ w
    by true n k rest = let same : x ≡ d = cc in subst (λ y. number y ≡ w) same (eqb-true (number x) w n)
    by false n k rest = rest k

-- an entry is found by its number
at_number : (first : ℕ) (ds : List DirtyWindow) (i : ℕ) (d : DirtyWindow) → RisesFrom first ds → i < length ds → entry_of ds (number (get_or ds i d)) ≡ Some (get_or ds i d)
at_number first [] i d rises lt = absurd (omega (arith, lt))
at_number first (x ∷ ds) zero d rises lt = entry_same x ds (number x) refl
at_number first (x ∷ ds) (suc i) d rises lt =
    let inner : i < length ds = omega (arith, lt) in
    let above = above_first (number x) ds i d rises.1 inner in
    entry_other x ds (number (get_or ds i d)) (λ same. omega (arith, same, above)) ∙ at_number (number x) ds i d rises.1 inner

-- the entry of a window with a dirty pixel
dirty_entry : (ds : List DirtyWindow) (w : ℕ) (p : Point) → region_has (area_in ds w) p ≡ true → (d : DirtyWindow) × (entry_of ds w ≡ Some d) × (region_has d.update.area p ≡ true)
dirty_entry ds w p h = by (entry_of ds w) refl h
  where
    by : (o : Option DirtyWindow) → entry_of ds w ≡ o → region_has (update_in_entry o).area p ≡ true → (d : DirtyWindow) × (entry_of ds w ≡ Some d) × (region_has d.update.area p ≡ true)
    by None k h = absurd (false≢true h)
    by (Some d) k h = (d, k, h)

-- ---- the windows of a past

none_of_all : (P : Window → Type 0) (test : Window → Bool) (ws : List Window) → ((x : Window) → P x → test x ≡ false) → AllByRecursion P ws → list_any test ws ≡ false
none_of_all P test [] h all = refl
none_of_all P test (x ∷ ws) h all = ap (λ b. b || list_any test ws) (h x all.0) ∙ none_of_all P test ws h all.1

one_of_none : (test : Window → Bool) (ws : List Window) (w : ℕ) (x : Window) → list_any test ws ≡ false → find_window ws w ≡ Some x → test x ≡ false
one_of_none test [] w x none found = absurd cc
one_of_none test (y ∷ ws) w x none found = by (eqb y.number w) found (parts (test y) (list_any test ws) none) (λ n k. one_of_none test ws w x n k)
  where
    parts : (a b : Bool) → (a || b) ≡ false → (a ≡ false) × (b ≡ false)
    parts true b h = absurd (false≢true (sym h))
    parts false b h = (refl, h)

    by : (b : Bool) → cond b (Some y) (find_window ws w) ≡ Some x → (test y ≡ false) × (list_any test ws ≡ false) → (list_any test ws ≡ false → find_window ws w ≡ Some x → test x ≡ false) → test x ≡ false
    by true k h rest = let same : y ≡ x = cc in subst (λ z. test z ≡ false) same h.0
    by false k h rest = rest h.1 k

module _ (setup : Setup) (past look : Past) (t : ℕ) (tree : Windows) (ds : List DirtyWindow) (seen : List SeenWindow)
    (lawful : IsLawful setup past) (tail : IsTail look past) (at : IsTreeAt past tree) (dirty : AreDirtyAt setup past ds) (sees : IsSeenAt setup look t seen) where
  -- a window with a dirty pixel is live
  dirty_live : (h : Past) → IsLawful setup h → (w : ℕ) (p : Point) → is_dirty setup h w p ≡ true → (x : Window) × (window h w ≡ Some x)
  dirty_live h law w p is = live_window h w (by (is_live h w) refl)
    where
      own : owns setup h w p ≡ true
      own = dirty_owned setup h w p is

      by : (b : Bool) → is_live h w ≡ b → b ≡ true
      by true k = refl
      by false k = absurd (false≢true (sym (dead_owns setup h law w p k) ∙ own))

  thread_is : (h : Past) (w : ℕ) (x : Window) → window h w ≡ Some x → thread_of h w ≡ x.thread
  thread_is h w x is = ap (λ o. unwrap_or (option_map (λ (y : Window). y.thread) o) 0) is

  -- all were dirty then: no window has a new one
  all_old : All (IsCovered tree.live t seen) ds → has_paint setup past t look ≡ false
  all_old covered = none_of_all (λ x. find_window (live past) x.number ≡ Some x) (λ x. eqb x.thread t && has_some (pixels_of setup (is_newly_dirty setup past look x.number))) (live past) none
      (all_by_number 15 (15 + length (windows_made past)) (live past) (sound setup past lawful).rising)
    where
      old : (x : Window) → find_window (live past) x.number ≡ Some x → eqb x.thread t ≡ true → (p : Point) → is_newly_dirty setup past look x.number p ≡ false
      old x found own p = by (is_dirty setup past x.number p) refl
        where
          by : (b : Bool) → is_dirty setup past x.number p ≡ b → (b && not (is_dirty setup look x.number p)) ≡ false
          by false k = refl
          by true k =
              let entry = dirty_entry ds x.number p (dirty x.number p ∙ k) in
              let d : DirtyWindow = entry.0 in
              let is_of : number d ≡ x.number = found_number ds x.number d entry.1 in
              let thread : thread_in tree.live (number d) ≡ t = ap (thread_in tree.live) is_of ∙ thread_same past tree at x.number ∙ thread_is past x.number x found ∙ eqb-true x.thread t own in
              let was : was_seen seen (number d) p ≡ true = found_all (IsCovered tree.live t seen) ds x.number d covered entry.1 thread p entry.2 in
              let before : is_dirty setup look x.number p ≡ true = (and_parts (eqb (thread_of look x.number) t) (is_dirty setup look x.number p) (sym (sees x.number p) ∙ ap (λ w. was_seen seen w p) (sym is_of) ∙ was)).1 in
              ap not before

      none : (x : Window) → find_window (live past) x.number ≡ Some x → (eqb x.thread t && has_some (pixels_of setup (is_newly_dirty setup past look x.number))) ≡ false
      none x found = by (eqb x.thread t) refl
        where
          by : (b : Bool) → eqb x.thread t ≡ b → (b && has_some (pixels_of setup (is_newly_dirty setup past look x.number))) ≡ false
          by false k = refl
          by true k = none_passes (is_newly_dirty setup past look x.number) (screen_points setup.width setup.height) (old x found k)

  -- no window has a new one: all were dirty then
  none_new : RisesFrom 0 ds → has_paint setup past t look ≡ false → All (IsCovered tree.live t seen) ds
  none_new rises none i d lt own p has =
      let e : DirtyWindow = get_or ds i d in
      let w : ℕ = number e in
      let found : entry_of ds w ≡ Some e = at_number 0 ds i d rises lt in
      let now : is_dirty setup past w p ≡ true = sym (dirty w p) ∙ ap (λ o. region_has (update_in_entry o).area p) found ∙ has in
      let x = dirty_live past lawful w p now in
      let number_is : x.0.number ≡ w = number_found (live past) w x.0 x.1 in
      let thread : x.0.thread ≡ t = sym (thread_is past w x.0 x.1) ∙ sym (thread_same past tree at w) ∙ own in
      let on : has_pixel (screen setup) p ≡ true = (and_parts (has_pixel (screen setup) p) (is_dirty setup past w p) (sym (passing setup past ds w dirty p) ∙ dirty w p ∙ now)).0 in
      let free = one_of_none (λ x. eqb x.thread t && has_some (pixels_of setup (is_newly_dirty setup past look x.number))) (live past) w x.0 none x.1 in
      let empty : has_some (pixels_of setup (is_newly_dirty setup past look w)) ≡ false = ap (λ n. has_some (pixels_of setup (is_newly_dirty setup past look n))) (sym number_is) ∙ sym (ap (λ b. b && has_some (pixels_of setup (is_newly_dirty setup past look x.0.number))) (eq-eqb x.0.thread t thread)) ∙ free in
      let old : is_newly_dirty setup past look w p ≡ false = false_from_ne_true (is_newly_dirty setup past look w p) (λ new. false≢true (sym empty ∙ some_listed setup (is_newly_dirty setup past look w) p on new)) in
      let before : is_dirty setup look w p ≡ true = and_not (is_dirty setup past w p) (is_dirty setup look w p) old now in
      let y = dirty_live look (tail_lawful setup look past tail lawful) w p before in
      let same : y.0 ≡ x.0 = window_then setup look past w y.0 x.0 tail lawful y.1 x.1 in
      let then : thread_of look w ≡ t = thread_is look w y.0 y.1 ∙ ap (λ (z : Window). z.thread) same ∙ thread in
      sees w p ∙ and_from (eqb (thread_of look w) t) (is_dirty setup look w p) (eq-eqb (thread_of look w) t then) before

  -- so whether all were tells whether there is a new one
  pub new_told : (b : Bool) → RisesFrom 0 ds → (IsTrue b ↔ All (IsCovered tree.live t seen) ds) → not b ≡ has_paint setup past t look
  new_told true rises told = sym (all_old (told.0 refl))
  new_told false rises told = by (has_paint setup past t look) refl
    where
      by : (b : Bool) → has_paint setup past t look ≡ b → true ≡ b
      by true k = refl
      by false k = absurd (false≢true (told.1 (none_new rises k)))

-- ---- a list that is walked

pub covered_more : (P : DirtyWindow → Type 0) (ds : List DirtyWindow) (i : ℕ) (d : DirtyWindow) → i < length ds → d ≡ get_or ds i d → All P (take i ds) → P d → All P (take (i + 1) ds)
covered_more P ds i d lt e a h = All-more P ds i d lt a (subst P e h)

pub covered_all : (P : DirtyWindow → Type 0) (ds : List DirtyWindow) (i : ℕ) → length ds ≤ i → All P (take i ds) → IsTrue true ↔ All P ds
covered_all P ds i le a = (λ _. All-same P ds (take i ds) (sym (take_all i ds le)) a, λ _. refl)

pub not_covered : (P : DirtyWindow → Type 0) (ds : List DirtyWindow) (i : ℕ) (d : DirtyWindow) (b : Bool) → i < length ds → d ≡ get_or ds i d → (IsTrue b ↔ P d) → b ≡ false → IsTrue false ↔ All P ds
not_covered P ds i d b lt e told f = (λ h. absurd (false≢true h), λ a. absurd (false≢true (sym f ∙ told.1 (subst P (sym e) (a i d lt)))))

-- A call that puts a window at a place moves it, and all windows that it moves with it, by the same way.
use Rattle.std.proofs.Common.{◌≡◌, ◌∙◌, ℕ, zero, suc, ◌+◌, ◌-◌, ◌<◌, Bool, true, false, not, cond, eqb, ◌∷◌, length, Option, Some, None, refl, sym, ap, subst, inl, inr, arith}
use Rattle.std.specs.Prelude.{◌⊎◌, ◌&&◌, ◌||◌, ℤ, pos, ◌+ℤ◌, ◌-ℤ◌, ◌≤ℤ◌, ◌<ℤ◌, int_lt, is_some}
use Rattle.std.proofs.lemmas.Bool.{eqb-true, ne_eqb, false≢true, false_from_ne_true}
use Rattle.std.proofs.lemmas.Int.{ints}
use Rattle.win_num.specs.declared.shapes.Point.{Point}
use Rattle.win_num.specs.PixelSets.{Box, box, has_pixel, same_box}
use Rattle.win_num.specs.declared.names.TheConstants.{SWP_NOCOPYBITS, SWP_NOZORDER}
use Rattle.win_rows.specs.Windows.{Windows}
use Rattle.win_rows.specs.Windows as kept
use Rattle.win_order.proofs.Booleans.{and_left, and_right, and_true}
use Rattle.band_region.specs.Regions.{moved_back}
use Rattle.band_region.proofs.Pixels.{at_from_has}
use Rattle.user_model.specs.declared.call.Call.{Call}
use Rattle.user_model.specs.declared.call.Call.TheVariants as calls
use Rattle.user_model.specs.declared.entry.Answer.{Answer}
use Rattle.user_model.specs.declared.entry.Answer.TheVariants as answers
use Rattle.user_model.specs.declared.entry.Entry.{Entry}
use Rattle.user_model.specs.declared.entry.Setup.{Setup}
use Rattle.user_model.specs.Deeds.{deed}
use Rattle.user_model.specs.Idle.{reply}
use Rattle.user_model.specs.Past.{Past, is_refusal, is_refused}
use Rattle.user_model.specs.Places.{ends_thread, is_end}
use Rattle.user_model.specs.Refusals.{invalid_parameter, invalid_window_handle, is_no_rect}
use Rattle.user_model.specs.ReplyWindows.{changes_told, is_no_placing, is_order}
use Rattle.user_model.specs.Dirty.{came_from, carries, copies_bits, is_dirty, moves, owns}
use Rattle.user_model.specs.Legal.{IsLawful}
use Rattle.user_model.specs.Looks.{Look, look, place_of, placed, relooked, set_look}
use Rattle.user_model.specs.Pixels.{box_of, corner_from, origin, origin_within, point, screen, shifted}
use Rattle.user_model.specs.Windows.{Window, drops, drops_kin, has_flag, is_live, live, up, window, windows_made}
use Rattle.user_model.proofs.Forests.{IsBetween}
use Rattle.user_model.proofs.KeptWindows.{window-kept}
use Rattle.user_model.proofs.ReplyLaws.{by_call, not_false, not_refused}
use Rattle.user_model.proofs.WindowLooks.{look-next}
use Rattle.user_model.proofs.WindowFacts.{live_between, live_window, live_within}
use Rattle.window_state.specs.Boxes.{IsOriginAt}
use Rattle.window_state.specs.Trees.{IsTreeAt}
use Rattle.window_state.proofs.BoxLaws.{IsKnown}
use Rattle.window_state.proofs.PixelOwners.{same_point}
use Rattle.window_state.proofs.Standings.{parent_found}
use Rattle.window_state.proofs.TreeFacts.{is_live_at}
use Rattle.dirty_windows.specs.declared.carry.Shift.{Shift}
use Rattle.screen_state.specs.Carrying.{copied_window, is_near, CarriesNone, IsShiftBetween, IsShiftOf}
use Rattle.screen_state.proofs.Owning.{owner_stands_there}
use Rattle.screen_state.proofs.Screens.{same_box-self}
use Rattle.screen_state.proofs.Unmoved.{at_zero, parent_known, same_window, stepped}

-- the parent of a window has a lesser number
parent_less : (setup : Setup) (past : Past) (v : ℕ) (x : Window) → IsLawful setup past → window past v ≡ Some x → x.parent < v
parent_less setup past v x lawful found = pick (eqb x.parent 0) refl both.0.older
  where
    both : IsBetween 15 (15 + length (windows_made past)) x × (x.number ≡ v)
    both = live_between setup past v x lawful found

    pick : (b : Bool) → eqb x.parent 0 ≡ b → up x < x.number → x.parent < v
    pick true h older = let none = eqb-true x.parent 0 h in omega (arith, none, both.1, both.0.over)
    pick false h older = let is : up x ≡ x.parent = ap (λ b. cond b x.owner x.parent) h in omega (arith, is, older, both.1)

-- one step up moves the corner by as much
step_on : (v : ℕ) (o : Point) (new old : Box) (dx dy : ℤ) → eqb v 0 ≡ false → dx ≡ new.left -ℤ old.left → dy ≡ new.top -ℤ old.top → stepped v o new ≡ point ((stepped v o old).x +ℤ dx) ((stepped v o old).y +ℤ dy)
step_on v o new old dx dy some ex ey =
    ap (λ b. elim b as (λ q. Point) [ true ↦ point (pos 0) (pos 0) | false ↦ corner_from o new ]) some
    ∙ (same_point (new.left +ℤ o.x) (new.top +ℤ o.y) ((old.left +ℤ o.x) +ℤ dx) ((old.top +ℤ o.y) +ℤ dy) (omega (arith, ints, ex)) (omega (arith, ints, ey))
    ∙ sym (ap (λ b. let q = elim b as (λ q. Point) [ true ↦ point (pos 0) (pos 0) | false ↦ corner_from o old ] in point (q.x +ℤ dx) (q.y +ℤ dy)) some))

step_up : (v : ℕ) (o : Point) (b : Box) (dx dy : ℤ) → eqb v 0 ≡ false → stepped v (point (o.x +ℤ dx) (o.y +ℤ dy)) b ≡ point ((stepped v o b).x +ℤ dx) ((stepped v o b).y +ℤ dy)
step_up v o b dx dy some =
    ap (λ c. elim c as (λ q. Point) [ true ↦ point (pos 0) (pos 0) | false ↦ corner_from (point (o.x +ℤ dx) (o.y +ℤ dy)) b ]) some
    ∙ (same_point (b.left +ℤ (o.x +ℤ dx)) (b.top +ℤ (o.y +ℤ dy)) ((b.left +ℤ o.x) +ℤ dx) ((b.top +ℤ o.y) +ℤ dy) (omega (arith, ints)) (omega (arith, ints))
    ∙ sym (ap (λ c. let q = elim c as (λ q. Point) [ true ↦ point (pos 0) (pos 0) | false ↦ corner_from o b ] in point (q.x +ℤ dx) (q.y +ℤ dy)) some))

-- w alone has another place in its parent
module _ (setup : Setup) (past : Past) (e : Entry) (lawful : IsLawful setup (e ∷ past)) (w : ℕ) (alone : (v : ℕ) → eqb w v ≡ false → place_of (e ∷ past) v ≡ place_of past v) where
  abbrev later : Past
  later = e ∷ past

  -- how far it has moved there
  abbrev pub across : ℤ
  across = (place_of later w).left -ℤ (place_of past w).left

  abbrev pub down : ℤ
  down = (place_of later w).top -ℤ (place_of past w).top

  -- a point that has moved as far
  abbrev further : Point → Point
  further o = point (o.x +ℤ across) (o.y +ℤ down)

  some_number : (v : ℕ) → is_live past v ≡ true → eqb v 0 ≡ false
  some_number v lives = ne_eqb v 0 (λ (none : v ≡ 0). absurd (omega (arith, none, (live_within setup past v lawful.0 lives).0)))

  -- a window of a lesser number stands where it stood
  lower : (n v : ℕ) → v < w → IsKnown past v → IsKnown later v → origin_within n later v ≡ origin_within n past v
  lower n v lt (inl none) there = at_zero n later v none ∙ sym (at_zero n past v none)
  lower n v lt (inr lives) (inl none) = at_zero n later v none ∙ sym (at_zero n past v none)
  lower zero v lt (inr lives) (inr left) = refl
  lower (suc n) v lt (inr lives) (inr left) =
      let found = live_window past v lives in
      let x = found.0 in
      let there = same_window setup past e v x lawful found.1 left in
      let less = parent_less setup past v x lawful.0 found.1 in
      ap (λ q. stepped v (origin_within n later q) (place_of later v)) (parent_found later v x there)
      ∙ (ap (λ o. stepped v o (place_of later v)) (lower n x.parent (omega (arith, less, lt)) (parent_known setup past v x lawful.0 found.1) (parent_known setup later v x lawful there))
      ∙ (ap (stepped v (origin_within n past x.parent)) (alone v (ne_eqb w v (λ (is : w ≡ v). absurd (omega (arith, is, lt)))))
      ∙ sym (ap (λ q. stepped v (origin_within n past q) (place_of past v)) (parent_found past v x found.1))))

  -- w has moved so far
  own : (n : ℕ) → is_live past w ≡ true → is_live later w ≡ true → origin_within (suc n) later w ≡ further (origin_within (suc n) past w)
  own n lives left =
      let found = live_window past w lives in
      let x = found.0 in
      let there = same_window setup past e w x lawful found.1 left in
      let less = parent_less setup past w x lawful.0 found.1 in
      ap (λ q. stepped w (origin_within n later q) (place_of later w)) (parent_found later w x there)
      ∙ (ap (λ o. stepped w o (place_of later w)) (lower n x.parent less (parent_known setup past w x lawful.0 found.1) (parent_known setup later w x lawful there))
      ∙ (step_on w (origin_within n past x.parent) (place_of later w) (place_of past w) across down (some_number w lives) refl refl
      ∙ sym (ap (λ q. further (stepped w (origin_within n past q) (place_of past w))) (parent_found past w x found.1))))

  -- any other stands where it stood, or has moved as far
  either : (n v : ℕ) → IsKnown past v → IsKnown later v → (origin_within n later v ≡ origin_within n past v) ⊎ (origin_within n later v ≡ further (origin_within n past v))
  either n v (inl none) there = inl (at_zero n later v none ∙ sym (at_zero n past v none))
  either n v (inr lives) (inl none) = inl (at_zero n later v none ∙ sym (at_zero n past v none))
  either zero v (inr lives) (inr left) = inl refl
  either (suc n) v (inr lives) (inr left) = by (eqb w v) refl (either n (live_window past v lives).0.parent (parent_known setup past v (live_window past v lives).0 lawful.0 (live_window past v lives).1) (parent_known setup later v (live_window past v lives).0 lawful (same_window setup past e v (live_window past v lives).0 lawful (live_window past v lives).1 left)))
    where
      found : (x : Window) × (window past v ≡ Some x)
      found = live_window past v lives

      x : Window
      x = found.0

      there : window later v ≡ Some x
      there = same_window setup past e v x lawful found.1 left

      way : (o : Point) → origin_within n later x.parent ≡ o → eqb w v ≡ false → origin_within (suc n) later v ≡ stepped v o (place_of past v)
      way o h other =
          ap (λ q. stepped v (origin_within n later q) (place_of later v)) (parent_found later v x there)
          ∙ (ap (λ o. stepped v o (place_of later v)) h ∙ ap (stepped v o) (alone v other))

      was : origin_within (suc n) past v ≡ stepped v (origin_within n past x.parent) (place_of past v)
      was = ap (λ q. stepped v (origin_within n past q) (place_of past v)) (parent_found past v x found.1)

      by : (b : Bool) → eqb w v ≡ b → (origin_within n later x.parent ≡ origin_within n past x.parent) ⊎ (origin_within n later x.parent ≡ further (origin_within n past x.parent)) → (origin_within (suc n) later v ≡ origin_within (suc n) past v) ⊎ (origin_within (suc n) later v ≡ further (origin_within (suc n) past v))
      by true is above =
          let same : w ≡ v = eqb-true w v is in
          inr (subst (λ u. origin_within (suc n) later u ≡ further (origin_within (suc n) past u)) same (own n (ap (is_live past) same ∙ lives) (ap (is_live later) same ∙ left)))
      by false other (inl same) = inl (way (origin_within n past x.parent) same other ∙ sym was)
      by false other (inr shift) = inr (way (further (origin_within n past x.parent)) shift other ∙ (step_up v (origin_within n past x.parent) (place_of past v) across down (some_number v lives) ∙ sym (ap further was)))

  -- so the left top corner of a window that moves has moved so far
  record IsFurther (new old : Box) : Type 0 where
    pub left : (new.left -ℤ old.left) ≡ across
    pub top : (new.top -ℤ old.top) ≡ down

  same_corner : (o : Point) (new old : Box) → (new.left -ℤ old.left) ≡ across → (new.top -ℤ old.top) ≡ down → IsFurther (shifted o new) (shifted o old)
  same_corner o new old ex ey = record { left = omega (arith, ints, ex); top = omega (arith, ints, ey) }

  further_corner : (o : Point) (b : Box) → IsFurther (shifted (further o) b) (shifted o b)
  further_corner o b = record { left = omega (arith, ints); top = omega (arith, ints) }

  moved_so_far : (v : ℕ) → is_live past v ≡ true → is_live later v ≡ true → moves e past v ≡ true → IsFurther (box_of later v) (box_of past v)
  moved_so_far v lives left moved = by (eqb w v) refl (either x.parent x.parent before after)
    where
      found : (x : Window) × (window past v ≡ Some x)
      found = live_window past v lives

      x : Window
      x = found.0

      there : window later v ≡ Some x
      there = same_window setup past e v x lawful found.1 left

      before : IsKnown past x.parent
      before = parent_known setup past v x lawful.0 found.1

      after : IsKnown later x.parent
      after = parent_known setup later v x lawful there

      now : box_of later v ≡ shifted (origin later x.parent) (place_of later v)
      now = ap (λ q. shifted (origin later q) (place_of later v)) (parent_found later v x there)

      was : box_of past v ≡ shifted (origin past x.parent) (place_of past v)
      was = ap (λ q. shifted (origin past q) (place_of past v)) (parent_found past v x found.1)

      as_boxes : (new old : Box) → box_of later v ≡ new → box_of past v ≡ old → IsFurther new old → IsFurther (box_of later v) (box_of past v)
      as_boxes new old en eo h = subst (λ b. IsFurther b (box_of past v)) (sym en) (subst (λ b. IsFurther new b) (sym eo) h)

      by : (b : Bool) → eqb w v ≡ b → (origin later x.parent ≡ origin past x.parent) ⊎ (origin later x.parent ≡ further (origin past x.parent)) → IsFurther (box_of later v) (box_of past v)
      by true is above =
          let same : w ≡ v = eqb-true w v is in
          let less = parent_less setup past v x lawful.0 found.1 in
          let stays = lower x.parent x.parent (omega (arith, less, same)) before after in
          as_boxes (shifted (origin past x.parent) (place_of later v)) (shifted (origin past x.parent) (place_of past v)) (now ∙ ap (λ o. shifted o (place_of later v)) stays) was
          (same_corner (origin past x.parent) (place_of later v) (place_of past v) (ap (λ u. (place_of later u).left -ℤ (place_of past u).left) (sym same)) (ap (λ u. (place_of later u).top -ℤ (place_of past u).top) (sym same)))
      by false other (inl same) =
          let stays : box_of later v ≡ box_of past v = now ∙ (ap (λ o. shifted o (place_of later v)) same ∙ (ap (shifted (origin past x.parent)) (alone v other) ∙ sym was)) in
          absurd (false≢true (sym (ap (λ (b : Box). not (same_box b (box_of past v))) stays ∙ ap not (same_box-self (box_of past v))) ∙ moved))
      by false other (inr shift) =
          as_boxes (shifted (further (origin past x.parent)) (place_of past v)) (shifted (origin past x.parent) (place_of past v)) (now ∙ (ap (λ o. shifted o (place_of later v)) shift ∙ ap (shifted (further (origin past x.parent))) (alone v other))) was
          (further_corner (origin past x.parent) (place_of past v))

  -- and its pixels come from as far
  pub moved_from : (v : ℕ) (p : Point) → is_live past v ≡ true → is_live later v ≡ true → moves e past v ≡ true → came_from e past v p ≡ moved_back across down p
  moved_from v p lives left moved =
      let far = moved_so_far v lives left moved in
      same_point (p.x -ℤ ((box_of later v).left -ℤ (box_of past v).left)) (p.y -ℤ ((box_of later v).top -ℤ (box_of past v).top)) (p.x -ℤ across) (p.y -ℤ down) (ap (λ z. p.x -ℤ z) far.left) (ap (λ z. p.y -ℤ z) far.top)

  -- the left top corner of w itself has moved so far
  pub own_corner : is_live past w ≡ true → is_live later w ≡ true → origin later w ≡ further (origin past w)
  own_corner lives left =
      let over = (live_within setup past w lawful.0 lives).0 in
      let is : suc (w - 1) ≡ w = omega (arith, over) in
      subst (λ n. origin_within n later w ≡ further (origin_within n past w)) is (own (w - 1) lives left)

-- ---- the call that puts a window at a place

-- a window that is live, and stays, is put at a place, and no other window has another one in its parent
record IsPut (past : Past) (e : Entry) (w : ℕ) : Type 0 where
  pub lives : is_live past w ≡ true
  pub left : is_live (e ∷ past) w ≡ true
  pub alone : (v : ℕ) → eqb w v ≡ false → place_of (e ∷ past) v ≡ place_of past v

set_other : (w v : ℕ) (a : Answer) (new old : Look) → eqb w v ≡ false → set_look w v a new old ≡ old
set_other w v (answers.Value n) new old other = ap (λ b. cond b new old) other
set_other w v _ new old other = refl

-- the window that a call puts at a place is live, and a value is answered
placed_live : (setup : Setup) (past : Past) (who w : ℕ) (after l t r b : ℤ) (flags : ℕ) (a : Answer) → reply setup past who (calls.Place w after l t r b flags) ≡ a → is_refusal a ≡ false → (is_live past w ≡ true) × ((n : ℕ) × (a ≡ answers.Value n))
placed_live setup past who w after l t r b flags a e fine =
    let by = by_call setup past who (calls.Place w after l t r b flags) a e refl fine in
    let good = not_refused (is_no_rect l t r b || is_no_placing flags) invalid_parameter _ a fine by.is_row in
    let order = not_refused (not (has_flag flags SWP_NOZORDER) && (is_live past w && not (is_order past w after))) invalid_parameter _ a fine good.1 in
    let live = not_refused (not (is_live past w)) invalid_window_handle (answers.Value (changes_told (look past w) (placed flags after (box l t r b) (look past w)))) a fine order.1 in
    (not_false (is_live past w) live.0, (changes_told (look past w) (placed flags after (box l t r b) (look past w)), sym live.1))

is_put : (setup : Setup) (past : Past) (e : Entry) (w : ℕ) (after l t r b : ℤ) (flags : ℕ) → IsLawful setup (e ∷ past) → is_refused e ≡ false → e.call ≡ calls.Place w after l t r b flags → IsPut past e w
is_put setup past e w after l t r b flags lawful fine is = record { lives = told.0; left = ap is_some (window-kept e past w found.0 found.1 kept); alone = alone }
  where
    told : (is_live past w ≡ true) × ((n : ℕ) × (e.answer ≡ answers.Value n))
    told = placed_live setup past e.who.0 w after l t r b flags e.answer (ap (reply setup past e.who.0) (sym is) ∙ sym lawful.1) fine

    found : (x : Window) × (window past w ≡ Some x)
    found = live_window past w told.0

    kept : drops e (live past) found.0 ≡ false
    kept = ap (λ call. drops_kin call (live past) found.0 || ends_thread e found.0.thread) is ∙ ap (λ a. is_end a && eqb e.who.0 found.0.thread) told.1.1

    alone : (v : ℕ) → eqb w v ≡ false → place_of (e ∷ past) v ≡ place_of past v
    alone v other = ap (λ (k : Look). k.place) (look-next e past v fine ∙ (ap (λ call. relooked v e.answer (deed call) (look past v)) is ∙ set_other w v e.answer (placed flags after (box l t r b) (look past v)) (look past v) other))

-- ---- the move that is told

last_no : (b : Bool) → (b && false) ≡ false
last_no true = refl
last_no false = refl

is_less : (a b : ℤ) → a <ℤ b → int_lt a b ≡ true
is_less a b h = grind (arith, ints)

is_not_less : (a b : ℤ) → b ≤ℤ a → int_lt a b ≡ false
is_not_less a b h = grind (arith, ints)

-- what is too far
pub far_before : (d : ℤ) (edge : ℕ) → d ≤ℤ (pos 0 -ℤ pos edge) → is_near d edge ≡ false
far_before d edge h = ap (λ b. b && int_lt d (pos edge)) (is_not_less (pos 0 -ℤ pos edge) d h)

pub far_behind : (d : ℤ) (edge : ℕ) → pos edge ≤ℤ d → is_near d edge ≡ false
far_behind d edge h = ap (λ b. int_lt (pos 0 -ℤ pos edge) d && b) (is_not_less d (pos edge) h) ∙ last_no (int_lt (pos 0 -ℤ pos edge) d)

pub last_far : (a b : Bool) → b ≡ false → (a && b) ≡ false
last_far a b h = ap (λ c. a && c) h ∙ last_no a

near_along : (x d edge : ℤ) → pos 0 ≤ℤ x → x <ℤ edge → pos 0 ≤ℤ (x -ℤ d) → (x -ℤ d) <ℤ edge → (int_lt (pos 0 -ℤ edge) d && int_lt d edge) ≡ true
near_along x d edge a b c e = and_true (int_lt (pos 0 -ℤ edge) d) (int_lt d edge) (is_less (pos 0 -ℤ edge) d (omega (arith, ints, a, b, c, e))) (is_less d edge (omega (arith, ints, a, b, c, e)))

-- two pixels of the screen are no further apart than it is wide and high
near_both : (setup : Setup) (p : Point) (dx dy : ℤ) → has_pixel (screen setup) p ≡ true → has_pixel (screen setup) (moved_back dx dy p) ≡ true → (is_near dx setup.width && is_near dy setup.height) ≡ true
near_both setup p dx dy here there =
    let a = at_from_has (screen setup) p here in
    let b = at_from_has (screen setup) (moved_back dx dy p) there in
    and_true (is_near dx setup.width) (is_near dy setup.height) (near_along p.x dx (pos setup.width) a.left a.right b.left b.right) (near_along p.y dy (pos setup.height) a.top a.bottom b.top b.bottom)

module _ (setup : Setup) (t t2 : Windows) (e : Entry) (w : ℕ) (after l t' r b : ℤ) (flags n : ℕ) (is : e.call ≡ calls.Place w after l t' r b flags) (copied : copies_bits e.call ≡ true) (old new : Point)
    (known : kept.is_live t.live w ≡ true → n ≡ w) (from : IsOriginAt t n old) (to : IsOriginAt t2 n new) where
  module _ (past : Past) (lawful : IsLawful setup (e ∷ past)) (fine : is_refused e ≡ false) (tree : IsTreeAt past t) (tree2 : IsTreeAt (e ∷ past) t2) where
    put : IsPut past e w
    put = is_put setup past e w after l t' r b flags lawful fine is

    same : n ≡ w
    same = known (sym (is_live_at past t tree w) ∙ put.lives)

    start : old ≡ origin past w
    start = subst (λ v. is_live past v ≡ true → old ≡ origin past v) same (from setup past lawful.0 tree) put.lives

    goal : new ≡ origin (e ∷ past) w
    goal = subst (λ v. is_live (e ∷ past) v ≡ true → new ≡ origin (e ∷ past) v) same (to setup (e ∷ past) lawful tree2) put.left

    corner : origin (e ∷ past) w ≡ point ((origin past w).x +ℤ across setup past e lawful w put.alone) ((origin past w).y +ℤ down setup past e lawful w put.alone)
    corner = own_corner setup past e lawful w put.alone put.lives put.left

    difference : (x y d : ℤ) → y ≡ (x +ℤ d) → (y -ℤ x) ≡ d
    difference x y d e = omega (arith, ints, e)

    is_across : (new.x -ℤ old.x) ≡ across setup past e lawful w put.alone
    is_across = difference old.x new.x _ (ap (λ (q : Point). q.x) (goal ∙ corner) ∙ ap (λ (q : Point). q.x +ℤ across setup past e lawful w put.alone) (sym start))

    is_down : (new.y -ℤ old.y) ≡ down setup past e lawful w put.alone
    is_down = difference old.y new.y _ (ap (λ (q : Point). q.y) (goal ∙ corner) ∙ ap (λ (q : Point). q.y +ℤ down setup past e lawful w put.alone) (sym start))

    pub comes_from : (v : ℕ) (p : Point) → is_live past v ≡ true → is_live (e ∷ past) v ≡ true → moves e past v ≡ true → came_from e past v p ≡ moved_back (new.x -ℤ old.x) (new.y -ℤ old.y) p
    comes_from v p lives left moved =
        moved_from setup past e lawful w put.alone v p lives left moved
        ∙ same_point (p.x -ℤ across setup past e lawful w put.alone) (p.y -ℤ down setup past e lawful w put.alone) (p.x -ℤ (new.x -ℤ old.x)) (p.y -ℤ (new.y -ℤ old.y)) (ap (λ z. p.x -ℤ z) (sym is_across)) (ap (λ z. p.y -ℤ z) (sym is_down))

    -- a window that carries a pixel owned one and owns one
    far_carries : (is_near (new.x -ℤ old.x) setup.width && is_near (new.y -ℤ old.y) setup.height) ≡ false → (v : ℕ) (p : Point) → carries setup e past v p ≡ false
    far_carries far v p = false_from_ne_true (carries setup e past v p) (λ is.
        let both = and_right (copies_bits e.call && moves e past v) (owns setup (e ∷ past) v p && (owns setup past v (came_from e past v p) && not (is_dirty setup past v (came_from e past v p)))) is in
        let now = owner_stands_there setup (e ∷ past) lawful v p (and_left (owns setup (e ∷ past) v p) _ both) in
        let was = owner_stands_there setup past lawful.0 v (came_from e past v p) (and_left (owns setup past v (came_from e past v p)) _ (and_right (owns setup (e ∷ past) v p) _ both)) in
        let moved = and_right (copies_bits e.call) (moves e past v) (and_left (copies_bits e.call && moves e past v) _ is) in
        let there = ap (has_pixel (screen setup)) (sym (comes_from v p was.lives now.lives moved)) ∙ was.on in
        false≢true (sym far ∙ near_both setup p (new.x -ℤ old.x) (new.y -ℤ old.y) now.on there))

  pub shift_is : (o : Option Shift) → IsShiftBetween setup old new o → IsShiftOf setup t t2 e o
  shift_is None far = λ past lawful fine tree tree2 v p. far_carries past lawful fine tree tree2 far v p
  shift_is (Some s) is = record {
    short = is.short;
    moves = λ past lawful fine tree tree2. record {
      copies = copied;
      from = λ v p lives left moved. comes_from past lawful fine tree tree2 v p lives left moved ∙ same_point (p.x -ℤ (new.x -ℤ old.x)) (p.y -ℤ (new.y -ℤ old.y)) (p.x -ℤ s.dx) (p.y -ℤ s.dy) (ap (λ z. p.x -ℤ z) (sym is.across)) (ap (λ z. p.y -ℤ z) (sym is.down));
    };
  }

-- an entry that doesn't let pixels go with windows carries none
pub uncopied : (setup : Setup) (t t2 : Windows) (e : Entry) → copies_bits e.call ≡ false → CarriesNone setup t t2 e
uncopied setup t t2 e none past lawful fine tree tree2 w p = ap (λ b. (b && moves e past w) && (owns setup (e ∷ past) w p && (owns setup past w (came_from e past w p) && not (is_dirty setup past w (came_from e past w p))))) none

-- the window that a call puts at a place with its pixels, if it does
pub copied_some : (setup : Setup) (t t2 : Windows) (e : Entry) (w n : ℕ) (old new : Point) (o : Option Shift) → copied_window e.call ≡ Some w → (kept.is_live t.live w ≡ true → n ≡ w) → IsOriginAt t n old → IsOriginAt t2 n new → IsShiftBetween setup old new o → IsShiftOf setup t t2 e o
copied_some setup t t2 e w n old new o some known from to between = by e.call refl some
  where
    by : (call : Call) → e.call ≡ call → copied_window call ≡ Some w → IsShiftOf setup t t2 e o
    by (calls.Place v after l t' r b flags) is some = pick (has_flag flags SWP_NOCOPYBITS) refl some
      where
        pick : (k : Bool) → has_flag flags SWP_NOCOPYBITS ≡ k → cond k None (Some v) ≡ Some w → IsShiftOf setup t t2 e o
        pick true k some = absurd cc
        pick false k some =
            let same : v ≡ w = cc in
            shift_is setup t t2 e w after l t' r b flags n (is ∙ ap (λ u. calls.Place u after l t' r b flags) same) (ap copies_bits is ∙ ap not k) old new known from to o between
    by _ is some = absurd cc

pub copied_none : (setup : Setup) (t t2 : Windows) (e : Entry) → copied_window e.call ≡ None → CarriesNone setup t t2 e
copied_none setup t t2 e none = uncopied setup t t2 e (by e.call none)
  where
    by : (call : Call) → copied_window call ≡ None → copies_bits call ≡ false
    by (calls.Place v after l t' r b flags) none = pick (has_flag flags SWP_NOCOPYBITS) refl none
      where
        pick : (k : Bool) → has_flag flags SWP_NOCOPYBITS ≡ k → cond k None (Some v) ≡ None → not (has_flag flags SWP_NOCOPYBITS) ≡ false
        pick true k none = ap not k
        pick false k none = absurd cc
    by _ none = refl

-- A refused entry leaves who owns each pixel, which pixels are dirty, where input goes, what comes next, and the status of each queue.
use Rattle.std.proofs.Common.{◌≡◌, ◌∙◌, ℕ, zero, suc, Bool, true, false, eqb, List, [], ◌∷◌, ◌++◌, cond, length, Option, Some, None, refl, ap, sym}
use Rattle.std.specs.Prelude.{◌&&◌, ◌||◌, ◌+◌, ◌*◌, ◌-ℤ◌, bit_and, not, find, pos, reverse, option_map, take_while}
use Rattle.std.specs.List.{flat_map, list_any}
use Rattle.win_num.specs.declared.message.Thread.{Thread}
use Rattle.win_num.specs.declared.message.Filter.{Filter}
use Rattle.win_num.specs.declared.message.Hwnd.{Hwnd}
use Rattle.win_num.specs.declared.shapes.Point.{Point}
use Rattle.win_num.specs.declared.code.Code.{Code}
use Rattle.win_num.specs.declared.names.TheConstants.{QS_KEY, QS_MOUSEBUTTON, QS_MOUSEMOVE, QS_PAINT, QS_POSTMESSAGE, QS_SENDMESSAGE, QS_TIMER, WM_PAINT}
use Rattle.win_num.specs.Numbers.{passes_range}
use Rattle.region_box.specs.Screens.{screen_points}
use Rattle.user_model.specs.declared.call.Call.{Call}
use Rattle.user_model.specs.declared.entry.Answer.{Answer}
use Rattle.user_model.specs.declared.entry.Answer.TheVariants.{Got, Refused}
use Rattle.user_model.specs.declared.entry.Origin.TheVariants.{Input}
use Rattle.user_model.specs.declared.entry.Setup.{Setup}
use Rattle.user_model.specs.Past.{Past, or_else}
use Rattle.user_model.specs.Filters.{passes_window}
use Rattle.user_model.specs.Looks.{is_disabled, place_of}
use Rattle.user_model.specs.Focus.{capture, if_of_group, value_of}
use Rattle.user_model.specs.Inputs.{Element, or_window, untaken, untaken_of}
use Rattle.user_model.specs.Targets.{enabled_at, enabled_within, is_of_mouse, key_window, low_word, message_for, passes_input, taker, taker_at, target, to_take}
use Rattle.user_model.specs.Posts.{message}
use Rattle.user_model.specs.Next.{got_input, got_paint, next, next_input, next_paint, next_posted, next_quit, next_timer, next_ready}
use Rattle.user_model.specs.Pixels.{corner_from, origin, origin_within, owner, point}
use Rattle.user_model.specs.Windows.{Window, live, parent_in, thread_of}
use Rattle.user_model.specs.ZOrder.{siblings}
use Rattle.user_model.specs.Dirty.{dirty_pixels, has_some, is_dirty, pixels_of}
use Rattle.user_model.specs.Painting.{painted_below, painting_order, to_paint, wants_paint}
use Rattle.user_model.specs.Status.{bit_where, bits_since, came_after, has_input, has_paint, has_post, has_send, has_timer, is_move, is_newly_dirty, is_of_button, is_of_key, last_look, status}
use Rattle.user_model.specs.Machines.{entry_of}
use Rattle.user_model.proofs.ListLaws.{filter_same}
use Rattle.user_model.proofs.OwnersKept.{owner_same}
use Rattle.std.proofs.lemmas.List.Sums.{take_while-cons}

-- tests that agree find the same
found_same : {X : Type 0} (f g : X → Bool) → ((x : X) → f x ≡ g x) → (xs : List X) → find f xs ≡ find g xs
found_same f g e [] = refl
found_same f g e (x ∷ xs) = ap (λ b. cond b (Some x) (find f xs)) (e x) ∙ ap (λ o. cond (g x) (Some x) o) (found_same f g e xs)

-- tests that agree take the same from the front
front_same : {X : Type 0} (f g : X → Bool) → ((x : X) → f x ≡ g x) → (xs : List X) → take_while f xs ≡ take_while g xs
front_same f g e [] = refl
front_same f g e (x ∷ xs) = take_while-cons f x xs ∙ ap (λ b. cond b (x ∷ take_while f xs) []) (e x) ∙ ap (λ l. cond (g x) (x ∷ l) []) (front_same f g e xs) ∙ sym (take_while-cons g x xs)

-- what is found passes the same way on
mapped_same : {X Y : Type 0} (f g : X → Y) → ((x : X) → f x ≡ g x) → (o : Option X) → option_map f o ≡ option_map g o
mapped_same f g e None = refl
mapped_same f g e (Some x) = ap (λ y. Some y) (e x)

-- lists that agree join to the same
joined_same : {X Y : Type 0} (f g : X → List Y) → ((x : X) → f x ≡ g x) → (xs : List X) → flat_map f xs ≡ flat_map g xs
joined_same f g e [] = refl
joined_same f g e (x ∷ xs) = ap (λ l. l ++ flat_map f xs) (e x) ∙ ap (λ l. g x ++ l) (joined_same f g e xs)

-- tests that agree tell the same of whether there is one
any_same : {X : Type 0} (f g : X → Bool) → ((x : X) → f x ≡ g x) → (xs : List X) → list_any f xs ≡ list_any g xs
any_same f g e [] = refl
any_same f g e (x ∷ xs) = ap (λ b. b || list_any f xs) (e x) ∙ ap (λ b. g x || b) (any_same f g e xs)

module _ (past : Past) (by : Thread) (asked : Call) (code : Code) where
  abbrev later : Past
  later = entry_of by asked (Refused code) ∷ past

  pub owner_kept : (setup : Setup) (p : Point) → owner setup later p ≡ owner setup past p
  owner_kept setup p = owner_same past (entry_of by asked (Refused code)) refl (λ w. record { shown = refl; place = refl }) (λ q. refl) setup p

  pub dirty_kept : (setup : Setup) (w : ℕ) (p : Point) → is_dirty setup later w p ≡ is_dirty setup past w p
  dirty_kept setup w p = refl

  pub pixels_kept : (setup : Setup) (w : ℕ) → dirty_pixels setup later w ≡ dirty_pixels setup past w
  pixels_kept setup w = filter_same (is_dirty setup later w) (is_dirty setup past w) (dirty_kept setup w) (screen_points setup.width setup.height)

  corner_within : (n w : ℕ) → origin_within n later w ≡ origin_within n past w
  corner_within zero w = refl
  corner_within (suc n) w = ap (λ (o : Point). elim (eqb w 0) [ true ↦ point (pos 0) (pos 0) | false ↦ corner_from o (place_of past w) ]) (corner_within n (parent_in (live past) w))

  pub corner_kept : (w : ℕ) → origin later w ≡ origin past w
  corner_kept w = corner_within w w

  wants_kept : (setup : Setup) (t : ℕ) (f : Filter) (w : Hwnd) → wants_paint setup later t f w ≡ wants_paint setup past t f w
  wants_kept setup t f w = ap (λ ps. (eqb (thread_of past w.0) t) && (passes_range f.min f.max WM_PAINT && passes_window past f.hwnd w.0) && has_some ps) (pixels_kept setup w.0)

  below_kept : (n w : ℕ) → painted_below n later w ≡ painted_below n past w
  below_kept zero w = refl
  below_kept (suc n) w = joined_same (λ (v : Hwnd). v ∷ painted_below n later v.0) (λ (v : Hwnd). v ∷ painted_below n past v.0) (λ v. ap (λ l. v ∷ l) (below_kept n v.0)) (reverse (siblings past w))

  to_paint_kept : (setup : Setup) (t : ℕ) (f : Filter) → to_paint setup later t f ≡ to_paint setup past t f
  to_paint_kept setup t f = ap (find (wants_paint setup later t f)) (below_kept (length (live past)) 0) ∙ found_same (wants_paint setup later t f) (wants_paint setup past t f) (wants_kept setup t f) (painting_order past)

  -- ---- input

  within_kept : (n w : ℕ) → enabled_within n later w ≡ enabled_within n past w
  within_kept zero w = refl
  within_kept (suc n) w = ap (λ (v : ℕ). elim (eqb w 0) [ true ↦ 0 | false ↦ elim (is_disabled past w) [ true ↦ v | false ↦ w ] ]) (within_kept n (parent_in (live past) w))

  pub target_kept : (setup : Setup) (x : Element) → target setup later x ≡ target setup past x
  target_kept setup x = ap (λ (v : ℕ). cond (is_of_mouse x.message) (or_window (value_of past x.home capture) (if_of_group past x.home v)) (key_window past x.home)) (ap (λ (h : Hwnd). enabled_at later h.0) (owner_kept setup x.point) ∙ within_kept (owner setup past x.point).0 (owner setup past x.point).0)

  taker_kept : (setup : Setup) (t : ℕ) (x : Element) → eqb (taker setup later x) t ≡ eqb (taker setup past x) t
  taker_kept setup t x = ap (λ w. eqb (taker_at past x w) t) (target_kept setup x)

  passes_kept : (setup : Setup) (f : Filter) (x : Element) → passes_input setup later f x ≡ passes_input setup past f x
  passes_kept setup f x = ap (λ w. passes_range f.min f.max x.message && passes_window past f.hwnd w) (target_kept setup x)

  to_take_kept : (setup : Setup) (t : ℕ) (f : Filter) → to_take setup later t f ≡ to_take setup past t f
  to_take_kept setup t f =
      ap (find (passes_input setup later f)) (front_same (λ x. eqb (taker setup later x) t) (λ x. eqb (taker setup past x) t) (taker_kept setup t) (untaken_of setup past t))
      ∙ found_same (passes_input setup later f) (passes_input setup past f) (passes_kept setup f) (take_while (λ x. eqb (taker setup past x) t) (untaken_of setup past t))

  got_input_kept : (setup : Setup) (x : Element) → got_input setup later x ≡ got_input setup past x
  got_input_kept setup x =
      ap (λ w. Got Input x.number (message_for later x w)) (target_kept setup x)
      ∙ ap (λ (o : Point). Got Input x.number (cond (is_of_mouse x.message) (message (target setup past x) x.message 0 (low_word (x.point.x -ℤ o.x) + 65536 * low_word (x.point.y -ℤ o.y)) x.time x.point) (message (target setup past x) x.message x.key 1 x.time x.point))) (corner_kept (target setup past x))

  next_input_kept : (setup : Setup) (t : ℕ) (f : Filter) → next_input setup later t f ≡ next_input setup past t f
  next_input_kept setup t f = ap (option_map (got_input setup later)) (to_take_kept setup t f) ∙ mapped_same (got_input setup later) (got_input setup past) (got_input_kept setup) (to_take setup past t f)

  pub next_kept : (setup : Setup) (t : ℕ) (f : Filter) → next setup later t f ≡ next setup past t f
  next_kept setup t f =
      ap (λ (o : Option Hwnd). or_else (next_ready past t) (or_else (next_posted past t f) (or_else (next_quit past t) (or_else (next_input setup later t f) (or_else (option_map (got_paint past) o) (next_timer past t f)))))) (to_paint_kept setup t f)
      ∙ ap (λ (o : Option Answer). or_else (next_ready past t) (or_else (next_posted past t f) (or_else (next_quit past t) (or_else o (or_else (next_paint setup past t f) (next_timer past t f)))))) (next_input_kept setup t f)

  -- ---- the status of a queue

  input_kept : (setup : Setup) (is_kind : ℕ → Bool) (t : ℕ) (earlier : Past) → has_input is_kind setup later t earlier ≡ has_input is_kind setup past t earlier
  input_kept setup is_kind t earlier =
      any_same (λ (x : Element). is_kind x.message && (came_after earlier x.place && eqb (taker setup later x) t)) (λ (x : Element). is_kind x.message && (came_after earlier x.place && eqb (taker setup past x) t))
      (λ x. ap (λ b. is_kind x.message && (came_after earlier x.place && b)) (taker_kept setup t x)) (untaken setup past)

  newly_kept : (setup : Setup) (earlier : Past) (w : ℕ) (p : Point) → is_newly_dirty setup later earlier w p ≡ is_newly_dirty setup past earlier w p
  newly_kept setup earlier w p = ap (λ b. b && not (is_dirty setup earlier w p)) (dirty_kept setup w p)

  new_pixels_kept : (setup : Setup) (t : ℕ) (earlier : Past) → has_paint setup later t earlier ≡ has_paint setup past t earlier
  new_pixels_kept setup t earlier =
      any_same (λ (x : Window). eqb x.thread t && has_some (pixels_of setup (is_newly_dirty setup later earlier x.number))) (λ (x : Window). eqb x.thread t && has_some (pixels_of setup (is_newly_dirty setup past earlier x.number)))
      (λ x. ap (λ ps. eqb x.thread t && has_some ps) (filter_same (is_newly_dirty setup later earlier x.number) (is_newly_dirty setup past earlier x.number) (newly_kept setup earlier x.number) (screen_points setup.width setup.height))) (live past)

  bits_kept : (setup : Setup) (t : ℕ) (earlier : Past) → bits_since setup later t earlier ≡ bits_since setup past t earlier
  bits_kept setup t earlier =
      ap (λ b. sum b (has_input is_move setup later t earlier) (has_input is_of_button setup later t earlier) (has_paint setup later t earlier)) (input_kept setup is_of_key t earlier)
      ∙ ap (λ b. sum (has_input is_of_key setup past t earlier) b (has_input is_of_button setup later t earlier) (has_paint setup later t earlier)) (input_kept setup is_move t earlier)
      ∙ ap (λ b. sum (has_input is_of_key setup past t earlier) (has_input is_move setup past t earlier) b (has_paint setup later t earlier)) (input_kept setup is_of_button t earlier)
      ∙ ap (sum (has_input is_of_key setup past t earlier) (has_input is_move setup past t earlier) (has_input is_of_button setup past t earlier)) (new_pixels_kept setup t earlier)
    where
      sum : Bool → Bool → Bool → Bool → ℕ
      sum key moved button paint = bit_where key QS_KEY + bit_where moved QS_MOUSEMOVE + bit_where button QS_MOUSEBUTTON + bit_where (has_post past t earlier) QS_POSTMESSAGE + bit_where (has_timer past t earlier) QS_TIMER + bit_where paint QS_PAINT + bit_where (has_send past t earlier) QS_SENDMESSAGE

  pub status_kept : (setup : Setup) (t flags : ℕ) → status setup later t flags ≡ status setup past t flags
  status_kept setup t flags =
      ap (λ n. 65536 * bit_and n flags + bit_and (bits_since setup later t (last_look past t)) flags) (bits_kept setup t [])
      ∙ ap (λ n. 65536 * bit_and (bits_since setup past t []) flags + bit_and n flags) (bits_kept setup t (last_look past t))

-- Whom input is meant for, and where it goes.
use Rattle.std.proofs.Common.{◌≡◌, ℕ, ◌<◌, ◌≤◌, Bool, true, false, cond, eqb, Option, Some, None, refl, ap, sym, subst, ◌∙◌, inl, inr, arith}
use Rattle.std.specs.Prelude.{◌&&◌, option_map, unwrap_or}
use Rattle.std.specs.List.{AllByRecursion}
use Rattle.std.proofs.lemmas.Bool.{and_parts, eq-eqb, eqb-true, false≢true, ne_eqb}
use Rattle.win_num.specs.declared.message.Filter.{Filter}
use Rattle.win_num.specs.declared.message.Msg.{Msg}
use Rattle.win_num.specs.declared.message.Thread.{Thread}
use Rattle.win_num.specs.declared.shapes.Point.{Point}
use Rattle.win_num.specs.Numbers.{passes_range}
use Rattle.input_queue.specs.declared.element.Element.{Element as KeptElement}
use Rattle.input_queue.specs.Elements as queue
use Rattle.user_model.specs.declared.entry.Setup.{Setup}
use Rattle.user_model.specs.Past.{Past}
use Rattle.user_model.specs.Places.{has_ended}
use Rattle.user_model.specs.Threads.{is_thread}
use Rattle.user_model.specs.Windows.{Window, is_live, thread_of, window}
use Rattle.user_model.specs.Filters.{passes_window}
use Rattle.user_model.specs.Focus.{foreground, if_of_group}
use Rattle.user_model.specs.Groups.{is_in_group}
use Rattle.user_model.specs.Inputs.{Element, if_lives, or_window, untaken, untaken_of}
use Rattle.user_model.specs.Pixels.{owner}
use Rattle.user_model.specs.Targets.{is_of_mouse, key_window, message_for, mouse_window, passes_input, taker, taker_at, target, to_take}
use Rattle.user_model.specs.Legal.{IsLawful}
use Rattle.user_model.specs.Setups.{IsSetup}
use Rattle.user_model.proofs.GroupThreads.{running_is_thread}
use Rattle.user_model.proofs.InputFacts.{IsKept, foreground_is_thread, untaken_kept}
use Rattle.user_model.proofs.ListLaws.{all_filter, all_weaker}
use Rattle.user_model.proofs.ReplyLaws.{running_lives}
use Rattle.user_model.proofs.WindowFacts.{live_running}
use Rattle.window_state.proofs.PixelLaws.{owner_has}
use Rattle.group_state.proofs.Reaching.{thread_bounds}
use Rattle.pending_state.specs.Pending.{IsGroupOf, kept, untaken_at}
use Rattle.pending_state.proofs.Finding.{first_told}
use Rattle.pending_state.proofs.Kept.{of_group-kept}
use Rattle.pending_state.proofs.Steps.{low_home}
use Rattle.core_state.specs.Inputs.{IsAtHome, IsNoneOrLive, element_of, passes_in, taker_in, target_in, told_input, told_of}

-- ---- homes

pub both_zero : (b : Bool) → ◌≡◌ {A = ℕ} (cond b 0 0) 0
both_zero true = refl
both_zero false = refl

-- a number above 0 isn't 0
pub none_is : (n : ℕ) → 0 < n → eqb n 0 ≡ false
none_is n some = ne_eqb n 0 (λ none. omega (arith, some, none))

module _ (setup : Setup) (past : Past) (lawful : IsLawful setup past) where
  -- the thread of a window hasn't ended
  pub lives_thread : (w : ℕ) → if_lives past (thread_of past w) ≡ thread_of past w
  lives_thread w = by (window past w) refl
    where
      by : (o : Option Window) → window past w ≡ o → if_lives past (thread_of past w) ≡ thread_of past w
      by None is =
          let none : thread_of past w ≡ 0 = ap (λ (o : Option Window). unwrap_or (option_map (λ x. x.thread) o) 0) is in
          ap (if_lives past) none ∙ both_zero (has_ended past 0) ∙ sym none
      by (Some x) is =
          let thread : thread_of past w ≡ x.thread = ap (λ (o : Option Window). unwrap_or (option_map (λ x. x.thread) o) 0) is in
          ap (if_lives past) thread ∙ ap (λ b. cond b 0 x.thread) (running_lives setup past x.thread (live_running setup past w x lawful is)) ∙ sym thread

  -- and is one of the setup's
  pub thread_known : (w : ℕ) → thread_of past w ≤ setup.threads
  thread_known w = by (window past w) refl
    where
      by : (o : Option Window) → window past w ≡ o → thread_of past w ≤ setup.threads
      by None is =
          let none : thread_of past w ≡ 0 = ap (λ (o : Option Window). unwrap_or (option_map (λ x. x.thread) o) 0) is in
          omega (arith, none)
      by (Some x) is =
          let thread : thread_of past w ≡ x.thread = ap (λ (o : Option Window). unwrap_or (option_map (λ x. x.thread) o) 0) is in
          subst (λ n. n ≤ setup.threads) (sym thread) (thread_bounds setup x.thread (running_is_thread setup past x.thread (live_running setup past w x lawful is))).1

  -- so is the foreground thread
  pub foreground_known : foreground past ≤ setup.threads
  foreground_known = elim (foreground_is_thread setup past lawful) [
    | inl none ↦ omega (arith, none)
    | inr thread ↦ (thread_bounds setup (foreground past) thread).1
  ]

  -- each untaken input has a thread as its home
  pub at_home : IsSetup setup → AllByRecursion (IsAtHome setup) (untaken setup past)
  at_home s = all_weaker (IsKept setup past) (IsAtHome setup) (λ x k. record { thread = running_is_thread setup past x.home k.runs; low = low_home setup past x.home s k.runs }) (untaken setup past) (untaken_kept setup past lawful)

-- ---- targets

-- what counts for a group is no window or a live one
window_held : (past : Past) (t w : ℕ) → IsNoneOrLive past (if_of_group past t w)
window_held past t w = by (is_live past w && is_in_group past t (thread_of past w)) refl
  where
    by : (b : Bool) → (is_live past w && is_in_group past t (thread_of past w)) ≡ b → IsNoneOrLive past (cond b w 0)
    by true h = inr (and_parts (is_live past w) (is_in_group past t (thread_of past w)) h).0
    by false h = inl refl

-- so is the owner of a pixel
pub owner_held : (setup : Setup) (past : Past) (p : Point) → IsLawful setup past → IsNoneOrLive past (owner setup past p).0
owner_held setup past p lawful = by (eqb (owner setup past p).0 0) refl
  where
    by : (b : Bool) → eqb (owner setup past p).0 0 ≡ b → IsNoneOrLive past (owner setup past p).0
    by true h = inl (eqb-true (owner setup past p).0 0 h)
    by false h = inr (owner_has setup past p lawful (λ none. false≢true (sym h ∙ eq-eqb (owner setup past p).0 0 none))).0.0

either_held : (past : Past) (w v : ℕ) → IsNoneOrLive past w → IsNoneOrLive past v → IsNoneOrLive past (or_window w v)
either_held past w v one other = by (eqb w 0)
  where
    by : (b : Bool) → IsNoneOrLive past (cond b v w)
    by true = other
    by false = one

-- an input goes to no window or to a live one
pub target_held : (setup : Setup) (past : Past) (x : Element) → IsNoneOrLive past (target setup past x)
target_held setup past x = by (is_of_mouse x.message)
  where
    by : (b : Bool) → IsNoneOrLive past (cond b (mouse_window setup past x.home x.point) (key_window past x.home))
    by true = either_held past _ _ (window_held past x.home _) (window_held past x.home _)
    by false = either_held past _ _ (window_held past x.home _) (window_held past x.home _)

pub target_in_held : (setup : Setup) (past : Past) (x : KeptElement) → IsNoneOrLive past (target_in setup past x)
target_in_held setup past x = by (is_thread setup x.home.0)
  where
    by : (b : Bool) → IsNoneOrLive past (cond b (target setup past (element_of x)) 0)
    by true = target_held setup past (element_of x)
    by false = inl refl

-- ---- what may be taken

module _ (setup : Setup) (past : Past) (x : Element) (home : IsAtHome setup x) where
  target_is : target_in setup past (kept x) ≡ target setup past x
  target_is = ap (λ b. cond b (target setup past x) 0) home.thread

  pub taker_is : (taker_in setup past (kept x)).0 ≡ taker setup past x
  taker_is = ap (taker_at past x) target_is

  pub passes_is : (f : Filter) → passes_in setup past f (kept x) ≡ passes_input setup past f x
  passes_is f = ap (λ w. passes_range f.min f.max x.message && passes_window past f.hwnd w) target_is

  pub told_is : told_of setup past (kept x) ≡ told_input setup past x
  told_is = ap (λ w. let told : ℕ × Msg = (x.number, message_for past x w) in told) target_is

-- the first that a thread may take and that passes, as it is kept and as the past has it
pub take_told : (setup : Setup) (past : Past) (t : Thread) (group : ℕ) (f : Filter) → IsGroupOf past t.0 group → AllByRecursion (IsAtHome setup) (untaken setup past)
    → option_map (told_of setup past) (queue.first_takeable t (taker_in setup past) (passes_in setup past f) (queue.of_group group (untaken_at setup past))) ≡ option_map (told_input setup past) (to_take setup past t.0 f)
take_told setup past t group f members homes =
    ap (λ l. option_map (told_of setup past) (queue.first_takeable t (taker_in setup past) (passes_in setup past f) l)) (of_group-kept past t.0 group (untaken setup past) members (all_weaker (IsAtHome setup) (λ x. x.home < 16) (λ x h. h.low) (untaken setup past) homes))
    ∙ first_told (ℕ × Msg) (IsAtHome setup) t (taker_in setup past) (passes_in setup past f) (told_of setup past) (taker setup past) (passes_input setup past f) (told_input setup past)
    (λ x h. taker_is setup past x h) (λ x h. passes_is setup past x h f) (λ x h. told_is setup past x h)
    (untaken_of setup past t.0) (all_filter (IsAtHome setup) (λ x. is_in_group past t.0 x.home) (untaken setup past) homes)

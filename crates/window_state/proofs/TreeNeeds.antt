-- What the change of an entry needs of the table of windows holds where the entry is the reply.
use Rattle.std.proofs.Common.{◌≡◌, ℕ, ◌<◌, ◌≤◌, Bool, true, false, not, eqb, refl, ap, ◌∙◌, sym, subst, arith, inl, inr}
use Rattle.std.specs.Prelude.{◌&&◌, ◌||◌, ℤ, pos, negsuc, ◌-ℤ◌, ◌≤ℤ◌, int_lt, bit_and, is_some, IsTrue}
use Rattle.std.proofs.lemmas.Bool.{true≢false, or_parts, or_from, or_cases, eqb-true, not-false}
use Rattle.std.proofs.lemmas.Nat.{and_le_r}
use Rattle.std.proofs.lemmas.Int.{ints}
use Rattle.win_num.specs.PixelSets.{is_bad_rect, is_far}
use Rattle.win_num.specs.declared.names.TheConstants.{WS_CHILD, WS_EX_TOPMOST, WS_POPUP}
use Rattle.win_num.specs.declared.message.Hwnd.{Hwnd}
use Rattle.win_num.specs.declared.message.Thread.{Thread}
use Rattle.win_rows.specs.Windows.{Windows}
use Rattle.win_rows.specs.Windows as kept
use Rattle.user_model.specs.declared.call.Call.{Call}
use Rattle.user_model.specs.declared.call.Call.TheVariants as calls
use Rattle.user_model.specs.declared.entry.Answer.{Answer}
use Rattle.user_model.specs.declared.entry.Answer.TheVariants as answers
use Rattle.user_model.specs.declared.entry.Setup.{Setup}
use Rattle.user_model.specs.Past.{Past}
use Rattle.user_model.specs.Windows.{has_flag, is_live}
use Rattle.user_model.specs.Destruction.{is_marked}
use Rattle.user_model.specs.Refusals.{is_no_rect, is_outside, has_beyond}
use Rattle.user_model.specs.ReplyWindows.{known_styles}
use Rattle.user_model.specs.Idle.{reply}
use Rattle.user_model.specs.Legal.{IsLawful}
use Rattle.user_model.proofs.WindowReplies.{new_window_told}
use Rattle.user_model.proofs.StepReplies.{is_step, step_told}
use Rattle.window_state.specs.Trees.{IsTreeAt}
use Rattle.window_state.specs.Needs.{FitsMaking, FitsUnmaking}
use Rattle.window_state.proofs.TreeFacts.{is_live_at}
use Rattle.window_state.proofs.NewWindows.{new_not_refused}

pub at_most : (a b : ℤ) → int_lt b a ≡ false → a ≤ℤ b
at_most a b h = grind (arith, ints)

pub not_over : (a b : ℤ) → a ≤ℤ b → int_lt b a ≡ false
not_over a b h = grind (arith, ints)

none_of : (a b c d e f : Bool) → a ≡ false → b ≡ false → c ≡ false → d ≡ false → e ≡ false → f ≡ false → (a || b || c || d || e || f) ≡ false
none_of true b c d e f ha hb hc hd he hf = absurd (true≢false ha)
none_of false true c d e f ha hb hc hd he hf = absurd (true≢false hb)
none_of false false true d e f ha hb hc hd he hf = absurd (true≢false hc)
none_of false false false true e f ha hb hc hd he hf = absurd (true≢false hd)
none_of false false false false true f ha hb hc hd he hf = absurd (true≢false he)
none_of false false false false false f ha hb hc hd he hf = hf

-- an edge within 4,096 pixels
pub inside : (z : ℤ) → is_outside z ≡ false → (negsuc 4095 ≤ℤ z) × (z ≤ℤ pos 4096)
inside z h = let both = or_parts (int_lt z (negsuc 4095)) (int_lt (pos 4096) z) h in (at_most (negsuc 4095) z both.0, at_most z (pos 4096) both.1)

not_far : (z : ℤ) → negsuc 8388607 ≤ℤ z → z ≤ℤ pos 8388608 → is_far z ≡ false
not_far z low high = or_from (int_lt z (negsuc 8388607)) (int_lt (pos 8388608) z) (not_over (negsuc 8388607) z low) (not_over z (pos 8388608) high)

true_is : (b : Bool) → b ≡ true → IsTrue b
true_is b h = h

-- edges of a window
pub near_edges : (l t r b : ℤ) → is_no_rect l t r b ≡ false → is_bad_rect l t r b ≡ false
near_edges l t r b h =
    let a = or_parts (is_outside l) _ h in
    let c = or_parts (is_outside t) _ a.1 in
    let d = or_parts (int_lt r l) _ c.1 in
    let e = or_parts (int_lt b t) _ d.1 in
    let f = or_parts (int_lt (pos 4096) (r -ℤ l)) (int_lt (pos 4096) (b -ℤ t)) e.1 in
    let left = inside l a.0 in
    let top = inside t c.0 in
    let across = at_most l r d.0 in
    let down = at_most t b e.0 in
    let wide = at_most (r -ℤ l) (pos 4096) f.0 in
    let high = at_most (b -ℤ t) (pos 4096) f.1 in
    none_of (int_lt r l) (int_lt b t) (is_far l) (is_far t) (is_far r) (is_far b) d.0 e.0
    (not_far l (omega (arith, ints)) (omega (arith, ints)))
    (not_far t (omega (arith, ints)) (omega (arith, ints)))
    (not_far r (omega (arith, ints)) (omega (arith, ints)))
    (not_far b (omega (arith, ints)) (omega (arith, ints)))

-- the styles of a window fit in 32 bits
small_style : (style : ℕ) → has_beyond style known_styles ≡ false → style < 4294967296
small_style style h =
    let same : bit_and style known_styles ≡ style = eqb-true (bit_and style known_styles) style (not-false (eqb (bit_and style known_styles) style) h) in
    let less : bit_and style known_styles ≤ known_styles = and_le_r style known_styles in
    omega (arith, same, less)

-- so do the extended ones
small_ex : (beyond child popup zero topmost : Bool) → (beyond || (child && popup || (not (zero || topmost) || topmost && child))) ≡ false → (beyond ≡ false) × ((zero || topmost) ≡ true)
small_ex true child popup zero topmost h = absurd (true≢false h)
small_ex false true true zero topmost h = absurd (true≢false h)
small_ex false true false true topmost h = (refl, refl)
small_ex false true false false true h = (refl, refl)
small_ex false true false false false h = absurd (true≢false h)
small_ex false false popup true topmost h = (refl, refl)
small_ex false false popup false true h = (refl, refl)
small_ex false false popup false false h = absurd (true≢false h)

ex_fits : (ex : ℕ) → (eqb ex 0 || eqb ex WS_EX_TOPMOST) ≡ true → ex < 4294967296
ex_fits ex h = elim (or_cases (eqb ex 0) (eqb ex WS_EX_TOPMOST) h) [
  | inl z ↦ (let e = eqb-true ex 0 z in omega (arith, e))
  | inr t ↦ (let e = eqb-true ex WS_EX_TOPMOST t in omega (arith, e))
]

live_or_none : (zero live unmarked : Bool) → not (zero || live && unmarked) ≡ false → (zero || live) ≡ true
live_or_none true live unmarked h = refl
live_or_none false true unmarked h = refl
live_or_none false false unmarked h = absurd (true≢false h)

-- the window of a call that was answered by a window can be made
pub fits_making : (setup : Setup) (past : Past) (t : Windows) (who : Thread) (w : Hwnd) (call : Call) → IsLawful setup past → IsTreeAt past t → reply setup past who.0 call ≡ answers.Window w → FitsMaking who.0 call t
fits_making setup past t who w (calls.NewWindow name title parent style ex l top r b) lawful at right =
    let new = new_window_told setup past who.0 name title parent style ex l top r b w right in
    let styles = small_ex (has_beyond style known_styles) (has_flag style WS_CHILD) (has_flag style WS_POPUP) (eqb ex 0) (eqb ex WS_EX_TOPMOST) new.good_style in (
      near_edges l top r b new.good_edges,
      true_is ((eqb parent 0) || kept.is_live t.live parent) (ap (λ c. eqb parent 0 || c) (sym (is_live_at past t at parent)) ∙ live_or_none (eqb parent 0) (is_live past parent) (not (is_marked past parent)) new.good_parent),
      small_style style styles.0,
      ex_fits ex styles.1,
      λ row is. new_not_refused setup past t who name title parent style ex l top r b w row lawful at right is,
    )
fits_making setup past t who w _ lawful at right = tt

-- the window of a step that was given is live
pub fits_unmaking : (setup : Setup) (past : Past) (t : Windows) (who : Thread) (a : Answer) (call : Call) → IsTreeAt past t → reply setup past who.0 call ≡ a → is_step a ≡ true → FitsUnmaking t call
fits_unmaking setup past t who a call at right step =
    let by = step_told setup past who.0 call a right step in
    subst (λ (c : Call). FitsUnmaking t c) (sym by.1) (sym (is_live_at past t at by.0) ∙ ap is_some by.2.is_window)

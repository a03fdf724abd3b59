-- How a window looks at a past with one entry more.
use Rattle.std.proofs.Common.{◌≡◌, ℕ, Bool, true, false, cond, eqb, ◌∷◌, refl, ap, ◌∙◌, sym, subst}
use Rattle.std.specs.Prelude.{ℤ}
use Rattle.std.proofs.lemmas.Nat.{and_assoc, and_or_apart}
use Rattle.std.proofs.lemmas.Bool.{true≢false}
use Rattle.win_num.specs.PixelSets.{box}
use Rattle.win_num.specs.declared.message.Hwnd.{Hwnd}
use Rattle.win_num.specs.declared.names.TheConstants.{WS_DISABLED, WS_VISIBLE}
use Rattle.win_num.specs.declared.message.Thread.{Thread}
use Rattle.user_model.specs.declared.call.Call.{Call}
use Rattle.user_model.specs.declared.call.Call.TheVariants as calls
use Rattle.user_model.specs.declared.entry.Answer.{Answer}
use Rattle.user_model.specs.declared.entry.Answer.TheVariants as answers
use Rattle.user_model.specs.declared.entry.Entry.{Entry}
use Rattle.user_model.specs.Past.{Past, is_refused}
use Rattle.user_model.specs.Deeds.{deed}
use Rattle.user_model.specs.Windows.{has_flag}
use Rattle.user_model.specs.Looks.{Look, look, look_of, made_look, set_look, placed, shown_look, enabled, enabled_look, enabled_styles, relooked}
use Rattle.user_model.specs.Machines.{entry_of}
use Rattle.user_model.proofs.PastLaws.{either_way, first_way, other_way}

-- a refused entry leaves how a window looks
pub look-refused : (e : Entry) (past : Past) (w : ℕ) → is_refused e ≡ true → look (e ∷ past) w ≡ look past w
look-refused e past w h = first_way (is_refused e) (look past w) (relooked w e.answer (deed e.call) (look past w)) h

-- any other makes of it what its call does
pub look-next : (e : Entry) (past : Past) (w : ℕ) → is_refused e ≡ false → look (e ∷ past) w ≡ relooked w e.answer (deed e.call) (look past w)
look-next e past w h = other_way (is_refused e) (look past w) (relooked w e.answer (deed e.call) (look past w)) h

-- whether an answered call may change how a window looks
abbrev pub changes_look : Call → Answer → Bool
changes_look (calls.NewWindow name title parent style ex l t r b) (answers.Window w) = true
changes_look (calls.Place w after l t r b flags) (answers.Value v) = true
changes_look (calls.Show w on) (answers.Value v) = true
changes_look (calls.Enable w on) (answers.Value v) = true
changes_look _ _ = false

made_none : (w : ℕ) (call : Call) (a : Answer) (new old : Look) → changes_look call a ≡ false → ((v : Hwnd) → changes_look call (answers.Window v) ≡ true) → made_look w a new old ≡ old
made_none w call (answers.Window v) new old h k = absurd (true≢false (sym (k v) ∙ h))
made_none w call _ new old h k = refl

set_none : (v w : ℕ) (call : Call) (a : Answer) (new old : Look) → changes_look call a ≡ false → ((n : ℕ) → changes_look call (answers.Value n) ≡ true) → set_look v w a new old ≡ old
set_none v w call (answers.Value n) new old h k = absurd (true≢false (sym (k n) ∙ h))
set_none v w call _ new old h k = refl

-- a call that doesn't change how windows look
pub keeps_look : (w : ℕ) (call : Call) (a : Answer) (old : Look) → changes_look call a ≡ false → relooked w a (deed call) old ≡ old
keeps_look w (calls.NewWindow name title parent style ex l t r b) a old h = made_none w (calls.NewWindow name title parent style ex l t r b) a (look_of style ex (box l t r b)) old h (λ v. refl)
keeps_look w (calls.Place v after l t r b flags) a old h = set_none v w (calls.Place v after l t r b flags) a (placed flags after (box l t r b) old) old h (λ n. refl)
keeps_look w (calls.Show v on) a old h = set_none v w (calls.Show v on) a (shown_look (eqb on 1) old) old h (λ n. refl)
keeps_look w (calls.Enable v on) a old h = set_none v w (calls.Enable v on) a (enabled_look (eqb on 1) old) old h (λ n. refl)
keeps_look w _ a old h = refl

-- an entry of such a call leaves how a window looks
pub look-same : (e : Entry) (past : Past) (w : ℕ) → changes_look e.call e.answer ≡ false → look (e ∷ past) w ≡ look past w
look-same e past w h = either_way (is_refused e) (look past w) (relooked w e.answer (deed e.call) (look past w)) (keeps_look w e.call e.answer (look past w) h)

-- a look that is another in WS_DISABLED at most: shown where the old one is, and at the same place
pub record SameShape (new old : Look) : Type 0 where
  pub shown : has_flag new.style WS_VISIBLE ≡ has_flag old.style WS_VISIBLE
  pub place : new.place ≡ old.place

pub same_shape : (new old : Look) → new ≡ old → SameShape new old
same_shape new old e = record { shown = ap (λ (l : Look). has_flag l.style WS_VISIBLE) e; place = ap (λ (l : Look). l.place) e }

-- a window that is enabled or disabled is shown where it was
enabled_shown : (on : Bool) (style : ℕ) → has_flag (enabled on style) WS_VISIBLE ≡ has_flag style WS_VISIBLE
enabled_shown true style = ap (λ k. eqb k WS_VISIBLE) (and_assoc WS_VISIBLE style enabled_styles)
enabled_shown false style = ap (λ k. eqb k WS_VISIBLE) (and_or_apart WS_VISIBLE style WS_DISABLED refl)

-- whether an answered call may change where a window is shown
abbrev pub changes_shape : Call → Answer → Bool
changes_shape (calls.NewWindow name title parent style ex l t r b) (answers.Window w) = true
changes_shape (calls.Place w after l t r b flags) (answers.Value v) = true
changes_shape (calls.Show w on) (answers.Value v) = true
changes_shape _ _ = false

kept_shape : (w : ℕ) (call : Call) (a : Answer) (old : Look) → relooked w a (deed call) old ≡ old → SameShape (relooked w a (deed call) old) old
kept_shape w call a old e = same_shape (relooked w a (deed call) old) old e

-- a call that doesn't
keeps_shape : (w : ℕ) (call : Call) (a : Answer) (old : Look) → changes_shape call a ≡ false → SameShape (relooked w a (deed call) old) old
keeps_shape w (calls.Enable v on) (answers.Value n) old h = by (eqb v w)
  where
    by : (b : Bool) → SameShape (cond b (enabled_look (eqb on 1) old) old) old
    by true = record { shown = enabled_shown (eqb on 1) old.style; place = refl }
    by false = record { shown = refl; place = refl }
keeps_shape w (calls.Enable v on) a old h = kept_shape w (calls.Enable v on) a old (keeps_look w (calls.Enable v on) a old h)
keeps_shape w (calls.NewWindow name title parent style ex l t r b) a old h = kept_shape w (calls.NewWindow name title parent style ex l t r b) a old (keeps_look w (calls.NewWindow name title parent style ex l t r b) a old h)
keeps_shape w (calls.Place v after l t r b flags) a old h = kept_shape w (calls.Place v after l t r b flags) a old (keeps_look w (calls.Place v after l t r b flags) a old h)
keeps_shape w (calls.Show v on) a old h = kept_shape w (calls.Show v on) a old (keeps_look w (calls.Show v on) a old h)
keeps_shape w call a old h = kept_shape w call a old refl

-- an entry of such a call leaves where each window is shown
pub shape-same : (e : Entry) (past : Past) (w : ℕ) → changes_shape e.call e.answer ≡ false → SameShape (look (e ∷ past) w) (look past w)
shape-same e past w h = by (is_refused e) refl
  where
    by : (b : Bool) → is_refused e ≡ b → SameShape (look (e ∷ past) w) (look past w)
    by true refused = same_shape (look (e ∷ past) w) (look past w) (look-refused e past w refused)
    by false fine = subst (λ (l : Look). SameShape l (look past w)) (sym (look-next e past w fine)) (keeps_shape w e.call e.answer (look past w) h)

-- the entry of a new window leaves how another one looks
pub look-other : (past : Past) (who : Thread) (name title parent style ex : ℕ) (l t r b : ℤ) (v : Hwnd) (w : ℕ) → eqb v.0 w ≡ false → look (entry_of who (calls.NewWindow name title parent style ex l t r b) (answers.Window v) ∷ past) w ≡ look past w
look-other past who name title parent style ex l t r b v w other = ap (λ c. cond c (look_of style ex (box l t r b)) (look past w)) other

-- a new window looks as its call says
pub look-new : (past : Past) (who : Thread) (name title parent style ex : ℕ) (l t r b : ℤ) (v : Hwnd) (w : ℕ) → eqb v.0 w ≡ true → look (entry_of who (calls.NewWindow name title parent style ex l t r b) (answers.Window v) ∷ past) w ≡ look_of style ex (box l t r b)
look-new past who name title parent style ex l t r b v w own = ap (λ c. cond c (look_of style ex (box l t r b)) (look past w)) own

-- How a live window looks is what the last entry has made of it that makes, places, shows or enables it.
use Rattle.std.proofs.Common.{◌≡◌, inl, inr, ℕ, eqb, Bool, true, false, cond, List, [], ◌∷◌, ◌++◌, Option, Some, None, refl, sym, ap, ◌∙◌, subst, eq-eqb}
use Rattle.std.specs.Prelude.{unwrap_or, is_some}
use Rattle.std.proofs.lemmas.Bool.{false≢true}
use Rattle.win_num.specs.PixelSets.{box}
use Rattle.user_model.specs.declared.call.Call.{Call}
use Rattle.user_model.specs.declared.call.Call.TheVariants.{NewWindow}
use Rattle.user_model.specs.declared.entry.Answer.{Answer}
use Rattle.user_model.specs.declared.entry.Answer.TheVariants as answers
use Rattle.user_model.specs.declared.entry.Entry.{Entry}
use Rattle.user_model.specs.Past.{Past, is_refused, last_of}
use Rattle.user_model.specs.Deeds.{Deed, making, placing, showing, enabling, deed}
use Rattle.user_model.specs.Windows.{Window, live, made_by}
use Rattle.user_model.specs.Looks.{Look, look, look_of, no_look, placed, relooked, shown_look, enabled_look}
use Rattle.user_laws.specs.Words.{Moment, IsIn, SaysNothing, IsLastSaid}
use Rattle.user_laws.specs.Looks.{touches, gives_look}
use Rattle.user_laws.proofs.WordLaws.{last_said, last_none}
use Rattle.user_laws.proofs.Standing.{windows_exactly}

kept : (b : Bool) (new old : Look) → b ≡ false → cond b new old ≡ old
kept b new old h = ap (λ c. cond c new old) h

-- what touches nothing of w leaves its look
untouched : (w : ℕ) (a : Answer) (d : Deed) (old : Look) → touches w a d ≡ false → relooked w a d old ≡ old
untouched w (answers.Window v) (making class title parent style ex l t r b) old h = kept (eqb v.0 w) (look_of style ex (box l t r b)) old h
untouched w (answers.Value n) (placing v after l t r b flags) old h = kept (eqb v w) (placed flags after (box l t r b) old) old h
untouched w (answers.Value n) (showing v on) old h = kept (eqb v w) (shown_look (eqb on 1) old) old h
untouched w (answers.Value n) (enabling v on) old h = kept (eqb v w) (enabled_look (eqb on 1) old) old h
untouched w _ (making class title parent style ex l t r b) old h = refl
untouched w _ (placing v after l t r b flags) old h = refl
untouched w _ (showing v on) old h = refl
untouched w _ (enabling v on) old h = refl
untouched w _ _ old h = refl

-- how w looks is what was given last
given_last : (past : Past) (w : ℕ) → look past w ≡ unwrap_or (last_of (gives_look w) past) no_look
given_last [] w = refl
given_last (e ∷ past) w = pick (given_last past w) (is_refused e) (touches w e.answer (deed e.call)) refl
  where
    pick : look past w ≡ unwrap_or (last_of (gives_look w) past) no_look → (refused touched : Bool) → touches w e.answer (deed e.call) ≡ touched
        → elim refused as (λ _. Look) [ true ↦ look past w | false ↦ relooked w e.answer (deed e.call) (look past w) ]
        ≡ unwrap_or (elim refused as (λ _. Option Look) [ true ↦ last_of (gives_look w) past | false ↦ elim (gives_look w e past) as (λ _. Option Look) [ Some a ↦ Some a | None ↦ last_of (gives_look w) past ] ]) no_look
    pick before true touched h = before
    pick before false true h = sym (ap (λ c. unwrap_or (elim (cond c (Some (relooked w e.answer (deed e.call) (look past w))) None) as (λ _. Option Look) [ Some a ↦ Some a | None ↦ last_of (gives_look w) past ]) no_look) h)
    pick before false false h =
        untouched w e.answer (deed e.call) (look past w) h
        ∙ (before
        ∙ sym (ap (λ c. unwrap_or (elim (cond c (Some (relooked w e.answer (deed e.call) (look past w))) None) as (λ _. Option Look) [ Some a ↦ Some a | None ↦ last_of (gives_look w) past ]) no_look) h))

-- an entry that makes a window gives it a look
makes_look : (ws : List Window) (e : Entry) (before : Past) (x : Window) → IsIn x (made_by e.who.0 e.answer e.call ws) → is_some (gives_look x.number e before) ≡ true
makes_look ws e before x is = by e.who.0 e.answer e.call is
  where
    by : (who : ℕ) (a : Answer) (call : Call) → IsIn x (made_by who a call ws) → is_some (cond (touches x.number a (deed call)) (Some (relooked x.number a (deed call) (look before x.number))) None) ≡ true
    by who (answers.Window w) (NewWindow class title parent style ex l t r b) (inl same) =
        ap (λ c. is_some (cond c (Some (relooked x.number (answers.Window w) (making class title parent style ex l t r b) (look before x.number))) None)) (eq-eqb w.0 x.number (sym (ap (λ (y : Window). y.number) same)))
    by who (answers.Window w) (NewWindow class title parent style ex l t r b) (inr none) = absurd none
    by who _ _ is = absurd is

says_at : {A : Type 0} (says : Entry → Past → Option A) (later before : Past) (e : Entry) → is_refused e ≡ false → is_some (says e before) ≡ true → SaysNothing says (later ++ e ∷ before) → ⊥
says_at says [] before e right some none = false≢true (sym (ap is_some (none.0 right)) ∙ some)
says_at says (x ∷ later) before e right some none = says_at says later before e right some none.1

-- what is said at some moment is said last at some moment
said_last : {A : Type 0} (says : Entry → Past → Option A) (past : Past) (d : A) (m : Moment past) → is_some (says m.entry m.before) ≡ true → IsLastSaid says past (unwrap_or (last_of says past) d)
said_last {A = A} says past d m some = by (last_of says past) refl
  where
    by : (o : Option A) → last_of says past ≡ o → IsLastSaid says past (unwrap_or o d)
    by (Some a) e = (last_said says past a).0 e
    by None e = absurd (says_at says m.later m.before m.entry m.unrefused some (subst (SaysNothing says) m.splits ((last_none says past).0 e)))

pub look_said : (past : Past) (x : Window) → IsIn x (live past) → IsLastSaid (gives_look x.number) past (look past x.number)
look_said past x is =
    let made = (windows_exactly past x).0 is in
    subst (IsLastSaid (gives_look x.number) past) (sym (given_last past x.number)) (said_last (gives_look x.number) past no_look made.at (makes_look (live made.at.before) made.at.entry made.at.before x made.added))

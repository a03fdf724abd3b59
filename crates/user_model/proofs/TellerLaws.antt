-- A machine of which nobody else makes calls, as a teller.
use Rattle.std.proofs.Common.{◌≡◌, ℕ, Bool, true, false, cond, eqb, [], ◌∷◌, ◌++◌, refl, ap, ◌∙◌, sym, subst, inl, inr, eq-eqb}
use Rattle.std.proofs.lemmas.Bool.{ne_eqb}
use Rattle.std.proofs.lemmas.Bool.Decides.{eqb_tells}
use Rattle.std.proofs.lemmas.List.{append-nil, append_cancel_right}
use Rattle.std.proofs.lemmas.List.Elements.{filter-append}
use Rattle.win_num.specs.declared.message.Thread.{Thread}
use Rattle.user_model.specs.declared.call.Call.{Call}
use Rattle.user_model.specs.declared.entry.Answer.{Answer}
use Rattle.user_model.specs.declared.entry.Setup.{Setup}
use Rattle.user_model.specs.declared.entry.Entry.{Entry}
use Rattle.user_model.specs.declared.teller.Told.TheVariants.{Answered, Barred}
use Rattle.user_model.specs.Past.{Past, is_full}
use Rattle.user_model.specs.Places.{mine as entries_of}
use Rattle.user_model.specs.Idle.{reply, is_barred}
use Rattle.user_model.specs.Legal.{IsLawful}
use Rattle.user_model.specs.Machines.{entry_of, entry_by, after}
use Rattle.user_model.specs.Tellers.{alone_view, AloneGoesOn, CameTo, HasMade, HasFoundFull, IsStepOrBar, TellsAll, StandsStill}

-- nothing has happened
pub stays : (setup setup_now : Setup) (past now : Past) (who : Thread) → setup_now ≡ setup → now ≡ past → AloneGoesOn setup setup_now past now who
stays setup setup_now past now who same is = record {
  setup = same;
  opening = refl;
  others = λ t other served. ap (λ h. entries_of h t) is;
  remembers = λ t served. record {
    seen = ([], is);
    looks = refl;
    faithful = λ _. refl;
    lawful = λ h. subst (λ s. IsLawful s (now ++ [])) (sym same) (subst (λ h. IsLawful setup (h ++ [])) (sym is) h);
  };
}

-- one entry more, whose answer is the reply
one_more : (setup setup_now : Setup) (past now : Past) (who : Thread) (call : Call) → setup_now ≡ setup → now ≡ entry_by setup past who call ∷ past → AloneGoesOn setup setup_now past now who
one_more setup setup_now past now who call same is = record {
  setup = same;
  opening = refl;
  others = λ t other served. ap (λ h. entries_of h t) is ∙ ap (λ b. cond b (entry_by setup past who call ∷ entries_of past t) (entries_of past t)) (ne_eqb who.0 t (λ e. other (sym e)));
  remembers = λ t served. record {
    seen = (entry_by setup past who call ∷ [], is);
    looks = refl;
    faithful = λ _. refl;
    lawful = λ h.
        let before = append-nil past in
        subst (λ s. IsLawful s (now ++ [])) (sym same) (subst (λ h. IsLawful setup (h ++ [])) (sym is) (h, ap (λ h. reply setup h who.0 call) (sym before)));
  };
}

step_goes_on : (setup setup_now : Setup) (past now : Past) (who : Thread) (call : Call) (b : Bool) → is_full past ≡ b → setup_now ≡ setup → now ≡ cond b past (entry_by setup past who call ∷ past) → AloneGoesOn setup setup_now past now who
step_goes_on setup setup_now past now who call true full same is = stays setup setup_now past now who same is
step_goes_on setup setup_now past now who call false full same is = one_more setup setup_now past now who call same is

-- a step
pub steps : (setup setup_now : Setup) (past now : Past) (who : Thread) (call : Call) → setup_now ≡ setup → now ≡ after setup past who call → AloneGoesOn setup setup_now past now who
steps setup setup_now past now who call same is = step_goes_on setup setup_now past now who call (is_full past) refl same is

answered_by : (setup setup_now : Setup) (past now : Past) (who : Thread) (call : Call) (answer : Answer) (b : Bool) → is_full past ≡ b → is_barred setup past who.0 ≡ false → answer ≡ reply setup past who.0 call → now ≡ cond b past (entry_by setup past who call ∷ past) → CameTo (alone_view setup past) (alone_view setup_now now) who call (Answered answer)
answered_by setup setup_now past now who call answer true full free right is =
    let whole : now ++ [] ≡ past = append-nil now ∙ is in
    inr (record {
      full = ap is_full whole ∙ full;
      free = ap (λ h. is_barred setup h who.0) whole ∙ free;
      is_reply = right ∙ ap (λ h. reply setup h who.0 call) (sym whole);
      mine = ap (λ h. entries_of h who.0) is;
    })
answered_by setup setup_now past now who call answer false full free right is =
    let whole : past ++ [] ≡ past = append-nil past in
    let newest : now ≡ entry_of who call answer ∷ past = is ∙ ap (λ a. entry_of who call a ∷ past) (sym right) in
    inl (record {
      since = past;
      before = ([], refl);
      room = ap is_full whole ∙ full;
      free = ap (λ h. is_barred setup h who.0) whole ∙ free;
      is_reply = right ∙ ap (λ h. reply setup h who.0 call) (sym whole);
      seen = newest;
      mine = ap (λ h. entries_of h who.0) newest ∙ ap (λ b. cond b (entry_of who call answer ∷ entries_of past who.0) (entries_of past who.0)) (eq-eqb who.0 who.0 refl);
    })

-- a step of an actor that isn't barred
pub answered : (setup setup_now : Setup) (past now : Past) (who : Thread) (call : Call) (answer : Answer) → is_barred setup past who.0 ≡ false → answer ≡ reply setup past who.0 call → now ≡ after setup past who call → CameTo (alone_view setup past) (alone_view setup_now now) who call (Answered answer)
answered setup setup_now past now who call answer free right is = answered_by setup setup_now past now who call answer (is_full past) refl free right is

-- no step of one that is barred
pub barred : (setup : Setup) (past : Past) (who : Thread) (call : Call) → is_barred setup past who.0 ≡ true → CameTo (alone_view setup past) (alone_view setup past) who call Barred
barred setup past who call bars = record { barred = ap (λ h. is_barred setup h who.0) (append-nil past) ∙ bars; mine = refl }

-- entries of which none is any actor's are none
nobody : (newer : Past) → ((t : ℕ) → entries_of newer t ≡ []) → newer ≡ []
nobody [] h = refl
nobody (e ∷ newer) h =
    let own : entries_of (e ∷ newer) e.who.0 ≡ e ∷ entries_of newer e.who.0 = ap (λ b. cond b (e ∷ entries_of newer e.who.0) (entries_of newer e.who.0)) (eq-eqb e.who.0 e.who.0 refl) in
    let none : e ∷ entries_of newer e.who.0 ≡ [] = sym own ∙ h e.who.0 in
    absurd cc

-- newer entries of which none is the actor's
none_newer : (newer past : Past) (t : ℕ) → entries_of (newer ++ past) t ≡ entries_of past t → entries_of newer t ≡ []
none_newer newer past t h = append_cancel_right (entries_of newer t) [] (entries_of past t) (sym (filter-append (λ e. eqb e.who.0 t) newer past) ∙ h)

-- nothing was put between where nobody has one entry more
nothing_newer : (newer past : Past) → ((t : ℕ) → entries_of (newer ++ past) t ≡ entries_of past t) → newer ++ past ≡ past
nothing_newer newer past h = ap (λ xs. xs ++ past) (nobody newer (λ t. none_newer newer past t (h t)))

pub stands_still : StandsStill
stands_still setup setup_now past now who goes own =
    let newer = (goes.remembers 0 tt).seen.0 in
    let is : now ≡ newer ++ past = (goes.remembers 0 tt).seen.1 in
    let each : (t : ℕ) → entries_of now t ≡ entries_of past t = λ t. elim (eqb_tells t who.0) [
      | inl x ↦ subst (λ k. entries_of now k ≡ entries_of past k) (sym x.1) own
      | inr x ↦ goes.others t x.1 tt
    ] in
    is ∙ nothing_newer newer past (λ t. ap (λ h. entries_of h t) (sym is) ∙ each t)

-- where only the actor has one entry more, it is all that happened
one_newer : (setup setup_now : Setup) (past now since newer : Past) (e : Entry) (who : Thread) → AloneGoesOn setup setup_now past now who → since ≡ newer ++ past → now ≡ e ∷ since → e.who.0 ≡ who.0 → entries_of now who.0 ≡ e ∷ entries_of past who.0 → since ≡ past
one_newer setup setup_now past now since newer e who goes grown is by own =
    let mine : e ∷ entries_of since who.0 ≡ e ∷ entries_of past who.0 = ap (λ b. cond b (e ∷ entries_of since who.0) (entries_of since who.0)) (sym (eq-eqb e.who.0 who.0 by)) ∙ ap (λ h. entries_of h who.0) (sym is) ∙ own in
    let tails : entries_of since who.0 ≡ entries_of past who.0 = cc in
    let each : (t : ℕ) → entries_of since t ≡ entries_of past t = λ t. elim (eqb_tells t who.0) [
      | inl x ↦ subst (λ k. entries_of since k ≡ entries_of past k) (sym x.1) tails
      | inr x ↦ ap (λ b. cond b (e ∷ entries_of since t) (entries_of since t)) (sym (ne_eqb e.who.0 t (λ s. x.1 (sym s ∙ by)))) ∙ ap (λ h. entries_of h t) (sym is) ∙ goes.others t x.1 tt
    ] in
    grown ∙ nothing_newer newer past (λ t. ap (λ h. entries_of h t) (sym grown) ∙ each t)

tells_made : (setup setup_now : Setup) (past now : Past) (who : Thread) (call : Call) (answer : Answer) → AloneGoesOn setup setup_now past now who → HasMade (alone_view setup past) (alone_view setup_now now) who call answer → IsStepOrBar setup past now who call (Answered answer)
tells_made setup setup_now past now who call answer goes h =
    let all : h.since ≡ past = one_newer setup setup_now past now h.since h.before.0 (entry_of who call answer) who goes h.before.1 h.seen refl h.mine in
    let whole : h.since ++ [] ≡ past = append-nil h.since ∙ all in
    let right : answer ≡ reply setup past who.0 call = h.is_reply ∙ ap (λ p. reply setup p who.0 call) whole in
    let room : is_full past ≡ false = ap is_full (sym whole) ∙ h.room in
    let e = entry_by setup past who call in
    (ap (λ p. is_barred setup p who.0) (sym whole) ∙ h.free, right, h.seen ∙ ap (λ a. entry_of who call a ∷ h.since) right ∙ ap (λ p. e ∷ p) all ∙ ap (λ b. cond b past (e ∷ past)) (sym room))

tells_full : (setup setup_now : Setup) (past now : Past) (who : Thread) (call : Call) (answer : Answer) → AloneGoesOn setup setup_now past now who → HasFoundFull (alone_view setup past) (alone_view setup_now now) who call answer → IsStepOrBar setup past now who call (Answered answer)
tells_full setup setup_now past now who call answer goes h =
    let still : now ≡ past = stands_still setup setup_now past now who goes h.mine in
    let whole : now ++ [] ≡ past = append-nil now ∙ still in
    let full : is_full past ≡ true = ap is_full (sym whole) ∙ h.full in
    (ap (λ p. is_barred setup p who.0) (sym whole) ∙ h.free, h.is_reply ∙ ap (λ p. reply setup p who.0 call) whole, still ∙ ap (λ b. cond b past (entry_by setup past who call ∷ past)) (sym full))

pub tells_all : TellsAll
tells_all setup setup_now past now who call (Answered answer) goes (inl h) = tells_made setup setup_now past now who call answer goes h
tells_all setup setup_now past now who call (Answered answer) goes (inr h) = tells_full setup setup_now past now who call answer goes h
tells_all setup setup_now past now who call Barred goes h =
    let still : now ≡ past = stands_still setup setup_now past now who goes h.mine in
    let whole : now ++ [] ≡ past = append-nil now ∙ still in
    (ap (λ p. is_barred setup p who.0) (sym whole) ∙ h.barred, still)

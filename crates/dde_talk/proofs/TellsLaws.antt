-- What a side tells, through each event.
use Rattle.std.proofs.Common.{◌≡◌, List, [], ◌∷◌, ◌++◌, drop, Bool, true, false, not, ◌&&◌, cond, Some, refl, sym, ap, ◌∙◌, append_assoc}
use Rattle.std.proofs.lemmas.Bool.{false≢true}
use Rattle.win_num.specs.declared.message.Hwnd.{Hwnd}
use Rattle.dde_talk.specs.declared.message.Message.{Message}
use Rattle.dde_talk.specs.declared.message.Message.TheVariants.{Terminate}
use Rattle.dde_talk.specs.declared.message.Post.{Post}
use Rattle.dde_talk.specs.Agrees.{AllFit, Tells, speech}
use Rattle.dde_talk.specs.Packing.{Fits, packed}
use Rattle.dde_talk.specs.Sides.{Talk, ended, first_of, hearing_end, posted, telling}

-- one message more, and one end
speech_more : (w : Hwnd) (ms : List Message) (m : Message) → speech w (ms ++ m ∷ []) false ≡ speech w ms false ++ packed w m ∷ []
speech_more w [] m = refl
speech_more w (x ∷ ms) m = ap (λ ps. packed w x ∷ ps) (speech_more w ms m)

speech_ends : (w : Hwnd) (ms : List Message) → speech w ms true ≡ speech w ms false ++ packed w Terminate ∷ []
speech_ends w [] = refl
speech_ends w (x ∷ ms) = ap (λ ps. packed w x ∷ ps) (speech_ends w ms)

fit_more : (ms : List Message) (m : Message) → AllFit ms → Fits m → AllFit (ms ++ m ∷ [])
fit_more [] m fits fit = (fit, tt)
fit_more (x ∷ ms) m fits fit = (fits.0, fit_more ms m fits.1 fit)

pub not_both : (b : Bool) → b ≡ true → b ≡ false → ⊥
not_both b t f = false≢true (sym f ∙ t)

pub by_bool : (b : Bool) → (P : Type 0) → (b ≡ true → P) → (b ≡ false → P) → P
by_bool true P t f = t refl
by_bool false P t f = f refl

-- what has not ended was not heard to
pub unheard : {from to : Talk} {link : List Post} {ms : List Message} → Tells from to link ms → from.ending ≡ false → to.heard ≡ false
unheard {from} {to} t live = by_bool to.heard (to.heard ≡ false) (λ h. absurd (not_both from.ending (t.ended h) live)) (λ h. h)

-- the side that tells, tells a message
pub tells_more : (from to : Talk) (link : List Post) (ms : List Message) (m : Message) → Tells from to link ms → from.ending ≡ false → Fits m → Tells (telling from m) to link (ms ++ m ∷ [])
tells_more from to link ms m t live fit = record {
  names = t.names;
  is =
      sym (append_assoc link from.out (packed from.own m ∷ [])) ∙ (ap (λ ps. ps ++ packed from.own m ∷ []) t.is ∙ (ap (λ b. speech from.own ms (b && not to.heard) ++ packed from.own m ∷ []) live ∙ (sym (speech_more from.own ms m) ∙ ap (λ b. speech from.own (ms ++ m ∷ []) (b && not to.heard)) (sym live))));
  fits = fit_more ms m t.fits fit;
  ended = t.ended;
  over = λ h. absurd (not_both from.ending (t.ended h) live);
}

-- it ends
pub tells_end : (from to : Talk) (link : List Post) (ms : List Message) → Tells from to link ms → Tells (ended from) to link ms
tells_end from to link ms t = by from.ending refl
  where
    by : (b : Bool) → from.ending ≡ b → Tells (cond b from (record from { out = from.out ++ packed from.own Terminate ∷ []; ending = true })) to link ms
    by true e = t
    by false e = record {
      names = t.names;
      is =
          sym (append_assoc link from.out (packed from.own Terminate ∷ [])) ∙ (ap (λ ps. ps ++ packed from.own Terminate ∷ []) t.is ∙ (ap (λ b. speech from.own ms (b && not to.heard) ++ packed from.own Terminate ∷ []) e ∙ (sym (speech_ends from.own ms) ∙ ap (λ b. speech from.own ms (not b)) (sym (unheard t e)))));
      fits = t.fits;
      ended = λ h. refl;
      over = t.over;
    }

-- it has taken the other's end, and ends
pub tells_end_too : (from to : Talk) (link : List Post) (ms : List Message) → Tells from to link ms → Tells (hearing_end from) to link ms
tells_end_too from to link ms t = let e = tells_end from to link ms t in record { names = e.names; is = e.is; fits = e.fits; ended = e.ended; over = e.over }

-- its oldest post goes to the end of its link
pub tells_on : (from to : Talk) (link : List Post) (ms : List Message) (p : Post) → Tells from to link ms → first_of from.out ≡ Some p → Tells (posted from) to (link ++ p ∷ []) ms
tells_on from to link ms p t first = record {
  names = t.names;
  is = append_assoc link (p ∷ []) (drop 1 from.out) ∙ (ap (λ ps. link ++ ps) (sym (split from.out first)) ∙ t.is);
  fits = t.fits;
  ended = t.ended;
  over = t.over;
}
  where
    split : (ps : List Post) → first_of ps ≡ Some p → ps ≡ p ∷ drop 1 ps
    split [] e = cc
    split (q ∷ ps) e = let same : q ≡ p = cc in ap (λ x. x ∷ ps) same

-- the other side changes in other things
pub tells_other : (from to then : Talk) (link : List Post) (ms : List Message) → Tells from to link ms → to.peer ≡ then.peer → to.heard ≡ then.heard → Tells from then link ms
tells_other from to then link ms t peer heard = record {
  names = t.names ∙ peer;
  is = t.is ∙ ap (λ b. speech from.own ms (from.ending && not b)) heard;
  fits = t.fits;
  ended = λ h. t.ended (heard ∙ h);
  over = λ h. t.over (heard ∙ h);
}

-- the other side takes a message
pub tells_taken : (from to : Talk) (link : List Post) (m : Message) (ms : List Message) (p : Post) → Tells from to (p ∷ link) (m ∷ ms) → (p ≡ packed from.own m) × (to.heard ≡ false) × Tells from to link ms
tells_taken from to link m ms p t = (
  first,
  quiet,
  record {
    names = t.names;
    is = rest;
    fits = t.fits.1;
    ended = t.ended;
    over = λ h. absurd (not_both to.heard h quiet);
  },
)
  where
    first : p ≡ packed from.own m
    first = cc (t.is)

    rest : link ++ from.out ≡ speech from.own ms (from.ending && not to.heard)
    rest = cc (t.is)

    quiet : to.heard ≡ false
    quiet = by_bool to.heard (to.heard ≡ false) (λ h. absurd (full (t.over h))) (λ h. h)
      where
        full : m ∷ ms ≡ [] → ⊥
        full e = cc

-- the other side takes its end
pub tells_ended : (from to : Talk) (link : List Post) (p : Post) → Tells from to (p ∷ link) [] → (p ≡ packed from.own Terminate) × (from.ending ≡ true) × (to.heard ≡ false) × (link ++ from.out ≡ [])
tells_ended from to link p t = by from.ending to.heard refl refl
  where
    by : (e h : Bool) → from.ending ≡ e → to.heard ≡ h → (p ≡ packed from.own Terminate) × (from.ending ≡ true) × (to.heard ≡ false) × (link ++ from.out ≡ [])
    by true false ending quiet =
        let is : p ∷ (link ++ from.out) ≡ packed from.own Terminate ∷ [] = t.is ∙ (ap (λ b. speech from.own [] (b && not to.heard)) ending ∙ ap (λ b. speech from.own [] (not b)) quiet) in
        (cc (is), ending, quiet, cc (is))
    by true true ending heard =
        let is : p ∷ (link ++ from.out) ≡ [] = t.is ∙ (ap (λ b. speech from.own [] (b && not to.heard)) ending ∙ ap (λ b. speech from.own [] (not b)) heard) in absurd (filled is)
      where
        filled : p ∷ (link ++ from.out) ≡ [] → ⊥
        filled e = cc
    by false h live heard =
        let is : p ∷ (link ++ from.out) ≡ [] = t.is ∙ ap (λ b. speech from.own [] (b && not to.heard)) live in absurd (filled is)
      where
        filled : p ∷ (link ++ from.out) ≡ [] → ⊥
        filled e = cc

pub tells_nothing : (from to then : Talk) (link : List Post) → from.own ≡ then.peer → from.ending ≡ true → then.heard ≡ true → link ++ from.out ≡ [] → Tells from then link []
tells_nothing from to then link names ending heard empty = record {
  names = names;
  is = empty ∙ sym (ap (λ b. speech from.own [] (b && not then.heard)) ending ∙ ap (λ b. speech from.own [] (not b)) heard);
  fits = tt;
  ended = λ h. ending;
  over = λ h. refl;
}

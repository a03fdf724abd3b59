-- Which windows are being painted, from the clips of their sessions.
use Rattle.std.proofs.Common.{◌≡◌, ℕ, zero, suc, ◌<◌, Bool, true, false, cond, not, eqb, List, [], ◌∷◌, length, get_or, filter, Option, Some, None, refl, ap, ◌∙◌, sym, subst, arith}
use Rattle.std.specs.Prelude.{◌&&◌, ◌||◌, option_map, is_some, is_ok, IfOk, IfErr, Ok, Err}
use Rattle.std.specs.declared.result.Result.{Result}
use Rattle.std.proofs.lemmas.Bool.{eqb-true, eqb-false}
use Rattle.win_num.specs.declared.message.Hwnd.{Hwnd}
use Rattle.win_num.specs.declared.shapes.Rect.{Rect}
use Rattle.paint_sessions.specs.declared.sessions.Session.{Session}
use Rattle.paint_sessions.specs.LookUps.{clip_in, is_among, is_begun, session_clip, session_of, RisesFrom}
use Rattle.paint_sessions.specs.Places.{IsAt, IsMissingAt, IsPut}
use Rattle.paint_sessions.proofs.Lists.{lower, number}
use Rattle.paint_sessions.proofs.Putting.{no_session, session_at}

-- a window has a session where it has a clip
pub begun_clip : (ss : List Session) (w : ℕ) → is_begun ss w ≡ is_some (clip_in ss w)
begun_clip [] w = refl
begun_clip (x ∷ xs) w = pick (eqb (number x) w) (begun_clip xs w)
  where
    pick : (b : Bool) → is_begun xs w ≡ is_some (clip_in xs w) → (b || is_begun xs w) ≡ is_some (option_map session_clip (cond b (Some x) (session_of xs w)))
    pick true r = refl
    pick false r = r

pub begun_session : (ss : List Session) (w : ℕ) → is_begun ss w ≡ is_some (session_of ss w)
begun_session ss w = begun_clip ss w ∙ pick (session_of ss w)
  where
    pick : (o : Option Session) → is_some (option_map session_clip o) ≡ is_some o
    pick None = refl
    pick (Some s) = refl

item_at : (ss : List Session) (i : ℕ) → i < length ss → (x : Session) × (x ≡ get_or ss i x)
item_at [] i lt = absurd (omega (arith, lt))
item_at (x ∷ xs) zero lt = (x, refl)
item_at (x ∷ xs) (suc i) lt = item_at xs i (omega (arith, lt))

-- where a session stands, the window has one, and where it would have to stand, none
pub begun_at : (ss : List Session) (w i : ℕ) → RisesFrom 0 ss → IsAt ss w i → is_begun ss w ≡ true
begun_at ss w i h at = let x = item_at ss i at.within in begun_session ss w ∙ ap (λ (o : Option Session). is_some o) (session_at ss w i x.0 h at x.1)

pub begun_missing : (ss : List Session) (w i : ℕ) → RisesFrom 0 ss → IsMissingAt ss w i → is_begun ss w ≡ false
begun_missing ss w i h m = begun_session ss w ∙ ap (λ (o : Option Session). is_some o) (no_session ss w i h m)

pub begun_told : (ss : List Session) (w : ℕ) (r : Result ℕ ℕ) → RisesFrom 0 ss → IfOk r (IsAt ss w) → IfErr r (IsMissingAt ss w) → is_ok r ≡ is_begun ss w
begun_told ss w (Ok i) h found missing = sym (begun_at ss w i h found)
begun_told ss w (Err i) h found missing = sym (begun_missing ss w i h missing)

or_no : (a : Bool) → a ≡ (a || false)
or_no true = refl
or_no false = refl

or_yes : (a : Bool) → true ≡ (a || true)
or_yes true = refl
or_yes false = refl

and_yes : (a : Bool) → a ≡ (a && true)
and_yes true = refl
and_yes false = refl

and_no : (a : Bool) → false ≡ (a && false)
and_no true = refl
and_no false = refl

-- whether each window has a session, where one is put or taken out
begun_other : (w v : ℕ) (clip : Option (List Rect)) (ss ts : List Session) → IsPut w clip ss ts → eqb w v ≡ false → is_begun ts v ≡ is_begun ss v
begun_other w v clip ss ts p k = begun_clip ts v ∙ ap (λ (o : Option (List Rect)). is_some o) (p.others v (λ n. eqb-false w v k (sym n))) ∙ sym (begun_clip ss v)

begun_same : (w v : ℕ) (clip : Option (List Rect)) (ss ts : List Session) → IsPut w clip ss ts → eqb w v ≡ true → is_begun ts v ≡ is_some clip
begun_same w v clip ss ts p k = subst (λ n. is_begun ts n ≡ is_some clip) (eqb-true w v k) (begun_clip ts w ∙ ap (λ (o : Option (List Rect)). is_some o) p.same)

pub begun_put : (w : ℕ) (clip : List Rect) (ss ts : List Session) → IsPut w (Some clip) ss ts → (v : ℕ) → is_begun ts v ≡ (is_begun ss v || (eqb w v))
begun_put w clip ss ts p v = pick (eqb w v) refl
  where
    pick : (b : Bool) → eqb w v ≡ b → is_begun ts v ≡ (is_begun ss v || b)
    pick true k = begun_same w v (Some clip) ss ts p k ∙ or_yes (is_begun ss v)
    pick false k = begun_other w v (Some clip) ss ts p k ∙ or_no (is_begun ss v)

pub begun_taken : (w : ℕ) (ss ts : List Session) → IsPut w None ss ts → (v : ℕ) → is_begun ts v ≡ (is_begun ss v && not (eqb w v))
begun_taken w ss ts p v = pick (eqb w v) refl
  where
    pick : (b : Bool) → eqb w v ≡ b → is_begun ts v ≡ (is_begun ss v && not b)
    pick true k = begun_same w v None ss ts p k ∙ and_no (is_begun ss v)
    pick false k = begun_other w v None ss ts p k ∙ and_yes (is_begun ss v)

-- one put in the place of another
pub begun_still : (w : ℕ) (clip : List Rect) (ss ts : List Session) → is_begun ss w ≡ true → IsPut w (Some clip) ss ts → (v : ℕ) → is_begun ts v ≡ is_begun ss v
begun_still w clip ss ts h p v = pick (eqb w v) refl
  where
    pick : (b : Bool) → eqb w v ≡ b → is_begun ts v ≡ is_begun ss v
    pick true k = begun_same w v (Some clip) ss ts p k ∙ sym h ∙ ap (is_begun ss) (eqb-true w v k)
    pick false k = begun_other w v (Some clip) ss ts p k

-- ---- a part of the sessions

pub rises-filter : (first : ℕ) (test : Session → Bool) (ss : List Session) → RisesFrom first ss → RisesFrom first (filter test ss)
rises-filter first test [] h = tt
rises-filter first test (x ∷ xs) h = pick (test x) (rises-filter (suc (number x)) test xs h.1)
  where
    pick : (b : Bool) → RisesFrom (suc (number x)) (filter test xs) → RisesFrom first (cond b (x ∷ filter test xs) (filter test xs))
    pick true r = (h.0, r)
    pick false r = lower first (suc (number x)) (filter test xs) (omega (arith, h.0)) r

session_filtered : (live : List Hwnd) (ss : List Session) (w : ℕ) → session_of (filter (λ (s : Session). is_among (number s) live) ss) w ≡ cond (is_among w live) (session_of ss w) None
session_filtered live [] w = same (is_among w live)
  where
    same : (b : Bool) → ◌≡◌ {A = Option Session} None (cond b None None)
    same true = refl
    same false = refl
session_filtered live (x ∷ xs) w = pick (eqb (number x) w) refl (is_among (number x) live) refl (session_filtered live xs w)
  where
    pick : (a : Bool) → eqb (number x) w ≡ a → (b : Bool) → is_among (number x) live ≡ b → session_of (filter (λ (s : Session). is_among (number s) live) xs) w ≡ cond (is_among w live) (session_of xs w) None → session_of (cond b (x ∷ filter (λ (s : Session). is_among (number s) live) xs) (filter (λ (s : Session). is_among (number s) live) xs)) w ≡ cond (is_among w live) (cond a (Some x) (session_of xs w)) None
    pick true ka true kb r = ap (λ c. cond c (Some x) (session_of (filter (λ (s : Session). is_among (number s) live) xs) w)) ka ∙ sym (ap (λ c. cond c (Some x) None) (sym (ap (λ n. is_among n live) (eqb-true (number x) w ka)) ∙ kb))
    pick true ka false kb r =
        let gone : is_among w live ≡ false = sym (ap (λ n. is_among n live) (eqb-true (number x) w ka)) ∙ kb in
        r ∙ ap (λ c. cond c (session_of xs w) None) gone ∙ sym (ap (λ c. cond c (Some x) None) gone)
    pick false ka true kb r = ap (λ c. cond c (Some x) (session_of (filter (λ (s : Session). is_among (number s) live) xs) w)) ka ∙ r
    pick false ka false kb r = r

pub clip_filtered : (live : List Hwnd) (ss ts : List Session) → ts ≡ filter (λ (s : Session). is_among (number s) live) ss → (w : ℕ) → clip_in ts w ≡ cond (is_among w live) (clip_in ss w) None
clip_filtered live ss ts e w = ap (λ us. clip_in us w) e ∙ ap (option_map session_clip) (session_filtered live ss w) ∙ pick (is_among w live)
  where
    pick : (b : Bool) → option_map session_clip (cond b (session_of ss w) None) ≡ cond b (clip_in ss w) None
    pick true = refl
    pick false = refl

pub begun_filtered : (live : List Hwnd) (ss ts : List Session) → ts ≡ filter (λ (s : Session). is_among (number s) live) ss → (w : ℕ) → is_begun ts w ≡ (is_among w live && is_begun ss w)
begun_filtered live ss ts e w = begun_clip ts w ∙ ap (λ (o : Option (List Rect)). is_some o) (clip_filtered live ss ts e w) ∙ pick (is_among w live)
  where
    pick : (b : Bool) → is_some (cond b (clip_in ss w) None) ≡ (b && is_begun ss w)
    pick true = sym (begun_clip ss w)
    pick false = refl

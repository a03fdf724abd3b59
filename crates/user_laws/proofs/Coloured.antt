-- What becomes of colours, clips and frames at each entry.
use Rattle.std.proofs.Common.{◌≡◌, ◌≢◌, ◌∙◌, ℕ, zero, suc, Bool, true, false, cond, eqb, List, [], ◌∷◌, ◌++◌, Option, Some, None, refl, sym, ap, inl, inr}
use Rattle.std.specs.Option.{is_some}
use Rattle.std.specs.Prelude.{◌&&◌, option_map, unwrap_or}
use Rattle.std.proofs.lemmas.Bool.{false≢true, cases_Bool, eq-eqb, ne_eqb}
use Rattle.win_num.specs.declared.shapes.Point.{Point}
use Rattle.user_model.specs.declared.call.Call.{Call}
use Rattle.user_model.specs.declared.call.Call.TheVariants.{BeginPaint, EndPaint, Fill, Erase, Snap}
use Rattle.user_model.specs.declared.entry.Entry.{Entry}
use Rattle.user_model.specs.declared.entry.Setup.{Setup}
use Rattle.user_model.specs.Past.{Past, is_refused}
use Rattle.user_model.specs.Pixels.{owner}
use Rattle.user_model.specs.Classes.{colour_of}
use Rattle.user_model.specs.Dirty.{came_from, carries, is_dirty, is_in_client, set_where}
use Rattle.user_model.specs.Painting.{is_painting, painting_told}
use Rattle.user_model.specs.Colours.{colour, frame, frame_of, is_in_clip, paints_in, past_at, reaches, session, session_told, snaps, snapped}
use Rattle.user_model.proofs.ColourLaws.{colour-cases, session-next, session-refused}
use Rattle.user_model.proofs.DirtyLaws.{painting-next, painting-refused}
use Rattle.user_model.proofs.FrameLaws.{snapped_longer}
use Rattle.user_model.proofs.PastLaws.{each_of-same}
use Rattle.user_laws.specs.Colours.{colour_after}

picked : (b : Bool) (o : Option ℕ) (n d : ℕ) → unwrap_or (cond b (Some n) o) d ≡ cond b n (unwrap_or o d)
picked true o n d = refl
picked false o n d = refl

called : (setup : Setup) (past : Past) (p : Point) (call : Call) (d : ℕ) → unwrap_or (paints_in setup p call past) d ≡ colour_after setup p call past d
called setup past p (Fill w l t r b colour) d = picked (is_in_client past w l t r b p && reaches setup past w p) None colour d
called setup past p (Erase w) d = picked (reaches setup past w p) None (colour_of past w) d
called setup past p _ d = refl

-- the colour of a pixel after an entry
pub painted_by : (setup : Setup) (past : Past) (e : Entry) (p : Point) → is_refused e ≡ false
    → colour setup (e ∷ past) p ≡ cond (eqb (owner setup (e ∷ past) p).0 0) 0 (cond (carries setup e past (owner setup (e ∷ past) p).0 p) (colour setup past (came_from e past (owner setup (e ∷ past) p).0 p)) (colour_after setup p e.call past (colour setup past p)))
painted_by setup past e p h =
    let w = (owner setup (e ∷ past) p).0 in
    colour-cases setup e past p h
    ∙ ap (λ k. cond (eqb w 0) 0 (cond (carries setup e past w p) (colour setup past (came_from e past w p)) k)) (called setup past p e.call (colour setup past p))

-- ---- clips

told_alike : (call : Call) (past : Past) (w : ℕ) (s : Option Past) (b : Bool) → is_some s ≡ b → is_some (unwrap_or (session_told w call past) s) ≡ unwrap_or (painting_told call w) b
told_alike (BeginPaint v) past w s b h = begun (eqb v w)
  where
    begun : (same : Bool) → is_some (unwrap_or (cond same (Some (Some past)) None) s) ≡ unwrap_or (set_where same true) b
    begun true = refl
    begun false = h
told_alike (EndPaint v) past w s b h = ended (eqb v w)
  where
    ended : (same : Bool) → is_some (unwrap_or (cond same (Some None) None) s) ≡ unwrap_or (set_where same false) b
    ended true = refl
    ended false = h
told_alike _ past w s b h = h

-- a session stands exactly while the window is being painted
sessions : (past : Past) (w : ℕ) → is_some (session past w) ≡ is_painting past w
sessions [] w = refl
sessions (e ∷ past) w =
    let before = sessions past w in
    elim (cases_Bool (is_refused e)) as (λ _. is_some (session (e ∷ past) w) ≡ is_painting (e ∷ past) w) [
      | inl hit ↦ (ap is_some (session-refused e past w hit) ∙ before ∙ sym (painting-refused e past w hit))
      | inr miss ↦ (ap is_some (session-next e past w miss) ∙ told_alike e.call past w (session past w) (is_painting past w) before ∙ sym (painting-next e past w miss))
    ]

no_session : (setup : Setup) (w : ℕ) (p : Point) (s : Option Past) → is_some s ≡ false → (elim s as (λ c. Bool) [ Some before ↦ is_dirty setup before w p | None ↦ true ]) ≡ true
no_session setup w p None h = refl
no_session setup w p (Some before) h = absurd (false≢true (sym h))

-- the clip of a window that isn't being painted has every pixel
pub clip_all : (setup : Setup) (past : Past) (w : ℕ) (p : Point) → is_painting past w ≡ false → is_in_clip setup past w p ≡ true
clip_all setup past w p h = no_session setup w p (session past w) (sessions past w ∙ h)

-- where painting begins, the clip has the pixels that were dirty
pub clip_begun : (setup : Setup) (past : Past) (e : Entry) (w : ℕ) (p : Point) → is_refused e ≡ false → e.call ≡ BeginPaint w → is_in_clip setup (e ∷ past) w p ≡ is_dirty setup past w p
clip_begun setup past e w p right is =
    let told : session_told w e.call past ≡ Some (Some past) = ap (λ c. session_told w c past) is ∙ ap (λ b. cond b (Some (Some past)) None) (eq-eqb w w refl) in
    let at : session (e ∷ past) w ≡ Some past = session-next e past w right ∙ ap (λ o. unwrap_or o (session past w)) told in
    ap (λ s. elim s as (λ c. Bool) [ Some before ↦ is_dirty setup before w p | None ↦ true ]) at

untold : (call : Call) (past : Past) (w : ℕ) → call ≢ BeginPaint w → call ≢ EndPaint w → session_told w call past ≡ None
untold (BeginPaint v) past w begins ends = ap (λ b. cond b (Some (Some past)) None) (ne_eqb v w (λ same. begins (ap BeginPaint same)))
untold (EndPaint v) past w begins ends = ap (λ b. cond b (Some none) None) (ne_eqb v w (λ same. ends (ap EndPaint same)))
  where
    none : Option Past
    none = None
untold _ past w begins ends = refl

session_kept : (past : Past) (e : Entry) (w : ℕ) → e.call ≢ BeginPaint w → e.call ≢ EndPaint w → session (e ∷ past) w ≡ session past w
session_kept past e w begins ends =
    elim (cases_Bool (is_refused e)) as (λ _. session (e ∷ past) w ≡ session past w) [
      | inl hit ↦ session-refused e past w hit
      | inr miss ↦ (session-next e past w miss ∙ ap (λ o. unwrap_or o (session past w)) (untold e.call past w begins ends))
    ]

-- another call leaves the clip
pub clip_kept : (setup : Setup) (past : Past) (e : Entry) (w : ℕ) (p : Point) → e.call ≢ BeginPaint w → e.call ≢ EndPaint w → is_in_clip setup (e ∷ past) w p ≡ is_in_clip setup past w p
clip_kept setup past e w p begins ends = ap (λ s. elim s as (λ c. Bool) [ Some before ↦ is_dirty setup before w p | None ↦ true ]) (session_kept past e w begins ends)

-- ---- frames

-- what stands at a place of a list stands there where more comes behind
past_at_longer : (pasts more : List Past) (n : ℕ) (past : Past) → past_at pasts n ≡ Some past → past_at (pasts ++ more) n ≡ Some past
past_at_longer [] more n past h = absurd cc
past_at_longer (p ∷ pasts) more zero past h = h
past_at_longer (p ∷ pasts) more (suc n) past h = past_at_longer pasts more n past h

framed : (setup : Setup) (o q : Option Past) (f : List ℕ) → ((past : Past) → o ≡ Some past → q ≡ Some past) → option_map (frame setup) o ≡ Some f → option_map (frame setup) q ≡ Some f
framed setup None q f same h = absurd cc
framed setup (Some past) q f same h = ap (option_map (frame setup)) (same past refl) ∙ h

-- a frame stays, whatever comes after
pub frame_stays : (setup : Setup) (past later : Past) (k : ℕ) (f : List ℕ) → frame_of setup past k ≡ Some f → frame_of setup (later ++ past) k ≡ Some f
frame_stays setup past later zero f h = absurd cc
frame_stays setup past later (suc n) f h =
    let more = snapped_longer later past in
    framed setup (past_at (snapped past) n) (past_at (snapped (later ++ past)) n) f (λ at is. ap (λ l. past_at l n) more.1 ∙ past_at_longer (snapped past) more.0 n at is) h

no_snap : (call : Call) (past : Past) → call ≢ Snap → snaps call past ≡ []
no_snap Snap past other = absurd (other refl)
no_snap _ past other = refl

-- an entry of another call keeps no frame
pub no_frame : (setup : Setup) (past : Past) (e : Entry) (k : ℕ) → e.call ≢ Snap → frame_of setup (e ∷ past) k ≡ frame_of setup past k
no_frame setup past e zero other = refl
no_frame setup past e (suc n) other = ap (λ l. option_map (frame setup) (past_at l n)) (each_of-same (λ e before. snaps e.call before) e past (no_snap e.call past other))

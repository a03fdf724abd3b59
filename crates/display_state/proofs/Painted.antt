-- The colours and the frames at a past with one entry more.
use Rattle.std.proofs.Common.{◌≡◌, ◌∙◌, ℕ, Bool, true, false, cond, not, eqb, List, [], ◌∷◌, ◌++◌, length, append-nil, Some, None, refl, sym, ap}
use Rattle.std.specs.Prelude.{ℤ, ◌&&◌, ◌||◌, nat_le, nat_lt, suc, unwrap_or}
use Rattle.std.proofs.lemmas.Bool.{eqb-true, false≢true, true≢false, or_parts}
use Rattle.win_num.specs.declared.code.Code.TheVariants.{Full}
use Rattle.win_num.specs.declared.message.Hwnd.{Hwnd}
use Rattle.win_num.specs.declared.message.Thread.{Thread}
use Rattle.win_num.specs.PixelSets.{Box, same_box}
use Rattle.win_num.specs.declared.shapes.Point.{Point}
use Rattle.user_model.specs.declared.call.Call.{Call}
use Rattle.user_model.specs.declared.call.Call.TheVariants as calls
use Rattle.user_model.specs.declared.entry.Answer.{Answer}
use Rattle.user_model.specs.declared.entry.Answer.TheVariants as answers
use Rattle.user_model.specs.declared.entry.Entry.{Entry}
use Rattle.user_model.specs.declared.entry.Setup.{Setup}
use Rattle.user_model.specs.Past.{Past, is_refusal, is_refused}
use Rattle.user_model.specs.Idle.{reply}
use Rattle.user_model.specs.Legal.{IsLawful}
use Rattle.user_model.specs.Windows.{is_live, thread_of}
use Rattle.user_model.specs.Pixels.{box_of, owner}
use Rattle.user_model.specs.Colours.{colour, is_in_clip, paints_in, reaches, snapped, snaps}
use Rattle.user_model.specs.Refusals.{if_own, access_denied, invalid_parameter, invalid_window_handle, is_no_rect, refuse}
use Rattle.user_model.proofs.ColourLaws.{bare_is_0, colour-cases, colour-owned, colour-refused, snapped-next}
use Rattle.user_model.specs.Dirty.{came_from, carries, copies_bits, is_dirty, moves, owns}
use Rattle.user_model.specs.Machines.{entry_of}
use Rattle.user_model.proofs.PastLaws.{first_way}
use Rattle.user_model.proofs.ReplyLaws.{by_call, not_false, not_refused}
use Rattle.user_model.proofs.WindowLooks.{shape-same}
use Rattle.window_state.proofs.OrderSteps.{live_rest, order_of, order_rest}
use Rattle.screen_state.specs.Shown.{changes_owners}
use Rattle.screen_state.specs.Screens.{draws}
use Rattle.screen_state.proofs.Followed.{no_look, no_order}
use Rattle.user_model.proofs.OwnersKept.{box_same, owner_same}
use Rattle.screen_state.proofs.Screens.{same_box-self}

-- whether a call may paint, or keep a frame
abbrev pub is_colouring : Call → Bool
is_colouring (calls.Fill w l t r b k) = true
is_colouring (calls.Erase w) = true
is_colouring calls.Snap = true
is_colouring _ = false

-- any other call gives no colour, and keeps no frame
pub no_paint : (call : Call) → is_colouring call ≡ false → (setup : Setup) (past : Past) (p : Point) → paints_in setup p call past ≡ None
no_paint (calls.Fill w l t r b k) h setup past p = absurd (true≢false h)
no_paint (calls.Erase w) h setup past p = absurd (true≢false h)
no_paint _ h setup past p = refl

pub no_frame : (call : Call) → is_colouring call ≡ false → (past : Past) → snaps call past ≡ []
no_frame calls.Snap h past = absurd (true≢false h)
no_frame _ h past = refl

-- ---- what an answer to such a call tells

-- a rectangle of a live window was painted
pub record IsFillOf (past : Past) (w : ℕ) (l t r b : ℤ) (k : ℕ) (a : Answer) : Type 0 where
  pub fits : is_no_rect l t r b ≡ false
  pub few : nat_lt 15 k ≡ false
  pub lives : is_live past w ≡ true
  pub okay : a ≡ answers.Okay

own_told : (past : Past) (who w : ℕ) (a : Answer) → is_refusal a ≡ false → if_own past who w answers.Okay ≡ a → (is_live past w ≡ true) × (a ≡ answers.Okay)
own_told past who w a fine e =
    let live = not_refused (not (is_live past w)) invalid_window_handle (refuse (not (eqb (thread_of past w) who)) access_denied answers.Okay) a fine e in
    let own = not_refused (not (eqb (thread_of past w) who)) access_denied answers.Okay a fine live.1 in
    (not_false (is_live past w) live.0, sym own.1)

pub fill_told : (setup : Setup) (past : Past) (who w : ℕ) (l t r b : ℤ) (k : ℕ) (a : Answer) → reply setup past who (calls.Fill w l t r b k) ≡ a → is_refusal a ≡ false → IsFillOf past w l t r b k a
fill_told setup past who w l t r b k a e fine =
    let by = by_call setup past who (calls.Fill w l t r b k) a e refl fine in
    let good = not_refused (is_no_rect l t r b || nat_lt 15 k) invalid_parameter (if_own past who w answers.Okay) a fine by.is_row in
    let own = own_told past who w a fine good.1 in
    let parts = or_parts (is_no_rect l t r b) (nat_lt 15 k) good.0 in
    record { fits = parts.0; few = parts.1; lives = own.0; okay = own.1 }

pub erase_told : (setup : Setup) (past : Past) (who w : ℕ) (a : Answer) → reply setup past who (calls.Erase w) ≡ a → is_refusal a ≡ false → (is_live past w ≡ true) × (a ≡ answers.Okay)
erase_told setup past who w a e fine = own_told past who w a fine (by_call setup past who (calls.Erase w) a e refl fine).is_row

pub snap_told : (setup : Setup) (past : Past) (who : ℕ) (a : Answer) → reply setup past who calls.Snap ≡ a → is_refusal a ≡ false → draws calls.Snap a ≡ true
snap_told setup past who a e fine =
    let row = not_refused (nat_le 256 (length (snapped past))) Full (answers.Snap (suc (length (snapped past)))) a fine (by_call setup past who calls.Snap a e refl fine).is_row in
    ap (draws calls.Snap) (sym row.1)

-- so a call that draws nothing, and isn't refused, is none of them
pub uncoloured : (setup : Setup) (past : Past) (who : ℕ) (call : Call) (a : Answer) → reply setup past who call ≡ a → is_refusal a ≡ false → draws call a ≡ false → is_colouring call ≡ false
uncoloured setup past who (calls.Fill w l t r b k) a e fine quiet = absurd (false≢true (sym quiet ∙ ap (draws (calls.Fill w l t r b k)) (fill_told setup past who w l t r b k a e fine).okay))
uncoloured setup past who (calls.Erase w) a e fine quiet = absurd (false≢true (sym quiet ∙ ap (draws (calls.Erase w)) (erase_told setup past who w a e fine).1))
uncoloured setup past who calls.Snap a e fine quiet = absurd (false≢true (sym quiet ∙ snap_told setup past who a e fine))
uncoloured setup past who _ a e fine quiet = refl

-- ---- an entry that carries no pixel

-- a window that keeps its rectangle on the screen carries none
pub unmoved_carries : (setup : Setup) (past : Past) (e : Entry) (w : ℕ) (p : Point) → box_of (e ∷ past) w ≡ box_of past w → carries setup e past w p ≡ false
unmoved_carries setup past e w p same =
    let unmoved : moves e past w ≡ false = ap (λ (b : Box). not (same_box b (box_of past w))) same ∙ ap not (same_box-self (box_of past w)) in
    ap (λ b. (copies_bits e.call && b) && (owns setup (e ∷ past) w p && (owns setup past w (came_from e past w p) && not (is_dirty setup past w (came_from e past w p))))) unmoved
    ∙ never (copies_bits e.call) (owns setup (e ∷ past) w p && (owns setup past w (came_from e past w p) && not (is_dirty setup past w (came_from e past w p))))
  where
    never : (b c : Bool) → ((b && false) && c) ≡ false
    never true c = refl
    never false c = refl

refused_of : (setup : Setup) (past : Past) (who : Thread) (call : Call) (a : Answer) (w : ℕ) (p : Point) → is_refusal a ≡ true → carries setup (entry_of who call a) past w p ≡ false
refused_of setup past who call (answers.Refused code) w p h = unmoved_carries setup past (entry_of who call (answers.Refused code)) w p (box_same past (entry_of who call (answers.Refused code)) refl (λ v. record { shown = refl; place = refl }) (λ q. refl) w)
refused_of setup past who call _ w p h = absurd (false≢true h)

-- nor does a refused entry
pub refused_carries : (setup : Setup) (past : Past) (e : Entry) (w : ℕ) (p : Point) → is_refused e ≡ true → carries setup e past w p ≡ false
refused_carries setup past e w p h = refused_of setup past e.who e.call e.answer w p h

-- ---- an entry that paints nothing, and keeps no frame

module _ (setup : Setup) (past : Past) (e : Entry) (idle : is_refused e ≡ false → is_colouring e.call ≡ false) where
  -- a pixel that a window owns then keeps its colour, unless it is carried
  pub colour_stays : (p : Point) → eqb (owner setup (e ∷ past) p).0 0 ≡ false → carries setup e past (owner setup (e ∷ past) p).0 p ≡ false → colour setup (e ∷ past) p ≡ colour setup past p
  colour_stays p some still = by (is_refused e) refl
    where
      by : (b : Bool) → is_refused e ≡ b → colour setup (e ∷ past) p ≡ colour setup past p
      by true h = colour-refused setup e past p h
      by false h =
          colour-owned setup e past p h some still
          ∙ ap (λ o. unwrap_or o (colour setup past p)) (no_paint e.call (idle h) setup past p)

  pub snapped_stays : snapped (e ∷ past) ≡ snapped past
  snapped_stays = by (is_refused e) refl
    where
      by : (b : Bool) → is_refused e ≡ b → snapped (e ∷ past) ≡ snapped past
      by true h = first_way (is_refused e) (snapped past) (snapped past ++ snaps e.call past) h
      by false h = snapped-next e past h ∙ (ap (λ (qs : List Past). snapped past ++ qs) (no_frame e.call (idle h) past) ∙ append-nil (snapped past))

-- ---- an entry that changes no owner

-- a pixel that painting reaches has an owner
pub reached_owned : (setup : Setup) (past : Past) (w : ℕ) (p : Point) → reaches setup past w p ≡ true → eqb (owner setup past p).0 0 ≡ false
reached_owned setup past w p h = by (eqb w 0) refl (eqb (owner setup past p).0 w) refl h
  where
    by : (z : Bool) → eqb w 0 ≡ z → (o : Bool) → eqb (owner setup past p).0 w ≡ o → ((not z && o) && is_in_clip setup past w p) ≡ true → eqb (owner setup past p).0 0 ≡ false
    by true z o is k = absurd (false≢true k)
    by false z true is k = ap (λ n. eqb n 0) (eqb-true (owner setup past p).0 w is) ∙ z
    by false z false is k = absurd (false≢true k)

painted_pick : (zero paint : Bool) (k old : ℕ) → (zero ≡ true → old ≡ 0) → (paint ≡ true → zero ≡ false) → cond zero 0 (unwrap_or (cond paint (Some k) None) old) ≡ cond paint k old
painted_pick true true k old bare some = absurd (true≢false (some refl))
painted_pick true false k old bare some = sym (bare refl)
painted_pick false true k old bare some = refl
painted_pick false false k old bare some = refl

module _ (setup : Setup) (past : Past) (e : Entry) (lawful : IsLawful setup past) (right : e.answer ≡ reply setup past e.who.0 e.call) (fine : is_refused e ≡ false) (leaves : changes_owners e.call e.answer ≡ false) where
  owner_stays : (p : Point) → owner setup (e ∷ past) p ≡ owner setup past p
  owner_stays p =
      let order = order_of setup past lawful in
      let rests = no_order e.call e.answer leaves in
      owner_same past e (live_rest setup past e right rests) (λ w. shape-same e past w (no_look e.call e.answer leaves)) (λ q. sym ((order_rest setup past e order.0 order.1 right rests).lists q) ∙ (order.1).lists q) setup p

  -- it carries no pixel
  uncarried : (w : ℕ) (p : Point) → carries setup e past w p ≡ false
  uncarried w p =
      let order = order_of setup past lawful in
      let rests = no_order e.call e.answer leaves in
      unmoved_carries setup past e w p (box_same past e (live_rest setup past e right rests) (λ v. shape-same e past v (no_look e.call e.answer leaves)) (λ q. sym ((order_rest setup past e order.0 order.1 right rests).lists q) ∙ (order.1).lists q) w)

  -- the colour that it gives an owned pixel
  pub recoloured : (p : Point) (paint : Bool) (k : ℕ) → paints_in setup p e.call past ≡ cond paint (Some k) None → (paint ≡ true → eqb (owner setup past p).0 0 ≡ false) → colour setup (e ∷ past) p ≡ cond paint k (colour setup past p)
  recoloured p paint k told some =
      colour-cases setup e past p fine
      ∙ (ap (λ b. cond (eqb (owner setup (e ∷ past) p).0 0) 0 (cond b (colour setup past (came_from e past (owner setup (e ∷ past) p).0 p)) (unwrap_or (paints_in setup p e.call past) (colour setup past p)))) (uncarried (owner setup (e ∷ past) p).0 p)
      ∙ (ap (λ (w : Hwnd). cond (eqb w.0 0) 0 (unwrap_or (paints_in setup p e.call past) (colour setup past p))) (owner_stays p)
      ∙ (ap (λ o. cond (eqb (owner setup past p).0 0) 0 (unwrap_or o (colour setup past p))) told
      ∙ painted_pick (eqb (owner setup past p).0 0) paint k (colour setup past p) (λ none. bare_is_0 setup past p (eqb-true (owner setup past p).0 0 none)) some)))

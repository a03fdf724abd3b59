-- The regions after an entry are those of the past with the entry.
use Rattle.std.proofs.Common.{◌≡◌, ◌≢◌, ◌∙◌, ℕ, Bool, true, false, not, cond, eqb, List, [], ◌∷◌, Option, Some, None, refl, sym, ap}
use Rattle.std.specs.Prelude.{◌&&◌, ◌||◌, option_map}
use Rattle.std.specs.List.{list_all}
use Rattle.std.proofs.lemmas.Bool.{eqb-true, eqb-false, eq-eqb, ne_eqb, false≢true}
use Rattle.win_num.specs.declared.message.Hwnd.{Hwnd}
use Rattle.win_num.specs.declared.message.Thread.{Thread}
use Rattle.win_num.specs.declared.shapes.Point.{Point}
use Rattle.win_num.specs.declared.shapes.Rect.{Rect}
use Rattle.win_num.specs.PixelSets.{has_pixel}
use Rattle.band_region.specs.Regions.{region_has}
use Rattle.win_rows.specs.Windows.{Windows}
use Rattle.win_order.specs.Layers.{Layers}
use Rattle.user_model.specs.declared.call.Call.{Call}
use Rattle.user_model.specs.declared.call.Call.TheVariants as calls
use Rattle.user_model.specs.declared.entry.Answer.{Answer}
use Rattle.user_model.specs.declared.entry.Answer.TheVariants as answers
use Rattle.user_model.specs.declared.entry.Entry.{Entry}
use Rattle.user_model.specs.declared.entry.Setup.{Setup}
use Rattle.user_model.specs.Past.{Past}
use Rattle.user_model.specs.Idle.{reply}
use Rattle.user_model.specs.Legal.{IsLawful}
use Rattle.user_model.specs.Pixels.{owner, screen}
use Rattle.user_model.proofs.WindowLooks.{changes_shape, shape-same}
use Rattle.window_state.specs.Orders.{IsOrderAt}
use Rattle.window_state.specs.Trees.{IsTreeAt}
use Rattle.window_state.proofs.LookSteps.{fits_looking}
use Rattle.window_state.proofs.NewWindows.{doom_not_refused, drop_not_refused}
use Rattle.window_state.proofs.OrderNeeds.{fits_order, fits_order_effect, ordered_at}
use Rattle.window_state.proofs.OrderSteps.{changes_order, live_rest, order_after, order_rest}
use Rattle.window_state.proofs.PixelOwners.{owner_at_past}
use Rattle.window_state.proofs.TreeNeeds.{fits_making, fits_unmaking}
use Rattle.window_state.proofs.TreeSteps.{tree_after}
use Rattle.screen_owners.specs.declared.owners.Owned.{Owned}
use Rattle.screen_owners.proofs.Children.{listed_children}
use Rattle.screen_owners.specs.Owners.{AreChildren, AreOwners, entry_of, owned_region, region_in}
use Rattle.screen_state.specs.Entries.{FitsEntry, FitsTable, IsEntered}
use Rattle.screen_state.specs.Owned.{AreOwnersAt, FollowsOwners, IsNext, keeps_owners, told_has}
use Rattle.screen_state.specs.Shown.{changes_owners, shows}
use Rattle.user_model.proofs.OwnersKept.{owner_same}
use Rattle.screen_state.proofs.QuietEntries.{shows_none, stays_quiet}

-- ---- what an entry needs

table_fits : (setup : Setup) (past : Past) (t : Windows) (who : Thread) (a : Answer) (call : Call) → IsLawful setup past → IsTreeAt past t → a ≡ reply setup past who.0 call → FitsTable who.0 a call t
table_fits setup past t who (answers.Window w) call lawful at right = fits_making setup past t who w call lawful at (sym right)
table_fits setup past t who (answers.Value n) call lawful at right = fits_looking setup past t who.0 n call at (sym right)
table_fits setup past t who answers.Okay (calls.Doom w) lawful at right = doom_not_refused setup past t who.0 w at (sym right)
table_fits setup past t who answers.Okay (calls.Drop w) lawful at right = drop_not_refused setup past t who.0 w at (sym right)
table_fits setup past t who answers.Okay _ lawful at right = tt
table_fits setup past t who (answers.Tell v) call lawful at right = fits_unmaking setup past t who (answers.Tell v) call at (sym right) refl
table_fits setup past t who (answers.Last v) call lawful at right = fits_unmaking setup past t who (answers.Last v) call at (sym right) refl
table_fits setup past t who _ call lawful at right = tt

pub entry_fits : (setup : Setup) (t : Windows) (z : Layers) (e : Entry) → IsNext setup t z e → FitsEntry e.who.0 e.answer e.call t z
entry_fits setup t z e n = record {
  table = table_fits setup n.past t e.who e.answer e.call n.lawful n.tree n.right;
  order = fits_order setup n.past t z e.who e.answer e.call n.lawful n.tree n.order n.right;
  effect = fits_order_effect setup n.past t z e.who e.answer e.call n.lawful n.tree n.order n.right;
}

-- ---- new regions

pub of_past : (setup : Setup) (past : Past) (t : Windows) (z : Layers) (os : List Owned) → IsLawful setup past → IsTreeAt past t → IsOrderAt past z → AreOwners t.live z setup.width setup.height os → AreOwnersAt setup past os
of_past setup past t z os lawful tree order own w p = own w p ∙ ap (λ (v : Hwnd). has_pixel (screen setup) p && eqb v.0 w.0) (owner_at_past setup past lawful t z tree order p.x p.y)

-- the other way round
pub at_tables : (setup : Setup) (past : Past) (t : Windows) (z : Layers) (os : List Owned) → IsLawful setup past → IsTreeAt past t → IsOrderAt past z → AreOwnersAt setup past os → AreOwners t.live z setup.width setup.height os
at_tables setup past t z os lawful tree order own w p = own w p ∙ ap (λ (v : Hwnd). has_pixel (screen setup) p && eqb v.0 w.0) (sym (owner_at_past setup past lawful t z tree order p.x p.y))

-- the table and the order before an entry list children
pub next_children : (setup : Setup) (t : Windows) (z : Layers) (e : Entry) → IsNext setup t z e → AreChildren t.live z
next_children setup t z e n = listed_children n.past t z (ordered_at setup n.past t n.lawful n.tree) n.tree n.order

-- the table and the order that an entry leaves list children
pub entered_children : (setup : Setup) (t t2 : Windows) (z z2 : Layers) (e : Entry) → IsNext setup t z e → IsEntered e.who.0 e.answer e.call t t2 z z2 → AreChildren t2.live z2
entered_children setup t t2 z z2 e n made =
    let tree = tree_after setup n.past e t made.grown t2 n.lawful n.tree n.right made.added made.settled in
    listed_children (e ∷ n.past) t2 z2 (ordered_at setup (e ∷ n.past) t2 (n.lawful, n.right) tree) tree (order_after setup n.past e t made.grown t2 z made.placed z2 n.lawful n.tree tree n.order n.right made.added made.put made.left)

-- ---- regions that stay

pub no_order : (call : Call) (a : Answer) → changes_owners call a ≡ false → changes_order call a ≡ false
no_order call answers.Ended h = h
no_order (calls.NewWindow name title parent style ex l t r b) (answers.Window w) h = h
no_order (calls.Drop w) answers.Okay h = h
no_order (calls.Place w after l t r b flags) (answers.Value v) h = h
no_order call a h = refl

pub no_look : (call : Call) (a : Answer) → changes_owners call a ≡ false → changes_shape call a ≡ false
no_look (calls.NewWindow name title parent style ex l t r b) (answers.Window w) h = h
no_look (calls.Place w after l t r b flags) (answers.Value v) h = h
no_look (calls.Show w on) (answers.Value v) h = h
no_look call a h = refl

pub region_none : (os : List Owned) (w : ℕ) → list_all (λ (o : Owned). eqb o.window.0 0) os ≡ true → w ≢ 0 → region_in os w ≡ []
region_none [] w all some = refl
region_none (o ∷ os) w all some = by (λ rest. region_none os w rest some) (eqb o.window.0 0) refl all
  where
    by : (list_all (λ (u : Owned). eqb u.window.0 0) os ≡ true → region_in os w ≡ []) → (b : Bool) → eqb o.window.0 0 ≡ b → (b && list_all (λ (u : Owned). eqb u.window.0 0) os) ≡ true → region_in (o ∷ os) w ≡ []
    by later true zero rest =
        let other : eqb o.window.0 w ≡ false = ne_eqb o.window.0 w (λ (same : o.window.0 ≡ w). some (sym same ∙ eqb-true o.window.0 0 zero)) in
        ap (λ b. elim (cond b (Some o) (entry_of os w)) as (λ (q : Option Owned). List Rect) [ Some u ↦ u.region | None ↦ [] ]) other ∙ later rest
    by later false zero rest = absurd (false≢true rest)

-- where no window has an entry, no window owns a pixel
none_owned : (setup : Setup) (past : Past) (os : List Owned) (p : Point) → AreOwnersAt setup past os → list_all (λ (o : Owned). eqb o.window.0 0) os ≡ true → has_pixel (screen setup) p ≡ true → (owner setup past p).0 ≡ 0
none_owned setup past os p own all on = by (eqb (owner setup past p).0 0) refl
  where
    told : (w : Hwnd) → region_in os w.0 ≡ [] → (has_pixel (screen setup) p && eqb (owner setup past p).0 w.0) ≡ false
    told w none = sym (own w p) ∙ ap (λ (rs : List Rect). region_has rs p) none

    by : (b : Bool) → eqb (owner setup past p).0 0 ≡ b → (owner setup past p).0 ≡ 0
    by true k = eqb-true (owner setup past p).0 0 k
    by false k =
        let w = owner setup past p in
        let own_pixel : (has_pixel (screen setup) p && eqb w.0 w.0) ≡ true = ap (λ b. b && eqb w.0 w.0) on ∙ eq-eqb w.0 w.0 refl in
        absurd (false≢true (sym (told w (region_none os w.0 all (eqb-false w.0 0 k))) ∙ own_pixel))

either : (a b : Bool) → (not a || b) ≡ true → a ≡ true → b ≡ true
either true b h k = h
either false b h k = absurd (false≢true k)

both : (a b : Bool) → (not a && b) ≡ true → (a ≡ false) × (b ≡ true)
both true b h = absurd (false≢true h)
both false b h = (refl, h)

pub kept_follow : (setup : Setup) (t : Windows) (z : Layers) (e : Entry) (os : List Owned) → keeps_owners e.call e.answer os ≡ true → FollowsOwners setup t z e os os
kept_follow setup t z e os keeps past lawful tree order right was w p = by (changes_owners e.call e.answer) refl
  where
    same : changes_owners e.call e.answer ≡ false → owner setup (e ∷ past) p ≡ owner setup past p
    same h =
        let rests = no_order e.call e.answer h in
        owner_same past e (live_rest setup past e right rests) (λ v. shape-same e past v (no_look e.call e.answer h)) (λ q. sym ((order_rest setup past e z order right rests).lists q) ∙ order.lists q) setup p

    quiet : changes_owners e.call e.answer ≡ true → has_pixel (screen setup) p ≡ true → (owner setup past p).0 ≡ (owner setup (e ∷ past) p).0
    quiet h on =
        let k = both (shows e.call e.answer) (list_all (λ (o : Owned). eqb o.window.0 0) os) (either (changes_owners e.call e.answer) _ keeps h) in
        let before : has_pixel (screen setup) p ≡ true → (owner setup past p).0 ≡ 0 = none_owned setup past os p was k.1 in
        before on ∙ sym (stays_quiet setup past e p lawful (lawful, right) (shows_none setup past e lawful k.0) before)

    on_screen : (b : Bool) → has_pixel (screen setup) p ≡ b → changes_owners e.call e.answer ≡ true → (b && eqb (owner setup past p).0 w.0) ≡ (b && eqb (owner setup (e ∷ past) p).0 w.0)
    on_screen true on h = ap (λ n. eqb n w.0) (quiet h on)
    on_screen false on h = refl

    by : (b : Bool) → changes_owners e.call e.answer ≡ b → region_has (region_in os w.0) p ≡ (has_pixel (screen setup) p && eqb (owner setup (e ∷ past) p).0 w.0)
    by true h = was w p ∙ on_screen (has_pixel (screen setup) p) refl h
    by false h = was w p ∙ ap (λ (v : Hwnd). has_pixel (screen setup) p && eqb v.0 w.0) (sym (same h))

-- ---- the region of a window

pub region_told : (os : List Owned) (w : ℕ) (p : Point) → told_has (option_map owned_region (entry_of os w)) p ≡ region_has (region_in os w) p
region_told os w p = by (entry_of os w)
  where
    by : (o : Option Owned) → told_has (option_map owned_region o) p ≡ region_has (elim o as (λ (q : Option Owned). List Rect) [ Some u ↦ u.region | None ↦ [] ]) p
    by None = refl
    by (Some o) = refl

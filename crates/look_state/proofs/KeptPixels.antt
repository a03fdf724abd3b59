-- The dirty pixels that are kept of a look are those of the past.
use Rattle.std.proofs.Common.{◌≡◌, ◌∙◌, ℕ, ◌<◌, ◌+◌, Bool, true, false, cond, eqb, List, [], ◌∷◌, ◌++◌, filter, get_or, length, map, take, Some, refl, sym, ap, subst}
use Rattle.std.specs.Prelude.{◌&&◌, ◌||◌, not, option_map, unwrap_or}
use Rattle.std.specs.List.{list_all}
use Rattle.std.proofs.lemmas.Bool.{eqb-true, false≢true}
use Rattle.std.proofs.lemmas.List.{map-append, take_more}
use Rattle.std.proofs.lemmas.List.Elements.{filter-append}
use Rattle.win_num.specs.declared.shapes.Point.{Point}
use Rattle.win_rows.specs.declared.window.Window.{Window as KeptWindow}
use Rattle.win_rows.specs.Windows.{Windows}
use Rattle.win_order.specs.Layers.{Layers}
use Rattle.band_region.specs.Regions.{region_has}
use Rattle.dirty_windows.specs.declared.entries.DirtyWindow.{DirtyWindow}
use Rattle.dirty_windows.specs.LookUps.{area_in, entry_of, update_in_entry}
use Rattle.user_model.specs.declared.call.Call.{Call}
use Rattle.user_model.specs.declared.call.Call.TheVariants as calls
use Rattle.user_model.specs.declared.entry.Answer.{Answer}
use Rattle.user_model.specs.declared.entry.Answer.TheVariants as answers
use Rattle.user_model.specs.declared.entry.Entry.{Entry}
use Rattle.user_model.specs.declared.entry.Setup.{Setup}
use Rattle.user_model.specs.Past.{Past}
use Rattle.user_model.specs.Windows.{Window, find_window, live, thread_of}
use Rattle.user_model.specs.Legal.{IsLawful}
use Rattle.user_model.specs.Status.{is_look}
use Rattle.user_model.proofs.DeliveryReplies.{end_told}
use Rattle.user_model.proofs.ReplyLaws.{by_row}
use Rattle.window_state.specs.Orders.{IsOrderAt}
use Rattle.window_state.specs.Trees.{IsTreeAt, thread_in}
use Rattle.screen_state.specs.Owned.{told_has}
use Rattle.screen_owners.specs.declared.owners.Owned.{Owned}
use Rattle.screen_state.specs.Screens.{IsScreenAt, Kept, draws, is_none_dirty, keeps_screen}
use Rattle.screen_state.specs.Shown.{changes_owners, shows}
use Rattle.screen_state.proofs.Followed.{no_order}
use Rattle.screen_state.proofs.Screens.{stays_follow}
use Rattle.screen_state.proofs.Walking.{thread_same}
use Rattle.window_state.proofs.OrderSteps.{live_rest}
use Rattle.look_state.specs.declared.seen.SeenWindow.{SeenWindow}
use Rattle.look_state.specs.Looks.{IsSeenAt, seen_as, seen_entry, seen_of, seen_region, was_seen}

-- ---- what is kept of a list of windows

pub no_more : (b : Bool) → (b && false) ≡ false
no_more true = refl
no_more false = refl

pub seen_is : (ws : List KeptWindow) (t : ℕ) (ds : List DirtyWindow) (w : ℕ) (p : Point) → was_seen (seen_of ws t ds) w p ≡ (eqb (thread_in ws w) t && region_has (area_in ds w) p)
seen_is ws t [] w p = sym (no_more (eqb (thread_in ws w) t))
seen_is ws t (d ∷ ds) w p = by (eqb (thread_in ws d.window.0) t) refl (eqb d.window.0 w) refl (seen_is ws t ds w p)
  where
    rest : List SeenWindow
    rest = map seen_as (filter (λ d. eqb (thread_in ws d.window.0) t) ds)

    own : (b : Bool) → eqb (thread_in ws d.window.0) t ≡ b → eqb d.window.0 w ≡ true → eqb (thread_in ws w) t ≡ b
    own b h k = subst (λ (n : ℕ). eqb (thread_in ws n) t ≡ b) (eqb-true d.window.0 w k) h

    first_is : (c : Bool) → eqb d.window.0 w ≡ c → was_seen (seen_as d ∷ rest) w p ≡ told_has (option_map seen_region (cond c (Some (seen_as d)) (seen_entry rest w))) p
    first_is c k = ap (λ b. told_has (option_map seen_region (cond b (Some (seen_as d)) (seen_entry rest w))) p) k

    by : (b : Bool) → eqb (thread_in ws d.window.0) t ≡ b → (c : Bool) → eqb d.window.0 w ≡ c
        → was_seen rest w p ≡ (eqb (thread_in ws w) t && region_has (area_in ds w) p)
        → was_seen (map seen_as (cond b (d ∷ filter (λ d. eqb (thread_in ws d.window.0) t) ds) (filter (λ d. eqb (thread_in ws d.window.0) t) ds))) w p ≡ (eqb (thread_in ws w) t && region_has (update_in_entry (cond c (Some d) (entry_of ds w))).area p)
    by true h true k later = first_is true k ∙ sym (ap (λ b. b && region_has d.update.area p) (own true h k))
    by true h false k later = first_is false k ∙ later
    by false h true k later = later ∙ ap (λ b. b && region_has (area_in ds w) p) (own false h k) ∙ sym (ap (λ b. b && region_has d.update.area p) (own false h k))
    by false h false k later = later

-- one window more
pub seen_more : (ws : List KeptWindow) (t : ℕ) (ds : List DirtyWindow) (i : ℕ) (d : DirtyWindow) → i < length ds → d ≡ get_or ds i d → seen_of ws t (take (i + 1) ds) ≡ seen_of ws t (take i ds) ++ map seen_as (cond (eqb (thread_in ws d.window.0) t) (d ∷ []) [])
seen_more ws t ds i d lt is =
    ap (seen_of ws t) (take_more ds i d lt ∙ ap (λ x. take i ds ++ x ∷ []) (sym is))
    ∙ ap (map seen_as) (filter-append (λ d. eqb (thread_in ws d.window.0) t) (take i ds) (d ∷ []))
    ∙ map-append seen_as (filter (λ d. eqb (thread_in ws d.window.0) t) (take i ds)) (filter (λ d. eqb (thread_in ws d.window.0) t) (d ∷ []))

-- ---- at a look

pub look_draws : (call : Call) (a : Answer) → is_look call ≡ true → draws call a ≡ false
look_draws (calls.Get w min max) a h = refl
look_draws (calls.Peek w min max flags) a h = refl
look_draws (calls.Status flags) a h = refl
look_draws _ a h = absurd (false≢true h)

keeps_by : (call : Call) (a : Answer) → is_look call ≡ true → (a ≡ answers.Ended → ⊥) → changes_owners call a ≡ false
keeps_by call answers.Ended h not_end = absurd (not_end refl)
keeps_by (calls.Get w min max) a h not_end = refl
keeps_by (calls.Peek w min max flags) a h not_end = refl
keeps_by (calls.Status flags) a h not_end = refl
keeps_by _ a h not_end = absurd (false≢true h)

-- a look changes no window
pub look_keeps : (setup : Setup) (past : Past) (e : Entry) → IsLawful setup (e ∷ past) → is_look e.call ≡ true → changes_owners e.call e.answer ≡ false
look_keeps setup past e lawful h = keeps_by e.call e.answer h (λ ends. false≢true (sym (ap is_look (end_told setup past e.who.0 e.call (by_row setup past e.who.0 e.call answers.Ended (sym lawful.1 ∙ ends) refl).is_row)) ∙ h))

-- the dirty pixels that are kept at a look are those of the past with it
pub seen_at : (setup : Setup) (past : Past) (e : Entry) (t : Windows) (z : Layers) (s : Kept) → IsLawful setup (e ∷ past) → is_look e.call ≡ true → IsTreeAt past t → IsOrderAt past z → IsScreenAt setup past s → IsSeenAt setup (e ∷ past) e.who.0 (seen_of t.live e.who.0 s.dirty)
seen_at setup past e t z s lawful look tree order screen w p =
    let keeps = look_keeps setup past e lawful look in
    let stays : keeps_screen e.call e.answer s ≡ true = ap (λ b. not b || (not (shows e.call e.answer) && (list_all (λ (o : Owned). eqb o.window.0 0) s.owners && is_none_dirty s.dirty))) keeps in
    let after : IsScreenAt setup (e ∷ past) s = stays_follow setup t z e s stays (look_draws e.call e.answer look) past lawful.0 tree order lawful.1 screen in
    let lives : live (e ∷ past) ≡ live past = live_rest setup past e lawful.1 (no_order e.call e.answer keeps) in
    seen_is t.live e.who.0 s.dirty w p
    ∙ ap (λ b. b && region_has (area_in s.dirty w) p) (ap (λ n. eqb n e.who.0) (thread_same past t tree w ∙ sym (ap (λ ws. thread_among ws w) lives)))
    ∙ ap (λ b. eqb (thread_of (e ∷ past) w) e.who.0 && b) (after.dirty w p)
  where
    thread_among : List Window → ℕ → ℕ
    thread_among ws w = unwrap_or (option_map (λ (x : Window). x.thread) (find_window ws w)) 0

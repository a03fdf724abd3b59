-- The order that an entry leaves is the order of the past with the entry.
use Rattle.std.proofs.Common.{◌≡◌, ◌∙◌, ℕ, ◌+◌, Bool, true, false, not, cond, eqb, List, [], ◌∷◌, ◌++◌, map, length, refl, sym, ap, subst}
use Rattle.std.specs.Prelude.{ℤ, filter, is_some}
use Rattle.std.proofs.lemmas.Bool.{true≢false, or_from}
use Rattle.std.proofs.lemmas.List.{append-nil, append_cancel_left}
use Rattle.win_num.specs.declared.message.Hwnd.{Hwnd}
use Rattle.win_num.specs.declared.message.Thread.{Thread}
use Rattle.win_num.specs.declared.names.TheConstants.{SWP_NOZORDER, WS_EX_TOPMOST}
use Rattle.win_rows.specs.declared.window.Window.{Window as KeptWindow}
use Rattle.win_rows.specs.Windows.{Windows, number_of}
use Rattle.win_order.specs.Kept.{is_child}
use Rattle.win_order.specs.Layers.{Layers, empty, inserted, kept, placed as put_at, siblings_of}
use Rattle.win_order.proofs.Booleans.{all_one, keep_all}
use Rattle.win_order.proofs.ChildLaws.{each_child}
use Rattle.win_order.proofs.KeptLaws.{empty_kept}
use Rattle.win_order.proofs.StandingLaws.{child_among}
use Rattle.user_model.specs.declared.call.Call.{Call}
use Rattle.user_model.specs.declared.call.Call.TheVariants as calls
use Rattle.user_model.specs.declared.entry.Answer.{Answer}
use Rattle.user_model.specs.declared.entry.Answer.TheVariants as answers
use Rattle.user_model.specs.declared.entry.Entry.{Entry}
use Rattle.user_model.specs.declared.entry.Setup.{Setup}
use Rattle.user_model.specs.Past.{Past, is_refusal, is_refused}
use Rattle.user_model.specs.Places.{ends_thread}
use Rattle.user_model.specs.Deeds.{deed}
use Rattle.user_model.specs.Idle.{reply}
use Rattle.user_model.specs.Legal.{IsLawful}
use Rattle.user_model.specs.Looks.{Look, look, shown_look, enabled_look, relooked}
use Rattle.user_model.specs.Machines.{entry_of}
use Rattle.user_model.specs.Windows.{Window, drops, drops_kin, find_window, has_flag, is_live, live, made_by, windows_made}
use Rattle.user_model.specs.ZOrder.{after_of, hwnd, is_pinned, rearranged, siblings, still_live}
use Rattle.user_model.proofs.DeliveryReplies.{end_told}
use Rattle.user_model.proofs.LiveWindows.{made_by-other, new_window, sound}
use Rattle.user_model.proofs.ReplyLaws.{by_row}
use Rattle.user_model.proofs.PastLaws.{first_way, other_way}
use Rattle.user_model.proofs.WindowLaws.{live-next, live-refused, live-same}
use Rattle.user_model.proofs.WindowLooks.{look-next, look-refused}
use Rattle.user_model.proofs.WindowReplies.{drop_okay, new_window_told}
use Rattle.window_state.specs.Trees.{as_made, IsTreeAt}
use Rattle.window_state.specs.Effects.{IsAddedBy, IsMadeBy}
use Rattle.window_state.specs.Orders.{IsEntered, IsOrderAdded, IsOrderAt, added_as, affected_order, kept_by, reordered, with_row}
use Rattle.window_state.proofs.NewWindows.{new_as_made}
use Rattle.window_state.proofs.OrdersLeft.{numbers, order_left}
use Rattle.window_state.proofs.OrdersMade.{made_pinned, order_made}
use Rattle.window_state.proofs.OrdersPlaced.{map_twice, order_moved, order_stays, standings_same}
use Rattle.window_state.proofs.Standings.{stands_at}

-- whether an answered call may change the order
abbrev pub changes_order : Call → Answer → Bool
changes_order call answers.Ended = true
changes_order (calls.NewWindow name title parent style ex l t r b) (answers.Window w) = true
changes_order (calls.Drop w) answers.Okay = true
changes_order (calls.Place w after l t r b flags) (answers.Value v) = true
changes_order _ _ = false

ends_none : (who : Thread) (call : Call) (a : Answer) (t : ℕ) → changes_order call a ≡ false → ends_thread (entry_of who call a) t ≡ false
ends_none who call answers.Ended t h = absurd (true≢false h)
ends_none who call _ t h = refl

makes_none : (who : ℕ) (call : Call) (a : Answer) (ws : List Window) → changes_order call a ≡ false → made_by who a call ws ≡ []
makes_none who (calls.NewWindow name title parent style ex l t r b) (answers.Window w) ws h = absurd (true≢false h)
makes_none who (calls.NewWindow name title parent style ex l t r b) _ ws h = refl
makes_none who call a ws h = made_by-other who a call ws refl

okay_drops : (v : ℕ) (a : Answer) → a ≡ answers.Okay → changes_order (calls.Drop v) a ≡ true
okay_drops v a e = ap (changes_order (calls.Drop v)) e

drops_none : (setup : Setup) (past : Past) (who : ℕ) (call : Call) (a : Answer) (ws : List Window) (x : Window) → a ≡ reply setup past who call → is_refusal a ≡ false → changes_order call a ≡ false → drops_kin call ws x ≡ false
drops_none setup past who (calls.Drop v) a ws x e right h = absurd (true≢false (sym (okay_drops v a (drop_okay setup past who v a (sym e) right)) ∙ h))
drops_none setup past who _ a ws x e right h = refl

flag_stays : (w : ℕ) (call : Call) (a : Answer) (old : Look) → changes_order call a ≡ false → (relooked w a (deed call) old).ex ≡ old.ex
flag_stays w (calls.NewWindow name title parent style ex l t r b) (answers.Window v) old h = absurd (true≢false h)
flag_stays w (calls.NewWindow name title parent style ex l t r b) _ old h = refl
flag_stays w (calls.Place v after l t r b flags) (answers.Value n) old h = absurd (true≢false h)
flag_stays w (calls.Place v after l t r b flags) _ old h = refl
flag_stays w (calls.Show v on) (answers.Value n) old h = by (eqb v w)
  where
    by : (c : Bool) → (cond c (shown_look (eqb on 1) old) old).ex ≡ old.ex
    by true = refl
    by false = refl
flag_stays w (calls.Show v on) _ old h = refl
flag_stays w (calls.Enable v on) (answers.Value n) old h = by (eqb v w)
  where
    by : (c : Bool) → (cond c (enabled_look (eqb on 1) old) old).ex ≡ old.ex
    by true = refl
    by false = refl
flag_stays w (calls.Enable v on) _ old h = refl
flag_stays w _ a old h = refl

-- where all siblings are live still, a call that doesn't change the order leaves them
rearranged_none : (past : Past) (q : ℕ) (call : Call) (a : Answer) (ws : List Hwnd) → changes_order call a ≡ false → still_live past ws ≡ ws → rearranged past q a (deed call) ws ≡ ws
rearranged_none past q (calls.NewWindow name title parent style ex l t r b) (answers.Window v) ws h all = absurd (true≢false h)
rearranged_none past q (calls.NewWindow name title parent style ex l t r b) _ ws h all = refl
rearranged_none past q (calls.Place v after l t r b flags) (answers.Value n) ws h all = absurd (true≢false h)
rearranged_none past q (calls.Place v after l t r b flags) _ ws h all = refl
rearranged_none past q _ a ws h all = all

-- any other entry leaves the live windows
pub live_rest : (setup : Setup) (past : Past) (e : Entry) → e.answer ≡ reply setup past e.who.0 e.call → changes_order e.call e.answer ≡ false → live (e ∷ past) ≡ live past
live_rest setup past e right h = pick (is_refused e) refl
  where
    pick : (b : Bool) → is_refused e ≡ b → live (e ∷ past) ≡ live past
    pick true refused = live-refused e past refused
    pick false fine = live-same e past (makes_none e.who.0 e.call e.answer (live past) h)
        (λ x. or_from (drops_kin e.call (live past) x) (ends_thread e x.thread) (drops_none setup past e.who.0 e.call e.answer (live past) x right fine h) (ends_none e.who e.call e.answer x.thread h))

-- and the order
pub order_rest : (setup : Setup) (past : Past) (e : Entry) (z : Layers) → IsOrderAt past z → e.answer ≡ reply setup past e.who.0 e.call → changes_order e.call e.answer ≡ false → IsOrderAt (e ∷ past) z
order_rest setup past e z at right h = pick (is_refused e) refl
  where
    pick : (b : Bool) → is_refused e ≡ b → IsOrderAt (e ∷ past) z
    pick true refused = record {
      standings = at.standings ∙ sym (standings_same past e (live-refused e past refused) (λ v. ap (λ (k : Look). eqb k.ex WS_EX_TOPMOST) (look-refused e past v refused)));
      lists = λ q. at.lists q ∙ sym (first_way (is_refused e) (siblings past q) (rearranged (e ∷ past) q e.answer (deed e.call) (siblings past q)) refused);
      kept = at.kept;
    }
    pick false fine =
        let same : live (e ∷ past) ≡ live past = live_rest setup past e right h in
        let all : (q : ℕ) → still_live (e ∷ past) (siblings past q) ≡ siblings past q = λ q.
        ap (still_live (e ∷ past)) (sym (at.lists q))
        ∙ (keep_all (λ (v : Hwnd). is_live (e ∷ past) v.0) (siblings_of q z)
        (all_one (λ (v : Hwnd). is_child v.0 q z.standings) (λ v. is_live (e ∷ past) v.0) (λ v child. ap (λ (ws : List Window). is_some (find_window ws v.0)) same ∙ (sym (stands_at past z at v.0) ∙ child_among v.0 q z.standings child)) (siblings_of q z) (each_child z at.kept q))
        ∙ at.lists q) in
        record {
          standings = at.standings ∙ sym (standings_same past e same (λ v. ap (λ (k : Look). eqb k.ex WS_EX_TOPMOST) (look-next e past v fine) ∙ ap (λ n. eqb n WS_EX_TOPMOST) (flag_stays v e.call e.answer (look past v) h)));
          lists = λ q. at.lists q ∙ sym (other_way (is_refused e) (siblings past q) (rearranged (e ∷ past) q e.answer (deed e.call) (siblings past q)) fine ∙ rearranged_none (e ∷ past) q e.call e.answer (siblings past q) h (all q));
          kept = at.kept;
        }

-- the numbers of the table are those of the live windows
pub as_numbers : (past : Past) (t : Windows) → IsTreeAt past t → numbers (live past) ≡ map number_of t.live
as_numbers past t at = ap numbers (sym at.windows) ∙ map_twice as_made (λ (x : Window). hwnd x.number) t.live

-- the order with the windows alone that are live still
left_past : (setup : Setup) (past : Past) (e : Entry) (z : Layers) → IsLawful setup past → e.answer ≡ reply setup past e.who.0 e.call → is_refused e ≡ false → made_by e.who.0 e.answer e.call (live past) ≡ [] → ((v : ℕ) → is_pinned (e ∷ past) v ≡ is_pinned past v) → ((q : ℕ) → siblings (e ∷ past) q ≡ still_live (e ∷ past) (siblings past q))
    → IsOrderAt past z → IsOrderAt (e ∷ past) (kept (numbers (live (e ∷ past))) z)
left_past setup past e z lawful right fine none pins lists at =
    let same : live (e ∷ past) ≡ filter (λ x. not (drops e (live past) x)) (live past) = live-next e past fine ∙ (ap (λ us. filter (λ x. not (drops e (live past) x)) (live past) ++ us) none ∙ append-nil (filter (λ x. not (drops e (live past) x)) (live past))) in
    order_left past e (λ x. not (drops e (live past) x)) 15 (15 + length (windows_made past)) same (sound setup past lawful).rising z at (sound setup (e ∷ past) (lawful, right)).under pins lists

left_order : (setup : Setup) (past : Past) (e : Entry) (new : Windows) (z : Layers) → IsLawful setup past → e.answer ≡ reply setup past e.who.0 e.call → is_refused e ≡ false → made_by e.who.0 e.answer e.call (live past) ≡ [] → ((v : ℕ) → is_pinned (e ∷ past) v ≡ is_pinned past v) → ((q : ℕ) → siblings (e ∷ past) q ≡ still_live (e ∷ past) (siblings past q))
    → IsOrderAt past z → IsTreeAt (e ∷ past) new → IsOrderAt (e ∷ past) (kept_by new z)
left_order setup past e new z lawful right fine none pins lists at tree =
    subst (λ (ns : List Hwnd). IsOrderAt (e ∷ past) (kept ns z)) (as_numbers (e ∷ past) new tree) (left_past setup past e z lawful right fine none pins lists at)

-- with a new window
entered : (setup : Setup) (past : Past) (t mid : Windows) (z z1 : Layers) (who : Thread) (name title parent style ex : ℕ) (l top r b : ℤ) (w : Hwnd) → IsLawful setup past → IsTreeAt past t → IsOrderAt past z → reply setup past who.0 (calls.NewWindow name title parent style ex l top r b) ≡ answers.Window w
    → IsMadeBy who.0 (calls.NewWindow name title parent style ex l top r b) t mid → IsEntered t mid z z1 → IsOrderAt (entry_of who (calls.NewWindow name title parent style ex l top r b) (answers.Window w) ∷ past) z1
entered setup past t mid z z1 who name title parent style ex l top r b w lawful tree at right made in_order =
    let e = entry_of who (calls.NewWindow name title parent style ex l top r b) (answers.Window w) in
    let k : KeptWindow = added_as t made.0 in
    let lists : t.live ++ in_order.0 ∷ [] ≡ t.live ++ k ∷ [] = sym in_order.1 ∙ ap (λ (m : Windows). m.live) made.3 in
    let one : in_order.0 ∷ [] ≡ k ∷ [] = append_cancel_left t.live (in_order.0 ∷ []) (k ∷ []) lists in
    let same : in_order.0 ≡ k = cc in
    let new = new_window_told setup past who.0 name title parent style ex l top r b w right in
    let is : as_made k ≡ new_window who name title parent style ex l top r b w (live past) = new_as_made setup past t who name title parent style ex l top r b w made.0 tree made.1 new in
    let flag : eqb k.row.ex WS_EX_TOPMOST ≡ is_pinned (e ∷ past) w.0 = ap (λ n. eqb n WS_EX_TOPMOST) (made.1).ex_bits ∙ sym (made_pinned setup past who name title parent style ex l top r b w z lawful right at) in
    subst (IsOrderAt (e ∷ past)) (sym (in_order.2 ∙ (ap (λ (y : KeptWindow). with_row y z) same
    ∙ (ap (λ (y : Window). inserted (hwnd y.number) (hwnd y.parent) (hwnd y.owner) (eqb k.row.ex WS_EX_TOPMOST) z) is
    ∙ (let x = new_window who name title parent style ex l top r b w (live past) in ap (λ c. inserted (hwnd x.number) (hwnd x.parent) (hwnd x.owner) c z) flag)))))
    (order_made setup past who name title parent style ex l top r b w z lawful right at)

-- with a window placed
put_there : (setup : Setup) (past : Past) (z : Layers) (who : Thread) (w : ℕ) (after l top r b : ℤ) (flags n : ℕ) → reply setup past who.0 (calls.Place w after l top r b flags) ≡ answers.Value n → IsOrderAt past z
    → IsOrderAt (entry_of who (calls.Place w after l top r b flags) (answers.Value n) ∷ past) (reordered w after flags z)
put_there setup past z who w after l top r b flags n right at = pick (has_flag flags SWP_NOZORDER) refl
  where
    pick : (c : Bool) → has_flag flags SWP_NOZORDER ≡ c → IsOrderAt (entry_of who (calls.Place w after l top r b flags) (answers.Value n) ∷ past) (reordered w after flags z)
    pick true k = subst (IsOrderAt (entry_of who (calls.Place w after l top r b flags) (answers.Value n) ∷ past)) (sym (ap (λ c. cond c z (put_at (hwnd w) (after_of after) z)) k)) (order_stays setup past who w after l top r b flags n z right at k)
    pick false k = subst (IsOrderAt (entry_of who (calls.Place w after l top r b flags) (answers.Value n) ∷ past)) (sym (ap (λ c. cond c z (put_at (hwnd w) (after_of after) z)) k)) (order_moved setup past who w after l top r b flags n z right at k)

follows : (setup : Setup) (past : Past) (t mid new : Windows) (z z1 : Layers) (who : Thread) (a : Answer) (call : Call) → IsLawful setup past → IsTreeAt past t → IsTreeAt (entry_of who call a ∷ past) new → IsOrderAt past z → a ≡ reply setup past who.0 call
    → IsAddedBy who.0 a call t mid → IsOrderAdded a call t mid z z1 → IsOrderAt (entry_of who call a ∷ past) (affected_order a call new z1)
follows setup past t mid new z z1 who (answers.Window w) (calls.NewWindow name title parent style ex l top r b) lawful tree after at right made in_order =
    entered setup past t mid z z1 who name title parent style ex l top r b w lawful tree at (sym right) made in_order
follows setup past t mid new z z1 who (answers.Value n) (calls.Place w to l top r b flags) lawful tree after at right made in_order =
    subst (IsOrderAt (entry_of who (calls.Place w to l top r b flags) (answers.Value n) ∷ past)) (sym in_order) (put_there setup past z who w to l top r b flags n (sym right) at)
follows setup past t mid new z z1 who answers.Okay (calls.Drop v) lawful tree after at right made in_order =
    subst (λ (y : Layers). IsOrderAt (entry_of who (calls.Drop v) answers.Okay ∷ past) (kept_by new y)) (sym in_order)
    (left_order setup past (entry_of who (calls.Drop v) answers.Okay) new z lawful right refl refl (λ w. refl) (λ q. refl) at after)
follows setup past t mid new z z1 who answers.Ended call lawful tree after at right made in_order =
    let is_end : call ≡ calls.EndThread = end_told setup past who.0 call (by_row setup past who.0 call answers.Ended (sym right) refl).is_row in
    subst (λ (y : Layers). IsOrderAt (entry_of who call answers.Ended ∷ past) (kept_by new y)) (sym in_order)
    (ended setup past new z who call lawful is_end right at after)
  where
    ended : (setup : Setup) (past : Past) (new : Windows) (z : Layers) (who : Thread) (call : Call) → IsLawful setup past → call ≡ calls.EndThread → answers.Ended ≡ reply setup past who.0 call → IsOrderAt past z → IsTreeAt (entry_of who call answers.Ended ∷ past) new → IsOrderAt (entry_of who call answers.Ended ∷ past) (kept_by new z)
    ended setup past new z who calls.EndThread lawful is right at after = left_order setup past (entry_of who calls.EndThread answers.Ended) new z lawful right refl refl (λ w. refl) (λ q. refl) at after
    ended setup past new z who _ lawful is right at after = absurd cc
follows setup past t mid new z z1 who answers.Okay call lawful tree after at right made in_order =
    subst (IsOrderAt (entry_of who call answers.Okay ∷ past)) (sym in_order) (order_rest setup past (entry_of who call answers.Okay) z at right refl)
follows setup past t mid new z z1 who (answers.Value n) call lawful tree after at right made in_order =
    subst (IsOrderAt (entry_of who call (answers.Value n) ∷ past)) (sym in_order) (order_rest setup past (entry_of who call (answers.Value n)) z at right refl)
follows setup past t mid new z z1 who (answers.Window w) call lawful tree after at right made in_order =
    subst (IsOrderAt (entry_of who call (answers.Window w) ∷ past)) (sym in_order) (order_rest setup past (entry_of who call (answers.Window w)) z at right refl)
follows setup past t mid new z z1 who a call lawful tree after at right made in_order =
    subst (IsOrderAt (entry_of who call a ∷ past)) (sym in_order) (order_rest setup past (entry_of who call a) z at right refl)

-- the order that an entry leaves
pub order_after : (setup : Setup) (past : Past) (e : Entry) (t mid new : Windows) (z z1 z2 : Layers) → IsLawful setup past → IsTreeAt past t → IsTreeAt (e ∷ past) new → IsOrderAt past z → e.answer ≡ reply setup past e.who.0 e.call
    → IsAddedBy e.who.0 e.answer e.call t mid → IsOrderAdded e.answer e.call t mid z z1 → z2 ≡ affected_order e.answer e.call new z1 → IsOrderAt (e ∷ past) z2
order_after setup past e t mid new z z1 z2 lawful tree after at right made in_order left =
    subst (IsOrderAt (e ∷ past)) (sym left) (follows setup past t mid new z z1 e.who e.answer e.call lawful tree after at right made in_order)

-- an order of each lawful past
order_step : (setup : Setup) (past : Past) (who : Thread) (a : Answer) (call : Call) (z : Layers) → IsLawful setup past → IsOrderAt past z → a ≡ reply setup past who.0 call → (y : Layers) × IsOrderAt (entry_of who call a ∷ past) y
order_step setup past who (answers.Window w) (calls.NewWindow name title parent style ex l top r b) z lawful at right = (_, order_made setup past who name title parent style ex l top r b w z lawful (sym right) at)
order_step setup past who (answers.Value n) (calls.Place w to l top r b flags) z lawful at right = (reordered w to flags z, put_there setup past z who w to l top r b flags n (sym right) at)
order_step setup past who answers.Okay (calls.Drop v) z lawful at right = (_, left_past setup past (entry_of who (calls.Drop v) answers.Okay) z lawful right refl refl (λ w. refl) (λ q. refl) at)
order_step setup past who answers.Ended call z lawful at right =
    let is_end : call ≡ calls.EndThread = end_told setup past who.0 call (by_row setup past who.0 call answers.Ended (sym right) refl).is_row in
    (_, at_end call is_end right)
  where
    at_end : (c : Call) → c ≡ calls.EndThread → answers.Ended ≡ reply setup past who.0 c → IsOrderAt (entry_of who c answers.Ended ∷ past) (kept (numbers (live (entry_of who c answers.Ended ∷ past))) z)
    at_end calls.EndThread is told = left_past setup past (entry_of who calls.EndThread answers.Ended) z lawful told refl refl (λ w. refl) (λ q. refl) at
    at_end _ is told = absurd cc
order_step setup past who a call z lawful at right = (z, order_rest setup past (entry_of who call a) z at right refl)

pub order_of : (setup : Setup) (past : Past) → IsLawful setup past → (z : Layers) × IsOrderAt past z
order_of setup [] lawful = (empty, record { standings = refl; lists = λ p. refl; kept = empty_kept })
order_of setup (e ∷ past) lawful = let before = order_of setup past lawful.0 in order_step setup past e.who e.answer e.call before.0 lawful.0 before.1 lawful.1

-- The table of windows at a past with one entry more.
use Rattle.std.proofs.Common.{◌≡◌, ℕ, ◌+◌, Bool, true, false, not, eqb, List, [], ◌∷◌, ◌++◌, map, length, refl, ap, ◌∙◌, sym, inl, inr}
use Rattle.std.specs.Prelude.{◌||◌, filter}
use Rattle.std.specs.List.{AllByRecursion}
use Rattle.std.proofs.lemmas.Bool.{cases_Bool, eqb-true, eq-eqb, ne_eqb, eqb-false, true≢false, or_from}
use Rattle.std.proofs.lemmas.List.{append-nil}
use Rattle.win_num.specs.declared.message.Hwnd.{Hwnd}
use Rattle.win_num.specs.declared.message.Thread.{Thread}
use Rattle.win_rows.specs.declared.row.Unmade.TheVariants as unmade_as
use Rattle.win_rows.specs.declared.window.Window.{Window as KeptWindow}
use Rattle.win_rows.specs.Windows.{Windows, made, told_if, ended_if}
use Rattle.win_tree.specs.Kin.{doomed, doomed_if, dropped, without_thread}
use Rattle.win_tree.specs.Kin as kept_kin
use Rattle.win_rows.specs.Destruction.{given}
use Rattle.user_model.specs.declared.call.Call.{Call}
use Rattle.user_model.specs.declared.call.Call.TheVariants as calls
use Rattle.user_model.specs.declared.entry.Answer.{Answer}
use Rattle.user_model.specs.declared.entry.Answer.TheVariants as answers
use Rattle.user_model.specs.declared.entry.Entry.{Entry}
use Rattle.user_model.specs.declared.entry.Setup.{Setup}
use Rattle.user_model.specs.Past.{Past, is_refused, is_refusal}
use Rattle.user_model.specs.Places.{ends_thread}
use Rattle.user_model.specs.Windows.{Window, live, is_kin, made_by, drops, drops_kin, windows_made, numbers_made}
use Rattle.user_model.specs.Destruction.{Step, told, ended, is_marked, dooms, was_given, gives}
use Rattle.user_model.specs.Idle.{reply}
use Rattle.user_model.specs.Machines.{entry_of}
use Rattle.user_model.proofs.ListLaws.{all_weaker, all_filter}
use Rattle.user_model.proofs.PastLaws.{first_way}
use Rattle.user_model.proofs.Steps.{all_map}
use Rattle.user_model.proofs.WindowLaws.{live-refused, live-next, live-same, windows_made-same, is_marked-next, is_marked-same, was_given-next, was_given-same}
use Rattle.user_model.proofs.WindowReplies.{doom_okay, drop_okay}
use Rattle.user_model.proofs.LiveWindows.{made_by-other}
use Rattle.user_model.specs.Looks.{look}
use Rattle.user_model.proofs.WindowLooks.{changes_look, look-same, look-refused}
use Rattle.window_state.specs.Trees.{as_made, HasLook, HasMarks, IsTreeAt}
use Rattle.window_state.proofs.Bridges.{filter_made}
use Rattle.window_state.proofs.TreeFacts.{is_kin_at}

-- tests of two numbers agree whichever comes first
pub eqb_swap : (m n : ℕ) → eqb m n ≡ eqb n m
eqb_swap m n = elim (cases_Bool (eqb n m)) [
  | inl h ↦ eq-eqb m n (sym (eqb-true n m h)) ∙ sym h
  | inr h ↦ ne_eqb m n (λ e. eqb-false n m h (sym e)) ∙ sym h
]

-- marks that an entry leaves
pub marks_same : (past : Past) (e : Entry) → ((w : ℕ) → is_marked (e ∷ past) w ≡ is_marked past w) → ((i : Step) → was_given (e ∷ past) i ≡ was_given past i) → (x : KeptWindow) → HasMarks past x → HasMarks (e ∷ past) x
marks_same past e m g x h = record { marked = h.marked ∙ sym (m x.number.0); told = h.told ∙ sym (g (told x.number.0)); ended = h.ended ∙ sym (g (ended x.number.0)) }

-- how a window looks, where an entry leaves that
pub looks_same : (past late : Past) (x : KeptWindow) → look late x.number.0 ≡ look past x.number.0 → HasLook past x → HasLook late x
looks_same past late x stay h = record { looks = h.looks ∙ sym stay; fits = h.fits }

-- the same of all windows of a table, where an entry changes no look
all_looks : (past : Past) (e : Entry) (ws : List KeptWindow) → changes_look e.call e.answer ≡ false → AllByRecursion (HasLook past) ws → AllByRecursion (HasLook (e ∷ past)) ws
all_looks past e ws none = all_weaker (HasLook past) (HasLook (e ∷ past)) (λ x. looks_same past (e ∷ past) x (look-same e past x.number.0 none)) ws

-- an entry that makes, drops, dooms and gives nothing leaves the table
pub tree_same : (past : Past) (e : Entry) (t : Windows) → IsTreeAt past t → made_by e.who.0 e.answer e.call (live past) ≡ [] → numbers_made e.answer e.call ≡ [] → changes_look e.call e.answer ≡ false → ((x : Window) → drops e (live past) x ≡ false) → ((w : ℕ) → dooms e.call past w ≡ false) → ((i : Step) → gives e.answer i ≡ false) → IsTreeAt (e ∷ past) t
tree_same past e t at none no_number no_look keeps no_doom no_step = record {
  last = at.last ∙ ap (λ (ns : List ℕ). 15 + length ns) (sym (windows_made-same e past no_number));
  windows = at.windows ∙ sym (live-same e past none keeps);
  marks = all_weaker (HasMarks past) (HasMarks (e ∷ past)) (marks_same past e (λ w. is_marked-same e past w (no_doom w)) (λ i. was_given-same e past i (no_step i))) t.live at.marks;
  looks = all_looks past e t.live no_look at.looks;
}

-- a refused entry leaves the table
pub tree_refused : (past : Past) (e : Entry) (t : Windows) → IsTreeAt past t → is_refused e ≡ true → IsTreeAt (e ∷ past) t
tree_refused past e t at h = record {
  last = at.last ∙ ap (λ (ns : List ℕ). 15 + length ns) (sym (first_way (is_refused e) (windows_made past) (windows_made past ++ numbers_made e.answer e.call) h));
  windows = at.windows ∙ sym (live-refused e past h);
  marks = all_weaker (HasMarks past) (HasMarks (e ∷ past)) (marks_same past e
      (λ w. first_way (is_refused e) (is_marked past w) (elim (is_marked past w) as (λ c. Bool) [ true ↦ true | false ↦ dooms e.call past w ]) h)
      (λ i. first_way (is_refused e) (was_given past i) (elim (was_given past i) as (λ c. Bool) [ true ↦ true | false ↦ gives e.answer i ]) h)) t.live at.marks;
  looks = all_weaker (HasLook past) (HasLook (e ∷ past)) (λ x. looks_same past (e ∷ past) x (look-refused e past x.number.0 h)) t.live at.looks;
}

-- whether an answered call may change the table
abbrev pub changes_tree : Call → Answer → Bool
changes_tree call (answers.Tell v) = true
changes_tree call (answers.Last v) = true
changes_tree call answers.Ended = true
changes_tree (calls.NewWindow name title parent style ex l t r b) (answers.Window w) = true
changes_tree (calls.Doom w) answers.Okay = true
changes_tree (calls.Drop w) answers.Okay = true
changes_tree (calls.Place w after l t r b flags) (answers.Value v) = true
changes_tree (calls.Show w on) (answers.Value v) = true
changes_tree (calls.Enable w on) (answers.Value v) = true
changes_tree _ _ = false

gives_none : (call : Call) (a : Answer) (i : Step) → changes_tree call a ≡ false → gives a i ≡ false
gives_none call (answers.Tell v) i h = absurd (true≢false h)
gives_none call (answers.Last v) i h = absurd (true≢false h)
gives_none call _ i h = refl

ends_none : (who : Thread) (call : Call) (a : Answer) (t : ℕ) → changes_tree call a ≡ false → ends_thread (entry_of who call a) t ≡ false
ends_none who call answers.Ended t h = absurd (true≢false h)
ends_none who call _ t h = refl

makes_none : (who : ℕ) (call : Call) (a : Answer) (ws : List Window) → changes_tree call a ≡ false → (made_by who a call ws ≡ []) × (numbers_made a call ≡ [])
makes_none who (calls.NewWindow name title parent style ex l t r b) (answers.Window w) ws h = absurd (true≢false h)
makes_none who (calls.NewWindow name title parent style ex l t r b) _ ws h = (refl, refl)
makes_none who call a ws h = (made_by-other who a call ws refl, refl)

looks_none : (call : Call) (a : Answer) → changes_tree call a ≡ false → changes_look call a ≡ false
looks_none (calls.NewWindow name title parent style ex l t r b) (answers.Window w) h = absurd (true≢false h)
looks_none (calls.NewWindow name title parent style ex l t r b) _ h = refl
looks_none (calls.Place w after l t r b flags) (answers.Value v) h = absurd (true≢false h)
looks_none (calls.Place w after l t r b flags) _ h = refl
looks_none (calls.Show w on) (answers.Value v) h = absurd (true≢false h)
looks_none (calls.Show w on) _ h = refl
looks_none (calls.Enable w on) (answers.Value v) h = absurd (true≢false h)
looks_none (calls.Enable w on) _ h = refl
looks_none _ a h = refl

okay_changes : (v : ℕ) (a : Answer) → a ≡ answers.Okay → changes_tree (calls.Doom v) a ≡ true
okay_changes v a e = ap (changes_tree (calls.Doom v)) e

okay_drops : (v : ℕ) (a : Answer) → a ≡ answers.Okay → changes_tree (calls.Drop v) a ≡ true
okay_drops v a e = ap (changes_tree (calls.Drop v)) e

dooms_none : (setup : Setup) (past : Past) (who : ℕ) (call : Call) (a : Answer) (w : ℕ) → a ≡ reply setup past who call → is_refusal a ≡ false → changes_tree call a ≡ false → dooms call past w ≡ false
dooms_none setup past who (calls.Doom v) a w e right h = absurd (true≢false (sym (okay_changes v a (doom_okay setup past who v a (sym e) right)) ∙ h))
dooms_none setup past who _ a w e right h = refl

drops_none : (setup : Setup) (past : Past) (who : ℕ) (call : Call) (a : Answer) (ws : List Window) (x : Window) → a ≡ reply setup past who call → is_refusal a ≡ false → changes_tree call a ≡ false → drops_kin call ws x ≡ false
drops_none setup past who (calls.Drop v) a ws x e right h = absurd (true≢false (sym (okay_drops v a (drop_okay setup past who v a (sym e) right)) ∙ h))
drops_none setup past who _ a ws x e right h = refl

-- any other entry leaves the table
pub tree_rest : (setup : Setup) (past : Past) (e : Entry) (t : Windows) → IsTreeAt past t → e.answer ≡ reply setup past e.who.0 e.call → changes_tree e.call e.answer ≡ false → IsTreeAt (e ∷ past) t
tree_rest setup past e t at right h = pick (is_refused e) refl
  where
    pick : (b : Bool) → is_refused e ≡ b → IsTreeAt (e ∷ past) t
    pick true refused = tree_refused past e t at refused
    pick false fine =
        let none = makes_none e.who.0 e.call e.answer (live past) h in
        tree_same past e t at none.0 none.1 (looks_none e.call e.answer h)
        (λ x. or_from (drops_kin e.call (live past) x) (ends_thread e x.thread) (drops_none setup past e.who.0 e.call e.answer (live past) x right fine h) (ends_none e.who e.call e.answer x.thread h))
        (λ w. dooms_none setup past e.who.0 e.call e.answer w right fine h)
        (λ i. gives_none e.call e.answer i h)

-- a change of marks or looks alone
same_made : (f : KeptWindow → KeptWindow) → ((x : KeptWindow) → as_made (f x) ≡ as_made x) → (ws : List KeptWindow) → map as_made (map f ws) ≡ map as_made ws
same_made f h [] = refl
same_made f h (x ∷ ws) = ap (λ (y : Window). y ∷ map as_made (map f ws)) (h x) ∙ ap (λ (ys : List Window). as_made x ∷ ys) (same_made f h ws)

-- an entry that changes marks or looks alone, of each window as the table does
pub remarked : (past : Past) (e : Entry) (t : Windows) (f : KeptWindow → KeptWindow) → IsTreeAt past t → numbers_made e.answer e.call ≡ [] → live (e ∷ past) ≡ live past → ((x : KeptWindow) → as_made (f x) ≡ as_made x) → ((x : KeptWindow) → HasLook past x → HasLook (e ∷ past) (f x)) → ((x : KeptWindow) → HasMarks past x → HasMarks (e ∷ past) (f x)) → IsTreeAt (e ∷ past) (record t { live = map f t.live })
remarked past e t f at none same made looks mark = record {
  last = at.last ∙ ap (λ (ns : List ℕ). 15 + length ns) (sym (windows_made-same e past none));
  windows = same_made f made t.live ∙ (at.windows ∙ sym same);
  marks = all_map (HasMarks (e ∷ past)) (HasMarks past) f mark t.live at.marks;
  looks = all_map (HasLook (e ∷ past)) (HasLook past) f looks t.live at.looks;
}

-- a window with its kin is marked
pub tree_doom : (past : Past) (t : Windows) (who : Thread) (v : ℕ) → IsTreeAt past t → IsTreeAt (entry_of who (calls.Doom v) answers.Okay ∷ past) (record t { live = doomed t.live v })
tree_doom past t who v at =
    let e = entry_of who (calls.Doom v) answers.Okay in
    remarked past e t (doomed_if t.live v) at refl (live-same e past refl (λ x. refl)) (λ x. refl) (λ x h. record { looks = h.looks ∙ sym (look-same e past x.number.0 refl); fits = h.fits })
    (λ x h. record {
      marked = ap (λ b. b || kept_kin.is_kin t.live v x.number.0) h.marked ∙ (ap (λ b. is_marked past x.number.0 || b) (sym (is_kin_at past t at v x.number.0)) ∙ sym (is_marked-next e past x.number.0 refl));
      told = h.told ∙ sym (was_given-same e past (told x.number.0) refl);
      ended = h.ended ∙ sym (was_given-same e past (ended x.number.0) refl);
    })

-- a window is told
pub tree_tell : (past : Past) (t : Windows) (who : Thread) (w : ℕ) (v : Hwnd) → IsTreeAt past t → IsTreeAt (entry_of who (calls.Unmake w) (answers.Tell v) ∷ past) (record t { live = given (unmade_as.Tell v) t.live })
tree_tell past t who w v at =
    let e = entry_of who (calls.Unmake w) (answers.Tell v) in
    remarked past e t (told_if v.0) at refl (live-same e past refl (λ x. refl)) (λ x. refl) (λ x h. record { looks = h.looks ∙ sym (look-same e past x.number.0 refl); fits = h.fits })
    (λ x h. record {
      marked = h.marked ∙ sym (is_marked-same e past x.number.0 refl);
      told = ap (λ b. b || eqb x.number.0 v.0) h.told ∙ (ap (λ b. was_given past (told x.number.0) || b) (eqb_swap x.number.0 v.0) ∙ sym (was_given-next e past (told x.number.0) refl));
      ended = h.ended ∙ sym (was_given-same e past (ended x.number.0) refl);
    })

-- a window gets its last message
pub tree_last : (past : Past) (t : Windows) (who : Thread) (w : ℕ) (v : Hwnd) → IsTreeAt past t → IsTreeAt (entry_of who (calls.Unmake w) (answers.Last v) ∷ past) (record t { live = given (unmade_as.Last v) t.live })
tree_last past t who w v at =
    let e = entry_of who (calls.Unmake w) (answers.Last v) in
    remarked past e t (ended_if v.0) at refl (live-same e past refl (λ x. refl)) (λ x. refl) (λ x h. record { looks = h.looks ∙ sym (look-same e past x.number.0 refl); fits = h.fits })
    (λ x h. record {
      marked = h.marked ∙ sym (is_marked-same e past x.number.0 refl);
      told = h.told ∙ sym (was_given-same e past (told x.number.0) refl);
      ended = ap (λ b. b || eqb x.number.0 v.0) h.ended ∙ (ap (λ b. was_given past (ended x.number.0) || b) (eqb_swap x.number.0 v.0) ∙ sym (was_given-next e past (ended x.number.0) refl));
    })

-- an entry that takes windows out as the table does
taken_out : (past : Past) (e : Entry) (t : Windows) (q : KeptWindow → Bool) → IsTreeAt past t → is_refused e ≡ false → made_by e.who.0 e.answer e.call (live past) ≡ [] → numbers_made e.answer e.call ≡ [] → changes_look e.call e.answer ≡ false → ((x : KeptWindow) → not (drops e (live past) (as_made x)) ≡ q x) → ((w : ℕ) → dooms e.call past w ≡ false) → ((i : Step) → gives e.answer i ≡ false) → IsTreeAt (e ∷ past) (record t { live = filter q t.live })
taken_out past e t q at right none no_number no_look agree no_doom no_step = record {
  last = at.last ∙ ap (λ (ns : List ℕ). 15 + length ns) (sym (windows_made-same e past no_number));
  windows =
      sym (filter_made (λ x. not (drops e (live past) x)) q agree t.live)
      ∙ (ap (filter (λ x. not (drops e (live past) x))) at.windows
      ∙ (sym (append-nil (filter (λ x. not (drops e (live past) x)) (live past)))
      ∙ (ap (λ ws. filter (λ x. not (drops e (live past) x)) (live past) ++ ws) (sym none)
      ∙ sym (live-next e past right))));
  marks = all_filter (HasMarks (e ∷ past)) q t.live (all_weaker (HasMarks past) (HasMarks (e ∷ past)) (marks_same past e (λ w. is_marked-same e past w (no_doom w)) (λ i. was_given-same e past i (no_step i))) t.live at.marks);
  looks = all_filter (HasLook (e ∷ past)) q t.live (all_looks past e t.live no_look at.looks);
}

or_none : (b : Bool) → (b || false) ≡ b
or_none true = refl
or_none false = refl

-- a window is taken out with its kin
pub tree_drop : (past : Past) (t : Windows) (who : Thread) (v : ℕ) → IsTreeAt past t → IsTreeAt (entry_of who (calls.Drop v) answers.Okay ∷ past) (record t { live = dropped t.live v })
tree_drop past t who v at =
    taken_out past (entry_of who (calls.Drop v) answers.Okay) t (λ x. not (kept_kin.is_kin t.live v x.number.0)) at refl refl refl refl
    (λ x. ap not (or_none (is_kin (live past) v x.number.0) ∙ is_kin_at past t at v x.number.0)) (λ w. refl) (λ i. refl)

-- the windows of a thread are taken out
pub tree_end : (past : Past) (t : Windows) (who : Thread) → IsTreeAt past t → IsTreeAt (entry_of who calls.EndThread answers.Ended ∷ past) (record t { live = without_thread t.live who.0 })
tree_end past t who at =
    taken_out past (entry_of who calls.EndThread answers.Ended) t (λ x. not (eqb x.row.thread.0 who.0)) at refl refl refl refl
    (λ x. ap not (eqb_swap who.0 x.row.thread.0)) (λ w. refl) (λ i. refl)

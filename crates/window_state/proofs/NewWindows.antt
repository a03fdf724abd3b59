-- A new window in the table.
use Rattle.std.proofs.Common.{◌≡◌, ℕ, zero, suc, ◌+◌, ◌*◌, ◌^◌, ◌<◌, ◌≤◌, Bool, true, false, not, cond, eqb, List, [], ◌∷◌, ◌++◌, length, Some, None, refl, ap, ◌∙◌, sym, subst, arith}
use Rattle.std.specs.Prelude.{◌&&◌, ◌||◌, bit_and, ℤ, map}
use Rattle.std.specs.List.{AllByRecursion}
use Rattle.std.proofs.lemmas.Bool.Decides.{nat_tests}
use Rattle.win_rows.specs.declared.window.Window.{Window as KeptWindow}
use Rattle.std.proofs.lemmas.Bool.{eqb-true, eq-eqb, ne_eqb, eqb-false, true≢false, leb-false, and_right}
use Rattle.std.proofs.Math.Dec.{leb}
use Rattle.std.specs.Int.{bit_at}
use Rattle.std.proofs.lemmas.Nat.Bits.{and_pow, bit_at-lt}
use Rattle.std.proofs.lemmas.List.{length-append, map-append}
use Rattle.win_num.specs.Rects.{box_in}
use Rattle.win_num.specs.PixelSets.{Box, box}
use Rattle.win_num.specs.declared.names.TheConstants.{WS_CHILD}
use Rattle.win_num.specs.declared.message.Hwnd.{Hwnd}
use Rattle.win_num.specs.declared.message.Thread.{Thread}
use Rattle.win_num.specs.declared.code.Code.TheVariants.{Win, Full}
use Rattle.win_rows.specs.declared.row.WindowRow.{WindowRow}
use Rattle.win_rows.specs.Windows.{Windows, made, nobody}
use Rattle.win_rows.specs.Windows as kept
use Rattle.win_tree.specs.Kin.{with_window, settled, next_number, refusal, is_bad, makes_child, doom_refusal, drop_refusal}
use Rattle.win_tree.specs.Kin as kept_kin
use Rattle.user_model.specs.declared.call.Call.TheVariants as calls
use Rattle.user_model.specs.declared.entry.Answer.TheVariants as answers
use Rattle.user_model.specs.declared.entry.Setup.{Setup}
use Rattle.user_model.specs.Past.{Past}
use Rattle.user_model.specs.Windows.{Window, has_flag, live, is_live, top_of, windows_made}
use Rattle.user_model.specs.Destruction.{told, ended, is_marked, was_given}
use Rattle.user_model.specs.Idle.{reply}
use Rattle.user_model.specs.Legal.{IsLawful}
use Rattle.user_model.specs.Machines.{entry_of}
use Rattle.user_model.specs.ReplyWindows.{is_no_parent}
use Rattle.user_model.proofs.ListLaws.{all_weaker, all_append}
use Rattle.user_model.proofs.ReplyLaws.{by_call}
use Rattle.user_model.proofs.WindowLaws.{windows_made-next, is_marked-same, was_given-same}
use Rattle.user_model.proofs.WindowReplies.{IsNewWindow, new_window_told, doom_told, drop_told}
use Rattle.user_model.proofs.LiveWindows.{new_window, live-new, sound}
use Rattle.user_model.proofs.WindowFacts.{new_unmarked, new_ungiven, made_few}
use Rattle.user_model.proofs.Forests.{IsBetween, all_between, all_both}
use Rattle.user_model.specs.Looks.{look_of}
use Rattle.user_model.specs.Refusals.{is_no_rect}
use Rattle.user_model.proofs.WindowLooks.{look-new, look-other}
use Rattle.window_state.specs.Trees.{as_made, HasLook, HasMarks, IsTreeAt}
use Rattle.window_state.proofs.TreeLaws.{looks_same}
use Rattle.window_state.specs.Effects.{IsRowOf}
use Rattle.window_state.proofs.TreeFacts.{is_live_at, is_marked_at, is_ended_at, top_of_at, length_at}

-- a window from its fields
abbrev window_from : ℕ → ℕ → ℕ → ℕ → ℕ → ℕ → Window
window_from number thread class title parent owner = record { number = number; thread = thread; class = class; title = title; parent = parent; owner = owner }

same_fields : (n n' t t' c c' i i' p p' o o' : ℕ) → n ≡ n' → t ≡ t' → c ≡ c' → i ≡ i' → p ≡ p' → o ≡ o' → window_from n t c i p o ≡ window_from n' t' c' i' p' o'
same_fields n n' t t' c c' i i' p p' o o' en et ec ei ep eo = cc

owner_kept : (past : Past) (t : Windows) (at : IsTreeAt past t) (parent : ℕ) (row : WindowRow) (child : Bool) → (child && eqb parent 0) ≡ false → row.parent.0 ≡ cond child parent 0 → row.owner.0 ≡ cond child 0 parent → (cond (eqb row.parent.0 0) (kept_kin.top_of t.live row.owner) nobody).0 ≡ cond child 0 (top_of (live past) parent)
owner_kept past t at parent row true some p o =
    let not_zero : eqb row.parent.0 0 ≡ false = ap (λ n. eqb n 0) p ∙ some in
    ap (λ b. (cond b (kept_kin.top_of t.live row.owner) nobody).0) not_zero
owner_kept past t at parent row false some p o =
    let is_zero : eqb row.parent.0 0 ≡ true = eq-eqb row.parent.0 0 p in
    ap (λ b. (cond b (kept_kin.top_of t.live row.owner) nobody).0) is_zero
    ∙ (sym (top_of_at past t at row.owner) ∙ ap (top_of (live past)) o)

-- the new window as the table keeps it
pub new_as_made : (setup : Setup) (past : Past) (t : Windows) (who : Thread) (name title parent style ex : ℕ) (l top r b : ℤ) (w : Hwnd) (row : WindowRow) → IsTreeAt past t → IsRowOf who.0 name title parent style ex row → IsNewWindow setup past who.0 name parent style ex l top r b w → as_made (made (next_number t) (settled t.live row)) ≡ new_window who name title parent style ex l top r b w (live past)
new_as_made setup past t who name title parent style ex l top r b w row at is new =
    let number : suc t.last ≡ w.0 = (let e = at.last in let n = ap (λ (v : Hwnd). v.0) new.is_next in omega (arith, e, n)) in
    same_fields (suc t.last) w.0 row.thread.0 who.0 row.class name row.title title row.parent.0 (cond (has_flag style WS_CHILD) parent 0) (cond (eqb row.parent.0 0) (kept_kin.top_of t.live row.owner) nobody).0 (cond (has_flag style WS_CHILD) 0 (top_of (live past) parent))
    number is.thread is.class_name is.title_name is.parent (owner_kept past t at parent row (has_flag style WS_CHILD) new.some_parent is.parent is.owner)

all_unmapped : (P : Window → Type 0) (ws : List KeptWindow) → AllByRecursion P (map as_made ws) → AllByRecursion (λ x. P (as_made x)) ws
all_unmapped P [] h = tt
all_unmapped P (x ∷ ws) h = (h.0, all_unmapped P ws h.1)

-- the numbers of the table are no higher than the last that was given
numbers_low : (setup : Setup) (past : Past) (t : Windows) → IsLawful setup past → IsTreeAt past t → AllByRecursion (λ x. x.number.0 ≤ t.last) t.live
numbers_low setup past t lawful at =
    let between = all_between 15 (15 + length (windows_made past)) (live past) (sound setup past lawful).rising in
    let kept = all_unmapped (IsBetween 15 (15 + length (windows_made past))) t.live (subst (AllByRecursion (IsBetween 15 (15 + length (windows_made past)))) (sym at.windows) between) in
    all_weaker (λ x. IsBetween 15 (15 + length (windows_made past)) (as_made x)) (λ x. x.number.0 ≤ t.last) (λ x b. let last = at.last in omega (arith, b.within, last)) t.live kept

-- what was set of the other windows stays where a window is made
old_looks : (past : Past) (t : Windows) (who : Thread) (name title parent style ex : ℕ) (l top r b : ℤ) (w : Hwnd) → AllByRecursion (λ x. x.number.0 ≤ t.last) t.live → suc t.last ≡ w.0 → AllByRecursion (HasLook past) t.live → AllByRecursion (HasLook (entry_of who (calls.NewWindow name title parent style ex l top r b) (answers.Window w) ∷ past)) t.live
old_looks past t who name title parent style ex l top r b w low number looks =
    let e = entry_of who (calls.NewWindow name title parent style ex l top r b) (answers.Window w) in
    all_weaker (λ x. (x.number.0 ≤ t.last) × HasLook past x) (HasLook (e ∷ past)) (λ x both.
    let other : eqb w.0 x.number.0 ≡ false = (let h = both.0 in grind (arith, nat_tests, h, number)) in
    looks_same past (e ∷ past) x (look-other past who name title parent style ex l top r b w x.number.0 other) both.1)
    t.live (all_both (λ x. x.number.0 ≤ t.last) (HasLook past) t.live low looks)

same_look : (s s' x x' : ℕ) (b b' : Box) → s ≡ s' → x ≡ x' → b ≡ b' → look_of s x b ≡ look_of s' x' b'
same_look s s' x x' b b' es ex eb = cc

window_rect : (row : WindowRow) (l top r b : ℤ) → box_in row.place ≡ box l top r b → is_no_rect l top r b ≡ false → is_no_rect row.place.l row.place.t row.place.r row.place.b ≡ false
window_rect row l top r b place good = ap (λ (x : Box). is_no_rect x.left x.top x.right x.bottom) place ∙ good

-- a window is made
pub tree_new : (setup : Setup) (past : Past) (t : Windows) (who : Thread) (name title parent style ex : ℕ) (l top r b : ℤ) (w : Hwnd) (row : WindowRow) → IsLawful setup past → IsTreeAt past t → reply setup past who.0 (calls.NewWindow name title parent style ex l top r b) ≡ answers.Window w → IsRowOf who.0 name title parent style ex row → box_in row.place ≡ box l top r b → IsTreeAt (entry_of who (calls.NewWindow name title parent style ex l top r b) (answers.Window w) ∷ past) (with_window t row)
tree_new setup past t who name title parent style ex l top r b w row lawful at right is place =
    let e = entry_of who (calls.NewWindow name title parent style ex l top r b) (answers.Window w) in
    let new = new_window_told setup past who.0 name title parent style ex l top r b w right in
    let over : 15 + length (windows_made past) < suc t.last = (let h = at.last in omega (arith, h)) in
    let z = made (next_number t) (settled t.live row) in
    let number : suc t.last ≡ w.0 = (let n = at.last in let i = ap (λ (v : Hwnd). v.0) new.is_next in omega (arith, n, i)) in
    let looks = look-new past who name title parent style ex l top r b w (suc t.last) (eq-eqb w.0 (suc t.last) (sym number)) in
    record {
      last = (let h = at.last in omega (arith, h, ap (λ (ns : List ℕ). length ns) (windows_made-next e past refl), length-append (windows_made past) (w.0 ∷ [])));
      windows =
          map-append as_made t.live (z ∷ [])
          ∙ (ap (λ (ws : List Window). ws ++ as_made z ∷ []) at.windows
          ∙ (ap (λ (x : Window). live past ++ x ∷ []) (new_as_made setup past t who name title parent style ex l top r b w row at is new)
          ∙ sym (live-new past who name title parent style ex l top r b w)));
      marks = all_append (HasMarks (e ∷ past)) t.live (z ∷ [])
          (all_weaker (HasMarks past) (HasMarks (e ∷ past)) (λ x h. record {
            marked = h.marked ∙ sym (is_marked-same e past x.number.0 refl);
            told = h.told ∙ sym (was_given-same e past (told x.number.0) refl);
            ended = h.ended ∙ sym (was_given-same e past (ended x.number.0) refl);
          }) t.live at.marks) (
            record {
              marked = sym (is_marked-same e past (suc t.last) refl ∙ new_unmarked setup past (suc t.last) lawful over);
              told = sym (was_given-same e past (told (suc t.last)) refl ∙ new_ungiven setup past (told (suc t.last)) lawful over);
              ended = sym (was_given-same e past (ended (suc t.last)) refl ∙ new_ungiven setup past (ended (suc t.last)) lawful over);
            },
            tt,
          );
      looks = all_append (HasLook (e ∷ past)) t.live (z ∷ [])
          (old_looks past t who name title parent style ex l top r b w (numbers_low setup past t lawful at) number at.looks)
          (record { looks = same_look row.style style row.ex ex (box_in row.place) (box l top r b) is.style_bits is.ex_bits place ∙ sym looks; fits = window_rect row l top r b place new.good_edges }, tt);
    }

-- a live window that isn't marked, or 0, may be a parent
parent_good : (zero live unmarked : Bool) → not (zero || live && unmarked) ≡ false → (not zero && (not live || not unmarked)) ≡ false
parent_good true live unmarked h = refl
parent_good false true true h = refl
parent_good false true false h = absurd (true≢false h)
parent_good false false unmarked h = absurd (true≢false h)

marked_as : (live marked : Bool) → (not live || live && marked) ≡ (not live || not (not marked))
marked_as true true = refl
marked_as true false = refl
marked_as false marked = refl

good_at : (past : Past) (t : Windows) (at : IsTreeAt past t) (parent : ℕ) → is_no_parent past parent ≡ false → is_bad t.live parent ≡ false
good_at past t at parent h =
    ap (λ b. not (eqb parent 0) && (not b || kept.is_marked t.live parent)) (sym (is_live_at past t at parent))
    ∙ (ap (λ b. not (eqb parent 0) && (not (is_live past parent) || b)) (is_marked_at past t at parent)
    ∙ (ap (λ b. not (eqb parent 0) && b) (marked_as (is_live past parent) (is_marked past parent))
    ∙ parent_good (eqb parent 0) (is_live past parent) (not (is_marked past parent)) h))

-- bit 30 is set, or no bit of a child's style is
child_bit : (style : ℕ) → has_flag style WS_CHILD ≡ false → bit_and style WS_CHILD ≡ 0
child_bit style h = pick (bit_at style 30) refl (bit_at-lt style 30)
  where
    and_is : bit_and style WS_CHILD ≡ bit_at style 30 * 2 ^ 30
    and_is = and_pow style 30

    pick : (n : ℕ) → bit_at style 30 ≡ n → n < 2 → bit_and style WS_CHILD ≡ 0
    pick zero e lt = and_is ∙ ap (λ n. n * 2 ^ 30) e
    pick (suc zero) e lt = absurd (eqb-false (bit_and style WS_CHILD) WS_CHILD h (and_is ∙ ap (λ n. n * 2 ^ 30) e))
    pick (suc (suc n)) e lt = absurd (omega arith)

-- whether a style makes a child
pub makes_child-flag : (style : ℕ) → makes_child style ≡ has_flag style WS_CHILD
makes_child-flag style = pick (has_flag style WS_CHILD) refl
  where
    pick : (b : Bool) → has_flag style WS_CHILD ≡ b → not (eqb (bit_and style WS_CHILD) 0) ≡ b
    pick true h = ap not (ap (λ n. eqb n 0) (eqb-true (bit_and style WS_CHILD) WS_CHILD h))
    pick false h = ap not (eq-eqb (bit_and style WS_CHILD) 0 (child_bit style h))

none_bad : (bad owner child short last : Bool) → bad ≡ false → owner ≡ false → child ≡ false → short ≡ false → last ≡ false → cond (bad || owner) (Some (Win 1400)) (cond child (Some (Win 1406)) (cond (short || last) (Some Full) None)) ≡ None
none_bad bad owner child short last a b c d e =
    ap (λ x. cond (x || owner) (Some (Win 1400)) (cond child (Some (Win 1406)) (cond (short || last) (Some Full) None))) a
    ∙ (ap (λ x. cond x (Some (Win 1400)) (cond child (Some (Win 1406)) (cond (short || last) (Some Full) None))) b
    ∙ (ap (λ x. cond x (Some (Win 1406)) (cond (short || last) (Some Full) None)) c
    ∙ (ap (λ x. cond (x || last) (Some Full) None) d
    ∙ ap (λ x. cond x (Some Full) None) e)))

-- the table refuses no window that the machine makes
pub new_not_refused : (setup : Setup) (past : Past) (t : Windows) (who : Thread) (name title parent style ex : ℕ) (l top r b : ℤ) (w : Hwnd) (row : WindowRow) → IsLawful setup past → IsTreeAt past t → reply setup past who.0 (calls.NewWindow name title parent style ex l top r b) ≡ answers.Window w → IsRowOf who.0 name title parent style ex row → refusal t row ≡ None
new_not_refused setup past t who name title parent style ex l top r b w row lawful at right is =
    let new = new_window_told setup past who.0 name title parent style ex l top r b w right in
    let by = by_call setup past who.0 (calls.NewWindow name title parent style ex l top r b) (answers.Window w) right refl refl in
    let room : length past < 2097152 = leb-false 2097152 (length past) by.room in
    let few = made_few past in
    let last = at.last in
    let good : is_bad t.live parent ≡ false = good_at past t at parent new.good_parent in
    none_bad (is_bad t.live row.parent.0) (is_bad t.live row.owner.0) (makes_child row.style && eqb row.parent.0 0) (leb 1024 (length t.live)) (eqb t.last 4294967295)
    (ap (is_bad t.live) is.parent ∙ either (has_flag style WS_CHILD) good)
    (ap (is_bad t.live) is.owner ∙ either_other (has_flag style WS_CHILD) good)
    (ap (λ s. makes_child s && eqb row.parent.0 0) is.style_bits ∙ (ap (λ c. c && eqb row.parent.0 0) (makes_child-flag style) ∙ (ap (λ p. has_flag style WS_CHILD && eqb p 0) is.parent ∙ child_parent (has_flag style WS_CHILD) new.some_parent)))
    (ap (leb 1024) (sym (length_at past t at)) ∙ new.short)
    (ne_eqb t.last 4294967295 (λ e. omega (arith, e, last, few, room)))
  where
    either : (child : Bool) → is_bad t.live parent ≡ false → is_bad t.live (cond child parent 0) ≡ false
    either true h = h
    either false h = refl

    either_other : (child : Bool) → is_bad t.live parent ≡ false → is_bad t.live (cond child 0 parent) ≡ false
    either_other true h = refl
    either_other false h = h

    child_parent : (child : Bool) → (child && eqb parent 0) ≡ false → (child && eqb (cond child parent 0) 0) ≡ false
    child_parent true h = h
    child_parent false h = refl

-- nor any doom
pub doom_not_refused : (setup : Setup) (past : Past) (t : Windows) (who v : ℕ) → IsTreeAt past t → reply setup past who (calls.Doom v) ≡ answers.Okay → doom_refusal t.live v ≡ None
doom_not_refused setup past t who v at right =
    let d = doom_told setup past who v right in
    ap (λ b. cond (b && not (kept.is_marked t.live v)) None (Some (Win 1400))) (sym (is_live_at past t at v) ∙ d.0.is_live)
    ∙ ap (λ b. cond (not b) None (Some (Win 1400))) (is_marked_at past t at v ∙ (ap (λ b. is_live past v && b) d.1 ∙ and_right (is_live past v) false refl))

-- nor any drop
pub drop_not_refused : (setup : Setup) (past : Past) (t : Windows) (who v : ℕ) → IsTreeAt past t → reply setup past who (calls.Drop v) ≡ answers.Okay → drop_refusal t.live v ≡ None
drop_not_refused setup past t who v at right =
    let d = drop_told setup past who v right in
    ap (λ b. cond b (cond (kept.is_ended t.live v) None (Some (Win 87))) (Some (Win 1400))) (sym (is_live_at past t at v) ∙ d.0.is_live)
    ∙ ap (λ b. cond b None (Some (Win 87))) (is_ended_at past t at v ∙ (ap (λ b. b && was_given past (ended v)) d.0.is_live ∙ d.1))

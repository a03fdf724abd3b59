-- The colours of a lawful past are 0 to 15.
use Rattle.std.proofs.Common.{◌≡◌, ℕ, Bool, true, false, not, cond, eqb, List, [], ◌∷◌, ◌++◌, Option, Some, None, refl, sym, subst, arith}
use Rattle.std.specs.Prelude.{◌||◌, nat_lt, nat_le, map, filter, find, length, suc, is_some, IfSome, option_map, unwrap_or}
use Rattle.std.specs.List.{AllByRecursion}
use Rattle.std.proofs.lemmas.Bool.{or_parts}
use Rattle.std.proofs.lemmas.Bool.Decides.{nat_tests}
use Rattle.win_num.specs.declared.code.Code.TheVariants.{Full}
use Rattle.win_num.specs.declared.shapes.Point.{Point}
use Rattle.region_box.specs.Screens.{screen_points}
use Rattle.user_model.specs.declared.call.Call.{Call}
use Rattle.user_model.specs.declared.call.Call.TheVariants as calls
use Rattle.user_model.specs.declared.entry.Answer.{Answer}
use Rattle.user_model.specs.declared.entry.Answer.TheVariants as answers
use Rattle.user_model.specs.declared.entry.Setup.{Setup}
use Rattle.user_model.specs.Past.{Past, is_refusal, is_refused}
use Rattle.user_model.specs.Windows.{Window, window}
use Rattle.user_model.specs.Pixels.{owner}
use Rattle.user_model.specs.Classes.{Class, registered_count, registers, unregisters, classes, class, colour_of}
use Rattle.user_model.specs.Colours.{paints_in, colour}
use Rattle.user_model.specs.Dirty.{came_from, carries}
use Rattle.user_model.specs.Idle.{reply}
use Rattle.user_model.specs.Legal.{IsLawful}
use Rattle.user_model.specs.Refusals.{refuse, if_own, is_no_rect, invalid_parameter, class_already_exists}
use Rattle.user_model.proofs.ColourLaws.{colour-cases, colour-refused}
use Rattle.user_model.proofs.PastLaws.{first_way, standing-next}
use Rattle.user_model.proofs.ReplyLaws.{by_call, not_refused}
use Rattle.script_tree.specs.Tree.{Tree}
use Rattle.log_text.specs.Ends.{setup_of}
use Rattle.log_text.specs.Frames.{shown}
use Rattle.log_read.specs.Limits.{IsColour, HasColours}
use Rattle.log_read.specs.Logs.{LogEntryTree, log_entry_of, log_entries_of}
use Rattle.log_read.proofs.ListLaws.{all_append, all_push}

small : (k : ℕ) → nat_lt 15 k ≡ false → IsColour k
small k h = grind (arith, nat_tests, h)

-- ---- the colours of classes

abbrev HasColour : Class → Type 0
HasColour c = IsColour c.colour

all_filtered : {A : Type 0} (P : A → Type 0) (keeps : A → Bool) (xs : List A) → AllByRecursion P xs → AllByRecursion P (filter keeps xs)
all_filtered P keeps [] h = tt
all_filtered P keeps (x ∷ xs) h = pick (keeps x) (all_filtered P keeps xs h.1)
  where
    pick : (b : Bool) → AllByRecursion P (filter keeps xs) → AllByRecursion P (cond b (x ∷ filter keeps xs) (filter keeps xs))
    pick true more = (h.0, more)
    pick false more = more

found_has : {A : Type 0} (P : A → Type 0) (test : A → Bool) (xs : List A) → AllByRecursion P xs → IfSome (find test xs) P
found_has P test [] h = tt
found_has P test (x ∷ xs) h = pick (test x) (found_has P test xs h.1)
  where
    pick : (b : Bool) → IfSome (find test xs) P → IfSome (cond b (Some x) (find test xs)) P
    pick true more = h.0
    pick false more = more

-- a class is registered with a colour
registered_fits : (setup : Setup) (past : Past) (who : ℕ) (call : Call) (a : Answer) → reply setup past who call ≡ a → is_refusal a ≡ false → AllByRecursion HasColour (registers call past)
registered_fits setup past who (calls.Register name proc_no k) a e fine =
    let by = by_call setup past who (calls.Register name proc_no k) a e refl fine in
    let told = not_refused (nat_lt 15 k) invalid_parameter (refuse (is_some (class past name)) class_already_exists (refuse (nat_le 64 (length (classes past))) Full (answers.Value (suc (registered_count past))))) a fine by.is_row in
    (small k told.0, tt)
registered_fits setup past who _ a e fine = tt

classes_fit : (setup : Setup) (past : Past) → IsLawful setup past → AllByRecursion HasColour (classes past)
classes_fit setup [] lawful = tt
classes_fit setup (e ∷ past) lawful = by_refusal (classes_fit setup past lawful.0) (is_refused e) refl
  where
    by_refusal : AllByRecursion HasColour (classes past) → (refused : Bool) → is_refused e ≡ refused → AllByRecursion HasColour (classes (e ∷ past))
    by_refusal before true is =
        subst (AllByRecursion HasColour) (sym (first_way (is_refused e) (classes past) (filter (λ (c : Class). not (unregisters e.call c)) (classes past) ++ registers e.call past) is)) before
    by_refusal before false is =
        subst (AllByRecursion HasColour) (sym (standing-next (λ x was. registers x.call was) (λ x was c. unregisters x.call c) e past is))
        (all_append HasColour (filter (λ (c : Class). not (unregisters e.call c)) (classes past)) (registers e.call past)
        (all_filtered HasColour (λ (c : Class). not (unregisters e.call c)) (classes past) before)
        (registered_fits setup past e.who.0 e.call e.answer (sym lawful.1) is))

class_fits : (past : Past) (name : ℕ) → AllByRecursion HasColour (classes past) → IfSome (class past name) HasColour
class_fits past name h = found_has HasColour (λ (c : Class). eqb name c.name) (classes past) h

-- ---- the colours of pixels

colour_told : (o : Option Class) → IfSome o HasColour → IsColour (unwrap_or (option_map (λ (c : Class). c.colour) o) 0)
colour_told None h = omega arith
colour_told (Some c) h = h

abbrev class_in : Past → Option Window → Option Class
class_in past o = elim o as (λ _. Option Class) [ Some x ↦ class past x.class | None ↦ None ]

of_window : (past : Past) (o : Option Window) → AllByRecursion HasColour (classes past) → IfSome (class_in past o) HasColour
of_window past None h = tt
of_window past (Some x) h = class_fits past x.class h

window_colour : (past : Past) (w : ℕ) → AllByRecursion HasColour (classes past) → IsColour (colour_of past w)
window_colour past w h = colour_told (class_in past (window past w)) (of_window past (window past w) h)

given : (b : Bool) (k : ℕ) → IsColour k → IfSome (cond b (Some k) None) IsColour
given true k h = h
given false k h = tt

painted_fits : (setup : Setup) (past : Past) (who : ℕ) (p : Point) (call : Call) (a : Answer) → AllByRecursion HasColour (classes past) → reply setup past who call ≡ a → is_refusal a ≡ false → IfSome (paints_in setup p call past) IsColour
painted_fits setup past who p (calls.Fill w l t r b k) a h e fine =
    let by = by_call setup past who (calls.Fill w l t r b k) a e refl fine in
    let told = not_refused (is_no_rect l t r b || nat_lt 15 k) invalid_parameter (if_own past who w answers.Okay) a fine by.is_row in
    given _ k (small k (or_parts (is_no_rect l t r b) (nat_lt 15 k) told.0).1)
painted_fits setup past who p (calls.Erase w) a h e fine = given _ (colour_of past w) (window_colour past w h)
painted_fits setup past who p _ a h e fine = tt

either_fits : (bare carried : Bool) (brought old : ℕ) (o : Option ℕ) → IfSome o IsColour → IsColour brought → IsColour old → IsColour (cond bare 0 (cond carried brought (unwrap_or o old)))
either_fits true carried brought old o h k m = omega arith
either_fits false true brought old o h k m = k
either_fits false false brought old None h k m = m
either_fits false false brought old (Some n) h k m = h

colour_fits : (setup : Setup) (past : Past) (p : Point) → IsLawful setup past → IsColour (colour setup past p)
colour_fits setup [] p lawful = omega arith
colour_fits setup (e ∷ past) p lawful = by_refusal (λ q. colour_fits setup past q lawful.0) (is_refused e) refl
  where
    by_refusal : ((q : Point) → IsColour (colour setup past q)) → (refused : Bool) → is_refused e ≡ refused → IsColour (colour setup (e ∷ past) p)
    by_refusal before true is = subst IsColour (sym (colour-refused setup e past p is)) (before p)
    by_refusal before false is =
        let w = (owner setup (e ∷ past) p).0 in
        let painted = painted_fits setup past e.who.0 p e.call e.answer (classes_fit setup past lawful.0) (sym lawful.1) is in
        subst IsColour (sym (colour-cases setup e past p is))
        (either_fits (eqb w 0) (carries setup e past w p) (colour setup past (came_from e past w p)) (colour setup past p) (paints_in setup p e.call past) painted (before (came_from e past w p)) (before p))

-- ---- the colours of frames

points_fit : (setup : Setup) (past : Past) (ps : List Point) → IsLawful setup past → AllByRecursion IsColour (map (colour setup past) ps)
points_fit setup past [] lawful = tt
points_fit setup past (p ∷ ps) lawful = (colour_fits setup past p lawful, points_fit setup past ps lawful)

shown_colours : (setup : Setup) (past : Past) (a : Answer) → IsLawful setup past → IfSome (shown setup past a) (AllByRecursion IsColour)
shown_colours setup past (answers.Snap k) lawful = points_fit setup past (screen_points setup.width setup.height) lawful
shown_colours setup past _ lawful = tt

pub run_colours : (s : Tree) (past : Past) → IsLawful (setup_of s) past → HasColours s past
run_colours s [] lawful = tt
run_colours s (e ∷ past) lawful =
    all_push (λ (x : LogEntryTree). IfSome x.frame (AllByRecursion IsColour)) (log_entries_of s past) (log_entry_of s past e) (run_colours s past lawful.0) (shown_colours (setup_of s) past e.answer lawful.0)

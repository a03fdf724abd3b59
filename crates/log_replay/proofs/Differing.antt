-- Where two lists, two frames and two endings differ.
use Rattle.std.proofs.Common.{◌≡◌, ◌≢◌, ℕ, zero, suc, ◌+◌, ◌-◌, ◌*◌, ◌<◌, ◌≤◌, List, [], ◌∷◌, ◌++◌, length, get_or, take, drop, Option, Some, None, refl, ap, sym, ◌∙◌, subst, arith, take-append-drop, append-nil}
use Rattle.std.specs.Prelude.{min, slice_get, is_some, ℤ, pos, IfSome}
use Rattle.std.proofs.lemmas.List.{take_more, take_all, drop_all, length-take, length-append, length-drop, nil_from_length}
use Rattle.std.proofs.lemmas.Option.{slice_get-get_or, slice_get_past}
use Rattle.region_box.specs.Screens.{row_points, screen_points}
use Rattle.user_model.specs.declared.entry.Answer.{Answer}
use Rattle.user_model.specs.declared.entry.Answer.TheVariants.{Snap}
use Rattle.user_model.specs.declared.entry.Entry.{Entry}
use Rattle.user_model.specs.declared.entry.Setup.{Setup}
use Rattle.user_model.specs.Past.{Past}
use Rattle.user_model.specs.Colours.{colour, frame}
use Rattle.script_tree.specs.Tree.{Tree}
use Rattle.log_text.specs.Ends.{setup_of}
use Rattle.log_text.specs.Frames.{rows, shown}
use Rattle.log_read.specs.Limits.{keeps_frame, IsFrame, IsLogEntry}
use Rattle.log_read.specs.Logs.{LogEntryTree}
use Rattle.log_read.proofs.ListLaws.{same_length}
use Rattle.illegal_text.specs.declared.illegal.Why.{Why}
use Rattle.illegal_text.specs.declared.illegal.Why.TheVariants as reasons
use Rattle.illegal_text.specs.declared.lines.EndingLine.{EndingLine}
use Rattle.illegal_text.specs.declared.lines.EndingLine.TheVariants.{Ends}
use Rattle.log_text.specs.declared.end.End.TheVariants.{Done}
use Rattle.log_replay.specs.Replays.{DifferAt, DifferInRow, FrameTold}

-- ---- lists

head_is : {A : Type 0} (x y : A) (xs ys : List A) → x ∷ xs ≡ y ∷ ys → x ≡ y
head_is x y xs ys e = cc

tail_is : {A : Type 0} (x y : A) (xs ys : List A) → x ∷ xs ≡ y ∷ ys → xs ≡ ys
tail_is x y xs ys e = cc

-- the row behind the first k
behind : (xs : List (List ℕ)) (k : ℕ) (y : List ℕ) (ys : List (List ℕ)) → drop k xs ≡ y ∷ ys → (slice_get xs k ≡ Some y) × (take (suc k) xs ≡ take k xs ++ y ∷ []) × (drop (suc k) xs ≡ ys)
behind [] zero y ys e = absurd cc
behind [] (suc k) y ys e = absurd cc
behind (x ∷ xs) zero y ys e =
    let first : x ≡ y = head_is x y xs ys e in
    (ap (λ (z : List ℕ). let o : Option (List ℕ) = Some z in o) first, ap (λ (z : List ℕ). z ∷ []) first, tail_is x y xs ys e)
behind (x ∷ xs) (suc k) y ys e =
    let more = behind xs k y ys e in
    (more.0, ap (λ (l : List (List ℕ)). x ∷ l) more.1, more.2)

plus_one : (k : ℕ) → k + 1 ≡ suc k
plus_one k = omega arith

-- ---- rows

one_less : (h i : ℕ) → i < h → h - i ≡ suc (h - (i + 1))
one_less h i lt = omega arith

none_left : (h i : ℕ) → h ≤ i → h - i ≡ 0
none_left h i le = omega arith

-- the first rows of two frames are alike, and these colours are left of them
pub record Alike (w h i : ℕ) (found right found_rest right_rest : List ℕ) : Type 0 where
  pub alike : take i (rows w h found) ≡ take i (rows w h right)
  pub found_left : drop i (rows w h found) ≡ rows w (h - i) found_rest
  pub right_left : drop i (rows w h right) ≡ rows w (h - i) right_rest

pub alike_start : (w h : ℕ) (found right : List ℕ) → Alike w h 0 found right found right
alike_start w h found right =
    let all : h ≡ h - 0 = omega arith in
    record { alike = refl; found_left = ap (λ n. rows w n found) all; right_left = ap (λ n. rows w n right) all }

ahead : (w h i : ℕ) (all : List (List ℕ)) (rest : List ℕ) → i < h → drop i all ≡ rows w (h - i) rest → drop i all ≡ take w rest ∷ rows w (h - (i + 1)) (drop w rest)
ahead w h i all rest lt e = e ∙ ap (λ n. rows w n rest) (one_less h i lt)

pub alike_more : (w h i : ℕ) (found right found_rest right_rest : List ℕ) → i < h → Alike w h i found right found_rest right_rest → take w found_rest ≡ take w right_rest → Alike w h (i + 1) found right (drop w found_rest) (drop w right_rest)
alike_more w h i found right found_rest right_rest lt so_far same =
    let f = behind (rows w h found) i (take w found_rest) (rows w (h - (i + 1)) (drop w found_rest)) (ahead w h i (rows w h found) found_rest lt so_far.found_left) in
    let r = behind (rows w h right) i (take w right_rest) (rows w (h - (i + 1)) (drop w right_rest)) (ahead w h i (rows w h right) right_rest lt so_far.right_left) in
    record {
      alike =
          ap (λ n. take n (rows w h found)) (plus_one i) ∙ f.1 ∙ ap (λ (l : List (List ℕ)). l ++ take w found_rest ∷ []) so_far.alike ∙ ap (λ (l : List ℕ). take i (rows w h right) ++ l ∷ []) same
          ∙ sym r.1 ∙ ap (λ n. take n (rows w h right)) (sym (plus_one i));
      found_left = ap (λ n. drop n (rows w h found)) (plus_one i) ∙ f.2;
      right_left = ap (λ n. drop n (rows w h right)) (plus_one i) ∙ r.2;
    }

some_is : {A : Type 0} (x y : A) → (let o : Option A = Some x in let p : Option A = Some y in o ≡ p) → x ≡ y
some_is x y e = cc

pub differ_here : (w h i : ℕ) (found right found_rest right_rest : List ℕ) → i < h → Alike w h i found right found_rest right_rest → take w found_rest ≢ take w right_rest → DifferAt (rows w h found) (rows w h right) i
differ_here w h i found right found_rest right_rest lt so_far other =
    let f = behind (rows w h found) i (take w found_rest) (rows w (h - (i + 1)) (drop w found_rest)) (ahead w h i (rows w h found) found_rest lt so_far.found_left) in
    let r = behind (rows w h right) i (take w right_rest) (rows w (h - (i + 1)) (drop w right_rest)) (ahead w h i (rows w h right) right_rest lt so_far.right_left) in
    record { before = so_far.alike; there = λ e. other (some_is (take w found_rest) (take w right_rest) (sym f.0 ∙ e ∙ r.0)) }

pub alike_all : (w h i : ℕ) (found right found_rest right_rest : List ℕ) → h ≤ i → Alike w h i found right found_rest right_rest → rows w h found ≡ rows w h right
alike_all w h i found right found_rest right_rest le so_far =
    let none : (rest : List ℕ) → rows w (h - i) rest ≡ [] = λ rest. ap (λ n. rows w n rest) (none_left h i le) in
    sym (take-append-drop i (rows w h found))
    ∙ ap (λ (l : List (List ℕ)). l ++ drop i (rows w h found)) so_far.alike
    ∙ ap (λ (l : List (List ℕ)). take i (rows w h right) ++ l) (so_far.found_left ∙ none found_rest ∙ sym (so_far.right_left ∙ none right_rest))
    ∙ take-append-drop i (rows w h right)

-- ---- frames

one_row_less : (w h : ℕ) (xs : List ℕ) → length xs ≡ suc h * w → length (drop w xs) ≡ h * w
one_row_less w h xs size = omega (arith, length-drop w xs, size)

no_rows : (w : ℕ) (xs : List ℕ) → length xs ≡ 0 * w → length xs ≡ 0
no_rows w xs size = omega (arith, size)

-- frames with the same rows are the same
pub same_frame : (w h : ℕ) (xs ys : List ℕ) → length xs ≡ h * w → length ys ≡ h * w → rows w h xs ≡ rows w h ys → xs ≡ ys
same_frame w zero xs ys size size' e = nil_from_length xs (no_rows w xs size) ∙ sym (nil_from_length ys (no_rows w ys size'))
same_frame w (suc h) xs ys size size' e =
    let first : take w xs ≡ take w ys = head_is (take w xs) (take w ys) (rows w h (drop w xs)) (rows w h (drop w ys)) e in
    let more : drop w xs ≡ drop w ys = same_frame w h (drop w xs) (drop w ys) (one_row_less w h xs size) (one_row_less w h ys size') (tail_is (take w xs) (take w ys) (rows w h (drop w xs)) (rows w h (drop w ys)) e) in
    sym (take-append-drop w xs) ∙ ap (λ (l : List ℕ). l ++ drop w xs) first ∙ ap (λ (l : List ℕ). take w ys ++ l) more ∙ take-append-drop w ys

row_size : (y : ℤ) (x : ℕ) → length (row_points y x) ≡ x
unfolding row_points
row_size y zero = refl
row_size y (suc x) = omega (arith, row_size y x, length-append (row_points y x) (record { x = pos x; y = y } ∷ []))

screen_size : (w h : ℕ) → length (screen_points w h) ≡ h * w
unfolding screen_points
screen_size w zero = omega arith
screen_size w (suc h) =
    let next : suc h * w ≡ h * w + w = omega arith in
    omega (arith, next, screen_size w h, row_size (pos h) w, length-append (screen_points w h) (row_points (pos h) w))

frame_size : (setup : Setup) (past : Past) → length (frame setup past) ≡ setup.height * setup.width
frame_size setup past = same_length (colour setup past) (screen_points setup.width setup.height) ∙ screen_size setup.width setup.height

-- a frame is kept exactly where the answer says so
shown_there : (setup : Setup) (past : Past) (a : Answer) → is_some (shown setup past a) ≡ keeps_frame a
shown_there setup past (Snap k) = refl
shown_there setup past _ = refl

no_frame : (o p : Option (List ℕ)) → is_some o ≡ is_some p → o ≡ None → o ≡ p
no_frame None None same e = refl
no_frame None (Some y) same e = absurd cc
no_frame (Some x) p same e = absurd cc

shown_size : (setup : Setup) (past : Past) (a : Answer) → IfSome (shown setup past a) (λ c. length c ≡ setup.height * setup.width)
shown_size setup past (Snap k) = frame_size setup past
shown_size setup past _ = tt

-- where none was found, none was kept
pub none_found : (s : Tree) (past : Past) (e : LogEntryTree) → IsLogEntry s e → e.frame ≡ None → e.frame ≡ shown (setup_of s) past e.entry.answer
none_found s past e fits none = no_frame e.frame (shown (setup_of s) past e.entry.answer) (fits.kept ∙ sym (shown_there (setup_of s) past e.entry.answer)) none

-- and where none was kept, none was found
pub none_kept : (s : Tree) (past : Past) (e : LogEntryTree) → IsLogEntry s e → shown (setup_of s) past e.entry.answer ≡ None → e.frame ≡ shown (setup_of s) past e.entry.answer
none_kept s past e fits none = sym (no_frame (shown (setup_of s) past e.entry.answer) e.frame (shown_there (setup_of s) past e.entry.answer ∙ sym fits.kept) none)

both_same : (s : Tree) (o p : Option (List ℕ)) (found right : List ℕ) → o ≡ Some found → p ≡ Some right → IfSome o (IsFrame s) → IfSome p (λ c. length c ≡ s.height * s.width) → rows s.width s.height found ≡ rows s.width s.height right → o ≡ p
both_same s (Some x) (Some y) found right is is' fits size same =
    let a : x ≡ found = cc in
    let b : y ≡ right = cc in
    ap (λ (l : List ℕ). let o : Option (List ℕ) = Some l in o) (same_frame s.width s.height x y fits.size size (ap (rows s.width s.height) a ∙ same ∙ ap (rows s.width s.height) (sym b)))
both_same s None p found right is is' fits size same = absurd cc
both_same s (Some x) None found right is is' fits size same = absurd cc

-- frames with the same rows
pub rows_kept : (s : Tree) (past : Past) (e : LogEntryTree) (found right : List ℕ) → IsLogEntry s e → e.frame ≡ Some found → shown (setup_of s) past e.entry.answer ≡ Some right → rows s.width s.height found ≡ rows s.width s.height right → e.frame ≡ shown (setup_of s) past e.entry.answer
rows_kept s past e found right fits is is' same = both_same s e.frame (shown (setup_of s) past e.entry.answer) found right is is' fits.frame (shown_size (setup_of s) past e.entry.answer) same

row_differs : (s : Tree) (o p : Option (List ℕ)) (found right : List ℕ) (row : ℕ) → o ≡ Some found → p ≡ Some right → DifferAt (rows s.width s.height found) (rows s.width s.height right) row → DifferInRow s o p row
row_differs s (Some x) (Some y) found right row is is' differ =
    let a : found ≡ x = cc in
    let b : right ≡ y = cc in
    subst (λ (l : List ℕ). DifferAt (rows s.width s.height x) (rows s.width s.height l) row) b (subst (λ (l : List ℕ). DifferAt (rows s.width s.height l) (rows s.width s.height right) row) a differ)
row_differs s None p found right row is is' differ = absurd cc
row_differs s (Some x) None found right row is is' differ = absurd cc

pub row_told : (s : Tree) (past : Past) (e : LogEntryTree) (found right : List ℕ) (row : ℕ) → e.frame ≡ Some found → shown (setup_of s) past e.entry.answer ≡ Some right → DifferAt (rows s.width s.height found) (rows s.width s.height right) row
    → FrameTold s e (shown (setup_of s) past e.entry.answer) (Some (reasons.Frame row))
row_told s past e found right row is is' differ = row_differs s e.frame (shown (setup_of s) past e.entry.answer) found right row is is' differ

pub row_kept : (s : Tree) (past : Past) (e : LogEntryTree) (found right : List ℕ) (row : ℕ) → e.frame ≡ Some found → shown (setup_of s) past e.entry.answer ≡ Some right → DifferAt (rows s.width s.height found) (rows s.width s.height right) row → DifferInRow s e.frame (shown (setup_of s) past e.entry.answer) row
row_kept s past e found right row is is' differ = row_differs s e.frame (shown (setup_of s) past e.entry.answer) found right row is is' differ

-- the frame of the newest entry, by a machine of the script's setup
pub kept_is : (s : Tree) (setup : Setup) (before : Past) (entry : Entry) (e : LogEntryTree) (frame : Option (List ℕ)) → setup ≡ setup_of s → entry ≡ e.entry → frame ≡ shown setup before entry.answer → frame ≡ shown (setup_of s) before e.entry.answer
kept_is s setup before entry e frame same is kept = kept ∙ ap (λ (x : Setup). shown x before entry.answer) same ∙ ap (λ (x : Entry). shown (setup_of s) before x.answer) is

-- rows of the script's screen
pub rows_sized : (s : Tree) (w h : ℕ) (found right : List ℕ) → w ≡ s.width → h ≡ s.height → rows w h found ≡ rows w h right → rows s.width s.height found ≡ rows s.width s.height right
rows_sized s w h found right wide high same = subst (λ n. rows s.width n found ≡ rows s.width n right) high (subst (λ n. rows n h found ≡ rows n h right) wide same)

pub differ_sized : (s : Tree) (w h : ℕ) (found right : List ℕ) (row : ℕ) → w ≡ s.width → h ≡ s.height → DifferAt (rows w h found) (rows w h right) row → DifferAt (rows s.width s.height found) (rows s.width s.height right) row
differ_sized s w h found right row wide high differ = subst (λ n. DifferAt (rows s.width n found) (rows s.width n right) row) high (subst (λ n. DifferAt (rows n h found) (rows n h right) row) wide differ)

-- ---- endings

pub lines_more : (found right : List EndingLine) (p : ℕ) (d : EndingLine) → p < length right → take p found ≡ take p right → slice_get found p ≡ Some (get_or right p d) → take (p + 1) found ≡ take (p + 1) right
lines_more found right p d lt same hit = at_more found p (get_or right p d) hit ∙ ap (λ (l : List EndingLine). l ++ get_or right p d ∷ []) same ∙ sym (take_more right p d lt)
  where
    at_suc : (xs : List EndingLine) (k : ℕ) (y : EndingLine) → slice_get xs k ≡ Some y → take (suc k) xs ≡ take k xs ++ y ∷ []
    at_suc [] k y e = absurd cc
    at_suc (x ∷ xs) zero y e = ap (λ (z : EndingLine). z ∷ []) (some_is x y e)
    at_suc (x ∷ xs) (suc k) y e = ap (λ (l : List EndingLine). x ∷ l) (at_suc xs k y e)

    at_more : (xs : List EndingLine) (k : ℕ) (y : EndingLine) → slice_get xs k ≡ Some y → take (k + 1) xs ≡ take k xs ++ y ∷ []
    at_more xs k y e = ap (λ n. take n xs) (plus_one k) ∙ at_suc xs k y e

pub lines_differ : (found right : List EndingLine) (p : ℕ) (d : EndingLine) → p < length right → take p found ≡ take p right → (slice_get found p ≡ Some (get_or right p d) → ⊥) → DifferAt found right p
lines_differ found right p d lt same miss = record { before = same; there = λ e. miss (e ∙ slice_get-get_or right p d lt) }

pub lines_same : (found right : List EndingLine) (p : ℕ) → length right ≤ p → take p found ≡ take p right → length found ≡ length right → found ≡ right
lines_same found right p le same size = sym (take_all p found (omega (arith, le, size))) ∙ same ∙ take_all p right le

no_some : {A : Type 0} (x : A) (o : Option A) → o ≡ Some x → o ≡ None → ⊥
no_some x o e f = absurd cc

pub lines_longer : (found right : List EndingLine) (p : ℕ) → length right ≤ p → take p found ≡ take p right → length found ≢ length right → DifferAt found right (length right)
lines_longer found right p le same other =
    let all : length (take p found) ≡ length right = ap length (same ∙ take_all p right le) in
    let cut : min p (length found) ≡ length right = sym (length-take p found) ∙ all in
    let is : p ≡ length right = omega (arith, le, cut, other) in
    let lt : length right < length found = omega (arith, le, cut, other) in
    let d : EndingLine = Ends Done in
    record {
      before = subst (λ n. take n found ≡ take n right) is same;
      there = λ e. no_some (get_or found (length right) d) (slice_get found (length right)) (slice_get-get_or found (length right) d lt) (e ∙ slice_get_past right (length right) (omega arith));
    }

-- Lists of homes that are looked at one after another, and read side by side.
use Rattle.std.proofs.Common.{◌≡◌, ℕ, zero, suc, ◌+◌, ◌<◌, ◌≤◌, ◌==◌, Bool, true, false, not, ◌&&◌, ◌||◌, cond, eqb, ltb, List, [], ◌∷◌, length, get_or, set, drop, find, min, All, Option, Some, None, is_some, IfSome, refl, ap, sym, subst, ◌∙◌, arith}
use Rattle.std.specs.Prelude.{filter, option_map, replicate, slice_get}
use Rattle.std.specs.List.{AllByRecursion}
use Rattle.std.proofs.lemmas.Bool.{eq-eqb, eqb-false, eqb-true, false≢true, lt-ltb, ne_eqb, true≢false}
use Rattle.std.proofs.lemmas.Bool.Decides.{nat_tests}
use Rattle.std.proofs.lemmas.List.{drop-drop, get_or-replicate, get_or-set_other, get_or-set_same, length-drop}
use Rattle.std.proofs.lemmas.List.Elements.{All-filter, All-head, All-tail, filter_agree, filter_passes, recursion_from_All}
use Rattle.std.proofs.lemmas.List.Kept.{AllPairs-filter}
use Rattle.win_num.specs.declared.message.Thread.{Thread}
use Rattle.input_queue.specs.declared.element.Element.{Element}
use Rattle.input_queue.specs.declared.glance.Spot.{Spot}
use Rattle.input_queue.specs.Elements.{AreRising, first_takeable, last_of, of_group, reads_of}
use Rattle.input_queue.specs.Rows.{IsKept, IsLeft, earlier_of, glance_of, has_home, head_of, later_of, merged, row, spot_in, spot_of, with_home}
use Rattle.input_queue.proofs.ElementLemmas.{first_takeable-cons}
use Rattle.input_queue.proofs.Sorting.{all_weaker, filter_none, filter_same, filter_twice, filter_whole, find_or, first_or, last_or, later, length_or, rises_from, sooner}

-- ---- the elements of the homes below one that are looked at

abbrev pub is_lower : (ℕ → Bool) → ℕ → Element → Bool
is_lower g i x = g x.home.0 && ltb x.home.0 i

abbrev pub lower : (ℕ → Bool) → ℕ → List Element → List Element
lower g i w = filter (is_lower g i) w

none_lower : (b : Bool) (h : ℕ) → (b && ltb h 0) ≡ false
none_lower true h = grind (arith, nat_tests)
none_lower false h = refl

below_now : (b : Bool) (h i : ℕ) → h ≡ i → b ≡ true → (b && ltb h (i + 1)) ≡ ((b && ltb h i) || (h == i))
below_now true h i same is = grind (arith, nat_tests, same)
below_now false h i same is = absurd (false≢true is)

below_too : (b : Bool) (h i : ℕ) → (h ≡ i → ⊥) → (b && ltb h (i + 1)) ≡ ((b && ltb h i) || (h == i))
below_too true h i other = grind (arith, nat_tests, ne_eqb h i other)
below_too false h i other = sym (ne_eqb h i other)

more_lower : (g : ℕ → Bool) (i h : ℕ) → g i ≡ true → (g h && ltb h (i + 1)) ≡ ((g h && ltb h i) || (h == i))
more_lower g i h is = by (eqb h i) refl
  where
    by : (b : Bool) → eqb h i ≡ b → (g h && ltb h (i + 1)) ≡ ((g h && ltb h i) || (h == i))
    by true e = let same : h ≡ i = eqb-true h i e in below_now (g h) h i same (ap g same ∙ is)
    by false e = below_too (g h) h i (eqb-false h i e)

same_lower : (g : ℕ → Bool) (i h : ℕ) → g i ≡ false → (g h && ltb h (i + 1)) ≡ (g h && ltb h i)
same_lower g i h is = by (eqb h i) refl
  where
    at : (b : Bool) → b ≡ false → (b && ltb h (i + 1)) ≡ (b && ltb h i)
    at true e = absurd (true≢false e)
    at false e = refl

    off : (b : Bool) → (h ≡ i → ⊥) → (b && ltb h (i + 1)) ≡ (b && ltb h i)
    off true other = grind (arith, nat_tests, ne_eqb h i other)
    off false other = refl

    by : (b : Bool) → eqb h i ≡ b → (g h && ltb h (i + 1)) ≡ (g h && ltb h i)
    by true e = let same : h ≡ i = eqb-true h i e in at (g h) (ap g same ∙ is)
    by false e = off (g h) (eqb-false h i e)

-- with one home more
pub lower_more : (g : ℕ → Bool) (i : ℕ) (w : List Element) → g i ≡ true → lower g (i + 1) w ≡ filter (λ x. is_lower g i x || (x.home.0 == i)) w
lower_more g i w is = filter_agree (is_lower g (i + 1)) (λ x. is_lower g i x || (x.home.0 == i)) (λ x. more_lower g i x.home.0 is) w

-- with one that isn't looked at
pub lower_same : (g : ℕ → Bool) (i : ℕ) (w : List Element) → g i ≡ false → lower g (i + 1) w ≡ lower g i w
lower_same g i w is = filter_agree (is_lower g (i + 1)) (is_lower g i) (λ x. same_lower g i x.home.0 is) w

pub lower_none : (g : ℕ → Bool) (w : List Element) → lower g 0 w ≡ []
lower_none g w = filter_none (is_lower g 0) w (all w)
  where
    all : (m : List Element) → AllByRecursion (λ x. is_lower g 0 x ≡ false) m
    all [] = tt
    all (x ∷ m) = (none_lower (g x.home.0) x.home.0, all m)

all_below : (b : Bool) (h i : ℕ) → h < 16 → 16 ≤ i → (b && ltb h i) ≡ b
all_below true h i l past = lt-ltb h i (omega (arith, l, past))
all_below false h i l past = refl

-- all homes
pub lower_all : (g : ℕ → Bool) (i : ℕ) (w : List Element) → 16 ≤ i → All (λ x. x.home.0 < 16) w → lower g i w ≡ filter (λ x. g x.home.0) w
lower_all g i w past homes = filter_same (is_lower g i) (λ x. g x.home.0) w (all_weaker (λ x. x.home.0 < 16) (λ x. is_lower g i x ≡ g x.home.0) (λ x l. all_below (g x.home.0) x.home.0 i l past) w (recursion_from_All (λ x. x.home.0 < 16) w homes))

disjoint : (b : Bool) (h i : ℕ) → (h == i) ≡ true → (b && ltb h i) ≡ false
disjoint true h i e = grind (arith, nat_tests, e)
disjoint false h i e = refl

-- ---- how many there are

pub count_more : (g : ℕ → Bool) (i : ℕ) (w : List Element) → g i ≡ true → length (lower g (i + 1) w) ≡ length (lower g i w) + length (with_home i w)
count_more g i w is = ap length (lower_more g i w is) ∙ length_or (is_lower g i) (λ x. x.home.0 == i) (λ x e. disjoint (g x.home.0) x.home.0 i e) w

pub counted : (g : ℕ → Bool) (i : ℕ) (w : List Element) (count more new : ℕ) → g i ≡ true → count ≡ min 512 (length (lower g i w)) → more ≡ length (with_home i w) → new ≡ min 512 (count + more) → new ≡ min 512 (length (lower g (i + 1) w))
counted g i w count more new is old one all = grind (arith, count_more g i w is)

-- ---- which is the last

later_glance : (a b : Option Element) → option_map glance_of (later a b) ≡ later_of (option_map glance_of a) (option_map glance_of b)
later_glance None b = refl
later_glance (Some x) None = refl
later_glance (Some x) (Some y) = by (ltb x.number y.number)
  where
    by : (c : Bool) → option_map glance_of (cond c (Some y) (Some x)) ≡ cond c (Some (glance_of y)) (Some (glance_of x))
    by true = refl
    by false = refl

pub last_more : (g : ℕ → Bool) (i : ℕ) (w : List Element) → AreRising w → g i ≡ true → option_map glance_of (last_of (lower g (i + 1) w)) ≡ later_of (option_map glance_of (last_of (lower g i w))) (option_map glance_of (last_of (with_home i w)))
last_more g i w rising is =
    ap (λ m. option_map glance_of (last_of m)) (lower_more g i w is)
    ∙ ap (option_map glance_of) (last_or (is_lower g i) (λ x. x.home.0 == i) w (rises_from w rising))
    ∙ later_glance (last_of (lower g i w)) (last_of (with_home i w))

-- ---- where a number is

pub find_more : (n i : ℕ) (w : List Element) → find (λ x. x.number == n) (lower (λ _. true) i w) ≡ None → find (λ x. x.number == n) (with_home i w) ≡ None → find (λ x. x.number == n) (lower (λ _. true) (i + 1) w) ≡ None
find_more n i w h k = ap (find (λ x. x.number == n)) (lower_more (λ _. true) i w refl) ∙ find_or (λ x. x.number == n) (is_lower (λ _. true) i) (λ x. x.home.0 == i) w h k

pub find_all : (n i : ℕ) (w : List Element) → 16 ≤ i → All (λ x. x.home.0 < 16) w → find (λ x. x.number == n) (lower (λ _. true) i w) ≡ None → find (λ x. x.number == n) w ≡ None
find_all n i w past homes h = sym (ap (find (λ x. x.number == n)) (lower_all (λ _. true) i w past homes ∙ filter_whole (λ _. true) w (all w))) ∙ h
  where
    all : (m : List Element) → AllByRecursion (λ (x : Element). true ≡ true) m
    all [] = tt
    all (x ∷ m) = (refl, all m)

pub none_there : (o : Option Element) → is_some o ≡ false → o ≡ None
none_there None e = refl
none_there (Some x) e = absurd (true≢false e)

-- ---- which is the next

earlier_spot : (a b : Option Element) → option_map spot_of (sooner a b) ≡ earlier_of (option_map spot_of a) (option_map spot_of b)
earlier_spot a None = refl
earlier_spot None (Some y) = refl
earlier_spot (Some x) (Some y) = by (ltb y.number x.number)
  where
    by : (c : Bool) → option_map spot_of (cond c (Some y) (Some x)) ≡ cond c (Some (spot_of y)) (Some (spot_of x))
    by true = refl
    by false = refl

first_dropped : (xs : List Element) (n : ℕ) → slice_get (drop n xs) 0 ≡ slice_get xs n
first_dropped [] zero = refl
first_dropped [] (suc n) = refl
first_dropped (x ∷ xs) zero = refl
first_dropped (x ∷ xs) (suc n) = first_dropped xs n

-- the next element of a member is its first one that is left
next_of_row : (group : ℕ) (rows : List (List Element)) (seen : List ℕ) (left : List Element) → IsLeft group rows seen left → (h : ℕ) → h < 16 → has_home group h ≡ true → slice_get (row rows h) (get_or seen h 0) ≡ slice_get (with_home h left) 0
next_of_row group rows seen left k h l is = sym (first_dropped (row rows h) (get_or seen h 0)) ∙ ap (λ m. slice_get m 0) (k.rest h l is)

-- where it is, if there is one
spot_at : (h : ℕ) (left : List Element) → (o : Option ℕ) → option_map (λ x. x.number) (slice_get (with_home h left) 0) ≡ o → option_map spot_of (slice_get (with_home h left) 0) ≡ option_map (spot_in h) o
spot_at h left o e = all (with_home h left) (recursion_from_All (λ x. (x.home.0 == h) ≡ true) (with_home h left) (filter_passes (λ x. x.home.0 == h) left)) ∙ ap (option_map (spot_in h)) e
  where
    all : (m : List Element) → AllByRecursion (λ x. (x.home.0 == h) ≡ true) m → option_map spot_of (slice_get m 0) ≡ option_map (spot_in h) (option_map (λ x. x.number) (slice_get m 0))
    all [] a = refl
    all (x ∷ m) a = ap (λ (i : ℕ). let s : Spot = record { home = i; number = x.number } in Some s) (eqb-true x.home.0 h a.0)

-- one home more
pub next_more : (group : ℕ) (rows : List (List Element)) (seen : List ℕ) (left : List Element) → IsLeft group rows seen left → (h : ℕ) → h < 16 → (o : Option ℕ) → o ≡ head_of group rows seen h → option_map spot_of (slice_get (lower (has_home group) (h + 1) left) 0) ≡ earlier_of (option_map spot_of (slice_get (lower (has_home group) h left) 0)) (option_map (spot_in h) o)
next_more group rows seen left k h l o head = by (has_home group h) refl head
  where
    by : (b : Bool) → has_home group h ≡ b → o ≡ cond b (option_map (λ x. x.number) (slice_get (row rows h) (get_or seen h 0))) None → option_map spot_of (slice_get (lower (has_home group) (h + 1) left) 0) ≡ earlier_of (option_map spot_of (slice_get (lower (has_home group) h left) 0)) (option_map (spot_in h) o)
    by true e is =
        ap (λ m. option_map spot_of (slice_get m 0)) (lower_more (has_home group) h left e)
        ∙ ap (option_map spot_of) (first_or (is_lower (has_home group) h) (λ x. x.home.0 == h) left (rises_from left k.rising))
        ∙ earlier_spot (slice_get (lower (has_home group) h left) 0) (slice_get (with_home h left) 0)
        ∙ ap (earlier_of (option_map spot_of (slice_get (lower (has_home group) h left) 0))) (spot_at h left o (sym (ap (option_map (λ x. x.number)) (next_of_row group rows seen left k h l e)) ∙ sym is))
    by false e is =
        ap (λ m. option_map spot_of (slice_get m 0)) (lower_same (has_home group) h left e)
        ∙ ap (λ p. earlier_of (option_map spot_of (slice_get (lower (has_home group) h left) 0)) (option_map (spot_in h) p)) (sym is)

-- what holds of each spot holds of the nearer one
pub within_nearer : (P : Spot → Type 0) (one : Option Spot) (h : ℕ) (o : Option ℕ) → IfSome one P → ((n : ℕ) → o ≡ Some n → P (spot_in h n)) → IfSome (earlier_of one (option_map (spot_in h) o)) P
within_nearer P one h None a b = a
within_nearer P None h (Some n) a b = b n refl
within_nearer P (Some s) h (Some n) a b = by (ltb n s.number)
  where
    by : (c : Bool) → IfSome (cond c (Some (spot_in h n)) (Some s)) P
    by true = b n refl
    by false = a

pub head_within : (o : Option ℕ) (n : ℕ) (P : Type 0) → o ≡ Some n → IfSome o (λ _. P) → P
head_within None n P e h = absurd cc
head_within (Some m) n P e h = h

-- all homes
pub next_all : (group : ℕ) (rows : List (List Element)) (seen : List ℕ) (left : List Element) → IsLeft group rows seen left → (i : ℕ) → 16 ≤ i → lower (has_home group) i left ≡ left
next_all group rows seen left k i past = lower_all (has_home group) i left past k.homes ∙ filter_whole (λ x. has_home group x.home.0) left (recursion_from_All (λ x. has_home group x.home.0 ≡ true) left k.members)

-- ---- what is left at the beginning, and after each element

inside : (group h : ℕ) (w : List Element) → has_home group h ≡ true → with_home h (of_group group w) ≡ with_home h w
inside group h w is = filter_twice (λ x. x.home.0 == h) (λ x. has_home group x.home.0) w ∙ filter_whole (λ x. has_home group x.home.0) (with_home h w) (all_weaker (λ x. (x.home.0 == h) ≡ true) (λ x. has_home group x.home.0 ≡ true) (λ x e. ap (has_home group) (eqb-true x.home.0 h e) ∙ is) (with_home h w) (recursion_from_All (λ x. (x.home.0 == h) ≡ true) (with_home h w) (filter_passes (λ x. x.home.0 == h) w)))

pub begun : (group : ℕ) (rows : List (List Element)) → IsKept rows → IsLeft group rows (replicate 16 0) (of_group group (merged rows))
begun group rows kept = record {
  rising = AllPairs-filter (λ x y. x.number < y.number) (λ x. has_home group x.home.0) (merged rows) kept.rising;
  homes = All-filter (λ x. has_home group x.home.0) (λ x. x.home.0 < 16) (merged rows) kept.homes;
  members = filter_passes (λ x. has_home group x.home.0) (merged rows);
  rest = λ h l is. ap (λ n. drop n (row rows h)) (get_or-replicate 16 h 0 0 l) ∙ kept.row_is h l ∙ sym (inside group h (merged rows) is);
}

-- the first one that is left, and the others
pub record IsNext (group : ℕ) (rows : List (List Element)) (seen : List ℕ) (left : List Element) (s : Spot) : Type 0 where
  pub first : Element
  pub others : List Element
  pub parts : left ≡ first ∷ others
  pub here : slice_get (row rows s.home) (get_or seen s.home 0) ≡ Some first
  pub after : IsLeft group rows (set seen s.home (get_or seen s.home 0 + 1)) others

rises_tail : (x : Element) (xs : List Element) → AreRising (x ∷ xs) → AreRising xs
rises_tail x xs r = λ i j d a b. r (suc i) (suc j) d (omega (arith, a)) (omega (arith, b))

with_here : (h : ℕ) (x : Element) (xs : List Element) → x.home.0 ≡ h → with_home h (x ∷ xs) ≡ x ∷ with_home h xs
with_here h x xs e = ap (λ b. cond b (x ∷ with_home h xs) (with_home h xs)) (eq-eqb x.home.0 h e)

with_other : (h : ℕ) (x : Element) (xs : List Element) → (h ≡ x.home.0 → ⊥) → with_home h (x ∷ xs) ≡ with_home h xs
with_other h x xs other = ap (λ b. cond b (x ∷ with_home h xs) (with_home h xs)) (ne_eqb x.home.0 h (λ e. other (sym e)))

step : (group : ℕ) (rows : List (List Element)) (seen : List ℕ) (x : Element) (xs : List Element) → length seen ≡ 16 → IsLeft group rows seen (x ∷ xs) → IsLeft group rows (set seen x.home.0 (get_or seen x.home.0 0 + 1)) xs
step group rows seen x xs sixteen k = record {
  rising = rises_tail x xs k.rising;
  homes = All-tail (λ y. y.home.0 < 16) x xs k.homes;
  members = All-tail (λ y. has_home group y.home.0 ≡ true) x xs k.members;
  rest = λ h l is. by h l is (eqb h x.home.0) refl;
}
  where
    by : (h : ℕ) → h < 16 → has_home group h ≡ true → (b : Bool) → eqb h x.home.0 ≡ b → drop (get_or (set seen x.home.0 (get_or seen x.home.0 0 + 1)) h 0) (row rows h) ≡ with_home h xs
    by h l is true e =
        let same : h ≡ x.home.0 = eqb-true h x.home.0 e in
        let low : x.home.0 < length seen = omega (arith, same, l, sixteen) in
        ap (λ n. drop n (row rows h)) (ap (λ i. get_or (set seen x.home.0 (get_or seen x.home.0 0 + 1)) i 0) same ∙ get_or-set_same seen x.home.0 (get_or seen x.home.0 0 + 1) 0 low ∙ ap (λ i. get_or seen i 0 + 1) (sym same))
        ∙ sym (drop-drop 1 (get_or seen h 0) (row rows h))
        ∙ ap (drop 1) (k.rest h l is ∙ with_here h x xs (sym same))
    by h l is false e =
        let other : h ≡ x.home.0 → ⊥ = eqb-false h x.home.0 e in
        ap (λ n. drop n (row rows h)) (get_or-set_other seen x.home.0 h (get_or seen x.home.0 0 + 1) 0 other)
        ∙ k.rest h l is
        ∙ with_other h x xs other

some_same : (x y : Element) → Some x ≡ Some y → x ≡ y
some_same x y e = cc

pub next_is : (group : ℕ) (rows : List (List Element)) (seen : List ℕ) (left : List Element) (s : Spot) → length seen ≡ 16 → IsLeft group rows seen left → Some s ≡ option_map spot_of (slice_get left 0) → IsNext group rows seen left s
next_is group rows seen [] s sixteen k e = absurd cc
next_is group rows seen (x ∷ xs) s sixteen k e =
    let same : s ≡ spot_of x = cc in
    let home : s.home ≡ x.home.0 = ap (λ (t : Spot). t.home) same in
    let low : x.home.0 < 16 = All-head (λ y. y.home.0 < 16) x xs k.homes in
    let member : has_home group x.home.0 ≡ true = All-head (λ y. has_home group y.home.0 ≡ true) x xs k.members in
    let there : slice_get (row rows x.home.0) (get_or seen x.home.0 0) ≡ Some x = next_of_row group rows seen (x ∷ xs) k x.home.0 low member ∙ ap (λ m. slice_get m 0) (with_here x.home.0 x xs refl) in
    record {
      first = x;
      others = xs;
      parts = refl;
      here = ap (λ h. slice_get (row rows h) (get_or seen h 0)) home ∙ there;
      after = subst (λ h. IsLeft group rows (set seen h (get_or seen h 0 + 1)) xs) (sym home) (step group rows seen x xs sixteen k);
    }

-- the element that is read is the first that is left
pub read_first : (group : ℕ) (rows : List (List Element)) (seen : List ℕ) (left : List Element) (s : Spot) (next : IsNext group rows seen left s) (xs : List Element) (x : Element) → xs ≡ row rows s.home → slice_get xs (get_or seen s.home 0) ≡ Some x → left ≡ x ∷ next.others
read_first group rows seen left s next xs x same e =
    let here : slice_get (row rows s.home) (get_or seen s.home 0) ≡ Some x = sym (ap (λ m. slice_get m (get_or seen s.home 0)) same) ∙ e in
    let is : next.first ≡ x = some_same next.first x (sym next.here ∙ here) in
    next.parts ∙ ap (λ y. y ∷ next.others) is

pub none_left : (left : List Element) → None ≡ option_map spot_of (slice_get left 0) → left ≡ []
none_left [] e = refl
none_left (x ∷ xs) e = absurd cc

-- ---- a search that goes on

-- what it finds and how much it reads in all, by what is left
pub record IsSoFar (t : Thread) (target : Element → Thread) (test : Element → Bool) (whole left : List Element) (before now : ℕ) : Type 0 where
  pub same : first_takeable t target test whole ≡ first_takeable t target test left
  pub reads : before + reads_of t target test whole ≡ now + reads_of t target test left

-- where it is, with what is so of what is left
pub record IsSearch (group : ℕ) (rows : List (List Element)) (seen : List ℕ) (So : List Element → Type 0) : Type 0 where
  pub sixteen : length seen ≡ 16
  pub left : List Element
  pub rest : IsLeft group rows seen left
  pub so_far : So left

-- the end of a search
pub record IsEnd (t : Thread) (target : Element → Thread) (test : Element → Bool) (whole : List Element) (before after : ℕ) (answer : Option Element) : Type 0 where
  pub value : answer ≡ first_takeable t target test whole
  pub reads : after ≡ before + reads_of t target test whole

read_blocked : (t : Thread) (target : Element → Thread) (test : Element → Bool) (x : Element) (xs : List Element) → ((target x).0 == t.0) ≡ false → reads_of t target test (x ∷ xs) ≡ 1
read_blocked t target test x xs e = ap (λ b. cond (b && not (test x)) (suc (reads_of t target test xs)) 1) e

read_passed : (t : Thread) (target : Element → Thread) (test : Element → Bool) (x : Element) (xs : List Element) → ((target x).0 == t.0) ≡ true → test x ≡ true → reads_of t target test (x ∷ xs) ≡ 1
read_passed t target test x xs e p = ap (λ b. cond (b && not (test x)) (suc (reads_of t target test xs)) 1) e ∙ ap (λ b. cond (not b) (suc (reads_of t target test xs)) 1) p

read_more : (t : Thread) (target : Element → Thread) (test : Element → Bool) (x : Element) (xs : List Element) → ((target x).0 == t.0) ≡ true → test x ≡ false → reads_of t target test (x ∷ xs) ≡ suc (reads_of t target test xs)
read_more t target test x xs e p = ap (λ b. cond (b && not (test x)) (suc (reads_of t target test xs)) 1) e ∙ ap (λ b. cond (not b) (suc (reads_of t target test xs)) 1) p

-- at an element with another target
pub end_blocked : (t : Thread) (target : Element → Thread) (test : Element → Bool) (whole left : List Element) (before now after : ℕ) (x : Element) (xs : List Element) → IsSoFar t target test whole left before now → left ≡ x ∷ xs → after ≡ now + 1 → ((target x).0 == t.0) ≡ false → IsEnd t target test whole before after None
end_blocked t target test whole left before now after x xs k parts step theirs =
    let reads : reads_of t target test left ≡ 1 = ap (reads_of t target test) parts ∙ read_blocked t target test x xs theirs in
    record {
      value = sym (k.same ∙ ap (first_takeable t target test) parts ∙ first_takeable-cons t target test x xs ∙ ap (λ b. cond b (cond (test x) (Some x) (first_takeable t target test xs)) None) theirs);
      reads = omega (arith, step, k.reads, reads);
    }

-- at one that passes
pub end_passed : (t : Thread) (target : Element → Thread) (test : Element → Bool) (whole left : List Element) (before now after : ℕ) (x : Element) (xs : List Element) → IsSoFar t target test whole left before now → left ≡ x ∷ xs → after ≡ now + 1 → ((target x).0 == t.0) ≡ true → test x ≡ true → IsEnd t target test whole before after (Some x)
end_passed t target test whole left before now after x xs k parts step own passes =
    let reads : reads_of t target test left ≡ 1 = ap (reads_of t target test) parts ∙ read_passed t target test x xs own passes in
    record {
      value = sym (k.same ∙ ap (first_takeable t target test) parts ∙ first_takeable-cons t target test x xs ∙ ap (λ b. cond b (cond (test x) (Some x) (first_takeable t target test xs)) None) own ∙ ap (λ b. cond b (Some x) (first_takeable t target test xs)) passes);
      reads = omega (arith, step, k.reads, reads);
    }

-- where none is left
pub end_none : (t : Thread) (target : Element → Thread) (test : Element → Bool) (whole left : List Element) (before now : ℕ) → IsSoFar t target test whole left before now → left ≡ [] → IsEnd t target test whole before now None
end_none t target test whole left before now k parts =
    let reads : reads_of t target test left ≡ 0 = ap (reads_of t target test) parts in
    record {
      value = sym (k.same ∙ ap (first_takeable t target test) parts);
      reads = omega (arith, k.reads, reads);
    }

-- behind one that does not pass
pub goes_on : (t : Thread) (target : Element → Thread) (test : Element → Bool) (whole left : List Element) (before now after : ℕ) (x : Element) (xs : List Element) → IsSoFar t target test whole left before now → left ≡ x ∷ xs → after ≡ now + 1 → ((target x).0 == t.0) ≡ true → test x ≡ false → IsSoFar t target test whole xs before after
goes_on t target test whole left before now after x xs k parts step own fails =
    let reads : reads_of t target test left ≡ suc (reads_of t target test xs) = ap (reads_of t target test) parts ∙ read_more t target test x xs own fails in
    record {
      same = k.same ∙ ap (first_takeable t target test) parts ∙ first_takeable-cons t target test x xs ∙ ap (λ b. cond b (cond (test x) (Some x) (first_takeable t target test xs)) None) own ∙ ap (λ b. cond b (Some x) (first_takeable t target test xs)) fails;
      reads = omega (arith, step, k.reads, reads);
    }

-- ---- how many are left to read

-- how many elements of the lists were not read
abbrev pub unread : List (List Element) → List ℕ → ℕ
unread [] seen = 0
unread (xs ∷ rows) [] = 0
unread (xs ∷ rows) (n ∷ seen) = length (drop n xs) + unread rows seen

less_here : (a b c : ℕ) → a < b → a + c < b + c
less_here a b c l = omega (arith, l)

less_there : (a b c : ℕ) → a < b → c + a < c + b
less_there a b c l = omega (arith, l)

pub fewer_unread : (rows : List (List Element)) (seen : List ℕ) (h : ℕ) → h < length rows → h < length seen → get_or seen h 0 < length (row rows h) → unread rows (set seen h (get_or seen h 0 + 1)) < unread rows seen
fewer_unread [] seen h a b l = absurd (omega (arith, a))
fewer_unread (xs ∷ rows) [] h a b l = absurd (omega (arith, b))
fewer_unread (xs ∷ rows) (n ∷ seen) zero a b l =
    let low : n < length xs = l in
    less_here (length (drop (n + 1) xs)) (length (drop n xs)) (unread rows seen) (omega (arith, length-drop n xs, length-drop (n + 1) xs, low))
fewer_unread (xs ∷ rows) (n ∷ seen) (suc h) a b l = less_there (unread rows (set seen h (get_or seen h 0 + 1))) (unread rows seen) (length (drop n xs)) (fewer_unread rows seen h (omega (arith, a)) (omega (arith, b)) l)

-- Lists from which a send is taken, and sends up to a number.
use Rattle.std.proofs.Common.{◌≡◌, ◌≢◌, ℕ, zero, suc, ◌+◌, ◌<◌, ◌≤◌, Bool, true, false, cond, eqb, List, [], ◌∷◌, ◌++◌, length, get_or, take, map as each, Option, Some, None, refl, ap, ◌∙◌, sym, arith}
use Rattle.std.specs.Prelude.{◌||◌, filter, find, is_some}
use Rattle.std.specs.List.{AllByRecursion, list_any}
use Rattle.std.specs.FinMap as map
use Rattle.std.proofs.lemmas.Bool.{false≢true, ne_eqb}
use Rattle.user_model.specs.Sends.{SentMsg}
use Rattle.user_model.specs.Ready.{ReadyMsg}
use Rattle.user_model.proofs.SendStanding.{CountsFrom}
use Rattle.send_variants.specs.Lists.{Entry as Item, all_without, count_in, count_on, names, named_by as send_of, or_else, place_in, place_on, total, without}
use Rattle.send_frames.specs.Book.{Book, KnownSend, is_wanted, with_send}
use Rattle.std.specs.Cmp.{nat_cmp_total}
use Rattle.std.specs.FinMap.{get-insert, get-remove}
use Rattle.send_state.specs.Standing.{item, item_as}
use Rattle.send_state.proofs.Serving.{about, eqb_itself}
use Rattle.send_state.proofs.Settling.{by_key}

-- ---- a send taken out of lists

length_without : (s : ℕ) (es : List Item) → length (without s es) + count_in s es ≡ length es
length_without s [] = refl
length_without s (e ∷ es) = by (names s e) (length_without s es) where
  by : (b : Bool) → length (without s es) + count_in s es ≡ length es → length (cond b (without s es) (e ∷ without s es)) + (cond b 1 0 + count_in s es) ≡ length (e ∷ es)
  by true h = omega (arith, h)
  by false h = omega (arith, h)

pub total_without : (s : ℕ) (lists : List (List Item)) → total (all_without s lists) + count_on s lists ≡ total lists
total_without s [] = refl
total_without s (es ∷ lists) = let here = length_without s es in let rest = total_without s lists in omega (arith, here, rest)

none_in : (s : ℕ) (es : List Item) → count_in s (without s es) ≡ 0
none_in s [] = refl
none_in s (e ∷ es) = by (names s e) refl (none_in s es) where
  by : (b : Bool) → names s e ≡ b → count_in s (without s es) ≡ 0 → count_in s (cond b (without s es) (e ∷ without s es)) ≡ 0
  by true k h = h
  by false k h = let here : cond (names s e) 1 0 + count_in s (without s es) ≡ 0 + count_in s (without s es) = ap (λ b. cond b 1 0 + count_in s (without s es)) k in omega (arith, here, h)

pub none_left : (s : ℕ) (lists : List (List Item)) → count_on s (all_without s lists) ≡ 0
none_left s [] = refl
none_left s (es ∷ lists) = let here = none_in s es in let rest = none_left s lists in omega (arith, here, rest)

-- ---- whether a list has a send

place_any : (s : ℕ) (es : List Item) (rs : List ReadyMsg) → each item es ≡ each item_as rs → is_some (place_in s es) ≡ list_any (λ r. eqb (about r) s) rs
place_any s [] [] e = refl
place_any s [] (r ∷ rs) e = absurd cc
place_any s (x ∷ es) [] e = absurd cc
place_any s (x ∷ es) (r ∷ rs) e =
    let head : item x ≡ item_as r = cc in
    let rest : each item es ≡ each item_as rs = cc in
    ap (λ b. is_some (cond b (Some x.0) (place_in s es))) (ap (λ a. eqb (send_of a.1) s) head) ∙ by (eqb (about r) s) (place_any s es rs rest) where
      by : (b : Bool) → is_some (place_in s es) ≡ list_any (λ r. eqb (about r) s) rs → is_some (cond b (Some x.0) (place_in s es)) ≡ (b || list_any (λ r. eqb (about r) s) rs)
      by true h = refl
      by false h = h

some_or : (o p : Option ℕ) → is_some (or_else o p) ≡ (is_some o || is_some p)
some_or None p = refl
some_or (Some n) p = refl

or_second : (a b : Bool) → b ≡ true → (a || b) ≡ true
or_second true b h = refl
or_second false b h = h

place_at : (s : ℕ) (lists : List (List Item)) (i : ℕ) → is_some (place_in s (get_or lists i [])) ≡ true → is_some (place_on s lists) ≡ true
place_at s [] i h = absurd (false≢true h)
place_at s (es ∷ lists) zero h = some_or (place_in s es) (place_on s lists) ∙ ap (λ b. b || is_some (place_on s lists)) h
place_at s (es ∷ lists) (suc i) h = some_or (place_in s es) (place_on s lists) ∙ or_second (is_some (place_in s es)) (is_some (place_on s lists)) (place_at s lists i h)

-- a list that is of ready messages has the send that one is about
pub place_there : (s : ℕ) (lists : List (List Item)) (i : ℕ) (rs : List ReadyMsg) → each item (get_or lists i []) ≡ each item_as rs → list_any (λ r. eqb (about r) s) rs ≡ true → is_some (place_on s lists) ≡ true
place_there s lists i rs e h = place_at s lists i (place_any s (get_or lists i []) rs e ∙ h)

-- and no list has one that none is about
pub place_nowhere : (s : ℕ) (lists : List (List Item)) → ((i : ℕ) → i < length lists → is_some (place_in s (get_or lists i [])) ≡ false) → is_some (place_on s lists) ≡ false
place_nowhere s [] h = refl
place_nowhere s (es ∷ lists) h = some_or (place_in s es) (place_on s lists) ∙ ap (λ b. b || is_some (place_on s lists)) (h 0 (omega arith)) ∙ place_nowhere s lists (λ i lt. h (suc i) (omega (arith, lt)))

pub place_none : (s : ℕ) (es : List Item) (rs : List ReadyMsg) → each item es ≡ each item_as rs → list_any (λ r. eqb (about r) s) rs ≡ false → is_some (place_in s es) ≡ false
place_none s es rs e h = place_any s es rs e ∙ h

counted_in : (s : ℕ) (es : List Item) → is_some (place_in s es) ≡ true → 1 ≤ count_in s es
counted_in s [] h = absurd (false≢true h)
counted_in s (e ∷ es) h = by (names s e) h (counted_in s es) where
  by : (b : Bool) → is_some (cond b (Some e.0) (place_in s es)) ≡ true → (is_some (place_in s es) ≡ true → 1 ≤ count_in s es) → 1 ≤ cond b 1 0 + count_in s es
  by true k more = omega arith
  by false k more = let rest = more k in omega (arith, rest)

-- a send that has a place is counted
pub counted_on : (s : ℕ) (lists : List (List Item)) → is_some (place_on s lists) ≡ true → 1 ≤ count_on s lists
counted_on s [] h = absurd (false≢true h)
counted_on s (es ∷ lists) h = by (is_some (place_in s es)) refl (sym (some_or (place_in s es) (place_on s lists)) ∙ h) (counted_on s lists) where
  by : (b : Bool) → is_some (place_in s es) ≡ b → (is_some (place_in s es) || is_some (place_on s lists)) ≡ true → (is_some (place_on s lists) ≡ true → 1 ≤ count_on s lists) → 1 ≤ count_in s es + count_on s lists
  by true k h more = let here = counted_in s es k in omega (arith, here)
  by false k h more = let rest = more (sym (ap (λ b. b || is_some (place_on s lists)) k) ∙ h) in omega (arith, rest)

-- ---- the sends up to a number

pub take_next : (n k m : ℕ) (xs : List SentMsg) (x : SentMsg) → CountsFrom n xs → m ≡ suc (n + k) → find (λ y. eqb y.number m) xs ≡ Some x → take (suc k) xs ≡ take k xs ++ x ∷ []
take_next n k m [] x c is e = absurd cc
take_next n zero m (y ∷ ys) x c is e =
    let same : y.number ≡ m = omega (arith, c.0, is) in
    let here : Some y ≡ Some x = sym (ap (λ b. cond b (Some y) (find (λ z. eqb z.number m) ys)) (ap (λ j. eqb j m) same ∙ eqb_itself m)) ∙ e in
    let one : y ≡ x = cc in
    ap (λ z. z ∷ []) one
take_next n (suc k) m (y ∷ ys) x c is e =
    let apart : y.number ≢ m = omega (arith, c.0, is) in
    ap (λ l. y ∷ l) (take_next (suc n) k m ys x c.1 (omega (arith, is)) (sym (ap (λ b. cond b (Some y) (find (λ z. eqb z.number m) ys)) (ne_eqb y.number m apart)) ∙ e))

pub take_last : (n k m : ℕ) (xs : List SentMsg) → CountsFrom n xs → m ≡ suc (n + k) → find (λ y. eqb y.number m) xs ≡ None → take (suc k) xs ≡ take k xs
take_last n zero m [] c is e = refl
take_last n (suc k) m [] c is e = refl
take_last n zero m (y ∷ ys) c is e =
    let same : y.number ≡ m = omega (arith, c.0, is) in
    let here : Some y ≡ None = sym (ap (λ b. cond b (Some y) (find (λ z. eqb z.number m) ys)) (ap (λ j. eqb j m) same ∙ eqb_itself m)) ∙ e in
    absurd cc
take_last n (suc k) m (y ∷ ys) c is e =
    let apart : y.number ≢ m = omega (arith, c.0, is) in
    ap (λ l. y ∷ l) (take_last (suc n) k m ys c.1 (omega (arith, is)) (sym (ap (λ b. cond b (Some y) (find (λ z. eqb z.number m) ys)) (ne_eqb y.number m apart)) ∙ e))

pub numbers_below : (n k m : ℕ) (xs : List SentMsg) → CountsFrom n xs → m ≡ n + k → AllByRecursion (λ y. y.number ≤ m) (take k xs)
numbers_below n zero m xs c is = tt
numbers_below n (suc k) m [] c is = tt
numbers_below n (suc k) m (y ∷ ys) c is = (omega (arith, c.0, is), numbers_below (suc n) k m ys c.1 (omega (arith, is)))

-- fewer are taken of the sends up to a number than of all
pub fewer : (f g : SentMsg → Bool) → ((y : SentMsg) → f y ≡ true → g y ≡ true) → (k : ℕ) (xs : List SentMsg) → length (filter f (take k xs)) ≤ length (filter g xs)
fewer f g h zero xs = omega arith
fewer f g h (suc k) [] = omega arith
fewer f g h (suc k) (y ∷ ys) = by (f y) (g y) (h y) (fewer f g h k ys) where
  by : (b c : Bool) → (b ≡ true → c ≡ true) → length (filter f (take k ys)) ≤ length (filter g ys) → length (cond b (y ∷ filter f (take k ys)) (filter f (take k ys))) ≤ length (cond c (y ∷ filter g ys) (filter g ys))
  by true true m l = omega (arith, l)
  by true false m l = absurd (false≢true (m refl))
  by false true m l = omega (arith, l)
  by false false m l = l

pub filter_push : {X : Type 0} (f : X → Bool) (xs : List X) (x : X) → filter f (xs ++ x ∷ []) ≡ filter f xs ++ cond (f x) (x ∷ []) []
filter_push f [] x = refl
filter_push f (y ∷ xs) x = by (f y) (filter_push f xs x) where
  by : (b : Bool) → filter f (xs ++ x ∷ []) ≡ filter f xs ++ cond (f x) (x ∷ []) [] → cond b (y ∷ filter f (xs ++ x ∷ [])) (filter f (xs ++ x ∷ [])) ≡ cond b (y ∷ filter f xs) (filter f xs) ++ cond (f x) (x ∷ []) []
  by true h = ap (λ l. y ∷ l) h
  by false h = h

-- ---- what is known where one send changes

-- the view of one send is as k says while that is wanted, and the others stay
pub with_send-view : (b : Book) (s : ℕ) (k : KnownSend) (view : ℕ → Option KnownSend) → view s ≡ cond (is_wanted b.stacks s k) (Some k) None → ((q : ℕ) → q ≢ s → map.get b.known q ≡ view q) → (q : ℕ) → map.get (with_send b s k).known q ≡ view q
with_send-view b s k view here others q = go (is_wanted b.stacks s k) here where
  go : (w : Bool) → view s ≡ cond w (Some k) None → map.get (cond w (map.insert b.known s k) (map.remove b.known s)) q ≡ view q
  go true e = get-insert nat_cmp_total b.known s k q ∙ by_key (λ o. o ≡ view q) q s (Some k) (map.get b.known q) (λ same. sym (ap view same ∙ e)) (others q)
  go false e = get-remove nat_cmp_total b.known s q ∙ by_key (λ o. o ≡ view q) q s None (map.get b.known q) (λ same. sym (ap view same ∙ e)) (others q)

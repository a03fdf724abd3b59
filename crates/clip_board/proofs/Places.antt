-- Entries at places.
use Rattle.std.proofs.Common.{◌≡◌, ◌<◌, ◌≤◌, ℕ, zero, suc, Bool, true, false, List, [], ◌∷◌, ◌++◌, length, reverse, Option, Some, None, refl, sym, ap, ◌∙◌, subst, arith}
use Rattle.std.specs.Prelude.{if◌then◌else◌, ◌==◌, nat_lt, take}
use Rattle.std.specs.List.{slice_get}
use Rattle.std.proofs.lemmas.Bool.{eqb-true, eqb-false, eq-eqb, ne_eqb, ltb-true, ltb-false, lt-ltb, le-ltb}
use Rattle.std.proofs.lemmas.List.{length-reverse, reverse-append, reverse-reverse, take-append-le}
use Rattle.clip_board.specs.declared.entry.ClipEntry.{ClipEntry}
use Rattle.clip_board.specs.Clipboards.{ClipPast, clip_reply, IsLawful}
use Rattle.clip_board.specs.Laws.{entry_at, before, sets, last_set}

-- the newest entry stands behind all others
pub newest : (x : ClipEntry) (past : ClipPast) → entry_at (x ∷ past) (length past) ≡ Some x
newest x past = ap (λ b. if b then Some x else entry_at past (length past)) (eq-eqb (length past) (length past) refl)

-- the others stand where they stood
pub earlier : (x : ClipEntry) (past : ClipPast) (k : ℕ) → k < length past → entry_at (x ∷ past) k ≡ entry_at past k
earlier x past k h = ap (λ b. if b then Some x else entry_at past k) (ne_eqb (length past) k (λ e. omega (arith, h, e)))

-- an entry that isn't the newest stood there
pub older : (x : ClipEntry) (past : ClipPast) (k : ℕ) (e : ClipEntry) → entry_at (x ∷ past) k ≡ Some e → (length past == k) ≡ false → entry_at past k ≡ Some e
older x past k e h f = sym (ap (λ b. if b then Some x else entry_at past k) f) ∙ h

-- and the newest is that one
pub is_newest : (x : ClipEntry) (past : ClipPast) (k : ℕ) (e : ClipEntry) → entry_at (x ∷ past) k ≡ Some e → (length past == k) ≡ true → x ≡ e
is_newest x past k e h f = let same : Some x ≡ Some e = sym (ap (λ b. if b then Some x else entry_at past k) f) ∙ h in cc

pub within : (past : ClipPast) (k : ℕ) (e : ClipEntry) → entry_at past k ≡ Some e → k < length past
within [] k e h = absurd cc
within (x ∷ past) k e h = by_case (within past k e) (length past == k) refl
  where
    by_case : (entry_at past k ≡ Some e → k < length past) → (b : Bool) → (length past == k) ≡ b → k < length (x ∷ past)
    by_case rest true f = let same = eqb-true (length past) k f in omega (arith, same)
    by_case rest false f = let there = rest (older x past k e h f) in omega (arith, there)

pub before_earlier : (x : ClipEntry) (past : ClipPast) (k : ℕ) → k ≤ length past → before (x ∷ past) k ≡ before past k
before_earlier x past k h = ap (λ b. if b then x ∷ past else before past k) (le-ltb (length past) k h)

pub before_all : (past : ClipPast) (k : ℕ) → length past ≤ k → before past k ≡ past
before_all [] k h = refl
before_all (x ∷ past) k h = ap (λ b. if b then x ∷ past else before past k) (lt-ltb (length past) k (omega (arith, h)))

-- an earlier past has the entries that stand in it
pub entry_before : (past : ClipPast) (j k : ℕ) → k < j → entry_at (before past j) k ≡ entry_at past k
entry_before [] j k h = refl
entry_before (x ∷ past) j k h = by_case (entry_before past j k h) (nat_lt (length past) j) refl
  where
    by_case : entry_at (before past j) k ≡ entry_at past k → (b : Bool) → nat_lt (length past) j ≡ b → entry_at (before (x ∷ past) j) k ≡ entry_at (x ∷ past) k
    by_case rest true f = ap (λ b. entry_at (if b then x ∷ past else before past j) k) f
    by_case rest false f =
        let short = ltb-false (length past) j f in
        ap (λ b. entry_at (if b then x ∷ past else before past j) k) f ∙ rest ∙ sym (earlier x past k (omega (arith, short, h)))

-- and the pasts of its entries
pub before_before : (past : ClipPast) (j k : ℕ) → k ≤ j → before (before past j) k ≡ before past k
before_before [] j k h = refl
before_before (x ∷ past) j k h = by_case (before_before past j k h) (nat_lt (length past) j) refl
  where
    by_case : before (before past j) k ≡ before past k → (b : Bool) → nat_lt (length past) j ≡ b → before (before (x ∷ past) j) k ≡ before (x ∷ past) k
    by_case rest true f = ap (λ b. before (if b then x ∷ past else before past j) k) f
    by_case rest false f =
        let short = ltb-false (length past) j f in
        ap (λ b. before (if b then x ∷ past else before past j) k) f ∙ rest ∙ sym (before_earlier x past k (omega (arith, short, h)))

pub length_before : (past : ClipPast) (k : ℕ) → k ≤ length past → length (before past k) ≡ k
length_before [] k h = omega (arith, h)
length_before (x ∷ past) k h = by_case (length_before past k) (nat_lt (length past) k) refl
  where
    by_case : (k ≤ length past → length (before past k) ≡ k) → (b : Bool) → nat_lt (length past) k ≡ b → length (before (x ∷ past) k) ≡ k
    by_case rest true f = let long = ltb-true (length past) k f in ap (λ b. length (if b then x ∷ past else before past k)) f ∙ omega (arith, long, h)
    by_case rest false f = let short = ltb-false (length past) k f in ap (λ b. length (if b then x ∷ past else before past k)) f ∙ rest short

-- an entry of a lawful past has the reply at the past before it
pub lawful_at : (past : ClipPast) → IsLawful past → (k : ℕ) (e : ClipEntry) → entry_at past k ≡ Some e → IsLawful (before past k) × (length (before past k) < 2097152) × (e.answer ≡ clip_reply (before past k) e.who e.call)
lawful_at [] l k e h = absurd cc
lawful_at (x ∷ past) l k e h = by_case (lawful_at past l.0 k e) (length past == k) refl
  where
    Answered : ClipEntry → ClipPast → Type 0
    Answered y p = IsLawful p × (length p < 2097152) × (y.answer ≡ clip_reply p y.who y.call)

    by_case : (entry_at past k ≡ Some e → IsLawful (before past k) × (length (before past k) < 2097152) × (e.answer ≡ clip_reply (before past k) e.who e.call)) → (b : Bool) → (length past == k) ≡ b → Answered e (before (x ∷ past) k)
    by_case rest true f =
        let same = eqb-true (length past) k f in
        subst (λ y. Answered y (before (x ∷ past) k)) (is_newest x past k e h f)
        (subst (Answered x) (sym (before_earlier x past k (omega (arith, same)) ∙ before_all past k (omega (arith, same)))) (l.0, l.1, l.2))
    by_case rest false f =
        let there = older x past k e h f in
        let short = within past k e there in
        subst (Answered e) (sym (before_earlier x past k (omega (arith, short)))) (rest there)

-- the last `Set` is an entry of the past
pub last_within : (f : ℕ) (past : ClipPast) (k : ℕ) → last_set f past ≡ Some k → k < length past
last_within f [] k h = absurd cc
last_within f (x ∷ past) k h = by_case (last_within f past k) (sets f x) refl
  where
    by_case : (last_set f past ≡ Some k → k < length past) → (b : Bool) → sets f x ≡ b → k < length (x ∷ past)
    by_case rest true e = let same : Some (length past) ≡ Some k = sym (ap (λ b. if b then Some (length past) else last_set f past) e) ∙ h in let place : length past ≡ k = cc in omega (arith, place)
    by_case rest false e = let there = rest (sym (ap (λ b. if b then Some (length past) else last_set f past) e) ∙ h) in omega (arith, there)

-- the last `Set` of a history by its last entry and the rest
pub last_of_rest : (f : ℕ) (rest earlier : List ClipEntry) (x : ClipEntry) → rest ≡ earlier ++ x ∷ [] → last_set f (reverse rest) ≡ (if sets f x then Some (length earlier) else last_set f (reverse earlier))
last_of_rest f rest earlier x h =
    ap (λ l. last_set f (reverse l)) h ∙ ap (last_set f) (reverse-append earlier (x ∷ [])) ∙ ap (λ n. if sets f x then Some n else last_set f (reverse earlier)) (length-reverse earlier)

-- tests of numbers that are both one more
eqb_suc : (a b : ℕ) → (a == b) ≡ (suc a == suc b)
eqb_suc a b = by_case (a == b) refl
  where
    by_case : (t : Bool) → (a == b) ≡ t → (a == b) ≡ (suc a == suc b)
    by_case true h = let same = eqb-true a b h in h ∙ sym (eq-eqb (suc a) (suc b) (omega (arith, same)))
    by_case false h = h ∙ sym (ne_eqb (suc a) (suc b) (λ e. eqb-false a b h (omega (arith, e))))

lt_suc : (a b : ℕ) → nat_lt a b ≡ nat_lt (suc a) (suc b)
lt_suc a b = by_case (nat_lt a b) refl
  where
    by_case : (t : Bool) → nat_lt a b ≡ t → nat_lt a b ≡ nat_lt (suc a) (suc b)
    by_case true h = let below = ltb-true a b h in h ∙ sym (lt-ltb (suc a) (suc b) (omega (arith, below)))
    by_case false h = let above = ltb-false a b h in h ∙ sym (le-ltb (suc a) (suc b) (omega (arith, above)))

-- a place of a history with one entry more at its end
get_append : (xs : List ClipEntry) (x : ClipEntry) (k : ℕ) → slice_get (xs ++ x ∷ []) k ≡ (if length xs == k then Some x else slice_get xs k)
get_append [] x zero = refl
get_append [] x (suc k) = sym (ap (λ b. if b then Some x else slice_get {X = ClipEntry} [] (suc k)) (ne_eqb 0 (suc k) (λ e. omega (arith, e))))
get_append (y ∷ ys) x zero = sym (ap (λ b. if b then Some x else Some y) (ne_eqb (length (y ∷ ys)) 0 (λ e. omega (arith, e))))
get_append (y ∷ ys) x (suc k) = get_append ys x k ∙ ap (λ b. if b then Some x else slice_get ys k) (eqb_suc (length ys) k)

-- the places of a history are those of its past
pub entry_get : (past : ClipPast) (k : ℕ) → slice_get (reverse past) k ≡ entry_at past k
entry_get [] k = refl
entry_get (x ∷ past) k =
    ap (λ l. slice_get l k) (reverse-append (x ∷ []) past) ∙ get_append (reverse past) x k
    ∙ ap (λ n. if n == k then Some x else slice_get (reverse past) k) (length-reverse past) ∙ ap (λ o. if length past == k then Some x else o) (entry_get past k)

take_none : (k : ℕ) → take {A = ClipEntry} k [] ≡ []
take_none zero = refl
take_none (suc k) = refl

take_append : (xs : List ClipEntry) (x : ClipEntry) (k : ℕ) → take k (xs ++ x ∷ []) ≡ (if nat_lt (length xs) k then xs ++ x ∷ [] else take k xs)
take_append [] x zero = refl
take_append [] x (suc k) = ap (λ l. x ∷ l) (take_none k) ∙ sym (ap (λ b. if b then x ∷ [] else take {A = ClipEntry} (suc k) []) (lt-ltb 0 (suc k) (omega arith)))
take_append (y ∷ ys) x zero = sym (ap (λ b. if b then y ∷ ys ++ x ∷ [] else []) (le-ltb (length (y ∷ ys)) 0 (omega arith)))
take_append (y ∷ ys) x (suc k) = ap (λ l. y ∷ l) (take_append ys x k) ∙ by_case (nat_lt (length ys) k) ∙ ap (λ b. if b then y ∷ ys ++ x ∷ [] else y ∷ take k ys) (lt_suc (length ys) k)
  where
    by_case : (b : Bool) → y ∷ (if b then ys ++ x ∷ [] else take k ys) ≡ (if b then y ∷ ys ++ x ∷ [] else y ∷ take k ys)
    by_case true = refl
    by_case false = refl

-- and so are their pasts
pub before_take : (past : ClipPast) (k : ℕ) → reverse (take k (reverse past)) ≡ before past k
before_take [] zero = refl
before_take [] (suc k) = refl
before_take (x ∷ past) k =
    ap (λ l. reverse (take k l)) (reverse-append (x ∷ []) past) ∙ ap (λ l. reverse l) (take_append (reverse past) x k)
    ∙ ap (λ n. reverse (if nat_lt n k then reverse past ++ x ∷ [] else take k (reverse past))) (length-reverse past) ∙ by_case (before_take past k) (nat_lt (length past) k)
  where
    by_case : reverse (take k (reverse past)) ≡ before past k → (b : Bool) → reverse (if b then reverse past ++ x ∷ [] else take k (reverse past)) ≡ (if b then x ∷ past else before past k)
    by_case rest true = reverse-append (reverse past) (x ∷ []) ∙ ap (λ l. x ∷ l) (reverse-reverse past)
    by_case rest false = rest

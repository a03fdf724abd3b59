-- Steps, reaching, and tables of bits.
use Rattle.std.proofs.Common.{◌≡◌, ◌≢◌, ℕ, ◌+◌, ◌*◌, ◌<◌, ◌≤◌, ◌==◌, ◌↔◌, ◌⊎◌, Bool, true, false, cond, ◌&&◌, ◌||◌, List, length, get_or, set, max, refl, ap, sym, subst, inl, inr, ◌∙◌, arith}
use Rattle.std.specs.Int.{bit_at}
use Rattle.std.specs.Int.RustNames.{bit_or}
use Rattle.std.proofs.lemmas.Bool.{cases_eq, cases_lt}
use Rattle.std.proofs.lemmas.Bool.Decides.{nat_tests}
use Rattle.std.proofs.lemmas.Nat.Bits.{bit_at-zero, bit_at-lt, bit_at_or}
use Rattle.std.proofs.lemmas.List.{get_or-set_same, get_or-set_other}
use Rattle.input_state.specs.Groups.{has_bit, link_at, is_pair, Joins, Reaches, here, step, IsClosure, IsMutual, SetsPair, EndsLinks}

-- more steps reach more
pub reaches_map : {P Q : ℕ → ℕ → Type 0} (wider : (u v : ℕ) → P u v → Q u v) {t u : ℕ} → Reaches P t u → Reaches Q t u
reaches_map wider here = here
reaches_map wider (step r p) = step (reaches_map wider r) (wider _ _ p)

pub reaches_trans : {P : ℕ → ℕ → Type 0} {t u v : ℕ} → Reaches P t u → Reaches P u v → Reaches P t v
reaches_trans r here = r
reaches_trans r (step q p) = step (reaches_trans r q) p

-- with no step each reaches itself alone
pub reaches_none : {P : ℕ → ℕ → Type 0} (none : (u v : ℕ) → P u v → ⊥) {t u : ℕ} → Reaches P t u → t ≡ u
reaches_none none here = refl
reaches_none none (step r p) = absurd (none _ _ p)

one_more : {P : ℕ → ℕ → Type 0} (a b t u v : ℕ) → Reaches P t u ⊎ (Reaches P t a × Reaches P b u) → P u v ⊎ ((u ≡ a) × (v ≡ b)) → Reaches P t v ⊎ (Reaches P t a × Reaches P b v)
one_more a b t u v (inl r) (inl p) = inl (step r p)
one_more {P} a b t u v (inl r) (inr (ea, eb)) = let To : ℕ → Type 0 = λ x. Reaches P t x in let From : ℕ → Type 0 = λ x. Reaches P b x in inr (subst To ea r, subst From (sym eb) here)
one_more a b t u v (inr (x, y)) (inl p) = inr (x, step y p)
one_more {P} a b t u v (inr (x, y)) (inr (ea, eb)) = let From : ℕ → Type 0 = λ z. Reaches P b z in inr (x, subst From (sym eb) here)

-- with one more step, from a to b
pub reaches_through : {P Q : ℕ → ℕ → Type 0} (a b : ℕ) (split : (u v : ℕ) → Q u v → P u v ⊎ ((u ≡ a) × (v ≡ b))) {t u : ℕ} → Reaches Q t u → Reaches P t u ⊎ (Reaches P t a × Reaches P b u)
reaches_through a b split here = inl here
reaches_through a b split (step r q) = one_more a b _ _ _ (reaches_through a b split r) (split _ _ q)

-- the joined pairs that stand in the first k cells of the table
abbrev pub JoinsBefore : List ℕ → ℕ → ℕ → ℕ → Type 0
JoinsBefore links k u v = Joins links u v × (16 * u + v < k)

-- each thread alone
abbrev pub AreSingle : List ℕ → Type 0
AreSingle groups = (t u : ℕ) → t < 16 → u < 16 → (bit_at (get_or groups t 0) u ≡ 1) ↔ (t ≡ u)

-- the groups with one more step
abbrev pub GoThrough : List ℕ → List ℕ → ℕ → ℕ → Type 0
GoThrough old new a b = (t u : ℕ) → t < 16 → u < 16 → (bit_at (get_or new t 0) u ≡ 1) ↔ ((bit_at (get_or old t 0) u ≡ 1) ⊎ ((bit_at (get_or old t 0) a ≡ 1) × (bit_at (get_or old b 0) u ≡ 1)))

pub closure_start : (links groups : List ℕ) → AreSingle groups → IsClosure (JoinsBefore links 0) groups
closure_start links groups single t u lt lu =
    let To : ℕ → Type 0 = λ x. Reaches (JoinsBefore links 0) t x in
    (λ bit. subst To ((single t u lt lu).0 bit) here, λ r. (single t u lt lu).1 (reaches_none (λ x y p. none x y p) r))
  where
    none : (x y : ℕ) → JoinsBefore links 0 x y → ⊥
    none x y p = let h : 16 * x + y < 0 = p.1 in omega arith

widened : (links : List ℕ) (k u v : ℕ) → JoinsBefore links k u v → JoinsBefore links (k + 1) u v
widened links k u v p = (p.0, (let h : 16 * u + v < k = p.1 in omega arith))

-- a cell that is one of the first k + 1 is one of the first k, or the last of them
split_last : (links : List ℕ) (k a b u v : ℕ) → k ≡ 16 * a + b → b < 16 → JoinsBefore links (k + 1) u v → JoinsBefore links k u v ⊎ ((u ≡ a) × (v ≡ b))
split_last links k a b u v e lb p = by_order (cases_lt (16 * u + v) k)
  where
    by_order : (16 * u + v < k) ⊎ (k ≤ 16 * u + v) → JoinsBefore links k u v ⊎ ((u ≡ a) × (v ≡ b))
    by_order (inl l) = inl (p.0, l)
    by_order (inr g) = let h : 16 * u + v < k + 1 = p.1 in let small : v < 16 = p.0.to in inr (omega arith, omega arith)

-- a joined pair in the next cell
pub closure_link : (links : List ℕ) (k a b : ℕ) (old new : List ℕ) → a < 16 → b < 16 → k ≡ 16 * a + b → link_at links a b ≡ 1 → IsClosure (JoinsBefore links k) old → GoThrough old new a b → IsClosure (JoinsBefore links (k + 1)) new
closure_link links k a b old new la lb e link closure through t u lt lu =
    (λ bit. forward ((through t u lt lu).0 bit), λ r. (through t u lt lu).1 (backward (reaches_through a b (λ x y p. split_last links k a b x y e lb p) r)))
  where
    joined : JoinsBefore links (k + 1) a b
    joined = (record { from = la; to = lb; link = link }, omega arith)

    forward : (bit_at (get_or old t 0) u ≡ 1) ⊎ ((bit_at (get_or old t 0) a ≡ 1) × (bit_at (get_or old b 0) u ≡ 1)) → Reaches (JoinsBefore links (k + 1)) t u
    forward (inl bit) = reaches_map (widened links k) ((closure t u lt lu).0 bit)
    forward (inr (up, down)) = reaches_trans (step (reaches_map (widened links k) ((closure t a lt la).0 up)) joined) (reaches_map (widened links k) ((closure b u lb lu).0 down))

    backward : Reaches (JoinsBefore links k) t u ⊎ (Reaches (JoinsBefore links k) t a × Reaches (JoinsBefore links k) b u) → (bit_at (get_or old t 0) u ≡ 1) ⊎ ((bit_at (get_or old t 0) a ≡ 1) × (bit_at (get_or old b 0) u ≡ 1))
    backward (inl r) = inl ((closure t u lt lu).1 r)
    backward (inr (up, down)) = inr ((closure t a lt la).1 up, (closure b u lb lu).1 down)

-- no joined pair in the next cell
pub closure_no_link : (links : List ℕ) (k a b : ℕ) (groups : List ℕ) → b < 16 → k ≡ 16 * a + b → (link_at links a b ≡ 1 → ⊥) → IsClosure (JoinsBefore links k) groups → IsClosure (JoinsBefore links (k + 1)) groups
closure_no_link links k a b groups lb e none closure t u lt lu =
    (λ bit. reaches_map (widened links k) ((closure t u lt lu).0 bit), λ r. (closure t u lt lu).1 (reaches_map (λ x y p. narrowed x y p (split_last links k a b x y e lb p)) r))
  where
    narrowed : (x y : ℕ) → JoinsBefore links (k + 1) x y → JoinsBefore links k x y ⊎ ((x ≡ a) × (y ≡ b)) → JoinsBefore links k x y
    narrowed x y p (inl q) = q
    narrowed x y p (inr (ex, ey)) =
        let Row : ℕ → Type 0 = λ z. link_at links z y ≡ 1 in
        let Column : ℕ → Type 0 = λ z. link_at links a z ≡ 1 in
        absurd (none (subst Column ey (subst Row ex p.0.link)))

-- all cells
pub closure_end : (links groups : List ℕ) → IsClosure (JoinsBefore links 256) groups → IsClosure (Joins links) groups
closure_end links groups closure t u lt lu =
    (λ bit. reaches_map (λ x y p. p.0) ((closure t u lt lu).0 bit), λ r. (closure t u lt lu).1 (reaches_map (λ x y j. within x y j) r))
  where
    within : (x y : ℕ) → Joins links x y → JoinsBefore links 256 x y
    within x y j = (j, (let h : x < 16 = j.from in let h2 : y < 16 = j.to in omega arith))

-- one more element of a table that is filled from the front
pub filled_step : (P : ℕ → ℕ → Type 0) (xs : List ℕ) (n y : ℕ) → n < length xs → ((j : ℕ) → j < n → P j (get_or xs j 0)) → P n y → (j : ℕ) → j < n + 1 → P j (get_or (set xs n y) j 0)
filled_step P xs n y l below now j lj = by_place (cases_eq j n)
  where
    by_place : (j ≡ n) ⊎ (j ≡ n → ⊥) → P j (get_or (set xs n y) j 0)
    by_place (inl e) = let Q : ℕ → Type 0 = λ x. P j x in let R : ℕ → Type 0 = λ x. P x y in subst Q (sym (ap (λ x. get_or (set xs n y) x 0) e ∙ get_or-set_same xs n y 0 l)) (subst R (sym e) now)
    by_place (inr ne) = let Q : ℕ → Type 0 = λ x. P j x in subst Q (sym (get_or-set_other xs n j y 0 ne)) (below j (omega arith))

-- what a test of a set says
pub has_true : (mask t : ℕ) (answer : Bool) → answer ≡ has_bit mask t → answer ≡ true → bit_at mask t ≡ 1
has_true mask t answer e is_so = grind (arith, nat_tests)

pub has_false : (mask t : ℕ) (answer : Bool) → answer ≡ has_bit mask t → answer ≡ false → bit_at mask t ≡ 1 → ⊥
has_false mask t answer e not_so bit = grind (arith, nat_tests)

max_right : (a b : ℕ) → max a b ≡ 1 → a < 2 → (a ≡ 1 → ⊥) → b ≡ 1
max_right a b e small ne = grind arith

max_one_left : (a b : ℕ) → a ≡ 1 → b < 2 → max a b ≡ 1
max_one_left a b e small = grind arith

max_one_right : (a b : ℕ) → b ≡ 1 → a < 2 → max a b ≡ 1
max_one_right a b e small = grind arith

-- the union of two sets, where the first has `from`
pub union_bit : (x y from : ℕ) → bit_at x from ≡ 1 → (u : ℕ) → (bit_at (bit_or x y) u ≡ 1) ↔ ((bit_at x u ≡ 1) ⊎ ((bit_at x from ≡ 1) × (bit_at y u ≡ 1)))
union_bit x y from h u = (λ e. forward (sym (bit_at_or x y u) ∙ e) (cases_eq (bit_at x u) 1), λ d. bit_at_or x y u ∙ backward d)
  where
    forward : max (bit_at x u) (bit_at y u) ≡ 1 → (bit_at x u ≡ 1) ⊎ (bit_at x u ≡ 1 → ⊥) → (bit_at x u ≡ 1) ⊎ ((bit_at x from ≡ 1) × (bit_at y u ≡ 1))
    forward e (inl own) = inl own
    forward e (inr other) = inr (h, max_right (bit_at x u) (bit_at y u) e (bit_at-lt x u) other)

    backward : (bit_at x u ≡ 1) ⊎ ((bit_at x from ≡ 1) × (bit_at y u ≡ 1)) → max (bit_at x u) (bit_at y u) ≡ 1
    backward (inl own) = max_one_left (bit_at x u) (bit_at y u) own (bit_at-lt y u)
    backward (inr (_, far)) = max_one_right (bit_at x u) (bit_at y u) far (bit_at-lt x u)

-- a set of one thread
pub single : (t mask : ℕ) → bit_at mask t ≡ 1 → ((u : ℕ) → u ≢ t → bit_at mask u ≡ bit_at 0 u) → (u : ℕ) → (bit_at mask u ≡ 1) ↔ (t ≡ u)
single t mask member others u = by_place (cases_eq u t)
  where
    by_place : (u ≡ t) ⊎ (u ≡ t → ⊥) → (bit_at mask u ≡ 1) ↔ (t ≡ u)
    by_place (inl e) = (λ _. sym e, λ _. ap (bit_at mask) e ∙ member)
    by_place (inr ne) = (λ bit. absurd (let h : 0 ≡ 1 = sym (others u ne ∙ bit_at-zero u) ∙ bit in omega arith), λ e. absurd (ne (sym e)))

-- one row with one bit set or cleared
pub one_sided : (links : List ℕ) (a b mask bit : ℕ) → a < length links → bit_at mask b ≡ bit → ((v : ℕ) → v < 16 → v ≢ b → bit_at mask v ≡ bit_at (get_or links a 0) v) → (u v : ℕ) → v < 16 → link_at (set links a mask) u v ≡ cond ((u == a) && (v == b)) bit (link_at links u v)
one_sided links a b mask bit l member others u v lv = by_row (cases_eq u a) (cases_eq v b)
  where
    by_row : (u ≡ a) ⊎ (u ≡ a → ⊥) → (v ≡ b) ⊎ (v ≡ b → ⊥) → link_at (set links a mask) u v ≡ cond ((u == a) && (v == b)) bit (link_at links u v)
    by_row (inl e) (inl f) = grind (arith, nat_tests, get_or-set_same links a mask 0 l, member)
    by_row (inl e) (inr nf) = grind (arith, nat_tests, get_or-set_same links a mask 0 l, others v lv nf)
    by_row (inr ne) f = grind (arith, nat_tests, get_or-set_other links a u mask 0 ne)

either : (p q : Bool) (bit x : ℕ) → cond q bit (cond p bit x) ≡ cond (p || q) bit x
either true true bit x = refl
either true false bit x = refl
either false true bit x = refl
either false false bit x = refl

-- both rows
pub both_sided : (links between new : List ℕ) (a b bit : ℕ) → ((u v : ℕ) → v < 16 → link_at between u v ≡ cond ((u == a) && (v == b)) bit (link_at links u v)) → ((u v : ℕ) → v < 16 → link_at new u v ≡ cond ((u == b) && (v == a)) bit (link_at between u v)) → SetsPair links new a b bit
both_sided links between new a b bit first second u v lu lv = second u v lv ∙ ap (λ x. cond ((u == b) && (v == a)) bit x) (first u v lv) ∙ either ((u == a) && (v == b)) ((u == b) && (v == a)) bit (link_at links u v)

swapped : (p q r s : Bool) → (p && q || r && s) ≡ (s && r || q && p)
swapped false false false false = refl
swapped true false false false = refl
swapped false true false false = refl
swapped true true false false = refl
swapped false false true false = refl
swapped true false true false = refl
swapped false true true false = refl
swapped true true true false = refl
swapped false false false true = refl
swapped true false false true = refl
swapped false true false true = refl
swapped true true false true = refl
swapped false false true true = refl
swapped true false true true = refl
swapped false true true true = refl
swapped true true true true = refl

-- a pair keeps links mutual
pub mutual_pair : (old new : List ℕ) (a b bit : ℕ) → SetsPair old new a b bit → IsMutual old → IsMutual new
mutual_pair old new a b bit sets both_ways u v lu lv =
    sets u v lu lv ∙ ap (λ p. cond p bit (link_at old u v)) (swapped (u == a) (v == b) (u == b) (v == a)) ∙ ap (λ x. cond (is_pair a b v u) bit x) (both_ways u v lu lv) ∙ sym (sets v u lv lu)

-- and so does the end of a thread
pub mutual_end : (old new : List ℕ) (t : ℕ) → EndsLinks old new t → IsMutual old → IsMutual new
mutual_end old new t ends both_ways u v lu lv =
    ends u v lu lv ∙ ap (λ x. cond ((u == t) || (v == t)) 0 x) (both_ways u v lu lv) ∙ ap (λ p. cond p 0 (link_at old v u)) (either_end (u == t) (v == t)) ∙ sym (ends v u lv lu)
  where
    either_end : (p q : Bool) → (p || q) ≡ (q || p)
    either_end true true = refl
    either_end true false = refl
    either_end false true = refl
    either_end false false = refl

-- no links are mutual
pub mutual_none : (links : List ℕ) → ((t : ℕ) → t < 16 → get_or links t 0 ≡ 0) → IsMutual links
mutual_none links none u v lu lv = ap (λ mask. bit_at mask v) (none u lu) ∙ bit_at-zero v ∙ sym (ap (λ mask. bit_at mask u) (none v lv) ∙ bit_at-zero u)

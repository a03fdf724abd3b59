-- Runs in the order of their movers.
use Rattle.std.proofs.Common.{◌≡◌, zero, suc, ◌+◌, ◌<◌, List, [], ◌∷◌, ◌++◌, length, get_or, refl, sym, ap, ◌∙◌, subst, inl, inr, ◌⊎◌, append_assoc, arith}
use Rattle.std.specs.Prelude.{All, Contains}
use Rattle.std.proofs.lemmas.List.{length-append}
use Rattle.user_model.specs.declared.entry.Entry.{Entry}
use Rattle.user_model.specs.Past.{Past}
use Rattle.run_explorer.specs.Orders.{IsBefore}
use Rattle.run_explorer.specs.Searches.{GoesOnFrom, GoesOnBy}

head_same : {X : Type 0} {x y : X} {xs ys : List X} → x ∷ xs ≡ y ∷ ys → x ≡ y
head_same e = cc

tail_same : {X : Type 0} {x y : X} {xs ys : List X} → x ∷ xs ≡ y ∷ ys → xs ≡ ys
tail_same e = cc

-- ---- lists that are cut in two ways

-- a list is this one with some in front
record IsLonger (long short : List Entry) : Type 0 where
  front : List Entry
  is : long ≡ front ++ short

cuts : (xs ys us vs : List Entry) → xs ++ us ≡ ys ++ vs → IsLonger us vs ⊎ IsLonger vs us
cuts [] ys us vs e = inl (record { front = ys; is = e })
cuts (x ∷ xs) [] us vs e = inr (record { front = x ∷ xs; is = sym e })
cuts (x ∷ xs) (y ∷ ys) us vs e = cuts xs ys us vs (tail_same e)

-- ---- one before another

lower_same : (a b c : Entry) → a.who.0 < b.who.0 → b ≡ c → a.who.0 < c.who.0
lower_same a b c lt e = subst (λ (x : Entry). a.who.0 < x.who.0) e lt

lower_too : (a b c : Entry) → a.who.0 < b.who.0 → b.who.0 < c.who.0 → a.who.0 < c.who.0
lower_too a b c p q = omega (arith, p, q)

-- the first two part at the place where the second and the third do, or before it
parts_later : (a b c : Past) (p : IsBefore a b) (q : IsBefore b c) (front : List Entry) → p.higher ∷ p.common ≡ front ++ q.lower ∷ q.common → IsBefore a c
parts_later a b c p q [] e = record {
  common = p.common;
  lower = p.lower;
  higher = q.higher;
  rest = p.rest;
  others = q.others;
  first = p.first;
  second = q.second ∙ ap (λ (k : List Entry). q.others ++ q.higher ∷ k) (sym (tail_same e));
  parts = lower_too p.lower p.higher q.higher p.parts (subst (λ (x : Entry). x.who.0 < q.higher.who.0) (sym (head_same e)) q.parts);
}
parts_later a b c p q (x ∷ front) e = record {
  common = q.common;
  lower = q.lower;
  higher = q.higher;
  rest = p.rest ++ p.lower ∷ front;
  others = q.others;
  first = p.first ∙ ap (λ (k : List Entry). p.rest ++ p.lower ∷ k) (tail_same e) ∙ sym (append_assoc p.rest (p.lower ∷ front) (q.lower ∷ q.common));
  second = q.second;
  parts = q.parts;
}

parts_sooner : (a b c : Past) (p : IsBefore a b) (q : IsBefore b c) (front : List Entry) → q.lower ∷ q.common ≡ front ++ p.higher ∷ p.common → IsBefore a c
parts_sooner a b c p q [] e = parts_later a b c p q [] (sym e)
parts_sooner a b c p q (x ∷ front) e = record {
  common = p.common;
  lower = p.lower;
  higher = p.higher;
  rest = p.rest;
  others = q.others ++ q.higher ∷ front;
  first = p.first;
  second = q.second ∙ ap (λ (k : List Entry). q.others ++ q.higher ∷ k) (tail_same e) ∙ sym (append_assoc q.others (q.higher ∷ front) (p.higher ∷ p.common));
  parts = p.parts;
}

-- the order goes on
pub before_too : (a b c : Past) → IsBefore a b → IsBefore b c → IsBefore a c
before_too a b c p q =
    elim (cuts p.others q.rest (p.higher ∷ p.common) (q.lower ∷ q.common) (sym p.second ∙ q.first)) [
      | inl x ↦ parts_later a b c p q x.front x.is
      | inr x ↦ parts_sooner a b c p q x.front x.is
    ]

-- no run is before itself
pub never_itself : (a b : Past) → a ≡ b → IsBefore a b → ⊥
never_itself a b same p = elim (cuts p.rest p.others (p.lower ∷ p.common) (p.higher ∷ p.common) (sym p.first ∙ same ∙ p.second)) [
  | inl x ↦ no_longer p.common p.lower p.higher x.front x.is (λ e. omega (arith, e, p.parts))
  | inr x ↦ no_longer p.common p.higher p.lower x.front x.is (λ e. omega (arith, e, p.parts))
]
  where
    no_longer : (common : Past) (x y : Entry) (front : List Entry) → x ∷ common ≡ front ++ y ∷ common → (x.who.0 ≡ y.who.0 → ⊥) → ⊥
    no_longer common x y [] e other = other (ap (λ (z : Entry). z.who.0) (head_same e))
    no_longer common x y (z ∷ front) e other = absurd (omega (arith, ap length e, length-append front (y ∷ common)))

-- with more entries the second still comes after
pub before_longer : (a b : Past) (newer : List Entry) → IsBefore a b → IsBefore a (newer ++ b)
before_longer a b newer p = record {
  common = p.common;
  lower = p.lower;
  higher = p.higher;
  rest = p.rest;
  others = newer ++ p.others;
  first = p.first;
  second = ap (λ (k : List Entry). newer ++ k) p.second ∙ sym (append_assoc newer p.others (p.higher ∷ p.common));
  parts = p.parts;
}

-- and the first still before
pub longer_before : (a b : Past) (newer : List Entry) → IsBefore a b → IsBefore (newer ++ a) b
longer_before a b newer p = record {
  common = p.common;
  lower = p.lower;
  higher = p.higher;
  rest = newer ++ p.rest;
  others = p.others;
  first = ap (λ (k : List Entry). newer ++ k) p.first ∙ sym (append_assoc newer p.rest (p.lower ∷ p.common));
  second = p.second;
  parts = p.parts;
}

-- two that go on from one place by different movers
pub parts_here : (a b past : Past) (e f : Entry) (x y : List Entry) → a ≡ x ++ e ∷ past → b ≡ y ++ f ∷ past → e.who.0 < f.who.0 → IsBefore a b
parts_here a b past e f x y first second lt = record { common = past; lower = e; higher = f; rest = x; others = y; first = first; second = second; parts = lt }

-- what parts from a longer one parts there or before
pub parts_or_before : (e : Entry) (past run : Past) → IsBefore (e ∷ past) run → GoesOnBy run past (e.who.0 + 1) ⊎ IsBefore past run
parts_or_before e past run p = pick p.rest p.first
  where
    pick : (rest : List Entry) → e ∷ past ≡ rest ++ p.lower ∷ p.common → GoesOnBy run past (e.who.0 + 1) ⊎ IsBefore past run
    pick [] same = inl (record {
      newer = p.others;
      next = p.higher;
      is = p.second ∙ ap (λ (k : List Entry). p.others ++ p.higher ∷ k) (sym (tail_same same));
      by = let lt : e.who.0 < p.higher.who.0 = subst (λ (x : Entry). x.who.0 < p.higher.who.0) (sym (head_same same)) p.parts in omega (arith, lt);
    })
    pick (x ∷ rest) same = inr (record { common = p.common; lower = p.lower; higher = p.higher; rest = rest; others = p.others; first = tail_same same; second = p.second; parts = p.parts })

-- nothing comes after what has no entries
pub none_after : (run : Past) → IsBefore [] run → ⊥
none_after run p = pick p.rest p.first
  where
    pick : (rest : List Entry) → [] ≡ rest ++ p.lower ∷ p.common → ⊥
    pick [] same = absurd cc
    pick (x ∷ rest) same = absurd cc

-- ---- what goes on

-- with some entries more, or with none
record HasLast (xs : List Entry) : Type 0 where
  before : List Entry
  last : Entry
  is : xs ≡ before ++ last ∷ []

has_last : (xs : List Entry) → (xs ≡ []) ⊎ HasLast xs
has_last [] = inl refl
has_last (x ∷ xs) = elim (has_last xs) [
  | inl none ↦ inr (record { before = []; last = x; is = ap (λ (k : List Entry). x ∷ k) none })
  | inr more ↦ inr (record { before = x ∷ more.before; last = more.last; is = ap (λ (k : List Entry). x ∷ k) more.is })
]

pub goes_further : (run past : Past) → GoesOnFrom run past → (run ≡ past) ⊎ GoesOnBy run past 0
goes_further run past on = elim (has_last on.newer) [
  | inl none ↦ inl (on.is ∙ ap (λ (k : List Entry). k ++ past) none)
  | inr more ↦ inr (record {
    newer = more.before;
    next = more.last;
    is = on.is ∙ ap (λ (k : List Entry). k ++ past) more.is ∙ append_assoc more.before (more.last ∷ []) past;
    by = omega arith;
  })
]

-- ---- all of a list, and one in it

pub all_none : (P : Past → Type 0) → All P []
all_none P k d lt = absurd (omega (arith, lt))

pub all_more : (P : Past → Type 0) (x : Past) (xs : List Past) → P x → All P xs → All P (x ∷ xs)
all_more P x xs here rest zero d lt = here
all_more P x xs here rest (suc k) d lt = rest k d (omega (arith, lt))

pub all_into : (P Q : Past → Type 0) (xs : List Past) → ((x : Past) → P x → Q x) → All P xs → All Q xs
all_into P Q xs f all k d lt = f (get_or xs k d) (all k d lt)

pub here_too : (x : Past) (xs : List Past) (y : Past) → y ≡ x → Contains (x ∷ xs) y
here_too x xs y same = (0, omega arith, sym same)

pub there_too : (x : Past) (xs : List Past) (y : Past) → Contains xs y → Contains (x ∷ xs) y
there_too x xs y c = (suc c.0, omega (arith, c.1), c.2)

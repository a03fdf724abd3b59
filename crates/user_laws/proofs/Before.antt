-- What comes before what in the order of a destruction.
use Rattle.std.proofs.Common.{◌≡◌, ◌≢◌, ◌⊎◌, inl, inr, ◌<◌, ℕ, zero, suc, eqb, Bool, true, false, cond, List, [], ◌∷◌, ◌++◌, map, length, Some, refl, sym, ap, ◌∙◌, subst, append_assoc, arith}
use Rattle.std.specs.Prelude.{count_by}
use Rattle.std.specs.List.{flat_map}
use Rattle.std.proofs.lemmas.Bool.{eqb-true}
use Rattle.std.proofs.lemmas.Bool.Decides.{eqb_tells}
use Rattle.std.proofs.lemmas.List.Sums.{sum_by-cons}
use Rattle.user_model.specs.Windows.{Window, find_window, is_kin}
use Rattle.user_model.specs.Destruction.{Step, told, ended, owned_by, children_of, preorder, postorder, told_step, ended_step, destruction, destruction_of, same_step}
use Rattle.user_laws.specs.Words.{IsIn}
use Rattle.user_laws.specs.Destructions.{ComesBefore}
use Rattle.user_laws.proofs.WordLaws.{in_append, in_left, in_right}
use Rattle.user_laws.proofs.Forest.{IsForest, some_number, found_in}
use Rattle.user_laws.proofs.Walks.{one, child, owned}
use Rattle.user_laws.proofs.Once.{told_exactly}

-- ---- one after another in a list

before_left : {A : Type 0} {i j : A} {xs : List A} (ys : List A) → ComesBefore i j xs → ComesBefore i j (ys ++ xs)
before_left {i = i} {j = j} {xs = xs} ys b = record {
  before = ys ++ b.before;
  between = b.between;
  after = b.after;
  splits = ap (λ l. ys ++ l) b.splits ∙ sym (append_assoc ys b.before (i ∷ (b.between ++ j ∷ b.after)));
}

before_right : {A : Type 0} {i j : A} {xs : List A} (ys : List A) → ComesBefore i j xs → ComesBefore i j (xs ++ ys)
before_right {i = i} {j = j} {xs = xs} ys b = record {
  before = b.before;
  between = b.between;
  after = b.after ++ ys;
  splits = ap (λ l. l ++ ys) b.splits ∙ append_assoc b.before (i ∷ (b.between ++ j ∷ b.after)) ys ∙ ap (λ l. b.before ++ i ∷ l) (append_assoc b.between (j ∷ b.after) ys);
}

-- a place of a value
record Place {A : Type 0} (a : A) (xs : List A) : Type 0 where
  front : List A
  back : List A
  at : xs ≡ front ++ a ∷ back

place_of : {A : Type 0} (a : A) (xs : List A) → IsIn a xs → Place a xs
place_of a [] is = absurd is
place_of a (x ∷ xs) (inl same) = record { front = []; back = xs; at = ap (λ y. y ∷ xs) (sym same) }
place_of a (x ∷ xs) (inr there) = let p = place_of a xs there in record { front = x ∷ p.front; back = p.back; at = ap (λ l. x ∷ l) p.at }

before_apart : {A : Type 0} (i j : A) (xs ys : List A) → IsIn i xs → IsIn j ys → ComesBefore i j (xs ++ ys)
before_apart i j xs ys is there =
    let p = place_of i xs is in
    let q = place_of j ys there in
    record {
      before = p.front;
      between = p.back ++ q.front;
      after = q.back;
      splits = ap (λ l. l ++ ys) p.at ∙ append_assoc p.front (i ∷ p.back) ys ∙ ap (λ l. p.front ++ i ∷ (p.back ++ l)) q.at ∙ ap (λ l. p.front ++ i ∷ l) (sym (append_assoc p.back q.front (j ∷ q.back)));
    }

-- in the part of one of several
before_within : {A B : Type 0} {i j : A} (f : B → List A) (ys : List B) (y : B) → IsIn y ys → ComesBefore i j (f y) → ComesBefore i j (flat_map f ys)
before_within f [] y is b = absurd is
before_within {A = A} {i = i} {j = j} f (x ∷ ys) y (inl same) b = before_right (flat_map f ys) (subst (λ z. ComesBefore i j (f z)) same b)
before_within f (x ∷ ys) y (inr there) b = before_left (f x) (before_within f ys y there b)

-- one of several has it
record HasIt {A B : Type 0} (f : B → List A) (ys : List B) (a : A) : Type 0 where
  who : B
  one_of : IsIn who ys
  has : IsIn a (f who)

which : {A B : Type 0} (f : B → List A) (ys : List B) (a : A) → IsIn a (flat_map f ys) → HasIt f ys a
which f [] a is = absurd is
which {A = A} {B = B} f (y ∷ ys) a is = by (which f ys a) (in_append a (f y) (flat_map f ys) is)
  where
    by : (IsIn a (flat_map f ys) → HasIt f ys a) → IsIn a (f y) ⊎ IsIn a (flat_map f ys) → HasIt f (y ∷ ys) a
    by rest (inl here) = record { who = y; one_of = inl refl; has = here }
    by rest (inr there) = let r = rest there in record { who = r.who; one_of = inr r.one_of; has = r.has }

within : {A B : Type 0} (f : B → List A) (ys : List B) (y : B) (a : A) → IsIn y ys → IsIn a (f y) → IsIn a (flat_map f ys)
within f [] y a is has = absurd is
within f (x ∷ ys) y a (inl same) has = in_left a (f x) (flat_map f ys) (subst (λ z. IsIn a (f z)) same has)
within f (x ∷ ys) y a (inr there) has = in_right a (f x) (flat_map f ys) (within f ys y a there has)

in_map : {A B : Type 0} (f : A → B) (xs : List A) (a : A) → IsIn a xs → IsIn (f a) (map f xs)
in_map f [] a is = absurd is
in_map f (x ∷ xs) a (inl same) = inl (ap f same)
in_map f (x ∷ xs) a (inr there) = inr (in_map f xs a there)

map_split : {A B : Type 0} (f : A → B) (xs ys : List A) → map f (xs ++ ys) ≡ map f xs ++ map f ys
map_split f [] ys = refl
map_split f (x ∷ xs) ys = ap (λ l. f x ∷ l) (map_split f xs ys)

before_mapped : {A B : Type 0} (f : A → B) {i j : A} {xs : List A} → ComesBefore i j xs → ComesBefore (f i) (f j) (map f xs)
before_mapped f {i} {j} {xs} b = record {
  before = map f b.before;
  between = map f b.between;
  after = map f b.after;
  splits = ap (map f) b.splits ∙ map_split f b.before (i ∷ (b.between ++ j ∷ b.after)) ∙ ap (λ l. map f b.before ++ f i ∷ l) (map_split f b.between (j ∷ b.after));
}

module _ (ws : List Window) (f : IsForest ws) where
  one_window : (x y : Window) → IsIn x ws → IsIn y ws → x.number ≡ y.number → x ≡ y
  one_window x y is there same = some_same (sym (found_in ws x f is) ∙ ap (find_window ws) same ∙ found_in ws y f there)
    where
      some_same : Some x ≡ Some y → x ≡ y
      some_same e = cc

  -- ---- subtrees

  pre_live : (n : ℕ) (x y : Window) → IsIn x ws → IsIn y (preorder n ws x) → IsIn y ws
  pre_live zero x y is there = absurd there
  pre_live (suc n) x y is (inl same) = subst (λ z. IsIn z ws) (sym same) is
  pre_live (suc n) x y is (inr below) = let w = which (preorder n ws) (children_of ws x) y below in pre_live n w.who y (child ws f x w.who is w.one_of).0 w.has

  -- the same windows either way
  pre_post : (n : ℕ) (x y : Window) → IsIn y (preorder n ws x) → IsIn y (postorder n ws x)
  pre_post zero x y there = absurd there
  pre_post (suc n) x y (inl same) = in_right y (flat_map (postorder n ws) (children_of ws x)) (x ∷ []) (inl same)
  pre_post (suc n) x y (inr below) =
      let w = which (preorder n ws) (children_of ws x) y below in
      in_left y (flat_map (postorder n ws) (children_of ws x)) (x ∷ []) (within (postorder n ws) (children_of ws x) w.who y w.one_of (pre_post n w.who y w.has))

  -- what comes of a window of a subtree other than its root
  record HasParent (n : ℕ) (x y p : Window) : Type 0 where
    parent_in : IsIn p (preorder n ws x)
    down : ComesBefore p y (preorder n ws x)
    up : ComesBefore y p (postorder n ws x)

  -- the root stands before its children, and after them
  root_child : (n : ℕ) (x y p c : Window) → IsIn x ws → IsIn p ws → IsIn c (children_of ws x) → IsIn y (preorder n ws c) → y.number ≡ c.number → y.parent ≡ p.number → HasParent (suc n) x y p
  root_child n x y p c is live one_of has same of =
      let facts = child ws f x c is one_of in
      let is_child : y ≡ c = one_window y c (pre_live n c y facts.0 has) facts.0 same in
      let root : p ≡ x = one_window p x live is (sym of ∙ ap (λ (z : Window). z.parent) is_child ∙ facts.1.0) in
      let below = within (preorder n ws) (children_of ws x) c y one_of has in
      let above = within (postorder n ws) (children_of ws x) c y one_of (pre_post n c y has) in
      record {
        parent_in = inl root;
        down = before_apart p y (x ∷ []) (flat_map (preorder n ws) (children_of ws x)) (inl root) below;
        up = before_apart y p (flat_map (postorder n ws) (children_of ws x)) (x ∷ []) above (inl root);
      }

  parent_first : (n : ℕ) (x y p : Window) → IsIn x ws → IsIn p ws → IsIn y (preorder n ws x) → y.number ≢ x.number → y.parent ≡ p.number → HasParent n x y p
  parent_first zero x y p is live there other of = absurd there
  parent_first (suc n) x y p is live (inl same) other of = absurd (other (ap (λ (z : Window). z.number) same))
  parent_first (suc n) x y p is live (inr below) other of =
      let w = which (preorder n ws) (children_of ws x) y below in
      elim (eqb_tells y.number w.who.number) [
        | inl same ↦ root_child n x y p w.who is live w.one_of w.has same.1 of
        | inr apart ↦
            let r = parent_first n w.who y p (child ws f x w.who is w.one_of).0 live w.has apart.1 of in
            record {
              parent_in = inr (within (preorder n ws) (children_of ws x) w.who p w.one_of r.parent_in);
              down = before_left (x ∷ []) (before_within (preorder n ws) (children_of ws x) w.who w.one_of r.down);
              up = before_right (x ∷ []) (before_within (postorder n ws) (children_of ws x) w.who w.one_of r.up);
            }
      ]

  -- a window of a subtree other than its root stands under a window
  pre_under : (n : ℕ) (x y : Window) → IsIn x ws → IsIn y (preorder n ws x) → y.number ≢ x.number → 15 < y.parent
  pre_under zero x y is there other = absurd there
  pre_under (suc n) x y is (inl same) other = absurd (other (ap (λ (z : Window). z.number) same))
  pre_under (suc n) x y is (inr below) other =
      let w = which (preorder n ws) (children_of ws x) y below in
      let facts = child ws f x w.who is w.one_of in
      elim (eqb_tells y.number w.who.number) [
        | inl same ↦
            let under : y.parent ≡ x.number = ap (λ (z : Window). z.parent) (one_window y w.who (pre_live n w.who y facts.0 w.has) facts.0 same.1) ∙ facts.1.0 in
            omega (arith, under, some_number ws x f is)
        | inr apart ↦ pre_under n w.who y facts.0 w.has apart.1
      ]

  -- ---- destructions

  in_mapped : (w : ℕ) (xs : List Window) → IsIn (told w) (map told_step xs) → (z : Window) × IsIn z xs × (w ≡ z.number)
  in_mapped w [] is = absurd is
  in_mapped w (x ∷ xs) (inl same) = (x, inl refl, number_of same)
    where
      number_of : told w ≡ told x.number → w ≡ x.number
      number_of e = cc
  in_mapped w (x ∷ xs) (inr there) = let r = in_mapped w xs there in (r.0, inr r.1, r.2)

  never_ended : (w : ℕ) (xs : List Window) → IsIn (told w) (map ended_step xs) → ⊥
  never_ended w [] is = is
  never_ended w (x ∷ xs) (inl same) = absurd (apart same)
    where
      apart : told w ≡ ended x.number → ⊥
      apart e = absurd cc
  never_ended w (x ∷ xs) (inr there) = never_ended w xs there

  -- a window is told with one that x owns, or in x's own subtree
  told_where : (n : ℕ) (x y : Window) → IsIn x ws → IsIn y ws → IsIn (told y.number) (destruction (suc n) ws x) → HasIt (destruction n ws) (owned_by ws x) (told y.number) ⊎ IsIn y (preorder (suc n) ws x)
  told_where n x y is live tells = by (in_append (told y.number) (flat_map (destruction n ws) (owned_by ws x)) (map told_step (preorder (suc n) ws x) ++ map ended_step (postorder (suc n) ws x)) tells)
    where
      own : IsIn (told y.number) (map told_step (preorder (suc n) ws x)) ⊎ IsIn (told y.number) (map ended_step (postorder (suc n) ws x)) → IsIn y (preorder (suc n) ws x)
      own (inl there) = let r = in_mapped y.number (preorder (suc n) ws x) there in subst (λ z. IsIn z (preorder (suc n) ws x)) (sym (one_window y r.0 live (pre_live (suc n) x r.0 is r.1) r.2)) r.1
      own (inr there) = absurd (never_ended y.number (postorder (suc n) ws x) there)

      by : IsIn (told y.number) (flat_map (destruction n ws) (owned_by ws x)) ⊎ IsIn (told y.number) (map told_step (preorder (suc n) ws x) ++ map ended_step (postorder (suc n) ws x)) → HasIt (destruction n ws) (owned_by ws x) (told y.number) ⊎ IsIn y (preorder (suc n) ws x)
      by (inl there) = inl (which (destruction n ws) (owned_by ws x) (told y.number) there)
      by (inr there) = inr (own (in_append (told y.number) (map told_step (preorder (suc n) ws x)) (map ended_step (postorder (suc n) ws x)) there))

  abbrev first_part : ℕ → Window → List Step
  first_part n x = flat_map (destruction n ws) (owned_by ws x)

  abbrev own_part : ℕ → Window → List Step
  own_part n x = map told_step (preorder (suc n) ws x) ++ map ended_step (postorder (suc n) ws x)

  in_owned : {i j : Step} (n : ℕ) (x w : Window) → IsIn w (owned_by ws x) → ComesBefore i j (destruction n ws w) → ComesBefore i j (destruction (suc n) ws x)
  in_owned n x w one_of b = before_right (own_part n x) (before_within (destruction n ws) (owned_by ws x) w one_of b)

  -- each is told before it ends
  told_then_ended : (n : ℕ) (x y : Window) → IsIn x ws → IsIn y ws → IsIn (told y.number) (destruction n ws x) → ComesBefore (told y.number) (ended y.number) (destruction n ws x)
  told_then_ended zero x y is live tells = absurd tells
  told_then_ended (suc n) x y is live tells = elim (told_where n x y is live tells) [
    | inl w ↦ in_owned n x w.who w.one_of (told_then_ended n w.who y (owned ws f x w.who is w.one_of).0 live w.has)
    | inr there ↦
        before_left (first_part n x) (before_apart (told y.number) (ended y.number) (map told_step (preorder (suc n) ws x)) (map ended_step (postorder (suc n) ws x))
        (in_map told_step (preorder (suc n) ws x) y there) (in_map ended_step (postorder (suc n) ws x) y (pre_post (suc n) x y there)))
  ]

  -- a parent is told before its child, and ends after it
  record ParentAround (n : ℕ) (x y p : Window) : Type 0 where
    pub tells : ComesBefore (told p.number) (told y.number) (destruction n ws x)
    pub ends : ComesBefore (ended y.number) (ended p.number) (destruction n ws x)

  owned_top : (x y p w : Window) → IsIn x ws → IsIn y ws → IsIn p ws → IsIn w (owned_by ws x) → y.number ≡ w.number → y.parent ≡ p.number → ⊥
  owned_top x y p w is live above one_of same of =
      let facts = owned ws f x w is one_of in
      let root : y ≡ w = one_window y w live facts.0 same in
      let owner : y.owner ≡ x.number = ap (λ (z : Window). z.owner) root ∙ facts.1.0 in
      elim (f.one_up y live) [
        | inl none ↦ absurd (omega (arith, none, of, some_number ws p f above))
        | inr none ↦ absurd (omega (arith, none, owner, some_number ws x f is))
      ]

  parent_around : (n : ℕ) (x y p : Window) → IsIn x ws → IsIn y ws → IsIn p ws → IsIn (told y.number) (destruction n ws x) → y.number ≢ x.number → y.parent ≡ p.number → ParentAround n x y p
  parent_around zero x y p is live above tells other of = absurd tells
  parent_around (suc n) x y p is live above tells other of = elim (told_where n x y is live tells) [
    | inl w ↦ elim (eqb_tells y.number w.who.number) [
      | inl same ↦ absurd (owned_top x y p w.who is live above w.one_of same.1 of)
      | inr apart ↦
          let r = parent_around n w.who y p (owned ws f x w.who is w.one_of).0 live above w.has apart.1 of in
          record { tells = in_owned n x w.who w.one_of r.tells; ends = in_owned n x w.who w.one_of r.ends }
    ]
    | inr there ↦
        let h = parent_first (suc n) x y p is above there other of in
        record {
          tells = before_left (first_part n x) (before_right (map ended_step (postorder (suc n) ws x)) (before_mapped told_step h.down));
          ends = before_left (first_part n x) (before_left (map told_step (preorder (suc n) ws x)) (before_mapped ended_step h.up));
        }
  ]

  later_in : {i j : Step} {xs : List Step} → ComesBefore i j xs → IsIn j xs
  later_in {i} {j} {xs} b = subst (IsIn j) (sym b.splits) (in_right j b.before (i ∷ (b.between ++ j ∷ b.after)) (inr (in_right j b.between (j ∷ b.after) (inl refl))))

  -- an owned window has ended before its owner is told
  owned_before : (n : ℕ) (x y o : Window) → IsIn x ws → IsIn y ws → IsIn o ws → IsIn (told y.number) (destruction n ws x) → y.number ≢ x.number → y.owner ≡ o.number → ComesBefore (ended y.number) (told o.number) (destruction n ws x)
  owned_before zero x y o is live above tells other of = absurd tells
  owned_before (suc n) x y o is live above tells other of = elim (told_where n x y is live tells) [
    | inl w ↦ elim (eqb_tells y.number w.who.number) [
      | inl same ↦
          let facts = owned ws f x w.who is w.one_of in
          let root : o ≡ x = one_window o x above is (sym of ∙ ap (λ (z : Window). z.owner) (one_window y w.who live facts.0 same.1) ∙ facts.1.0) in
          before_apart (ended y.number) (told o.number) (first_part n x) (own_part n x)
          (within (destruction n ws) (owned_by ws x) w.who (ended y.number) w.one_of (later_in (told_then_ended n w.who y facts.0 live w.has)))
          (in_left (told o.number) (map told_step (preorder (suc n) ws x)) (map ended_step (postorder (suc n) ws x)) (in_map told_step (preorder (suc n) ws x) o (inl root)))
      | inr apart ↦ in_owned n x w.who w.one_of (owned_before n w.who y o (owned ws f x w.who is w.one_of).0 live above w.has apart.1 of)
    ]
    | inr there ↦
        let under = pre_under (suc n) x y is there other in
        elim (f.one_up y live) [
          | inl none ↦ absurd (omega (arith, none, under))
          | inr none ↦ absurd (omega (arith, none, of, some_number ws o f above))
        ]
  ]

  -- ---- kin are told

  here_or : (w : ℕ) (j : Step) (rest : List Step) → count_by (same_step (told w)) (j ∷ rest) ≡ 1 → (told w ≡ j) ⊎ (count_by (same_step (told w)) rest ≡ 1)
  here_or w (told v) rest e = by (eqb w v) refl
    where
      by : (b : Bool) → eqb w v ≡ b → (told w ≡ told v) ⊎ (count_by (same_step (told w)) rest ≡ 1)
      by true q = inl (ap told (eqb-true w v q))
      by false q = inr (let parts = sum_by-cons (λ k. cond (same_step (told w) k) 1 0) (told v) rest in let none = ap one q in omega (arith, parts, none, e))
  here_or w (ended v) rest e = inr (let parts = sum_by-cons (λ k. cond (same_step (told w) k) 1 0) (ended v) rest in omega (arith, parts, e))

  counted : (w : ℕ) (steps : List Step) → count_by (same_step (told w)) steps ≡ 1 → IsIn (told w) steps
  counted w [] e = absurd (omega (arith, e))
  counted w (j ∷ steps) e = elim (here_or w j steps e) [
    | inl same ↦ inl same
    | inr rest ↦ inr (counted w steps rest)
  ]

  pub kin_told : (x y : Window) → IsIn x ws → is_kin ws x.number y.number ≡ true → IsIn (told y.number) (destruction_of ws x)
  kin_told x y is kin = counted y.number (destruction_of ws x) (told_exactly ws f x y.number is ∙ ap one kin)

  pub kin_then_ended : (x y : Window) → IsIn x ws → IsIn y ws → is_kin ws x.number y.number ≡ true → ComesBefore (told y.number) (ended y.number) (destruction_of ws x)
  kin_then_ended x y is live kin = told_then_ended (length ws) x y is live (kin_told x y is kin)

  pub kin_parents : (x y p : Window) → IsIn x ws → IsIn y ws → IsIn p ws → is_kin ws x.number y.number ≡ true → y.number ≢ x.number → y.parent ≡ p.number
      → ComesBefore (told p.number) (told y.number) (destruction_of ws x) × ComesBefore (ended y.number) (ended p.number) (destruction_of ws x)
  kin_parents x y p is live above kin other of = let r = parent_around (length ws) x y p is live above (kin_told x y is kin) other of in (r.tells, r.ends)

  pub kin_owners : (x y o : Window) → IsIn x ws → IsIn y ws → IsIn o ws → is_kin ws x.number y.number ≡ true → y.number ≢ x.number → y.owner ≡ o.number → ComesBefore (ended y.number) (told o.number) (destruction_of ws x)
  kin_owners x y o is live above kin other of = owned_before (length ws) x y o is live above (kin_told x y is kin) other of

-- Elements as they are kept, in lists.
use Rattle.std.proofs.Common.{◌≡◌, ℕ, suc, length, ◌<◌, Bool, true, false, not, cond, eqb, List, [], ◌∷◌, ◌++◌, Option, Some, None, refl, ap, sym, ◌∙◌, arith}
use Rattle.std.specs.Prelude.{filter, map, option_map}
use Rattle.std.specs.List.{AllByRecursion}
use Rattle.std.proofs.lemmas.Bool.Decides.{nat_tests}
use Rattle.input_queue.specs.declared.element.Element.{Element as KeptElement}
use Rattle.input_queue.specs.Elements as queue
use Rattle.user_model.specs.Past.{Past}
use Rattle.user_model.specs.Groups.{is_in_group}
use Rattle.user_model.specs.Retrievals.{is_number}
use Rattle.user_model.specs.Inputs.{Element, last_element, move_number, of_group}
use Rattle.user_model.proofs.ListLaws.{filter_agree, filter_every, filter_same}
use Rattle.pending_state.specs.Pending.{kept, IsGroupOf}

pub filter_mapped : {X Y : Type 0} (test : Y → Bool) (f : X → Y) (xs : List X) → filter test (map f xs) ≡ map f (filter (λ x. test (f x)) xs)
filter_mapped test f [] = refl
filter_mapped test f (x ∷ xs) = pick (test (f x)) (filter_mapped test f xs)
  where
    pick : (b : Bool) → filter test (map f xs) ≡ map f (filter (λ y. test (f y)) xs) → cond b (f x ∷ filter test (map f xs)) (filter test (map f xs)) ≡ map f (cond b (x ∷ filter (λ y. test (f y)) xs) (filter (λ y. test (f y)) xs))
    pick true rest = ap (λ ys. f x ∷ ys) rest
    pick false rest = rest

pub map_joined : {X Y : Type 0} (f : X → Y) (xs ys : List X) → map f (xs ++ ys) ≡ map f xs ++ map f ys
map_joined f [] ys = refl
map_joined f (x ∷ xs) ys = ap (λ zs. f x ∷ zs) (map_joined f xs ys)

pub length_mapped : {X Y : Type 0} (f : X → Y) (xs : List X) → length (map f xs) ≡ length xs
length_mapped f [] = refl
length_mapped f (x ∷ xs) = ap suc (length_mapped f xs)

pub turned : (a b : ℕ) → eqb a b ≡ eqb b a
turned a b = grind (arith, nat_tests)

-- those of a group, where each home has a number below 16
pub of_group-kept : (past : Past) (t group : ℕ) (xs : List Element) → IsGroupOf past t group → AllByRecursion (λ x. x.home < 16) xs → queue.of_group group (map kept xs) ≡ map kept (of_group past t xs)
of_group-kept past t group xs members low =
    filter_mapped (λ (x : KeptElement). queue.is_in group x.home) kept xs
    ∙ ap (map kept) (filter_agree (λ (x : Element). x.home < 16) (λ x. queue.is_in group (record { 0 = x.home })) (λ x. is_in_group past t x.home) (λ x h. members x.home h) xs low)

last-kept : (xs : List Element) → queue.last_of (map kept xs) ≡ option_map kept (last_element xs)
last-kept [] = refl
last-kept (x ∷ []) = refl
last-kept (x ∷ y ∷ xs) = last-kept (y ∷ xs)

number-kept : (o : Option Element) → queue.move_number (option_map kept o) ≡ move_number o
number-kept None = refl
number-kept (Some x) = refl

-- the number of the group's last element, where it is a move
pub last_move-kept : (past : Past) (t group : ℕ) (xs : List Element) → IsGroupOf past t group → AllByRecursion (λ x. x.home < 16) xs → queue.move_number (queue.last_of (queue.of_group group (map kept xs))) ≡ move_number (last_element (of_group past t xs))
last_move-kept past t group xs members low =
    ap (λ l. queue.move_number (queue.last_of l)) (of_group-kept past t group xs members low)
    ∙ ap queue.move_number (last-kept (of_group past t xs))
    ∙ number-kept (last_element (of_group past t xs))

-- those but that of a number
pub without-kept : (n : ℕ) (xs : List Element) → queue.without n (map kept xs) ≡ map kept (filter (λ x. not (eqb n x.number)) xs)
without-kept n xs =
    filter_mapped (λ (x : KeptElement). not (eqb x.number n)) kept xs
    ∙ ap (map kept) (filter_same (λ (x : Element). not (eqb x.number n)) (λ x. not (eqb n x.number)) (λ x. ap not (turned x.number n)) xs)

-- those but the one that is replaced
pub without_replaced-kept : (o : Option ℕ) (xs : List Element) → queue.without_replaced o (map kept xs) ≡ map kept (filter (λ x. not (is_number o x.number)) xs)
without_replaced-kept None xs = ap (map kept) (sym (filter_every (λ (x : Element). not (is_number None x.number)) (λ x. refl) xs))
without_replaced-kept (Some n) xs = without-kept n xs

-- those but the ones with this home
pub without_home-kept : (who : ℕ) (xs : List Element) → queue.without_home (record { 0 = who }) (map kept xs) ≡ map kept (filter (λ x. not (eqb who x.home)) xs)
without_home-kept who xs =
    filter_mapped (λ (x : KeptElement). not (eqb x.home.0 who)) kept xs
    ∙ ap (map kept) (filter_same (λ (x : Element). not (eqb x.home who)) (λ x. not (eqb who x.home)) (λ x. ap not (turned x.home who)) xs)

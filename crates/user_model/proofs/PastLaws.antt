-- What is said of a past with one entry more.
use Rattle.std.proofs.Common.{◌≡◌, Bool, true, false, not, List, [], ◌∷◌, ◌++◌, refl, ap, ◌∙◌}
use Rattle.std.specs.Prelude.{◌||◌, filter}
use Rattle.std.proofs.lemmas.List.{append-nil}
use Rattle.user_model.specs.declared.entry.Entry.{Entry}
use Rattle.user_model.specs.Past.{Past, is_refused, standing, each_of, ever}
use Rattle.user_model.proofs.ListLaws.{filter_every}

pub either_way : {X : Type 0} (b : Bool) (x y : X) → y ≡ x → (elim b as (λ c. X) [ true ↦ x | false ↦ y ]) ≡ x
either_way true x y e = refl
either_way false x y e = e

pub other_way : {X : Type 0} (b : Bool) (x y : X) → b ≡ false → (elim b as (λ c. X) [ true ↦ x | false ↦ y ]) ≡ y
other_way {X = X} b x y e = ap (λ d. elim d as (λ c. X) [ true ↦ x | false ↦ y ]) e

pub first_way : {X : Type 0} (b : Bool) (x y : X) → b ≡ true → (elim b as (λ c. X) [ true ↦ x | false ↦ y ]) ≡ x
first_way {X = X} b x y e = ap (λ d. elim d as (λ c. X) [ true ↦ x | false ↦ y ]) e

-- what an entry that adds nothing leaves
pub each_of-same : {A : Type 0} (adds : Entry → Past → List A) (e : Entry) (past : Past) → adds e past ≡ [] → each_of adds (e ∷ past) ≡ each_of adds past
each_of-same adds e past none = either_way (is_refused e) (each_of adds past) (each_of adds past ++ adds e past) (ap (λ l. each_of adds past ++ l) none ∙ append-nil (each_of adds past))

-- what an entry that wasn't refused adds comes last
pub each_of-next : {A : Type 0} (adds : Entry → Past → List A) (e : Entry) (past : Past) → is_refused e ≡ false → each_of adds (e ∷ past) ≡ each_of adds past ++ adds e past
each_of-next adds e past right = other_way (is_refused e) (each_of adds past) (each_of adds past ++ adds e past) right

-- an entry that ends nothing and adds nothing leaves all
pub standing-same : {A : Type 0} (adds : Entry → Past → List A) (ends : Entry → Past → A → Bool) (e : Entry) (past : Past) → adds e past ≡ [] → ((a : A) → ends e past a ≡ false) → standing adds ends (e ∷ past) ≡ standing adds ends past
standing-same adds ends e past none kept =
    either_way (is_refused e) (standing adds ends past) (filter (λ a. not (ends e past a)) (standing adds ends past) ++ adds e past)
    (ap (λ l. filter (λ a. not (ends e past a)) (standing adds ends past) ++ l) none
    ∙ append-nil (filter (λ a. not (ends e past a)) (standing adds ends past))
    ∙ filter_every (λ a. not (ends e past a)) (λ a. ap not (kept a)) (standing adds ends past))

-- what an entry that wasn't refused adds comes last, after what it doesn't end
pub standing-next : {A : Type 0} (adds : Entry → Past → List A) (ends : Entry → Past → A → Bool) (e : Entry) (past : Past) → is_refused e ≡ false → standing adds ends (e ∷ past) ≡ filter (λ a. not (ends e past a)) (standing adds ends past) ++ adds e past
standing-next adds ends e past right = other_way (is_refused e) (standing adds ends past) (filter (λ a. not (ends e past a)) (standing adds ends past) ++ adds e past) right

both_done : (done now : Bool) → now ≡ false → (elim done as (λ c. Bool) [ true ↦ true | false ↦ now ]) ≡ done
both_done true now e = refl
both_done false now e = e

-- an entry that doesn't do it leaves whether it was done
pub ever-same : (does : Entry → Past → Bool) (e : Entry) (past : Past) → does e past ≡ false → ever does (e ∷ past) ≡ ever does past
ever-same does e past none = either_way (is_refused e) (ever does past) (elim (ever does past) as (λ c. Bool) [ true ↦ true | false ↦ does e past ]) (both_done (ever does past) (does e past) none)

either_done : (done now : Bool) → (elim done as (λ c. Bool) [ true ↦ true | false ↦ now ]) ≡ (done || now)
either_done true now = refl
either_done false now = refl

-- it was done before, or by an entry that wasn't refused
pub ever-next : (does : Entry → Past → Bool) (e : Entry) (past : Past) → is_refused e ≡ false → ever does (e ∷ past) ≡ (ever does past || does e past)
ever-next does e past right = other_way (is_refused e) (ever does past) (elim (ever does past) as (λ c. Bool) [ true ↦ true | false ↦ does e past ]) right ∙ either_done (ever does past) (does e past)

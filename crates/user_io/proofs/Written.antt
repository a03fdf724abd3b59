-- What was written, where a write failed on the way.
use Rattle.std.proofs.Common.{◌≡◌, ℕ, ◌+◌, ◌<◌, List, [], ◌∷◌, ◌++◌, length, get_or, take, drop, ap, ◌∙◌, sym, append_assoc, append-nil, subst, refl, take-append-drop}
use Rattle.std.specs.Prelude.{Option, Result, Ok, Err, OnErr}
use Rattle.std.specs.List.{flat_map}
use Rattle.std.specs.Io.KnownBytes.{Appends}
use Rattle.std.proofs.KnownBytes.{Appends-trans, Appends-nil}
use Rattle.std.proofs.lemmas.List.{take_more}
use Rattle.std.proofs.lemmas.List.Concat.{flat_map-append}
use Rattle.user_io.specs.Outside.{AppendsPart}

pub part_none : (a : Option (List ℕ)) (x : List ℕ) → AppendsPart a a x
part_none a x = ([], x, refl, Appends-nil a)

pub part_start : (a b : Option (List ℕ)) (x y : List ℕ) → Appends a b x → AppendsPart a b (x ++ y)
part_start a b x y h = (x, y, refl, h)

pub part_more : (a b c : Option (List ℕ)) (x y : List ℕ) → Appends a b x → AppendsPart b c y → AppendsPart a c (x ++ y)
part_more a b c x y h p = (x ++ p.0, p.1, ap (λ (l : List ℕ). x ++ l) p.2 ∙ sym (append_assoc x p.0 p.1), Appends-trans a b c x p.0 h p.3)

pub part_longer : (a b : Option (List ℕ)) (x y : List ℕ) → AppendsPart a b x → AppendsPart a b (x ++ y)
part_longer a b x y p = (p.0, p.1 ++ y, ap (λ (l : List ℕ). l ++ y) p.2 ∙ append_assoc p.0 p.1 y, p.3)

-- the pieces of a list, up to a place and from there on
pub pieces_cut : {X : Type 0} (f : X → List ℕ) (xs : List X) (i : ℕ) → flat_map f (take i xs) ++ flat_map f (drop i xs) ≡ flat_map f xs
pieces_cut f xs i = sym (flat_map-append f (take i xs) (drop i xs)) ∙ ap (flat_map f) (take-append-drop i xs)

pub pieces_more : {X : Type 0} (f : X → List ℕ) (xs : List X) (i : ℕ) (d : X) → i < length xs → flat_map f (take i xs) ++ f (get_or xs i d) ≡ flat_map f (take (i + 1) xs)
pieces_more f xs i d lt =
    let one : flat_map f (get_or xs i d ∷ []) ≡ f (get_or xs i d) = append-nil (f (get_or xs i d)) in
    ap (λ (l : List ℕ). flat_map f (take i xs) ++ l) (sym one) ∙ sym (flat_map-append f (take i xs) (get_or xs i d ∷ [])) ∙ ap (flat_map f) (sym (take_more xs i d lt))

pub part_of_pieces : {X : Type 0} (f : X → List ℕ) (xs : List X) (i : ℕ) (a b : Option (List ℕ)) → Appends a b (flat_map f (take i xs)) → AppendsPart a b (flat_map f xs)
part_of_pieces f xs i a b h = subst (AppendsPart a b) (pieces_cut f xs i) (part_start a b (flat_map f (take i xs)) (flat_map f (drop i xs)) h)

pub part_of_more : {X : Type 0} (f : X → List ℕ) (xs : List X) (i : ℕ) (d : X) (a b c : Option (List ℕ)) → i < length xs → Appends a b (flat_map f (take i xs)) → AppendsPart b c (f (get_or xs i d)) → AppendsPart a c (flat_map f xs)
part_of_more f xs i d a b c lt h p =
    let front : AppendsPart a c (flat_map f (take (i + 1) xs)) = subst (AppendsPart a c) (pieces_more f xs i d lt) (part_more a b c (flat_map f (take i xs)) (f (get_or xs i d)) h p) in
    subst (AppendsPart a c) (pieces_cut f xs (i + 1)) (part_longer a c (flat_map f (take (i + 1) xs)) (flat_map f (drop (i + 1) xs)) front)

-- what holds anyway holds on an error
pub keep_err : {T E P : Type 0} (r : Result T E) → P → OnErr r P
keep_err (Ok x) p = tt
keep_err (Err e) p = p

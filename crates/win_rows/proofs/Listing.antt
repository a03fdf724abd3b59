-- Listing the steps of a destruction part by part, from its end.
use Rattle.std.proofs.Common.{◌≡◌, ◌∙◌, ℕ, ◌+◌, ◌-◌, ◌<◌, ◌≤◌, suc, List, [], ◌∷◌, ◌++◌, length, get_or, take, map, reverse, Option, Some, None, IfSome, OnSome, append_assoc, append-nil, refl, sym, ap, subst, arith}
use Rattle.std.specs.List.{flat_map}
use Rattle.std.proofs.lemmas.List.{map-append, reverse-append, take_more}
use Rattle.std.proofs.lemmas.Grind.{flat_map-append}
use Rattle.win_rows.specs.declared.row.Unmade.{Unmade}
use Rattle.win_rows.specs.declared.row.Unmade.TheVariants.{Tell, Last}
use Rattle.win_rows.specs.declared.links.Link.{Link}
use Rattle.win_rows.specs.declared.links.Link.TheVariants.{Parent, Owner}
use Rattle.win_rows.specs.declared.order.Kind.{Kind}
use Rattle.win_rows.specs.declared.order.Kind.TheVariants.{Whole, Told, Alone, Ended}
use Rattle.win_rows.specs.declared.order.Part.{Part}
use Rattle.win_rows.specs.declared.window.Window.{Window}
use Rattle.win_rows.specs.Destruction.{told, ended, children_of, owned_by, preorder, postorder, destruction, destruction_of, answer_of}
use Rattle.win_rows.specs.Links.{under}
use Rattle.win_rows.specs.Parts.{kind_steps, part_steps, parts_of}

-- the steps of a part of each
each_part : {A : Type 0} (ws : List Window) (kind : Kind) (n : ℕ) (h : A → Unmade) (g : Window → List A) → ((x : Window) → kind_steps ws kind n x ≡ map h (g x)) → (us : List Window) → flat_map (part_steps ws) (parts_of kind n us) ≡ map h (flat_map g us)
each_part ws kind n h g same [] = refl
each_part ws kind n h g same (x ∷ us) =
    ap (λ (ss : List Unmade). ss ++ flat_map (part_steps ws) (parts_of kind n us)) (same x)
    ∙ ap (λ (ss : List Unmade). map h (g x) ++ ss) (each_part ws kind n h g same us)
    ∙ sym (map-append h (g x) (flat_map g us))

map_told : (xs : List Window) → map answer_of (map told xs) ≡ map (λ x. answer_of (told x)) xs
map_told [] = refl
map_told (x ∷ xs) = ap (λ (us : List Unmade). Tell x.number ∷ us) (map_told xs)

map_ended : (xs : List Window) → map answer_of (map ended xs) ≡ map (λ x. answer_of (ended x)) xs
map_ended [] = refl
map_ended (x ∷ xs) = ap (λ (us : List Unmade). Last x.number ∷ us) (map_ended xs)

deep : (d : ℕ) → 1 ≤ d → suc (d - 1) ≡ d
deep d le = omega (arith, le)

-- the parts that are put for a part have its steps
whole_suc : (ws : List Window) (n : ℕ) (x : Window) → flat_map (part_steps ws) (parts_of Whole n (owned_by ws x) ++ (parts_of Told (suc n) (x ∷ []) ++ parts_of Ended (suc n) (x ∷ []))) ≡ kind_steps ws Whole (suc n) x
whole_suc ws n x =
    let owned = flat_map (destruction n ws) (owned_by ws x) in
    let pre = map told (preorder (suc n) ws x) in
    let post = map ended (postorder (suc n) ws x) in
    flat_map-append (part_steps ws) (parts_of Whole n (owned_by ws x)) (parts_of Told (suc n) (x ∷ []) ++ parts_of Ended (suc n) (x ∷ []))
    ∙ ap (λ (ss : List Unmade). ss ++ (map answer_of pre ++ (map answer_of post ++ []))) (each_part ws Whole n answer_of (destruction n ws) (λ y. refl) (owned_by ws x))
    ∙ ap (λ (ss : List Unmade). map answer_of owned ++ (map answer_of pre ++ ss)) (append-nil (map answer_of post))
    ∙ sym (map-append answer_of owned (pre ++ post) ∙ ap (λ (ss : List Unmade). map answer_of owned ++ ss) (map-append answer_of pre post))

told_suc : (ws : List Window) (n : ℕ) (x : Window) → flat_map (part_steps ws) (parts_of Alone (suc n) (x ∷ []) ++ parts_of Told n (children_of ws x)) ≡ kind_steps ws Told (suc n) x
told_suc ws n x =
    ap (λ (ss : List Unmade). Tell x.number ∷ ss)
    (each_part ws Told n (λ y. answer_of (told y)) (preorder n ws) (λ y. map_told (preorder n ws y)) (children_of ws x)
    ∙ sym (map_told (flat_map (preorder n ws) (children_of ws x))))

ended_suc : (ws : List Window) (n : ℕ) (x : Window) → flat_map (part_steps ws) (parts_of Ended n (children_of ws x)) ++ Last x.number ∷ [] ≡ kind_steps ws Ended (suc n) x
ended_suc ws n x =
    ap (λ (ss : List Unmade). ss ++ Last x.number ∷ []) (each_part ws Ended n (λ y. answer_of (ended y)) (postorder n ws) (λ y. map_ended (postorder n ws y)) (children_of ws x))
    ∙ sym (map_ended (flat_map (postorder n ws) (children_of ws x) ++ x ∷ []) ∙ map-append (λ y. answer_of (ended y)) (flat_map (postorder n ws) (children_of ws x)) (x ∷ []))

pub whole_steps : (ws : List Window) (d : ℕ) (x : Window) → 1 ≤ d → flat_map (part_steps ws) (parts_of Whole (d - 1) (owned_by ws x) ++ (parts_of Told d (x ∷ []) ++ parts_of Ended d (x ∷ []))) ≡ kind_steps ws Whole d x
whole_steps ws d x le = subst (λ k. flat_map (part_steps ws) (parts_of Whole (d - 1) (owned_by ws x) ++ (parts_of Told k (x ∷ []) ++ parts_of Ended k (x ∷ []))) ≡ kind_steps ws Whole k x) (deep d le) (whole_suc ws (d - 1) x)

pub told_steps : (ws : List Window) (d : ℕ) (x : Window) → 1 ≤ d → flat_map (part_steps ws) (parts_of Alone d (x ∷ []) ++ parts_of Told (d - 1) (children_of ws x)) ≡ kind_steps ws Told d x
told_steps ws d x le = subst (λ k. flat_map (part_steps ws) (parts_of Alone k (x ∷ []) ++ parts_of Told (d - 1) (children_of ws x)) ≡ kind_steps ws Told k x) (deep d le) (told_suc ws (d - 1) x)

pub ended_steps : (ws : List Window) (d : ℕ) (x : Window) → 1 ≤ d → flat_map (part_steps ws) (parts_of Ended (d - 1) (children_of ws x)) ++ Last x.number ∷ [] ≡ kind_steps ws Ended d x
ended_steps ws d x le = subst (λ k. flat_map (part_steps ws) (parts_of Ended (d - 1) (children_of ws x)) ++ Last x.number ∷ [] ≡ kind_steps ws Ended k x) (deep d le) (ended_suc ws (d - 1) x)

-- steps that are listed, and parts that are put
pub listed : (ws : List Window) (parts parts' put : List Part) (steps steps' new all : List Unmade) → parts' ≡ parts ++ put → steps' ≡ steps ++ new → flat_map (part_steps ws) put ++ reverse new ≡ all → flat_map (part_steps ws) parts' ++ reverse steps' ≡ flat_map (part_steps ws) parts ++ (all ++ reverse steps)
listed ws parts parts' put steps steps' new all is_put is_new same =
    let s = part_steps ws in
    ap (λ (ps : List Part). flat_map s ps ++ reverse steps') is_put
    ∙ ap (λ (us : List Unmade). us ++ reverse steps') (flat_map-append s parts put)
    ∙ ap (λ (us : List Unmade). (flat_map s parts ++ flat_map s put) ++ us) (ap reverse is_new ∙ reverse-append steps new)
    ∙ append_assoc (flat_map s parts) (flat_map s put) (reverse new ++ reverse steps)
    ∙ ap (λ (us : List Unmade). flat_map s parts ++ us) (sym (append_assoc (flat_map s put) (reverse new) (reverse steps)) ∙ ap (λ (us : List Unmade). us ++ reverse steps) same)

-- what holds where there is something
pub so_some : {V : Type 0} {P Q : V → Type 0} → ((v : V) → P v → Q v) → (r : Option V) → IfSome r P → IfSome r Q
so_some f None h = h
so_some f (Some v) h = f v h

-- a part of one window more
pub each_more : (kind : Kind) (n : ℕ) (ws : List Window) (i : ℕ) (x : Window) (parts parts' base : List Part) → i < length ws → x ≡ get_or ws i x → parts ≡ base ++ parts_of kind n (take i ws) → parts' ≡ parts ++ parts_of kind n (x ∷ []) → parts' ≡ base ++ parts_of kind n (take (i + 1) ws)
each_more kind n ws i x parts parts' base lt is so put =
    let part = λ (y : Window). let p : Part = record { kind = kind; window = y; depth = n } in p in
    put
    ∙ ap (λ (ps : List Part). ps ++ parts_of kind n (x ∷ [])) so
    ∙ append_assoc base (parts_of kind n (take i ws)) (parts_of kind n (x ∷ []))
    ∙ ap (λ (ps : List Part). base ++ ps) (sym (ap (parts_of kind n) (take_more ws i x lt ∙ ap (λ (z : Window). take i ws ++ z ∷ []) (sym is)) ∙ map-append part (take i ws) (x ∷ [])))

-- the parts that a part is taken from
pub popped : (ws : List Window) (parts rest : List Part) (p : Part) (steps all : List Unmade) → parts ≡ rest ++ p ∷ [] → flat_map (part_steps ws) parts ++ reverse steps ≡ all → flat_map (part_steps ws) rest ++ (part_steps ws p ++ reverse steps) ≡ all
popped ws parts rest p steps all is so =
    let s = part_steps ws in
    sym (ap (λ (ps : List Part). flat_map s ps ++ reverse steps) is
    ∙ ap (λ (us : List Unmade). us ++ reverse steps) (flat_map-append s rest (p ∷ []) ∙ ap (λ (us : List Unmade). flat_map s rest ++ us) (append-nil (s p)))
    ∙ append_assoc (flat_map s rest) (s p) (reverse steps))
    ∙ so

-- no part is left
pub none_left : (ws : List Window) (parts : List Part) (steps steps' all : List Unmade) → length parts ≡ 0 → steps' ≡ reverse steps → flat_map (part_steps ws) parts ++ reverse steps ≡ all → steps' ≡ all
none_left ws [] steps steps' all e is so = is ∙ so
none_left ws (p ∷ parts) steps steps' all e is so = absurd (omega (arith, e))

-- the first part
pub first_part : (ws : List Window) (x : Window) (n : ℕ) (parts : List Part) (steps : List Unmade) → parts ≡ [] ++ parts_of Whole n (x ∷ []) → steps ≡ [] → n ≡ length ws → flat_map (part_steps ws) parts ++ reverse steps ≡ map answer_of (destruction_of ws x)
first_part ws x n parts steps put none size =
    ap (λ (ps : List Part). flat_map (part_steps ws) ps ++ reverse steps) put
    ∙ ap (λ (us : List Unmade). (kind_steps ws Whole n x ++ []) ++ reverse us) none
    ∙ append-nil (kind_steps ws Whole n x ++ [])
    ∙ append-nil (kind_steps ws Whole n x)
    ∙ ap (λ k. map answer_of (destruction k ws x)) size

pub on_some : {V P Q : Type 0} → (P → Q) → (r : Option V) → OnSome r P → OnSome r Q
on_some f None h = h
on_some f (Some v) h = f h

-- parts put one after another
pub three_put : (p0 p1 p2 p3 a' a b d : List Part) → p1 ≡ p0 ++ a' → a' ≡ a → p2 ≡ p1 ++ b → p3 ≡ p2 ++ d → p3 ≡ p0 ++ (a ++ (b ++ d))
three_put p0 p1 p2 p3 a' a b d one same two three =
    three
    ∙ ap (λ (ps : List Part). ps ++ d) (two ∙ ap (λ (ps : List Part). ps ++ b) (one ∙ ap (λ (ps : List Part). p0 ++ ps) same))
    ∙ append_assoc (p0 ++ a) b d
    ∙ append_assoc p0 a (b ++ d)

pub two_put : (p0 p1 p2 a b' b : List Part) → p1 ≡ p0 ++ a → p2 ≡ p1 ++ b' → b' ≡ b → p2 ≡ p0 ++ (a ++ b)
two_put p0 p1 p2 a b' b one two same =
    two
    ∙ ap (λ (ps : List Part). ps ++ b') one
    ∙ append_assoc p0 a b'
    ∙ ap (λ (ps : List Part). p0 ++ (a ++ ps)) same

pub owned_parts : (link : Link) (ws : List Window) (x : Window) (kind : Kind) (n : ℕ) (us : List Window) → us ≡ under link ws x.number.0 → link ≡ Owner → parts_of kind n us ≡ parts_of kind n (owned_by ws x)
owned_parts link ws x kind n us so is = ap (parts_of kind n) (so ∙ ap (λ (l : Link). under l ws x.number.0) is)

pub child_parts : (link : Link) (ws : List Window) (x : Window) (kind : Kind) (n : ℕ) (us : List Window) → us ≡ under link ws x.number.0 → link ≡ Parent → parts_of kind n us ≡ parts_of kind n (children_of ws x)
child_parts link ws x kind n us so is = ap (parts_of kind n) (so ∙ ap (λ (l : Link). under l ws x.number.0) is)

-- what is listed and put for a part
pub list_alone : (ws : List Window) (p : Part) (x : Window) (parts : List Part) (steps steps' : List Unmade) → p.kind ≡ Alone → x ≡ p.window → steps' ≡ steps ++ Tell x.number ∷ [] → flat_map (part_steps ws) parts ++ reverse steps' ≡ flat_map (part_steps ws) parts ++ (part_steps ws p ++ reverse steps)
list_alone ws p x parts steps steps' kind is more =
    listed ws parts parts [] steps steps' (Tell x.number ∷ []) (part_steps ws p) (sym (append-nil parts)) more
    (ap (λ (y : Window). let us : List Unmade = Tell y.number ∷ [] in us) is ∙ sym (ap (λ (k : Kind). kind_steps ws k p.depth p.window) kind))

pub list_whole : (ws : List Window) (p : Part) (x : Window) (parts parts' : List Part) (steps : List Unmade) → p.kind ≡ Whole → x ≡ p.window → 1 ≤ p.depth → parts' ≡ parts ++ (parts_of Whole (p.depth - 1) (owned_by ws x) ++ (parts_of Told p.depth (x ∷ []) ++ parts_of Ended p.depth (x ∷ []))) → flat_map (part_steps ws) parts' ++ reverse steps ≡ flat_map (part_steps ws) parts ++ (part_steps ws p ++ reverse steps)
list_whole ws p x parts parts' steps kind is deep more =
    listed ws parts parts' _ steps steps [] (part_steps ws p) more (sym (append-nil steps))
    (append-nil _ ∙ whole_steps ws p.depth x deep ∙ ap (λ (y : Window). kind_steps ws Whole p.depth y) is ∙ sym (ap (λ (k : Kind). kind_steps ws k p.depth p.window) kind))

pub list_told : (ws : List Window) (p : Part) (x : Window) (parts parts' : List Part) (steps : List Unmade) → p.kind ≡ Told → x ≡ p.window → 1 ≤ p.depth → parts' ≡ parts ++ (parts_of Alone p.depth (x ∷ []) ++ parts_of Told (p.depth - 1) (children_of ws x)) → flat_map (part_steps ws) parts' ++ reverse steps ≡ flat_map (part_steps ws) parts ++ (part_steps ws p ++ reverse steps)
list_told ws p x parts parts' steps kind is deep more =
    listed ws parts parts' _ steps steps [] (part_steps ws p) more (sym (append-nil steps))
    (append-nil _ ∙ told_steps ws p.depth x deep ∙ ap (λ (y : Window). kind_steps ws Told p.depth y) is ∙ sym (ap (λ (k : Kind). kind_steps ws k p.depth p.window) kind))

pub list_ended : (ws : List Window) (p : Part) (x : Window) (parts parts' : List Part) (steps steps' : List Unmade) → p.kind ≡ Ended → x ≡ p.window → 1 ≤ p.depth → steps' ≡ steps ++ Last x.number ∷ [] → parts' ≡ parts ++ parts_of Ended (p.depth - 1) (children_of ws x) → flat_map (part_steps ws) parts' ++ reverse steps' ≡ flat_map (part_steps ws) parts ++ (part_steps ws p ++ reverse steps)
list_ended ws p x parts parts' steps steps' kind is deep listed_it more =
    listed ws parts parts' _ steps steps' (Last x.number ∷ []) (part_steps ws p) more listed_it
    (ended_steps ws p.depth x deep ∙ ap (λ (y : Window). kind_steps ws Ended p.depth y) is ∙ sym (ap (λ (k : Kind). kind_steps ws k p.depth p.window) kind))

-- What decides the part of a run.
use Rattle.std.proofs.Common.{◌≡◌, ℕ, ◌+◌, ◌-◌, ◌*◌, ◌%◌, ◌<◌, ◌≤◌, Bool, true, false, cond, eqb, List, [], ◌∷◌, ◌++◌, length, None, refl, sym, ap, ◌∙◌, subst, inl, inr, arith}
use Rattle.std.specs.Prelude.{◌&&◌, nat_lt, take, get_or}
use Rattle.std.proofs.Math.Nat.{mod-lt}
use Rattle.std.proofs.lemmas.List.{take_more, take_all, length-take}
use Rattle.std.proofs.lemmas.Bool.{cases_Bool, false≢true}
use Rattle.std.proofs.lemmas.Bool.Decides.{nat_tests}
use Rattle.user_model.specs.declared.entry.Entry.{Entry}
use Rattle.user_model.specs.Past.{Past}
use Rattle.script_tree.specs.Tree.{Tree}
use Rattle.user_pool.specs.Runs.{choice}
use Rattle.user_pool.proofs.Turns.{and_both}
use Rattle.run_explorer.specs.declared.part.Part.{Part}
use Rattle.run_explorer.specs.declared.part.Share.{Share}
use Rattle.run_explorer.specs.declared.step.Step.{Step}
use Rattle.run_explorer.specs.Orders.{IsWithin}
use Rattle.run_explorer.specs.Steps.{deciding, turns, counts, takes_over, AreStepsOf}
use Rattle.run_explorer.specs.Parts.{residue, is_of, IsPart, IsPartOf, IsShare, IsShareOf}
use Rattle.run_explorer.specs.Searches.{IsPassed}
use Rattle.run_explorer.proofs.Stepping.{pushed_same, steps_length}
use Rattle.run_explorer.proofs.Searching.{ends_here}

yes : (b : Bool) (x y : ℕ) → b ≡ true → cond b x y ≡ x
yes b x y e = rw e refl

no : (b : Bool) (x y : ℕ) → b ≡ false → cond b x y ≡ y
no b x y e = rw e refl

no_and : (a b : Bool) → a ≡ false → (a && b) ≡ false
no_and a b e = rw e refl

-- ---- one entry more

-- an entry that decides
pub share_more : (s : Tree) (bound count : ℕ) (past : Past) (e : Entry) (share now : Share) (place mover : ℕ) → IsShare s bound count past share → counts s bound past e.who.0 ≡ true → place ≡ length past → mover ≡ e.who.0
    → now.turns ≡ share.turns + 1 → now.residue ≡ (share.residue * 7 + place + mover) % count → IsShare s bound count (e ∷ past) now
share_more s bound count past e share now place mover were is at by one rest = record {
  turns = one ∙ ap (λ (n : ℕ). n + 1) were.turns ∙ sym (yes (counts s bound past e.who.0) (turns s bound past + 1) (turns s bound past) is);
  residue = rest ∙ ap (λ (n : ℕ). (n * 7 + place + mover) % count) were.residue ∙ ap (λ (n : ℕ). (residue s bound count past * 7 + n + mover) % count) at
      ∙ ap (λ (n : ℕ). (residue s bound count past * 7 + length past + n) % count) by
      ∙ sym (yes (counts s bound past e.who.0) ((residue s bound count past * 7 + length past + e.who.0) % count) (residue s bound count past) is);
}

-- one that doesn't
pub share_same : (s : Tree) (bound count : ℕ) (past : Past) (e : Entry) (share : Share) → IsShare s bound count past share → counts s bound past e.who.0 ≡ false → IsShare s bound count (e ∷ past) share
share_same s bound count past e share were is = record {
  turns = were.turns ∙ sym (no (counts s bound past e.who.0) (turns s bound past + 1) (turns s bound past) is);
  residue = were.residue ∙ sym (no (counts s bound past e.who.0) ((residue s bound count past * 7 + length past + e.who.0) % count) (residue s bound count past) is);
}

pub no_share : (count : ℕ) (share : Share) → ((s : Tree) (bound c : ℕ) → IsShare s bound c [] share) → IsShareOf count [] share
no_share count share is s bound past are = subst (λ (p : Past). IsShare s bound count p share) (sym (empty past are)) (is s bound count)
  where
    empty : (p : Past) → AreStepsOf s bound p [] → p ≡ []
    empty [] none = refl
    empty (e ∷ p) some = absurd (no_snoc some.before some.last some.is)
      where
        no_snoc : (xs : List Step) (x : Step) → [] ≡ xs ++ x ∷ [] → ⊥
        no_snoc [] x e = absurd cc
        no_snoc (y ∷ xs) x e = absurd cc

-- along one step more
pub share_step : (count : ℕ) (steps : List Step) (step : Step) (share now : Share) → IsShareOf count steps share
    → ((s : Tree) (bound : ℕ) (past : Past) (e : Entry) → IsShare s bound count past share → step.counted ≡ counts s bound past e.who.0 → length steps ≡ length past → step.mover ≡ e.who.0 → IsShare s bound count (e ∷ past) now) → IsShareOf count (steps ++ step ∷ []) now
share_step count steps step share now before more s bound [] are = absurd (no_snoc steps step are)
  where
    no_snoc : (xs : List Step) (x : Step) → xs ++ x ∷ [] ≡ [] → ⊥
    no_snoc [] x e = absurd cc
    no_snoc (y ∷ xs) x e = absurd cc
share_step count steps step share now before more s bound (e ∷ past) are =
    let same = pushed_same steps are.before step are.last are.is in
    let made : AreStepsOf s bound past steps = subst (λ (xs : List Step). AreStepsOf s bound past xs) (sym same.0) are.rest in
    more s bound past e (before s bound past made) (ap (λ (x : Step). x.counted) same.1 ∙ are.step.counted) (steps_length s bound past steps made) (ap (λ (x : Step). x.mover) same.1 ∙ are.step.mover)

-- along the next of some steps
pub share_next : (count : ℕ) (steps : List Step) (i : ℕ) (d : Step) (share now : Share) → i < length steps → IsShareOf count (take i steps) share
    → ((s : Tree) (bound : ℕ) (past : Past) (e : Entry) → IsShare s bound count past share → (get_or steps i d).counted ≡ counts s bound past e.who.0 → i ≡ length past → (get_or steps i d).mover ≡ e.who.0 → IsShare s bound count (e ∷ past) now) → IsShareOf count (take (i + 1) steps) now
share_next count steps i d share now lt before more =
    let size : length (take i steps) ≡ i = omega (arith, length-take i steps, lt) in
    subst (λ (xs : List Step). IsShareOf count xs now) (sym (take_more steps i d lt))
    (share_step count (take i steps) (get_or steps i d) share now before (λ s bound past e were counted place mover. more s bound past e were counted (omega (arith, size, place)) mover))

pub share_whole : (count : ℕ) (steps : List Step) (i : ℕ) (share : Share) → length steps ≤ i → IsShareOf count (take i steps) share → IsShareOf count steps share
share_whole count steps i share le is = subst (λ (xs : List Step). IsShareOf count xs share) (take_all i steps le) is

-- no more are counted than decide
pub turns_few : (s : Tree) (bound : ℕ) (past : Past) → turns s bound past ≤ 4
turns_few s bound [] = omega arith
turns_few s bound (e ∷ past) = elim (cases_Bool (counts s bound past e.who.0)) [
  | inl is ↦
      let below : nat_lt (turns s bound past) (deciding bound) ≡ true = (and_both (nat_lt (turns s bound past) (deciding bound)) (takes_over s bound past e.who.0) is).0 in
      let lt : turns s bound past < deciding bound = grind (arith, nat_tests, below) in
      omega (arith, lt, deciding_few bound, yes (counts s bound past e.who.0) (turns s bound past + 1) (turns s bound past) is)
  | inr other ↦ omega (arith, turns_few s bound past, no (counts s bound past e.who.0) (turns s bound past + 1) (turns s bound past) other)
]
  where
    pick : (a b : Bool) (n : ℕ) → (b ≡ true → n < 4) → cond a 2 (cond b n 4) ≤ 4
    pick true b n lt = omega arith
    pick false true n lt = omega (arith, lt refl)
    pick false false n lt = omega arith

    deciding_few : (n : ℕ) → deciding n ≤ 4
    deciding_few n = pick (nat_lt n 2) (nat_lt n 4) n (λ e. grind (arith, nat_tests, e))

-- ---- once it is decided

record IsSettled (s : Tree) (bound count : ℕ) (run past : Past) : Type 0 where
  turns : turns s bound run ≡ turns s bound past
  residue : residue s bound count run ≡ residue s bound count past

settled : (s : Tree) (bound count : ℕ) (newer past : Past) → nat_lt (turns s bound past) (deciding bound) ≡ false → IsSettled s bound count (newer ++ past) past
settled s bound count [] past decided = record { turns = refl; residue = refl }
settled s bound count (e ∷ newer) past decided =
    let before = settled s bound count newer past decided in
    let run : Past = newer ++ past in
    let full : nat_lt (turns s bound run) (deciding bound) ≡ false = ap (λ (n : ℕ). nat_lt n (deciding bound)) before.turns ∙ decided in
    let is : counts s bound run e.who.0 ≡ false = no_and (nat_lt (turns s bound run) (deciding bound)) (takes_over s bound run e.who.0) full in
    record {
      turns = no (counts s bound run e.who.0) (turns s bound run + 1) (turns s bound run) is ∙ before.turns;
      residue = no (counts s bound run e.who.0) ((residue s bound count run * 7 + length run + e.who.0) % count) (residue s bound count run) is ∙ before.residue;
    }

-- a run whose part is decided, and another one, isn't gone on with
pub passed_decided : (s : Tree) (bound : ℕ) (part : Part) (past : Past) (share : Share) → IsShare s bound part.count past share → deciding bound ≤ share.turns → eqb share.residue (part.number - 1) ≡ false → IsPassed s bound part past
passed_decided s bound part past share is decided other run inside on =
    let full : nat_lt (turns s bound past) (deciding bound) ≡ false = grind (arith, nat_tests, decided, is.turns) in
    let same : residue s bound part.count run ≡ share.residue = ap (residue s bound part.count) on.is ∙ (settled s bound part.count on.newer past full).residue ∙ sym is.residue in
    false≢true (sym other ∙ ap (λ (n : ℕ). eqb n (part.number - 1)) (sym same) ∙ inside.of)

-- nor one that is over, and of another part
pub passed_over : (s : Tree) (bound : ℕ) (part : Part) (past : Past) (share : Share) → IsShare s bound part.count past share → choice s past ≡ None → eqb share.residue (part.number - 1) ≡ false → IsPassed s bound part past
passed_over s bound part past share is over other run inside on =
    let same : residue s bound part.count run ≡ share.residue = ap (residue s bound part.count) (ends_here s bound run past over inside.within on) ∙ sym is.residue in
    false≢true (sym other ∙ ap (λ (n : ℕ). eqb n (part.number - 1)) (sym same) ∙ inside.of)

pub of_part : (s : Tree) (bound : ℕ) (part : Part) (past : Past) (share : Share) → IsShare s bound part.count past share → eqb share.residue (part.number - 1) ≡ true → is_of s bound part past ≡ true
of_part s bound part past share is same = ap (λ (n : ℕ). eqb n (part.number - 1)) (sym is.residue) ∙ same

-- ---- each run is of one part

residue_below : (s : Tree) (bound count : ℕ) (past : Past) → 0 < count → residue s bound count past < count
residue_below s bound count [] some = some
residue_below s bound count (e ∷ past) some = elim (cases_Bool (counts s bound past e.who.0)) [
  | inl is ↦ subst (λ (n : ℕ). n < count) (sym (yes (counts s bound past e.who.0) ((residue s bound count past * 7 + length past + e.who.0) % count) (residue s bound count past) is)) (mod-lt (residue s bound count past * 7 + length past + e.who.0) some)
  | inr other ↦ subst (λ (n : ℕ). n < count) (sym (no (counts s bound past e.who.0) ((residue s bound count past * 7 + length past + e.who.0) % count) (residue s bound count past) other)) (residue_below s bound count past some)
]

pub some_part : (s : Tree) (bound count : ℕ) (past : Past) → 0 < count → IsWithin s bound past → (part : Part) × (part.count ≡ count) × IsPart part × IsPartOf s bound part past
some_part s bound count past some within =
    let below = residue_below s bound count past some in
    let part : Part = record { number = residue s bound count past + 1; count = count } in
    let same : eqb (residue s bound count past) (residue s bound count past + 1 - 1) ≡ true = grind (arith, nat_tests) in
    (part, refl, record { some = omega arith; known = omega (arith, below) }, record { within = within; of = same })

pub one_part : (s : Tree) (bound : ℕ) (a b : Part) (past : Past) → IsPart a → IsPart b → a.count ≡ b.count → IsPartOf s bound a past → IsPartOf s bound b past → a.number ≡ b.number
one_part s bound a b past is too same first second =
    let here : residue s bound a.count past ≡ a.number - 1 = grind (arith, nat_tests, first.of) in
    let there : residue s bound b.count past ≡ b.number - 1 = grind (arith, nat_tests, second.of) in
    let equal : residue s bound a.count past ≡ residue s bound b.count past = ap (λ (n : ℕ). residue s bound n past) same in
    omega (arith, here, there, equal, is.some, too.some)

pub whole_part : (s : Tree) (bound : ℕ) (part : Part) (past : Past) → IsPart part → part.count ≡ 1 → IsWithin s bound past → IsPartOf s bound part past
whole_part s bound part past is one within =
    let below : residue s bound part.count past < part.count = residue_below s bound part.count past (omega (arith, one)) in
    let none : residue s bound part.count past ≡ part.number - 1 = omega (arith, below, one, is.some, is.known) in
    record { within = within; of = grind (arith, nat_tests, none) }

-- What is left of the search when a run goes on, ends, or turns back.
use Rattle.std.proofs.Common.{◌≡◌, ℕ, ◌<◌, ◌≤◌, List, [], ◌∷◌, ◌++◌, Option, Some, None, Result, Ok, Err, OnOk, refl, sym, ap, ◌∙◌, subst, inl, inr, ◌⊎◌, append-nil, arith}
use Rattle.std.specs.Prelude.{All, Contains}
use Rattle.std.proofs.lemmas.Bool.{cases_lt, false≢true}
use Rattle.user_model.specs.declared.entry.Entry.{Entry}
use Rattle.user_model.specs.Past.{Past, or_else}
use Rattle.script_tree.specs.Tree.{Tree}
use Rattle.user_pool.specs.Runs.{clock_move, choice, IsMove, IsRun}
use Rattle.user_pool.specs.Moves.{HasGoneOn}
use Rattle.user_pool.proofs.OneRun.{move_same}
use Rattle.user_pool.proofs.Interleavings.{run_front}
use Rattle.run_explorer.specs.declared.part.Part.{Part}
use Rattle.run_explorer.specs.Orders.{switches, IsWithin, IsBefore}
use Rattle.run_explorer.specs.Parts.{IsPartOf, AreFirst}
use Rattle.run_explorer.specs.Steps.{next_above, least}
use Rattle.run_explorer.specs.Searches.{GoesOnFrom, GoesOnBy, IsOpen, IsPassed, IsClosed, TurnsAt}
use Rattle.run_explorer.proofs.Orders.{before_too, before_longer, longer_before, parts_here, parts_or_before, goes_further, all_none, all_more, all_into, here_too, there_too}
use Rattle.run_explorer.proofs.Moves.{mover_runs, quiet_stays, clock_free, none_moves, switches_more, mover_may, none_may, above_least, none_above, next_may}

-- ---- the next move of a run within the bound

record IsNext (s : Tree) (bound : ℕ) (past : Past) (e : Entry) : Type 0 where
  move : IsMove s past e
  few : switches s (e ∷ past) ≤ bound

next_is : (s : Tree) (bound : ℕ) (run past : Past) (newer : List Entry) (e : Entry) → IsWithin s bound run → run ≡ newer ++ e ∷ past → IsNext s bound past e
next_is s bound run past newer e within is = record {
  move = (run_front s newer (e ∷ past) (subst (IsRun s) is within.run)).0;
  few = let more : switches s (e ∷ past) ≤ switches s run = subst (λ (r : Past). switches s (e ∷ past) ≤ switches s r) (sym is) (switches_more s newer (e ∷ past)) in omega (arith, more, within.few);
}

-- a run that is over goes on no further
pub ends_here : (s : Tree) (bound : ℕ) (run past : Past) → choice s past ≡ None → IsWithin s bound run → GoesOnFrom run past → run ≡ past
ends_here s bound run past over within on = elim (goes_further run past on) [
  | inl same ↦ same
  | inr by ↦ absurd (none_moves s past by.next over (next_is s bound run past by.newer by.next within by.is).move)
]

-- and one that isn't goes on by a move
goes_by : (s : Tree) (bound : ℕ) (run past : Past) (e : Entry) → IsMove s past e → IsWithin s bound run → GoesOnFrom run past → GoesOnBy run past 0
goes_by s bound run past e move within on = elim (goes_further run past on) [
  | inl same ↦ absurd (none_moves s past e (subst (λ (r : Past). choice s r ≡ None) same within.over) move)
  | inr by ↦ by
]

-- what goes on by the same mover goes on by the same entry
same_entry : (s : Tree) (bound : ℕ) (run past : Past) (e f : Entry) (newer : List Entry) → IsMove s past e → IsWithin s bound run → run ≡ newer ++ f ∷ past → e.who.0 ≡ f.who.0 → GoesOnFrom run (e ∷ past)
same_entry s bound run past e f newer move within is who =
    let same : e ≡ f = move_same s past e f who move (next_is s bound run past newer f within is).move in
    record { newer = newer; is = is ∙ ap (λ (x : Entry). newer ++ x ∷ past) (sym same) }

-- what goes on by a mover that is no lower goes on by the same one, or comes after
same_or_after : (s : Tree) (bound : ℕ) (run past : Past) (e : Entry) → IsMove s past e → IsWithin s bound run → GoesOnBy run past e.who.0 → GoesOnFrom run (e ∷ past) ⊎ IsBefore (e ∷ past) run
same_or_after s bound run past e move within on = elim (cases_lt e.who.0 on.next.who.0) [
  | inl above ↦ inr (parts_here (e ∷ past) run past e on.next [] on.newer refl on.is above)
  | inr le ↦ inl (same_entry s bound run past e on.next on.newer move within on.is (omega (arith, le, on.by)))
]

-- ---- a run goes on by the least

-- the first mover of a run within the bound is no lower than the least
no_lower : (s : Tree) (bound : ℕ) (past : Past) (e f : Entry) → least s bound past ≡ Some e.who.0 → IsMove s past e → IsNext s bound past f → e.who.0 ≤ f.who.0
no_lower s bound past e f first move next = elim (cases_lt 0 f.who.0) [
  | inl positive ↦ pick (next_above s bound past 0) refl first positive
  | inr le ↦ elim (cases_lt 0 e.who.0) [
    | inl thread ↦ absurd (false≢true (sym (quiet_stays s past (clock_free s past f next.move (omega (arith, le))) e.who.0) ∙ mover_runs s past e move thread))
    | inr none ↦ omega (arith, none)
  ]
]
  where
    pick : (o : Option ℕ) → next_above s bound past 0 ≡ o → or_else o (clock_move s past) ≡ Some e.who.0 → 0 < f.who.0 → e.who.0 ≤ f.who.0
    pick (Some i) found is positive =
        let same : i ≡ e.who.0 = cc in
        above_least s bound past 0 e.who.0 f.who.0 (found ∙ ap (λ (k : ℕ). let o : Option ℕ = Some k in o) same) positive (mover_may s bound past f next.move next.few positive)
    pick None found is positive = absurd (false≢true (sym (none_may s bound past found f.who.0) ∙ mover_runs s past f next.move positive))

later_on : (runs : List Past) (past : Past) (e : Entry) → All (λ run. IsBefore run past) runs → All (λ run. IsBefore run (e ∷ past)) runs
later_on runs past e later = all_into (λ run. IsBefore run past) (λ run. IsBefore run (e ∷ past)) runs (λ run p. before_longer run past (e ∷ []) p) later

pub open_next : (s : Tree) (bound : ℕ) (part : Part) (runs : List Past) (past : Past) (e : Entry) → least s bound past ≡ Some e.who.0 → IsMove s past e → IsOpen s bound part runs past → IsOpen s bound part runs (e ∷ past)
open_next s bound part runs past e first move were = record {
  left = λ run within. elim (were.left run within) [
    | inl made ↦ inl made
    | inr (inl on) ↦
        let by = goes_by s bound run past e move within.within on in
        let least : e.who.0 ≤ by.next.who.0 = no_lower s bound past e by.next first move (next_is s bound run past by.newer by.next within.within by.is) in
        inr (same_or_after s bound run past e move within.within (record { newer = by.newer; next = by.next; is = by.is; by = least }))
    | inr (inr after) ↦ inr (inr (longer_before past run (e ∷ []) after))
  ];
  later = later_on runs past e were.later;
}

-- a run turns off
pub open_turn : (s : Tree) (bound : ℕ) (part : Part) (runs : List Past) (past : Past) (e : Entry) → IsMove s past e → TurnsAt s bound part runs past e.who.0 → IsOpen s bound part runs (e ∷ past)
open_turn s bound part runs past e move turn = record {
  left = λ run within. elim (turn.left run within) [
    | inl made ↦ inl made
    | inr (inl on) ↦ inr (same_or_after s bound run past e move within.within on)
    | inr (inr after) ↦ inr (inr (longer_before past run (e ∷ []) after))
  ];
  later = turn.later e refl;
}

-- before the first run all is left
pub open_first : (s : Tree) (bound : ℕ) (part : Part) → IsOpen s bound part [] []
open_first s bound part = record {
  left = λ run within. inr (inl (record { newer = run; is = sym (append-nil run) }));
  later = all_none (λ run. IsBefore run []);
}

-- ---- a run ends

pub closed_now : (s : Tree) (bound : ℕ) (part : Part) (runs : List Past) (last : Past) → IsPartOf s bound part last → IsOpen s bound part runs last → IsClosed s bound part (last ∷ runs) last
closed_now s bound part runs last within were = record {
  left = λ run inside. elim (were.left run inside) [
    | inl made ↦ inl (there_too last runs run made)
    | inr (inl on) ↦ inl (here_too last runs run (ends_here s bound run last within.within.over inside.within on))
    | inr (inr after) ↦ inr after
  ];
  later = all_more (λ run. (run ≡ last) ⊎ IsBefore run last) last runs (inl refl) (all_into (λ run. IsBefore run last) (λ run. (run ≡ last) ⊎ IsBefore run last) runs (λ run p. inr p) were.later);
}

-- where it is of another part, none was made
pub closed_left : (s : Tree) (bound : ℕ) (part : Part) (runs : List Past) (past : Past) → IsPassed s bound part past → IsOpen s bound part runs past → IsClosed s bound part runs past
closed_left s bound part runs past passed were = record {
  left = λ run inside. elim (were.left run inside) [
    | inl made ↦ inl made
    | inr (inl on) ↦ absurd (passed run inside on)
    | inr (inr after) ↦ inr after
  ];
  later = all_into (λ run. IsBefore run past) (λ run. (run ≡ past) ⊎ IsBefore run past) runs (λ run p. inr p) were.later;
}

pub first_now : (s : Tree) (bound : ℕ) (part : Part) (runs : List Past) (last : Past) → IsPartOf s bound part last → IsOpen s bound part runs last → AreFirst s bound part runs → AreFirst s bound part (last ∷ runs)
first_now s bound part runs last within were first = record {
  each = all_more (IsPartOf s bound part) last runs within first.each;
  rising = (were.later, first.rising);
  others = λ run inside. elim (were.left run inside) [
    | inl made ↦ inl (there_too last runs run made)
    | inr (inl on) ↦ inl (here_too last runs run (ends_here s bound run last within.within.over inside.within on))
    | inr (inr after) ↦ inr (all_more (λ made. IsBefore made run) last runs after (all_into (λ made. IsBefore made last) (λ made. IsBefore made run) runs (λ made p. before_too made last run p after) were.later))
  ];
}

-- ---- the search turns back

-- what is left behind a step at which no higher thread might have moved is left behind the step before it
pub left_back : (s : Tree) (bound : ℕ) (part : Part) (runs : List Past) (past : Past) (e : Entry) → next_above s bound past e.who.0 ≡ None
    → ((run : Past) → IsPartOf s bound part run → Contains runs run ⊎ IsBefore (e ∷ past) run) → (run : Past) → IsPartOf s bound part run → Contains runs run ⊎ IsBefore past run
left_back s bound part runs past e none left run within = elim (left run within) [
  | inl made ↦ inl made
  | inr after ↦ elim (parts_or_before e past run after) [
    | inr before ↦ inr before
    | inl on ↦
        let next = next_is s bound run past on.newer on.next within.within on.is in
        let above : e.who.0 < on.next.who.0 = omega (arith, on.by) in
        absurd (none_above s bound past e.who.0 on.next.who.0 none above (mover_may s bound past on.next next.move next.few (omega (arith, above))))
  ]
]

-- at a step where one might have, the next run turns off by the least that might
pub turn_here : (s : Tree) (bound : ℕ) (part : Part) (runs : List Past) (last past : Past) (e : Entry) (t : ℕ) → GoesOnFrom last (e ∷ past) → next_above s bound past e.who.0 ≡ Some t
    → ((run : Past) → IsPartOf s bound part run → Contains runs run ⊎ IsBefore (e ∷ past) run) → All (λ run. (run ≡ last) ⊎ IsBefore run last) runs → TurnsAt s bound part runs past t
turn_here s bound part runs last past e t on next left later =
    let parts = next_may s bound past e.who.0 t next in
    record {
      may = parts.1;
      left = λ run within. elim (left run within) [
        | inl made ↦ inl made
        | inr after ↦ elim (parts_or_before e past run after) [
          | inr before ↦ inr (inr before)
          | inl by ↦
              let more = next_is s bound run past by.newer by.next within.within by.is in
              let above : e.who.0 < by.next.who.0 = omega (arith, by.by) in
              inr (inl (record { newer = by.newer; next = by.next; is = by.is; by = above_least s bound past e.who.0 t by.next.who.0 next above (mover_may s bound past by.next more.move more.few (omega (arith, above))) }))
        ]
      ];
      later = λ f who.
          let turned : IsBefore last (f ∷ past) = parts_here last (f ∷ past) past e f on.newer [] on.is refl (omega (arith, who, parts.0)) in
          all_into (λ run. (run ≡ last) ⊎ IsBefore run last) (λ run. IsBefore run (f ∷ past)) runs (λ run p. elim p [
            | inl same ↦ subst (λ (r : Past). IsBefore r (f ∷ past)) (sym same) turned
            | inr before ↦ before_too run last (f ∷ past) before turned
          ]) later;
    }

-- ---- a run goes on by what was found

pub open_moved : (s : Tree) (bound : ℕ) (part : Part) (runs : List Past) (past after : Past) (mover : ℕ) → least s bound past ≡ Some mover → HasGoneOn s past after mover → IsOpen s bound part runs past → IsOpen s bound part runs after
open_moved s bound part runs past after mover first went were =
    let here : least s bound past ≡ Some went.entry.who.0 = first ∙ ap (λ (k : ℕ). let o : Option ℕ = Some k in o) (sym went.who) in
    subst (λ (p : Past). IsOpen s bound part runs p) (sym went.newest) (open_next s bound part runs past went.entry here went.move were)

pub open_turned : (s : Tree) (bound : ℕ) (part : Part) (runs : List Past) (past after : Past) (mover : ℕ) → HasGoneOn s past after mover → TurnsAt s bound part runs past mover → IsOpen s bound part runs after
open_turned s bound part runs past after mover went turn =
    subst (λ (p : Past). IsOpen s bound part runs p) (sym went.newest) (open_turn s bound part runs past went.entry went.move (subst (λ (t : ℕ). TurnsAt s bound part runs past t) (sym went.who) turn))

-- before the first run nothing was made
pub open_begun : (s : Tree) (bound : ℕ) (part : Part) (runs : List Past) (past now : Past) → now ≡ past → past ≡ [] → runs ≡ [] → IsOpen s bound part runs now
open_begun s bound part runs past now same empty none = subst (λ (p : Past). IsOpen s bound part runs p) (sym (same ∙ empty)) (subst (λ (rs : List Past). IsOpen s bound part rs []) (sym none) (open_first s bound part))

pub on_more : {X E : Type 0} {P Q : Type 0} (r : Result X E) → (P → Q) → OnOk r P → OnOk r Q
on_more (Ok x) f p = f p
on_more (Err e) f p = tt

-- Each step keeps the rule of the board.
use Rattle.std.proofs.Common.{◌≡◌, ◌≢◌, ℕ, zero, suc, ◌+◌, Bool, true, false, List, [], ◌∷◌, ◌++◌, length, set, refl, ap, sym, ◌∙◌, subst, ⊎_elim, arith}
use Rattle.std.specs.Prelude.{slice_index, slice_set}
use mathlib.Core.List.{IsPrefix}
use mathlib.Core.Option.{some, some-injective, some-ne-none}
use lib.ListN.{get_elem?}
use Rattle.atomic_table.specs.Table.{State, Me, Step, keeps, stepped, opening, Allows, Splits, Joins}
use Rattle.atomic_table.proofs.Lists.{at_set, at_snoc, set_again}
use Rattle.status_board.specs.declared.shown.Shown.{Shown}
use Rattle.status_board.specs.declared.known.Known.{Known}
use Rattle.status_board.specs.Lists.{nothing, longer, word_of, said_by}
use Rattle.status_board.specs.Rule.{known, first_writer, newcomer, telling, hearing, Knows, Kept, Reads, Settles, Adds}
use Rattle.status_board.proofs.Beginnings.{begins_itself, nothing_begins, begins_more, has_longer, latest_push, counts_push, word_back}

-- no seat is both the writer's and not
never : {A : Type 0} (b : Bool) → b ≡ false → b ≡ true → A
never b reads writes = absurd (cc (reads, writes))

-- what a reader knows, where it begins the whole list
pub knows : (whole : List Shown) (writer seat : ℕ) (writes : Bool) (list told : List Shown) → writes ≡ false → IsPrefix list whole → IsPrefix told whole → Knows whole writer seat (known writes list told)
knows whole writer seat writes list told reads p q = record { list = p; told = q; one = never writes reads; all = never writes reads }

first_knows : (seat : ℕ) (v : Known) → get_elem? (first_writer ∷ []) seat ≡ some v → Knows [] 0 seat v
first_knows zero v e = subst (Knows [] 0 0) (some-injective first_writer v e) (record { list = nothing_begins []; told = nothing_begins []; one = λ w. refl; all = λ w. refl })
first_knows (suc k) v e = absurd (some-ne-none v (sym e))

-- a board on which nothing was published
pub starts : Kept (opening (0 ∷ []) [] first_writer)
starts = record { whole = []; writer = 0; words = refl; counts = tt; each = first_knows }

-- a step of a reader, which knows another beginning of the list afterwards
goes_on : (s : State ℕ Known) (kept : Kept s) (id : ℕ) (c : List (ℕ × ℕ)) (w : Known) → ((seat : ℕ) → Knows kept.whole kept.writer seat w) → Kept (stepped s 0 (slice_index s.words 0) id c w keeps)
goes_on s kept id c w knows' = record {
  whole = kept.whole;
  writer = kept.writer;
  words = ap (λ (l : List ℕ). slice_set l 0 (slice_index l 0)) kept.words;
  counts = kept.counts;
  each = λ seat u e. ⊎_elim (λ (t : (seat ≡ id) × (w ≡ u)). subst (Knows kept.whole kept.writer seat) t.1 (knows' seat)) (λ (t : (seat ≢ id) × (get_elem? s.views seat ≡ some u)). kept.each seat u t.1) (at_set s.views id seat w u e);
}

-- a reader may read the word
pub reads : (st : Step ℕ) (slots id : ℕ) (v : Known) (c : List (ℕ × ℕ)) → v.writes ≡ false → Allows Kept slots id (v, c) 0 (λ n. n) (Reads st (v, c))
reads st slots id v c idle s kept deep at small =
    let mine = kept.each id v at in
    let w = known v.writes kept.whole v.told in (
      w,
      keeps,
      tt,
      goes_on s kept id c w (λ seat. knows kept.whole kept.writer seat v.writes kept.whole v.told idle (begins_itself kept.whole) mine.told),
      (refl, mine.list, kept.counts, sym (ap (λ (l : List ℕ). slice_index l 0) kept.words)),
    )

-- a reader may take in what it was told
pub settles : (st : Step ℕ) (slots id : ℕ) (v : Known) (c : List (ℕ × ℕ)) → v.writes ≡ false → Allows Kept slots id (v, c) 0 (λ n. n) (Settles st (v, c))
settles st slots id v c idle s kept deep at small =
    let mine = kept.each id v at in
    let both = has_longer v.list v.told kept.whole mine.list mine.told in
    let w = known v.writes (longer v.list v.told) [] in (
      w,
      keeps,
      tt,
      goes_on s kept id c w (λ seat. knows kept.whole kept.writer seat v.writes (longer v.list v.told) [] idle both.begins (nothing_begins kept.whole)),
      (refl, both.first, both.second),
    )

-- the writer may publish the next number
pub adds : (st : Step ℕ) (slots id : ℕ) (v : Known) (c : List (ℕ × ℕ)) (new : ℕ) → v.writes ≡ true → (said_by new).number ≡ length v.list + 1 → Allows Kept slots id (v, c) 0 (λ n. new) (λ n. Adds st (v, c) new)
adds st slots id v c new writes next s kept deep at small =
    let mine = kept.each id v at in
    let x = said_by new in
    let same : v.list ≡ kept.whole = mine.all writes in
    let w = known v.writes (v.list ++ x ∷ []) v.told in
    let whole = kept.whole ++ x ∷ [] in
    let ours : (seat : ℕ) → seat ≡ id → Knows whole kept.writer seat w = λ seat is. record {
      list = subst (λ (l : List Shown). IsPrefix (l ++ x ∷ []) whole) (sym same) (begins_itself whole);
      told = begins_more v.told kept.whole (x ∷ []) mine.told;
      one = λ w'. is ∙ mine.one writes;
      all = λ w'. ap (λ (l : List Shown). l ++ x ∷ []) same;
    } in
    let others : (seat : ℕ) (u : Known) → seat ≢ id → get_elem? s.views seat ≡ some u → Knows whole kept.writer seat u = λ seat u other there. let theirs = kept.each seat u there in record {
      list = begins_more u.list kept.whole (x ∷ []) theirs.list;
      told = begins_more u.told kept.whole (x ∷ []) theirs.told;
      one = theirs.one;
      all = λ w'. absurd (other (theirs.one w' ∙ sym (mine.one writes)));
    } in (
      w,
      keeps,
      tt,
      record {
        whole = whole;
        writer = kept.writer;
        words = ap (λ (l : List ℕ). slice_set l 0 new) kept.words ∙ ap (λ (n : ℕ). n ∷ []) (sym (ap word_of (latest_push nothing x kept.whole) ∙ word_back new));
        counts = counts_push 0 kept.whole x kept.counts (omega (arith, next, ap (λ (l : List Shown). length l) same)) (omega arith);
        each = λ seat u e. ⊎_elim (λ (t : (seat ≡ id) × (w ≡ u)). subst (Knows whole kept.writer seat) t.1 (ours seat t.0)) (λ (t : (seat ≢ id) × (get_elem? s.views seat ≡ some u)). others seat u t.0 t.1) (at_set s.views id seat w u e);
      },
      refl,
    )

-- the writer may make a seat that knows what begins its own list
parts : (id : ℕ) (v r : Known) → ((whole : List Shown) (writer seat : ℕ) → IsPrefix v.list whole → Knows whole writer seat r) → Splits Kept id v v r
parts id v r knows' s kept at = record {
  whole = kept.whole;
  writer = kept.writer;
  words = kept.words;
  counts = kept.counts;
  each = λ seat u e. ⊎_elim (λ (there : get_elem? (set s.views id v) seat ≡ some u). kept.each seat u (subst (λ (l : List Known). get_elem? l seat ≡ some u) (set_again s.views id v at) there))
      (λ (same : r ≡ u). subst (Knows kept.whole kept.writer seat) same (knows' kept.whole kept.writer seat (kept.each id v at).list)) (at_snoc (set s.views id v) r u seat e);
}

pub tells : (id : ℕ) (v : Known) → Splits Kept id v v (telling v)
tells id v = parts id v (telling v) (λ whole writer seat p. knows whole writer seat false v.list [] refl p (nothing_begins whole))

pub deals : (id : ℕ) (v : Known) → Splits Kept id v v newcomer
deals id v = parts id v newcomer (λ whole writer seat p. knows whole writer seat false [] [] refl (nothing_begins whole) (nothing_begins whole))

-- a reader may be told what a note knows
pub hears : (id : ℕ) (v : Known) (other : ℕ) (w : Known) → v.writes ≡ false → Joins Kept id v other w (hearing v w) newcomer
hears id v other w idle s kept at apart there =
    let both = hearing v w in
    let told : IsPrefix w.list kept.whole = ⊎_elim (λ (t : (other ≡ id) × (both ≡ w)). absurd (apart t.0)) (λ (t : (other ≢ id) × (get_elem? s.views other ≡ some w)). (kept.each other w t.1).list) (at_set s.views id other both w there) in record {
      whole = kept.whole;
      writer = kept.writer;
      words = kept.words;
      counts = kept.counts;
      each = λ seat u e. ⊎_elim (λ (t : (seat ≡ other) × (newcomer ≡ u)). subst (Knows kept.whole kept.writer seat) t.1 (knows kept.whole kept.writer seat false [] [] refl (nothing_begins kept.whole) (nothing_begins kept.whole)))
          (λ (t : (seat ≢ other) × (get_elem? (set s.views id both) seat ≡ some u)). ⊎_elim (λ (r : (seat ≡ id) × (both ≡ u)). subst (Knows kept.whole kept.writer seat) r.1 (knows kept.whole kept.writer seat v.writes v.list w.list idle (kept.each id v at).list told))
          (λ (r : (seat ≢ id) × (get_elem? s.views seat ≡ some u)). kept.each seat u r.1) (at_set s.views id seat both u t.1)) (at_set (set s.views id both) other seat newcomer u e);
    }

-- the writer's seat after it has published: it holds nothing and was told nothing
pub still_writes : (me me' : Me ℕ Known) (x : Shown) → me ≡ (known true me.0.list [], []) → me' ≡ (known me.0.writes (me.0.list ++ x ∷ []) me.0.told, me.1) → me' ≡ (known true me'.0.list [], [])
still_writes me me' x was e =
    let list : me'.0.list ≡ me.0.list ++ x ∷ [] = ap (λ (m : Me ℕ Known). m.0.list) e in
    e ∙ ap (λ (m : Me ℕ Known). (known m.0.writes (me.0.list ++ x ∷ []) m.0.told, m.1)) was ∙ ap (λ (l : List Shown). (known true l [], [])) (sym list)

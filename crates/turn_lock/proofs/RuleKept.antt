-- Each step keeps the rule of the lock.
use Rattle.std.proofs.Common.{◌≡◌, ◌≢◌, ◌⊎◌, ℕ, zero, suc, ◌+◌, ◌%◌, ◌^◌, ◌<◌, ◌≤◌, eqb, cond, Bool, true, false, List, [], ◌∷◌, ◌++◌, map, length, get_or, set, sym, refl, ap, ◌∙◌, subst, ⊎_elim, inl, inr, arith, Option, Some, None, All, length-set, length-append, eq-eqb, ne_eqb}
use Rattle.std.proofs.lemmas.List.{append-nil, append_assoc}
use Rattle.std.proofs.lemmas.List.Elements.{All-weaker, All-cons, All-nil, All-push, All-map, recursion_from_All}
use Rattle.std.specs.List.{IsDistinct}
use mathlib.Core.Logic.{dite}
use mathlib.Core.Option.{none, some, some-injective, some-ne-none}
use mathlib.Core.Option as maybe
use native.Mathlib.Decide.{ℕ_discrete}
use lib.ListN.{get_elem?}
use lib.Seq.{set-get_or}
use Rattle.atomic_table.specs.Table.{State, Me, step, Act, keeps, takes, gives, stepped, homes_after, put_back, rest, Allows, Splits, Joins, opening}
use Rattle.atomic_table.proofs.Lists.{at_set, set_else, set_again, at_longer, one_turn}
use Rattle.turn_lock.specs.Histories.{Begins, calls_of}
use Rattle.turn_lock.specs.Views.{first_view, spent, waiting, served, informed, counting, leaving, with_one_more, newcomer, taking_in, member}
use Rattle.turn_lock.specs.Rule.{tickets_of, number_of, IsTakenIn, Live, Stands, IsServing, IsHome, IsOut, Kept, Sat, drew, passed, looked, learned, counted}
use Rattle.turn_lock.specs.declared.view.View.{View}
use Rattle.turn_lock.specs.declared.view.Member.{Member}
use Rattle.turn_lock.specs.declared.view.Stage.{Stage}
use Rattle.turn_lock.specs.declared.view.Stage.TheVariants.{Away, Waiting, Served, Spent}
use Rattle.turn_lock.proofs.Lists.{begins_all, begins_chain, at_below, put_there, at_end, calls_more, calls_one, calls_other, calls_none, tickets_set, tickets_append, tickets_few}

-- a number for each stage, to tell them apart
abbrev pub stage_code : Stage → ℕ
stage_code Away = 0
stage_code (Waiting t) = 1
stage_code (Served b) = 2
stage_code Spent = 3

abbrev ticket_or : ℕ → Stage → ℕ
ticket_or d (Waiting t) = t
ticket_or d _ = d

abbrev pub state_or : {S : Type 0} → S → Option S → S
state_or d (Some x) = x
state_or d None = d

put : (ℕ → ℕ) → ℕ → ℕ → ℕ → ℕ
put f k x j = cond (eqb j k) x (f j)

put_here : (f : ℕ → ℕ) (k x : ℕ) → put f k x k ≡ x
unfolding put
put_here f k x = ap (λ b. cond b x (f k)) (eq-eqb k k refl)

put_else : (f : ℕ → ℕ) (k x j : ℕ) → j ≢ k → put f k x j ≡ f j
unfolding put
put_else f k x j other = ap (λ b. cond b x (f j)) (ne_eqb j k other)

wraps : (n : ℕ) → (n % 2 ^ 64 + 1) % 2 ^ 64 ≡ (n + 1) % 2 ^ 64
wraps n = omega arith

pub not_spent : (s t : Stage) → s ≡ t → stage_code t < 3 → s ≢ Spent
not_spent s t is low e = let h : stage_code t ≡ 3 = ap stage_code (sym is ∙ e) in absurd (omega arith)

pub not_served : (s t : Stage) (b : Bool) → s ≡ t → stage_code t < 2 → ¬ (s ≡ Served b)
not_served s t b is low e = let h : stage_code t ≡ 2 = ap stage_code (sym is ∙ e) in absurd (omega arith)

further : (a b : ℕ) → a ≤ b → a ≢ b → a + 1 ≤ b
further a b le not = dite (ℕ_discrete a b) (λ e. absurd (not e)) (λ ne. omega arith)

abbrev bit : Bool → ℕ
bit true = 1
bit false = 0

abbrev first_or : {E : Type 0} → E → List E → E
first_or d [] = d
first_or d (x ∷ xs) = x

abbrev rest_of : {E : Type 0} → List E → List E
rest_of [] = []
rest_of (x ∷ xs) = xs

abbrev pub slot_first : {S : Type 0} → List (ℕ × Option S) → Option S
slot_first [] = None
slot_first (p ∷ ps) = p.1

pub falsehood : false ≡ true → ⊥
falsehood e = let h : bit false ≡ bit true = ap bit e in absurd (omega arith)

pub held : {S : Type 0} (x y : S) (c : List (ℕ × Option S)) → c ≡ (0, Some x) ∷ [] → c ≡ (0, Some y) ∷ [] → x ≡ y
held {S} x y c a b = ap (λ (l : List (ℕ × Option S)). state_or x (slot_first l)) (sym a ∙ b)

pub snoc_last : {E : Type 0} (xs : List E) (a b : E) → xs ++ a ∷ [] ≡ xs ++ b ∷ [] → a ≡ b
snoc_last [] a b e = ap (first_or a) e
snoc_last (x ∷ xs) a b e = snoc_last xs a b (ap rest_of e)

none_apart : IsDistinct eqb []
unfolding IsDistinct
none_apart = tt

pub one_apart : {C A : Type 0} (k : ℕ) (ms : List (Member C A)) → All (λ m. m.number ≢ k) ms → IsDistinct eqb (map number_of ms) → IsDistinct eqb (k ∷ map number_of ms)
unfolding IsDistinct
one_apart {C} {A} k ms other apart = (recursion_from_All (λ y. eqb k y ≡ false) (map number_of ms) (All-map (λ y. eqb k y ≡ false) number_of ms (All-weaker (λ (m : Member C A). m.number ≢ k) (λ (m : Member C A). eqb k (number_of m) ≡ false) (λ m h. ne_eqb k m.number (λ e. h (sym e))) ms other)), apart)

only_one : {E : Type 0} (a : E) (j : ℕ) (b : E) → get_elem? (a ∷ []) j ≡ some b → (j ≡ 0) × (a ≡ b)
only_one a zero b e = (refl, some-injective a b e)
only_one a (suc j) b e = absurd (some-ne-none b (sym e))

module _ {S C A G : Type 0} (history : S → List (C × A)) (setting : S → G) (lawful : G → List (C × A) → Type 0) (number : C → ℕ) (origin : S) (seats : ℕ) where
  abbrev V : Type 0
  V = View S C A

  abbrev Log : Type 0
  Log = List (C × A)

  abbrev St : Type 0
  St = State (Option S) V

  abbrev M : Type 0
  M = Sat S C A

  abbrev Rule : St → Type 0
  Rule = Kept history setting lawful number origin seats

  abbrev IsLive : Log → List V → ℕ → V → Type 0
  IsLive = Live number origin

  abbrev Standing : Log → List V → ℕ → ℕ → (ℕ → ℕ) → ℕ → V → Stage → Type 0
  Standing log views ticket serving holder = Stands number origin log views history ticket serving holder

  -- the seat id has the view v, and isn't spent
  abbrev Has : List V → ℕ → V → Type 0
  Has views id v = (get_elem? views id ≡ some v) × (v.stage ≢ Spent)

  taken_stays : (log log' : Log) (views : List V) (id : ℕ) (v w : V) → Has views id v → Begins log log' → ((k : ℕ) → k ≢ id → calls_of number k log' ≡ calls_of number k log) → (m : Member C A)
      → IsTakenIn number origin log views m → IsTakenIn number origin log' (set views id w) m
  taken_stays log log' views id v w has grows same m t =
      let other : m.number ≢ id = λ e. has.1 (ap (λ (u : V). u.stage) (some-injective v spent (sym has.0 ∙ (ap (get_elem? views) (sym e) ∙ t.0)))) in
      (set_else views id m.number w other ∙ t.0, begins_chain m.seen log log' t.1 grows, same m.number other ∙ t.2)

  -- another seat's view stays
  live_stays : (log log' : Log) (views : List V) (id : ℕ) (v w : V) → Has views id v → Begins log log' → ((k : ℕ) → k ≢ id → calls_of number k log' ≡ calls_of number k log)
      → (j : ℕ) (u : V) → j ≢ id → IsLive log views j u → IsLive log' (set views id w) j u
  live_stays log log' views id v w has grows same j u other l = record {
    named = l.named;
    opened = l.opened;
    seen = begins_chain u.seen log log' l.seen grows;
    mine = same j other ∙ l.mine;
    made = λ z. l.made z ∙ sym (length-set views id w);
    joined = All-weaker (IsTakenIn number origin log views) (IsTakenIn number origin log' (set views id w)) (taken_stays log log' views id v w has grows same) u.joined l.joined;
    apart = l.apart;
  }

  -- the seat's own view goes on
  live_goes : (log log' : Log) (views : List V) (id : ℕ) (v : V) (stage : Stage) (kept seen mine : Log) (looks : ℕ) → Has views id v → Begins log log' → ((k : ℕ) → k ≢ id → calls_of number k log' ≡ calls_of number k log)
      → IsLive log views id v → Begins seen log' → calls_of number id log' ≡ mine
      → let w : V = record v { stage = stage; kept = kept; seen = seen; mine = mine; looks = looks } in IsLive log' (set views id w) id w
  live_goes log log' views id v stage kept seen mine looks has grows same l begins own = let w : V = record v { stage = stage; kept = kept; seen = seen; mine = mine; looks = looks } in record {
    named = l.named;
    opened = l.opened;
    seen = begins;
    mine = own;
    made = λ z. l.made z ∙ sym (length-set views id w);
    joined = All-weaker (IsTakenIn number origin log views) (IsTakenIn number origin log' (set views id w)) (taken_stays log log' views id v w has grows same) v.joined l.joined;
    apart = l.apart;
  }

  grown : (log : Log) (id k : ℕ) → k ≢ id → calls_of number k log ≡ calls_of number k log
  grown log id k other = refl

  -- what the rule says of the seat id
  pub stands_at : (s : St) (r : Rule s) (id : ℕ) (v : V) (stage : Stage) → get_elem? s.views id ≡ some v → v.stage ≡ stage → Standing r.log s.views r.ticket r.serving r.holder id v stage
  stands_at s r id v stage at is = subst (Standing r.log s.views r.ticket r.serving r.holder id v) is (r.each id v at)

  -- a view at the place j, after the seat id has the view w
  each_after : (log : Log) (views' : List V) (ticket serving : ℕ) (holder : ℕ → ℕ) (views : List V) (id : ℕ) (w : V) → Standing log views' ticket serving holder id w w.stage
      → ((j : ℕ) (u : V) → j ≢ id → get_elem? views j ≡ some u → Standing log views' ticket serving holder j u u.stage)
      → (j : ℕ) (u : V) → get_elem? (set views id w) j ≡ some u → Standing log views' ticket serving holder j u u.stage
  each_after log views' ticket serving holder views id w mine others j u at = ⊎_elim
      (λ (t : (j ≡ id) × (w ≡ u)). subst (λ (x : ℕ × V). Standing log views' ticket serving holder x.0 x.1 x.1.stage) (λ i. (sym t.0 i, t.1 i)) mine)
      (λ (t : (j ≢ id) × (get_elem? views j ≡ some u)). others j u t.0 t.1) (at_set views id j w u at)

  others_draw : (s : St) (r : Rule s) (id : ℕ) (v w : V) → Has s.views id v → (j : ℕ) (u : V) → j ≢ id → (stage : Stage)
      → Standing r.log s.views r.ticket r.serving r.holder j u stage → Standing r.log (set s.views id w) (r.ticket + 1) r.serving (put r.holder r.ticket id) j u stage
  others_draw s r id v w has j u other Away l = live_stays r.log r.log s.views id v w has (begins_all r.log) (grown r.log id) j u other l
  others_draw s r id v w has j u other (Waiting t) l = let low : t < r.ticket = l.2 in
      (live_stays r.log r.log s.views id v w has (begins_all r.log) (grown r.log id) j u other l.0, l.1, omega arith, put_else r.holder r.ticket id t (λ e. omega arith) ∙ l.3)
  others_draw s r id v w has j u other (Served b) l = let low : r.serving < r.ticket = l.1 in
      (live_stays r.log r.log s.views id v w has (begins_all r.log) (grown r.log id) j u other l.0, omega arith, put_else r.holder r.ticket id r.serving (λ e. omega arith) ∙ l.2, l.3, l.4)
  others_draw s r id v w has j u other Spent l = tt

  -- nothing but the seat's own view changes
  others_same : (s : St) (r : Rule s) (id : ℕ) (v w : V) → Has s.views id v → (j : ℕ) (u : V) → j ≢ id → (stage : Stage)
      → Standing r.log s.views r.ticket r.serving r.holder j u stage → Standing r.log (set s.views id w) r.ticket r.serving r.holder j u stage
  others_same s r id v w has j u other Away l = live_stays r.log r.log s.views id v w has (begins_all r.log) (grown r.log id) j u other l
  others_same s r id v w has j u other (Waiting t) l = (live_stays r.log r.log s.views id v w has (begins_all r.log) (grown r.log id) j u other l.0, l.1, l.2, l.3)
  others_same s r id v w has j u other (Served b) l = (live_stays r.log r.log s.views id v w has (begins_all r.log) (grown r.log id) j u other l.0, l.1, l.2, l.3, l.4)
  others_same s r id v w has j u other Spent l = tt

  calls_kept : (log : Log) (id : ℕ) (e : C × A) → number e.0 ≡ id → (k : ℕ) → k ≢ id → calls_of number k (log ++ e ∷ []) ≡ calls_of number k log
  calls_kept log id e own k other = calls_more number k log (e ∷ []) ∙ (ap (λ l. calls_of number k log ++ l) (calls_other number k e (λ q. other (sym q ∙ own))) ∙ append-nil (calls_of number k log))

  -- where a seat that isn't served gets a view that isn't served, the state stays where it is
  place_stays : (s : St) (r : Rule s) (id : ℕ) (v w : V) → get_elem? s.views id ≡ some v → ((b : Bool) → ¬ (v.stage ≡ Served b)) → ((b : Bool) → ¬ (w.stage ≡ Served b)) → (words : List ℕ)
      → let s' : St = record { words = words; homes = s.homes; views = set s.views id w } in IsHome history setting origin r.log s' ⊎ IsOut s'
  place_stays s r id v w at idle idle' words = let s' : St = record { words = words; homes = s.homes; views = set s.views id w } in ⊎_elim
      (λ (h : IsHome history setting origin r.log s). let out : IsHome history setting origin r.log s' = (
        h.0,
        h.1,
        h.2,
        h.3,
        λ j u there serving. ⊎_elim
            (λ (t : (j ≡ id) × (w ≡ u)). idle' serving.0 (ap (λ (x : V). x.stage) t.1 ∙ serving.1))
            (λ (t : (j ≢ id) × (get_elem? s.views j ≡ some u)). h.4 j u t.1 serving) (at_set s.views id j w u there),
      ) in inl out)
      (λ (o : IsOut s). let other : o.1 ≢ id = λ e. idle o.4.0 (ap (λ (x : V). x.stage) (some-injective v o.2 (sym at ∙ (ap (get_elem? s.views) (sym e) ∙ o.3))) ∙ o.4.1) in
      let out : IsOut s' = (o.0, o.1, o.2, set_else s.views id o.1 w other ∙ o.3, o.4) in inr out)
      r.place

  numbers_stay : (s : St) (r : Rule s) (id : ℕ) (w : V) → All (λ (e : C × A). number e.0 < length (set s.views id w)) r.log
  numbers_stay s r id w = subst (λ n. All (λ (e : C × A). number e.0 < n) r.log) (sym (length-set s.views id w)) r.numbers

  -- one entry more is counted, by the seat that is served
  others_count : (s : St) (r : Rule s) (id : ℕ) (v w : V) (e : C × A) → Has s.views id v → r.holder r.serving ≡ id → number e.0 ≡ id → (j : ℕ) (u : V) → j ≢ id → (stage : Stage)
      → Standing r.log s.views r.ticket r.serving r.holder j u stage → Standing (r.log ++ e ∷ []) (set s.views id w) r.ticket r.serving r.holder j u stage
  others_count s r id v w e has mine own j u other Away l = live_stays r.log (r.log ++ e ∷ []) s.views id v w has (e ∷ [], refl) (calls_kept r.log id e own) j u other l
  others_count s r id v w e has mine own j u other (Waiting t) l = (live_stays r.log (r.log ++ e ∷ []) s.views id v w has (e ∷ [], refl) (calls_kept r.log id e own) j u other l.0, l.1, l.2, l.3)
  others_count s r id v w e has mine own j u other (Served b) l = absurd (other (sym l.2 ∙ mine))
  others_count s r id v w e has mine own j u other Spent l = tt

  -- the turn of the seat that is served is over
  others_pass : (s : St) (r : Rule s) (id : ℕ) (v w : V) → Has s.views id v → r.holder r.serving ≡ id → (j : ℕ) (u : V) → j ≢ id → (stage : Stage)
      → Standing r.log s.views r.ticket r.serving r.holder j u stage → Standing r.log (set s.views id w) r.ticket (r.serving + 1) r.holder j u stage
  others_pass s r id v w has mine j u other Away l = live_stays r.log r.log s.views id v w has (begins_all r.log) (grown r.log id) j u other l
  others_pass s r id v w has mine j u other (Waiting t) l = let low : r.serving ≤ t = l.1 in let not : r.serving ≢ t = λ e. other (sym l.3 ∙ (ap r.holder (sym e) ∙ mine)) in
      (live_stays r.log r.log s.views id v w has (begins_all r.log) (grown r.log id) j u other l.0, further r.serving t low not, l.2, l.3)
  others_pass s r id v w has mine j u other (Served b) l = absurd (other (sym l.2 ∙ mine))
  others_pass s r id v w has mine j u other Spent l = tt

  -- where a seat is served, the slot is not at home
  served_out : (s : St) (r : Rule s) (id : ℕ) (v : V) → get_elem? s.views id ≡ some v → IsServing v → s.homes ≡ none ∷ []
  served_out s r id v at serving = ⊎_elim (λ (h : IsHome history setting origin r.log s). absurd (h.4 id v at serving)) (λ (o : IsOut s). o.0) r.place

  -- the words, after a load
  same_words : (s : St) (i : ℕ) (homes : List (maybe.Option (Option S))) (views : List V) → Rule record { words = s.words; homes = homes; views = views } → Rule record { words = set s.words i (get_or s.words i 0); homes = homes; views = views }
  same_words s i homes views = subst (λ (ws : List ℕ). Rule record { words = ws; homes = homes; views = views }) (sym (set-get_or s.words i 0))

  pub draws : (slots id : ℕ) (me : M) → me.0.stage ≡ Away → Allows Rule slots id me 0 (λ n. (n + 1) % 2 ^ 64) (drew (step slots 0 1 0 none) me)
  draws slots id me is s r _ at _ = let has : Has s.views id me.0 = (at, not_spent me.0.stage Away is (omega arith)) in let w : V = waiting r.ticket me.0 in
      let l : IsLive r.log s.views id me.0 = stands_at s r id me.0 Away at is in
      let found : get_or s.words 0 0 ≡ r.ticket % 2 ^ 64 = ap (λ ws. get_or ws 0 0) r.words in
      let tickets = tickets_set s.views id me.0 w at in let none_yet : tickets_of me.0.stage ≡ 0 = ap tickets_of is in let was = r.out in (
        w,
        keeps,
        tt,
        record {
          log = r.log;
          ticket = r.ticket + 1;
          serving = r.serving;
          holder = put r.holder r.ticket id;
          words = ap (λ ws. set ws 0 ((get_or ws 0 0 + 1) % 2 ^ 64)) r.words ∙ ap (λ (n : ℕ). n ∷ (r.serving % 2 ^ 64) ∷ (length r.log % 2 ^ 64) ∷ []) (wraps r.ticket);
          out = omega arith;
          few = (subst (λ n. n ≤ seats) (sym (length-set s.views id w)) r.few.0, r.few.1);
          each = each_after r.log (set s.views id w) (r.ticket + 1) r.serving (put r.holder r.ticket id) s.views id w
              (live_goes r.log r.log s.views id me.0 (Waiting r.ticket) me.0.kept me.0.seen me.0.mine me.0.looks has (begins_all r.log) (grown r.log id) l l.seen l.mine, omega arith, omega arith, put_here r.holder r.ticket id)
              (λ j u other there. others_draw s r id me.0 w has j u other u.stage (r.each j u there));
          place = place_stays s r id me.0 w at (λ b. not_served me.0.stage Away b is (omega arith)) (λ b. not_served w.stage (Waiting r.ticket) b refl (omega arith)) (set s.words 0 ((get_or s.words 0 0 + 1) % 2 ^ 64));
          legal = r.legal;
          numbers = numbers_stay s r id w;
        },
        (r.ticket, found, refl),
      )

  -- the state is at home where the seat's ticket is the one that is served
  home_at_turn : (s : St) (r : Rule s) (id : ℕ) (v : V) (t : ℕ) → get_elem? s.views id ≡ some v → v.stage ≡ Waiting t → r.serving ≡ t → r.holder t ≡ id → IsHome history setting origin r.log s
  home_at_turn s r id v t at is now mine = ⊎_elim (λ (h : IsHome history setting origin r.log s). h)
      (λ (o : IsOut s). let k = stands_at s r o.1 o.2 (Served o.4.0) o.3 o.4.1 in let same : o.1 ≡ id = sym k.2 ∙ (ap r.holder now ∙ mine) in
      let is' : o.2.stage ≡ v.stage = ap (λ (x : V). x.stage) (some-injective o.2 v (sym o.3 ∙ (ap (get_elem? s.views) same ∙ at))) in
      absurd (not_served v.stage (Waiting t) o.4.0 is (omega arith) (sym is' ∙ o.4.1)))
      r.place

  looks_here : (slots id : ℕ) (me : M) (t : ℕ) → me.0.stage ≡ Waiting t → (s : St) (r : Rule s) → get_elem? s.views id ≡ some me.0 → get_or s.words 1 0 ≡ t % 2 ^ 64
      → (w : V) × (a : Act (Option S)) × Rattle.atomic_table.specs.Table.Valid s.homes me.1 a × Rule (stepped s 1 (get_or s.words 1 0) id me.1 w a)
      × looked history setting lawful (step slots 1 0 0 none) me (get_or s.words 1 0) (w, Rattle.atomic_table.specs.Table.carried_after me.1 a)
  looks_here slots id me t is s r at hit = let has : Has s.views id me.0 = (at, not_spent me.0.stage (Waiting t) is (omega arith)) in
      let k = stands_at s r id me.0 (Waiting t) at is in let l = k.0 in let low : r.serving ≤ t = k.1 in let high : t < r.ticket = k.2 in
      let few₀ = r.few.0 in let few₁ = r.few.1 in let some_out = tickets_few s.views in let out = r.out in
      let now : r.serving ≡ t = one_turn r.serving t (2 ^ 64) low (omega arith) (sym (ap (λ ws. get_or ws 1 0) r.words) ∙ hit) in
      let h = home_at_turn s r id me.0 t at is now k.3 in let x : S = h.0 in let w : V = served (history x) me.0 in
      let one = tickets_of me.0.stage in let was : tickets_of me.0.stage ≡ 1 = ap tickets_of is in let tickets = tickets_set s.views id me.0 w at in (
        w,
        takes 0 (Some x),
        ap (λ hs. get_elem? hs 0) h.1,
        same_words s 1 (set s.homes 0 none) (set s.views id w) record {
          log = r.log;
          ticket = r.ticket;
          serving = r.serving;
          holder = r.holder;
          words = r.words;
          out = omega arith;
          few = (subst (λ n. n ≤ seats) (sym (length-set s.views id w)) r.few.0, r.few.1);
          each = each_after r.log (set s.views id w) r.ticket r.serving r.holder s.views id w
              (live_goes r.log r.log s.views id me.0 (Served false) (history x) me.0.seen me.0.mine me.0.looks has (begins_all r.log) (grown r.log id) l l.seen l.mine, omega arith, ap r.holder now ∙ k.3, h.3, (λ e. absurd (falsehood e)))
              (λ j u other there. others_same s r id me.0 w has j u other u.stage (r.each j u there));
          place = inr (ap (λ hs. set hs 0 none) h.1, id, w, put_there s.views id me.0 w at, (false, refl));
          legal = r.legal;
          numbers = numbers_stay s r id w;
        },
        (λ t' is'. let same : t' ≡ t = ap (ticket_or 0) (sym is' ∙ is) in (
          (λ _. (x, refl, (λ o opened. h.2 ∙ ap setting (ap (state_or origin) (sym l.opened ∙ opened))), subst (λ (y : G × Log). lawful y.0 y.1) (λ i. (sym h.2 i, sym h.3 i)) r.legal)),
          (λ miss. absurd (miss (hit ∙ ap (λ n. n % 2 ^ 64) (sym same)))),
        )),
      )

  looks_away : (slots id : ℕ) (me : M) (t : ℕ) → me.0.stage ≡ Waiting t → (s : St) (r : Rule s) → get_elem? s.views id ≡ some me.0 → get_or s.words 1 0 ≢ t % 2 ^ 64
      → (w : V) × (a : Act (Option S)) × Rattle.atomic_table.specs.Table.Valid s.homes me.1 a × Rule (stepped s 1 (get_or s.words 1 0) id me.1 w a)
      × looked history setting lawful (step slots 1 0 0 none) me (get_or s.words 1 0) (w, Rattle.atomic_table.specs.Table.carried_after me.1 a)
  looks_away slots id me t is s r at miss = (
    me.0,
    keeps,
    tt,
    same_words s 1 s.homes (set s.views id me.0) (subst (λ (vs : List V). Rule record { words = s.words; homes = s.homes; views = vs }) (sym (set_again s.views id me.0 at)) r),
    (λ t' is'. let same : t' ≡ t = ap (ticket_or 0) (sym is' ∙ is) in ((λ hit. absurd (miss (hit ∙ ap (λ n. n % 2 ^ 64) same))), (λ _. refl))),
  )

  pub looks : (slots id : ℕ) (me : M) (t : ℕ) → me.0.stage ≡ Waiting t → Allows Rule slots id me 1 (λ n. n) (looked history setting lawful (step slots 1 0 0 none) me)
  looks slots id me t is s r _ at _ = dite (ℕ_discrete (get_or s.words 1 0) (t % 2 ^ 64)) (looks_here slots id me t is s r at) (looks_away slots id me t is s r at)

  pub learns : (slots id : ℕ) (me : M) (b : Bool) → me.0.stage ≡ Served b → Allows Rule slots id me 2 (λ n. n) (learned history number (step slots 2 0 0 none) me)
  learns slots id me b is s r _ at _ = let has : Has s.views id me.0 = (at, not_spent me.0.stage (Served b) is (omega arith)) in
      let k = stands_at s r id me.0 (Served b) at is in let l = k.0 in let w : V = informed r.log me.0 in
      let was : tickets_of me.0.stage ≡ 1 = ap tickets_of is in let tickets = tickets_set s.views id me.0 w at in let out = r.out in (
        w,
        keeps,
        tt,
        same_words s 2 s.homes (set s.views id w) record {
          log = r.log;
          ticket = r.ticket;
          serving = r.serving;
          holder = r.holder;
          words = r.words;
          out = omega arith;
          few = (subst (λ n. n ≤ seats) (sym (length-set s.views id w)) r.few.0, r.few.1);
          each = each_after r.log (set s.views id w) r.ticket r.serving r.holder s.views id w
              (live_goes r.log r.log s.views id me.0 (Served true) me.0.kept r.log me.0.mine (me.0.looks + 1) has (begins_all r.log) (grown r.log id) l (begins_all r.log) l.mine, k.1, k.2, k.3, (λ e. refl))
              (λ j u other there. others_same s r id me.0 w has j u other u.stage (r.each j u there));
          place = inr (served_out s r id me.0 at (b, is), id, w, put_there s.views id me.0 w at, (true, refl));
          legal = r.legal;
          numbers = numbers_stay s r id w;
        },
        (λ o opened. let same : origin ≡ o = ap (state_or origin) (sym l.opened ∙ opened) in
            (r.log, (k.3 ∙ ap (λ x. history x ++ r.log) same, l.seen, ap (λ n. calls_of number n r.log) l.named ∙ l.mine), refl)),
      )

  pub counts : (slots id : ℕ) (me : M) (b : Bool) (x : S) (e : C × A) → me.0.stage ≡ Served b → me.1 ≡ (0, Some x) ∷ [] → history x ≡ me.0.kept ++ e ∷ [] → lawful (setting x) (history x)
      → ((o : S) → me.0.opening ≡ Some o → setting x ≡ setting o) → number e.0 ≡ me.0.number → Allows Rule slots id me 2 (λ n. (n + 1) % 2 ^ 64) (counted history number (step slots 2 1 0 none) me)
  counts slots id me b x e is carried longer legal ruled own s r _ at _ = let has : Has s.views id me.0 = (at, not_spent me.0.stage (Served b) is (omega arith)) in
      let k = stands_at s r id me.0 (Served b) at is in let l = k.0 in let w : V = counting r.log e me.0 in let log' : Log = r.log ++ e ∷ [] in
      let mine : number e.0 ≡ id = own ∙ l.named in let whole : me.0.kept ++ e ∷ [] ≡ history origin ++ log' = ap (λ h. h ++ e ∷ []) k.3 ∙ append_assoc (history origin) r.log (e ∷ []) in
      let low : id < length s.views = at_below s.views id me.0 at in
      let was : tickets_of me.0.stage ≡ 1 = ap tickets_of is in let tickets = tickets_set s.views id me.0 w at in let out = r.out in
      let added : calls_of number id log' ≡ me.0.mine ++ e ∷ [] = calls_more number id r.log (e ∷ []) ∙ (λ i. l.mine i ++ calls_one number id e mine i) in
      let longer_log : length log' ≡ length r.log + 1 = length-append r.log (e ∷ []) in (
        w,
        keeps,
        tt,
        record {
          log = log';
          ticket = r.ticket;
          serving = r.serving;
          holder = r.holder;
          words = ap (λ ws. set ws 2 ((get_or ws 2 0 + 1) % 2 ^ 64)) r.words
              ∙ ap (λ (n : ℕ). (r.ticket % 2 ^ 64) ∷ (r.serving % 2 ^ 64) ∷ n ∷ []) (wraps (length r.log) ∙ ap (λ n. n % 2 ^ 64) (sym longer_log));
          out = omega arith;
          few = (subst (λ n. n ≤ seats) (sym (length-set s.views id w)) r.few.0, r.few.1);
          each = each_after log' (set s.views id w) r.ticket r.serving r.holder s.views id w
              (live_goes r.log log' s.views id me.0 (Served true) (me.0.kept ++ e ∷ []) log' (me.0.mine ++ e ∷ []) me.0.looks has (e ∷ [], refl) (calls_kept r.log id e mine) l (begins_all log') added, k.1, k.2, whole, (λ _. refl))
              (λ j u other there. others_count s r id me.0 w e has k.2 mine j u other u.stage (r.each j u there));
          place = inr (served_out s r id me.0 at (b, is), id, w, put_there s.views id me.0 w at, (true, refl));
          legal = subst (λ (y : G × Log). lawful y.0 y.1) (λ i. (ruled origin l.opened i, (longer ∙ whole) i)) legal;
          numbers = subst (λ n. All (λ (e : C × A). number e.0 < n) log') (sym (length-set s.views id w)) (All-push (λ (y : C × A). number y.0 < length s.views) r.log e r.numbers (subst (λ n. n < length s.views) (sym mine) low));
        },
        (λ o y f opened holds grew. let same : origin ≡ o = ap (state_or origin) (sym l.opened ∙ opened) in let z : x ≡ y = held x y me.1 carried holds in
            let last : e ≡ f = snoc_last me.0.kept e f (sym longer ∙ (ap history z ∙ grew)) in
            (r.log, (k.3 ∙ ap (λ x. history x ++ r.log) same, l.seen, ap (λ n. calls_of number n r.log) l.named ∙ l.mine), ap (λ (g : C × A). let m : M = (counting r.log g me.0, me.1) in m) last)),
      )

  pub passes : (slots id : ℕ) (me : M) (b : Bool) (x : S) → me.0.stage ≡ Served b → me.1 ≡ (0, Some x) ∷ [] → history x ≡ me.0.kept → ((o : S) → me.0.opening ≡ Some o → setting x ≡ setting o)
      → Allows Rule slots id me 1 (λ n. (n + 1) % 2 ^ 64) (passed (step slots 1 1 0 none) me)
  passes slots id me b x is carried kept ruled s r _ at _ = let has : Has s.views id me.0 = (at, not_spent me.0.stage (Served b) is (omega arith)) in
      let k = stands_at s r id me.0 (Served b) at is in let l = k.0 in let w : V = leaving me.0 in
      let was : tickets_of me.0.stage ≡ 1 = ap tickets_of is in let tickets = tickets_set s.views id me.0 w at in let out = r.out in let low : r.serving < r.ticket = k.1 in
      let homes' : List (maybe.Option (Option S)) = put_back s.homes me.1 in
      let back : homes' ≡ some (Some x) ∷ [] = ap (put_back s.homes) carried ∙ ap (λ hs. set hs 0 (some (Some x))) (served_out s r id me.0 at (b, is)) in
      let s' : St = record { words = set s.words 1 ((get_or s.words 1 0 + 1) % 2 ^ 64); homes = homes'; views = set s.views id w } in
      let nobody : (j : ℕ) (u : V) → get_elem? (set s.views id w) j ≡ some u → ¬ IsServing u = λ j u there serving. ⊎_elim
      (λ (t : (j ≡ id) × (w ≡ u)). not_served u.stage Away serving.0 (sym (ap (λ (y : V). y.stage) t.1)) (omega arith) serving.1)
      (λ (t : (j ≢ id) × (get_elem? s.views j ≡ some u)). t.0 (sym (stands_at s r j u (Served serving.0) t.1 serving.1).2 ∙ k.2)) (at_set s.views id j w u there) in
      let home : IsHome history setting origin r.log s' = (x, back, ruled origin l.opened, kept ∙ k.3, nobody) in (
        w,
        gives,
        tt,
        record {
          log = r.log;
          ticket = r.ticket;
          serving = r.serving + 1;
          holder = r.holder;
          words = ap (λ ws. set ws 1 ((get_or ws 1 0 + 1) % 2 ^ 64)) r.words ∙ ap (λ (n : ℕ). (r.ticket % 2 ^ 64) ∷ n ∷ (length r.log % 2 ^ 64) ∷ []) (wraps r.serving);
          out = omega arith;
          few = (subst (λ n. n ≤ seats) (sym (length-set s.views id w)) r.few.0, r.few.1);
          each = each_after r.log (set s.views id w) r.ticket (r.serving + 1) r.holder s.views id w
              (live_goes r.log r.log s.views id me.0 Away me.0.kept me.0.seen me.0.mine me.0.looks has (begins_all r.log) (grown r.log id) l l.seen l.mine)
              (λ j u other there. others_pass s r id me.0 w has k.2 j u other u.stage (r.each j u there));
          place = inl home;
          legal = r.legal;
          numbers = numbers_stay s r id w;
        },
        ap (λ c. let m : M = (w, rest c) in m) carried,
      )

  -- where the words stay, a seat that is live stays where it stands
  others_split : (s : St) (r : Rule s) (views' : List V) (j : ℕ) (u : V) → (IsLive r.log s.views j u → IsLive r.log views' j u) → (stage : Stage)
      → Standing r.log s.views r.ticket r.serving r.holder j u stage → Standing r.log views' r.ticket r.serving r.holder j u stage
  others_split s r views' j u live Away l = live l
  others_split s r views' j u live (Waiting t) l = (live l.0, l.1, l.2, l.3)
  others_split s r views' j u live (Served b) l = (live l.0, l.1, l.2, l.3, l.4)
  others_split s r views' j u live Spent l = tt

  pub splits : (id : ℕ) (v : V) → v.stage ≡ Away → v.number ≡ 0 → v.made < seats → Splits Rule id v (with_one_more v) (newcomer v)
  splits id v is first low s r at = let has : Has s.views id v = (at, not_spent v.stage Away is (omega arith)) in let l : IsLive r.log s.views id v = stands_at s r id v Away at is in
      let w : V = with_one_more v in let n : V = newcomer v in let vs : List V = set s.views id w in let vs' : List V = vs ++ n ∷ [] in
      let here : id ≡ 0 = sym l.named ∙ first in let made : v.made ≡ length s.views = l.made here in let wide : length vs' ≡ length s.views + 1 = length-append vs (n ∷ []) ∙ ap (λ k. k + 1) (length-set s.views id w) in
      let was : tickets_of v.stage ≡ 0 = ap tickets_of is in let tickets = tickets_set s.views id v w at in let tickets' = tickets_append vs n in let out = r.out in
      let taken : (m : Member C A) → IsTakenIn number origin r.log s.views m → IsTakenIn number origin r.log vs' m = λ m t. let t' = taken_stays r.log r.log s.views id v w has (begins_all r.log) (grown r.log id) m t in (at_longer vs (n ∷ []) m.number spent t'.0, t'.1, t'.2) in
      let live : (j : ℕ) (u : V) → j ≢ id → IsLive r.log s.views j u → IsLive r.log vs' j u = λ j u other k. record {
        named = k.named;
        opened = k.opened;
        seen = k.seen;
        mine = k.mine;
        made = λ z. absurd (other (z ∙ sym here));
        joined = All-weaker (IsTakenIn number origin r.log s.views) (IsTakenIn number origin r.log vs') taken u.joined k.joined;
        apart = k.apart;
      } in
      let mine : IsLive r.log vs' id w = record {
        named = l.named;
        opened = l.opened;
        seen = l.seen;
        mine = l.mine;
        made = λ z. ap (λ k. k + 1) made ∙ sym wide;
        joined = All-weaker (IsTakenIn number origin r.log s.views) (IsTakenIn number origin r.log vs') taken v.joined l.joined;
        apart = l.apart;
      } in
      let new : (j : ℕ) → j ≡ length s.views → IsLive r.log vs' j n = λ j e. record {
        named = made ∙ sym e;
        opened = l.opened;
        seen = l.seen;
        mine = calls_none number (length s.views) j r.log r.numbers (subst (λ k. length s.views ≤ k) (sym e) (omega arith));
        made = λ z. let low' : id < length s.views = at_below s.views id v at in absurd (omega arith);
        joined = All-nil (IsTakenIn number origin r.log vs');
        apart = none_apart;
      } in
      let s' : St = record { words = s.words; homes = s.homes; views = vs' } in record {
        log = r.log;
        ticket = r.ticket;
        serving = r.serving;
        holder = r.holder;
        words = r.words;
        out = omega arith;
        few = (let low' : v.made < seats = low in omega arith, r.few.1);
        each = λ j u there. ⊎_elim
            (λ (t : get_elem? vs j ≡ some u). each_after r.log vs' r.ticket r.serving r.holder s.views id w (subst (Standing r.log vs' r.ticket r.serving r.holder id w) (sym is) mine)
            (λ i x other t'. others_split s r vs' i x (live i x other) x.stage (r.each i x t')) j u t)
            (λ (t : (j ≡ length vs) × (n ≡ u)). subst (λ (x : V). Standing r.log vs' r.ticket r.serving r.holder j x x.stage) t.1 (new j (t.0 ∙ length-set s.views id w)))
            (at_end vs n u j there);
        place = ⊎_elim
            (λ (h : IsHome history setting origin r.log s). let home : IsHome history setting origin r.log s' = (
              h.0,
              h.1,
              h.2,
              h.3,
              λ j u there serving. ⊎_elim
                  (λ (t : get_elem? vs j ≡ some u). ⊎_elim
                  (λ (t' : (j ≡ id) × (w ≡ u)). not_served u.stage Away serving.0 (sym (ap (λ (x : V). x.stage) t'.1) ∙ is) (omega arith) serving.1)
                  (λ (t' : (j ≢ id) × (get_elem? s.views j ≡ some u)). h.4 j u t'.1 serving) (at_set s.views id j w u t))
                  (λ (t : (j ≡ length vs) × (n ≡ u)). not_served u.stage Away serving.0 (sym (ap (λ (x : V). x.stage) t.1)) (omega arith) serving.1)
                  (at_end vs n u j there),
            ) in inl home)
            (λ (o : IsOut s). let other : o.1 ≢ id = λ e. not_served v.stage Away o.4.0 is (omega arith) (ap (λ (x : V). x.stage) (some-injective v o.2 (sym at ∙ (ap (get_elem? s.views) (sym e) ∙ o.3))) ∙ o.4.1) in
            let away : IsOut s' = (o.0, o.1, o.2, at_longer vs (n ∷ []) o.1 o.2 (set_else s.views id o.1 w other ∙ o.3), o.4) in inr away)
            r.place;
        legal = r.legal;
        numbers = All-weaker (λ (e : C × A). number e.0 < length s.views) (λ (e : C × A). number e.0 < length vs') (λ e low'. omega arith) r.log r.numbers;
      }

  pub joins : (id : ℕ) (v : V) (other : ℕ) (w : V) → v.stage ≡ Away → w.stage ≡ Away → Joins Rule id v other w (taking_in v w) spent
  joins id v other w is is' s r at apart there = let both : V = taking_in v w in let vs : List V = set s.views id both in let vs' : List V = set vs other spent in
      let at' : get_elem? s.views other ≡ some w = sym (set_else s.views id other both apart) ∙ there in
      let l : IsLive r.log s.views id v = stands_at s r id v Away at is in let k : IsLive r.log s.views other w = stands_at s r other w Away at' is' in
      let wide : length vs' ≡ length s.views = length-set vs other spent ∙ length-set s.views id both in
      let was : tickets_of v.stage ≡ 0 = ap tickets_of is in let was' : tickets_of w.stage ≡ 0 = ap tickets_of is' in
      let tickets = tickets_set s.views id v both at in let tickets' = tickets_set vs other w spent there in let out = r.out in
      let alive : (m : Member C A) → IsTakenIn number origin r.log s.views m → (i : ℕ) (u : V) → get_elem? s.views i ≡ some u → u.stage ≡ Away → m.number ≢ i = λ m t i u a idle e.
      not_spent u.stage Away idle (omega arith) (ap (λ (x : V). x.stage) (some-injective u spent (sym a ∙ (ap (get_elem? s.views) (sym e) ∙ t.0)))) in
      let taken : (m : Member C A) → IsTakenIn number origin r.log s.views m → IsTakenIn number origin r.log vs' m = λ m t.
      (set_else vs other m.number spent (alive m t other w at' is') ∙ (set_else s.views id m.number both (alive m t id v at is) ∙ t.0), t.1, t.2) in
      let more : IsTakenIn number origin r.log vs' (member w) = (ap (get_elem? vs') k.named ∙ put_there vs other w spent there, k.seen, ap (λ n. calls_of number n r.log) k.named ∙ k.mine) in
      let mine : IsLive r.log vs' id both = record {
        named = l.named;
        opened = l.opened;
        seen = l.seen;
        mine = l.mine;
        made = λ z. l.made z ∙ sym wide;
        joined = All-cons (IsTakenIn number origin r.log vs') (member w) v.joined more (All-weaker (IsTakenIn number origin r.log s.views) (IsTakenIn number origin r.log vs') taken v.joined l.joined);
        apart = one_apart w.number v.joined (All-weaker (IsTakenIn number origin r.log s.views) (λ (m : Member C A). m.number ≢ w.number) (λ m t e. alive m t other w at' is' (e ∙ k.named)) v.joined l.joined) l.apart;
      } in
      let live : (j : ℕ) (u : V) → IsLive r.log s.views j u → IsLive r.log vs' j u = λ j u h. record {
        named = h.named;
        opened = h.opened;
        seen = h.seen;
        mine = h.mine;
        made = λ z. h.made z ∙ sym wide;
        joined = All-weaker (IsTakenIn number origin r.log s.views) (IsTakenIn number origin r.log vs') taken u.joined h.joined;
        apart = h.apart;
      } in
      let s' : St = record { words = s.words; homes = s.homes; views = vs' } in record {
        log = r.log;
        ticket = r.ticket;
        serving = r.serving;
        holder = r.holder;
        words = r.words;
        out = omega arith;
        few = (subst (λ n. n ≤ seats) (sym wide) r.few.0, r.few.1);
        each = λ j u here. each_after r.log vs' r.ticket r.serving r.holder vs other spent tt
            (λ i x not_other t. each_after r.log vs' r.ticket r.serving r.holder s.views id both (subst (Standing r.log vs' r.ticket r.serving r.holder id both) (sym is) mine)
            (λ i' x' not_id t'. others_split s r vs' i' x' (live i' x') x'.stage (r.each i' x' t')) i x t)
            j u here;
        place = ⊎_elim
            (λ (h : IsHome history setting origin r.log s). let home : IsHome history setting origin r.log s' = (
              h.0,
              h.1,
              h.2,
              h.3,
              λ j u here serving. ⊎_elim
                  (λ (t : (j ≡ other) × (spent ≡ u)). let c : 3 ≡ stage_code u.stage = ap (λ (x : V). stage_code x.stage) t.1 in let c' : stage_code u.stage ≡ 2 = ap stage_code serving.1 in absurd (omega arith))
                  (λ (t : (j ≢ other) × (get_elem? vs j ≡ some u)). ⊎_elim
                  (λ (t' : (j ≡ id) × (both ≡ u)). not_served u.stage Away serving.0 (sym (ap (λ (x : V). x.stage) t'.1) ∙ is) (omega arith) serving.1)
                  (λ (t' : (j ≢ id) × (get_elem? s.views j ≡ some u)). h.4 j u t'.1 serving) (at_set s.views id j both u t.1))
                  (at_set vs other j spent u here),
            ) in inl home)
            (λ (o : IsOut s). let not_at : (i : ℕ) (x : V) → get_elem? s.views i ≡ some x → x.stage ≡ Away → o.1 ≢ i = λ i x a idle e.
            not_served x.stage Away o.4.0 idle (omega arith) (ap (λ (y : V). y.stage) (some-injective x o.2 (sym a ∙ (ap (get_elem? s.views) (sym e) ∙ o.3))) ∙ o.4.1) in
            let away : IsOut s' = (o.0, o.1, o.2, set_else vs other o.1 spent (not_at other w at' is') ∙ (set_else s.views id o.1 both (not_at id v at is) ∙ o.3), o.4) in inr away)
            r.place;
        legal = r.legal;
        numbers = subst (λ n. All (λ (e : C × A). number e.0 < n) r.log) (sym wide) r.numbers;
      }

  pub starts : lawful (setting origin) (history origin) → 0 < seats → seats < 2 ^ 32 → Rule (opening (0 ∷ 0 ∷ 0 ∷ []) (Some origin ∷ []) (first_view origin))
  starts legal some_seat few = let v : V = first_view origin in let s : St = opening (0 ∷ 0 ∷ 0 ∷ []) (Some origin ∷ []) v in
      let alone : (j : ℕ) (u : V) → get_elem? (v ∷ []) j ≡ some u → (j ≡ 0) × (v ≡ u) = λ j u at. only_one v j u at in
      let home : IsHome history setting origin [] s = (origin, refl, refl, sym (append-nil (history origin)), λ j u at serving. not_served u.stage Away serving.0 (sym (ap (λ (x : V). x.stage) (alone j u at).1)) (omega arith) serving.1) in record {
        log = [];
        ticket = 0;
        serving = 0;
        holder = λ _. 0;
        words = refl;
        out = omega arith;
        few = (omega arith, few);
        each = λ j u at. let a = alone j u at in let mine : IsLive [] (v ∷ []) 0 v = record {
          named = refl;
          opened = refl;
          seen = ([], refl);
          mine = refl;
          made = λ _. refl;
          joined = All-nil (IsTakenIn number origin [] (v ∷ []));
          apart = none_apart;
        } in subst (λ (x : ℕ × V). Standing [] (v ∷ []) 0 0 (λ _. 0) x.0 x.1 x.1.stage) (λ i. (sym a.0 i, a.1 i)) mine;
        place = inl home;
        legal = subst (lawful (setting origin)) (sym (append-nil (history origin))) legal;
        numbers = All-nil (λ (e : C × A). number e.0 < 1);
      }

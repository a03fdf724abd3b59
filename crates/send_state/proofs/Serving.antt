-- The parts stand on where a thread runs what it has ready.
use Rattle.std.proofs.Common.{◌≡◌, ◌≢◌, ℕ, zero, suc, ◌+◌, ◌-◌, ◌<◌, ◌≤◌, Bool, true, false, not, cond, eqb, List, [], ◌∷◌, ◌++◌, length, get_or, set, drop, map as each, Some, None, refl, ap, ◌∙◌, sym, subst, inl, inr, arith}
use Rattle.std.specs.Prelude.{◌&&◌, find, filter, option_map}
use Rattle.std.specs.List.{AllByRecursion, slice_get}
use Rattle.std.proofs.lemmas.Bool.Decides.{eqb_tells, nat_tests}
use Rattle.std.proofs.lemmas.List.{append-nil, get_or-set_same, get_or-set_other, length-set}
use Rattle.win_num.specs.declared.send.Cause.TheVariants.{Proc, Reply as ByReply, Loss, Timeout as ByTimeout}
use Rattle.user_model.specs.declared.call.Call.{Call}
use Rattle.user_model.specs.declared.call.Call.TheVariants.{Leave, Reply, Await}
use Rattle.user_model.specs.declared.entry.Entry.{Entry}
use Rattle.user_model.specs.declared.entry.Setup.{Setup}
use Rattle.user_model.specs.Past.{Past, first, is_refused, place_after}
use Rattle.user_model.specs.Places.{is_end}
use Rattle.user_model.specs.Stacks.{top}
use Rattle.user_model.specs.Sends.{answers, answers_in, is_entered_frame, is_one, is_timed_out, left_by, outcome, send, sends}
use Rattle.user_model.specs.Ready.{ReadyMsg, departs, ready, ready_head}
use Rattle.user_model.proofs.ListLaws.{filter_all, all_weaker}
use Rattle.user_model.proofs.SendLaws.{is_sent, makes_none, ready-next, sends-same}
use Rattle.send_variants.specs.Lists.{AreBelow, Entry as Item, count_in, count_on, list_of, named_by as send_of, names}
use Rattle.send_variants.proofs.Entries.{count-total, sound-take}
use Rattle.send_state.specs.Parts.{SendParts, head_of, rank, without_head}
use Rattle.send_state.specs.Standing.{IsOurs, ListsStand, PartsStand, item, item_as, ready_as}
use Rattle.send_state.proofs.Still.{arrives-none, is_drop, loses-none}
use Rattle.send_state.proofs.StandStill.{below_next}

-- ---- an entry that makes, answers and ends nothing

pub record IsQuiet (e : Entry) (past : Past) : Type 0 where
  pub right : is_refused e ≡ false
  pub makes : is_sent e.answer ≡ false
  pub running : is_end e.answer ≡ false
  pub tells : (s : ℕ) → answers e past s ≡ None

-- the answer in a call that neither leaves, replies nor gives up
pub answers_in-none : (call : Call) (e : Entry) (past : Past) (s : ℕ) → left_by e.answer s ≡ false → is_one e.answer ≡ false → is_timed_out e.answer ≡ false → answers_in call e past s ≡ None
answers_in-none (Leave v) e past s l o t = ap (λ b. cond b (Some (outcome past v Proc)) None) l
answers_in-none (Reply v) e past s l o t = ap (λ b. cond (b && is_entered_frame (top past e.who.0) s) (Some (outcome past v ByReply)) None) o
answers_in-none (Await q) e past s l o t = ap (λ b. cond (b && eqb q s) (Some (outcome past 0 ByTimeout)) None) t
answers_in-none _ e past s l o t = refl

pub answers-none : (e : Entry) (past : Past) (s : ℕ) → is_drop e.call ≡ false → is_end e.answer ≡ false → left_by e.answer s ≡ false → is_one e.answer ≡ false → is_timed_out e.answer ≡ false → answers e past s ≡ None
answers-none e past s kept running l o t = ap (λ b. cond b (Some (outcome past 0 Loss)) (answers_in e.call e past s)) (loses-none e past s kept running) ∙ answers_in-none e.call e past s l o t

pub send-quiet : (e : Entry) (past : Past) (s : ℕ) → IsQuiet e past → send (e ∷ past) s ≡ send past s
send-quiet e past s q = ap (λ xs. find (λ x. eqb x.number s) xs) (sends-same e past (makes_none e past q.makes))

pub count-quiet : (e : Entry) (past : Past) → IsQuiet e past → length (sends (e ∷ past)) ≡ length (sends past)
count-quiet e past q = ap length (sends-same e past (makes_none e past q.makes))

-- what is ready of what was ready
pub ready-quiet : (e : Entry) (past : Past) (t : ℕ) → IsQuiet e past → ready (e ∷ past) t ≡ filter (λ r. not (departs t e past r)) (ready past t)
ready-quiet e past t q = ready-next e past t q.right ∙ ap (λ l. filter (λ r. not (departs t e past r)) (ready past t) ++ l) (arrives-none t e past (makes_none e past q.makes) q.tells) ∙ append-nil (filter (λ r. not (departs t e past r)) (ready past t))

-- ---- a send is named once

pub eqb_itself : (n : ℕ) → eqb n n ≡ true
eqb_itself n = grind (arith, nat_tests)

-- the send that a message is about
abbrev pub about : ReadyMsg → ℕ
about r = send_of (ready_as r)

count_some : (s : ℕ) (lists : List (List Item)) (i j : ℕ) → i ≢ j → 1 ≤ count_in s (get_or lists i []) → count_on s lists ≤ 1 → count_in s (get_or lists j []) ≡ 0
count_some s [] i j differ h once = refl
count_some s (es ∷ lists) zero zero differ h once = absurd (differ refl)
count_some s (es ∷ lists) zero (suc j) differ h once = let low = count-total s lists j in omega (arith, low)
count_some s (es ∷ lists) (suc i) zero differ h once = let low = count-total s lists i in omega (arith, low)
count_some s (es ∷ lists) (suc i) (suc j) differ h once = count_some s lists i j (λ e. differ (ap suc e)) h (omega (arith, once))

-- one for a test that passes
abbrev as_count : Bool → ℕ
as_count b = cond b 1 0

-- an entry of no list that names the send
unnamed_head : (b : Bool) (n : ℕ) → cond b 1 0 + n ≡ 0 → (b ≡ false) × (n ≡ 0)
unnamed_head true n e = absurd (omega arith)
unnamed_head false n e = (refl, omega (arith, e))

all_unnamed : (s : ℕ) (es : List Item) (rs : List ReadyMsg) → each item es ≡ each item_as rs → count_in s es ≡ 0 → AllByRecursion (λ r. eqb (about r) s ≡ false) rs
all_unnamed s es [] e none = tt
all_unnamed s [] (r ∷ rs) e none = absurd cc
all_unnamed s (x ∷ es) (r ∷ rs) e none =
    let head : item x ≡ item_as r = cc in
    let rest : each item es ≡ each item_as rs = cc in
    let parts = unnamed_head (names s x) (count_in s es) none in
    (ap (λ a. eqb (send_of a.1) s) (sym head) ∙ parts.0, all_unnamed s es rs rest parts.1)

-- ---- what is first

pub head-stands : (es : List Item) (rs : List ReadyMsg) → each item es ≡ each item_as rs → option_map (λ (e : Item). e.1) (slice_get es 0) ≡ option_map ready_as (first rs)
head-stands [] [] e = refl
head-stands [] (r ∷ rs) e = absurd cc
head-stands (x ∷ es) [] e = absurd cc
head-stands (x ∷ es) (r ∷ rs) e = let head : item x ≡ item_as r = cc in ap (λ a. Some a.1) head

-- the first of a thread's list is the first that it has ready
pub head_of-stands : (setup : Setup) (past : Past) (p : SendParts) (t : ℕ) → IsOurs setup t → PartsStand setup past p → head_of p t ≡ option_map ready_as (ready_head past t)
head_of-stands setup past p t ours h = head-stands (list_of p.lists t) (ready past t) (h.lists.ready t ours)

-- the rest of a list names nobody whom its first names
rest_unnamed : (s : ℕ) (es : List Item) (r : ReadyMsg) (rs : List ReadyMsg) → each item es ≡ item_as r ∷ each item_as rs → eqb (about r) s ≡ true → count_in s es ≤ 1
    → (each item (drop 1 es) ≡ each item_as rs) × AllByRecursion (λ q. eqb (about q) s ≡ false) rs
rest_unnamed s [] r rs e here few = absurd cc
rest_unnamed s (x ∷ es) r rs e here few =
    let head : item x ≡ item_as r = cc in
    let rest : each item es ≡ each item_as rs = cc in
    let named : names s x ≡ true = ap (λ a. eqb (send_of a.1) s) head ∙ here in
    let counted : as_count (names s x) ≡ 1 = ap as_count named in
    let none : count_in s es ≡ 0 = omega (arith, counted, few) in
    (rest, all_unnamed s es rs rest none)

some_named : (s : ℕ) (es : List Item) (r : ReadyMsg) (rs : List ReadyMsg) → each item es ≡ item_as r ∷ each item_as rs → eqb (about r) s ≡ true → 1 ≤ count_in s es
some_named s [] r rs e here = absurd cc
some_named s (x ∷ es) r rs e here =
    let head : item x ≡ item_as r = cc in
    let counted : as_count (names s x) ≡ 1 = ap as_count (ap (λ a. eqb (send_of a.1) s) head ∙ here) in
    omega (arith, counted)

-- ---- what the first leaves

-- all but the first of the thread stay
abbrev pub Leaves : Entry → Past → ReadyMsg → Type 0
Leaves e past r = (departs e.who.0 e past r ≡ true) × ((t : ℕ) (q : ReadyMsg) → eqb (about q) (about r) ≡ false → departs t e past q ≡ false)

below_drop : (n : ℕ) (es : List Item) → AreBelow n es → AreBelow n (drop 1 es)
below_drop n [] b = tt
below_drop n (e ∷ es) b = b.1

split_first : (rs : List ReadyMsg) (r : ReadyMsg) → first rs ≡ Some r → (ts : List ReadyMsg) × (rs ≡ r ∷ ts)
split_first [] r e = absurd cc
split_first (q ∷ ts) r e = (ts, cc)

pub lists-served : (setup : Setup) (e : Entry) (past : Past) (lists : List (List Item)) (r : ReadyMsg) → IsQuiet e past → IsOurs setup e.who.0 → ready_head past e.who.0 ≡ Some r → Leaves e past r
    → ListsStand setup past lists → ListsStand setup (e ∷ past) (without_head lists e.who.0)
lists-served setup e past lists r quiet own is_first leaves h = record {
  threads = length-set lists (e.who.0 - 1) (drop 1 (list_of lists e.who.0)) ∙ h.threads;
  ready = λ t ours. kept t ours ∙ sym (ap (each item_as) (ready-quiet e past t quiet));
  below = λ t. below_next e past (list_of (without_head lists e.who.0) t) (lower t);
  sound = sound-take lists e.who.0 h.sound own.0 (omega (arith, own.1, h.threads));
} where
  within : e.who.0 - 1 < length lists
  within = omega (arith, own.0, own.1, h.threads)

  lower : (t : ℕ) → AreBelow (rank (place_after past) 0) (get_or (set lists (e.who.0 - 1) (drop 1 (list_of lists e.who.0))) (t - 1) [])
  lower t = elim (eqb_tells (e.who.0 - 1) (t - 1)) [
    | inl x ↦ subst (λ n. AreBelow (rank (place_after past) 0) (get_or (set lists (e.who.0 - 1) (drop 1 (list_of lists e.who.0))) n [])) x.1
        (subst (AreBelow (rank (place_after past) 0)) (sym (get_or-set_same lists (e.who.0 - 1) (drop 1 (list_of lists e.who.0)) [] within)) (below_drop (rank (place_after past) 0) (list_of lists e.who.0) (h.below e.who.0)))
    | inr x ↦ let differ : t - 1 ≢ e.who.0 - 1 = λ q. x.1 (sym q) in
        subst (AreBelow (rank (place_after past) 0)) (sym (get_or-set_other lists (e.who.0 - 1) (t - 1) (drop 1 (list_of lists e.who.0)) [] differ)) (h.below t)
  ]

  ts : List ReadyMsg
  ts = (split_first (ready past e.who.0) r is_first).0

  begins : ready past e.who.0 ≡ r ∷ ts
  begins = (split_first (ready past e.who.0) r is_first).1

  once : count_on (about r) lists ≤ 1
  once = h.sound.once (about r)

  few : count_in (about r) (list_of lists e.who.0) ≤ 1
  few = omega (arith, once, count-total (about r) lists (e.who.0 - 1))

  itself : eqb (about r) (about r) ≡ true
  itself = eqb_itself (about r)

  listed : each item (list_of lists e.who.0) ≡ item_as r ∷ each item_as ts
  listed = h.ready e.who.0 own ∙ ap (each item_as) begins

  stay : ℕ → ReadyMsg → Bool
  stay t q = not (departs t e past q)

  own_kept : each item (list_of (without_head lists e.who.0) e.who.0) ≡ each item_as (filter (stay e.who.0) (ready past e.who.0))
  own_kept =
      let rest = rest_unnamed (about r) (list_of lists e.who.0) r ts listed itself few in
      ap (each item) (get_or-set_same lists (e.who.0 - 1) (drop 1 (list_of lists e.who.0)) [] within) ∙ rest.0
      ∙ ap (each item_as) (sym (ap (filter (stay e.who.0)) begins
      ∙ ap (λ b. cond b (r ∷ filter (stay e.who.0) ts) (filter (stay e.who.0) ts)) (ap not leaves.0)
      ∙ filter_all (stay e.who.0) ts (all_weaker (λ q. eqb (about q) (about r) ≡ false) (λ q. stay e.who.0 q ≡ true) (λ q n. ap not (leaves.1 e.who.0 q n)) ts rest.1)))

  other_kept : (t : ℕ) → IsOurs setup t → e.who.0 ≢ t → each item (list_of (without_head lists e.who.0) t) ≡ each item_as (filter (stay t) (ready past t))
  other_kept t ours differ =
      let apart : t - 1 ≢ e.who.0 - 1 = omega (arith, differ, own.0, ours.0) in
      let none = count_some (about r) lists (e.who.0 - 1) (t - 1) (λ q. apart (sym q)) (some_named (about r) (list_of lists e.who.0) r ts listed itself) once in
      let all = all_unnamed (about r) (list_of lists t) (ready past t) (h.ready t ours) none in
      ap (each item) (get_or-set_other lists (e.who.0 - 1) (t - 1) (drop 1 (list_of lists e.who.0)) [] apart) ∙ h.ready t ours
      ∙ ap (each item_as) (sym (filter_all (stay t) (ready past t) (all_weaker (λ q. eqb (about q) (about r) ≡ false) (λ q. stay t q ≡ true) (λ q n. ap not (leaves.1 t q n)) (ready past t) all)))

  kept : (t : ℕ) → IsOurs setup t → each item (list_of (without_head lists e.who.0) t) ≡ each item_as (filter (stay t) (ready past t))
  kept t ours = elim (eqb_tells e.who.0 t) [
    | inl x ↦ subst (λ n. each item (list_of (without_head lists e.who.0) n) ≡ each item_as (filter (stay n) (ready past n))) x.1 own_kept
    | inr x ↦ other_kept t ours x.1
  ]

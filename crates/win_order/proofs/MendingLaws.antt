-- The laws of mending.
use Rattle.std.proofs.Common.{◌≡◌, ◌∙◌, ℕ, zero, suc, ◌+◌, ◌*◌, ◌≤◌, List, [], ◌∷◌, ◌++◌, length, Bool, true, false, not, ◌&&◌, ◌||◌, eqb, ltb, leb, refl, sym, ap, subst, arith, append_assoc, append-nil, length-append}
use Rattle.std.specs.List.{filter, list_all}
use Rattle.std.specs.List.Sorted.{IsPermutation}
use Rattle.std.proofs.lemmas.Bool.{false≢true, eqb-true, eqb-false, eq-eqb, ne_eqb, ltb-true, leb-true, le-leb, not-true}
use Rattle.std.proofs.lemmas.List.Sorted.{IsPermutation-refl, IsPermutation-trans, IsPermutation-append_left, IsPermutation-append_right, IsPermutation-append_comm, IsPermutation-cons, IsPermutation-middle, IsPermutation-filter_both, list_any-IsPermutation}
use Rattle.std.proofs.lemmas.List.Filters.{length-filter_both}
use Rattle.std.proofs.lemmas.List.Folds.{list_any-append, list_all-append}
use Rattle.std.proofs.lemmas.Map.Views.{any-filter_same}
use Rattle.std.proofs.lemmas.List.Elements.{filter-append}
use Rattle.win_order.specs.declared.top_level.TopLevel.{TopLevel}
use Rattle.win_order.specs.Mending.{has, may_follow, owned_by, not_owned_by, rewritten, parted, mended}
use Rattle.win_order.specs.Mended.{is_above_owners, is_parted, IsMended, ordinary, has_older_owner, AreOwned, goes_along, staying}
use Rattle.win_order.proofs.Booleans.{and_left, and_right, and_true, or_rest, or_left_false, or_right_false, or_first, or_second, all_always, all_one, all_both, witness, all_permuted, or_other, keep_first, skip_first, all_kept, all_filtered}
use Rattle.win_order.proofs.Rewriting.{rewritten_done, rewritten_written, rewritten_held}

-- A window is held back, or written with those that it owns coming next: nothing is lost.

-- those that it owns and the others are all that were held
pub split_held : (w : ℕ) (held : List TopLevel) → IsPermutation held (owned_by w held ++ not_owned_by w held)
split_held w held = IsPermutation-filter_both (λ t. eqb t.owner.0 w) (λ t. not (eqb t.owner.0 w)) (λ t. refl) held

-- what is next after a window is written, with what is held
pub after_writing : (t : TopLevel) (held next : List TopLevel) → IsPermutation (held ++ next) (not_owned_by t.window.0 held ++ (owned_by t.window.0 held ++ next))
after_writing t held next =
    let w = t.window.0 in
    let split = IsPermutation-trans _ _ _ (split_held w held) (IsPermutation-append_comm (owned_by w held) (not_owned_by w held)) in
    subst (λ (l : List TopLevel). IsPermutation (held ++ next) l) (append_assoc (not_owned_by w held) (owned_by w held) next) (IsPermutation-append_left next held (not_owned_by w held ++ owned_by w held) split)

-- the written windows stay where they are, and all others come above them
pub written_first : (n : ℕ) (written held next : List TopLevel) → (rest : List TopLevel) × (rewritten n written held next ≡ written ++ rest) × IsPermutation (held ++ next) rest
written_first zero written held next = (held ++ next, append_assoc written held next, IsPermutation-refl (held ++ next))
written_first (suc n) written held [] = (held, refl, subst (λ l. IsPermutation l held) (sym (append-nil held)) (IsPermutation-refl held))
written_first (suc n) written held (t ∷ next) =
    written_first_by n written held next t (may_follow written t) refl (written_first n (written ++ t ∷ []) (not_owned_by t.window.0 held) (owned_by t.window.0 held ++ next)) (written_first n written (held ++ t ∷ []) next)
  where
    written_first_by : (n : ℕ) (written held next : List TopLevel) (t : TopLevel) (b : Bool) → may_follow written t ≡ b → ((rest : List TopLevel) × (rewritten n (written ++ t ∷ []) (not_owned_by t.window.0 held) (owned_by t.window.0 held ++ next) ≡ (written ++ t ∷ []) ++ rest) × IsPermutation (not_owned_by t.window.0 held ++ (owned_by t.window.0 held ++ next)) rest) → ((rest : List TopLevel) × (rewritten n written (held ++ t ∷ []) next ≡ written ++ rest) × IsPermutation ((held ++ t ∷ []) ++ next) rest) → (rest : List TopLevel) × (rewritten (suc n) written held (t ∷ next) ≡ written ++ rest) × IsPermutation (held ++ t ∷ next) rest
    written_first_by n written held next t true free wrote kept =
        (t ∷ wrote.0, sym (rewritten_written n written held next t free) ∙ (wrote.1 ∙ append_assoc written (t ∷ []) wrote.0), IsPermutation-trans _ _ _ (IsPermutation-middle held t next) (IsPermutation-cons t _ _ (IsPermutation-trans _ _ _ (after_writing t held next) wrote.2)))
    written_first_by n written held next t false waits wrote kept =
        (kept.0, sym (rewritten_held n written held next t waits) ∙ kept.1, subst (λ l. IsPermutation l kept.0) (append_assoc held (t ∷ []) next) kept.2)

pub parted_moves : (ts : List TopLevel) → IsPermutation ts (parted ts)
parted_moves ts = IsPermutation-trans _ _ _ (IsPermutation-filter_both (λ t. t.topmost) (λ t. not t.topmost) (λ t. refl) ts) (IsPermutation-append_comm (filter (λ t. t.topmost) ts) (filter (λ t. not t.topmost) ts))

-- mending only moves windows
pub mended_moves : (ts : List TopLevel) → IsPermutation ts (mended ts)
mended_moves ts =
    let all = written_first (2 * length (parted ts)) [] [] (parted ts) in
    IsPermutation-trans _ _ _ (parted_moves ts) (subst (λ l. IsPermutation (parted ts) l) (sym all.1) all.2)

-- A mended list stays as it is.

pub nothing_held : (n : ℕ) (written next : List TopLevel) → length next ≤ n → is_above_owners written next ≡ true → rewritten n written [] next ≡ written ++ next
nothing_held zero written [] le above = append-nil (written ++ [])
nothing_held zero written (t ∷ next) le above = absurd (omega arith)
nothing_held (suc n) written [] le above = refl
nothing_held (suc n) written (t ∷ next) le above = nothing_held_by n written next t (may_follow written t) refl (omega arith) above (nothing_held n (written ++ t ∷ []) next)
  where
    nothing_held_by : (n : ℕ) (written next : List TopLevel) (t : TopLevel) (b : Bool) → may_follow written t ≡ b → length next ≤ n → elim b [ true ↦ is_above_owners (written ++ t ∷ []) next | false ↦ false ] ≡ true → (length next ≤ n → is_above_owners (written ++ t ∷ []) next ≡ true → rewritten n (written ++ t ∷ []) [] next ≡ (written ++ t ∷ []) ++ next) → rewritten (suc n) written [] (t ∷ next) ≡ written ++ t ∷ next
    nothing_held_by n written next t true free le above ih = sym (rewritten_written n written [] next t free) ∙ (ih le above ∙ append_assoc written (t ∷ []) next)
    nothing_held_by n written next t false waits le above ih = absurd (false≢true above)

all_topmost_by : (t : TopLevel) (ts : List TopLevel) → t.topmost ≡ true → (filter (λ v. not v.topmost) ts ≡ []) × (filter (λ v. v.topmost) ts ≡ ts) → (filter (λ v. not v.topmost) (t ∷ ts) ≡ []) × (filter (λ v. v.topmost) (t ∷ ts) ≡ t ∷ ts)
all_topmost_by t ts is ih = (skip_first (λ v. not v.topmost) t ts (ap not is) ∙ ih.0, keep_first (λ v. v.topmost) t ts is ∙ ap (λ l. t ∷ l) ih.1)

all_topmost : (ts : List TopLevel) → list_all (λ t. t.topmost) ts ≡ true → (filter (λ t. not t.topmost) ts ≡ []) × (filter (λ t. t.topmost) ts ≡ ts)
all_topmost [] a = (refl, refl)
all_topmost (t ∷ ts) a = all_topmost_by t ts (and_left t.topmost (list_all (λ v. v.topmost) ts) a) (all_topmost ts (and_right t.topmost (list_all (λ v. v.topmost) ts) a))

parted_stays_by : (t : TopLevel) (ts : List TopLevel) (b : Bool) → t.topmost ≡ b → elim b [ true ↦ list_all (λ v. v.topmost) ts | false ↦ is_parted ts ] ≡ true → (is_parted ts ≡ true → parted ts ≡ ts) → parted (t ∷ ts) ≡ t ∷ ts
parted_stays_by t ts true is a ih = let e = all_topmost_by t ts is (all_topmost ts a) in ap (λ l. l ++ filter (λ v. v.topmost) (t ∷ ts)) e.0 ∙ e.1
parted_stays_by t ts false is a ih =
    let low = keep_first (λ (v : TopLevel). not v.topmost) t ts (ap not is) in
    let high = skip_first (λ (v : TopLevel). v.topmost) t ts is in
    ap (λ l. l ++ filter (λ v. v.topmost) (t ∷ ts)) low ∙ (ap (λ l. (t ∷ filter (λ v. not v.topmost) ts) ++ l) high ∙ ap (λ l. t ∷ l) (ih a))

pub parted_stays : (ts : List TopLevel) → is_parted ts ≡ true → parted ts ≡ ts
parted_stays [] a = refl
parted_stays (t ∷ ts) a = parted_stays_by t ts t.topmost refl a (parted_stays ts)

-- a mended list stays as it is
pub mended_stays : (ts : List TopLevel) → IsMended ts → mended ts ≡ ts
mended_stays ts m =
    ap (λ l. rewritten (2 * length l) [] [] l) (parted_stays ts m.parted) ∙ nothing_held (2 * length ts) [] ts (omega arith) m.above

-- A mended list stays mended without windows that go with all that they own.

above_cons_by : (below ts : List TopLevel) (t : TopLevel) (b : Bool) → b ≡ true → is_above_owners (below ++ t ∷ []) ts ≡ true → elim b [ true ↦ is_above_owners (below ++ t ∷ []) ts | false ↦ false ] ≡ true
above_cons_by below ts t true e above = above
above_cons_by below ts t false e above = e

pub above_cons : (below ts : List TopLevel) (t : TopLevel) → may_follow below t ≡ true → is_above_owners (below ++ t ∷ []) ts ≡ true → is_above_owners below (t ∷ ts) ≡ true
above_cons below ts t free above = above_cons_by below ts t (may_follow below t) free above

above_parts_by : (below ts : List TopLevel) (t : TopLevel) (b : Bool) → elim b [ true ↦ is_above_owners (below ++ t ∷ []) ts | false ↦ false ] ≡ true → (b ≡ true) × (is_above_owners (below ++ t ∷ []) ts ≡ true)
above_parts_by below ts t true above = (refl, above)
above_parts_by below ts t false above = absurd (false≢true above)

pub above_parts : (below ts : List TopLevel) (t : TopLevel) → is_above_owners below (t ∷ ts) ≡ true → (may_follow below t ≡ true) × (is_above_owners (below ++ t ∷ []) ts ≡ true)
above_parts below ts t above = above_parts_by below ts t (may_follow below t) above

kept_owner_by : (gone : ℕ → Bool) (below : List TopLevel) (t : TopLevel) (b : Bool) → gone t.window.0 ≡ false → goes_along gone t ≡ true → (b || has t.owner.0 below) ≡ true → (b || has t.owner.0 (staying gone below)) ≡ true
kept_owner_by gone below t true stays along free = refl
kept_owner_by gone below t false stays along free =
    let owner_stays = or_other (not (gone t.owner.0)) (gone t.window.0) along stays in
    any-filter_same (λ u. eqb u.window.0 t.owner.0) (λ u. not (gone u.window.0)) true (λ u e. ap (λ n. not (gone n)) (eqb-true u.window.0 t.owner.0 e) ∙ owner_stays) below ∙ free

kept_owner : (gone : ℕ → Bool) (below : List TopLevel) (t : TopLevel) → gone t.window.0 ≡ false → goes_along gone t ≡ true → may_follow below t ≡ true → may_follow (staying gone below) t ≡ true
kept_owner gone below t stays along free = kept_owner_by gone below t (eqb t.owner.0 0) stays along free

stays_above_by : (gone : ℕ → Bool) (below : List TopLevel) (t : TopLevel) (ts : List TopLevel) (b : Bool) → gone t.window.0 ≡ b → goes_along gone t ≡ true → may_follow below t ≡ true → is_above_owners (staying gone (below ++ t ∷ [])) (staying gone ts) ≡ true → is_above_owners (staying gone below) (staying gone (t ∷ ts)) ≡ true
stays_above_by gone below t ts true is along free ih =
    let keep = λ (u : TopLevel). not (gone u.window.0) in
    let below_same = filter-append keep below (t ∷ []) ∙ (ap (λ l. staying gone below ++ l) (skip_first keep t [] (ap not is)) ∙ append-nil (staying gone below)) in
    ap (λ l. is_above_owners (staying gone below) l) (skip_first keep t ts (ap not is)) ∙ (ap (λ l. is_above_owners l (staying gone ts)) (sym below_same) ∙ ih)
stays_above_by gone below t ts false is along free ih =
    let keep = λ (u : TopLevel). not (gone u.window.0) in
    let below_more = filter-append keep below (t ∷ []) ∙ ap (λ l. staying gone below ++ l) (keep_first keep t [] (ap not is)) in
    ap (λ l. is_above_owners (staying gone below) l) (keep_first keep t ts (ap not is)) ∙ above_cons (staying gone below) (staying gone ts) t (kept_owner gone below t is along free) (ap (λ l. is_above_owners l (staying gone ts)) (sym below_more) ∙ ih)

stays_above : (gone : ℕ → Bool) (below ts : List TopLevel) → list_all (goes_along gone) ts ≡ true → is_above_owners below ts ≡ true → is_above_owners (staying gone below) (staying gone ts) ≡ true
stays_above gone below [] along above = refl
stays_above gone below (t ∷ ts) along above =
    let parts = above_parts below ts t above in
    stays_above_by gone below t ts (gone t.window.0) refl (and_left (goes_along gone t) (list_all (goes_along gone) ts) along) parts.0 (stays_above gone (below ++ t ∷ []) ts (and_right (goes_along gone t) (list_all (goes_along gone) ts) along) parts.1)

pub parted_cons : (t : TopLevel) (ts : List TopLevel) (b : Bool) → t.topmost ≡ b → (b ≡ true → list_all (λ v. v.topmost) ts ≡ true) → (b ≡ false → is_parted ts ≡ true) → elim b [ true ↦ list_all (λ v. v.topmost) ts | false ↦ is_parted ts ] ≡ true
parted_cons t ts true is high low = high refl
parted_cons t ts false is high low = low refl

all_topmost_parted : (ts : List TopLevel) → list_all (λ t. t.topmost) ts ≡ true → is_parted ts ≡ true
all_topmost_parted [] a = refl
all_topmost_parted (t ∷ ts) a = parted_cons t ts t.topmost refl (λ _. and_right t.topmost (list_all (λ v. v.topmost) ts) a) (λ _. all_topmost_parted ts (and_right t.topmost (list_all (λ v. v.topmost) ts) a))

stays_parted_by : (keep : TopLevel → Bool) (t : TopLevel) (ts : List TopLevel) (b : Bool) → keep t ≡ b → (t.topmost ≡ true → list_all (λ v. v.topmost) (filter keep ts) ≡ true) → is_parted (filter keep ts) ≡ true → is_parted (filter keep (t ∷ ts)) ≡ true
stays_parted_by keep t ts true is high ih = ap is_parted (keep_first keep t ts is) ∙ parted_cons t (filter keep ts) t.topmost refl high (λ _. ih)
stays_parted_by keep t ts false is high ih = ap is_parted (skip_first keep t ts is) ∙ ih

pub parted_tail : (ts : List TopLevel) (b : Bool) → elim b [ true ↦ list_all (λ v. v.topmost) ts | false ↦ is_parted ts ] ≡ true → (b ≡ true → list_all (λ v. v.topmost) ts ≡ true) × (is_parted ts ≡ true)
parted_tail ts true a = (λ _. a, all_topmost_parted ts a)
parted_tail ts false a = (λ e. absurd (false≢true e), a)

stays_parted : (keep : TopLevel → Bool) (ts : List TopLevel) → is_parted ts ≡ true → is_parted (filter keep ts) ≡ true
stays_parted keep [] a = refl
stays_parted keep (t ∷ ts) a =
    let tail = parted_tail ts t.topmost a in
    stays_parted_by keep t ts (keep t) refl (λ e. all_kept (λ v. v.topmost) keep ts (tail.0 e)) (stays_parted keep ts tail.1)

-- a mended list stays mended without windows that go with all that they own
pub staying_mended : (gone : ℕ → Bool) (ts : List TopLevel) → list_all (goes_along gone) ts ≡ true → IsMended ts → IsMended (staying gone ts)
staying_mended gone ts along m = record { parted = stays_parted (λ t. not (gone t.window.0)) ts m.parted; above = stays_above gone [] ts along m.above }

-- Owned windows above their owners: the front of what is next is written or held, and what is held waits for an owner.

pub has_end : (o : ℕ) (written : List TopLevel) (t : TopLevel) → has o (written ++ t ∷ []) ≡ (has o written || (eqb t.window.0 o || false))
has_end o written t = list_any-append (λ u. eqb u.window.0 o) written (t ∷ [])

follows_more : (written : List TopLevel) (t u : TopLevel) → may_follow written u ≡ true → may_follow (written ++ t ∷ []) u ≡ true
follows_more written t u free = follows_more_by written t u (eqb u.owner.0 0) free
  where
    follows_more_by : (written : List TopLevel) (t u : TopLevel) (b : Bool) → (b || has u.owner.0 written) ≡ true → (b || has u.owner.0 (written ++ t ∷ [])) ≡ true
    follows_more_by written t u true free = refl
    follows_more_by written t u false free = has_end u.owner.0 written t ∙ or_first (has u.owner.0 written) (eqb t.window.0 u.owner.0 || false) free

follows_owner : (written : List TopLevel) (t u : TopLevel) → eqb u.owner.0 t.window.0 ≡ true → may_follow (written ++ t ∷ []) u ≡ true
follows_owner written t u owned =
    or_second (eqb u.owner.0 0) (has u.owner.0 (written ++ t ∷ [])) (has_end u.owner.0 written t ∙ or_second (has u.owner.0 written) (eqb t.window.0 u.owner.0 || false) (or_first (eqb t.window.0 u.owner.0) false (eq-eqb t.window.0 u.owner.0 (sym (eqb-true u.owner.0 t.window.0 owned)))))

still_waits : (written : List TopLevel) (t u : TopLevel) → not (eqb u.owner.0 t.window.0) ≡ true → not (may_follow written u) ≡ true → not (may_follow (written ++ t ∷ []) u) ≡ true
still_waits written t u other waits =
    let no = not-true (may_follow written u) waits in
    let some = or_left_false (eqb u.owner.0 0) (has u.owner.0 written) no in
    let missing = or_right_false (eqb u.owner.0 0) (has u.owner.0 written) no in
    let apart = ne_eqb t.window.0 u.owner.0 (λ e. eqb-false u.owner.0 t.window.0 (not-true (eqb u.owner.0 t.window.0) other) (sym e)) in
    let end : has u.owner.0 (written ++ t ∷ []) ≡ false = has_end u.owner.0 written t ∙ (ap (λ b. b || (eqb t.window.0 u.owner.0 || false)) missing ∙ ap (λ b. b || false) apart) in
    ap not (ap (λ b. b || has u.owner.0 (written ++ t ∷ [])) some ∙ end)

pub above_end : (below written : List TopLevel) (t : TopLevel) → is_above_owners below written ≡ true → may_follow (below ++ written) t ≡ true → is_above_owners below (written ++ t ∷ []) ≡ true
above_end below [] t above free = above_cons below [] t (subst (λ l. may_follow l t ≡ true) (append-nil below) free) refl
above_end below (x ∷ written) t above free =
    let parts = above_parts below written x above in
    above_cons below (written ++ t ∷ []) x parts.0 (above_end (below ++ x ∷ []) written t parts.1 (subst (λ l. may_follow l t ≡ true) (sym (append_assoc below (x ∷ []) written)) free))

-- where the front of the list is written or held, and the tail comes next
pub record Front (whole tail outcome : List TopLevel) : Type 0 where
  pub steps : ℕ
  pub written : List TopLevel
  pub held : List TopLevel
  pub is : outcome ≡ rewritten steps written held tail
  pub enough : 2 * length tail + length held ≤ steps
  pub moved : IsPermutation whole (written ++ held)
  pub above : is_above_owners [] written ≡ true
  pub waits : list_all (λ u. not (may_follow written u)) held ≡ true

front_along : (whole other tail outcome result : List TopLevel) → IsPermutation whole other → outcome ≡ result → Front other tail result → Front whole tail outcome
front_along whole other tail outcome result moves same f =
    record { steps = f.steps; written = f.written; held = f.held; is = same ∙ f.is; enough = f.enough; moved = IsPermutation-trans _ _ _ moves f.moved; above = f.above; waits = f.waits }

abbrev Fronts : ℕ → List TopLevel → Type 0
Fronts n tail = (written held released fresh : List TopLevel) → 2 * length (fresh ++ tail) + length released + length held ≤ n → is_above_owners [] written ≡ true → list_all (λ u. not (may_follow written u)) held ≡ true → list_all (may_follow written) released ≡ true → Front (written ++ (held ++ (released ++ fresh))) tail (rewritten n written held (released ++ (fresh ++ tail)))

front_written : (n : ℕ) (tail : List TopLevel) → Fronts n tail → (written held released fresh : List TopLevel) (t : TopLevel) → 2 * length (fresh ++ tail) + length released + length held ≤ n → is_above_owners [] written ≡ true → list_all (λ u. not (may_follow written u)) held ≡ true → list_all (may_follow written) released ≡ true → may_follow written t ≡ true → Front (written ++ (held ++ t ∷ (released ++ fresh))) tail (rewritten (suc n) written held (t ∷ (released ++ (fresh ++ tail))))
front_written n tail ih written held released fresh t enough above waits free free_t =
    let w = t.window.0 in
    let owned = owned_by w held in
    let others = not_owned_by w held in
    let counted = length-filter_both (λ (u : TopLevel). eqb u.owner.0 w) (λ u. not (eqb u.owner.0 w)) (λ _. refl) held in
    let enough_left : 2 * length (fresh ++ tail) + length (owned ++ released) + length others ≤ n = omega (arith, length-append owned released, counted) in
    let owned_free = all_one (λ u. eqb u.owner.0 w) (may_follow (written ++ t ∷ [])) (λ u e. follows_owner written t u e) owned (all_filtered (λ u. eqb u.owner.0 w) held) in
    let released_free = all_one (may_follow written) (may_follow (written ++ t ∷ [])) (λ u e. follows_more written t u e) released free in
    let all_free = list_all-append (may_follow (written ++ t ∷ [])) owned released ∙ and_true (list_all (may_follow (written ++ t ∷ [])) owned) (list_all (may_follow (written ++ t ∷ [])) released) owned_free released_free in
    let others_wait = all_both (λ u. not (eqb u.owner.0 w)) (λ u. not (may_follow written u)) (λ u. not (may_follow (written ++ t ∷ []) u)) (λ u a b. still_waits written t u a b) others (all_filtered (λ u. not (eqb u.owner.0 w)) held) (all_kept (λ u. not (may_follow written u)) (λ u. not (eqb u.owner.0 w)) held waits) in
    let rest = ih (written ++ t ∷ []) others (owned ++ released) fresh enough_left (above_end [] written t above free_t) others_wait all_free in
    let next_same = ap (λ l. rewritten n (written ++ t ∷ []) others l) (sym (append_assoc owned released (fresh ++ tail))) in
    let moves_held = IsPermutation-trans _ _ _ (IsPermutation-middle held t (released ++ fresh)) (IsPermutation-cons t _ _ (after_writing t held (released ++ fresh))) in
    let moves = IsPermutation-append_right written _ _ moves_held in
    let regrouped = sym (append_assoc written (t ∷ []) (others ++ (owned ++ (released ++ fresh)))) ∙ ap (λ l. (written ++ t ∷ []) ++ (others ++ l)) (sym (append_assoc owned released fresh)) in
    front_along _ _ tail _ _ (subst (λ l. IsPermutation (written ++ (held ++ t ∷ (released ++ fresh))) l) regrouped moves) (sym (rewritten_written n written held (released ++ (fresh ++ tail)) t free_t) ∙ next_same) rest

front_next : (n : ℕ) (tail : List TopLevel) → Fronts n tail → (written held fresh : List TopLevel) (t : TopLevel) (b : Bool) → may_follow written t ≡ b → 2 * length (t ∷ (fresh ++ tail)) + length held ≤ suc n → is_above_owners [] written ≡ true → list_all (λ u. not (may_follow written u)) held ≡ true → Front (written ++ (held ++ t ∷ fresh)) tail (rewritten (suc n) written held (t ∷ (fresh ++ tail)))
front_next n tail ih written held fresh t true is enough above waits = front_written n tail ih written held [] fresh t (omega arith) above waits refl is
front_next n tail ih written held fresh t false is enough above waits =
    let enough_left : 2 * length (fresh ++ tail) + 0 + length (held ++ t ∷ []) ≤ n = omega (arith, length-append held (t ∷ [])) in
    let all_wait = list_all-append (λ u. not (may_follow written u)) held (t ∷ []) ∙ and_true (list_all (λ u. not (may_follow written u)) held) (not (may_follow written t) && true) waits (and_true (not (may_follow written t)) true (ap not is) refl) in
    let rest = ih written (held ++ t ∷ []) [] fresh enough_left above all_wait refl in
    front_along _ _ tail _ _ (subst (λ l. IsPermutation (written ++ (held ++ t ∷ fresh)) (written ++ l)) (sym (append_assoc held (t ∷ []) fresh)) (IsPermutation-refl (written ++ (held ++ t ∷ fresh)))) (sym (rewritten_held n written held (fresh ++ tail) t is)) rest

pub fronts : (n : ℕ) (tail : List TopLevel) → Fronts n tail
fronts n tail written held [] [] enough above waits free =
    record { steps = n; written = written; held = held; is = refl; enough = omega arith; moved = subst (λ l. IsPermutation (written ++ l) (written ++ held)) (sym (append-nil held)) (IsPermutation-refl (written ++ held)); above = above; waits = waits }
fronts zero tail written held [] (t ∷ fresh) enough above waits free = absurd (omega arith)
fronts zero tail written held (t ∷ released) fresh enough above waits free = absurd (omega arith)
fronts (suc n) tail written held [] (t ∷ fresh) enough above waits free = front_next n tail (fronts n tail) written held fresh t (may_follow written t) refl (omega arith) above waits
fronts (suc n) tail written held (t ∷ released) fresh enough above waits free =
    front_written n tail (fronts n tail) written held released fresh t (omega arith) above waits (and_right (may_follow written t) (list_all (may_follow written) released) free) (and_left (may_follow written t) (list_all (may_follow written) released) free)

-- Nothing is held for ever: each window held would have an older one held.

as_old : (age : ℕ → ℕ) (held : List TopLevel) → list_all (λ t. has t.owner.0 held && ltb (age t.owner.0) (age t.window.0)) held ≡ true → (k : ℕ) → list_all (λ t. leb k (age t.window.0)) held ≡ true
as_old age held chain zero = all_always (λ t. leb zero (age t.window.0)) (λ t. le-leb zero (age t.window.0) (omega arith)) held
as_old age held chain (suc k) =
    all_one (λ t. has t.owner.0 held && ltb (age t.owner.0) (age t.window.0)) (λ t. leb (suc k) (age t.window.0)) (λ t e. older_still age held k t (witness (λ u. eqb u.window.0 t.owner.0) (λ u. leb k (age u.window.0)) held (and_left (has t.owner.0 held) (ltb (age t.owner.0) (age t.window.0)) e) (as_old age held chain k)) (and_right (has t.owner.0 held) (ltb (age t.owner.0) (age t.window.0)) e)) held chain
  where
    older_still : (age : ℕ → ℕ) (held : List TopLevel) (k : ℕ) (t : TopLevel) → (u : TopLevel) × (eqb u.window.0 t.owner.0 ≡ true) × (leb k (age u.window.0) ≡ true) → ltb (age t.owner.0) (age t.window.0) ≡ true → leb (suc k) (age t.window.0) ≡ true
    older_still age held k t w below =
        let same = ap age (eqb-true w.0.window.0 t.owner.0 w.1) in
        let old = leb-true k (age w.0.window.0) w.2 in
        let older = ltb-true (age t.owner.0) (age t.window.0) below in
        le-leb (suc k) (age t.window.0) (omega (arith, same, old, older))

none_for_ever : (age : ℕ → ℕ) (held : List TopLevel) → list_all (λ t. has t.owner.0 held && ltb (age t.owner.0) (age t.window.0)) held ≡ true → held ≡ []
none_for_ever age [] chain = refl
none_for_ever age (t ∷ held) chain =
    let old = leb-true (suc (age t.window.0)) (age t.window.0) (and_left (leb (suc (age t.window.0)) (age t.window.0)) (list_all (λ u. leb (suc (age t.window.0)) (age u.window.0)) held) (as_old age (t ∷ held) chain (suc (age t.window.0)))) in
    absurd (omega (arith, old))

waits_for_held : (age : ℕ → ℕ) (whole written held : List TopLevel) → IsPermutation whole (written ++ held) → (t : TopLevel) → may_follow whole t ≡ true → (not (may_follow written t) && has_older_owner age t) ≡ true → (has t.owner.0 held && ltb (age t.owner.0) (age t.window.0)) ≡ true
waits_for_held age whole written held moved t free both =
    let no = not-true (may_follow written t) (and_left (not (may_follow written t)) (has_older_owner age t) both) in
    let some = or_left_false (eqb t.owner.0 0) (has t.owner.0 written) no in
    let missing = or_right_false (eqb t.owner.0 0) (has t.owner.0 written) no in
    let there = or_rest (eqb t.owner.0 0) (has t.owner.0 whole) free some in
    let split = list_any-append (λ u. eqb u.window.0 t.owner.0) written held in
    let found = sym split ∙ (sym (list_any-IsPermutation (λ u. eqb u.window.0 t.owner.0) whole (written ++ held) moved) ∙ there) in
    and_true (has t.owner.0 held) (ltb (age t.owner.0) (age t.window.0)) (or_rest (has t.owner.0 written) (has t.owner.0 held) found missing) (or_rest (eqb t.owner.0 0) (ltb (age t.owner.0) (age t.window.0)) (and_right (not (may_follow written t)) (has_older_owner age t) both) some)

nothing_waits : (age : ℕ → ℕ) (whole written held : List TopLevel) → IsPermutation whole (written ++ held) → list_all (may_follow whole) whole ≡ true → list_all (has_older_owner age) whole ≡ true → list_all (λ u. not (may_follow written u)) held ≡ true → held ≡ []
nothing_waits age whole written held moved owners older waits =
    let part : (p : TopLevel → Bool) → list_all p whole ≡ true → list_all p held ≡ true = λ p a. and_right (list_all p written) (list_all p held) (sym (list_all-append p written held) ∙ all_permuted p whole (written ++ held) moved a) in
    let both = all_both (λ u. not (may_follow written u)) (has_older_owner age) (λ u. not (may_follow written u) && has_older_owner age u) (λ u a b. and_true (not (may_follow written u)) (has_older_owner age u) a b) held waits (part (has_older_owner age) older) in
    none_for_ever age held (all_both (may_follow whole) (λ u. not (may_follow written u) && has_older_owner age u) (λ t. has t.owner.0 held && ltb (age t.owner.0) (age t.window.0)) (λ t a b. waits_for_held age whole written held moved t a b) held (part (may_follow whole) owners) both)

-- owners that are among some windows are among the same in another order
owners_permuted : (ts us : List TopLevel) → IsPermutation ts us → list_all (may_follow ts) ts ≡ true → list_all (may_follow us) us ≡ true
owners_permuted ts us moved owners =
    all_one (may_follow ts) (may_follow us) (λ t e. ap (λ b. eqb t.owner.0 0 || b) (sym (list_any-IsPermutation (λ u. eqb u.window.0 t.owner.0) ts us moved)) ∙ e) us (all_permuted (may_follow ts) ts us moved owners)

parted_append : (low high : List TopLevel) → list_all (λ t. not t.topmost) low ≡ true → list_all (λ t. t.topmost) high ≡ true → is_parted (low ++ high) ≡ true
parted_append [] high l h = all_topmost_parted high h
parted_append (t ∷ low) high l h = parted_cons t (low ++ high) t.topmost refl (λ e. absurd (false≢true (sym (not-true t.topmost (and_left (not t.topmost) (list_all (λ v. not v.topmost) low) l)) ∙ e))) (λ _. parted_append low high (and_right (not t.topmost) (list_all (λ v. not v.topmost) low) l) h)

-- the ordinary windows come first, then the others follow
pub record Mends (ts : List TopLevel) : Type 0 where
  pub first : Front (ordinary ts) (filter (λ t. t.topmost) ts) (mended ts)
  pub no_more : first.held ≡ []

abbrev topmost_of : List TopLevel → List TopLevel
topmost_of ts = filter (λ t. t.topmost) ts

mends_first : (age : ℕ → ℕ) (ts : List TopLevel) → AreOwned age ts → Mends ts
mends_first age ts o =
    let f = fronts (2 * length (parted ts)) (topmost_of ts) [] [] [] (ordinary ts) (omega arith) refl refl refl in
    record { first = f; no_more = nothing_waits age (ordinary ts) f.written f.held f.moved o.ordinary_owners (all_kept (has_older_owner age) (λ t. not t.topmost) ts o.older) f.waits }

mends_then : (age : ℕ → ℕ) (ts : List TopLevel) → AreOwned age ts → Mends ts → IsMended (mended ts)
mends_then age ts o m =
    let low = m.first.written in
    let high = topmost_of ts in
    let only_low : IsPermutation (ordinary ts) low = subst (λ l. IsPermutation (ordinary ts) l) (append-nil low) (subst (λ h. IsPermutation (ordinary ts) (low ++ h)) m.no_more m.first.moved) in
    let from_low : mended ts ≡ rewritten m.first.steps low [] high = m.first.is ∙ ap (λ h. rewritten m.first.steps low h high) m.no_more in
    let enough : 2 * length (high ++ []) + 0 + 0 ≤ m.first.steps = omega (arith, m.first.enough, length-append high []) in
    let f = fronts m.first.steps [] low [] [] high enough m.first.above refl refl in
    let whole = IsPermutation-trans _ _ _ (parted_moves ts) (IsPermutation-append_left high (ordinary ts) low only_low) in
    let older = all_permuted (has_older_owner age) ts (low ++ high) whole o.older in
    let done = nothing_waits age (low ++ high) f.written f.held f.moved (owners_permuted ts (low ++ high) whole o.owners) older f.waits in
    let all = from_low ∙ (ap (λ l. rewritten m.first.steps low [] l) (sym (append-nil high)) ∙ (f.is ∙ (rewritten_done f.steps f.written f.held ∙ (ap (λ l. f.written ++ l) done ∙ append-nil f.written)))) in
    let rest = written_first m.first.steps low [] high in
    record {
      parted = ap is_parted (from_low ∙ rest.1) ∙ parted_append low rest.0 (all_permuted (λ t. not t.topmost) (ordinary ts) low only_low (all_filtered (λ t. not t.topmost) ts)) (all_permuted (λ t. t.topmost) high rest.0 rest.2 (all_filtered (λ t. t.topmost) ts));
      above = ap (λ l. is_above_owners [] l) all ∙ f.above;
    }

-- mending leaves topmost windows above all others, and each owned window above its owner
pub mended_is_mended : (age : ℕ → ℕ) (ts : List TopLevel) → AreOwned age ts → IsMended (mended ts)
mended_is_mended age ts o = mends_then age ts o (mends_first age ts o)

pub mended_twice : (age : ℕ → ℕ) (ts : List TopLevel) → AreOwned age ts → mended (mended ts) ≡ mended ts
mended_twice age ts o = mended_stays (mended ts) (mended_is_mended age ts o)

pub staying_stays : (gone : ℕ → Bool) (ts : List TopLevel) → list_all (goes_along gone) ts ≡ true → IsMended ts → mended (staying gone ts) ≡ staying gone ts
staying_stays gone ts along m = mended_stays (staying gone ts) (staying_mended gone ts along m)

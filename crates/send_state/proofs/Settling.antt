-- What is known of a send that an entry changes, and of the others.
use Rattle.std.proofs.Common.{◌≡◌, ◌≢◌, ℕ, ◌-◌, Bool, true, false, not, cond, eqb, List, ◌∷◌, set, Option, Some, None, refl, ap, ◌∙◌, sym, subst}
use Rattle.std.specs.Prelude.{◌||◌, is_none, is_some, nat_lt, option_map}
use Rattle.std.specs.List.{list_any}
use Rattle.std.specs.Cmp.{nat_cmp_total, eq_by_cmp_equiv}
use Rattle.std.specs.Ordering.{nat_cmp, eq_by_cmp}
use Rattle.std.specs.FinMap as map
use Rattle.std.specs.FinMap.{get-insert, get-remove}
use Rattle.std.proofs.lemmas.Bool.{false≢true, eqb-true}
use Rattle.std.proofs.lemmas.Map.Lookups.{exact_unsigned}
use Rattle.std.proofs.lemmas.Map.Views.{tells_apart}
use Rattle.win_num.specs.declared.send.Frame.{Frame}
use Rattle.user_model.specs.declared.entry.Entry.{Entry}
use Rattle.user_model.specs.declared.entry.Setup.{Setup}
use Rattle.user_model.specs.Past.{Past, is_refused}
use Rattle.user_model.specs.Stacks.{stack, stacked}
use Rattle.user_model.specs.Sends.{SentMsg, Outcome, answer, answers, is_answered, is_owed, is_stacked, is_unfinished, names_send, send}
use Rattle.user_model.proofs.SendLaws.{stack-next, stack-other, stack-refused}
use Rattle.user_model.proofs.SendStanding.{Standing}
use Rattle.send_frames.specs.Book.{Book, KnownSend, count_on, is_wanted, named_by, names, popped, popped_from, settled, settled_as, stack_of, with_send, with_stack}
use Rattle.send_state.specs.Standing.{as_told, known_as, known_at, known_of}
use Rattle.send_state.proofs.Still.{answer-same, known_at-alike}

-- ---- the other sends

-- frames that name a send, where those on the caller's stack do so as before
pub any-framed-at : (e : Entry) (past : Past) (t s : ℕ) → list_any (λ f. names_send f s) (stacked e.call e.answer (stack past e.who.0)) ≡ list_any (λ f. names_send f s) (stack past e.who.0)
    → list_any (λ f. names_send f s) (stack (e ∷ past) t) ≡ list_any (λ f. names_send f s) (stack past t)
any-framed-at e past t s same = by (is_refused e) refl (eqb e.who.0 t) refl
  where
    by : (b : Bool) → is_refused e ≡ b → (c : Bool) → eqb e.who.0 t ≡ c → list_any (λ f. names_send f s) (stack (e ∷ past) t) ≡ list_any (λ f. names_send f s) (stack past t)
    by true r c own = ap (list_any (λ f. names_send f s)) (stack-refused e past t r)
    by false r true own =
        ap (list_any (λ f. names_send f s)) (stack-next e past t r own)
        ∙ subst (λ n. list_any (λ f. names_send f s) (stacked e.call e.answer (stack past n)) ≡ list_any (λ f. names_send f s) (stack past n)) (eqb-true e.who.0 t own) same
    by false r false own = ap (list_any (λ f. names_send f s)) (stack-other e past t own)

pub stacked-same-at : (e : Entry) (past : Past) (x : SentMsg) → list_any (λ f. names_send f x.number) (stacked e.call e.answer (stack past e.who.0)) ≡ list_any (λ f. names_send f x.number) (stack past e.who.0) → is_stacked (e ∷ past) x ≡ is_stacked past x
stacked-same-at e past x same =
    ap (λ b. b || list_any (λ f. names_send f x.number) (stack (e ∷ past) x.to)) (any-framed-at e past x.from x.number same)
    ∙ ap (λ b. list_any (λ f. names_send f x.number) (stack past x.from) || b) (any-framed-at e past x.to x.number same)

-- what is known of a send stays, where the entry neither answers it nor changes its frames or its debt
pub known-other : (setup : Setup) (e : Entry) (past : Past) (q : ℕ) → Standing setup past → send (e ∷ past) q ≡ send past q → answers e past q ≡ None
    → list_any (λ f. names_send f q) (stacked e.call e.answer (stack past e.who.0)) ≡ list_any (λ f. names_send f q) (stack past e.who.0)
    → ((x : SentMsg) → send past q ≡ Some x → is_owed (e ∷ past) x ≡ is_owed past x) → known_at (e ∷ past) q ≡ known_at past q
known-other setup e past q standing same none framed owed = known_at-alike past (e ∷ past) q same (λ x found. let n : x.number ≡ q = (standing.sent q x found).is_number in record {
  answer_same = answer-same e past x.number (ap (answers e past) n ∙ none);
  stacked_same = stacked-same-at e past x (subst (λ k. list_any (λ f. names_send f k) (stacked e.call e.answer (stack past e.who.0)) ≡ list_any (λ f. names_send f k) (stack past e.who.0)) (sym n) framed);
  owed_same = owed x found;
})

-- ---- the send that changes

pub or_turned : (a b c : Bool) → (a || b || c) ≡ (a || (c || b))
or_turned true b c = refl
or_turned false true true = refl
or_turned false true false = refl
or_turned false false true = refl
or_turned false false false = refl

pub none_told : (o : Option Outcome) → is_none (option_map as_told o) ≡ not (is_some o)
none_told None = refl
none_told (Some x) = refl

-- a send is wanted where it is unfinished
pub wanted-unfinished : (past : Past) (stacks : List (List Frame)) (s : ℕ) (x : SentMsg) → is_stacked past x ≡ nat_lt 0 (count_on (names s) stacks) → is_wanted stacks s (known_as past x) ≡ is_unfinished past x
wanted-unfinished past stacks s x count =
    ap (λ b. b || is_owed past x || nat_lt 0 (count_on (names s) stacks)) (none_told (answer past x.number))
    ∙ ap (λ b. not (is_answered past x.number) || is_owed past x || b) (sym count)
    ∙ or_turned (not (is_answered past x.number)) (is_owed past x) (is_stacked past x)

-- the key of a change, or another
pub by_key : {A : Type 0} (P : Option A → Type 0) (q s : ℕ) (o rest : Option A) → (q ≡ s → P o) → (q ≢ s → P rest) → P (cond (eq_by_cmp nat_cmp q s) o rest)
by_key P q s o rest here there = go (eq_by_cmp nat_cmp q s) refl where
  go : (b : Bool) → eq_by_cmp nat_cmp q s ≡ b → P (cond b o rest)
  go true h = here (tells_apart exact_unsigned q s h)
  go false h = there (λ e. false≢true (sym h ∙ ap (λ n. eq_by_cmp nat_cmp n s) e ∙ (eq_by_cmp_equiv nat_cmp_total).refl s))

pub with_send-stands : (later : Past) (b : Book) (s : ℕ) (x : SentMsg) → send later s ≡ Some x → is_stacked later x ≡ nat_lt 0 (count_on (names s) b.stacks)
    → ((q : ℕ) → q ≢ s → map.get b.known q ≡ known_at later q) → (q : ℕ) → map.get (with_send b s (known_as later x)).known q ≡ known_at later q
with_send-stands later b s x found count others q = go (is_unfinished later x) refl where
  k : KnownSend
  k = known_as later x

  at_s : (b : Bool) → is_unfinished later x ≡ b → q ≡ s → known_at later q ≡ cond b (Some k) None
  at_s b u same = ap (known_at later) same ∙ ap (known_of later) found ∙ ap (λ c. cond c (Some k) None) u

  go : (u : Bool) → is_unfinished later x ≡ u → map.get (with_send b s k).known q ≡ known_at later q
  go true u =
      ap (λ c. map.get (cond c (map.insert b.known s k) (map.remove b.known s)) q) (wanted-unfinished later b.stacks s x count ∙ u)
      ∙ get-insert nat_cmp_total b.known s k q
      ∙ by_key (λ o. o ≡ known_at later q) q s (Some k) (map.get b.known q) (λ same. sym (at_s true u same)) (others q)
  go false u =
      ap (λ c. map.get (cond c (map.insert b.known s k) (map.remove b.known s)) q) (wanted-unfinished later b.stacks s x count ∙ u)
      ∙ get-remove nat_cmp_total b.known s q
      ∙ by_key (λ o. o ≡ known_at later q) q s None (map.get b.known q) (λ same. sym (at_s false u same)) (others q)

-- ---- a frame is taken away

-- one that names no send leaves what is known
pub known-popped-unnamed : (b : Book) (t : ℕ) (f : Frame) (fs : List Frame) → stack_of b t ≡ f ∷ fs → named_by f ≡ None → (popped b t).known ≡ b.known
known-popped-unnamed b t f fs e none = ap (λ l. (popped_from b t l).known) e ∙ ap (λ o. (settled (with_stack b t fs) o).known) none

-- one that names a send settles it
pub known-popped : (later : Past) (b : Book) (t : ℕ) (f : Frame) (fs : List Frame) (s : ℕ) (x : SentMsg) → stack_of b t ≡ f ∷ fs → named_by f ≡ Some s → send later s ≡ Some x
    → map.get b.known s ≡ Some (known_as later x) → is_stacked later x ≡ nat_lt 0 (count_on (names s) (set b.stacks (t - 1) fs))
    → ((q : ℕ) → q ≢ s → map.get b.known q ≡ known_at later q) → (q : ℕ) → map.get (popped b t).known q ≡ known_at later q
known-popped later b t f fs s x e named found has count others q =
    ap (λ l. map.get (popped_from b t l).known q) e
    ∙ ap (λ o. map.get (settled (with_stack b t fs) o).known q) named
    ∙ ap (λ o. map.get (settled_as (with_stack b t fs) s o).known q) has
    ∙ with_send-stands later (with_stack b t fs) s x found count others q

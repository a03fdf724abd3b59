-- What may join a list: there is room for it, and no list has it.
use Rattle.std.proofs.Common.{◌≡◌, ℕ, suc, ◌+◌, ◌-◌, ◌<◌, ◌≤◌, true, false, cond, eqb, List, [], ◌∷◌, length, get_or, map as each, Option, Some, None, refl, sym, ap, subst, ◌∙◌, inl, inr, arith}
use Rattle.std.specs.Prelude.{◌⊎◌, is_some}
use Rattle.std.specs.List.{AllByRecursion}
use Rattle.std.specs.FinMap as map
use Rattle.user_model.specs.declared.entry.Setup.{Setup}
use Rattle.user_model.specs.Past.{Past, place_after}
use Rattle.user_model.specs.Ready.{ReadyMsg, ready}
use Rattle.user_model.specs.Legal.{IsLawful}
use Rattle.user_model.proofs.ListLaws.{all_weaker}
use Rattle.user_model.proofs.ReadyLaws.{IsPending, ready_pending}
use Rattle.send_frames.specs.Book.{KnownSend}
use Rattle.send_variants.specs.Lists.{Entry as Item, count_in, count_on, list_of, named_by as send_of, names}
use Rattle.send_state.specs.Parts.{CanJoin, SendParts, rank}
use Rattle.send_state.specs.Standing.{IsOurs, PartsStand, item, item_as, known_as, known_of}
use Rattle.send_state.proofs.Room.{named, total_bound, total_less}
use Rattle.send_state.proofs.Serving.{about}

named-from : (P : ℕ → Type 0) (es : List Item) (rs : List ReadyMsg) → each item es ≡ each item_as rs → AllByRecursion (λ r. P (about r)) rs → AllByRecursion P (named es)
named-from P [] rs e all = tt
named-from P (x ∷ es) [] e all = absurd cc
named-from P (x ∷ es) (r ∷ rs) e all =
    let head : item x ≡ item_as r = cc in
    let rest : each item es ≡ each item_as rs = cc in
    (subst P (sym (ap (λ a. send_of a.1) head)) all.0, named-from P es rs rest all.1)

pub of_about : (past : Past) (r : ReadyMsg) (p : IsPending past r) → about r ≡ p.of.number
of_about past r p = elim p.about [ inl e ↦ ap about e | inr e ↦ ap about e.2 ]

-- what is said of each ready message's send is said of each entry's
pub listed : (P : ℕ → Type 0) (setup : Setup) (past : Past) (p : SendParts) → PartsStand setup past p → ((t : ℕ) → AllByRecursion (λ r. P (about r)) (ready past t)) → (i : ℕ) → i < length p.lists → AllByRecursion P (named (get_or p.lists i []))
listed P setup past p h all i lt =
    let ours : IsOurs setup (suc i) = (omega arith, omega (arith, lt, h.lists.threads)) in
    let back : suc i - 1 ≡ i = omega arith in
    subst (λ j. AllByRecursion P (named (get_or p.lists j []))) back (named-from P (list_of p.lists (suc i)) (ready past (suc i)) (h.lists.ready (suc i) ours) (all (suc i)))

-- each ready message's send is known
pub pending-known : (setup : Setup) (past : Past) (p : SendParts) → IsLawful setup past → PartsStand setup past p → (t : ℕ) → AllByRecursion (λ r. is_some (map.get p.book.known (about r)) ≡ true) (ready past t)
pending-known setup past p lawful h t =
    all_weaker (IsPending past) (λ r. is_some (map.get p.book.known (about r)) ≡ true) (λ r k.
    ap (λ (o : Option KnownSend). is_some o) (ap (map.get p.book.known) (of_about past r k) ∙ h.book.known k.of.number ∙ ap (known_of past) k.found ∙ ap (λ b. cond b (Some (known_as past k.of)) None) k.unfinished))
    (ready past t) (ready_pending setup past t lawful)

none_counted : (s : ℕ) (es : List Item) → AllByRecursion (λ n. eqb n s ≡ false) (named es) → count_in s es ≡ 0
none_counted s [] h = refl
none_counted s (e ∷ es) h =
    let rest = none_counted s es h.1 in
    let here : cond (names s e) 1 0 + count_in s es ≡ 0 + count_in s es = ap (λ b. cond b 1 0 + count_in s es) h.0 in
    omega (arith, rest, here)

pub none_on : (s : ℕ) (lists : List (List Item)) → ((i : ℕ) → i < length lists → AllByRecursion (λ n. eqb n s ≡ false) (named (get_or lists i []))) → count_on s lists ≡ 0
none_on s [] h = refl
none_on s (es ∷ lists) h =
    let here = none_counted s es (h 0 (omega arith)) in
    let rest = none_on s lists (λ i lt. h (suc i) (omega (arith, lt))) in
    omega (arith, here, rest)

-- a send that nothing ready is about may join, where it is known or fewer than 1,024 are
pub can-join : (setup : Setup) (past : Past) (p : SendParts) (t s : ℕ) → IsLawful setup past → PartsStand setup past p → IsOurs setup t → map.len p.book.known ≤ 1024
    → (is_some (map.get p.book.known s) ≡ true) ⊎ (map.len p.book.known < 1024) → ((u : ℕ) → AllByRecursion (λ r. eqb (about r) s ≡ false) (ready past u)) → CanJoin p.lists t (rank (place_after past) 0) s
can-join setup past p t s lawful h ours few known apart =
    let none : count_on s p.lists ≡ 0 = none_on s p.lists (listed (λ n. eqb n s ≡ false) setup past p h apart) in
    let all = listed (λ n. is_some (map.get p.book.known n) ≡ true) setup past p h (pending-known setup past p lawful h) in
    record {
      thread = (ours.0, omega (arith, ours.1, h.lists.threads));
      above = h.lists.below t;
      room = elim known [
        | inl k ↦ let less = total_less p.lists p.book.known s h.lists.sound.once all k none in omega (arith, less, few)
        | inr k ↦ let less = total_bound p.lists p.book.known h.lists.sound.once all in omega (arith, less, k)
      ];
      unnamed = none;
    }

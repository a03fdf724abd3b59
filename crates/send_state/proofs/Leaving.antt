-- The parts stand on where a send that was entered is replied to, or its procedure is left with its first answer.
use Rattle.std.proofs.Common.{◌≡◌, ◌≢◌, ℕ, ◌≤◌, Bool, true, false, cond, eqb, List, [], ◌∷◌, length, Some, refl, ap, ◌∙◌, sym, subst}
use Rattle.std.specs.Prelude.{◌||◌, drop, find, is_none, nat_lt}
use Rattle.std.specs.List.{list_any, slice_get}
use Rattle.std.specs.Cmp.{nat_cmp_total}
use Rattle.std.specs.FinMap as map
use Rattle.std.specs.FinMap.{get-insert}
use Rattle.std.proofs.lemmas.Bool.{ne_eqb}
use Rattle.win_num.specs.declared.send.SendId.{SendId}
use Rattle.win_num.specs.declared.send.Cause.{Cause}
use Rattle.win_num.specs.declared.send.Cause.TheVariants.{Proc, Reply}
use Rattle.win_num.specs.declared.send.Frame.{Frame}
use Rattle.win_num.specs.declared.send.Frame.TheVariants.{Entered}
use Rattle.user_model.specs.declared.entry.Entry.{Entry}
use Rattle.user_model.specs.declared.entry.Setup.{Setup}
use Rattle.user_model.specs.Past.{Past, place_after}
use Rattle.user_model.specs.Stacks.{stack, stacked}
use Rattle.user_model.specs.Sends.{SentMsg, is_stacked, names_send, send, sends_by}
use Rattle.user_model.specs.Legal.{IsLawful}
use Rattle.user_model.proofs.SendLaws.{sends-same, stack-same}
use Rattle.user_model.proofs.SendStanding.{Standing}
use Rattle.send_frames.specs.Book.{Book, answered_as, answered_by, count_on, named_by, names, popped, stack_of, with_send}
use Rattle.send_state.specs.Parts.{SendParts, answered, left, left_from, lists_answered_as, rank, replied, replied_in}
use Rattle.send_state.specs.Standing.{BookStands, IsOurs, PartsStand, known_as, known_at}
use Rattle.send_state.proofs.Still.{is_owed-same}
use Rattle.send_state.proofs.Steps.{get_inserted}
use Rattle.send_state.proofs.Serving.{eqb_itself}
use Rattle.send_state.proofs.Frames.{stacked-counted}
use Rattle.send_state.proofs.Settling.{by_key, known-other, with_send-stands}
use Rattle.send_state.proofs.Popping.{IsBefore, stand-popped-named}
use Rattle.send_state.proofs.Answering.{IsAnswering, IsUnlisted, known-before, known-later, lists-answered}

send_kept : (e : Entry) (past : Past) (q : ℕ) → sends_by e.call e past ≡ [] → send (e ∷ past) q ≡ send past q
send_kept e past q none = ap (λ xs. find (λ x. eqb x.number q) xs) (sends-same e past none)

module _ (setup : Setup) (past : Past) (e : Entry) (s : SendId) (x : SentMsg) (v : ℕ) (c : Cause) (is : IsAnswering past e s.0 x v c) (standing : Standing setup past) where
  pub found_later : send (e ∷ past) s.0 ≡ Some x
  found_later = send_kept e past s.0 is.none_made ∙ is.found

  -- the send has its answer in the book
  pub answered-is : (b : Book) → map.get b.known s.0 ≡ known_at past s.0 → answered_by b s.0 (v, c) ≡ with_send b s.0 (known_as (e ∷ past) x)
  answered-is b h = ap (answered_as b s.0 (v, c)) (h ∙ known-before setup past e s.0 x v c is standing) ∙ ap (with_send b s.0) (known-later setup past e s.0 x v c is standing)

  pub others : (q : ℕ) → q ≢ s.0 → list_any (λ f. names_send f q) (stacked e.call e.answer (stack past e.who.0)) ≡ list_any (λ f. names_send f q) (stack past e.who.0) → known_at (e ∷ past) q ≡ known_at past q
  others q differ framed =
      known-other setup e past q standing (send_kept e past q is.none_made) (is.tells_other q (ne_eqb s.0 q (λ same. differ (sym same)))) framed
      (λ y found. is_owed-same e past y is.running (is.hands_other y.number (ne_eqb s.0 y.number (λ same. differ (sym (same ∙ (standing.sent q y found).is_number))))))

  top_is : (b : Book) (fs : List Frame) → IsOurs setup e.who.0 → ((t : ℕ) → IsOurs setup t → stack_of b t ≡ stack past t) → stack past e.who.0 ≡ Entered s ∷ fs → slice_get (stack_of b e.who.0) 0 ≡ Some (Entered s)
  top_is b fs own stacks is_stack = ap (λ l. slice_get l 0) (stacks e.who.0 own ∙ is_stack)

  -- ---- a reply

  -- the frames stay, and the send has its answer
  pub stand-replied : (p : SendParts) (fs : List Frame) → IsLawful setup past → Standing setup (e ∷ past) → IsOurs setup e.who.0 → map.len p.book.known ≤ 1024 → IsUnlisted past s.0 → c ≡ Reply
      → stack past e.who.0 ≡ Entered s ∷ fs → ((l : List Frame) → stacked e.call e.answer l ≡ l) → PartsStand setup past p → PartsStand setup (e ∷ past) (replied p e.who.0 v (place_after past))
  stand-replied p fs lawful after own few unlisted cause is_stack frames h =
      let stacks : (t : ℕ) → IsOurs setup t → stack_of p.book t ≡ stack (e ∷ past) t = λ t ours. h.book.stacks t ours ∙ sym (stack-same e past t (frames (stack past t))) in
      let stands : PartsStand setup (e ∷ past) (record p { book = with_send p.book s.0 (known_as (e ∷ past) x); lists = lists_answered_as p.lists s.0 (rank (place_after past) 0) (map.get p.book.known s.0) }) = record {
        book = record {
          begun = h.book.begun ∙ sym (ap length (sends-same e past is.none_made));
          threads = h.book.threads;
          stacks = stacks;
          known = with_send-stands (e ∷ past) p.book s.0 x found_later (stacked-counted setup (e ∷ past) p.book s.0 x after h.book.threads stacks found_later)
              (λ q differ. h.book.known q ∙ sym (others q differ (ap (list_any (λ f. names_send f q)) (frames (stack past e.who.0)))));
        };
        lists = lists-answered setup past e s.0 x v c is standing p lawful few unlisted h;
      } in
      let by_cause = subst (λ d. PartsStand setup (e ∷ past) (answered p s.0 v d (rank (place_after past) 0))) cause
      (subst (λ b. PartsStand setup (e ∷ past) (record p { book = b; lists = lists_answered_as p.lists s.0 (rank (place_after past) 0) (map.get p.book.known s.0) })) (sym (answered-is p.book (h.book.known s.0))) stands) in
      subst (λ o. PartsStand setup (e ∷ past) (replied_in p o v (rank (place_after past) 0))) (sym (top_is p.book fs own h.book.stacks is_stack)) by_cause

  -- ---- leaving

  or_true : (a : Bool) → (a || true) ≡ true
  or_true true = refl
  or_true false = refl

  or_last : (a b : Bool) → (a || b || true) ≡ true
  or_last true true = refl
  or_last true false = refl
  or_last false true = refl
  or_last false false = refl

  -- while its frame stands the answered send is known
  pub has_answer : (b : Book) → is_stacked past x ≡ true → is_stacked past x ≡ nat_lt 0 (count_on (names s.0) b.stacks) → map.get (with_send b s.0 (known_as (e ∷ past) x)).known s.0 ≡ Some (known_as (e ∷ past) x)
  has_answer b framed count =
      ap (λ d. map.get (cond d (map.insert b.known s.0 (known_as (e ∷ past) x)) (map.remove b.known s.0)) s.0)
      (ap (λ d. is_none (known_as (e ∷ past) x).answer || (known_as (e ∷ past) x).owed || d) (sym count ∙ framed) ∙ or_last (is_none (known_as (e ∷ past) x).answer) (known_as (e ∷ past) x).owed)
      ∙ get_inserted b.known s.0 (known_as (e ∷ past) x)

  pub keeps_others : (b : Book) → is_stacked past x ≡ true → is_stacked past x ≡ nat_lt 0 (count_on (names s.0) b.stacks) → (q : ℕ) → q ≢ s.0 → map.get (with_send b s.0 (known_as (e ∷ past) x)).known q ≡ map.get b.known q
  keeps_others b framed count q differ =
      ap (λ d. map.get (cond d (map.insert b.known s.0 (known_as (e ∷ past) x)) (map.remove b.known s.0)) q)
      (ap (λ d. is_none (known_as (e ∷ past) x).answer || (known_as (e ∷ past) x).owed || d) (sym count ∙ framed) ∙ or_last (is_none (known_as (e ∷ past) x).answer) (known_as (e ∷ past) x).owed)
      ∙ get-insert nat_cmp_total b.known s.0 (known_as (e ∷ past) x) q
      ∙ by_key (λ o. o ≡ map.get b.known q) q s.0 (Some (known_as (e ∷ past) x)) (map.get b.known q) (λ same. absurd (differ same)) (λ other. refl)

  -- the book after a frame of the answered send is taken away
  pub book-left : (old : Book) (g : Frame) (fs : List Frame) → Standing setup (e ∷ past) → IsOurs setup e.who.0 → is_stacked past x ≡ true → named_by g ≡ Some s.0 → ((q : ℕ) → eqb s.0 q ≡ false → names_send g q ≡ false)
      → stack past e.who.0 ≡ g ∷ fs → ((l : List Frame) → stacked e.call e.answer l ≡ drop 1 l) → BookStands setup past old → BookStands setup (e ∷ past) (popped (with_send old s.0 (known_as (e ∷ past) x)) e.who.0)
  book-left old g fs after own framed named named_other is_stack frames h =
      let count = stacked-counted setup past old s.0 x standing h.threads h.stacks is.found in
      let b : Book = with_send old s.0 (known_as (e ∷ past) x) in
      let before : IsBefore setup past e b g fs = record {
        right = is.right;
        own = own;
        begun = h.begun;
        makes_none = ap length (sends-same e past is.none_made);
        threads = h.threads;
        stacks = h.stacks;
        is_stack = is_stack;
        pops = frames (g ∷ fs);
      } in
      let rest : (q : ℕ) → q ≢ s.0 → map.get b.known q ≡ known_at (e ∷ past) q = λ q differ.
      keeps_others old framed count q differ ∙ h.known q
      ∙ sym (others q differ (ap (list_any (λ f. names_send f q)) (frames (stack past e.who.0) ∙ ap (drop 1) is_stack)
      ∙ sym (ap (list_any (λ f. names_send f q)) is_stack ∙ ap (λ d. d || list_any (λ f. names_send f q) fs) (named_other q (ne_eqb s.0 q (λ same. differ (sym same))))))) in
      stand-popped-named setup past e b g fs before s.0 x named found_later after (has_answer old framed count) rest

  -- the frame is taken away, and the send has its answer
  pub stand-left : (p : SendParts) (fs : List Frame) → IsLawful setup past → Standing setup (e ∷ past) → IsOurs setup e.who.0 → map.len p.book.known ≤ 1024 → IsUnlisted past s.0 → c ≡ Proc → x.to ≡ e.who.0
      → stack past e.who.0 ≡ Entered s ∷ fs → ((l : List Frame) → stacked e.call e.answer l ≡ drop 1 l) → PartsStand setup past p → PartsStand setup (e ∷ past) (left p e.who.0 v (place_after past))
  stand-left p fs lawful after own few unlisted cause receiver is_stack frames h =
      let number : x.number ≡ s.0 = (standing.sent s.0 x is.found).is_number in
      let framed : is_stacked past x ≡ true =
      ap (λ t. list_any (λ f. names_send f x.number) (stack past x.from) || list_any (λ f. names_send f x.number) (stack past t)) receiver
      ∙ ap (λ l. list_any (λ f. names_send f x.number) (stack past x.from) || list_any (λ f. names_send f x.number) l) is_stack
      ∙ ap (λ b. list_any (λ f. names_send f x.number) (stack past x.from) || (b || list_any (λ f. names_send f x.number) fs)) (ap (λ n. eqb s.0 n) number ∙ eqb_itself s.0)
      ∙ or_true (list_any (λ f. names_send f x.number) (stack past x.from)) in
      let b : Book = with_send p.book s.0 (known_as (e ∷ past) x) in
      let stands : PartsStand setup (e ∷ past) (record p { book = popped b e.who.0; lists = lists_answered_as p.lists s.0 (rank (place_after past) 0) (map.get p.book.known s.0) }) = record {
        book = book-left p.book (Entered s) fs after own framed refl (λ q differ. differ) is_stack frames h.book;
        lists = lists-answered setup past e s.0 x v c is standing p lawful few unlisted h;
      } in
      let by_cause : PartsStand setup (e ∷ past) (left_from p (Some (Entered s)) e.who.0 v (rank (place_after past) 0)) = subst (λ d. PartsStand setup (e ∷ past) (record p { book = popped (answered_by p.book s.0 (v, d)) e.who.0; lists = lists_answered_as p.lists s.0 (rank (place_after past) 0) (map.get p.book.known s.0) })) cause
      (subst (λ a. PartsStand setup (e ∷ past) (record p { book = popped a e.who.0; lists = lists_answered_as p.lists s.0 (rank (place_after past) 0) (map.get p.book.known s.0) })) (sym (answered-is p.book (h.book.known s.0))) stands) in
      subst (λ o. PartsStand setup (e ∷ past) (left_from p o e.who.0 v (rank (place_after past) 0))) (sym (top_is p.book fs own h.book.stacks is_stack)) by_cause

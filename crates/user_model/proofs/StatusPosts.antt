-- Which posted messages and which input came after the last look is told by their numbers.
use Rattle.std.proofs.Common.{◌≡◌, ℕ, suc, ◌+◌, ◌<◌, ◌≤◌, Bool, true, false, not, cond, eqb, List, [], ◌∷◌, ◌++◌, length, Option, Some, None, refl, ap, ◌∙◌, sym, subst, arith}
use Rattle.std.specs.Prelude.{◌&&◌, filter, nat_le, nat_lt, unwrap_or}
use Rattle.std.specs.List.{AllByRecursion, list_any}
use Rattle.std.proofs.lemmas.Bool.{false≢true}
use Rattle.std.proofs.lemmas.Bool.Decides.{nat_tests}
use Rattle.user_model.specs.declared.call.Call.{Call}
use Rattle.user_model.specs.declared.call.Call.TheVariants.{Get, Peek, PostQuit}
use Rattle.user_model.specs.declared.entry.Answer.{Answer}
use Rattle.user_model.specs.declared.entry.Answer.TheVariants as answers
use Rattle.user_model.specs.declared.entry.Origin.TheVariants as origins
use Rattle.user_model.specs.declared.entry.Entry.{Entry}
use Rattle.user_model.specs.declared.entry.Setup.{Setup}
use Rattle.user_model.specs.Past.{Past, is_refused, unless_refused}
use Rattle.user_model.specs.Deeds.{Deed, Posting, deed, posting_of, quitting, to_thread, to_window}
use Rattle.user_model.specs.Retrievals.{removed_quit, removes, takes_quit}
use Rattle.user_model.specs.Keys.{is_shift_down}
use Rattle.user_model.specs.Posts.{PostedMsg, PostedQuit, ends_post, if_by, posted, posted_by, posts, posts_by, posts_to, queue_of, quit, quit_after, quits, quits_as}
use Rattle.user_model.specs.Inputs.{Element, Injection, elements_by, ends_element, injection, injects, inputs, untaken}
use Rattle.user_model.specs.Targets.{taker}
use Rattle.user_model.specs.Since.{IsTail, has_input_above, has_post_above}
use Rattle.user_model.specs.Status.{came_after, has_input, is_look, last_look, quit_came}
use Rattle.user_model.specs.Legal.{IsLawful}
use Rattle.user_model.proofs.AnswerFacts.{IsInjected}
use Rattle.user_model.proofs.ListLaws.{all_weaker, all_append, all_filter, all_one}
use Rattle.user_model.proofs.ReplyLaws.{by_row}
use Rattle.user_model.proofs.DeliveryReplies.{injected_told}
use Rattle.user_model.proofs.PostCounts.{count-next, count_after}
use Rattle.user_model.proofs.PostOwners.{number_told}
use Rattle.user_model.proofs.InputCounts.{inputs-next, inputs_after}
use Rattle.user_model.proofs.InputLaws.{untaken-next, untaken-refused}
use Rattle.user_model.proofs.QuitLaws.{is_post_quit, quit-next, quit-refused, quit-posted, quit-same}
use Rattle.user_model.proofs.LookLaws.{IsDated, any_agree, dated_new, dated_on, input_count, inputs_grow_on, is_look_of, last_look-look, last_look-other, last_look-refused, look_is_tail, post_count, posts_grow, tail_shorter}

-- ---- posted messages

-- a posted message with its place and its number
abbrev IsDatedPost : Past → PostedMsg → Type 0
IsDatedPost past x = IsDated post_count past x.place x.number

new_posts : (setup : Setup) (e : Entry) (past : Past) (t : ℕ) → IsLawful setup (e ∷ past) → (a : Answer) → e.answer ≡ a → AllByRecursion (IsDatedPost (e ∷ past)) (posts_by t e.who.0 a e.call past)
new_posts setup e past t lawful (answers.Posted k) is = by (posting_of (is_shift_down past e.who.0) e.call)
  where
    next : k ≡ suc (length (posts past))
    next = (number_told setup past e.who.0 e.call k (sym is ∙ lawful.1)).is_next

    counted : post_count (e ∷ past) ≡ suc (post_count past)
    counted = let step = count-next e past in let one : count_after e.answer (length (posts past)) ≡ length (posts past) + 1 = ap (λ a. count_after a (length (posts past))) is in omega (arith, step, one)

    by : (o : Option Posting) → AllByRecursion (IsDatedPost (e ∷ past)) (posted_by t e.who.0 k o past)
    by (Some (to_window w number wparam lparam)) = all_one (IsDatedPost (e ∷ past)) (eqb (queue_of past e.who.0 w) t) _ (λ same. dated_new setup post_count (posts_grow setup) e past k lawful.0 counted next)
    by (Some (to_thread to number wparam lparam)) = all_one (IsDatedPost (e ∷ past)) (eqb to t) _ (λ same. dated_new setup post_count (posts_grow setup) e past k lawful.0 counted next)
    by None = tt
new_posts setup e past t lawful a is = tt

-- each posted message that stands came at its place with its number
pub posted_dated : (setup : Setup) (past : Past) (t : ℕ) → IsLawful setup past → AllByRecursion (IsDatedPost past) (posted past t)
posted_dated setup [] t lawful = tt
posted_dated setup (e ∷ past) t lawful =
    let before : AllByRecursion (IsDatedPost (e ∷ past)) (posted past t) = all_weaker (IsDatedPost past) (IsDatedPost (e ∷ past)) (λ x d. dated_on post_count e past x.place x.number (posts_grow setup e past lawful) d) (posted past t) (posted_dated setup past t lawful.0) in
    elim (is_refused e) as (λ b. AllByRecursion (IsDatedPost (e ∷ past)) (elim b as (λ c. List PostedMsg) [ true ↦ posted past t | false ↦ filter (λ x. not (ends_post t e past x)) (posted past t) ++ posts_to t e past ])) [
      | true ↦ before
      | false ↦ all_append (IsDatedPost (e ∷ past)) (filter (λ x. not (ends_post t e past x)) (posted past t)) (posts_to t e past) (all_filter (IsDatedPost (e ∷ past)) (λ x. not (ends_post t e past x)) (posted past t) before) (new_posts setup e past t lawful e.answer refl)
    ]

-- the posted messages that came after an earlier past are those with a number above the posts that there were then
pub posts_since : (setup : Setup) (look past : Past) (t : ℕ) → IsTail look past → IsLawful setup past → list_any (λ x. came_after look x.place) (posted past t) ≡ has_post_above past t (length (posts look))
posts_since setup look past t tail lawful = any_agree (IsDatedPost past) (λ x. came_after look x.place) (λ x. nat_lt (length (posts look)) x.number) (λ x d. d.agrees look tail) (posted past t) (posted_dated setup past t lawful)

-- ---- input

abbrev IsDatedInput : Past → Element → Type 0
IsDatedInput past x = IsDated input_count past x.place x.number

new_inputs : (setup : Setup) (e : Entry) (past : Past) → IsLawful setup (e ∷ past) → (a : Answer) → e.answer ≡ a → AllByRecursion (IsDatedInput (e ∷ past)) (injects setup a e.call past)
new_inputs setup e past lawful (answers.Input k) is = by (injection e.call)
  where
    told : IsInjected setup past e.call k
    told = injected_told setup past e.who.0 e.call k (by_row setup past e.who.0 e.call (answers.Input k) (sym lawful.1 ∙ is) refl).is_row

    counted : input_count (e ∷ past) ≡ suc (input_count past)
    counted = let step = inputs-next e past in let one : inputs_after e.answer (length (inputs past)) ≡ length (inputs past) + 1 = ap (λ a. inputs_after a (length (inputs past))) is in omega (arith, step, one)

    by : (o : Option Injection) → AllByRecursion (IsDatedInput (e ∷ past)) (elements_by setup past k o)
    by None = tt
    by (Some i) = (dated_new setup input_count (inputs_grow_on setup) e past k lawful.0 counted told.is_next, tt)
new_inputs setup e past lawful a is = tt

-- each untaken element came at its place with its number
pub untaken_dated : (setup : Setup) (past : Past) → IsLawful setup past → AllByRecursion (IsDatedInput past) (untaken setup past)
untaken_dated setup [] lawful = tt
untaken_dated setup (e ∷ past) lawful =
    let before : AllByRecursion (IsDatedInput (e ∷ past)) (untaken setup past) = all_weaker (IsDatedInput past) (IsDatedInput (e ∷ past)) (λ x d. dated_on input_count e past x.place x.number (inputs_grow_on setup e past lawful) d) (untaken setup past) (untaken_dated setup past lawful.0) in
    let keeps : Element → Bool = λ x. not (ends_element setup e past (untaken setup past) x) in
    by (is_refused e) refl before (all_append (IsDatedInput (e ∷ past)) (filter keeps (untaken setup past)) (injects setup e.answer e.call past) (all_filter (IsDatedInput (e ∷ past)) keeps (untaken setup past) before) (new_inputs setup e past lawful e.answer refl))
  where
    by : (b : Bool) → is_refused e ≡ b → AllByRecursion (IsDatedInput (e ∷ past)) (untaken setup past) → AllByRecursion (IsDatedInput (e ∷ past)) (filter (λ x. not (ends_element setup e past (untaken setup past) x)) (untaken setup past) ++ injects setup e.answer e.call past) → AllByRecursion (IsDatedInput (e ∷ past)) (untaken setup (e ∷ past))
    by true r before after = subst (AllByRecursion (IsDatedInput (e ∷ past))) (sym (untaken-refused setup e past r)) before
    by false r before after = subst (AllByRecursion (IsDatedInput (e ∷ past))) (sym (untaken-next setup e past r)) after

turned : (a b c : Bool) → (a && (b && c)) ≡ (b && (a && c))
turned true true c = refl
turned true false c = refl
turned false true c = refl
turned false false c = refl

-- the input that came after an earlier past is that with a number above the inputs that there were then
pub inputs_since : (is_kind : ℕ → Bool) (setup : Setup) (look past : Past) (t : ℕ) → IsTail look past → IsLawful setup past → has_input is_kind setup past t look ≡ has_input_above is_kind setup past t (length (inputs look))
inputs_since is_kind setup look past t tail lawful = any_agree (IsDatedInput past)
    (λ x. is_kind x.message && (came_after look x.place && eqb (taker setup past x) t))
    (λ x. nat_lt (length (inputs look)) x.number && (is_kind x.message && eqb (taker setup past x) t))
    (λ x d. turned (is_kind x.message) (came_after look x.place) (eqb (taker setup past x) t) ∙ ap (λ b. b && (is_kind x.message && eqb (taker setup past x) t)) (d.agrees look tail))
    (untaken setup past) (untaken_dated setup past lawful)

-- ---- quit

-- whether t's quit came after its last look
abbrev pub quit_is_new : Past → ℕ → Bool
quit_is_new past t = quit_came (last_look past t) (quit past t)

quits_place : (e : Entry) (past : Past) (d : Deed) (q : PostedQuit) → quits_as e past d ≡ Some (Some q) → q.place ≡ length past
quits_place e past (quitting code) q h = let same : quit_after past code ≡ q = cc in sym (ap (λ (x : PostedQuit). x.place) same)
quits_place e past _ q h = by (takes_quit e) h
  where
    by : (b : Bool) → cond b (Some None) None ≡ Some (Some q) → q.place ≡ length past
    by true k = absurd cc
    by false k = absurd cc

-- each quit came before now
pub quit_early : (past : Past) (t : ℕ) (q : PostedQuit) → quit past t ≡ Some q → q.place < length past
quit_early [] t q h = absurd cc
quit_early (e ∷ past) t q h = by (λ k. quit_early past t q k) (is_refused e) (sym (quit-next e past t) ∙ h)
  where
    before : (quit past t ≡ Some q → q.place < length past) → quit past t ≡ Some q → q.place < length (e ∷ past)
    before rest k = let early = rest k in omega (arith, early)

    chosen : (quit past t ≡ Some q → q.place < length past) → (new : Option PostedQuit) → quits e past e.call ≡ Some new → (own : Bool) → unwrap_or (cond own (Some new) None) (quit past t) ≡ Some q → q.place < length (e ∷ past)
    chosen rest new is false k = before rest k
    chosen rest None is true k = absurd cc
    chosen rest (Some x) is true k = let same : x ≡ q = cc in subst (λ (y : PostedQuit). y.place < length (e ∷ past)) same (let at = quits_place e past (deed e.call) x is in omega (arith, at))

    shown : (quit past t ≡ Some q → q.place < length past) → (o : Option (Option PostedQuit)) → quits e past e.call ≡ o → unwrap_or (if_by t e.who.0 o) (quit past t) ≡ Some q → q.place < length (e ∷ past)
    shown rest None is k = before rest k
    shown rest (Some new) is k = chosen rest new is (eqb e.who.0 t) k

    by : (quit past t ≡ Some q → q.place < length past) → (b : Bool) → unwrap_or (elim b as (λ _. Option (Option PostedQuit)) [ true ↦ None | false ↦ if_by t e.who.0 (quits e past e.call) ]) (quit past t) ≡ Some q → q.place < length (e ∷ past)
    by rest true k = before rest k
    by rest false k = shown rest (quits e past e.call) refl k

-- a refused entry leaves whether it did
pub quit_is_new-refused : (e : Entry) (past : Past) (t : ℕ) → is_refused e ≡ true → quit_is_new (e ∷ past) t ≡ quit_is_new past t
quit_is_new-refused e past t h = ap (λ l. quit_came l (quit (e ∷ past) t)) (last_look-refused e past t h) ∙ ap (quit_came (last_look past t)) (quit-refused e past t h)

-- a quit that was there at the look is none that came after it
pub quit_is_new-look : (e : Entry) (past : Past) (t : ℕ) → is_refused e ≡ false → is_look_of t e ≡ true → quit_is_new (e ∷ past) t ≡ false
quit_is_new-look e past t fine look = ap (λ l. quit_came l (quit (e ∷ past) t)) (last_look-look e past t fine look) ∙ by (quit (e ∷ past) t) refl
  where
    by : (o : Option PostedQuit) → quit (e ∷ past) t ≡ o → quit_came (e ∷ past) o ≡ false
    by None h = refl
    by (Some q) h = let early = quit_early (e ∷ past) t q h in grind (arith, nat_tests, early)

-- one that is posted came after it
pub quit_is_new-posted : (setup : Setup) (e : Entry) (past : Past) (t code : ℕ) → IsLawful setup past → is_refused e ≡ false → e.call ≡ PostQuit code → eqb e.who.0 t ≡ true → quit_is_new (e ∷ past) t ≡ true
quit_is_new-posted setup e past t code lawful fine call own =
    ap (λ l. quit_came l (quit (e ∷ past) t)) (last_look-other e past t (ap (λ c. is_look c && eqb e.who.0 t) call))
    ∙ ap (quit_came (last_look past t)) (quit-posted e past t code fine call ∙ ap (λ b. cond b (Some (quit_after past code)) (quit past t)) own)
    ∙ late (tail_shorter setup (last_look past t) past (look_is_tail past t) lawful)
  where
    late : length (last_look past t) ≤ length past → nat_le (length (last_look past t)) (length past) ≡ true
    late h = grind (arith, nat_tests, h)

-- what removes is a look
pub removes_looks : (call : Call) → is_look call ≡ false → removes call ≡ false
removes_looks (Peek w min max flags) h = absurd (false≢true (sym h))
removes_looks (Get w min max) h = absurd (false≢true (sym h))
removes_looks _ h = refl

removed_none : (a : Answer) (call : Call) → removes call ≡ false → removed_quit a call ≡ false
removed_none (answers.Got origins.Quit n m) call h = h
removed_none _ call h = refl

first_false : (a b : Bool) → (a && b) ≡ false → b ≡ true → a ≡ false
first_false true b h k = absurd (false≢true (sym h ∙ k))
first_false false b h k = refl

-- an entry that neither is a look of t nor posts its quit leaves the quit
pub quit_kept : (e : Entry) (past : Past) (t : ℕ) → is_look_of t e ≡ false → (is_post_quit e.call && eqb e.who.0 t) ≡ false → quit (e ∷ past) t ≡ quit past t
quit_kept e past t looks posts = by (eqb e.who.0 t) refl
  where
    unsaid : (o : Option (Option PostedQuit)) → eqb e.who.0 t ≡ false → if_by t e.who.0 o ≡ None
    unsaid None k = refl
    unsaid (Some new) k = ap (λ b. cond b (Some new) None) k

    none : (b : Bool) → unwrap_or (elim b as (λ _. Option (Option PostedQuit)) [ true ↦ None | false ↦ None ]) (quit past t) ≡ quit past t
    none true = refl
    none false = refl

    by : (b : Bool) → eqb e.who.0 t ≡ b → quit (e ∷ past) t ≡ quit past t
    by true own = quit-same e past t (first_false (is_post_quit e.call) (eqb e.who.0 t) posts own) (removed_none e.answer e.call (removes_looks e.call (first_false (is_look e.call) (eqb e.who.0 t) looks own)))
    by false own = quit-next e past t ∙ ap (λ o. unwrap_or (unless_refused e o) (quit past t)) (unsaid (quits e past e.call) own) ∙ none (is_refused e)

-- and whether it came after the look
pub quit_is_new-other : (e : Entry) (past : Past) (t : ℕ) → is_look_of t e ≡ false → (is_post_quit e.call && eqb e.who.0 t) ≡ false → quit_is_new (e ∷ past) t ≡ quit_is_new past t
quit_is_new-other e past t looks posts =
    ap (λ l. quit_came l (quit (e ∷ past) t)) (last_look-other e past t looks) ∙ ap (quit_came (last_look past t)) (quit_kept e past t looks posts)

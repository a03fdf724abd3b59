-- What the parts tell of a thread's queue is what the past says.
use Rattle.std.proofs.Common.{◌≡◌, ◌∙◌, ℕ, ◌<◌, Bool, true, eqb, List, [], ◌∷◌, length, map, Option, Some, None, refl, sym, ap, arith}
use Rattle.std.specs.Prelude.{◌&&◌, ◌||◌, is_some, nat_le, nat_lt, option_map}
use Rattle.std.specs.List.{AllByRecursion, list_any}
use Rattle.std.proofs.lemmas.Bool.Decides.{nat_tests}
use Rattle.post_queue.specs.Queue.{Posted}
use Rattle.input_queue.specs.declared.element.Element.{Element as KeptElement}
use Rattle.user_model.specs.Since.{has_due_after, has_input_above}
use Rattle.user_model.specs.Status.{bits_since, came_after, has_input, has_paint, has_post, has_send, has_timer, is_move, is_of_button, is_of_key, last_look, quit_came}
use Rattle.user_model.specs.declared.entry.Setup.{Setup}
use Rattle.user_model.specs.Past.{Past}
use Rattle.user_model.specs.Posts.{PostedMsg, PostedQuit, posted, posts, quit}
use Rattle.user_model.specs.Inputs.{Element, untaken}
use Rattle.user_model.specs.Targets.{taker}
use Rattle.user_model.specs.Legal.{IsLawful}
use Rattle.thread_state.specs.Threads.{as_kept, code_of, thread_at}
use Rattle.user_model.proofs.LookLaws.{look_is_tail, start_is_tail}
use Rattle.user_model.proofs.StatusPosts.{inputs_since, posts_since}
use Rattle.user_model.proofs.StatusTimers.{timers_now, timers_since}
use Rattle.pending_state.specs.Pending.{kept, untaken_at}
use Rattle.look_state.specs.declared.moment.Moment.{Moment}
use Rattle.look_state.specs.Looks.{IsLookAt, LookView, first_look}
use Rattle.look_state.proofs.LookSteps.{not_looked}
use Rattle.core_state.specs.Inputs.{IsAtHome, taker_in}
use Rattle.core_state.specs.Status.{IsBefore, bits_of}
use Rattle.core_state.proofs.Homes.{taker_is}

-- ---- earlier pasts

-- what is kept of no look stands for the past without entries
pub from_start : (setup : Setup) (past : Past) (t : ℕ) → IsLawful setup past → 0 < t → IsBefore setup past [] t first_look
from_start setup past t lawful some = record { lawful = lawful; tail = start_is_tail past; kept = not_looked setup t some; timers = timers_now setup past t lawful }

pub from_look : (setup : Setup) (past : Past) (t : ℕ) (k : LookView) → IsLawful setup past → IsLookAt setup (last_look past t) t k → IsBefore setup past (last_look past t) t k
from_look setup past t k lawful h = record { lawful = lawful; tail = look_is_tail past t; kept = h; timers = timers_since setup past t lawful }

-- ---- input

-- what is kept of the untaken tells whether there is one that counts
pub input_told : (is_kind : ℕ → Bool) (setup : Setup) (past : Past) (t n : ℕ) → AllByRecursion (IsAtHome setup) (untaken setup past)
    → list_any (λ (x : KeptElement). nat_lt n x.number && (is_kind x.message && eqb (taker_in setup past x).0 t)) (untaken_at setup past) ≡ has_input_above is_kind setup past t n
input_told is_kind setup past t n homes = by (untaken setup past) homes
  where
    is_kept : KeptElement → Bool
    is_kept x = nat_lt n x.number && (is_kind x.message && eqb (taker_in setup past x).0 t)

    by : (xs : List Element) → AllByRecursion (IsAtHome setup) xs → list_any is_kept (map kept xs) ≡ list_any (λ (x : Element). nat_lt n x.number && (is_kind x.message && eqb (taker setup past x) t)) xs
    by [] h = refl
    by (x ∷ xs) h =
        ap (λ (a : ℕ). (nat_lt n x.number && (is_kind x.message && eqb a t)) || list_any is_kept (map kept xs)) (taker_is setup past x h.0)
        ∙ ap (λ b. (nat_lt n x.number && (is_kind x.message && eqb (taker setup past x) t)) || b) (by xs h.1)

-- ---- posts

posts_kept : (n : ℕ) (xs : List PostedMsg) → list_any (λ (p : Posted). nat_lt n p.number) (map as_kept xs) ≡ list_any (λ (x : PostedMsg). nat_lt n x.number) xs
posts_kept n [] = refl
posts_kept n (x ∷ xs) = ap (λ b. nat_lt n x.number || b) (posts_kept n xs)

came_at_all : (place : ℕ) → nat_le 0 place ≡ true
came_at_all place = grind (arith, nat_tests)

posts_there : (xs : List PostedMsg) → list_any (λ (p : Posted). true) (map as_kept xs) ≡ list_any (λ x. came_after [] x.place) xs
posts_there [] = refl
posts_there (x ∷ xs) = sym (ap (λ b. b || list_any (λ x. came_after [] x.place) xs) (came_at_all x.place))

quit_there : (o : Option PostedQuit) → is_some (option_map code_of o) ≡ quit_came [] o
quit_there None = refl
quit_there (Some q) = sym (came_at_all q.place)

quit_new : (look : Past) (o : Option PostedQuit) → (is_some (option_map code_of o) && quit_came look o) ≡ quit_came look o
quit_new look None = refl
quit_new look (Some q) = refl

-- what is kept of a thread tells whether a message or quit is there
pub posts_now : (past : Past) (t : ℕ) → (list_any (λ p. true) (thread_at past t).queue.posted || is_some (thread_at past t).quit) ≡ has_post past t []
posts_now past t = ap (λ b. b || is_some (option_map code_of (quit past t))) (posts_there (posted past t)) ∙ ap (λ b. list_any (λ x. came_after [] x.place) (posted past t) || b) (quit_there (quit past t))

-- and whether one came since the last look
pub posts_new : (setup : Setup) (past : Past) (t : ℕ) → IsLawful setup past → (list_any (λ p. nat_lt (thread_at past t).seen p.number) (thread_at past t).queue.posted || is_some (thread_at past t).quit && (thread_at past t).quit_is_new) ≡ has_post past t (last_look past t)
posts_new setup past t lawful =
    let look = last_look past t in
    ap (λ b. b || is_some (option_map code_of (quit past t)) && quit_came look (quit past t)) (posts_kept (length (posts look)) (posted past t) ∙ sym (posts_since setup look past t (look_is_tail past t) lawful))
    ∙ ap (λ b. list_any (λ x. came_after look x.place) (posted past t) || b) (quit_new look (quit past t))

-- ---- all of them

-- the bits of what the parts tell are those of what came after the look
pub bits_told : (setup : Setup) (past look : Past) (t : ℕ) (k : LookView) (key moved button posted timer paint sent : Bool) → IsBefore setup past look t k
    → key ≡ has_input_above is_of_key setup past t k.at.inputs → moved ≡ has_input_above is_move setup past t k.at.inputs → button ≡ has_input_above is_of_button setup past t k.at.inputs
    → posted ≡ has_post past t look → timer ≡ has_due_after past t k.at.time → paint ≡ has_paint setup past t look → sent ≡ has_send past t look
    → bits_of (record { key = key; moved = moved; button = button; posted = posted; timer = timer; paint = paint; sent = sent }) ≡ bits_since setup past t look
bits_told setup past look t k key moved button posted timer paint sent b is_key is_moved is_button is_posted is_timer is_paint is_sent =
    ap (λ x. sum x moved button posted timer paint sent) (is_key ∙ input is_of_key)
    ∙ ap (λ x. sum (has_input is_of_key setup past t look) x button posted timer paint sent) (is_moved ∙ input is_move)
    ∙ ap (λ x. sum (has_input is_of_key setup past t look) (has_input is_move setup past t look) x posted timer paint sent) (is_button ∙ input is_of_button)
    ∙ ap (λ x. with_inputs x timer paint sent) is_posted
    ∙ ap (λ x. with_inputs (has_post past t look) x paint sent) (is_timer ∙ ap (λ (m : Moment). has_due_after past t m.time) b.kept.at ∙ sym b.timers)
    ∙ ap (λ x. with_inputs (has_post past t look) (has_timer past t look) x sent) is_paint
    ∙ ap (λ x. with_inputs (has_post past t look) (has_timer past t look) (has_paint setup past t look) x)
    is_sent
  where
    sum : Bool → Bool → Bool → Bool → Bool → Bool → Bool → ℕ
    sum key moved button posted timer paint sent = bits_of (record { key = key; moved = moved; button = button; posted = posted; timer = timer; paint = paint; sent = sent })

    with_inputs : Bool → Bool → Bool → Bool → ℕ
    with_inputs = sum (has_input is_of_key setup past t look) (has_input is_move setup past t look) (has_input is_of_button setup past t look)

    input : (is_kind : ℕ → Bool) → has_input_above is_kind setup past t k.at.inputs ≡ has_input is_kind setup past t look
    input is_kind = ap (λ (m : Moment). has_input_above is_kind setup past t m.inputs) b.kept.at ∙ sym (inputs_since is_kind setup look past t b.tail b.lawful)

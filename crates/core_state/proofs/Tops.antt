-- The send of a thread's newest frame is known, and so told by the parts.
use Rattle.std.proofs.Common.{◌≡◌, ℕ, Bool, true, false, not, List, [], ◌∷◌, Option, Some, None, refl, ap, ◌∙◌, sym, subst}
use Rattle.std.specs.Prelude.{◌||◌, option_map, option_and_then}
use Rattle.std.specs.List.{AllByRecursion, list_any}
use Rattle.std.specs.FinMap as map
use Rattle.std.proofs.lemmas.Bool.{false≢true, eqb-true}
use Rattle.win_num.specs.declared.send.Kind.{Kind}
use Rattle.win_num.specs.declared.send.Kind.TheVariants.{Wait as WaitKind, Timeout as WithTimeout, Notify, Callback as WithCallback}
use Rattle.win_num.specs.declared.send.Frame.{Frame}
use Rattle.win_num.specs.declared.send.Frame.TheVariants.{Entered, Inside as InsideFrame, Called as CalledFrame, CallbackRun, Await as AwaitFrame}
use Rattle.user_model.specs.declared.entry.Setup.{Setup}
use Rattle.user_model.specs.Past.{Past, first}
use Rattle.user_model.specs.Stacks.{stack}
use Rattle.user_model.specs.Sends.{SentMsg, answer, is_answered, is_owed, is_stacked, is_unfinished, names_send, send}
use Rattle.user_model.specs.ReplySends.{blocks, blocks_in, deadline, deadline_in}
use Rattle.user_model.specs.Legal.{IsLawful}
use Rattle.user_model.proofs.SendStanding.{FrameStands, Standing}
use Rattle.user_model.proofs.SendLawful.{lawful_standing}
use Rattle.send_frames.specs.Book.{KnownSend}
use Rattle.send_state.specs.Parts.{SendParts, blocks_as, deadline_of}
use Rattle.send_state.specs.Parts as kept
use Rattle.send_state.proofs.Values.{answered-stands, known-stands}
use Rattle.send_state.specs.Standing.{PartsStand, as_told, known_as, row_of}
use Rattle.core_state.specs.Frames.{IsOnTop}

-- the send of a number is unfinished, and has it
pub record IsKept (past : Past) (s : ℕ) : Type 0 where
  pub of : SentMsg
  pub found : send past s ≡ Some of
  pub is_number : of.number ≡ s
  pub unfinished : is_unfinished past of ≡ true

-- what is so of each frame is so of the newest
of_top : (P : Frame → Type 0) (fs : List Frame) (f : Frame) → AllByRecursion P fs → first fs ≡ Some f → P f
of_top P [] f all e = absurd cc
of_top P (g ∷ gs) f all e = let same : g ≡ f = cc in subst P same all.0

any_top : (s : ℕ) (fs : List Frame) (f : Frame) → first fs ≡ Some f → names_send f s ≡ true → list_any (λ g. names_send g s) fs ≡ true
any_top s [] f e named = absurd cc
any_top s (g ∷ gs) f e named =
    let same : g ≡ f = cc in
    ap (λ k. names_send k s || list_any (λ j. names_send j s) gs) same ∙ ap (λ b. b || list_any (λ j. names_send j s) gs) named

in_first : (a b : Bool) → a ≡ true → (a || b) ≡ true
in_first true b h = refl
in_first false b h = absurd (false≢true h)

in_second : (a b : Bool) → b ≡ true → (a || b) ≡ true
in_second true b h = refl
in_second false b h = h

in_middle : (a b c : Bool) → b ≡ true → (a || (b || c)) ≡ true
in_middle a true c h = in_second a true refl
in_middle a false c h = absurd (false≢true h)

kept_stacked : (past : Past) (s : ℕ) (x : SentMsg) → send past s ≡ Some x → x.number ≡ s → is_stacked past x ≡ true → IsKept past s
kept_stacked past s x found number stacked = record {
  of = x;
  found = found;
  is_number = number;
  unfinished = in_middle (not (is_answered past x.number)) (is_stacked past x) (is_owed past x) stacked;
}

kept_to : (past : Past) (t s : ℕ) (x : SentMsg) → send past s ≡ Some x → x.number ≡ s → x.to ≡ t → list_any (λ g. names_send g s) (stack past t) ≡ true → IsKept past s
kept_to past t s x found number to any =
    kept_stacked past s x found number
    (in_second (list_any (λ g. names_send g x.number) (stack past x.from)) (list_any (λ g. names_send g x.number) (stack past x.to))
    (ap (λ n. list_any (λ g. names_send g n) (stack past x.to)) number ∙ ap (λ u. list_any (λ g. names_send g s) (stack past u)) to ∙ any))

kept_from : (past : Past) (t s : ℕ) (x : SentMsg) → send past s ≡ Some x → x.number ≡ s → x.from ≡ t → list_any (λ g. names_send g s) (stack past t) ≡ true → IsKept past s
kept_from past t s x found number from any =
    kept_stacked past s x found number
    (in_first (list_any (λ g. names_send g x.number) (stack past x.from)) (list_any (λ g. names_send g x.number) (stack past x.to))
    (ap (λ n. list_any (λ g. names_send g n) (stack past x.from)) number ∙ ap (λ u. list_any (λ g. names_send g s) (stack past u)) from ∙ any))

kept_by : (setup : Setup) (past : Past) (t s : ℕ) (f : Frame) → Standing setup past → FrameStands past t f → names_send f s ≡ true → list_any (λ g. names_send g s) (stack past t) ≡ true → IsKept past s
kept_by setup past t s (Entered u) standing k named any =
    let found : send past s ≡ Some k.of = ap (send past) (sym (eqb-true u.0 s named)) ∙ k.found in
    kept_to past t s k.of found (standing.sent s k.of found).is_number k.to any
kept_by setup past t s (InsideFrame u) standing k named any =
    let found : send past s ≡ Some k.of = ap (send past) (sym (eqb-true u.0 s named)) ∙ k.found in
    kept_to past t s k.of found (standing.sent s k.of found).is_number k.to any
kept_by setup past t s (AwaitFrame u) standing k named any =
    let found : send past s ≡ Some k.of = ap (send past) (sym (eqb-true u.0 s named)) ∙ k.found in
    kept_from past t s k.of found (standing.sent s k.of found).is_number k.from any
kept_by setup past t s CalledFrame standing k named any = absurd (false≢true named)
kept_by setup past t s CallbackRun standing k named any = absurd (false≢true named)

-- the send of the newest frame is unfinished
pub top_kept : (setup : Setup) (past : Past) (t s : ℕ) → IsLawful setup past → IsOnTop past t s → IsKept past s
top_kept setup past t s lawful on =
    let standing = lawful_standing setup past lawful in
    kept_by setup past t s on.frame standing (of_top (FrameStands past t) (stack past t) on.frame (standing.frames t) on.is_top) on.names (any_top s (stack past t) on.frame on.is_top on.names)

-- ---- what the parts tell of it

-- it is known
pub top_known : (setup : Setup) (past : Past) (p : SendParts) (s : ℕ) (k : IsKept past s) → PartsStand setup past p → map.get p.book.known s ≡ Some (known_as past k.of)
top_known setup past p s k h = known-stands setup past p s k.of h k.found k.unfinished

-- its answer
pub top_answer : (setup : Setup) (past : Past) (p : SendParts) (s : ℕ) → IsKept past s → PartsStand setup past p → option_and_then (λ (k : KnownSend). k.answer) (map.get p.book.known s) ≡ option_map as_told (answer past s)
top_answer setup past p s k h = answered-stands setup past p s k.of h k.found k.unfinished ∙ ap (λ n. option_map as_told (answer past n)) k.is_number

-- how it was made
pub top_row : (setup : Setup) (past : Past) (p : SendParts) (s : ℕ) → IsKept past s → PartsStand setup past p → option_map (λ (k : KnownSend). k.row) (map.get p.book.known s) ≡ option_map row_of (send past s)
top_row setup past p s k h = ap (option_map (λ (k : KnownSend). k.row)) (top_known setup past p s k h) ∙ sym (ap (option_map row_of) k.found)

deadline_as : (x : SentMsg) (k : Kind) → kept.deadline_in (row_of x) k ≡ deadline_in x k
deadline_as x WaitKind = refl
deadline_as x (WithTimeout flags ms) = refl
deadline_as x Notify = refl
deadline_as x (WithCallback proc_no extra) = refl

-- when it gives up
pub top_deadline : (setup : Setup) (past : Past) (p : SendParts) (s : ℕ) → IsKept past s → PartsStand setup past p → deadline_of p.book s ≡ deadline past s
top_deadline setup past p s k h =
    ap (option_and_then (λ (k : KnownSend). kept.deadline_in k.row k.row.kind)) (top_known setup past p s k h)
    ∙ deadline_as k.of k.of.kind
    ∙ sym (ap (λ (o : Option SentMsg). elim o as (λ _. Option ℕ) [ Some x ↦ deadline_in x x.kind | None ↦ None ]) k.found)

blocks_same : (k : Kind) → kept.blocks_in k ≡ blocks_in k
blocks_same WaitKind = refl
blocks_same (WithTimeout flags ms) = refl
blocks_same Notify = refl
blocks_same (WithCallback proc_no extra) = refl

-- whether its sender serves nobody
pub top_blocks : (setup : Setup) (past : Past) (p : SendParts) (s : ℕ) → IsKept past s → PartsStand setup past p → blocks_as (map.get p.book.known s) ≡ blocks past s
top_blocks setup past p s k h =
    ap blocks_as (top_known setup past p s k h) ∙ blocks_same k.of.kind
    ∙ sym (ap (λ (o : Option SentMsg). elim o as (λ _. Bool) [ Some x ↦ blocks_in x.kind | None ↦ false ]) k.found)

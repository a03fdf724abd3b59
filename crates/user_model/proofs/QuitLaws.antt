-- Quit at a past with one entry more.
use Rattle.std.proofs.Common.{◌≡◌, ℕ, Bool, true, false, cond, eqb, ◌∷◌, Option, Some, None, refl, ap, ◌∙◌, sym}
use Rattle.std.specs.Prelude.{◌&&◌, unwrap_or, is_some}
use Rattle.std.proofs.lemmas.Bool.{false≢true}
use Rattle.win_num.specs.declared.message.Msg.{Msg}
use Rattle.user_model.specs.declared.call.Call.{Call}
use Rattle.user_model.specs.declared.call.Call.TheVariants.{PostQuit}
use Rattle.user_model.specs.declared.entry.Answer.{Answer}
use Rattle.user_model.specs.declared.entry.Answer.TheVariants as answers
use Rattle.user_model.specs.declared.entry.Origin.TheVariants as origins
use Rattle.user_model.specs.declared.entry.Entry.{Entry}
use Rattle.user_model.specs.Past.{Past, is_refused, is_refusal, unless_refused, last_of}
use Rattle.user_model.specs.Retrievals.{removes, removed_quit, takes_quit}
use Rattle.user_model.specs.Posts.{PostedQuit, quit, quit_after, quits, if_by}
use Rattle.user_model.specs.Deeds.{retrieves}
use Rattle.user_model.proofs.ClockLaws.{last_of-next, unwrap_or-or_else}
use Rattle.user_model.specs.declared.entry.Setup.{Setup}
use Rattle.user_model.specs.Idle.{reply}
use Rattle.user_model.proofs.ReplyLaws.{by_call}
use Rattle.user_model.proofs.PostLaws.{is_plain}

-- t's quit is what t's entry says, or what it was
pub quit-next : (e : Entry) (past : Past) (t : ℕ) → quit (e ∷ past) t ≡ unwrap_or (unless_refused e (if_by t e.who.0 (quits e past e.call))) (quit past t)
quit-next e past t = ap (λ o. unwrap_or o None) (last_of-next (λ (e : Entry) (before : Past). if_by t e.who.0 (quits e before e.call)) e past) ∙ unwrap_or-or_else (unless_refused e (if_by t e.who.0 (quits e past e.call))) (last_of (λ (e : Entry) (before : Past). if_by t e.who.0 (quits e before e.call)) past) None

-- a refused entry leaves quit
pub quit-refused : (e : Entry) (past : Past) (t : ℕ) → is_refused e ≡ true → quit (e ∷ past) t ≡ quit past t
quit-refused e past t h = quit-next e past t ∙ ap (λ b. unwrap_or (elim b as (λ c. Option (Option PostedQuit)) [ true ↦ None | false ↦ if_by t e.who.0 (quits e past e.call) ]) (quit past t)) h

said : (b : Bool) (new old : Option PostedQuit) → unwrap_or (cond b (Some new) None) old ≡ cond b new old
said true new old = refl
said false new old = refl

-- an entry that says something of quit says it of its own thread
pub quit-of : (e : Entry) (past : Past) (t : ℕ) (new : Option PostedQuit) → is_refused e ≡ false → quits e past e.call ≡ Some new → quit (e ∷ past) t ≡ cond (eqb e.who.0 t) new (quit past t)
quit-of e past t new h says =
    quit-next e past t
    ∙ ap (λ b. unwrap_or (elim b as (λ c. Option (Option PostedQuit)) [ true ↦ None | false ↦ if_by t e.who.0 (quits e past e.call) ]) (quit past t)) h
    ∙ ap (λ o. unwrap_or (if_by t e.who.0 o) (quit past t)) says
    ∙ said (eqb e.who.0 t) new (quit past t)

none_said : (refused : Bool) (old : Option PostedQuit) → unwrap_or (elim refused as (λ c. Option (Option PostedQuit)) [ true ↦ None | false ↦ None ]) old ≡ old
none_said true old = refl
none_said false old = refl

-- an entry that says nothing of quit leaves it
pub quit-unsaid : (e : Entry) (past : Past) (t : ℕ) → quits e past e.call ≡ None → quit (e ∷ past) t ≡ quit past t
quit-unsaid e past t says =
    quit-next e past t
    ∙ ap (λ o. unwrap_or (unless_refused e (if_by t e.who.0 o)) (quit past t)) says
    ∙ none_said (is_refused e) (quit past t)

-- a posting of quit
pub quit-posted : (e : Entry) (past : Past) (t code : ℕ) → is_refused e ≡ false → e.call ≡ PostQuit code → quit (e ∷ past) t ≡ cond (eqb e.who.0 t) (Some (quit_after past code)) (quit past t)
quit-posted e past t code h call = quit-of e past t (Some (quit_after past code)) h (ap (quits e past) call)

-- whether the call posts quit
abbrev pub is_post_quit : Call → Bool
is_post_quit (PostQuit code) = true
is_post_quit _ = false

says_taken : (e : Entry) (past : Past) (call : Call) → is_post_quit call ≡ false → quits e past call ≡ cond (takes_quit e) (Some None) None
says_taken e past (PostQuit code) h = absurd (false≢true (sym h))
says_taken e past _ h = refl

-- a call that neither posts quit nor removes it leaves it
pub quit-same : (e : Entry) (past : Past) (t : ℕ) → is_post_quit e.call ≡ false → takes_quit e ≡ false → quit (e ∷ past) t ≡ quit past t
quit-same e past t call kept = quit-unsaid e past t (says_taken e past e.call call ∙ ap (λ b. cond b (Some None) None) kept)

retrieves_no_quit : (call : Call) → is_some (retrieves call) ≡ true → is_post_quit call ≡ false
retrieves_no_quit (PostQuit code) h = absurd (false≢true h)
retrieves_no_quit _ h = refl

-- a retrieval that hands out quit and removes it takes its thread's quit away
pub quit-taken : (e : Entry) (past : Past) (t n : ℕ) (m : Msg) → e.answer ≡ answers.Got origins.Quit n m → is_some (retrieves e.call) ≡ true → quit (e ∷ past) t ≡ cond (removes e.call && eqb e.who.0 t) None (quit past t)
quit-taken e past t n m is call = step (removes e.call) refl
  where
    step : (b : Bool) → removes e.call ≡ b → quit (e ∷ past) t ≡ cond (b && eqb e.who.0 t) None (quit past t)
    step true h = quit-of e past t None (ap is_refusal is) (says_taken e past e.call (retrieves_no_quit e.call call) ∙ ap (λ b. cond b (Some None) None) (ap (λ a. removed_quit a e.call) is ∙ h))
    step false h = quit-same e past t (retrieves_no_quit e.call call) (ap (λ a. removed_quit a e.call) is ∙ h)

-- whether the answer hands out quit
abbrev pub is_got_quit : Answer → Bool
is_got_quit (answers.Got origins.Quit n m) = true
is_got_quit _ = false

no_quit_taken : (a : Answer) (call : Call) → is_got_quit a ≡ false → removed_quit a call ≡ false
no_quit_taken (answers.Got origins.Quit n m) call h = absurd (false≢true (sym h))
no_quit_taken _ call h = refl

-- an entry that neither posts quit nor hands it out leaves it
pub quit-other : (e : Entry) (past : Past) (t : ℕ) → is_post_quit e.call ≡ false → is_got_quit e.answer ≡ false → quit (e ∷ past) t ≡ quit past t
quit-other e past t call miss = quit-same e past t call (no_quit_taken e.answer e.call miss)

plain_no_quit : (setup : Setup) (past : Past) (who : ℕ) (call : Call) (a : Answer) → a ≡ reply setup past who call → is_plain a ≡ true → is_refusal a ≡ false → is_post_quit call ≡ false
plain_no_quit setup past who (PostQuit code) a e plain hit = absurd (false≢true (ap is_plain (by_call setup past who (PostQuit code) a (sym e) refl hit).is_row ∙ plain))
plain_no_quit setup past who _ a e plain hit = refl

plain_no_got : (a : Answer) → is_plain a ≡ true → is_got_quit a ≡ false
plain_no_got (answers.Got o n m) h = absurd (false≢true h)
plain_no_got _ h = refl

-- a lawful entry whose answer is no post's, no retrieval's, no end's and isn't okay leaves quit
pub quit-plain : (setup : Setup) (e : Entry) (past : Past) (t : ℕ) → e.answer ≡ reply setup past e.who.0 e.call → is_plain e.answer ≡ true → quit (e ∷ past) t ≡ quit past t
quit-plain setup e past t right plain = step (is_refused e) refl
  where
    step : (b : Bool) → is_refused e ≡ b → quit (e ∷ past) t ≡ quit past t
    step true h = quit-refused e past t h
    step false h = quit-other e past t (plain_no_quit setup past e.who.0 e.call e.answer right plain h) (plain_no_got e.answer plain)

-- Attached threads are threads of the setup.
use Rattle.std.proofs.Common.{◌≡◌, ℕ, Bool, true, false, not, [], ◌∷◌, subst, sym, ap, refl, ◌∙◌}
use Rattle.std.specs.Prelude.{◌&&◌, filter}
use Rattle.std.specs.List.{AllByRecursion}
use Rattle.std.proofs.lemmas.Bool.{false≢true}
use Rattle.user_model.specs.declared.call.Call.{Call}
use Rattle.user_model.specs.declared.call.Call.TheVariants as calls
use Rattle.user_model.specs.declared.entry.Entry.{Entry}
use Rattle.user_model.specs.declared.entry.Setup.{Setup}
use Rattle.user_model.specs.Past.{Past, is_refused}
use Rattle.user_model.specs.Places.{has_ended}
use Rattle.user_model.specs.Threads.{is_thread, is_running}
use Rattle.user_model.specs.Groups.{Link, attached, attaches, unlinks}
use Rattle.user_model.specs.Idle.{reply}
use Rattle.user_model.specs.Legal.{IsLawful}
use Rattle.user_model.proofs.ListLaws.{all_append, all_filter}
use Rattle.user_model.proofs.GroupLaws.{attached-next, attached-refused}
use Rattle.user_model.proofs.GroupReplies.{attach_told}

-- both ends are threads
pub record JoinsThreads (setup : Setup) (x : Link) : Type 0 where
  pub one : is_thread setup x.one ≡ true
  pub other : is_thread setup x.other ≡ true

-- a thread that runs is a thread
pub running_is_thread : (setup : Setup) (past : Past) (t : ℕ) → is_running setup past t ≡ true → is_thread setup t ≡ true
running_is_thread setup past t h = by (is_thread setup t) h
  where
    by : (b : Bool) → (b && not (has_ended past t)) ≡ true → b ≡ true
    by true k = refl
    by false k = absurd (false≢true k)

made : (setup : Setup) (past : Past) (e : Entry) (call : Call) → e.answer ≡ reply setup past e.who.0 e.call → is_refused e ≡ false → e.call ≡ call → AllByRecursion (JoinsThreads setup) (attaches call)
made setup past e (calls.Attach t u) right fine is =
    let told = attach_told setup past e.who.0 t u e.answer (sym (right ∙ ap (reply setup past e.who.0) is)) fine in
    (record { one = running_is_thread setup past t told.one; other = running_is_thread setup past u told.other }, tt)
made setup past e _ right fine is = tt

-- each link is one of threads
pub links_join_threads : (setup : Setup) (past : Past) → IsLawful setup past → AllByRecursion (JoinsThreads setup) (attached past)
links_join_threads setup [] lawful = tt
links_join_threads setup (e ∷ past) lawful = by (links_join_threads setup past lawful.0) (is_refused e) refl
  where
    by : AllByRecursion (JoinsThreads setup) (attached past) → (b : Bool) → is_refused e ≡ b → AllByRecursion (JoinsThreads setup) (attached (e ∷ past))
    by before true h = subst (AllByRecursion (JoinsThreads setup)) (sym (attached-refused e past h)) before
    by before false h = subst (AllByRecursion (JoinsThreads setup)) (sym (attached-next e past h))
        (all_append (JoinsThreads setup) (filter (λ x. not (unlinks e x)) (attached past)) (attaches e.call)
        (all_filter (JoinsThreads setup) (λ x. not (unlinks e x)) (attached past) before)
        (made setup past e e.call lawful.1 h refl))

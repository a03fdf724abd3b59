-- Who makes a call.
use Rattle.std.specs.Prelude.{◌≡◌, ◌<◌, ℕ}
use Rattle.user_core.specs.declared.actor.Actor.{Actor}
use Rattle.user_core.specs.declared.actor.Actor.TheVariants.{Clock, Numbered}

-- whether it is the actor of a number: 0 is the clock's, any other a thread's
abbrev pub IsActorOf : ℕ → Actor → Type 0
IsActorOf who Clock = who ≡ 0
IsActorOf who (Numbered n) = (n ≡ who) × (0 < n)

use Rattle.std.proofs.Common.{◌≡◌, drop}
use Rattle.std.specs.List.{list_all}
use Rattle.script_text.specs.Limits.{is_turn}
use Rattle.script_text.proofs.head.all_threads.Given as goal

abbrev pub invariant-loop-turn : goal.invariant-loop-turn
invariant-loop-turn l = list_all is_turn (drop l.turn-index l.order) ≡ list_all is_turn l.order

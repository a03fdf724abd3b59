use Rattle.std.proofs.Common.{◌≡◌, drop, Some}
use Rattle.script_lines.specs.NameLimits.{seen_after}
use Rattle.script_text.proofs.limits.seen_in.Given as goal

abbrev pub invariant-loop-part : goal.invariant-loop-part
invariant-loop-part l = seen_after l.count (Some l.seen) (drop l.part-index l.parts) ≡ seen_after l.count (Some l.before) l.parts

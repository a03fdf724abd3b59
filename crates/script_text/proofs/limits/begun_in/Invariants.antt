use Rattle.std.proofs.Common.{◌≡◌, drop, Some}
use Rattle.script_lines.specs.NameLimits.{begun_after}
use Rattle.script_text.proofs.limits.begun_in.Given as goal

abbrev pub invariant-loop-part : goal.invariant-loop-part
invariant-loop-part l = begun_after l.count (Some l.begun) (drop l.part-index l.parts) ≡ begun_after l.count (Some l.before) l.parts

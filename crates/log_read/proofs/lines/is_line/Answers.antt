use Rattle.std.proofs.Common.{◌≡◌, ◌-◌, length, take, ap, sym, ◌∙◌}
use Rattle.std.proofs.lemmas.Slice.Eq.{bytes_eq-Decides}
use Rattle.log_read.proofs.LogParts.{but_last}
use Rattle.log_read.proofs.lines.is_line.Goals as goal

pub returns : goal.returns
returns c front e =
    let same : take (length c.args.line.now - 1) c.args.line.now ≡ front = ap (λ l. take (length l - 1) l) e ∙ but_last front 10 in
    (λ h. sym same ∙ (bytes_eq-Decides _ _).0 (sym c.eq.ensures ∙ h), λ h. c.eq.ensures ∙ (bytes_eq-Decides _ _).1 (same ∙ h))

use Rattle.std.proofs.Common.{◌≡◌, ◌++◌, List, ℕ, take, sym, ap, ◌∙◌, append_assoc, take-append-drop}
use Rattle.std.proofs.KnownBytes.{Appends-trans}
use Rattle.user_io.proofs.writing.write_all.Goals as goal

pub loop-rest-preserved : goal.loop-rest-preserved
loop-rest-preserved g c =
    let n = c.in-Put.count in
    let front = c.loop-rest.invariant.bytes.0 in
    let piece : List ℕ = take n c.loop-rest.rest.now in
    let cut : c.loop-rest.rest.now ≡ piece ++ c.split_at.result.1.now = sym (take-append-drop n c.loop-rest.rest.now) ∙ ap (λ (l : List ℕ). piece ++ l) (sym c.split_at.ensures.back) in
    record {
      bytes = (front ++ piece, c.loop-rest.invariant.bytes.1 ∙ ap (λ (l : List ℕ). front ++ l) cut ∙ sym (append_assoc front piece c.split_at.result.1.now), Appends-trans _ _ _ front piece c.loop-rest.invariant.bytes.2 c.in-Put.ensures.put.bytes);
      faults = c.in-Put.ensures.count ∙ c.loop-rest.invariant.faults;
    }

use Rattle.std.proofs.Common.{List, ◌++◌, ◌∷◌, [], refl, ap, ◌∙◌, to_z, of_z, w32, arith}
use Rattle.std.proofs.lemmas.Int.{ints}
use Rattle.band_region.specs.declared.columns.Span.{Span}
use Rattle.band_region.proofs.Spans.{span_pushed, last_joined, ended_apart, last_kept, none_ended, added_at}
use Rattle.band_region.proofs.columns.push_span.Goals as goal
use Rattle.band_region.proofs.columns.push_span.Goals.{in_default, in-Some+else-last-l}

pub returns-then-last-l : goal.returns-then-last-l
returns-then-last-l c = let e = c.in-Some.ensures in
    last_joined _ _ c.in-Some.last.now _ _ _ c.args.spans.now.ok.0 (e.variant.0 refl) e.value c.requires.row (omega (arith, ints)) refl (omega (arith, ints)) c.requires.across c.requires.right_near

pub returns : goal.returns
returns c = let pushed = λ (ss : List Span). ss ++ record { l = to_z w32 (of_z w32 c.args.l); r = to_z w32 (of_z w32 c.args.r) } ∷ [] in
    elim c.match-last_mut.branch [
      | in-Some+else-last-l w ↦ let e = w.in-Some.ensures in
          added_at (c.in_ok-push.ensures.items ∙ (ap (λ v. pushed v.items) w.spans-is ∙ ap pushed (last_kept _ _ _ e.value)))
          (span_pushed _ _ _ _ c.requires.row (ended_apart _ _ w.in-Some.last.now _ c.args.spans.now.ok.0 (e.variant.0 refl) e.value c.requires.row c.requires.ended (λ h. absurd (omega (arith, ints)))) (omega (arith, ints)) (omega (arith, ints)) c.requires.across c.requires.left_near c.requires.right_near)
      | in_default w ↦
          added_at (c.in_ok-push.ensures.items ∙ ap (λ v. pushed v.items) w.spans-is)
          (span_pushed _ _ _ _ c.requires.row (none_ended _ _ _ c.args.spans.now.ok.0 w.in_default.ensures.variant.1) (omega (arith, ints)) (omega (arith, ints)) c.requires.across c.requires.left_near c.requires.right_near)
    ]

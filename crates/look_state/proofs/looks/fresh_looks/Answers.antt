use Rattle.std.proofs.Common.{◌≡◌, All, sym, ap, ◌∙◌, subst, length, ◌+◌}
use Rattle.std.proofs.lemmas.List.{length_push}
use Rattle.std.proofs.lemmas.List.Elements.{All-push}
use Rattle.look_state.specs.Looks.{LookView, first_look}
use Rattle.look_state.proofs.looks.fresh_looks.Goals as goal

pub loop-preserved : goal.loop-preserved
loop-preserved c =
    let pushed = c.in_ok-push.ensures.items in
    record {
      count = ap length pushed ∙ length_push c.loop.looks.items c.new.result ∙ ap (λ n. n + 1) c.loop.invariant.count;
      fresh = subst (All (λ (k : LookView). k ≡ first_look)) (sym pushed) (All-push (λ (k : LookView). k ≡ first_look) c.loop.looks.items c.new.result c.loop.invariant.fresh c.new.ensures);
    }

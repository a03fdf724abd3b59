use Rattle.std.proofs.Common.{ℕ, sym, subst}
use Rattle.user_model.specs.declared.call.Call.{Call}
use Rattle.user_model.specs.declared.call.Call.TheVariants.{Drop}
use Rattle.thread_queues.specs.Deliveries.{goes_with}
use Rattle.core_state.specs.Sendings.{FitsDropped, FitsLosing, dropped_losses}
use Rattle.send_state.specs.Stories.{EachStory, noted_loss}
use Rattle.core_state.proofs.sendings.lose_dropped.Goals as goal

pub lose-requires-clause-joins : goal.lose-requires-clause-joins
lose-requires-clause-joins c =
    let here : FitsDropped c.args.tree.now.live c.args.place (Drop c.in-Drop.w) c.args.sends.now = subst (λ (k : Call). FitsDropped c.args.tree.now.live c.args.place k c.args.sends.now) c.in-Drop.is c.requires in
    let fits = subst (λ (n : ℕ). FitsLosing (goes_with c.args.tree.now.live n) c.args.sends.now c.args.place) (sym c.window_or_none-window.ensures) here.1 in
    (goes_with c.args.tree.now.live c.window_or_none-window.result.0, λ w b p. p.1, fits.joins)

pub returns-in-Drop-clause-stories : goal.returns-in-Drop-clause-stories
returns-in-Drop-clause-stories c =
    let live = c.args.tree.now.live in
    let here = c.note_losses.ensures (goes_with live c.window_or_none-window.result.0) (λ w b p. p.1) in
    subst (λ (k : Call). EachStory (dropped_losses live c.args.place k c.args.sends.now) c.args.stories.now c.note_losses.new.stories) (sym c.in-Drop.is)
    (subst (λ (n : ℕ). EachStory (noted_loss (goes_with live n) c.args.sends.now c.args.place) c.args.stories.now c.note_losses.new.stories) c.window_or_none-window.ensures here)

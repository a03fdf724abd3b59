use Rattle.std.proofs.Common.{◌≡◌, ℕ, List, [], ◌∷◌, Option, Some, None, refl, sym, ap, ◌∙◌, subst}
use Rattle.user_model.specs.declared.entry.Entry.{Entry}
use Rattle.user_model.specs.declared.entry.Setup.{Setup}
use Rattle.user_model.specs.Legal.{IsLawful}
use Rattle.user_model.specs.Past.{Past}
use Rattle.log_text.specs.Ends.{setup_of}
use Rattle.log_text.specs.Frames.{rows, shown}
use Rattle.log_replay.specs.Replays.{DifferAt}
use Rattle.log_replay.proofs.Differing.{kept_is, none_kept, rows_kept, row_kept, rows_sized, differ_sized}
use Rattle.log_replay.proofs.moves.frame_fault.Goals as goal

pub returns-in_err-right : goal.returns-in_err-right
returns-in_err-right g c = λ before is.
    let s = c.args.script.now in
    let past = g.M.Machine.past c.args.machine.now in
    let setup = g.M.Machine.setup c.args.machine.now in
    let kept = kept_is s setup before c.entry.result c.args.entry.now None c.requires.setup c.entry.ensures (c.in_err-right.ensures [] before (subst (λ (x : Setup). IsLawful x past) (sym c.requires.setup) c.requires.lawful) (is ∙ ap (λ (x : Entry). x ∷ before) (sym c.entry.ensures))) in
    rw c.from_residual-in_err-right.ensures (none_kept s before c.args.entry.now c.requires.entry (sym kept))

pub returns-in_err-row : goal.returns-in_err-row
returns-in_err-row g c = λ before is.
    let s = c.args.script.now in
    let past = g.M.Machine.past c.args.machine.now in
    let setup = g.M.Machine.setup c.args.machine.now in
    let kept = kept_is s setup before c.entry.result c.args.entry.now (Some c.in_ok-right.right.now) c.requires.setup c.entry.ensures (c.in_ok-right.ensures [] before (subst (λ (x : Setup). IsLawful x past) (sym c.requires.setup) c.requires.lawful) (is ∙ ap (λ (x : Entry). x ∷ before) (sym c.entry.ensures))) in
    rw c.from_residual-in_err-row.ensures (rows_kept s before c.args.entry.now c.in_ok-found.found.now c.in_ok-right.right.now c.requires.entry (sym c.in_ok-found.ensures) (sym kept)
    (rows_sized s c.width.result c.height.result c.in_ok-found.found.now c.in_ok-right.right.now c.width.ensures c.height.ensures (c.in_err-row.ensures.same refl)))

pub returns : goal.returns
returns g c = λ before is.
    let s = c.args.script.now in
    let past = g.M.Machine.past c.args.machine.now in
    let setup = g.M.Machine.setup c.args.machine.now in
    let kept = kept_is s setup before c.entry.result c.args.entry.now (Some c.in_ok-right.right.now) c.requires.setup c.entry.ensures (c.in_ok-right.ensures [] before (subst (λ (x : Setup). IsLawful x past) (sym c.requires.setup) c.requires.lawful) (is ∙ ap (λ (x : Entry). x ∷ before) (sym c.entry.ensures))) in
    row_kept s before c.args.entry.now c.in_ok-found.found.now c.in_ok-right.right.now c.in_ok-row.row (sym c.in_ok-found.ensures) (sym kept)
    (differ_sized s c.width.result c.height.result c.in_ok-found.found.now c.in_ok-right.right.now c.in_ok-row.row c.width.ensures c.height.ensures c.in_ok-row.ensures.differ)

use Rattle.std.proofs.Common.{List, subst}
use Rattle.win_num.specs.declared.message.Hwnd.{Hwnd}
use Rattle.screen_owners.specs.Shown.{LookSame}
use Rattle.screen_owners.proofs.ChangedParts.{all_looked}
use Rattle.screen_owners.proofs.changes.changed_windows.Goals as goal

pub returns-clause-changed : goal.returns-clause-changed
returns-clause-changed c =
    let ws = c.args.old.now.live in
    let us = c.args.new.now.live in
    let ks = c.add_changed.new.changed.items in
    let ls = c.add_changed-2.new.changed.items in
    all_looked ws us ks ls c.in_ok-add_changed-2.ensures.kept
    (subst (λ (vs : List Hwnd). LookSame ws us vs ks) c.windows-older.ensures.numbers c.in_ok-add_changed.ensures.added)
    (subst (λ (vs : List Hwnd). LookSame ws us vs ls) c.windows-newer.ensures.numbers c.in_ok-add_changed-2.ensures.added)

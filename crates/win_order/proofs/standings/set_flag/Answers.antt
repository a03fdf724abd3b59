use Rattle.std.proofs.Common.{◌≡◌, ◌∙◌, nat_eq, ap, sym, Some}
use Rattle.std.specs.Map.{lookup}
use Rattle.win_order.specs.Entries.{newest_first}
use Rattle.win_order.proofs.EntryLaws.{flagged_unknown, known_lookup, newest_flagged, where_found}
use Rattle.win_order.proofs.standings.set_flag.Goals as goal

pub returns-in-Some-clause-flag : goal.returns-in-Some-clause-flag
returns-in-Some-clause-flag c =
    let w = c.args.window.0 in
    let es = c.args.windows.now.entries in
    let found : lookup (nat_eq w) es ≡ Some c.in-Some.known = sym c.get.ensures.value ∙ (sym c.copied.ensures ∙ c.in-Some.is) in
    let entries = where_found c.insert-old.result es w c.in-Some.known _ found c.insert-old.ensures.absent c.insert-old.ensures.entries in
    ap newest_first entries ∙ newest_flagged es w c.in-Some.known c.args.topmost c.requires found

pub returns-in_default-clause-flag : goal.returns-in_default-clause-flag
returns-in_default-clause-flag c = sym (flagged_unknown (newest_first c.args.windows.now.entries) c.args.window.0 c.args.topmost (sym (known_lookup c.args.windows.now.entries c.requires c.args.window.0) ∙ (sym c.get.ensures.value ∙ (sym c.copied.ensures ∙ c.in_default.is))))

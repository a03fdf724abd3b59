use Rattle.std.proofs.Common.{◌≡◌, ◌++◌, ◌∷◌, [], ◌<◌, length, true, arith, rules, sym, ◌∙◌}
use Rattle.std.proofs.lemmas.Grind.{common_steps}
use Rattle.script_lines.specs.NameLimits.{is_name}
use Rattle.script_lines.proofs.NameLemmas.{names_push}
use Rattle.script_lines.proofs.names.new_place.Goals as goal

pub returns-clause-kept : goal.returns-clause-kept
returns-clause-kept c =
    let same : c.push.new.self.items ≡ c.args.names.now.items ++ c.args.word.now ∷ [] = first_of (search rules, grind (arith, common_steps)) in
    let spelled : is_name c.args.word.now ≡ true = sym c.is_name.ensures ∙ c.if-not-is_name.false in
    let few : length c.args.names.now.items < c.args.limit = omega (arith, c.if-len-limit.false) in
    names_push c.args.limit c.args.names.now.items c.push.new.self.items c.args.word.now c.requires.names c.requires.new spelled few same

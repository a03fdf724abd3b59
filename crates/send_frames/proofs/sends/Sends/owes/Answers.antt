use Rattle.std.proofs.Common.{ap, sym, ◌∙◌}
use Rattle.std.specs.Option.{option_map, option_copied}
use Rattle.std.specs.FinMap as map
use Rattle.send_frames.specs.Book.{is_owing}
use Rattle.send_frames.specs.Items.{known_of}
use Rattle.send_frames.proofs.Shown.{get-known_in}
use Rattle.send_frames.proofs.sends.Sends.owes.Goals as goal

pub returns-in-Some : goal.returns-in-Some
returns-in-Some c =
    ap is_owing (ap (option_map known_of) (ap option_copied (sym c.in-Some.is) ∙ c.get.ensures) ∙ sym (get-known_in c.self.inside.table c.args.s.0) ∙ ap (λ b. map.get b.known c.args.s.0) c.self.view_is)

pub returns-in-None : goal.returns-in-None
returns-in-None c =
    ap is_owing (ap (option_map known_of) (ap option_copied (sym c.in-None.is) ∙ c.get.ensures) ∙ sym (get-known_in c.self.inside.table c.args.s.0) ∙ ap (λ b. map.get b.known c.args.s.0) c.self.view_is)

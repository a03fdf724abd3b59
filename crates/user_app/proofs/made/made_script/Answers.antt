use Rattle.std.proofs.Common.{◌≡◌, ℕ, List, [], ◌∷◌, ◌++◌, sym, ap, subst, ◌∙◌}
use Rattle.script_tree.specs.declared.statement.Statement.{Statement}
use Rattle.script_tree.specs.Tree.{ProcedureTree, Tree}
use Rattle.user_app.specs.Made.{IsMade}
use Rattle.user_app.proofs.MadeScripts.{made, made_tree}
use Rattle.user_app.proofs.made.made_script.Goals as goal

pub returns : goal.returns
returns c =
    let a : List Statement = c.in_ok-sender.field-0.items in
    let b : List Statement = c.in_ok-receiver.field-0.items in
    let bodies : c.push-2.new.self.items ≡ a ∷ b ∷ [] =
    c.in_ok-push-2.ensures.items ∙ ap (λ (l : List (List Statement)). l ++ c.new-2.result ∷ []) (c.in_ok-push.ensures.items ∙ ap (λ (l : List (List Statement)). l ++ c.new.result ∷ []) c.new-threads.ensures.items)
    ∙ ap (λ (x : List Statement). x ∷ c.new-2.result ∷ []) c.new.ensures ∙ ap (λ (x : List Statement). a ∷ x ∷ []) c.new-2.ensures in
    let tree : c.new-6.result ≡ made_tree a b =
    c.new-6.ensures
    ∙ ap (λ (l : List ℕ). let s : Tree = record { width = 8; height = 4; budget = 65536; order = l; names = c.new-4.result.items; procedures = c.new-5.result.items; threads = c.push-2.new.self.items } in s) c.new-3.ensures.items
    ∙ ap (λ (l : List (List ℕ)). let s : Tree = record { width = 8; height = 4; budget = 65536; order = []; names = l; procedures = c.new-5.result.items; threads = c.push-2.new.self.items } in s) c.new-4.ensures.items
    ∙ ap (λ (l : List ProcedureTree). let s : Tree = record { width = 8; height = 4; budget = 65536; order = []; names = []; procedures = l; threads = c.push-2.new.self.items } in s) c.new-5.ensures.items
    ∙ ap (λ (l : List (List Statement)). let s : Tree = record { width = 8; height = 4; budget = 65536; order = []; names = []; procedures = []; threads = l } in s) bodies in
    subst (IsMade c.args.count) (sym tree) (made c.args.count a b c.requires.few c.in_ok-sender.ensures c.in_ok-receiver.ensures)

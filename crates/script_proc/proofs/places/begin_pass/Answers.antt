use Rattle.std.proofs.Common.{◌≡◌, ◌-◌, [], ◌∷◌, ◌++◌, length, refl, sym, ap, ◌∙◌, arith, length-append}
use Rattle.std.proofs.lemmas.Option.{slice_get_read}
use Rattle.script_proc.specs.declared.item.Item.TheVariants.{PassEnd}
use Rattle.script_proc.proofs.Lasts.{set_only, get_last}
use Rattle.script_proc.proofs.ItemLaws.{same_item}
use Rattle.script_proc.proofs.places.begin_pass.Goals as goal

pub returns-in-PassEnd : goal.returns-in-PassEnd
returns-in-PassEnd c below at began e =
    let items = c.args.items.now.items in
    let n = c.len-last.result in
    let len : n ≡ length items = c.len-last.ensures ∙ c.args.items.now.ok.0 in
    let found = slice_get_read items (length items) (n - 1) c.index_mut.result.now refl (omega (arith, len, ap length e, length-append below (PassEnd at began ∷ []))) c.index_mut.ensures.value in
    let same = same_item (sym found ∙ get_last items below (PassEnd at began) n e len) in
    let place : c.in-PassEnd.field-0 ≡ at = (let both = sym c.in-PassEnd.is ∙ same in cc) in
    set_only items below (PassEnd at began) (PassEnd c.in-PassEnd.field-0 c.args.used) n e len ∙ ap (λ k. below ++ PassEnd k c.args.used ∷ []) place

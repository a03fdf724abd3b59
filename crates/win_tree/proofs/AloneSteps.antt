-- The steps of a window that nothing stands under.
use Rattle.std.proofs.Common.{◌≡◌, ◌∙◌, ◌-◌, suc, List, [], ◌∷◌, ◌++◌, length, map, filter, Bool, true, false, eqb, Some, refl, sym, ap, arith}
use Rattle.std.specs.List.{flat_map, AllByRecursion}
use Rattle.win_num.specs.declared.message.Hwnd.{Hwnd}
use Rattle.win_rows.specs.declared.row.Unmade.{Unmade}
use Rattle.win_rows.specs.declared.row.Unmade.TheVariants.{Tell, Last}
use Rattle.win_rows.specs.declared.window.Window.{Window}
use Rattle.win_rows.specs.Windows.{window_of}
use Rattle.win_rows.specs.Destruction.{told, ended, children_of, owned_by, preorder, postorder, destruction, destruction_of, answer_of}
use Rattle.win_rows.proofs.Alls.{all_so}
use Rattle.win_tree.specs.Kin.{is_alone}
use Rattle.win_tree.proofs.Alone.{none_under}

-- the steps of a window that nothing stands under
pub alone_order : (ws : List Window) (w : Hwnd) (x : Window) → is_alone ws w.0 ≡ true → x.number.0 ≡ w.0 → window_of ws w.0 ≡ Some x → Tell w ∷ Last w ∷ [] ≡ map answer_of (destruction_of ws x)
alone_order ws w x alone number found =
    let under = none_under ws w.0 alone in
    let children : children_of ws x ≡ [] = ap (λ m. filter (λ (y : Window). eqb y.row.parent.0 m) ws) number ∙ none (λ y. eqb y.row.parent.0 w.0) ws (all_so (λ y. (eqb y.row.parent.0 w.0 ≡ false) × (eqb y.row.owner.0 w.0 ≡ false)) (λ y. eqb y.row.parent.0 w.0 ≡ false) (λ y k. k.0) ws under) in
    let owned : owned_by ws x ≡ [] = ap (λ m. filter (λ (y : Window). eqb y.row.owner.0 m) ws) number ∙ none (λ y. eqb y.row.owner.0 w.0) ws (all_so (λ y. (eqb y.row.parent.0 w.0 ≡ false) × (eqb y.row.owner.0 w.0 ≡ false)) (λ y. eqb y.row.owner.0 w.0 ≡ false) (λ y k. k.1) ws under) in
    let same : w ≡ x.number = ap (λ n. let v : Hwnd = record { 0 = n } in v) (sym number) in
    ap (λ (v : Hwnd). let us : List Unmade = Tell v ∷ Last v ∷ [] in us) same
    ∙ sym (ap (λ n. map answer_of (destruction n ws x)) (size ws found)
    ∙ ap (λ (us : List Window). map answer_of (flat_map (destruction (length ws - 1) ws) us ++ (map told (x ∷ flat_map (preorder (length ws - 1) ws) (children_of ws x)) ++ map ended (flat_map (postorder (length ws - 1) ws) (children_of ws x) ++ x ∷ [])))) owned
    ∙ ap (λ (us : List Window). map answer_of (map told (x ∷ flat_map (preorder (length ws - 1) ws) us) ++ map ended (flat_map (postorder (length ws - 1) ws) us ++ x ∷ []))) children)
  where
    none : (test : Window → Bool) (us : List Window) → AllByRecursion (λ y. test y ≡ false) us → filter test us ≡ []
    none test [] h = refl
    none test (y ∷ us) h = rw (h.0, filter) (none test us h.1)

    size : (us : List Window) → window_of us w.0 ≡ Some x → length us ≡ suc (length us - 1)
    size [] h = absurd (cc h)
    size (y ∷ us) h = omega arith

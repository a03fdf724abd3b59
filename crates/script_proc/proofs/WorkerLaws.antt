-- What a worker's items complete.
use Rattle.std.proofs.Common.{◌≡◌, ◌<◌, true, ℕ, suc, List, [], ◌∷◌, ◌++◌, length, Option, Some, None, Result, Ok, Err, IfOk, refl, sym, ap, ◌∙◌, subst, append_assoc, append-nil}
use Rattle.std.proofs.lemmas.List.Sums.{fold-append}
use Rattle.user_model.specs.declared.call.Call.{Call}
use Rattle.user_model.specs.declared.entry.Answer.{Answer}
use Rattle.script_tree.specs.declared.variables.Variables.{Variables}
use Rattle.script_tree.specs.Tree.{Tree}
use Rattle.script_tree.specs.Pieces.{Piece, Making, Settle, State, Going, Given, Trace, End, Whole, Cut, Asks}
use Rattle.script_tree.specs.Steps.{step, follows, answered, result_of, variables_of}
use Rattle.script_tree.specs.Traces.{Makes, IsTrace, over, entry, cut}
use Rattle.script_tree.specs.Weights.{steps_left}
use Rattle.script_proc.specs.declared.program.Program.{Program}
use Rattle.script_proc.specs.declared.item.Item.{Item}
use Rattle.script_proc.specs.declared.item.Item.TheVariants.{At, Making as MakingItem, Settle as SettleItem, Leaves as LeavesItem}
use Rattle.script_proc.specs.declared.item.Next.{Next}
use Rattle.script_proc.specs.declared.item.Next.TheVariants.{Top, Line as LineNext}
use Rattle.script_proc.specs.declared.item.Mode.{Mode}
use Rattle.script_proc.specs.declared.item.Mode.TheVariants.{Going as GoingMode, Returning as ReturningMode, Given as GivenMode}
use Rattle.script_proc.specs.Programs.{IsProgramOf, Stands, lines_at}
use Rattle.script_proc.specs.Items.{piece, Covers, AllCover, hands_on, above, state_of, state_at, with_next, asks, ArePlaceless, Keeps, KeepsAll, Asking, IsReady}
use Rattle.script_proc.specs.Works.{no_tree, as_long, all_long, work, Moves, Steps}
use Rattle.script_proc.specs.Workers.{end_of}
use Rattle.script_proc.proofs.StandLaws.{by_step}
use Rattle.script_proc.proofs.Following.{nothing_follows, given_on}
use Rattle.script_proc.proofs.Lasts.{same_last}
use Rattle.script_proc.proofs.ItemLaws.{plain_cover, long_more}
use Rattle.script_tree.specs.Values.{received, settled}

pub if_ok : {X E : Type 0} (P Q : X → Type 0) (r : Result X E) → ((x : X) → P x → Q x) → IfOk r P → IfOk r Q
if_ok P Q (Ok x) f h = f x h
if_ok P Q (Err e) f h = tt

module _ (p : Program) where
  -- what items stand for is what the upper ones stand for over what the lower ones do
  split_cover : (below few : List Item) (ps : List Piece) → AllCover p (below ++ few) ps → (upper : List Piece) × (under : List Piece) × (ps ≡ upper ++ under) × AllCover p below under × AllCover p few upper
  split_cover [] few ps h = (ps, [], sym (append-nil ps), refl, h)
  split_cover (item ∷ below) few ps h =
      let r = split_cover below few h.0 h.4 in
      (r.0, r.1 ++ h.1, h.2 ∙ ap (λ xs. xs ++ h.1) r.2 ∙ append_assoc r.0 r.1 h.1, (r.1, h.1, refl, h.3, r.3), r.4)

  join_cover : (below few : List Item) (upper under : List Piece) → AllCover p below under → AllCover p few upper → AllCover p (below ++ few) (upper ++ under)
  join_cover [] few upper under h f = subst (λ xs. AllCover p few xs) (sym (ap (λ xs. upper ++ xs) h ∙ append-nil upper)) f
  join_cover (item ∷ below) few upper under h f =
      (upper ++ h.0, h.1, ap (λ xs. upper ++ xs) h.2 ∙ sym (append_assoc upper h.0 h.1), h.3, join_cover below few upper h.0 h.4 f)

  -- the last item over those below it
  last_cover : (items below : List Item) (item : Item) (ps : List Piece) → items ≡ below ++ item ∷ [] → AllCover p items ps → (qs : List Piece) × (under : List Piece) × (ps ≡ qs ++ under) × Covers p item qs × AllCover p below under
  last_cover items below item ps e h =
      let r = split_cover below (item ∷ []) ps (subst (λ xs. AllCover p xs ps) e h) in
      let above_none : r.4.0 ≡ [] = r.4.4 in
      (r.4.1, r.1, r.2 ∙ ap (λ xs. xs ++ r.1) (r.4.2 ∙ ap (λ xs. xs ++ r.4.1) above_none), r.4.3, r.3)

  module _ (n : ℕ) where
    -- what the last item does, all items do
    last_keeps : (s : Tree) (items below new : List Item) (item : Item) (few : List Item) (st st' : State) → items ≡ below ++ item ∷ [] → new ≡ below ++ few → Moves p n item st few st' → IsProgramOf s p → KeepsAll s p n items st new st'
    last_keeps s items below new item few st st' e f m of ps h =
        let r = last_cover items below item ps e h in
        let k = m.keeps s of r.0 r.1 r.3 in (
          k.0 ++ r.1,
          subst (λ xs. AllCover p xs (k.0 ++ r.1)) (sym f) (join_cover below few k.0 r.1 r.4 k.1),
          subst (λ xs. Keeps s xs st (k.0 ++ r.1) st' n) (sym r.2) k.2,
        )

    all_of : (items below few : List Item) → items ≡ below ++ few → all_long (length p.lines.items) n items ≡ all_long (length p.lines.items) n few ++ all_long (length p.lines.items) n below
    all_of items below few e =
        ap (λ xs. all_long (length p.lines.items) n xs) e
        ∙ fold-append (λ ps item. as_long (length p.lines.items) n item ∷ ps) [] below few
        ∙ long_more (length p.lines.items) n few (all_long (length p.lines.items) n below)

    last_fewer : (items below new : List Item) (item : Item) (few : List Item) (st st' : State) → items ≡ below ++ item ∷ [] → new ≡ below ++ few → Moves p n item st few st' → work (length p.lines.items) n new st' < work (length p.lines.items) n items st
    last_fewer items below new item few st st' e f m =
        let size = length p.lines.items in
        subst (λ xs. steps_left no_tree n xs st' < steps_left no_tree n (all_long size n items) st) (sym (all_of new below few f))
        (subst (λ xs. steps_left no_tree n (all_long size n few ++ all_long size n below) st' < steps_left no_tree n xs st) (sym (all_of items below (item ∷ []) e)) (m.fewer (all_long size n below)))

    -- so after a step
    pub step_keeps : (s : Tree) (items new : List Item) (st st' : State) → Steps p n items st new st' → IsProgramOf s p → KeepsAll s p n items st new st'
    step_keeps s items new st st' h of = last_keeps s items h.below new h.item h.few st st' h.last h.put h.moves of

    pub step_fewer : (items new : List Item) (st st' : State) → Steps p n items st new st' → work (length p.lines.items) n new st' < work (length p.lines.items) n items st
    step_fewer items new st st' h = last_fewer items h.below new h.item h.few st st' h.last h.put h.moves

    -- a step of what is next above the items
    pub line_steps : (items taken new : List Item) (call : Call) (next : Next) (at : ℕ) (v : Variables) (mode : Mode) (st : State) → next ≡ LineNext at → taken ≡ items → Steps p n (taken ++ At at ∷ []) (Going v) new st → Steps p n (with_next items call next) (state_at v mode next) new st
    line_steps items taken new call next at v mode st e f h =
        subst (λ x. Steps p n (with_next items call x) (state_at v mode x) new st) (sym e)
        (subst (λ xs. Steps p n (xs ++ At at ∷ []) (Going v) new st) f h)

    -- and of the last item
    pub top_steps : (items taken new : List Item) (call : Call) (next : Next) (v : Variables) (mode : Mode) (st : State) → next ≡ Top → taken ≡ items → Steps p n taken (state_of v mode) new st → Steps p n (with_next items call next) (state_at v mode next) new st
    top_steps items taken new call next v mode st e f h =
        subst (λ x. Steps p n (with_next items call x) (state_at v mode x) new st) (sym e)
        (subst (λ xs. Steps p n xs (state_of v mode) new st) f h)

    pub keeps_same : (s : Tree) (items mid new : List Item) (a b : State) → new ≡ mid → KeepsAll s p n items a mid b → KeepsAll s p n items a new b
    keeps_same s items mid new a b e h = subst (λ xs. KeepsAll s p n items a xs b) (sym e) h

    -- the line that is next puts items above the others, for which room was taken
    pub slow_steps : (items taken new : List Item) (call : Call) (next : Next) (at : ℕ) (v v' : Variables) (mode : Mode) (st : State) → next ≡ LineNext at → taken ≡ items → v' ≡ v → Steps p n (taken ++ At at ∷ []) (Going v') new st → Steps p n (with_next items call next) (state_at v mode next) new st
    slow_steps items taken new call next at v v' mode st e f g h = line_steps items taken new call next at v mode st e f (subst (λ x. Steps p n (taken ++ At at ∷ []) (Going x) new st) g h)

    -- nothing has changed for want of that room
    pub slow_keeps : (s : Tree) (first items taken : List Item) (call : Call) (next : Next) (at : ℕ) (v v' : Variables) (mode : Mode) (st : State) → next ≡ LineNext at → taken ≡ items → v' ≡ v → KeepsAll s p n first st (with_next items call next) (state_at v mode next) → KeepsAll s p n first st (taken ++ At at ∷ []) (Going v')
    slow_keeps s first items taken call next at v v' mode st e f g k =
        subst (λ xs. KeepsAll s p n first st (xs ++ At at ∷ []) (Going v')) (sym f)
        (subst (λ x. KeepsAll s p n first st (items ++ At at ∷ []) (Going x)) (sym g)
        (subst (λ x. KeepsAll s p n first st (with_next items call x) (state_at v mode x)) e k))

    -- the call of the last item was put in its place
    pub top_keeps : (s : Tree) (first items taken : List Item) (call call' : Call) (next : Next) (v : Variables) (mode : Mode) (st : State) → next ≡ Top → taken ≡ items → KeepsAll s p n first st (with_next items call next) (state_at v mode next) → KeepsAll s p n first st (with_next taken call' next) (state_at v mode next)
    top_keeps s first items taken call call' next v mode st e f k =
        subst (λ x. KeepsAll s p n first st (with_next taken call' x) (state_at v mode next)) (sym e)
        (subst (λ xs. KeepsAll s p n first st xs (state_at v mode next)) (sym f)
        (subst (λ x. KeepsAll s p n first st (with_next items call x) (state_at v mode next)) e k))

    pub keeps_all_on : (s : Tree) (items mid new : List Item) (a b c : State) → KeepsAll s p n items a mid b → KeepsAll s p n mid b new c → KeepsAll s p n items a new c
    keeps_all_on s items mid new a b c h k ps x =
        let r = h ps x in
        let q = k r.0 r.1 in
        (q.0, q.1, record { by = λ tr e m. r.2.by tr e (q.2.by tr e m) })

  -- the item that asks for a call makes it
  asks_so : (s : Tree) (item : Item) (mode : Mode) (call : Call) (v : Variables) (n : ℕ) → asks item mode ≡ Some call → step s (piece item) (state_of v mode) n ≡ Asks call
  asks_so s (MakingItem c) GoingMode call v n h = let e : c ≡ call = cc in ap Asks e
  asks_so s (MakingItem c) (ReturningMode x) call v n h = let e : c ≡ call = cc in ap Asks e
  asks_so s (LeavesItem frame x) GoingMode call v n h = cc
  asks_so s item mode call v n h = absurd cc

  asks_covers : (item : Item) (mode : Mode) (call : Call) (qs : List Piece) → asks item mode ≡ Some call → Covers p item qs → qs ≡ piece item ∷ []
  asks_covers (MakingItem c) mode call qs h k = k
  asks_covers (LeavesItem frame x) mode call qs h k = k
  asks_covers item mode call qs h k = absurd cc

  -- the call of a statement is ready
  pub stating_ready : (items : List Item) (at : ℕ) (call : Call) → Asking (items ++ At at ∷ SettleItem call ∷ MakingItem call ∷ []) GoingMode call
  stating_ready items at call = (items ++ At at ∷ SettleItem call ∷ [], MakingItem call, sym (append_assoc items (At at ∷ SettleItem call ∷ []) (MakingItem call ∷ [])), refl)

  -- and it is asked for
  pub stated_call : (items : List Item) (at : ℕ) (c call : Call) → Asking (items ++ At at ∷ SettleItem c ∷ MakingItem c ∷ []) GoingMode call → c ≡ call
  stated_call items at c call r =
      let same : MakingItem c ≡ r.1 = same_last (items ++ At at ∷ SettleItem c ∷ []) r.0 (MakingItem c) r.1 (append_assoc items (At at ∷ SettleItem c ∷ []) (MakingItem c ∷ []) ∙ r.2) in
      let asked : asks (MakingItem c) GoingMode ≡ Some call = subst (λ x. asks x GoingMode ≡ Some call) (sym same) r.3 in
      cc

  -- its pieces
  stated_pieces : (at : ℕ) (c : Call) (qs : List Piece) → AllCover p (At at ∷ SettleItem c ∷ MakingItem c ∷ []) qs → (behind : List Piece) × (qs ≡ Making c ∷ Settle c ∷ behind) × Stands (lines_at p at) behind
  stated_pieces at c qs h =
      let settle = h.4 in
      let making = settle.4 in
      let made : settle.0 ≡ Making c ∷ [] = making.2 ∙ ap (λ xs. xs ++ making.1) making.4 ∙ making.3 in
      let both : h.0 ≡ Making c ∷ Settle c ∷ [] = settle.2 ∙ ap (λ xs. xs ++ settle.1) made ∙ ap (λ xs. Making c ∷ xs) settle.3 in
      (h.1, h.2 ∙ ap (λ xs. xs ++ h.1) both, h.3)

  state_variables : (v : Variables) (mode : Mode) → variables_of (state_of v mode) ≡ v
  state_variables v GoingMode = refl
  state_variables v (ReturningMode x) = refl
  state_variables v (GivenMode a x) = refl

  module _ (s : Tree) (t : ℕ) where
    -- whatever trace the pieces make after so many entries, the entries and then that trace are one of the thread
    abbrev pub Completes : Trace → List Piece → State → ℕ → Type 0
    Completes tr ps st n = (more : Trace) (e : End) → Makes s ps st n more e → IsTrace s t (tr ++ more) e

    ready_end : (items : List Item) (ps : List Piece) (v : Variables) (mode : Mode) (n : ℕ) (o : Option Call) → AllCover p items ps → IsReady items mode o → Makes s ps (state_of v mode) n [] (end_of o)
    ready_end items ps v mode n None c h = let none : ps ≡ [] = subst (λ xs. AllCover p xs ps) h c in subst (λ xs. Makes s xs (state_of v mode) n [] Whole) (sym none) over
    ready_end items ps v mode n (Some call) c h =
        let r = last_cover items h.0 h.1 ps h.2 c in
        let first : ps ≡ piece h.1 ∷ r.1 = r.2 ∙ ap (λ xs. xs ++ r.1) (asks_covers h.1 mode call r.0 h.3 r.3) in
        subst (λ xs. Makes s xs (state_of v mode) n [] (Cut call)) (sym first) (cut call (asks_so s h.1 mode call v n h.3))

    -- what is ready is how the trace ends
    pub ready_ends : (tr : Trace) (items : List Item) (ps : List Piece) (v : Variables) (mode : Mode) (n : ℕ) (o : Option Call) → AllCover p items ps → Completes tr ps (state_of v mode) n → IsReady items mode o → IsTrace s t tr (end_of o)
    ready_ends tr items ps v mode n o c h r = subst (λ xs. IsTrace s t xs (end_of o)) (append-nil tr) (h [] (end_of o) (ready_end items ps v mode n o c r))

    -- what follows an answer, in the place of the item that made the call
    pub entered : (tr : Trace) (items new : List Item) (few : List Item) (ps : List Piece) (v v' : Variables) (mode mode' : Mode) (n : ℕ) (call : Call) (a : Answer) → (r : Asking items mode call) → new ≡ r.0 ++ few → ArePlaceless few → above few ≡ follows call a → state_of v' mode' ≡ answered call a v → AllCover p items ps → Completes tr ps (state_of v mode) n → (qs : List Piece) × AllCover p new qs × Completes (tr ++ (call, a) ∷ []) qs (state_of v' mode') (suc n)
    entered tr items new few ps v v' mode mode' n call a r f i g st c h =
        let l = last_cover items r.0 r.1 ps r.2 c in
        let first : ps ≡ piece r.1 ∷ l.1 = l.2 ∙ ap (λ xs. xs ++ l.1) (asks_covers r.1 mode call l.0 r.3 l.3) in
        let states : state_of v' mode' ≡ answered call a (variables_of (state_of v mode)) = st ∙ ap (answered call a) (sym (state_variables v mode)) in (
          above few ++ l.1,
          subst (λ xs. AllCover p xs (above few ++ l.1)) (sym f) (join_cover r.0 few (above few) l.1 l.4 (plain_cover p few i)),
          λ more e m.
              subst (λ x. IsTrace s t x e) (sym (append_assoc tr ((call, a) ∷ []) more))
              (h ((call, a) ∷ more) e
              (subst (λ xs. Makes s xs (state_of v mode) n ((call, a) ∷ more) e) (sym first)
              (entry call a (asks_so s r.1 mode call v n r.3)
              (subst (λ x. Makes s (follows call a ++ l.1) x (suc n) more e) states
              (subst (λ xs. Makes s (xs ++ l.1) (state_of v' mode') (suc n) more e) g m))))),
        )

    -- a statement whose call is answered is over
    pub stated : (tr : Trace) (items : List Item) (ps : List Piece) (v : Variables) (n : ℕ) (c call : Call) (a : Answer) (at : ℕ) → Asking (items ++ At at ∷ SettleItem c ∷ MakingItem c ∷ []) GoingMode call → hands_on call a ≡ true → AllCover p (items ++ At at ∷ SettleItem c ∷ MakingItem c ∷ []) ps → Completes tr ps (Going v) n → (qs : List Piece) × AllCover p (items ++ At at ∷ []) qs × Completes (tr ++ (call, a) ∷ []) qs (Going (settled (received v a) call a (result_of a))) (suc n)
    stated tr items ps v n c call a at asking on cover h =
        let l = split_cover items (At at ∷ SettleItem c ∷ MakingItem c ∷ []) ps cover in
        let same = stated_call items at c call asking in
        let up = stated_pieces at c l.0 l.4 in
        let left = up.0 ++ l.1 in
        let first : ps ≡ Making call ∷ Settle call ∷ left = l.2 ∙ ap (λ xs. xs ++ l.1) up.1 ∙ ap (λ x. Making x ∷ Settle x ∷ left) same in
        let given = Given (received v a) a (result_of a) in
        let ended = Going (settled (received v a) call a (result_of a)) in (
          left,
          join_cover items (At at ∷ []) up.0 l.1 l.3 ([], up.0, refl, up.2, refl),
          λ more e m.
              subst (λ x. IsTrace s t x e) (sym (append_assoc tr ((call, a) ∷ []) more))
              (h ((call, a) ∷ more) e
              (subst (λ xs. Makes s xs (Going v) n ((call, a) ∷ more) e) (sym first)
              (entry call a refl
              (subst (λ x. Makes s (follows call a ++ Settle call ∷ left) x (suc n) more e) (sym (given_on call a v on))
              (subst (λ xs. Makes s (xs ++ Settle call ∷ left) given (suc n) more e) (nothing_follows call a on)
              ((by_step s (suc n) (Settle call) left given [] ended refl).by more e m)))))),
        )

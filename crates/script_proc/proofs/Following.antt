-- What follows an answer that is handed on.
use Rattle.std.proofs.Common.{◌≡◌, ℕ, Bool, true, false, List, [], ◌∷◌, not, refl, sym, ap, subst, ◌∙◌}
use Rattle.std.specs.Prelude.{if◌then◌else◌}
use Rattle.user_model.specs.declared.call.Call.{Call}
use Rattle.user_model.specs.declared.entry.Answer.{Answer}
use Rattle.user_model.specs.declared.entry.Answer.TheVariants.{Wait, Enter, Callback, Inside, Called, Begun}
use Rattle.user_model.specs.Stacks.{waits, leaves}
use Rattle.win_num.specs.declared.message.Hwnd.{Hwnd}
use Rattle.win_num.specs.declared.send.SendId.{SendId}
use Rattle.win_num.specs.declared.send.Frame.TheVariants.{Entered, CallbackRun, Inside as InsideFrame, Called as CalledFrame}
use Rattle.script_tree.specs.declared.variables.Parameters.{Parameters}
use Rattle.script_tree.specs.Pieces.{Piece, Running, Again, Giving}
use Rattle.script_tree.specs.declared.variables.Variables.{Variables}
use Rattle.script_tree.specs.Steps.{follows, is_last, given, answered, run_of, parameters_of}
use Rattle.script_proc.specs.declared.item.Item.{Item}
use Rattle.script_proc.specs.declared.item.Item.TheVariants.{Giving as GivingItem, Again as AgainItem}
use Rattle.script_proc.specs.Items.{hands_on, told, piece, IsPlaceless}

last_one : (b : Bool) (ps : List Piece) → b ≡ true → [] ≡ (if b then [] else ps)
last_one true ps h = refl
last_one false ps h = absurd cc

begun_one : (b w : Bool) (ps : List Piece) → (if b then true else not w) ≡ true → [] ≡ (if b then [] else (if w then ps else []))
begun_one true w ps h = refl
begun_one false true ps h = absurd cc
begun_one false false ps h = refl

either_way : (b : Bool) (ps : List Piece) → ps ≡ (if b then ps else ps)
either_way true ps = refl
either_way false ps = refl

-- where an answer is handed on, nothing follows
pub nothing_follows : (call : Call) (a : Answer) → hands_on call a ≡ true → [] ≡ follows call a
nothing_follows call Wait h = absurd cc
nothing_follows call (Enter s proc_no w number wparam lparam) h = last_one (is_last call) _ h
nothing_follows call (Callback s proc_no w number extra result) h = last_one (is_last call) _ h
nothing_follows call (Inside s proc_no) h = last_one (is_last call) _ h
nothing_follows call (Called proc_no) h = last_one (is_last call) _ h
nothing_follows call (Begun s) h = begun_one (is_last call) (waits call) _ h
nothing_follows call a h = either_way (is_last call) []

then_one : {A : Type 0} (b : Bool) (x y : A) → b ≡ true → (if b then x else y) ≡ x
then_one true x y h = refl
then_one false x y h = absurd cc

begun_given : {A : Type 0} (b w : Bool) (x y : A) → (if b then true else not w) ≡ true → (if b then x else (if w then y else x)) ≡ x
begun_given true w x y h = refl
begun_given false true x y h = absurd cc
begun_given false false x y h = refl

same_given : {A : Type 0} (b : Bool) (x : A) → (if b then x else x) ≡ x
same_given true x = refl
same_given false x = refl

-- the state then
pub given_on : (call : Call) (a : Answer) (v : Variables) → hands_on call a ≡ true → answered call a v ≡ given v a
given_on call Wait v h = absurd cc
given_on call (Enter s proc_no w number wparam lparam) v h = then_one (is_last call) _ _ h
given_on call (Callback s proc_no w number extra result) v h = then_one (is_last call) _ _ h
given_on call (Inside s proc_no) v h = then_one (is_last call) _ _ h
given_on call (Called proc_no) v h = then_one (is_last call) _ _ h
given_on call (Begun s) v h = begun_given (is_last call) (waits call) _ _ h
given_on call a v h = same_given (is_last call) _

behind_piece : (b : Bool) (a : Answer) (call : Call) → piece (if b then GivingItem a else AgainItem call) ≡ (if b then Giving a else Again call)
behind_piece true a call = refl
behind_piece false a call = refl

-- what is behind a callback procedure has no place in the program
pub behind_placeless : (b : Bool) (a : Answer) (call : Call) (item : Item) → item ≡ (if b then GivingItem a else AgainItem call) → IsPlaceless item
behind_placeless true a call item e = subst IsPlaceless (sym e) tt
behind_placeless false a call item e = subst IsPlaceless (sym e) tt

-- what follows an answer that isn't handed on
follows_on : (b : Bool) (ps qs : List Piece) → b ≡ false → ps ≡ qs → ps ≡ (if b then [] else qs)
follows_on true ps qs h e = absurd cc
follows_on false ps qs h e = e

module _ (call : Call) (a : Answer) (proc_no : ℕ) (q : Parameters) (h : hands_on call a ≡ false) where
  -- a procedure that is entered, and then the same call
  pub enter_follows : (s : SendId) (w : Hwnd) (number wparam lparam : ℕ) → a ≡ Enter s proc_no w number wparam lparam → q ≡ told a → Running (run_of proc_no q (Entered s)) ∷ Again call ∷ [] ≡ follows call a
  enter_follows s w number wparam lparam e t =
      let other : is_last call ≡ false = subst (λ x. hands_on call x ≡ false) e h in
      follows_on (is_last call) _ _ other (ap (λ x. Running (run_of proc_no x (Entered s)) ∷ Again call ∷ []) (t ∙ ap told e))
      ∙ ap (follows call) (sym e)

  -- a procedure inside of a send, or one that is called, and then the answer is handed on
  pub inside_follows : (s : SendId) → a ≡ Inside s proc_no → q ≡ parameters_of call → Running (run_of proc_no q (InsideFrame s)) ∷ Giving a ∷ [] ≡ follows call a
  inside_follows s e t =
      let other : is_last call ≡ false = subst (λ x. hands_on call x ≡ false) e h in
      ap (λ x. Running (run_of proc_no q (InsideFrame s)) ∷ Giving x ∷ []) e
      ∙ follows_on (is_last call) _ _ other (ap (λ x. Running (run_of proc_no x (InsideFrame s)) ∷ Giving (Inside s proc_no) ∷ []) t)
      ∙ ap (follows call) (sym e)

  pub called_follows : a ≡ Called proc_no → q ≡ parameters_of call → Running (run_of proc_no q CalledFrame) ∷ Giving a ∷ [] ≡ follows call a
  called_follows e t =
      let other : is_last call ≡ false = subst (λ x. hands_on call x ≡ false) e h in
      ap (λ x. Running (run_of proc_no q CalledFrame) ∷ Giving x ∷ []) e
      ∙ follows_on (is_last call) _ _ other (ap (λ x. Running (run_of proc_no x CalledFrame) ∷ Giving (Called proc_no) ∷ []) t)
      ∙ ap (follows call) (sym e)

  -- a callback procedure, and what is behind it
  pub callback_follows : (s : SendId) (w : Hwnd) (number extra result : ℕ) (behind : Item) → a ≡ Callback s proc_no w number extra result → q ≡ told a → behind ≡ (if leaves call then GivingItem a else AgainItem call) → Running (run_of proc_no q CallbackRun) ∷ piece behind ∷ [] ≡ follows call a
  callback_follows s w number extra result behind e t i =
      let other : is_last call ≡ false = subst (λ x. hands_on call x ≡ false) e h in
      ap (λ x. Running (run_of proc_no q CallbackRun) ∷ x ∷ []) (ap piece i ∙ behind_piece (leaves call) a call)
      ∙ ap (λ x. Running (run_of proc_no q CallbackRun) ∷ (if leaves call then Giving x else Again call) ∷ []) e
      ∙ follows_on (is_last call) _ _ other (ap (λ x. Running (run_of proc_no x CallbackRun) ∷ (if leaves call then Giving (Callback s proc_no w number extra result) else Again call) ∷ []) (t ∙ ap told e))
      ∙ ap (follows call) (sym e)

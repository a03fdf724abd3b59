-- The pieces that a worker's items stand for.
use Rattle.std.specs.Prelude.{◌≡◌, ℕ, suc, ◌+◌, List, [], ◌∷◌, ◌++◌, Option, Some, None, Bool, true, false, not, if◌then◌else◌, drop, slice_get}
use Rattle.std.specs.List.{fold}
use Rattle.std.specs.Borrow.{Bor}
use Rattle.user_model.specs.declared.call.Call.{Call}
use Rattle.user_model.specs.declared.call.Call.TheVariants.{Leave}
use Rattle.user_model.specs.declared.entry.Answer.{Answer}
use Rattle.user_model.specs.declared.entry.Answer.TheVariants.{Wait, Enter, Callback, Inside, Called, Begun}
use Rattle.user_model.specs.Stacks.{waits}
use Rattle.script_tree.specs.declared.operand.Test.{Test}
use Rattle.script_tree.specs.declared.statement.Statement.{Statement, items-the_row-Statement}
use Rattle.script_tree.specs.declared.statement.Statement.TheVariants as tree
use Rattle.script_tree.specs.declared.variables.Variables.{Variables}
use Rattle.script_tree.specs.declared.variables.Parameters.{Parameters}
use Rattle.script_tree.specs.Values.{no_parameters}
use Rattle.script_tree.specs.Steps.{parameters_from, is_last}
use Rattle.script_tree.specs.Tree.{Tree}
use Rattle.script_tree.specs.Pieces.{Piece, Lines, One, PassEnd, Making, Again, Giving, Settle, Quiet, Sleeping, Running, Leaving, Leaves, Left, Restore, Feed, State, Going, Returning, Given, Trace, End}
use Rattle.script_tree.specs.Traces.{Makes}
use Rattle.script_proc.specs.declared.program.Line.TheVariants.{While}
use Rattle.script_proc.specs.declared.program.Program.{Program}
use Rattle.script_proc.specs.Programs.{Stands, lines_at}
use Rattle.script_proc.specs.declared.item.Item.{Item}
use Rattle.script_proc.specs.declared.item.Item.TheVariants.{At, Once, PassEnd as PassEndItem, Making as MakingItem, Again as AgainItem, Giving as GivingItem, Settle as SettleItem, Quiet as QuietItem, Sleeping as SleepingItem, Running as RunningItem, Leaving as LeavingItem, Leaves as LeavesItem, Left as LeftItem, Restore as RestoreItem, Feed as FeedItem}
use Rattle.script_proc.specs.declared.item.Mode.{Mode}
use Rattle.script_proc.specs.declared.item.Mode.TheVariants.{Going as GoingMode, Returning as ReturningMode, Given as GivenMode}
use Rattle.script_proc.specs.declared.item.Next.{Next}
use Rattle.script_proc.specs.declared.item.Next.TheVariants.{Top, Line as LineNext, Stating as StatingNext}
use Rattle.script_proc.specs.declared.item.Few.{Few}
use Rattle.script_proc.specs.declared.item.Few.TheVariants.{Nothing, Single, Two, Three, Four, Five}

-- the piece that an item stands for that stands for one
abbrev pub piece : Item → Piece
piece (At at) = Lines []
piece (Once at) = Lines []
piece (PassEndItem at began) = Lines []
piece (MakingItem call) = Making call
piece (AgainItem call) = Again call
piece (GivingItem a) = Giving a
piece (SettleItem call) = Settle call
piece QuietItem = Quiet
piece (SleepingItem ms) = Sleeping ms
piece (RunningItem run) = Running run
piece (LeavingItem run) = Leaving run
piece (LeavesItem frame x) = Leaves frame x
piece (LeftItem x) = Left x
piece (RestoreItem p) = Restore p
piece (FeedItem q) = Feed q

-- the lines from a place on are that `while`, its pass, and what is behind it
pub data IsLoop (p : Program) (at : ℕ) : Statement → List Piece → Type 0 where
  loops : {t : Bor Test} {passed : ℕ} {k : _} {a : _} {left : List Piece} → slice_get p.lines.items at ≡ Some (While t passed) → Stands (lines_at p (at + 1)) (Lines (items-the_row-Statement _ a) ∷ []) → Stands (drop passed (lines_at p (at + 1))) left → IsLoop p at (tree.While' t.now k a) left

-- the pieces that an item stands for: one that has a place in the program stands for all pieces up to the end of its pass or body
abbrev pub Covers : Program → Item → List Piece → Type 0
Covers p (At at) qs = Stands (lines_at p at) qs
Covers p (Once at) qs = (loop : Statement) × (left : List Piece) × (qs ≡ One loop ∷ left) × IsLoop p at loop left
Covers p (PassEndItem at began) qs = (loop : Statement) × (left : List Piece) × (qs ≡ PassEnd loop began ∷ left) × IsLoop p at loop left
Covers p item qs = qs ≡ piece item ∷ []

-- the pieces that items stand for, the last of them next
abbrev pub AllCover : Program → List Item → List Piece → Type 0
AllCover p [] ps = ps ≡ []
AllCover p (item ∷ items) ps = (above : List Piece) × (qs : List Piece) × (ps ≡ above ++ qs) × Covers p item qs × AllCover p items above

-- the pieces of a few items without a place, the last of them next
abbrev pub above : List Item → List Piece
above items = fold (λ ps item. piece item ∷ ps) [] items

-- the state of the next piece
abbrev pub state_of : Variables → Mode → State
state_of v GoingMode = Going v
state_of v (ReturningMode x) = Returning v x
state_of v (GivenMode a x) = Given v a x

-- a few items, the next one last
abbrev pub few_items : Few → List Item
few_items Nothing = []
few_items (Single a) = a ∷ []
few_items (Two a b) = a ∷ b ∷ []
few_items (Three a b c) = a ∷ b ∷ c ∷ []
few_items (Four a b c d) = a ∷ b ∷ c ∷ d ∷ []
few_items (Five a b c d e) = a ∷ b ∷ c ∷ d ∷ e ∷ []

-- the items, and above them what is next, which a statement's call may be
abbrev pub with_next : List Item → Call → Next → List Item
with_next items call Top = items
with_next items call (LineNext at) = items ++ At at ∷ []
with_next items call (StatingNext at) = items ++ At at ∷ SettleItem call ∷ MakingItem call ∷ []

-- what the last of them is handed: lines and the call of a statement get nothing
abbrev pub mode_at : Mode → Next → Mode
mode_at mode Top = mode
mode_at mode next = GoingMode

-- the state of the next piece then
abbrev pub state_at : Variables → Mode → Next → State
state_at v mode next = state_of v (mode_at mode next)

-- lines aren't next
abbrev pub IsNoLine : Next → Type 0
IsNoLine (LineNext at) = ⊥
IsNoLine next = Unit {0}

-- an item that stands for one piece, without a place in the program, and doesn't lead to one
abbrev pub IsPlain : Item → Type 0
IsPlain (At at) = ⊥
IsPlain (Once at) = ⊥
IsPlain (PassEndItem at began) = ⊥
IsPlain (RunningItem run) = ⊥
IsPlain item = Unit {0}

-- none of them has or leads to a place
abbrev pub ArePlain : List Item → Type 0
ArePlain [] = Unit {0}
ArePlain (item ∷ items) = IsPlain item × ArePlain items

-- an item that stands for one piece, without a place in the program
abbrev pub IsPlaceless : Item → Type 0
IsPlaceless (At at) = ⊥
IsPlaceless (Once at) = ⊥
IsPlaceless (PassEndItem at began) = ⊥
IsPlaceless item = Unit {0}

abbrev pub ArePlaceless : List Item → Type 0
ArePlaceless [] = Unit {0}
ArePlaceless (item ∷ items) = IsPlaceless item × ArePlaceless items

-- an item that makes no call now
abbrev pub IsSilent : Item → Mode → Type 0
IsSilent (MakingItem call) GoingMode = ⊥
IsSilent (MakingItem call) (ReturningMode x) = ⊥
IsSilent (LeavesItem frame x) GoingMode = ⊥
IsSilent item mode = Unit {0}

-- an item that ends a statement
abbrev pub IsSettling : Item → Type 0
IsSettling (SettleItem call) = Unit {0}
IsSettling QuietItem = Unit {0}
IsSettling item = ⊥

-- an item that waits for the answer to its call: a `sleep`, or a compound
abbrev pub IsWaiting : Item → Type 0
IsWaiting (SleepingItem ms) = Unit {0}
IsWaiting (FeedItem q) = Unit {0}
IsWaiting item = ⊥

-- an item that is handed nothing, or waits for an answer
abbrev pub IsWaitingIn : Item → Mode → Type 0
IsWaitingIn item GoingMode = Unit {0}
IsWaitingIn item mode = IsWaiting item

-- an item that hands on what it is handed, or something else, and in whose place nothing comes
abbrev pub IsThrough : Item → Mode → Type 0
IsThrough (GivingItem a) mode = Unit {0}
IsThrough (LeavesItem frame x) mode = Unit {0}
IsThrough (LeftItem x) mode = Unit {0}
IsThrough (RestoreItem p) mode = Unit {0}
IsThrough (MakingItem call) (GivenMode a x) = Unit {0}
IsThrough item mode = ⊥

-- whether an answer is handed on at once: no procedure runs for it, and no call is made for it again
abbrev pub hands_on : Call → Answer → Bool
hands_on call Wait = false
hands_on call (Enter s proc_no w number wparam lparam) = is_last call
hands_on call (Callback s proc_no w number extra result) = is_last call
hands_on call (Inside s proc_no) = is_last call
hands_on call (Called proc_no) = is_last call
hands_on call (Begun s) = if is_last call then true else not (waits call)
hands_on call a = true

-- the call that an item makes now
abbrev pub asks : Item → Mode → Option Call
asks (MakingItem call) GoingMode = Some call
asks (MakingItem call) (ReturningMode x) = Some call
asks (LeavesItem frame x) GoingMode = Some (Leave x)
asks item mode = None

-- the parameters of the procedure that an answer runs
abbrev pub told : Answer → Parameters
told (Enter s proc_no w number wparam lparam) = parameters_from w.0 number wparam lparam
told (Callback s proc_no w number extra result) = parameters_from w.0 number extra result
told a = no_parameters

-- the first pieces have each trace that the second have
pub record Keeps (s : Tree) (ps : List Piece) (st : State) (qs : List Piece) (st' : State) (n : ℕ) : Type 0 where
  pub by : (tr : Trace) (e : End) → Makes s qs st' n tr e → Makes s ps st n tr e

-- the first pieces have each trace that begins with the call and its answer and goes on as one of the second
pub record Enters (s : Tree) (ps : List Piece) (st : State) (qs : List Piece) (st' : State) (n : ℕ) (call : Call) (a : Answer) : Type 0 where
  pub by : (tr : Trace) (e : End) → Makes s qs st' (suc n) tr e → Makes s ps st n ((call, a) ∷ tr) e

-- whatever pieces the items stood for, they now stand for pieces whose traces those pieces have
abbrev pub KeepsAll : Tree → Program → ℕ → List Item → State → List Item → State → Type 0
KeepsAll s p n items st items' st' = (ps : List Piece) → AllCover p items ps → (qs : List Piece) × AllCover p items' qs × Keeps s ps st qs st' n

-- that call, where there is one
abbrev pub call_if : Call → Bool → Option Call
call_if call true = Some call
call_if call false = None

-- the last of the items makes that call
abbrev pub Asking : List Item → Mode → Call → Type 0
Asking items mode call = (below : List Item) × (item : Item) × (items ≡ below ++ item ∷ []) × (asks item mode ≡ Some call)

-- the last item makes that call, or there is none
abbrev pub IsReady : List Item → Mode → Option Call → Type 0
IsReady items mode None = items ≡ []
IsReady items mode (Some call) = Asking items mode call

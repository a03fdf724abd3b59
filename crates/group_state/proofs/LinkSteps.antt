-- Links at a past with one entry more.
use Rattle.std.proofs.Common.{◌≡◌, ℕ, ◌==◌, Bool, true, false, not, cond, eqb, List, [], ◌∷◌, ◌++◌, refl, ap, ◌∙◌, sym, arith}
use Rattle.std.specs.Prelude.{◌&&◌, ◌||◌, filter}
use Rattle.std.specs.List.{list_any}
use Rattle.std.proofs.lemmas.Bool.Decides.{nat_tests}
use Rattle.input_state.specs.Groups.{EndsLinks, SetsPair, is_pair}
use Rattle.user_model.specs.declared.call.Call.TheVariants as calls
use Rattle.user_model.specs.declared.entry.Answer.TheVariants as answers
use Rattle.user_model.specs.declared.entry.Entry.{Entry}
use Rattle.user_model.specs.Past.{Past, is_refused}
use Rattle.user_model.specs.Places.{is_end}
use Rattle.user_model.specs.Groups.{Link, links, attached, attaches, are_attached, detaches, unlinks}
use Rattle.user_model.proofs.GroupLaws.{attached-next, attached-refused}
use Rattle.user_model.proofs.ListLaws.{filter_every, filter_same, or-false}
use Rattle.group_state.proofs.Reaching.{HasLinks}

any_append : {X : Type 0} (p : X → Bool) (xs ys : List X) → list_any p (xs ++ ys) ≡ (list_any p xs || list_any p ys)
any_append p [] ys = refl
any_append p (x ∷ xs) ys = ap (λ b. p x || b) (any_append p xs ys) ∙ by (p x)
  where
    by : (b : Bool) → (b || (list_any p xs || list_any p ys)) ≡ ((b || list_any p xs) || list_any p ys)
    by true = refl
    by false = refl

-- of those that are kept one passes where one passes at all, unless all that pass are out
any_kept : {X : Type 0} (p keep : X → Bool) (out : Bool) → ((x : X) → (keep x && p x) ≡ (not out && p x)) → (xs : List X) → list_any p (filter keep xs) ≡ (not out && list_any p xs)
any_kept p keep out same [] = by out
  where
    by : (b : Bool) → false ≡ (not b && false)
    by true = refl
    by false = refl
any_kept p keep out same (x ∷ xs) = first (keep x) ∙ ap (λ b. b || list_any p (filter keep xs)) (same x) ∙ ap (λ b. not out && p x || b) (any_kept p keep out same xs) ∙ sym (joint (not out) (p x))
  where
    first : (b : Bool) → list_any p (cond b (x ∷ filter keep xs) (filter keep xs)) ≡ (b && p x || list_any p (filter keep xs))
    first true = refl
    first false = refl

    joint : (b c : Bool) → (b && (c || list_any p xs)) ≡ (b && c || b && list_any p xs)
    joint true c = refl
    joint false c = refl

-- ---- an entry that ends no thread

no_end : (e : Entry) (x : Link) → is_end e.answer ≡ false → unlinks e x ≡ detaches e.call x
no_end e x h = ap (λ b. detaches e.call x || (b && eqb e.who.0 x.one || b && eqb e.who.0 x.other)) h ∙ or-false (detaches e.call x)

-- a call that is about no link leaves them
pub links_rest : (e : Entry) (past : Past) → is_end e.answer ≡ false → attaches e.call ≡ [] → ((x : Link) → detaches e.call x ≡ false) → attached (e ∷ past) ≡ attached past
links_rest e past lives makes undoes = by (is_refused e) refl
  where
    by : (b : Bool) → is_refused e ≡ b → attached (e ∷ past) ≡ attached past
    by true h = attached-refused e past h
    by false h =
        attached-next e past h
        ∙ ap (λ xs. filter (λ x. not (unlinks e x)) (attached past) ++ xs) makes
        ∙ behind (filter (λ x. not (unlinks e x)) (attached past))
        ∙ filter_every (λ x. not (unlinks e x)) (λ x. ap not (no_end e x lives ∙ undoes x)) (attached past)
      where
        behind : (xs : List Link) → xs ++ [] ≡ xs
        behind [] = refl
        behind (x ∷ xs) = ap (λ ys. x ∷ ys) (behind xs)

-- where the links stay, those that are kept are still those of the past
pub links_kept : (past later : Past) (kept : List ℕ) → attached later ≡ attached past → HasLinks past kept → HasLinks later kept
links_kept past later kept same has a b la lb = has a b la lb ∙ ap (λ (xs : List Link). cond (list_any (λ x. links x a b) xs) 1 0) (sym same)

-- ---- two threads are attached

same_pair : (t u a b : ℕ) → links (record { one = t; other = u }) a b ≡ is_pair t u a b
same_pair t u a b = grind (arith, nat_tests)

pub attached_more : (e : Entry) (past : Past) (t u a b : ℕ) → is_refused e ≡ false → is_end e.answer ≡ false → e.call ≡ calls.Attach t u → are_attached (e ∷ past) a b ≡ (are_attached past a b || is_pair t u a b)
attached_more e past t u a b fine lives is =
    ap (list_any (λ x. links x a b)) (attached-next e past fine ∙ ap (λ xs. xs ++ attaches e.call) (filter_every (λ x. not (unlinks e x)) (λ x. ap not (no_end e x lives ∙ ap (λ c. detaches c x) is)) (attached past)) ∙ ap (λ c. attached past ++ attaches c) is)
    ∙ any_append (λ x. links x a b) (attached past) (record { one = t; other = u } ∷ [])
    ∙ ap (λ c. are_attached past a b || c) (or-false (links (record { one = t; other = u }) a b) ∙ same_pair t u a b)

cell_more : (old pair : Bool) → ◌≡◌ {A = ℕ} (cond pair 1 (cond old 1 0)) (cond (old || pair) 1 0)
cell_more true true = refl
cell_more true false = refl
cell_more false true = refl
cell_more false false = refl

pub links_more : (e : Entry) (past : Past) (t u : ℕ) (old new : List ℕ) → is_refused e ≡ false → is_end e.answer ≡ false → e.call ≡ calls.Attach t u → HasLinks past old → SetsPair old new t u 1 → HasLinks (e ∷ past) new
links_more e past t u old new fine lives is has sets a b la lb =
    sets a b la lb ∙ ap (λ n. cond (is_pair t u a b) 1 n) (has a b la lb) ∙ cell_more (are_attached past a b) (is_pair t u a b) ∙ ap (λ c. cond c 1 0) (sym (attached_more e past t u a b fine lives is))

-- ---- an attachment is undone

pair_out : (t u a b : ℕ) (x : Link) → (not (links x t u) && links x a b) ≡ (not (is_pair t u a b) && links x a b)
pair_out t u a b x = grind (arith, nat_tests)

pub attached_less : (e : Entry) (past : Past) (t u a b : ℕ) → is_refused e ≡ false → is_end e.answer ≡ false → e.call ≡ calls.Detach t u → are_attached (e ∷ past) a b ≡ (not (is_pair t u a b) && are_attached past a b)
attached_less e past t u a b fine lives is =
    ap (list_any (λ x. links x a b)) (attached-next e past fine ∙ ap (λ c. filter (λ x. not (unlinks e x)) (attached past) ++ attaches c) is)
    ∙ any_append (λ x. links x a b) (filter (λ x. not (unlinks e x)) (attached past)) []
    ∙ or-false (list_any (λ x. links x a b) (filter (λ x. not (unlinks e x)) (attached past)))
    ∙ ap (list_any (λ x. links x a b)) (filter_same (λ x. not (unlinks e x)) (λ x. not (links x t u)) (λ x. ap not (no_end e x lives ∙ ap (λ c. detaches c x) is)) (attached past))
    ∙ any_kept (λ x. links x a b) (λ x. not (links x t u)) (is_pair t u a b) (pair_out t u a b) (attached past)

cell_less : (old out : Bool) → ◌≡◌ {A = ℕ} (cond out 0 (cond old 1 0)) (cond (not out && old) 1 0)
cell_less true true = refl
cell_less true false = refl
cell_less false true = refl
cell_less false false = refl

pub links_less : (e : Entry) (past : Past) (t u : ℕ) (old new : List ℕ) → is_refused e ≡ false → is_end e.answer ≡ false → e.call ≡ calls.Detach t u → HasLinks past old → SetsPair old new t u 0 → HasLinks (e ∷ past) new
links_less e past t u old new fine lives is has sets a b la lb =
    sets a b la lb ∙ ap (λ n. cond (is_pair t u a b) 0 n) (has a b la lb) ∙ cell_less (are_attached past a b) (is_pair t u a b) ∙ ap (λ c. cond c 1 0) (sym (attached_less e past t u a b fine lives is))

-- ---- a thread ends

thread_out : (who a b : ℕ) (x : Link) → (not (eqb who x.one || eqb who x.other) && links x a b) ≡ (not ((a == who) || (b == who)) && links x a b)
thread_out who a b x = grind (arith, nat_tests)

pub attached_left : (e : Entry) (past : Past) (a b : ℕ) → is_refused e ≡ false → e.answer ≡ answers.Ended → e.call ≡ calls.EndThread → are_attached (e ∷ past) a b ≡ (not ((a == e.who.0) || (b == e.who.0)) && are_attached past a b)
attached_left e past a b fine ended is =
    ap (list_any (λ x. links x a b)) (attached-next e past fine ∙ ap (λ c. filter (λ x. not (unlinks e x)) (attached past) ++ attaches c) is)
    ∙ any_append (λ x. links x a b) (filter (λ x. not (unlinks e x)) (attached past)) []
    ∙ or-false (list_any (λ x. links x a b) (filter (λ x. not (unlinks e x)) (attached past)))
    ∙ ap (list_any (λ x. links x a b)) (filter_same (λ x. not (unlinks e x)) (λ x. not (eqb e.who.0 x.one || eqb e.who.0 x.other)) goes (attached past))
    ∙ any_kept (λ x. links x a b) (λ x. not (eqb e.who.0 x.one || eqb e.who.0 x.other)) ((a == e.who.0) || (b == e.who.0)) (thread_out e.who.0 a b) (attached past)
  where
    goes : (x : Link) → not (unlinks e x) ≡ not (eqb e.who.0 x.one || eqb e.who.0 x.other)
    goes x = ap not (ap (λ c. detaches c x || (is_end e.answer && eqb e.who.0 x.one || is_end e.answer && eqb e.who.0 x.other)) is ∙ ap (λ r. is_end r && eqb e.who.0 x.one || is_end r && eqb e.who.0 x.other) ended)

pub links_left : (e : Entry) (past : Past) (old new : List ℕ) → is_refused e ≡ false → e.answer ≡ answers.Ended → e.call ≡ calls.EndThread → HasLinks past old → EndsLinks old new e.who.0 → HasLinks (e ∷ past) new
links_left e past old new fine ended is has sets a b la lb =
    sets a b la lb ∙ ap (λ n. cond ((a == e.who.0) || (b == e.who.0)) 0 n) (has a b la lb) ∙ cell_less (are_attached past a b) ((a == e.who.0) || (b == e.who.0)) ∙ ap (λ c. cond c 1 0) (sym (attached_left e past a b fine ended is))

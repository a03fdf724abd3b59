-- The table of classes at a past with one entry more, and what it tells of the past.
use Rattle.std.proofs.Common.{◌≡◌, ℕ, suc, ◌+◌, ◌<◌, ◌≤◌, Bool, true, false, not, cond, eqb, List, [], ◌∷◌, ◌++◌, map, length, Option, Some, None, refl, ap, ◌∙◌, sym, arith, add-one}
use Rattle.std.specs.Prelude.{◌&&◌, ◌||◌, filter, find, nat_eq, option_map, is_some, is_none}
use Rattle.std.specs.Map.{lookup}
use Rattle.std.proofs.Math.Dec.{leb}
use Rattle.std.proofs.lemmas.Bool.{true≢false, ne_eqb, leb-false}
use Rattle.std.proofs.lemmas.List.{append-nil, length-map, map-append}
use Rattle.win_num.specs.declared.code.Code.TheVariants.{Win, Full}
use Rattle.win_num.specs.declared.message.Thread.{Thread}
use Rattle.win_class.specs.declared.classes.Class.{Class as KeptClass}
use Rattle.win_class.specs.ClassTable.{ClassTable, no_classes, class_in, has_class, with_class, without_class, with_message, number_in, register_refusal, unregister_refusal, message_refusal}
use Rattle.win_class.specs.ClassTable as kept
use Rattle.user_model.specs.declared.call.Call.{Call}
use Rattle.user_model.specs.declared.call.Call.TheVariants as calls
use Rattle.user_model.specs.declared.entry.Answer.TheVariants as answers
use Rattle.user_model.specs.declared.entry.Entry.{Entry}
use Rattle.user_model.specs.declared.entry.Setup.{Setup}
use Rattle.user_model.specs.Past.{Past, is_refused, each_of}
use Rattle.user_model.specs.Classes.{Class, classes, class, registers, unregisters, registered_count, counts_class, is_used, message_names, message_number, names_new, place_in}
use Rattle.user_model.specs.Idle.{reply}
use Rattle.user_model.specs.Machines.{entry_of}
use Rattle.user_model.proofs.ListLaws.{filter_every}
use Rattle.user_model.proofs.PastLaws.{first_way}
use Rattle.user_model.proofs.ReplyLaws.{by_call}
use Rattle.user_model.proofs.WindowLaws.{classes-next, classes-same, registered_count-next, registered_count-same, message_names-next, message_names-same}
use Rattle.user_model.proofs.WindowReplies.{register_told, unregister_told, message_told}
use Rattle.window_state.specs.ClassTables.{class_entry, classes_at}

-- a table from its parts
abbrev pub table : List (ℕ × KeptClass) → ℕ → List ℕ → ClassTable
table cs n names = record { classes = cs; registered = n; messages = names }

same_table : (cs cs' : List (ℕ × KeptClass)) (n n' : ℕ) (names names' : List ℕ) → cs ≡ cs' → n ≡ n' → names ≡ names' → table cs n names ≡ table cs' n' names'
same_table cs cs' n n' names names' a b c = cc

-- the table of no past
pub classes_empty : classes_at [] ≡ no_classes
classes_empty = refl

-- an entry that registers and takes back nothing leaves the table
pub classes_at-same : (past : Past) (e : Entry) → registers e.call past ≡ [] → ((c : Class) → unregisters e.call c ≡ false) → counts_class e.call ≡ [] → names_new e.call (message_names past) ≡ [] → classes_at (e ∷ past) ≡ classes_at past
classes_at-same past e none keeps no_count no_name = same_table _ _ _ _ _ _ (ap (map class_entry) (classes-same e past none keeps)) (registered_count-same e past no_count) (message_names-same e past no_name)

-- a refused entry leaves the table
pub classes_at-refused : (past : Past) (e : Entry) → is_refused e ≡ true → classes_at (e ∷ past) ≡ classes_at past
classes_at-refused past e h =
    same_table _ _ _ _ _ _
    (ap (map class_entry) (first_way (is_refused e) (classes past) (filter (λ c. not (unregisters e.call c)) (classes past) ++ registers e.call past) h))
    (ap length (first_way (is_refused e) (each_of (λ (e : Entry) (before : Past). counts_class e.call) past) (each_of (λ (e : Entry) (before : Past). counts_class e.call) past ++ counts_class e.call) h))
    (first_way (is_refused e) (message_names past) (message_names past ++ names_new e.call (message_names past)) h)

-- whether the call may change the table
abbrev pub changes_classes : Call → Bool
changes_classes (calls.Register name proc_no colour) = true
changes_classes (calls.Unregister name) = true
changes_classes (calls.Message name) = true
changes_classes _ = false

record Idle (past : Past) (call : Call) : Type 0 where
  none : registers call past ≡ []
  keeps : (c : Class) → unregisters call c ≡ false
  no_count : counts_class call ≡ []
  no_name : names_new call (message_names past) ≡ []

idle : (past : Past) (call : Call) → changes_classes call ≡ false → Idle past call
idle past (calls.Register name proc_no colour) h = absurd (true≢false h)
idle past (calls.Unregister name) h = absurd (true≢false h)
idle past (calls.Message name) h = absurd (true≢false h)
idle past _ h = record { none = refl; keeps = λ c. refl; no_count = refl; no_name = refl }

-- any other call leaves the table
pub classes_at-rest : (past : Past) (e : Entry) → changes_classes e.call ≡ false → classes_at (e ∷ past) ≡ classes_at past
classes_at-rest past e h = let i = idle past e.call h in classes_at-same past e i.none i.keeps i.no_count i.no_name

-- a class is registered
pub classes_at-register : (past : Past) (who : Thread) (name proc_no colour n : ℕ) → classes_at (entry_of who (calls.Register name proc_no colour) (answers.Value n) ∷ past) ≡ with_class (classes_at past) name proc_no colour
classes_at-register past who name proc_no colour n =
    let e = entry_of who (calls.Register name proc_no colour) (answers.Value n) in
    let new : Class = record { name = name; atom = suc (registered_count past); proc_no = proc_no; colour = colour } in
    same_table _ _ _ _ _ _
    (ap (map class_entry) (classes-next e past refl ∙ ap (λ cs. cs ++ new ∷ []) (filter_every (λ c. true) (λ c. refl) (classes past)))
    ∙ (map-append class_entry (classes past) (new ∷ [])
    ∙ ap (λ (k : ℕ). map class_entry (classes past) ++ (name, kept.class k proc_no colour) ∷ []) (sym (add-one (registered_count past)))))
    (registered_count-next e past refl)
    (message_names-same e past refl)

filter_entries : (name : ℕ) (cs : List Class) → map class_entry (filter (λ c. not (eqb name c.name)) cs) ≡ filter (λ (e : ℕ × KeptClass). not (eqb name e.0)) (map class_entry cs)
filter_entries name [] = refl
filter_entries name (c ∷ cs) = pick (filter_entries name cs) (not (eqb name c.name))
  where
    pick : map class_entry (filter (λ c. not (eqb name c.name)) cs) ≡ filter (λ (e : ℕ × KeptClass). not (eqb name e.0)) (map class_entry cs) → (b : Bool) → map class_entry (cond b (c ∷ filter (λ c. not (eqb name c.name)) cs) (filter (λ c. not (eqb name c.name)) cs)) ≡ cond b (class_entry c ∷ filter (λ (e : ℕ × KeptClass). not (eqb name e.0)) (map class_entry cs)) (filter (λ (e : ℕ × KeptClass). not (eqb name e.0)) (map class_entry cs))
    pick rest true = ap (λ (l : List (ℕ × KeptClass)). class_entry c ∷ l) rest
    pick rest false = rest

-- a class is taken back
pub classes_at-unregister : (past : Past) (who : Thread) (name : ℕ) → classes_at (entry_of who (calls.Unregister name) answers.Okay ∷ past) ≡ without_class (classes_at past) name
classes_at-unregister past who name =
    let e = entry_of who (calls.Unregister name) answers.Okay in
    same_table _ _ _ _ _ _
    (ap (map class_entry) (classes-next e past refl ∙ append-nil (filter (λ c. not (eqb name c.name)) (classes past))) ∙ filter_entries name (classes past))
    (registered_count-same e past refl)
    (message_names-same e past refl)

-- the number of a message
pub number_at : (past : Past) (name : ℕ) → number_in (classes_at past) name ≡ message_number past name
number_at past name = refl

some_mapped : {A B : Type 0} (f : A → B) (o : Option A) → is_some (option_map f o) ≡ is_some o
some_mapped f None = refl
some_mapped f (Some a) = refl

-- a message is registered, if it isn't
pub classes_at-message : (past : Past) (who : Thread) (name n : ℕ) → classes_at (entry_of who (calls.Message name) (answers.Value n) ∷ past) ≡ with_message (classes_at past) name
classes_at-message past who name n =
    let e = entry_of who (calls.Message name) (answers.Value n) in
    same_table _ _ _ _ _ _
    (ap (map class_entry) (classes-same e past refl (λ c. refl)))
    (registered_count-same e past refl)
    (message_names-next e past refl
    ∙ (pick (is_some (place_in (message_names past) name))
    ∙ ap (λ b. cond b (message_names past) (message_names past ++ name ∷ [])) (sym (some_mapped (λ place. 49152 + place) (place_in (message_names past) name)))))
  where
    pick : (b : Bool) → message_names past ++ cond b [] (name ∷ []) ≡ cond b (message_names past) (message_names past ++ name ∷ [])
    pick true = append-nil (message_names past)
    pick false = refl

-- a class as the table keeps it
abbrev pub kept_class : Class → KeptClass
kept_class c = kept.class c.atom c.proc_no c.colour

class_among : (name : ℕ) (cs : List Class) → lookup (nat_eq name) (map class_entry cs) ≡ option_map kept_class (find (λ c. eqb name c.name) cs)
class_among name [] = refl
class_among name (c ∷ cs) = pick (class_among name cs) (eqb name c.name)
  where
    pick : lookup (nat_eq name) (map class_entry cs) ≡ option_map kept_class (find (λ c. eqb name c.name) cs) → (b : Bool) → cond b (Some (kept_class c)) (lookup (nat_eq name) (map class_entry cs)) ≡ option_map kept_class (cond b (Some c) (find (λ c. eqb name c.name) cs))
    pick rest true = refl
    pick rest false = rest

-- the class of a name
pub class_at : (past : Past) (name : ℕ) → class_in (classes_at past) name ≡ option_map kept_class (class past name)
class_at past name = class_among name (classes past)

-- whether a class has the name
pub has_class_at : (past : Past) (name : ℕ) → has_class (classes_at past) name ≡ is_some (class past name)
has_class_at past name = ap is_some (class_at past name) ∙ some_mapped kept_class (class past name)

-- how many classes there are
pub class_count_at : (past : Past) → length (classes_at past).classes ≡ length (classes past)
class_count_at past = length-map (classes past) class_entry

one_class : (call : Call) → length (counts_class call) ≤ 1
one_class (calls.Register name proc_no colour) = omega arith
one_class _ = omega arith

-- each entry registers one class at most
pub registered_few : (past : Past) → registered_count past ≤ length past
registered_few [] = omega arith
registered_few (e ∷ past) = pick (registered_few past) (is_refused e) refl
  where
    pick : registered_count past ≤ length past → (b : Bool) → is_refused e ≡ b → registered_count (e ∷ past) ≤ length (e ∷ past)
    pick few true h = let same : registered_count (e ∷ past) ≡ registered_count past = ap length (first_way (is_refused e) (each_of (λ (e : Entry) (before : Past). counts_class e.call) past) (each_of (λ (e : Entry) (before : Past). counts_class e.call) past ++ counts_class e.call) h) in omega (arith, same, few)
    pick few false h = omega (arith, few, registered_count-next e past h, one_class e.call)

-- the table refuses no class that the machine registers
pub register_not_refused : (setup : Setup) (past : Past) (who name proc_no colour n : ℕ) → reply setup past who (calls.Register name proc_no colour) ≡ answers.Value n → register_refusal (classes_at past) name ≡ None
register_not_refused setup past who name proc_no colour n right =
    let told = register_told setup past who name proc_no colour n right in
    let by = by_call setup past who (calls.Register name proc_no colour) (answers.Value n) right refl refl in
    let room : length past < 2097152 = leb-false 2097152 (length past) by.room in
    let few = registered_few past in
    let short : length (classes past) < 64 = leb-false 64 (length (classes past)) told.2 in
    let count = class_count_at past in
    ap (λ b. cond b (Some (Win 1410)) (cond (eqb (length (classes_at past).classes) 64 || eqb (registered_count past) 4294967295) (Some Full) None)) (has_class_at past name ∙ told.1)
    ∙ (ap (λ b. cond (b || eqb (registered_count past) 4294967295) (Some Full) None) (ne_eqb (length (classes_at past).classes) 64 (λ e. omega (arith, e, count, short)))
    ∙ ap (λ b. cond b (Some Full) None) (ne_eqb (registered_count past) 4294967295 (λ e. omega (arith, e, few, room))))

-- the atom that it gives is the answer
pub register_atom : (setup : Setup) (past : Past) (who name proc_no colour n : ℕ) → reply setup past who (calls.Register name proc_no colour) ≡ answers.Value n → (classes_at past).registered + 1 ≡ n
register_atom setup past who name proc_no colour n right = let told = register_told setup past who name proc_no colour n right in add-one (registered_count past) ∙ sym told.3

none_some : {A : Type 0} (o : Option A) → is_none o ≡ false → is_some o ≡ true
none_some None h = absurd (true≢false h)
none_some (Some a) h = refl

-- nor does it refuse to take back what the machine takes back
pub unregister_not_refused : (setup : Setup) (past : Past) (who name : ℕ) → reply setup past who (calls.Unregister name) ≡ answers.Okay → unregister_refusal (classes_at past) name (is_used past name) ≡ None
unregister_not_refused setup past who name right =
    let told = unregister_told setup past who name right in
    ap (λ b. cond b (cond (is_used past name) (Some (Win 1412)) None) (Some (Win 1411))) (has_class_at past name ∙ none_some (class past name) told.0)
    ∙ ap (λ b. cond b (Some (Win 1412)) None) told.1

message_tests : (o : Option ℕ) (n : ℕ) → (is_none o && leb 16384 n) ≡ false → cond (is_some o) None (cond (eqb n 16384) (Some Full) None) ≡ None
message_tests (Some k) n h = refl
message_tests None n h = let short : n < 16384 = leb-false 16384 n h in ap (λ b. cond b (Some Full) None) (ne_eqb n 16384 (λ e. omega (arith, e, short)))

-- nor a message
pub message_not_refused : (setup : Setup) (past : Past) (who name n : ℕ) → reply setup past who (calls.Message name) ≡ answers.Value n → message_refusal (classes_at past) name ≡ None
message_not_refused setup past who name n right = message_tests (message_number past name) (length (message_names past)) (message_told setup past who name n right).0

-- How a run of the script in the input ends.
use Rattle.std.proofs.Common.{◌≡◌, ℕ, List, Option, Some, None, refl, inl, inr, subst}
use Rattle.std.specs.Io.KnownBytes.{Consumes, IsAtEnd, Keeps}
use Rattle.user_io.specs.Outside.{Rose}
use Rattle.user_model.specs.Past.{Past}
use Rattle.script_tree.specs.Tree.{Tree}
use Rattle.script_text.specs.declared.fault.Refusal.{Refusal}
use Rattle.script_text.specs.Limits.{IsScript}
use Rattle.script_text.specs.Spelling.{spelling}
use Rattle.user_app.specs.declared.request.LogForm.{LogForm}
use Rattle.user_app.specs.declared.status.Status.{Status}
use Rattle.user_app.specs.declared.status.Status.TheVariants.{Done, Words, Script, Stuck, Spent, Illegal, ReadFault, WriteFault, Memory, WrongCall}
use Rattle.user_app.specs.Outcomes.{Ran, RunEnds, ReadNoScript, InputEnds}
use Rattle.user_app.specs.Refusals.{Refuses}

-- what is the same is kept
pub kept : (a b : Option (List ℕ)) → a ≡ b → Keeps a b
kept None b same = tt
kept (Some x) b same = subst (Keeps (Some x)) same refl

module _ (Runs : Tree → Past → Type 0) (form : LogForm) (left left' holds holds' : Option (List ℕ)) (missed missed' faults faults' : ℕ) where
  -- the input is no script
  pub refused_ends : (refusal : Refusal) (status : Status) → ReadNoScript left left' refusal → Refuses refusal holds holds' faults faults' status → InputEnds Runs form left left' holds holds' missed missed' faults faults' status
  refused_ends refusal Done cause told = absurd told
  refused_ends refusal Words cause told = absurd told
  refused_ends refusal Script cause told = record { refusal = refusal; cause = cause; written = told }
  refused_ends refusal Stuck cause told = absurd told
  refused_ends refusal Spent cause told = absurd told
  refused_ends refusal Illegal cause told = absurd told
  refused_ends refusal ReadFault cause told = absurd told
  refused_ends refusal WriteFault cause told = (told.1, inr (record { refusal = refusal; cause = cause; written = told.0 }))
  refused_ends refusal Memory cause told = inl (kept holds holds' told)
  refused_ends refusal WrongCall cause told = absurd told

  module _ (s : Tree) (script : IsScript s) (input : Consumes left left' (spelling s)) (out : IsAtEnd left') where
    ran : (status : Status) → RunEnds Runs form s holds holds' faults faults' status → Ran Runs form left left' holds holds' faults faults' status
    ran status ends = record { script = s; is_script = script; input = input; read_out = out; ends = ends }

    -- the script was run
    pub ran_ends : (status : Status) → RunEnds Runs form s holds holds' faults faults' status → InputEnds Runs form left left' holds holds' missed missed' faults faults' status
    ran_ends Done ends = ran Done ends
    ran_ends Words ends = absurd ends
    ran_ends Script ends = absurd ends
    ran_ends Stuck ends = ran Stuck ends
    ran_ends Spent ends = ran Spent ends
    ran_ends Illegal ends = absurd ends
    ran_ends ReadFault ends = absurd ends
    ran_ends WriteFault ends = (ends.1, inl (ran WriteFault ends))
    ran_ends Memory ends = inr (ran Memory ends)
    ran_ends WrongCall ends = absurd ends

  -- what a status alone tells
  pub write_failed : (status : Status) → status ≡ WriteFault → InputEnds Runs form left left' holds holds' missed missed' faults faults' status → Rose faults faults'
  write_failed status is told = (subst (InputEnds Runs form left left' holds holds' missed missed' faults faults') is told).0

  pub never_words : (status : Status) → status ≡ Words → InputEnds Runs form left left' holds holds' missed missed' faults faults' status → ⊥
  never_words status is told = subst (InputEnds Runs form left left' holds holds' missed missed' faults faults') is told

  pub never_illegal : (status : Status) → status ≡ Illegal → InputEnds Runs form left left' holds holds' missed missed' faults faults' status → ⊥
  never_illegal status is told = subst (InputEnds Runs form left left' holds holds' missed missed' faults faults') is told

  pub never_wrong : (status : Status) → status ≡ WrongCall → InputEnds Runs form left left' holds holds' missed missed' faults faults' status → ⊥
  never_wrong status is told = subst (InputEnds Runs form left left' holds holds' missed missed' faults faults') is told

-- what was not changed before is what is changed
module _ {A B : Type 0} (Runs : Tree → Past → Type 0) (form : LogForm) (left : A → Option (List ℕ)) (reads : A → ℕ) (holds : B → Option (List ℕ)) (faults : B → ℕ) (a a' z : A) (b b' y : B) where
  pub moved : (status : Status) → a' ≡ a → b' ≡ b → InputEnds Runs form (left a') (left z) (holds b') (holds y) (reads a') (reads z) (faults b') (faults y) status → InputEnds Runs form (left a) (left z) (holds b) (holds y) (reads a) (reads z) (faults b) (faults y) status
  moved status same same' told =
      subst (λ (x : B). InputEnds Runs form (left a) (left z) (holds x) (holds y) (reads a) (reads z) (faults x) (faults y) status) same'
      (subst (λ (x : A). InputEnds Runs form (left x) (left z) (holds b') (holds y) (reads x) (reads z) (faults b') (faults y) status) same told)

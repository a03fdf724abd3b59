-- Attached threads, and the groups that they make.
use Rattle.std.specs.Prelude.{ℕ, ◌==◌, Bool, false, ◌&&◌, ◌||◌, List, [], ◌∷◌}
use Rattle.std.specs.List.{list_any}
use Rattle.user_model.specs.declared.call.Call.{Call}
use Rattle.user_model.specs.declared.call.Call.TheVariants.{Attach, Detach}
use Rattle.user_model.specs.declared.entry.Entry.{Entry}
use Rattle.user_model.specs.Past.{Past, standing}
use Rattle.user_model.specs.Places.{ends_thread}

-- two threads that are attached to each other
pub record Link : Type 0 where
  pub one : ℕ
  pub other : ℕ

-- whether the link is that of t and u, in either order
abbrev pub links : Link → ℕ → ℕ → Bool
links x t u = (x.one == t) && (x.other == u) || (x.one == u) && (x.other == t)

-- the link that a call makes
abbrev pub attaches : Call → List Link
attaches (Attach t u) = record { one = t; other = u } ∷ []
attaches _ = []

-- whether the call undoes the link
abbrev pub detaches : Call → Link → Bool
detaches (Detach t u) x = links x t u
detaches _ x = false

-- whether the entry undoes the link, or ends one of its threads
abbrev pub unlinks : Entry → Link → Bool
unlinks e x = detaches e.call x || (ends_thread e x.one || ends_thread e x.other)

-- the links that were made, in order, without those that were undone or left by a thread that ended since
abbrev pub attached : Past → List Link
attached past = standing (λ e before. attaches e.call) (λ e before x. unlinks e x) past

-- whether t and u are attached to each other
abbrev pub are_attached : Past → ℕ → ℕ → Bool
are_attached past t u = list_any (λ x. links x t u) (attached past)

-- whether t reaches u by the links: with one link more, whoever reaches one end of it reaches what is reached from the other
abbrev pub reaches : List Link → ℕ → ℕ → Bool
reaches [] t u = t == u
reaches (x ∷ xs) t u = reaches xs t u || (reaches xs t x.one && reaches xs x.other u || reaches xs t x.other && reaches xs x.one u)

-- whether u is in the group of t, which has the threads that t reaches, itself among them
abbrev pub is_in_group : Past → ℕ → ℕ → Bool
is_in_group past t u = reaches (attached past) t u

-- Texts that went on into a sink one after the other.
use Rattle.std.proofs.Common.{◌≡◌, ℕ, List, [], ◌++◌, ap, ◌∙◌, sym, subst, append_assoc, append-nil}
use Rattle.std.specs.Prelude.{Option}
use Rattle.std.specs.Io.KnownBytes.{Appends}
use Rattle.std.proofs.KnownBytes.{Appends-trans, Appends-nil}
use Rattle.user_io.specs.Text.{Adds}
use Rattle.user_io.specs.Outside.{AppendsPart}
use Rattle.user_io.proofs.Written.{part_start, part_more}
use Rattle.log_text.specs.Passing.{Passes}

-- nothing was written, and the piece stands at the end of the text
pub kept : {a : Option (List ℕ)} {old new piece : List ℕ} → Adds old new piece → Passes a a old new piece
kept {a} {old} {new} {piece} h = record { gone = []; written = Appends-nil a; is = h.is }

pub none : (a : Option (List ℕ)) (text : List ℕ) → Passes a a text text []
none a text = record { gone = []; written = Appends-nil a; is = sym (append-nil text) }

-- all of the text was written
pub all_gone : {a b : Option (List ℕ)} {old new : List ℕ} → Appends a b old → new ≡ [] → Passes a b old new []
all_gone {a} {b} {old} {new} h e = record { gone = old; written = h; is = ap (λ (l : List ℕ). old ++ l) e }

pub both : (a b c : Option (List ℕ)) (x y z p q : List ℕ) → Passes a b x y p → Passes b c y z q → Passes a c x z (p ++ q)
both a b c x y z p q h k = record {
  gone = h.gone ++ k.gone;
  written = Appends-trans a b c h.gone k.gone h.written k.written;
  is = append_assoc h.gone k.gone z ∙ ap (λ (l : List ℕ). h.gone ++ l) k.is ∙ sym (append_assoc h.gone y q) ∙ ap (λ (l : List ℕ). l ++ q) h.is ∙ append_assoc x p q;
}

-- after which a front of the text was written, and so a front of both
pub part_then : (a b c : Option (List ℕ)) (x y p q : List ℕ) → Passes a b x y p → AppendsPart b c (y ++ q) → AppendsPart a c (x ++ (p ++ q))
part_then a b c x y p q h k =
    subst (AppendsPart a c) (sym (append_assoc h.gone y q) ∙ ap (λ (l : List ℕ). l ++ q) h.is ∙ append_assoc x p q) (part_more a b c h.gone (y ++ q) h.written k)

-- what was written is a front
pub part_so_far : (a b : Option (List ℕ)) (x y p q : List ℕ) → Passes a b x y p → AppendsPart a b (x ++ (p ++ q))
part_so_far a b x y p q h =
    subst (AppendsPart a b) (sym (append_assoc h.gone y q) ∙ ap (λ (l : List ℕ). l ++ q) h.is ∙ append_assoc x p q) (part_start a b h.gone (y ++ q) h.written)

-- what is left was written too
pub written_then : (a b c : Option (List ℕ)) (x y p q : List ℕ) → Passes a b x y p → Appends b c (y ++ q) → Appends a c (x ++ (p ++ q))
written_then a b c x y p q h k =
    subst (Appends a c) (sym (append_assoc h.gone y q) ∙ ap (λ (l : List ℕ). l ++ q) h.is ∙ append_assoc x p q) (Appends-trans a b c h.gone (y ++ q) h.written k)

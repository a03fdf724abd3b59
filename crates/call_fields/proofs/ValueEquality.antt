-- Values that are equal are the same.
use Rattle.std.proofs.Common.{◌≡◌, Bool, true, false, refl, ap, sym, ◌∙◌}
use Rattle.std.specs.Bool.{Decides}
use Rattle.std.proofs.lemmas.Bool.{false≢true}
use Rattle.std.proofs.lemmas.Bool.Decides.{Decides-int_eq, Decides-eqb}
use Rattle.win_num.specs.declared.code.Code.TheVariants as codes_of
use Rattle.win_num.specs.declared.send.Cause.TheVariants as causes
use Rattle.user_model.specs.declared.entry.Origin.TheVariants as origins
use Rattle.call_fields.specs.declared.value.Value.{Value}
use Rattle.call_fields.specs.declared.value.Value.TheVariants as values
use Rattle.call_fields.specs.contracts.value.ValuePartialEq.TheImpl.{eq-value}

abbrev pub is_same : Value → Value → Bool
is_same = eq-value.it

told : (a b : Value) → is_same a b ≡ true → a ≡ b
told (values.Number x) (values.Number y) e = ap values.Number ((Decides-eqb x y).0 e)
told (values.Message x) (values.Message y) e = ap values.Message ((Decides-eqb x y).0 e)
told (values.Signed x) (values.Signed y) e = ap values.Signed ((Decides-int_eq x y).0 e)
told (values.Name x) (values.Name y) e = ap values.Name ((Decides-eqb x y).0 e)
told (values.Procedure x) (values.Procedure y) e = ap values.Procedure ((Decides-eqb x y).0 e)
told (values.Window x) (values.Window y) e = ap (λ n. values.Window (record { 0 = n })) ((Decides-eqb x.0 y.0).0 e)
told (values.Send x) (values.Send y) e = ap (λ n. values.Send (record { 0 = n })) ((Decides-eqb x.0 y.0).0 e)
told (values.Thread x) (values.Thread y) e = ap (λ n. values.Thread (record { 0 = n })) ((Decides-eqb x.0 y.0).0 e)
told (values.Count x) (values.Count y) e = ap values.Count ((Decides-eqb x y).0 e)
told (values.ShortMessage x) (values.ShortMessage y) e = ap values.ShortMessage ((Decides-eqb x y).0 e)
told (values.Pixel x) (values.Pixel y) e = ap values.Pixel ((Decides-int_eq x y).0 e)
told (values.Byte x) (values.Byte y) e = ap values.Byte ((Decides-eqb x y).0 e)
told (values.Source origins.Posted) (values.Source origins.Posted) e = refl
told (values.Source origins.Quit) (values.Source origins.Quit) e = refl
told (values.Source origins.Input) (values.Source origins.Input) e = refl
told (values.Source origins.Paint) (values.Source origins.Paint) e = refl
told (values.Source origins.Timer) (values.Source origins.Timer) e = refl
told (values.Cause causes.Proc) (values.Cause causes.Proc) e = refl
told (values.Cause causes.Reply) (values.Cause causes.Reply) e = refl
told (values.Cause causes.Loss) (values.Cause causes.Loss) e = refl
told (values.Cause causes.Timeout) (values.Cause causes.Timeout) e = refl
told (values.Cause causes.Hung) (values.Cause causes.Hung) e = refl
told (values.Code (codes_of.Win x)) (values.Code (codes_of.Win y)) e = ap (λ n. values.Code (codes_of.Win n)) ((Decides-eqb x y).0 e)
told (values.Code codes_of.Full) (values.Code codes_of.Full) e = refl
told (values.Code codes_of.NotNow) (values.Code codes_of.NotNow) e = refl
told (values.Code codes_of.NoTarget) (values.Code codes_of.NoTarget) e = refl
told a b e = absurd (false≢true e)

same : (a : Value) → is_same a a ≡ true
same (values.Number x) = (Decides-eqb x x).1 refl
same (values.Message x) = (Decides-eqb x x).1 refl
same (values.Signed x) = (Decides-int_eq x x).1 refl
same (values.Name x) = (Decides-eqb x x).1 refl
same (values.Procedure x) = (Decides-eqb x x).1 refl
same (values.Window x) = (Decides-eqb x.0 x.0).1 refl
same (values.Send x) = (Decides-eqb x.0 x.0).1 refl
same (values.Thread x) = (Decides-eqb x.0 x.0).1 refl
same (values.Count x) = (Decides-eqb x x).1 refl
same (values.ShortMessage x) = (Decides-eqb x x).1 refl
same (values.Pixel x) = (Decides-int_eq x x).1 refl
same (values.Byte x) = (Decides-eqb x x).1 refl
same (values.Source origins.Posted) = refl
same (values.Source origins.Quit) = refl
same (values.Source origins.Input) = refl
same (values.Source origins.Paint) = refl
same (values.Source origins.Timer) = refl
same (values.Cause causes.Proc) = refl
same (values.Cause causes.Reply) = refl
same (values.Cause causes.Loss) = refl
same (values.Cause causes.Timeout) = refl
same (values.Cause causes.Hung) = refl
same (values.Code (codes_of.Win x)) = (Decides-eqb x x).1 refl
same (values.Code codes_of.Full) = refl
same (values.Code codes_of.NotNow) = refl
same (values.Code codes_of.NoTarget) = refl

pub is_same_decides : (a b : Value) → Decides (is_same a b) (a ≡ b)
is_same_decides a b = (told a b, λ e. ap (is_same a) (sym e) ∙ same a)

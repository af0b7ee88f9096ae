-- What is known of an `Option`.
use Rattle.std.proofs.Common.{◌≡◌, ◌∙◌, false, is_some, Option, Some, None, refl, sym}

-- an `Option` has one value at most
pub some_unique : {X : Type 0} (o : Option X) (x y : X) → o ≡ Some x → o ≡ Some y → x ≡ y
some_unique o x y is also = let e : Some x ≡ Some y = sym is ∙ also in cc e

pub none_of_false : {X : Type 0} (o : Option X) → is_some o ≡ false → o ≡ None
none_of_false None is = refl
none_of_false (Some x) is = absurd (let bad : ⊥ = cc is in bad)

pub some_none : {A : Type 0} {P : Type 0} (x : A) → ◌≡◌ {A = Option A} (Some x) None → P
some_none x e = absurd cc

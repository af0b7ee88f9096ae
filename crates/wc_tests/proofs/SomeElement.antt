-- What holds of some element of a list, and of some view of its elements.
use Rattle.std.proofs.Common.{◌≡◌, ◌<◌, ◌↔◌, Bool, IsTrue, List, [], ◌∷◌, map, length, get_or, sym, ap, subst, ◌∙◌, arith}
use Rattle.std.specs.List.{Any}
use Rattle.std.proofs.lemmas.List.{length-map, get_or-map, get_or_default}

pub Any-map : {X Y : Type 0} (f : X → Y) (P : Y → Type 0) (xs : List X) → Any (λ x. P (f x)) xs → Any P (map f xs)
Any-map f P xs a = (a.0, f a.1, omega (arith, a.2, length-map xs f), get_or-map f xs a.0 a.1 (f a.1) a.2 ∙ ap f a.3, a.4)

pub Any-unmap : {X Y : Type 0} (f : X → Y) (P : Y → Type 0) (xs : List X) → Any P (map f xs) → Any (λ x. P (f x)) xs
Any-unmap f P [] a = absurd (omega (arith, a.2))
Any-unmap f P (x ∷ xs) a =
    let small : a.0 < length (x ∷ xs) = omega (arith, a.2, length-map (x ∷ xs) f) in
    let same : a.1 ≡ f (get_or (x ∷ xs) a.0 x) = sym a.3 ∙ get_or-map f (x ∷ xs) a.0 x a.1 small in
    (a.0, get_or (x ∷ xs) a.0 x, small, get_or_default (x ∷ xs) a.0 (get_or (x ∷ xs) a.0 x) x small, subst P same a.4)

pub any_viewed : {X Y : Type 0} (f : X → Y) (P : Y → Type 0) (xs : List X) (b : Bool) → IsTrue b ↔ Any (λ x. P (f x)) xs → IsTrue b ↔ Any P (map f xs)
any_viewed f P xs b h = ((λ t. Any-map f P xs (h.0 t)), (λ a. h.1 (Any-unmap f P xs a)))

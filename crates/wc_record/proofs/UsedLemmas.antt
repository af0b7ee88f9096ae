-- Lists that are made item by item, of which some items are left.
use Rattle.std.proofs.Common.{◌≡◌, List, [], ◌++◌, Option, Some, None, refl, ap, sym, append_assoc, append-nil, ◌∙◌}
use Rattle.std.specs.List.{cons_option}

-- with what the items give that are left, the list has what all give
abbrev pub IsGathered : {A B : Type 0} → (List A → List B) → List A → List A → List B → Type 0
IsGathered give all rest list = give all ≡ list ++ give rest

-- the next item gives this
pub gathered_next : {A B : Type 0} (give : List A → List B) (all xs ys : List A) (out list more : List B) → give xs ≡ out ++ give ys → more ≡ list ++ out
    → IsGathered give all xs list → IsGathered give all ys more
gathered_next give all xs ys out list more h m p = p ∙ ap (λ zs. list ++ zs) h ∙ sym (append_assoc list out (give ys)) ∙ ap (λ zs. zs ++ give ys) (sym m)

pub gathered_end : {A B : Type 0} (give : List A → List B) (all rest : List A) (list : List B) → give rest ≡ []
    → IsGathered give all rest list → list ≡ give all
gathered_end give all rest list none p = sym (p ∙ ap (λ zs. list ++ zs) none ∙ append-nil list)

-- a value that there may be, before others
pub given_one : {A : Type 0} (o : Option A) (xs : List A) → cons_option o xs ≡ cons_option o [] ++ xs
given_one None xs = refl
given_one (Some a) xs = refl

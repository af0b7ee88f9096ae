-- Index spaces are built item by item.
use Rattle.std.proofs.Common.{◌≡◌, ℕ, List, [], ◌∷◌, ◌++◌, length, map, refl, ◌⊎◌, inl, inr, arith, ◌∙◌, sym, ap, append-nil}
use Rattle.wc_read.specs.Items.{FuncValue}
use Rattle.wc_read.specs.Spaces.{local_funcs}

no_more_funcs : {X : Type 0} (view : X → List ℕ) (ts : List ℕ) (bs : List X) → (length ts ≡ 0) ⊎ (length bs ≡ 0) → local_funcs ts (map view bs) ≡ []
no_more_funcs view [] bs e = refl
no_more_funcs view (t ∷ ts) [] e = refl
no_more_funcs view (t ∷ ts) (b ∷ bs) (inl e) = absurd (omega (arith, e))
no_more_funcs view (t ∷ ts) (b ∷ bs) (inr e) = absurd (omega (arith, e))

-- types or bodies have come to their end
pub all_funcs : {X : Type 0} (view : X → List ℕ) (done total : List FuncValue) (ts : List ℕ) (bs : List X) → done ++ local_funcs ts (map view bs) ≡ total → (length ts ≡ 0) ⊎ (length bs ≡ 0) → done ≡ total
all_funcs view done total ts bs e end = sym (append-nil done) ∙ ap (λ (r : List FuncValue). done ++ r) (sym (no_more_funcs view ts bs end)) ∙ e

-- What look-ups find.
use Rattle.std.proofs.Common.{◌≡◌, List, [], ◌∷◌, Bool, true, false, cond, Some, All, sym, subst}
use Rattle.std.specs.Map.{lookup}
use Rattle.std.proofs.lemmas.List.Elements.{All-head, All-tail}

-- what holds of all values holds of the one that a look-up finds
found_at : {K X : Type 0} (P : X → Type 0) (test : K → Bool) (x : X) (e : K × X) (es : List (K × X)) (b : Bool) → P e.1 → (Some x ≡ lookup test es → P x) → Some x ≡ cond b (Some e.1) (lookup test es) → P x
found_at P test x e es true own rest h = subst P (let same : e.1 ≡ x = cc (sym h) in same) own
found_at P test x e es false own rest h = rest h

pub found_has : {K X : Type 0} (P : X → Type 0) (test : K → Bool) (x : X) (es : List (K × X)) → All (λ e. P e.1) es → Some x ≡ lookup test es → P x
found_has P test x [] all h = absurd (let bad : ⊥ = cc h in bad)
found_has P test x (e ∷ es) all h = found_at P test x e es (test e.0) (All-head (λ f. P f.1) e es all) (found_has P test x es (All-tail (λ f. P f.1) e es all)) h

-- Look-ups among the views of what is there.
use Rattle.std.proofs.Common.{◌≡◌, ℕ, String, Bool, true, false, cond, List, [], ◌∷◌, map, Some, refl, string_bytes}
use Rattle.std.specs.Map.{lookup}
use Rattle.std.specs.Option.{option_map}
use Rattle.std.specs.Str.{bytes_eq}
use Rattle.std.specs.declared.alloc.Global.{Global}

module _ {K X A B : Type 0} (f : K → A) (g : X → B) (test : K → Bool) (view_test : A → Bool) (same : (k : K) → test k ≡ view_test (f k)) where
  first_viewed : (e : K × X) (es : List (K × X)) (b c : Bool) → b ≡ c → option_map g (lookup test es) ≡ lookup view_test (map (λ x. (f x.0, g x.1)) es)
      → option_map g (cond b (Some e.1) (lookup test es)) ≡ cond c (Some (g e.1)) (lookup view_test (map (λ x. (f x.0, g x.1)) es))
  first_viewed e es true true is rest = refl
  first_viewed e es true false is rest = absurd (let bad : ⊥ = cc is in bad)
  first_viewed e es false true is rest = absurd (let bad : ⊥ = cc is in bad)
  first_viewed e es false false is rest = rest

  -- a look-up, and the look-up among views
  pub lookup_viewed : (es : List (K × X)) → option_map g (lookup test es) ≡ lookup view_test (map (λ e. (f e.0, g e.1)) es)
  lookup_viewed [] = refl
  lookup_viewed (e ∷ es) = first_viewed e es (test e.0) (view_test (f e.0)) (same e.0) (lookup_viewed es)

-- what is listed under a name
pub name_viewed : {X B : Type 0} (g : X → B) (es : List (String Global × X)) (name : List ℕ)
    → option_map g (lookup (λ k. bytes_eq name (string_bytes k)) es) ≡ lookup (bytes_eq name) (map (λ e. (string_bytes e.0, g e.1)) es)
name_viewed g es name = lookup_viewed string_bytes g (λ k. bytes_eq name (string_bytes k)) (bytes_eq name) (λ k. refl) es

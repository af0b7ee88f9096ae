-- An adapter is looked up by its name.
use Rattle.std.proofs.Common.{◌≡◌, ℕ, Bool, true, false, ◌||◌, List, [], ◌∷◌, cond, map, Option, Some, is_some, refl, ◌∙◌, ap}
use Rattle.std.specs.Borrow.{Bor}
use Rattle.std.specs.List.{list_any}
use Rattle.std.specs.Map.{lookup}
use Rattle.std.specs.Str.{bytes_eq}
use Rattle.wc_world.specs.WorldViews.{adapter_entry}
use Rattle.wc_world.specs.declared.adapter.WorldAdapter.{WorldAdapter}
use Rattle.wcplan_inputs.specs.AdapterNames.{names_of}

some_or : {X : Type 0} (is : Bool) (x : X) (rest : Option X) → is_some (cond is (Some x) rest) ≡ (is || is_some rest)
some_or true x rest = refl
some_or false x rest = refl

pub there_named : (test : Bor (List ℕ) → Bool) (name : List ℕ) (es : List (Bor (List ℕ) × WorldAdapter))
    → ((k : Bor (List ℕ)) → test k ≡ bytes_eq name k.now)
    → is_some (lookup test es) ≡ list_any (bytes_eq name) (names_of (map adapter_entry es))
there_named test name [] same = refl
there_named test name (e ∷ es) same =
    some_or (test e.0) e.1 (lookup test es)
    ∙ (ap (λ (b : Bool). b || is_some (lookup test es)) (same e.0)
    ∙ ap (λ (b : Bool). bytes_eq name e.0.now || b) (there_named test name es same))

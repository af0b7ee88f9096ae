-- What holds of all imports, module by module.
use Rattle.std.proofs.Common.{ℕ, List, [], ◌∷◌, ◌++◌, All, subst}
use Rattle.std.specs.List.{flat_map}
use Rattle.std.proofs.lemmas.List.{map-append}
use Rattle.std.proofs.lemmas.List.Elements.{All-cons, All-nil}
use Rattle.wc_world.proofs.PairListLemmas.{all_front, all_back}
use Rattle.wc_names.specs.Views.{ImportView}
use Rattle.wc_validate.specs.Imports.Map.{imports_in}
use Rattle.wc_world.specs.Slots.{all_imports, imports_of}
use Rattle.wc_world.specs.Views.{ComponentWorldView, NamedWorldAdapter}

abbrev pub Single : Type 0
Single = List ℕ × (List ℕ × ImportView)

abbrev single : Single → ImportView
single x = x.1.1

each : {X : Type 0} (P : ImportView → Type 0) (g : X → List Single) (xs : List X) → All P (imports_of (flat_map g xs)) → All (λ x. All P (imports_of (g x))) xs
each P g [] h = All-nil (λ x. All P (imports_of (g x)))
each P g (x ∷ xs) h =
    let both : All P (imports_of (g x) ++ imports_of (flat_map g xs)) = subst (All P) (map-append single (g x) (flat_map g xs)) h in
    All-cons (λ x. All P (imports_of (g x))) x xs (all_front P (imports_of (g x)) (imports_of (flat_map g xs)) both)
    (each P g xs (all_back P (imports_of (g x)) (imports_of (flat_map g xs)) both))

module _ (P : ImportView → Type 0) (w : ComponentWorldView) (h : All P (imports_of (all_imports w.info w.adapters))) where
  abbrev of_adapter : NamedWorldAdapter → List Single
  of_adapter a = imports_in a.1.info.imports

  both : All P (imports_of (imports_in w.info.imports) ++ imports_of (flat_map of_adapter w.adapters))
  both = subst (All P) (map-append single (imports_in w.info.imports) (flat_map of_adapter w.adapters)) h

  pub of_main : All P (imports_of (imports_in w.info.imports))
  of_main = all_front P (imports_of (imports_in w.info.imports)) (imports_of (flat_map of_adapter w.adapters)) both

  pub of_adapters : All (λ (a : NamedWorldAdapter). All P (imports_of (imports_in a.1.info.imports))) w.adapters
  of_adapters = each P of_adapter w.adapters (all_back P (imports_of (imports_in w.info.imports)) (imports_of (flat_map of_adapter w.adapters)) both)

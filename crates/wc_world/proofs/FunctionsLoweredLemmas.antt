-- In a world that is made of an encoder each function that is recorded has its lowering.
use Rattle.std.proofs.Common.{◌≡◌, ℕ, zero, suc, ◌<◌, List, [], ◌∷◌, length, Some, All, refl, sym, ap, subst, ◌∙◌, arith}
use Rattle.std.specs.Prelude.{slice_get}
use Rattle.std.specs.List.{flat_map}
use Rattle.std.specs.Option.{option_map_or}
use Rattle.std.proofs.lemmas.List.Elements.{All-append, All-map}
use Rattle.semver.specs.Identifiers.{parts_text}
use Rattle.wc_resolve.specs.Views.{WorldView}
use Rattle.wc_resolve.specs.WellFormed.{IsWellFormed}
use Rattle.wc_resolve.proofs.WellFormedLemmas.{import_keys_have_texts, import_keys_in}
use Rattle.wc_encoder.specs.Distinct.{AreNamesDistinct}
use Rattle.wc_encoder.specs.EncoderParts.{EncoderView, IsWorldOf, world_imports}
use Rattle.wc_encoder.specs.WellFormed.{IsWellFormed as IsEncoder}
use Rattle.wc_names.specs.Laws.{IsImportIn}
use Rattle.wc_names.specs.Views.{ImportView}
use Rattle.wc_validate.specs.Imports.Map.{imports_in}
use Rattle.wc_validate.specs.Laws.{RecordsInRange}
use Rattle.wc_validate.specs.Validate.{main_input}
use Rattle.wc_world.specs.FunctionsLowered.{FunctionsLowered, IsLoweredIn}
use Rattle.wc_world.specs.Lowering.{Lowerer, all_entries, lowerer}
use Rattle.wc_world.specs.Options.{OptionsOf}
use Rattle.wc_world.specs.Slots.{all_imports, imports_of}
use Rattle.wc_world.specs.Views.{ComponentWorldView, ImportMapView, NamedWorldAdapter}
use Rattle.wc_world.specs.World.{IsWorldOf as IsComponentWorldOf}
use Rattle.wc_world.proofs.PairListLemmas.{all_of_flat}
use Rattle.wc_world.proofs.ServedLemmas.{all_lowered, named_from}
use Rattle.wc_world.proofs.WorldLemmas.{adapters_in}

-- a world at an index
world_of : (worlds : List WorldView) (i : ℕ) → i < length worlds → (v : WorldView) × (slice_get worlds i ≡ Some v)
world_of [] i small = absurd (let bad : ⊥ = omega (arith, small) in bad)
world_of (v ∷ worlds) zero small = (v, refl)
world_of (v ∷ worlds) (suc i) small = world_of worlds i (omega (arith, small))

module _ (e : EncoderView) (law : RecordsInRange e) (options : OptionsOf) (w : ComponentWorldView) (made : IsComponentWorldOf options e w) (v : WorldView) (at : IsWorldOf e v) where
  abbrev Names : List ℕ × (List ℕ × ImportView) → Type 0
  Names x = IsImportIn e.resolve v x.1.1

  -- what the imports of the main module and of the adapters name is there
  all_there : All (IsImportIn e.resolve v) (imports_of (all_imports w.info w.adapters))
  all_there =
      let main : All Names (imports_in w.info.imports) = law (main_input e e.module_import_map) e.module_bytes w.info v refl made.main at in
      let each : All (λ (a : NamedWorldAdapter). All Names (imports_in a.1.info.imports)) w.adapters = λ k d small. adapters_in e w.info law w.adapters made.adapters k d small v at in
      All-map (IsImportIn e.resolve v) (λ (x : List ℕ × (List ℕ × ImportView)). x.1.1) (all_imports w.info w.adapters)
      (All-append Names (imports_in w.info.imports) (flat_map (λ (a : NamedWorldAdapter). imports_in a.1.info.imports) w.adapters) main
      (all_of_flat Names (λ (a : NamedWorldAdapter). imports_in a.1.info.imports) w.adapters each))

  made_lowered : IsWellFormed e.resolve → AreNamesDistinct e.resolve (world_imports e) → All (IsLoweredIn w.encoder.resolve w.import_map) (imports_of (all_imports w.info w.adapters))
  made_lowered formed distinct =
      let l : Lowerer = lowerer e options w.info w.adapters in
      let imports : world_imports e ≡ v.imports = ap (λ o. option_map_or (λ (z : WorldView). z.imports) o []) at in
      let named = named_from e.resolve v.imports (import_keys_have_texts e.resolve formed e.world v at parts_text) (subst (AreNamesDistinct e.resolve) imports distinct) in
      let found : All (IsLoweredIn e.resolve (all_entries l v.imports)) (imports_of (all_imports w.info w.adapters)) = all_lowered l v named (import_keys_in e.resolve formed e.world v at) all_there in
      subst (λ (z : EncoderView). All (IsLoweredIn z.resolve w.import_map) (imports_of (all_imports w.info w.adapters))) (sym made.encoder)
      (subst (λ (m : ImportMapView). All (IsLoweredIn e.resolve m) (imports_of (all_imports w.info w.adapters))) (sym (made.lowerings ∙ ap (all_entries l) imports)) found)

pub functions_lowered : (e : EncoderView) → IsWellFormed e.resolve → IsEncoder e → RecordsInRange e → FunctionsLowered e
functions_lowered e formed has law options w made = let v = world_of e.resolve.worlds e.world has.has_world in made_lowered e law options w made v.0 v.1 formed has.distinct

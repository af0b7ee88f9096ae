-- What the imports of the adapters that a component has name is there.
use Rattle.std.proofs.Common.{List, [], ◌∷◌, Option, Some, None, All, refl}
use Rattle.std.specs.List.{AllByRecursion, AllZip}
use Rattle.std.proofs.lemmas.List.Elements.{All-from_recursion}
use Rattle.wc_adapters.specs.Adapters.{LibraryView}
use Rattle.wc_encoder.specs.EncoderParts.{EncoderView}
use Rattle.wc_validate.specs.Laws.{RecordsInRange}
use Rattle.wc_validate.specs.Validate.{IsRecordOf, ModuleRecord}
use Rattle.wc_world.specs.Trimming.{NamedAdapter, validation_input_of, needed_adapters}
use Rattle.wc_world.specs.Live.{AreImportsOf}
use Rattle.wc_world.specs.Views.{NamedWorldAdapter, WorldAdapterView}
use Rattle.wc_world.specs.World.{AreAdapters, IsAdapterOf, IsTrimmedOrLibrary}

module _ (e : EncoderView) (main : ModuleRecord) (law : RecordsInRange e) where
  adapter_recorded : (x : NamedAdapter) (w : WorldAdapterView) (o : Option LibraryView) → IsTrimmedOrLibrary e main x w o
      → IsRecordOf (validation_input_of e main x) w.wasm w.info
  adapter_recorded x w None h = h.last
  adapter_recorded x w (Some library) h = h.recorded

  one_in : (x : NamedAdapter) (y : NamedWorldAdapter) → IsAdapterOf e main x y → AreImportsOf e y.1.info
  one_in x y h = λ w at. law (validation_input_of e main x) y.1.wasm y.1.info w refl (adapter_recorded x y.1 x.1.library_info h.is_adapter) at

  all_in : (xs : List NamedAdapter) (ys : List NamedWorldAdapter) → AllZip (IsAdapterOf e main) xs ys → AllByRecursion (λ (y : NamedWorldAdapter). AreImportsOf e y.1.info) ys
  all_in [] [] h = tt
  all_in [] (y ∷ ys) h = absurd h
  all_in (x ∷ xs) [] h = absurd h
  all_in (x ∷ xs) (y ∷ ys) h = (one_in x y h.0, all_in xs ys h.1)

  -- of each adapter
  pub adapters_in : (ys : List NamedWorldAdapter) → AreAdapters e main ys → All (λ (y : NamedWorldAdapter). AreImportsOf e y.1.info) ys
  adapters_in ys h = All-from_recursion (λ (y : NamedWorldAdapter). AreImportsOf e y.1.info) ys (all_in (needed_adapters e main) ys h)

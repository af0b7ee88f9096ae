-- Of an encoder and options there is one world at most.
use Rattle.std.proofs.Common.{◌≡◌, ℕ, List, [], ◌∷◌, ◌++◌, Bool, Option, Some, None, filter, refl, sym, ap, subst, ◌∙◌}
use Rattle.std.specs.Prelude.{IsSome, is_some}
use Rattle.std.specs.List.{AllZip}
use Rattle.wc_read.specs.Laws.{HasOneValue}
use Rattle.wc_read.specs.Modules.{SpellsModule}
use Rattle.wc_resolve.specs.Kinds.{ResolveView}
use Rattle.wc_adapters.specs.Adapters.{LibraryView}
use Rattle.wc_encoder.specs.EncoderParts.{EncoderView, world_exports, world_imports}
use Rattle.wc_adapters.specs.Entries.{Entries}
use Rattle.wc_names.specs.Views.{ImportView}
use Rattle.wc_validate.specs.Imports.Map.{imports_in, memory_in}
use Rattle.wc_validate.specs.Laws.{RecordsUnique}
use Rattle.wc_validate.specs.Validate.{IsRecordOf, ModuleRecord, main_input}
use Rattle.wc_world.specs.Trimming.{NamedAdapter, is_adapter_needed, validation_input_of}
use Rattle.wc_world.specs.Live.{by_owner, exports_roots, live_from, live_types, module_roots}
use Rattle.wc_world.specs.Lowering.{all_entries, lowered, lowerer_of}
use Rattle.wc_world.specs.Options.{OptionsOf}
use Rattle.wc_world.specs.Slots.{imports_of}
use Rattle.wc_world.specs.Used.{AreUsed, Used, UsedView}
use Rattle.wc_world.specs.Views.{NamedWorldAdapter, WorldAdapterView}
use Rattle.wc_world.specs.World.{AreAdapters, IsAdapterOf, IsTrimmedAdapter, IsTrimmedOrLibrary}
use Rattle.wc_plan.specs.Laws.{IsSameAdapter, WorldsUnique}
use Rattle.wc_world.proofs.ExclusionLemmas.{same_test}
use Rattle.wc_plan.proofs.SameWorldLemmas.{flat_same}

-- sets of the interfaces that exported interfaces use

module _ (r : ResolveView) (exports : Entries) (s t : UsedView) (p : AreUsed r exports s) (q : AreUsed r exports t) where
  same_set : (i : ℕ) (a b : ℕ → Bool) → s i ≡ Some a → t i ≡ Some b → a ≡ b
  same_set i a b f g =
      let at : (j : ℕ) → a j ≡ b j = λ j. same_test (a j) (b j) (Used r exports i j) (p.used i a f j) (q.used i b g j) in
      λ k j. at j k

  same_at : (i : ℕ) (a b : Option (ℕ → Bool)) → s i ≡ a → t i ≡ b → a ≡ b
  same_at i None None f g = refl
  same_at i (Some a) (Some b) f g = ap Some (same_set i a b f g)
  same_at i (Some a) None f g =
      let there : IsSome (t i) = (q.exported i).1 ((p.exported i).0 (subst IsSome (sym f) refl)) in
      absurd (let none : IsSome {T = ℕ → Bool} None = subst IsSome g there in let bad : ⊥ = cc none in bad)
  same_at i None (Some b) f g =
      let there : IsSome (s i) = (p.exported i).1 ((q.exported i).0 (subst IsSome (sym g) refl)) in
      absurd (let none : IsSome {T = ℕ → Bool} None = subst IsSome f there in let bad : ⊥ = cc none in bad)

  same_sets : s ≡ t
  same_sets = let at : (i : ℕ) → s i ≡ t i = λ i. same_at i (s i) (t i) refl refl in λ k i. at i k

module _ (e : EncoderView) (unique : RecordsUnique e) (one : HasOneValue SpellsModule) where
  module _ (main : ModuleRecord) (x : NamedAdapter) where
    same_record : (bytes other : List ℕ) (p q : ModuleRecord) → bytes ≡ other → IsRecordOf (validation_input_of e main x) bytes p → IsRecordOf (validation_input_of e main x) other q → p ≡ q
    same_record bytes other p q same a b =
        unique (validation_input_of e main x) other p q refl (subst (λ z. IsRecordOf (validation_input_of e main x) z p) same a) b

    -- an adapter is trimmed to one text
    same_text : (y z : WorldAdapterView) → IsTrimmedAdapter e main x y → IsTrimmedAdapter e main x z → y.wasm ≡ z.wasm
    same_text y z a b =
        let first = unique (validation_input_of e main x) x.1.wasm a.first b.first refl a.original b.original in
        let values = one x.1.wasm a.trimmed.image.value b.trimmed.image.value a.trimmed.image.spelled b.trimmed.image.spelled in
        let live : a.trimmed.image.live ≡ b.trimmed.image.live =
        λ k i. same_test (a.trimmed.image.live i) (b.trimmed.image.live i) _ (rw (first, values) at (a.trimmed.image.decides i)) (b.trimmed.image.decides i) k in
        (rw (first, values, live) at a.trimmed.image.written) ∙ sym b.trimmed.image.written

    same_adapter : (y z : NamedWorldAdapter) (o : Option LibraryView) → y.0 ≡ z.0 → y.1.library_info ≡ o → z.1.library_info ≡ o → IsTrimmedOrLibrary e main x y.1 o
        → IsTrimmedOrLibrary e main x z.1 o → IsSameAdapter y z
    same_adapter y z None named p q a b =
        let text = same_text y.1 z.1 a b in
        record {
          named = named;
          bytes = text;
          info = same_record y.1.wasm z.1.wasm y.1.info z.1.info text a.last b.last;
          library = p ∙ sym q;
          borrowed = λ some. absurd (let none : IsSome {T = LibraryView} None = subst IsSome p some in let bad : ⊥ = cc none in bad);
        }
    same_adapter y z (Some library) named p q a b =
        let text = a.same_bytes ∙ sym b.same_bytes in
        record {
          named = named;
          bytes = text;
          info = same_record y.1.wasm z.1.wasm y.1.info z.1.info text a.recorded b.recorded;
          library = p ∙ sym q;
          borrowed = λ some. a.borrowed ∙ sym b.borrowed;
        }

    same_entry : (y z : NamedWorldAdapter) → IsAdapterOf e main x y → IsAdapterOf e main x z → IsSameAdapter y z
    same_entry y z a b = same_adapter y z x.1.library_info (a.named ∙ sym b.named) a.library b.library a.is_adapter b.is_adapter

  same_adapters : (main : ModuleRecord) (xs : List NamedAdapter) (ys zs : List NamedWorldAdapter) → AllZip (IsAdapterOf e main) xs ys
      → AllZip (IsAdapterOf e main) xs zs → AllZip IsSameAdapter ys zs
  same_adapters main [] [] [] a b = tt
  same_adapters main [] [] (z ∷ zs) a b = absurd b
  same_adapters main [] (y ∷ ys) zs a b = absurd a
  same_adapters main (x ∷ xs) [] zs a b = absurd a
  same_adapters main (x ∷ xs) (y ∷ ys) [] a b = absurd b
  same_adapters main (x ∷ xs) (y ∷ ys) (z ∷ zs) a b = (same_entry main x y z a.0 b.0, same_adapters main xs ys zs a.1 b.1)

  -- lowerings and live types are those of the same imports
  same_lowered : (options : OptionsOf) (main : ModuleRecord) (ys zs : List NamedWorldAdapter) → AllZip IsSameAdapter ys zs
      → lowered e options main ys ≡ lowered e options main zs
  same_lowered options main ys zs same =
      ap (λ (rest : List (List ℕ × (List ℕ × ImportView))). all_entries (lowerer_of e.resolve options (is_some (memory_in main.imports)) (imports_of (imports_in main.imports ++ rest))) (world_imports e))
      (flat_same (λ (a : NamedWorldAdapter). imports_in a.1.info.imports) (λ y z h. ap (λ (m : ModuleRecord). imports_in m.imports) h.info) ys zs same)

  same_live : (sets : UsedView) (main : ModuleRecord) (ys zs : List NamedWorldAdapter) → AllZip IsSameAdapter ys zs
      → by_owner e.resolve (live_types e sets main ys) ≡ by_owner e.resolve (live_types e sets main zs)
  same_live sets main ys zs same =
      ap (λ (roots : List ℕ). by_owner e.resolve (live_from e.resolve (module_roots e.resolve (world_imports e) main.imports ++ (roots ++ exports_roots e.resolve sets (world_exports e)))))
      (flat_same (λ (a : NamedWorldAdapter). module_roots e.resolve (world_imports e) a.1.info.imports) (λ y z h. ap (λ (m : ModuleRecord). module_roots e.resolve (world_imports e) m.imports) h.info) ys zs same)

  pub worlds_are_same : WorldsUnique e
  worlds_are_same options w x p q =
      let main = unique (main_input e e.module_import_map) e.module_bytes w.info x.info refl p.main q.main in
      let adapters = same_adapters x.info (filter (is_adapter_needed e x.info) e.adapters) w.adapters x.adapters (subst (λ m. AreAdapters e m w.adapters) main p.adapters) q.adapters in
      let sets = same_sets e.resolve (world_exports e) w.exports_used x.exports_used p.used q.used in
      record {
        encoder = p.encoder ∙ sym q.encoder;
        main = main;
        adapters = adapters;
        lowerings = p.lowerings ∙ ap (λ m. lowered e options m w.adapters) main ∙ same_lowered options x.info w.adapters x.adapters adapters ∙ sym q.lowerings;
        live = p.live ∙ ap (λ m. by_owner e.resolve (live_types e w.exports_used m w.adapters)) main
            ∙ ap (λ (z : UsedView). by_owner e.resolve (live_types e z x.info w.adapters)) sets
            ∙ same_live x.exports_used x.info w.adapters x.adapters adapters ∙ sym q.live;
        used = sets;
      }

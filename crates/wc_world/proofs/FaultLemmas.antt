-- Faults of adapters, by what refused them.
use Rattle.std.proofs.Common.{◌≡◌, ◌≢◌, ◌≤◌, ◌⊎◌, ℕ, min, arith, List, [], MatchOption, Option, Some, None, Result, Ok, Err, IfOk, String, true, refl, sym, ap, ◌∙◌, subst, inl, inr}
use Rattle.std.specs.Borrow.{Bor}
use Rattle.std.specs.Option.{option_copied, option_map, option_map_or}
use Rattle.std.specs.declared.alloc.Global.{Global}
use Rattle.wc_read.specs.declared.types.MemoryType.{MemoryType}
use Rattle.wc_read.specs.Limits.{page_size_log2_of}
use Rattle.wc_adapters.specs.declared.adapters.LibraryInfo.{LibraryInfo}
use Rattle.wc_adapters.specs.Adapters.{LibraryView, library_view}
use Rattle.wc_gc.specs.LiveItems.{TrimInput, names_of, trim_input}
use Rattle.wc_gc.specs.Parts.{SettingsView, settings}
use Rattle.wc_gc.specs.TrimmedText.{IsTrimmed}
use Rattle.wc_gc.specs.Trim.{IsTrimFault}
use Rattle.wc_write.specs.Values.{AreBytes}
use Rattle.wc_gc.specs.TrimPlace.{IsExplained as IsTrimExplained, IsPlace as IsPlaceOfTrim}
use Rattle.wc_gc.specs.declared.fault.GcFault.{GcFault}
use Rattle.wc_gc.specs.declared.fault.GcFault.TheVariants as trim
use Rattle.wc_gc.specs.declared.trim_place.TrimPlace.{TrimPlace}
use Rattle.wc_validate.specs.Imports.Map.{memory_in}
use Rattle.wc_validate.specs.Refused.{HasNoPlace as HasNoPlaceInModule, RefusedModule}
use Rattle.wc_validate.specs.Validate.{IsValidateCause, IsRecordOf, ValidationInput, ModuleRecord, adapter_input}
use Rattle.wc_validate.specs.declared.fault.ValidateFault.{ValidateFault}
use Rattle.wc_validate.specs.declared.fault.ValidateFault.TheVariants as validate
use Rattle.wc_world.specs.Trimming.{validation_input_of, main_page_size, main_realloc, page_size, required_names, trim_page_size_log2}
use Rattle.wc_world.specs.Causes.{IsMinimizedReached, IsRefused, IsStopOf, IsTrimReached}
use Rattle.wc_world.specs.Places.{IsInAdapter, IsMinimizedPlace, IsTrimPlace, IsTrimUnplaced, IsValidationPlace}
use Rattle.wc_world.specs.Private.Adapters.{IsInputTrimmedOrLibrary, IsInputRecord, IsInputTrimmedText, IsNeeded, main_of, named_adapter, required_of}
use Rattle.wc_world.specs.Private.Refused.{IsInputRefusal, IsModuleRefusal, IsNamedRefusal, IsPlacedBy}
use Rattle.wc_world.specs.Refused.{RefusedWorld}
use Rattle.wc_world.specs.Restricted.{RefusedAsCollision}
use Rattle.wc_world.specs.Views.{WorldAdapterView}
use Rattle.wc_world.specs.World.{IsTrimmedOrLibrary, settings_of, adapter_trim_input}
use Rattle.wc_world.specs.declared.adapters.AdapterInput.{AdapterInput}
use Rattle.wc_world.specs.declared.fault.WorldFault.{WorldFault}
use Rattle.wc_world.specs.declared.fault.WorldFault.TheVariants.{Adapter, Trim, Minimized, PageSize}
use Rattle.wc_world.specs.declared.places.ModulePlace.{ModulePlace}
use Rattle.wc_world.specs.declared.places.ModulePlace.TheVariants as place
use Rattle.wc_world.proofs.NeededLemmas.{needed_some}
use Rattle.wc_world.proofs.RefusedLemmas.{named_refusal, placed}
use Rattle.wc_world.proofs.RestrictedLemmas.{trimmed_for}
pub use Rattle.wc_validate.proofs.RefusedLemmas.{passed_on}

pub refused_or_memory : (j : ValidationInput) (bytes : List ℕ) (f : ValidateFault) → IsValidateCause j bytes f → (f ≡ validate.Memory) ⊎ IsRefused j bytes f
refused_or_memory j bytes validate.Memory h = inl refl
refused_or_memory j bytes f h = inr ((λ is. let bad : ⊥ = cc is in bad), h)

untrimmed_or_memory : (s : SettingsView) (w : TrimInput) (f : GcFault) → IsTrimFault s w f → (f ≡ trim.Memory) ⊎ ((f ≢ trim.Memory) × IsTrimFault s w f)
untrimmed_or_memory s w trim.Memory h = inl refl
untrimmed_or_memory s w f h = inr ((λ is. let bad : ⊥ = cc is in bad), h)

-- what a library is passed, as it is seen
pub seen_library : (o : Option (Bor LibraryInfo)) (p : Option LibraryInfo) → option_copied o ≡ p → option_map (λ (l : Bor LibraryInfo). library_view l.now) o ≡ option_map library_view p
seen_library None p is = ap (option_map library_view) is
seen_library (Some l) p is = ap (option_map library_view) is

pub page_size_log2_small : (o : Option MemoryType) (n : ℕ) → n ≡ trim_page_size_log2 o → n ≤ 16
page_size_log2_small o n is = let e : n ≡ min (option_map_or (λ (t : MemoryType). page_size_log2_of t.page_size_log2) o 16) 16 = is in omega (arith, e)

pub ok_mapped : {T E : Type 0} (P Q : T → Type 0) (r : Result T E) → ((v : T) → P v → Q v) → IfOk r P → IfOk r Q
ok_mapped P Q (Ok v) f h = f v h
ok_mapped P Q (Err e) f h = tt

-- an adapter is refused with this fault
stop_at : (g : AdapterInput) (f : WorldFault) (x : RefusedWorld) → x.fault ≡ f → IsStopOf g.encoder.now (main_of g) (named_adapter g) f → IsPlacedBy g.encoder.now (main_of g) (named_adapter g) f x.place → IsInputRefusal g x
stop_at g f x is stop here =
    inr (subst (IsStopOf g.encoder.now (main_of g) (named_adapter g)) (sym is) stop, subst (λ z. IsPlacedBy g.encoder.now (main_of g) (named_adapter g) z x.place) (sym is) here)

-- what a module is validated for in an adapter's place
module _ (g : AdapterInput) (needed : IsNeeded g) (library : Option LibraryView) (own : library ≡ (named_adapter g).1.library_info) where
  validation_input : ValidationInput
  validation_input = validation_input_of g.encoder.now (main_of g) (named_adapter g)

  own_input : adapter_input g.encoder.now library (named_adapter g).1.required_exports (required_of g) ≡ validation_input
  unfolding validation_input
  own_input =
      ap (λ l. adapter_input g.encoder.now l (named_adapter g).1.required_exports (required_of g)) own
      ∙ ap (λ r. adapter_input g.encoder.now (named_adapter g).1.library_info (named_adapter g).1.required_exports r) needed.required

  pub recorded_input : (bytes other : List ℕ) (r : ModuleRecord) → bytes ≡ other → IsRecordOf (adapter_input g.encoder.now library (named_adapter g).1.required_exports (required_of g)) bytes r → IsInputRecord g other r
  unfolding validation_input
  recorded_input bytes other r is h = subst (λ b. IsInputRecord g b r) is (subst (λ j. IsRecordOf j bytes r) own_input h)

  refused_input : (bytes other : List ℕ) (m : RefusedModule) → bytes ≡ other → IsModuleRefusal (adapter_input g.encoder.now library (named_adapter g).1.required_exports (required_of g)) bytes m → IsModuleRefusal validation_input other m
  refused_input bytes other m is h = subst (λ b. IsModuleRefusal validation_input b m) is (subst (λ j. IsModuleRefusal j bytes m) own_input h)

  -- a module that is refused as the encoder has it, and one that is refused once it is trimmed
  pub adapter_refused : (bytes : List ℕ) (m : RefusedModule) (x : RefusedWorld) → bytes ≡ g.adapter.now.wasm.items → IsModuleRefusal (adapter_input g.encoder.now library (named_adapter g).1.required_exports (required_of g)) bytes m
      → IsNamedRefusal (λ s. Adapter s m.fault) place.Validation g.name.now m.place x → IsInputRefusal g x
  unfolding validation_input
  adapter_refused bytes m x is h named =
      let at = refused_input bytes g.adapter.now.wasm.items m is h in
      named_refusal (λ s. Adapter s m.fault) place.Validation g.name.now m.place (IsInputRefusal g) x (λ memory. inl memory)
      (λ s same made found. stop_at g (Adapter s m.fault) x made
      (elim (refused_or_memory validation_input g.adapter.now.wasm.items m.fault at.0) [ inl memory ↦ inr (same, memory) | inr refused ↦ inl (same, refused) ])
      (placed (IsInAdapter g.name.now) place.Validation (HasNoPlaceInModule m.fault) _ (IsValidationPlace validation_input g.adapter.now.wasm.items m.fault) (λ p here. here) m.place x.place at.1 found)) named

  pub minimized_refused : (bytes : List ℕ) (m : RefusedModule) (x : RefusedWorld) (first : ModuleRecord) → RefusedAsCollision g.encoder.now → IsInputTrimmedText g first bytes
      → IsModuleRefusal (adapter_input g.encoder.now library (named_adapter g).1.required_exports (required_of g)) bytes m → IsNamedRefusal (λ s. Minimized s m.fault) place.Validation g.name.now m.place x → IsInputRefusal g x
  unfolding validation_input
  minimized_refused bytes m x first law trim h named =
      let reached : IsMinimizedReached g.encoder.now (main_of g) (named_adapter g) = record {
        valid = record { first = first; trims = trim.no_library; original = trim.original };
        text = bytes;
        trimmed = trim.trimmed;
      } in
      let at = refused_input bytes bytes m refl h in
      named_refusal (λ s. Minimized s m.fault) place.Validation g.name.now m.place (IsInputRefusal g) x (λ memory. inl memory)
      (λ s same made found. stop_at g (Minimized s m.fault) x made
      (elim (refused_or_memory validation_input bytes m.fault at.0) [
        | inl memory ↦ inr (same, memory, reached)
        | inr refused ↦ inl (
          same,
          record {
            reached = reached;
            refused = refused;
            collides = law validation_input (settings_of g.encoder.now (main_of g) first) (adapter_trim_input (main_of g) (named_adapter g) first) bytes first m.fault trim refused.0 refused.1;
          },
        )
      ])
      (placed (IsInAdapter g.name.now) place.Validation (HasNoPlaceInModule m.fault) _ (λ p. IsMinimizedPlace g.encoder.now m.fault p (main_of g) (named_adapter g)) (λ p here. (reached, here)) m.place x.place at.1 found)) named

-- to what it is trimmed
module _ (g : AdapterInput) (needed : IsNeeded g) (first : ModuleRecord) (realloc : Option (Bor (List ℕ))) (page_size_log2 : ℕ) (bytes : List ℕ) (names : List (String Global))
    (is_realloc : option_map (λ (name : Bor (List ℕ)). name.now) realloc ≡ main_realloc g.encoder.now.realloc_via_memory_grow g.main.now.exports) (is_page_size_log2 : page_size_log2 ≡ trim_page_size_log2 (memory_in first.imports))
    (is_bytes : bytes ≡ g.adapter.now.wasm.items) (is_names : names_of names ≡ required_names (required_of g) first.exports) where
  settings_by : Option (List ℕ) → ℕ → SettingsView
  settings_by r n = record { realloc = r; page_size_log2 = n }

  trim_input_by : List ℕ → List (List ℕ) → TrimInput
  trim_input_by b ns = record { bytes = b; required = ns }

  own_settings : settings realloc page_size_log2 ≡ settings_of g.encoder.now (main_of g) first
  unfolding settings_by
  own_settings = ap (λ r. settings_by r page_size_log2) is_realloc ∙ ap (settings_by (main_realloc g.encoder.now.realloc_via_memory_grow g.main.now.exports)) is_page_size_log2

  own_trim_input : trim_input bytes names ≡ adapter_trim_input (main_of g) (named_adapter g) first
  unfolding trim_input_by
  own_trim_input =
      ap (λ b. trim_input_by b (names_of names)) is_bytes
      ∙ ap (trim_input_by g.adapter.now.wasm.items) (is_names ∙ ap (λ r. required_names r first.exports) needed.required)

  -- what is said of settings and of what is required, in these words
  in_own_words : (P : SettingsView → TrimInput → Type 0) → P (settings realloc page_size_log2) (trim_input bytes names) → P (settings_of g.encoder.now (main_of g) first) (adapter_trim_input (main_of g) (named_adapter g) first)
  in_own_words P h = subst (λ w. P (settings_of g.encoder.now (main_of g) first) w) own_trim_input (subst (λ s. P s (trim_input bytes names)) own_settings h)

  pub input_trimmed_text : (text : List ℕ) → (named_adapter g).1.library_info ≡ None → IsInputRecord g g.adapter.now.wasm.items first → AreBytes bytes
      → IsTrimmed (settings realloc page_size_log2) (trim_input bytes names) text → IsInputTrimmedText g first text
  input_trimmed_text text none original are h =
      trimmed_for g.encoder.now (main_of g) (named_adapter g) first text none (subst AreBytes is_bytes are) original
      (in_own_words (λ s w. IsTrimmed s w text) h)

  untrimmed_input : (f : GcFault) → IsTrimFault (settings realloc page_size_log2) (trim_input bytes names) f → IsTrimFault (settings_of g.encoder.now (main_of g) first) (adapter_trim_input (main_of g) (named_adapter g) first) f
  untrimmed_input f h = in_own_words (λ s w. IsTrimFault s w f) h

  -- what is said of where it stops
  trim_found : (v : GcFault) (o : Option TrimPlace) (valid : IsTrimReached g.encoder.now (main_of g) (named_adapter g)) → valid.first ≡ first → IsTrimExplained (trim_input bytes names) v o
      → MatchOption o (IsTrimUnplaced g.encoder.now v (main_of g) (named_adapter g)) (λ (p : TrimPlace). IsTrimPlace g.encoder.now v (place.Trim p) (main_of g) (named_adapter g))
  trim_found v None valid is h = (valid, subst (λ w. (p : TrimPlace) → ¬ IsPlaceOfTrim w v p) (own_trim_input ∙ ap (adapter_trim_input (main_of g) (named_adapter g)) (sym is)) h)
  trim_found v (Some p) valid is h = (valid, subst (λ w. IsPlaceOfTrim w v p) (own_trim_input ∙ ap (adapter_trim_input (main_of g) (named_adapter g)) (sym is)) h)

  pub trim_refused : (v : GcFault) (r : Option TrimPlace) (x : RefusedWorld) → (named_adapter g).1.library_info ≡ None → IsInputRecord g g.adapter.now.wasm.items first → IsTrimFault (settings realloc page_size_log2) (trim_input bytes names) v
      → IsTrimExplained (trim_input bytes names) v r → IsNamedRefusal (λ s. Trim s v) place.Trim g.name.now r x → IsInputRefusal g x
  trim_refused v r x none original h explained named =
      let valid : IsTrimReached g.encoder.now (main_of g) (named_adapter g) = record { first = first; trims = none; original = original } in
      named_refusal (λ s. Trim s v) place.Trim g.name.now r (IsInputRefusal g) x (λ memory. inl memory)
      (λ s same made found. stop_at g (Trim s v) x made
      (elim (untrimmed_or_memory (settings_of g.encoder.now (main_of g) first) (adapter_trim_input (main_of g) (named_adapter g) first) v (untrimmed_input v h)) [
        | inl memory ↦ inr (same, memory, valid)
        | inr stopped ↦ inl (same, record { valid = valid; stopped = stopped.1; no_memory = stopped.0 })
      ])
      (placed (IsInAdapter g.name.now) place.Trim (IsTrimUnplaced g.encoder.now v (main_of g) (named_adapter g)) _ (λ p. IsTrimPlace g.encoder.now v p (main_of g) (named_adapter g)) (λ p here. here) r x.place (trim_found v r valid refl explained) found)) named

  -- a name is required of it
  pub some_names : (named_adapter g).1.library_info ≡ None → IsInputRecord g g.adapter.now.wasm.items first → names ≢ []
  some_names none original is =
      needed_some g.encoder.now (main_of g) (named_adapter g) g.adapter.now.wasm.items first none needed.in_component original
      (sym (is_names ∙ ap (λ r. required_names r first.exports) needed.required) ∙ ap names_of is)

-- its pages are others
pub page_refused : (g : AdapterInput) (info : ModuleRecord) (memory : MemoryType) (own mains : ℕ) (x : RefusedWorld) → memory_in info.imports ≡ Some memory → own ≡ page_size memory → mains ≡ main_page_size g.main.now.exports → own ≢ mains
    → IsNamedRefusal (λ s. PageSize s own mains) (λ (p : ModulePlace). p) g.name.now (Some (place.PageSizes own mains)) x → (a : WorldAdapterView) → a.info ≡ info → IsInputTrimmedOrLibrary g a → IsInputRefusal g x
page_refused g info memory own mains x imported is_own is_main differ named a is is_adapter =
    named_refusal (λ s. PageSize s own mains) (λ (p : ModulePlace). p) g.name.now (Some (place.PageSizes own mains)) (IsInputRefusal g) x (λ memory. inl memory)
    (λ s same made found. stop_at g (PageSize s own mains) x made
    (inl (same, record { adapter = a; memory = memory; is_adapter = is_adapter; imported = subst (λ (z : ModuleRecord). memory_in z.imports ≡ Some memory) (sym is) imported; is_own = is_own; is_main = is_main; differ = differ }))
    (placed (IsInAdapter g.name.now) (λ (p : ModulePlace). p) ⊥ (λ p. p ≡ place.PageSizes own mains) (λ p. p ≡ place.PageSizes own mains) (λ p here. here) (Some (place.PageSizes own mains)) x.place refl found)) named

-- a library is what the encoder has
pub borrowed_library : (g : AdapterInput) (library : LibraryInfo) (a : WorldAdapterView) → g.adapter.now.library_info ≡ Some library → a.wasm ≡ g.adapter.now.wasm.items → a.is_borrowed ≡ true → IsInputRecord g g.adapter.now.wasm.items a.info → IsInputTrimmedOrLibrary g a
borrowed_library g library a is same_bytes borrowed recorded =
    subst (λ o. IsTrimmedOrLibrary g.encoder.now (main_of g) (named_adapter g) a (option_map library_view o)) (sym is)
    (record { same_bytes = same_bytes; borrowed = borrowed; recorded = subst (λ b. IsInputRecord g b a.info) (sym same_bytes) recorded })

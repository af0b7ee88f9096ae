-- The parts of an encoder: what modules have to export, and the modules themselves.
use Rattle.std.proofs.Common.{◌≡◌, ℕ, Bool, true, false, ◌&&◌, not, ◌==◌, List, [], ◌∷◌, map, length, None, refl, sym, ◌∙◌, ap, subst, Option, Result, Ok, Err, IfOk, inl, inr, arith, string_bytes}
use Rattle.std.specs.List.{AllZip}
use Rattle.std.proofs.lemmas.Bool.Decides.{eqb_tells}
use Rattle.wc_adapters.specs.Adapters.{adapter_entry}
use Rattle.wc_dedupe.specs.Dedupe.{renames_in}
use Rattle.wc_encoder.specs.EncoderParts.{EncoderView, given_in}
use Rattle.wc_resolve.specs.Views.{key_view}
use Rattle.wc_program.specs.Files.{Held}
use Rattle.wc_selection.specs.Keys.{NamedKey}
use Rattle.wc_selection.specs.ModuleKeys.{required_keys}
use Rattle.wc_selection.specs.Requests.{RequestValue}
use Rattle.wc_selection.specs.declared.main_module.MainModule.{MainModule}
use Rattle.wcplan_inputs.specs.Arguments.{CommandView}
use Rattle.wcplan_inputs.specs.ModuleKeys.{hook_of, request_of, request_with}
use Rattle.wcplan_inputs.specs.Inputs.{IsFileIn, IsMainIn, IsPartsWith}
use Rattle.wcplan_inputs.specs.SharedKeys.{AreGiven, AreSharedAmong, ExportScope, is_open, scope_of}
use Rattle.wcplan_inputs.specs.Private.AdapterFiles.{IsAdapterOf}
use Rattle.wcplan_inputs.specs.Private.Inputs.{AreModulesIn, AreRequested, AreSharedModules}
use Rattle.wcplan_inputs.specs.Private.SharedKeys.{adapters_request}
use Rattle.wcplan_inputs.specs.declared.inputs.CommandModules.{CommandModules}
use Rattle.wcplan_inputs.specs.declared.inputs.RequestedModules.{RequestedModules}
use Rattle.wcplan_inputs.proofs.AdapterFileLemmas.{bytes_requested, files_requested}
use Rattle.wcplan_inputs.proofs.SharedKeyLemmas.{given_closed, given_open}

abbrev Pairs : Type 0
Pairs = List (List ℕ × List ℕ)

-- modules with the keys of a request
pub requested_made : (c : CommandView) (s : ExportScope) (main : List ℕ) (files : Pairs) (keys : List NamedKey) (given : Pairs) (q : RequestValue)
    (m : RequestedModules) → AreGiven c s main files keys given → q ≡ request_with c given
    → map key_view m.main_exports.keys ≡ required_keys q None keys → AllZip (IsAdapterOf q keys) files (map adapter_entry m.adapters.entries)
    → AreRequested c s main files keys m
requested_made c s main files keys given q m are is exports adapters = record {
  given = given;
  are_given = are;
  exports = exports ∙ ap (λ (z : RequestValue). required_keys z None keys) is;
  adapters = subst (λ (z : RequestValue). AllZip (IsAdapterOf z keys) files (map adapter_entry m.adapters.entries)) is adapters;
}

pub shared_made : (s : ExportScope) (main : List ℕ) (files : Pairs) (keys : List NamedKey) (given : Pairs) (q : RequestValue) (m : RequestedModules)
    → AreSharedAmong s main files keys given → q ≡ adapters_request given → map key_view m.main_exports.keys ≡ required_keys q None keys
    → AllZip (IsAdapterOf q keys) files (map adapter_entry m.adapters.entries) → AreSharedModules s main files keys m
shared_made s main files keys given q m are is exports adapters = record {
  given = given;
  are_shared = are;
  exports = exports ∙ ap (λ (z : RequestValue). required_keys z None keys) is;
  adapters = subst (λ (z : RequestValue). AllZip (IsAdapterOf z keys) files (map adapter_entry m.adapters.entries)) is adapters;
}

-- a command that leaves keys to its modules gives none
no_exports : (xs : List (List ℕ)) (rest : Bool) → (length xs == 0 && rest) ≡ true → xs ≡ []
no_exports [] rest h = refl
no_exports (x ∷ xs) rest h = elim (eqb_tells (length (x ∷ xs)) 0) [
  | inl e ↦ absurd (omega (arith, e.1))
  | inr e ↦ absurd (let bad : false ≡ true = ap (λ b. b && rest) (sym e.0) ∙ h in cc)
]

abbrev request_from : Pairs → List (List ℕ) → RequestValue
request_from given exports = record { exports = exports; adapter_exports = given }

module _ (c : CommandView) (s : ExportScope) (main : List ℕ) (files : Pairs) (keys : List NamedKey) where
  shared_requested : (m : RequestedModules) → is_open c ≡ true → AreSharedModules s main files keys m → AreRequested c s main files keys m
  shared_requested m leaves shared =
      let given = shared.given in
      let is : adapters_request given ≡ request_with c given =
      ap (request_from given) (sym (no_exports c.exports (length c.adapter_exports == 0 && not (length c.adapters == 0)) leaves)) in
      requested_made c s main files keys given (adapters_request given) m (given_open c s main files keys given leaves shared.are_shared) is shared.exports
      shared.adapters

  -- modules that share keys, and modules with the keys that a command gives
  pub requested_open : {E : Type 0} (r : Result RequestedModules E) → is_open c ≡ true → IfOk r (AreSharedModules s main files keys)
      → IfOk r (AreRequested c s main files keys)
  requested_open (Ok m) leaves shared = shared_requested m leaves shared
  requested_open (Err e) leaves shared = tt

  pub requested_closed : (q : RequestValue) (m : RequestedModules) → is_open c ≡ false → q ≡ request_of c
      → map key_view m.main_exports.keys ≡ required_keys q None keys → AllZip (IsAdapterOf q keys) files (map adapter_entry m.adapters.entries)
      → AreRequested c s main files keys m
  requested_closed q m closed is exports adapters =
      requested_made c s main files keys c.adapter_exports q m (given_closed c s main files keys c.adapter_exports closed refl) is exports adapters

-- the modules of a command, of which the main one was on the heap
pub modules_in : (c : CommandView) (before : Option Held) (s : ExportScope) (keys : List NamedKey) (files : Pairs) (m : CommandModules) (main : MainModule)
    → m.main ≡ main → IsMainIn before c.main (given_in main.given main.wasm.items) main.wasm.items (renames_in main.import_map) → AllZip (IsFileIn before) c.adapters files
    → AreRequested c s main.wasm.items files keys m.requested → string_bytes m.task_hook ≡ hook_of c → AreModulesIn c before s keys m
modules_in c before s keys files m main is read files_read requested hook = record {
  files = files;
  main_read = subst (λ (x : MainModule). IsMainIn before c.main (given_in x.given x.wasm.items) x.wasm.items (renames_in x.import_map)) (sym is) read;
  adapters_read = files_read;
  requested = subst (λ (x : MainModule). AreRequested c s x.wasm.items files keys m.requested) (sym is) requested;
  hook = hook;
}

-- the parts that have them
pub parts_made : (c : CommandView) (before : Option Held) (keys : List NamedKey) (e : EncoderView) (files : Pairs) (m : RequestedModules)
    → IsMainIn before c.main e.given_bytes e.module_bytes (renames_in e.module_import_map) → AllZip (IsFileIn before) c.adapters files
    → AreRequested c (scope_of c e.resolve e.world) e.module_bytes files keys m
    → e.main_module_exports ≡ map key_view m.main_exports.keys → e.adapters ≡ map adapter_entry m.adapters.entries
    → e.reject_legacy_names ≡ c.reject_legacy_names → e.realloc_via_memory_grow ≡ c.realloc_via_memory_grow → e.task_hook ≡ hook_of c
    → IsPartsWith c before keys e
parts_made c before keys e files m read files_read requested exports adapters rejects grows hook =
    let q : RequestValue = request_with c requested.given in
    let ys = subst (AllZip (IsAdapterOf q keys) files) (sym adapters) requested.adapters in
    record {
      main = read;
      given = requested.given;
      are_given = subst (λ (fs : Pairs). AreGiven c (scope_of c e.resolve e.world) e.module_bytes fs keys requested.given)
          (sym (bytes_requested q keys files e.adapters ys)) requested.are_given;
      exports = exports ∙ requested.exports;
      adapters = files_requested q keys before c.adapters files e.adapters files_read ys;
      rejects = rejects;
      grows = grows;
      hook = hook;
    }

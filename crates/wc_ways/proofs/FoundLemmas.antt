-- The imports that are asked about, one after another.
use Rattle.std.proofs.Common.{◌≡◌, ℕ, ◌+◌, ◌<◌, true, false, cond, List, [], ◌++◌, Option, Some, length, map, get_or, option_map, sym, ap, ◌∙◌, append-nil, arith}
use Rattle.std.specs.List.{flat_map, range_with_len, slice_get}
use Rattle.std.specs.Option.{option_map_or}
use Rattle.std.proofs.lemmas.List.{length-map}
use Rattle.std.proofs.lemmas.Option.{get_or_from_slice_get, slice_get-map}
use Rattle.wc_names.specs.Views.{ImportView}
use Rattle.wc_import_paths.specs.Rows.{bare_graph}
use Rattle.wc_paths.specs.Counts.{counts_value}
use Rattle.wc_paths.specs.Items.{CountsValue, counts_of}
use Rattle.wc_paths.specs.Roots.{AreImportItems, import_item}
use Rattle.wc_paths.specs.declared.items.PathItem.{PathItem}
use Rattle.wc_read.specs.Imports.{ImportValue, import_value, import_values}
use Rattle.wc_read.specs.declared.types.Import.{Import}
use Rattle.wc_summary.specs.Leads.{as_number}
use Rattle.wc_validate.specs.Imports.Entries.{Records}
use Rattle.wc_validate.specs.Validate.{ModuleRecord}
use Rattle.wc_world.specs.Views.{ComponentWorldView, NamedWorldAdapter}
use Rattle.wc_import_paths.proofs.PickedLemmas.{ranged_more}
use Rattle.wc_import_paths.proofs.ShownLemmas.{at_view}
use Rattle.wc_ways.specs.Asked.{asked_interfaces, own_name}
use Rattle.wc_ways.specs.Found.{adapter_found, adapter_found_at, found_as, found_in_file, found_of, found_under, found_with, import_found, imports_found, records_found}
use Rattle.wc_ways.specs.Originals.{recorded_at}
use Rattle.wc_ways.specs.Parts.{bytes_of}
use Rattle.wc_ways.specs.Wanted.{WantedView}
use Rattle.wc_ways.specs.Private.Modules.{AreAdapterModules, IsImportAt, IsModuleWith, code_in}
use Rattle.wc_ways.specs.declared.modules.AdapterModule.{AdapterModule}
use Rattle.wc_ways.proofs.ModuleLemmas.{module_at}

-- ---- the items of imports, by their positions

module _ (imports : List Import) (items : List PathItem) (k : ℕ) (are : AreImportItems (import_values imports) items) (lt : k < length imports) where
  pub import_read : (d : Import) → slice_get (import_values imports) k ≡ Some (import_value (get_or imports k d))
  import_read d = at_view import_value imports k d lt

  pub in_items : k < length items
  in_items =
      let each = are.each in
      let mapped = length-map imports import_value in
      omega (arith, each, mapped, lt)

  pub item_read : (d : Import) (x e : PathItem) → x ≡ get_or items k e → x ≡ import_item (import_values imports) k (import_value (get_or imports k d))
  item_read d x e at = at ∙ get_or_from_slice_get items k _ e (are.at k (import_value (get_or imports k d)) (import_read d))

-- ---- the imports of a module, in the order of the file

module _ (w : ComponentWorldView) (key : List ℕ) (part : ℕ) (c : CountsValue) (imports : List ImportValue) (records : Records) where
  -- what is found of the import at a position
  at_position : (k : ℕ) (i : ImportValue) (x : PathItem) → slice_get imports k ≡ Some i → x ≡ import_item imports k i
      → found_as w key part (as_number c x) records i ≡ found_in_file w key part c imports records k
  at_position k i x at is =
      ap (λ (z : PathItem). found_as w key part (as_number c z) records i) is
      ∙ ap (λ (o : Option ImportValue). option_map_or (import_found w key part c imports records k) o []) (sym at)

  pub file_next : (k : ℕ) (i : ImportValue) (x : PathItem) (old now new : List WantedView) → IsImportAt imports k i x
      → now ≡ old ++ flat_map (found_in_file w key part c imports records) (range_with_len 0 k) → new ≡ now ++ found_as w key part (as_number c x) records i
      → new ≡ old ++ flat_map (found_in_file w key part c imports records) (range_with_len 0 (k + 1))
  file_next k i x old now new (at, is) made put =
      ranged_more (found_in_file w key part c imports records) k old now new made (put ∙ ap (λ (z : List WantedView). now ++ z) (at_position k i x at is))

-- what is found of an import by what is recorded of it
pub by_record : (w : ComponentWorldView) (key : List ℕ) (part : ℕ) (number : Option ℕ) (records : Records) (i : ImportValue) (o : Option ImportView) → o ≡ recorded_at records i.module_name i.name
    → option_map_or (λ (v : ImportView). found_with w key part i.module_name i.name v number) o [] ≡ found_as w key part number records i
by_record w key part number records i o e =
    ap (λ (p : Option ImportView). option_map_or (λ (v : ImportView). found_with w key part i.module_name i.name v number) p []) e

-- ---- adapters and libraries, one after another

module _ (w : ComponentWorldView) (key : List ℕ) (part : ℕ) (y : NamedWorldAdapter) (bytes : List ℕ) (a : AdapterModule) (is : IsModuleWith y bytes a) where
  as_records : {X : Type 0} (f : CountsValue → Records → X) → f (counts_value a.rows.counts) a.info.now.imports ≡ f (counts_of (bare_graph (code_in a))) y.1.info.imports
  as_records f = λ t. f (is.rows.counted t) ((ap (λ (r : ModuleRecord). r.imports) is.info) t)

  -- of a library, and of an adapter
  pub found_alone : a.is_library ≡ true → (old new : List WantedView)
      → new ≡ old ++ records_found w key part (counts_value a.rows.counts) (code_in a).imports a.info.now.imports → new ≡ old ++ adapter_found w key part y (code_in a)
  found_alone alone old new put =
      put ∙ (ap (λ (z : List WantedView). old ++ z) (as_records (λ c r. records_found w key part c (code_in a).imports r))
      ∙ ap (λ b. old ++ cond b (records_found w key part (counts_of (bare_graph (code_in a))) (code_in a).imports y.1.info.imports)
      (imports_found w key part (counts_of (bare_graph (code_in a))) (code_in a).imports y.1.info.imports)) (sym alone ∙ is.library))

  pub found_trimmed : a.is_library ≡ false → (old new : List WantedView) (imports : List Import) → imports ≡ a.code.imports.items
      → new ≡ old ++ imports_found w key part (counts_value a.rows.counts) (import_values imports) a.info.now.imports → new ≡ old ++ adapter_found w key part y (code_in a)
  found_trimmed trimmed old new imports same put =
      put ∙ (ap (λ (z : List Import). old ++ imports_found w key part (counts_value a.rows.counts) (import_values z) a.info.now.imports) same
      ∙ (ap (λ (z : List WantedView). old ++ z) (as_records (λ c r. imports_found w key part c (code_in a).imports r))
      ∙ ap (λ b. old ++ cond b (records_found w key part (counts_of (bare_graph (code_in a))) (code_in a).imports y.1.info.imports)
      (imports_found w key part (counts_of (bare_graph (code_in a))) (code_in a).imports y.1.info.imports)) (sym trimmed ∙ is.library)))

-- what is found in the module at a position
module_found : (w : ComponentWorldView) (key : List ℕ) (modules : List AdapterModule) (k : ℕ) (a : AdapterModule) (y : NamedWorldAdapter) → slice_get modules k ≡ Some a
    → slice_get w.adapters k ≡ Some y → adapter_found w key (k + 1) y (code_in a) ≡ adapter_found_at w key (map code_in modules) k
module_found w key modules k a y at there =
    let codes = map code_in modules in
    let code : slice_get codes k ≡ Some (code_in a) = slice_get-map code_in modules k ∙ ap (option_map code_in) at in
    ap (λ o. option_map_or (adapter_found w key (k + 1) y) o []) (sym code)
    ∙ ap (λ (o : Option NamedWorldAdapter). option_map_or (λ (z : NamedWorldAdapter). option_map_or (adapter_found w key (k + 1) z) (slice_get codes k) []) o []) (sym there)

pub adapter_next : (w : ComponentWorldView) (key : List ℕ) (modules : List AdapterModule) (k : ℕ) (a : AdapterModule) (old now new : List WantedView) → slice_get modules k ≡ Some a
    → AreAdapterModules w w.adapters modules → now ≡ old ++ flat_map (adapter_found_at w key (map code_in modules)) (range_with_len 0 k)
    → ((y : NamedWorldAdapter) (bytes : List ℕ) → IsModuleWith y bytes a → new ≡ now ++ adapter_found w key (k + 1) y (code_in a))
    → new ≡ old ++ flat_map (adapter_found_at w key (map code_in modules)) (range_with_len 0 (k + 1))
adapter_next w key modules k a old now new at are made put =
    let (y, there, of) = module_at w modules k a are at in
    ranged_more (adapter_found_at w key (map code_in modules)) k old now new made
    (put y (bytes_of w y) of ∙ ap (λ (z : List WantedView). now ++ z) (module_found w key modules k a y at there))

pub adapters_all : (w : ComponentWorldView) (key : List ℕ) (modules : List AdapterModule) (k : ℕ) (old now : List WantedView) → k ≡ length modules
    → AreAdapterModules w w.adapters modules → now ≡ old ++ flat_map (adapter_found_at w key (map code_in modules)) (range_with_len 0 k)
    → now ≡ old ++ flat_map (adapter_found_at w key (map code_in modules)) (range_with_len 0 (length w.adapters))
adapters_all w key modules k old now all are made =
    made ∙ ap (λ n. old ++ flat_map (adapter_found_at w key (map code_in modules)) (range_with_len 0 n)) (all ∙ are.each)

-- ---- an import under each interface to which it belongs

module _ (w : ComponentWorldView) (key : List ℕ) (part : ℕ) (from name : List ℕ) (import : ImportView) (item : ℕ) (old : List WantedView) where
  pub found_put : (own : List ℕ) (texts : List (List ℕ)) (new : List WantedView) → own ≡ own_name name import → texts ≡ asked_interfaces w key import
      → new ≡ old ++ map (found_under own (record { from = from; name = name }) part item) texts → new ≡ old ++ found_with w key part from name import (Some item)
  found_put own texts new named are put = put ∙ (λ t. old ++ map (found_under (named t) (record { from = from; name = name }) part item) (are t))

  pub found_none : [] ≡ asked_interfaces w key import → old ≡ old ++ found_with w key part from name import (Some item)
  found_none none = sym (append-nil old) ∙ ap (λ (ts : List (List ℕ)). old ++ map (found_of part from name import item) ts) none

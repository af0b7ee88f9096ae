-- Look-ups of lowerings, as they are seen.
use Rattle.std.proofs.Common.{◌≡◌, ℕ, List, String, Bool, ◌&&◌, Option, Some, None, map, refl, ◌∙◌, ap, string_bytes, string_eq}
use Rattle.std.specs.Borrow.{Bor}
use Rattle.std.specs.Map.{lookup}
use Rattle.std.specs.Option.{option_and_then, option_copied, option_eq, option_map}
use Rattle.std.specs.Str.{bytes_eq}
use Rattle.std.specs.declared.alloc.Global.{Global}
use Rattle.wc_resolve.specs.declared.functions.AbiVariant.{AbiVariant}
use Rattle.wc_resolve.specs.declared.functions.AbiVariant.TheVariants.{GuestImport, GuestExport, GuestImportAsync, GuestExportAsync, GuestExportAsyncStackful}
use Rattle.wc_resolve.specs.contracts.functions.AbiVariantPartialEq.TheImpl.{eq-value as same_abi}
use Rattle.wc_resolve.proofs.LookupLemmas.{copied_viewed}
use Rattle.wc_maps.proofs.LookupLemmas.{lookup_viewed}
use Rattle.wc_world.specs.FunctionsLowered.{abi_eq, is_lowering_key, lowering_at, lowering_in}
use Rattle.wc_world.specs.Views.{LoweringKey}
use Rattle.wc_world.specs.WorldViews.{imported_entry, imported_view, lowering_view}
use Rattle.wc_world.specs.declared.imported.ImportedInterface.{ImportedInterface}
use Rattle.wc_world.specs.declared.imported.Lowering.{Lowering}

pub abi_same : (a b : AbiVariant) → same_abi.it a b ≡ abi_eq a b
abi_same GuestImport GuestImport = refl
abi_same GuestExport GuestExport = refl
abi_same GuestImportAsync GuestImportAsync = refl
abi_same GuestExportAsync GuestExportAsync = refl
abi_same GuestExportAsyncStackful GuestExportAsyncStackful = refl
abi_same a b = refl

pub interface_same : (a b : Option (String Global)) → option_eq string_eq a b ≡ option_eq bytes_eq (option_map string_bytes a) (option_map string_bytes b)
interface_same None None = refl
interface_same None (Some n) = refl
interface_same (Some m) None = refl
interface_same (Some m) (Some n) = refl

abbrev Key : Type 0
Key = String Global × AbiVariant

abbrev key_test : Key → Key → Bool
key_test a b = string_eq a.0 b.0 && same_abi.it a.1 b.1

abbrev key_view : Key → LoweringKey
key_view k = (string_bytes k.0, k.1)

key_same : (a b : Key) → key_test a b ≡ is_lowering_key (string_bytes a.0) a.1 (key_view b)
key_same a b = ap (λ t. string_eq a.0 b.0 && t) (abi_same a.1 b.1)

module _ (i : Option (String Global)) (k : Key) (es : List (Option (String Global) × ImportedInterface)) where
  abbrev view_test : Option (List ℕ) → Bool
  view_test = option_eq bytes_eq (option_map string_bytes i)

  interface_at : (o : Option ImportedInterface) → o ≡ lookup (option_eq string_eq i) es
      → option_and_then (lowering_in (string_bytes k.0) k.1) (option_map imported_view o) ≡ lowering_at (map imported_entry es) (option_map string_bytes i) (string_bytes k.0) k.1
  interface_at o is =
      ap (λ (z : Option ImportedInterface). option_and_then (lowering_in (string_bytes k.0) k.1) (option_map imported_view z)) is
      ∙ ap (option_and_then (lowering_in (string_bytes k.0) k.1)) (lookup_viewed (option_map string_bytes) imported_view (option_eq string_eq i) view_test (interface_same i) es)

  pub no_interface : (r : Option (Bor Lowering)) → r ≡ None → None ≡ lookup (option_eq string_eq i) es
      → option_map (λ (x : Bor Lowering). lowering_view x.now) r ≡ lowering_at (map imported_entry es) (option_map string_bytes i) (string_bytes k.0) k.1
  no_interface r none is = ap (option_map (λ (x : Bor Lowering). lowering_view x.now)) none ∙ interface_at None is

  pub in_interface : (r : Option (Bor Lowering)) (v : ImportedInterface) (own : List (Key × Lowering)) → own ≡ v.lowerings.value.entries → Some v ≡ lookup (option_eq string_eq i) es → option_copied r ≡ lookup (key_test k) own
      → option_map (λ (x : Bor Lowering). lowering_view x.now) r ≡ lowering_at (map imported_entry es) (option_map string_bytes i) (string_bytes k.0) k.1
  in_interface r v own same is found =
      copied_viewed lowering_view r
      ∙ (ap (option_map lowering_view) (found ∙ ap (lookup (key_test k)) same) ∙ (lookup_viewed key_view lowering_view (key_test k) (is_lowering_key (string_bytes k.0) k.1) (key_same k) v.lowerings.value.entries ∙ interface_at (Some v) is))

-- What is recorded of the imports of a module that restricts another, where none was renamed.
use Rattle.std.proofs.Common.{◌≡◌, ◌↔◌, ℕ, List, [], All, Contains, Option, Some, None, sym, ap, subst, ◌∙◌}
use Rattle.std.specs.List.{AllZip}
use Rattle.wc_read.specs.declared.exports.ExportKind.TheVariants.{Func}
use Rattle.wc_read.specs.Imports.{ImportValue}
use Rattle.wc_read.specs.Modules.{ModuleValue}
use Rattle.wc_names.specs.Imports.{NameScope, extern_kind, func_type}
use Rattle.wc_names.specs.Laws.{MeaningsUnique}
use Rattle.wc_names.specs.Views.{ImportView, main_module_export}
use Rattle.wc_validate.specs.Imports.Entries.{Entry, by_modules, single}
use Rattle.wc_validate.specs.Imports.Map.{imports_in}
use Rattle.wc_validate.specs.Imports.Record.{AreEntries, IsEntry}
use Rattle.wc_validate.specs.Restriction.{HasOrigin, IsRecordedFrom, IsRestrictedImport, main_module}
use Rattle.wc_validate.specs.Validate.{ModuleRecord}
use Rattle.wc_validate.proofs.ContainedLemmas.{contains_at, position_of, some_same, zipped, zipped_at}
use Rattle.wc_validate.proofs.RecordLawLemmas.{entries_all}
use Rattle.wc_validate.proofs.RestrictedImportLemmas.{alone, entry_of, main_is, named_entry, name_scope_of}
use Rattle.wc_validate.proofs.SingleEntryLemmas.{IsSingle, recorded_from, recorded_there}
use Rattle.wc_validate.proofs.ValidPairLemmas.{entry_at, import_at, one_of_name, pairs_compatible}

-- a single import, as it is recorded
abbrev entry_by : List ℕ × (List ℕ × ImportView) → Entry
entry_by x = single x.0 x.1.0 x.1.1

triple_same : (x : List ℕ × (List ℕ × ImportView)) (m n : List ℕ) (i : ImportView) → x.0 ≡ m → x.1.0 ≡ n → x.1.1 ≡ i → x ≡ (m, (n, i))
triple_same x m n i p q r = λ k. (p k, (q k, r k))

module _ (e : NameScope) (v m : ModuleValue) (unique : MeaningsUnique e.resolve) (xs ys : List Entry)
    (entries : AreEntries (name_scope_of e None v) [] v.imports xs)
    (own : AreEntries (name_scope_of e None m) [] m.imports ys)
    (first last : ModuleRecord) (first_is : first.imports ≡ by_modules xs) (last_is : last.imports ≡ by_modules ys) (os : List (Option ℕ))
    (from : AllZip (HasOrigin v m) os m.imports) where
  first_singles : All IsSingle xs
  first_singles = entries_all (name_scope_of e None v) IsSingle [] v.imports xs (λ i x there entry. alone e None v i x entry) entries

  last_singles : All IsSingle ys
  last_singles = entries_all (name_scope_of e None m) IsSingle [] m.imports ys (λ i x there entry. alone e None m i x entry) own

  in_first : (x : List ℕ × (List ℕ × ImportView)) → Contains xs (entry_by x) → Contains (imports_in first.imports) x
  in_first x there = subst (λ z. Contains (imports_in z) x) (sym first_is) (recorded_there xs first_singles x.0 x.1.0 x.1.1 there)

  -- an import without an origin is a function of the main module, by its name
  main_entry_is : (i : ImportValue) (y : Entry) → HasOrigin v m None i → IsEntry (name_scope_of e None m) i y
      → y ≡ single main_module i.name (main_module_export i.name Func)
  main_entry_is i y h entry =
      let named = named_entry e None m i y entry in
      let kind : (named.core).ty ≡ func_type h.1 = some_same (sym named.is_core.2 ∙ h.2) in
      main_is e None v m unique xs entries i y h named
      ∙ (ap (λ n. single main_module i.name (main_module_export n (extern_kind (named.core).ty))) named.is_core.1
      ∙ ap (λ t. single main_module i.name (main_module_export i.name (extern_kind t))) kind)

  -- what the entry of an import is recorded as
  of_entry : (o : Option ℕ) (i : ImportValue) (x : List ℕ × (List ℕ × ImportView)) → HasOrigin v m o i → IsEntry (name_scope_of e None m) i (entry_by x)
      → IsRecordedFrom first o i x
  of_entry (Some p) i x h entry =
      let is = (named_entry e None m i (entry_by x) entry).is_entry in
      let modules : x.0 ≡ i.module_name = cc is in
      let names : x.1.0 ≡ i.name = cc is in
      (modules, names, in_first x (contains_at xs p (entry_by x) (entry_of e None v m unique xs entries p h.0 i (entry_by x) h.1 h.2 entry)))
  of_entry None i x h entry =
      let is = main_entry_is i (entry_by x) h entry in
      let modules : x.0 ≡ main_module = cc is in
      let names : x.1.0 ≡ i.name = cc is in
      let imports : x.1.1 ≡ main_module_export i.name Func = cc is in
      triple_same x main_module i.name (main_module_export i.name Func) modules names imports

  -- an import has the entry that is recorded of it
  to_entry : (o : Option ℕ) (i : ImportValue) (y : Entry) (x : List ℕ × (List ℕ × ImportView)) → HasOrigin v m o i → IsEntry (name_scope_of e None m) i y
      → IsRecordedFrom first o i x → y ≡ entry_by x
  to_entry (Some p) i y x h entry r =
      let named = named_entry e None m i y entry in
      let is : y ≡ single x.0 x.1.0 named.view = named.is_entry ∙ (ap (λ z. single z i.name named.view) (sym r.0) ∙ ap (λ z. single x.0 z named.view) (sym r.1))
      in
      let there = position_of xs (entry_by x) (recorded_from xs first_singles x (subst (λ z. Contains (imports_in z) x) first_is r.2)) in
      let pairs = pairs_compatible (name_scope_of e None v) (alone e None v) v.imports xs entries in
      let same = one_of_name xs pairs x.0 x.1.0 named.view x.1.1 p there.0 (entry_of e None v m unique xs entries p h.0 i y h.1 h.2 entry ∙ ap Some is)
      there.1 in
      is ∙ ap (single x.0 x.1.0) same
  to_entry None i y x h entry r = main_entry_is i y h entry ∙ sym (ap (λ (z : List ℕ × (List ℕ × ImportView)). single z.0 z.1.0 z.1.1) r)

  restricted : (x : List ℕ × (List ℕ × ImportView)) → Contains (imports_in last.imports) x → IsRestrictedImport first os m.imports x
  restricted x there =
      let at = position_of ys (entry_by x) (recorded_from ys last_singles x (subst (λ z. Contains (imports_in z) x) last_is there)) in
      let is = import_at (name_scope_of e None m) [] m.imports ys at.0 (entry_by x) own at.1 in
      let origin = zipped_at (HasOrigin v m) os m.imports at.0 is.0 from is.1 in
      record { index = at.0; origin = origin.0; import = is.0; has_origin = origin.1; is_import = is.1; recorded = of_entry origin.0 is.0 x origin.2 is.2 }

  recorded : (x : List ℕ × (List ℕ × ImportView)) → IsRestrictedImport first os m.imports x → Contains (imports_in last.imports) x
  recorded x r =
      let y = entry_at (name_scope_of e None m) [] m.imports ys r.index r.import own r.is_import in
      let is = to_entry r.origin r.import y.0 x (zipped (HasOrigin v m) os m.imports r.index r.origin r.import from r.has_origin r.is_import) y.2 r.recorded in
      subst (λ z. Contains (imports_in z) x) (sym last_is) (recorded_there ys last_singles x.0 x.1.0 x.1.1
      (contains_at ys r.index (entry_by x) (y.1 ∙ ap Some is)))

  pub imports_restricted : (x : List ℕ × (List ℕ × ImportView)) → Contains (imports_in last.imports) x ↔ IsRestrictedImport first os m.imports x
  imports_restricted x = (restricted x, recorded x)

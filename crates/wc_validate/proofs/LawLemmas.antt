-- Recorded imports are unique and in range.
use Rattle.std.proofs.Common.{◌≡◌, ℕ, List, [], ◌∷◌, ◌++◌, Option, Some, None, sym, ap, subst, ◌∙◌, inl, inr, refl}
use Rattle.std.specs.List.{slice_get}
use Rattle.std.specs.Option.{option_and_then, option_map}
use Rattle.wc_read.specs.Imports.{ImportValue}
use Rattle.wc_read.specs.Laws.{HasOneValue}
use Rattle.wc_read.specs.Modules.{ModuleValue, SpellsModule}
use Rattle.wc_read.specs.Types.{FuncTypeValue}
use Rattle.wc_dedupe.specs.Renaming.{RenameView}
use Rattle.wc_resolve.specs.Views.{KeyView, WorldView}
use Rattle.wc_resolve.specs.Kinds.{ResolveView}
use Rattle.wc_adapters.specs.Adapters.{InstanceView, module_instance, item_instance, LibraryItemView, LibraryView}
use Rattle.wc_encoder.specs.EncoderParts.{EncoderView}
use Rattle.wc_names.specs.Exports.{CoreExport, ExportMeaning, is_export}
use Rattle.wc_names.specs.ExportViews.{ExportView}
use Rattle.wc_names.specs.Imports.{CoreImport, NameScope, Classified}
use Rattle.wc_names.specs.Laws.{ExportsUnique, IsImportIn, MeaningsInRange, MeaningsUnique}
use Rattle.wc_names.specs.Meanings.{Meaning, means}
use Rattle.wc_names.specs.Views.{ImportView, library_item}
use Rattle.wc_validate.specs.Imports.Entries.{Entry, Records, by_modules, single}
use Rattle.wc_validate.specs.Exports.Map.{ExportRecord}
use Rattle.wc_validate.specs.Imports.Record.{ImportScope, IsCoreImport, AreEntries, argument_entry, argument_for, item_by_alias, item_entry, library_entry}
use Rattle.wc_validate.specs.Laws.{EntriesInRange, EntriesUnique, RecordsUnique, SignaturesFixed}
use Rattle.wc_validate.specs.Exports.Record.{AreExports, IsExportEntry, core_exports, entry_of}
use Rattle.wc_validate.specs.Imports.Classify.{HasSignature}
use Rattle.wc_validate.specs.Validate.{IsExportsRecord, IsImportsRecord, IsImportScopeFor, IsNameScopeOf, ModuleRecord, encoder_scope}
use Rattle.wc_names.proofs.SameMeaningLemmas.{import_of}
use Rattle.wc_validate.proofs.ContainedLemmas.{some_same}

pub one_core : (s : ImportScope) (i : ImportValue) (a b : CoreImport) → IsCoreImport s i a → IsCoreImport s i b → a ≡ b
one_core s i a b p q =
    ap (λ z. import_of z a.name a.ty) (p.0 ∙ sym q.0) ∙ (ap (λ z. import_of b.from z a.ty) (p.1 ∙ sym q.1)
    ∙ ap (λ z. import_of b.from b.name z) (some_same (sym p.2 ∙ q.2)))

pub same_import : {v u : ImportView} {p q : Option FuncTypeValue} → means v p ≡ means u q → v ≡ u
same_import e = cc e

pub same_signature : {v u : ImportView} {p q : Option FuncTypeValue} → means v p ≡ means u q → p ≡ q
same_signature e = cc e

pub none_some : {X : Type 0} (o : Option X) (x : X) → o ≡ None → o ≡ Some x → ⊥
none_some o x none some = let both : None ≡ Some x = sym none ∙ some in let bad : ⊥ = cc both in bad

module _ (r : ResolveView) (unique : MeaningsUnique r) where
  meant : (s : ImportScope) (i : ImportValue) (a b : CoreImport) (m n : Meaning) → s.name_scope.resolve ≡ r → IsCoreImport s i a → IsCoreImport s i b
      → Classified s.name_scope a m → Classified s.name_scope b n → m ≡ n
  meant s i a b m n at p q first second = unique s.name_scope b m n at (subst (λ z. Classified s.name_scope z m) (one_core s i a b p q) first) second

  pub one_entry : EntriesUnique r
  one_entry s i x y at (inl p) (inl q) = some_same (sym p ∙ q)
  one_entry s i x y at (inl p) (inr q) = absurd (none_some (library_entry s.library i.module_name i.name) x q.0 p)
  one_entry s i x y at (inr p) (inl q) = absurd (none_some (library_entry s.library i.module_name i.name) y p.0 q)
  one_entry s i x y at (inr p) (inr q) =
      p.7 ∙ (ap (single i.module_name i.name) (same_import (meant s i p.1 q.1 (means p.2 p.3) (means q.2 q.3) at p.4 q.4 p.5 q.5)) ∙ sym q.7)

  pub one_signature : SignaturesFixed r
  one_signature s i x a v ty at library (inl p) core h = absurd (none_some (library_entry s.library i.module_name i.name) x library p)
  one_signature s i x a v ty at library (inr p) core h =
      let fixed : p.3 ≡ Some ty = same_signature (meant s i p.1 a (means p.2 p.3) (means v (Some ty)) at p.4 core p.5 h) in
      ap (λ z. z.ty) (one_core s i a p.1 core p.4) ∙ subst (HasSignature (p.1).ty) fixed p.6

  pub entries_same : (s : ImportScope) (before : List Entry) (is : List ImportValue) (xs ys : List Entry) → s.name_scope.resolve ≡ r → AreEntries s before is xs
      → AreEntries s before is ys → xs ≡ ys
  entries_same s before [] xs ys at p q = p ∙ sym q
  entries_same s before (i ∷ is) [] ys at p q = absurd p
  entries_same s before (i ∷ is) (x ∷ xs) [] at p q = absurd q
  entries_same s before (i ∷ is) (x ∷ xs) (y ∷ ys) at p q =
      let same = one_entry s i x y at p.0 q.0 in
      ap (λ z. z ∷ xs) same ∙ ap (λ z. y ∷ z) (entries_same s (before ++ y ∷ []) is xs ys at (subst (λ z. AreEntries s (before ++ z ∷ []) is xs) same p.2) q.2)

abbrev scope_by : NameScope → Option LibraryView → Option (List RenameView) → List FuncTypeValue → ImportScope
scope_by e l n t = record { name_scope = e; library = l; renames = n; types = t }

pub one_name_scope : (e : EncoderView) (p q : NameScope) → IsNameScopeOf e p → IsNameScopeOf e q → p ≡ q
one_name_scope e p q a b = a.2 ∙ (ap (encoder_scope e) (some_same (sym a.1 ∙ b.1)) ∙ sym b.2)

pub import_scopes_same : (e : EncoderView) (renames : Option (List RenameView)) (library : Option LibraryView) (types : List FuncTypeValue) (s t : ImportScope)
    → IsImportScopeFor e renames library types s → IsImportScopeFor e renames library types t → s ≡ t
import_scopes_same e renames library types s t p q =
    ap (λ z. scope_by z s.library s.renames s.types) (one_name_scope e s.name_scope t.name_scope p.has_name_scope q.has_name_scope)
    ∙ (ap (λ z. scope_by t.name_scope z s.renames s.types) (p.has_library ∙ sym q.has_library)
    ∙ (ap (λ z. scope_by t.name_scope t.library z s.types) (p.has_renames ∙ sym q.has_renames)
    ∙ ap (λ z. scope_by t.name_scope t.library t.renames z) (p.has_types ∙ sym q.has_types)))

-- the exports of a module
pub same_entries : (s : NameScope) (keys : List KeyView) (x : CoreExport) (o p : Option ExportView) → ExportsUnique → IsExportEntry s keys x o
    → IsExportEntry s keys x p → o ≡ p
unfolding IsExportEntry
same_entries s keys x None None unique a b = refl
same_entries s keys x None (Some w) unique a b = absurd (a (is_export w b.0) b.1)
same_entries s keys x (Some v) None unique a b = absurd (b (is_export v a.0) a.1)
same_entries s keys x (Some v) (Some w) unique a b =
    ap (λ (z : ExportMeaning). Some z.export) (unique s keys x (is_export v a.0) (is_export w b.0) a.1 b.1)

pub exports_alike : (s : NameScope) (keys : List KeyView) (xs : List CoreExport) (p q : ExportRecord) → ExportsUnique → AreExports s keys xs p
    → AreExports s keys xs q → p ≡ q
exports_alike s keys [] p q unique a b = a ∙ sym b
exports_alike s keys (x ∷ xs) p q unique a b =
    a.4 ∙ (ap (λ o. entry_of x.name o ++ a.1) (same_entries s keys x a.0 b.0 unique a.2 b.2)
    ∙ (ap (λ z. entry_of x.name b.0 ++ z) (exports_alike s keys xs a.1 b.1 unique a.3 b.3) ∙ sym b.4))

same_imports : (e : EncoderView) (renames : Option (List RenameView)) (library : Option LibraryView) (m : ModuleValue) (p q : Records)
    → MeaningsUnique e.resolve → IsImportsRecord e renames library m.types m.imports p
    → IsImportsRecord e renames library m.types m.imports q → p ≡ q
same_imports e renames library m p q unique a b =
    let scopes = import_scopes_same e renames library m.types a.0 b.0 a.1 b.1 in
    let entries = subst (λ z. AreEntries z [] m.imports b.2.0) (sym scopes) b.2.1 in
    let resolve : (a.0).name_scope.resolve ≡ e.resolve = ap (λ z. z.resolve) a.1.has_name_scope.2 in
    a.2.2 ∙ (ap by_modules (entries_same e.resolve unique a.0 [] m.imports a.2.0 b.2.0 resolve a.2.1 entries) ∙ sym b.2.2)

both_parts : (p q : ModuleRecord) → p.imports ≡ q.imports → p.exports ≡ q.exports → p ≡ q
both_parts p q i x = λ k. record { imports = i k; exports = x k }

pub one_record : (e : EncoderView) → MeaningsUnique e.resolve → ExportsUnique → HasOneValue SpellsModule → RecordsUnique e
one_record e unique unique_exports one j bytes p q is a b =
    let same = one bytes a.value b.value a.spelled b.spelled in
    let imports = subst (λ (z : ModuleValue). IsImportsRecord j.encoder j.renames j.library z.types z.imports q.imports) (sym same) b.imports in
    let exports = subst (λ z. IsExportsRecord j.encoder j.keys j.required z q.exports) (sym same) b.exports in
    let scopes = one_name_scope j.encoder exports.0 a.exports.0 exports.1 a.exports.1 in
    both_parts p q (same_imports j.encoder j.renames j.library a.value p.imports q.imports
    (subst (λ (z : EncoderView). MeaningsUnique z.resolve) (sym is) unique) a.imports imports)
    (exports_alike a.exports.0 j.keys (core_exports a.value a.value.exports) p.exports q.exports unique_exports a.exports.2
    (subst (λ z. AreExports z j.keys (core_exports a.value a.value.exports) q.exports) scopes exports.2))

-- what a library is passed names nothing of the world
item_in : (r : ResolveView) (w : WorldView) (m n k name : List ℕ) (item : Option LibraryItemView) (v : ImportView)
    → option_map (item_entry m n) item ≡ Some (single k name v) → IsImportIn r w v
item_in r w m n k name None v is = absurd (let bad : ⊥ = cc is in bad)
item_in r w m n k name (Some item) v is = let same : library_item item ≡ v = cc is in subst (IsImportIn r w) same tt

passed_in : (r : ResolveView) (w : WorldView) (m n k name : List ℕ) (o : Option InstanceView) (v : ImportView)
    → option_and_then (argument_entry m n) o ≡ Some (single k name v) → IsImportIn r w v
passed_in r w m n k name None v is = absurd (let bad : ⊥ = cc is in bad)
passed_in r w m n k name (Some (module_instance which)) v is = absurd (let bad : ⊥ = cc is in bad)
passed_in r w m n k name (Some (item_instance items)) v is = item_in r w m n k name (item_by_alias items n) v is

pub entry_in : (r : ResolveView) → MeaningsInRange r → EntriesInRange r
entry_in r range s i m name v at world (inl p) = passed_in r s.name_scope.world i.module_name i.name m name (argument_for s.library i.module_name) v p
entry_in r range s i m name v at world (inr p) =
    let same : p.2 ≡ v = (let e : single m name v ≡ single i.module_name i.name p.2 = p.7 in let f : p.2 ≡ v = cc e in f) in
    let there = subst (λ z. slice_get z.worlds world.0 ≡ Some s.name_scope.world) at world.1 in
    subst (IsImportIn r s.name_scope.world) same (range s.name_scope p.1 world.0 p.2 p.3 at there p.5)

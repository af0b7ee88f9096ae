-- The imports of a module that restricts another: only a second import of one name of the main module is refused.
use Rattle.std.proofs.Common.{◌≡◌, ◌≢◌, ◌⊎◌, ℕ, List, [], ◌∷◌, ◌++◌, All, Contains, Option, Some, None, slice_get, refl, sym, ap, subst, ◌∙◌, inl, inr, append_assoc, append-nil}
use Rattle.std.specs.List.{AllZip}
use Rattle.std.specs.Option.{option_map}
use Rattle.std.proofs.lemmas.List.Elements.{All-head, All-tail}
use Rattle.wc_read.specs.declared.exports.ExportKind.{ExportKind}
use Rattle.wc_read.specs.declared.types.MemoryType.{MemoryType}
use Rattle.wc_read.specs.Imports.{ImportValue}
use Rattle.wc_read.specs.Modules.{ModuleValue}
use Rattle.wc_read.specs.Types.{FuncTypeValue}
use Rattle.wc_dedupe.specs.Renaming.{RenameView}
use Rattle.wc_maps.proofs.ListLemmas.{contains_cons, contains_head, contains_none, contains_tail}
use Rattle.wc_names.specs.SameButIndices.{AreSameButIndices, without_indices}
use Rattle.wc_names.specs.Imports.{Classified, CoreImport, ExternType, NameScope, extern_kind}
use Rattle.wc_names.specs.Laws.{MeaningsUnique}
use Rattle.wc_names.specs.Meanings.{means, refuses}
use Rattle.wc_validate.specs.Classifications.{FaultKind, other_fault, out_of_memory, refused_name, wrong_signature}
use Rattle.wc_names.specs.Views.{ImportView, adapter_export, main_module_export, main_module_memory}
use Rattle.wc_names.proofs.SameMeaningLemmas.{fixed_plain, meaning_kept}
use Rattle.wc_names.proofs.SameButIndicesLemmas.{of_same_fixed}
use Rattle.wc_names.proofs.SearchLemmas.{first_kind}
use Rattle.wc_validate.specs.declared.fault.ValidateFault.{ValidateFault}
use Rattle.wc_validate.specs.declared.fault.ValidateFault.TheVariants.{AdapterTypesDiffer, DuplicateImport, Mixed, SeveralMemoryImports}
use Rattle.wc_validate.specs.Imports.Entries.{Entry, IsNameRecorded, adapter_type_in, adapter_type_of, by_modules, memory_of, memory_type_of, single}
use Rattle.wc_validate.specs.Fault.{import_fault_kind}
use Rattle.wc_validate.specs.Imports.Record.{AreEntries, ImportScope, IsCoreImport, IsEntry, IsEntryCause, IsFaultOfImport, IsImportFault, entry_faults, extern_type, original_name}
use Rattle.wc_validate.specs.Restriction.{AreDistinct, HasCollision, HasOrigin, IsSameImport, main_module}
use Rattle.wc_validate.specs.Imports.Classify.{HasSignature, IsNameFault}
use Rattle.wc_validate.proofs.DistinctNameLemmas.{pair_either, pairs_before}
use Rattle.wc_validate.proofs.ContainedLemmas.{all_by, first_from, mapped_from}
use Rattle.wc_validate.proofs.LawLemmas.{one_core, one_entry, same_import, same_signature}
use Rattle.wc_validate.proofs.ImportClassifyLemmas.{not_both}
use Rattle.wc_validate.proofs.SingleEntryLemmas.{AreCompatible, IsSingle, adapter_self, name_from, not_all, swapped}
use Rattle.wc_validate.proofs.ValidPairLemmas.{entry_at, pairs_compatible}

-- what imports of a module are recorded by that is no library
abbrev pub name_scope_of : NameScope → Option (List RenameView) → ModuleValue → ImportScope
name_scope_of e renames m = record { name_scope = e; library = None; renames = renames; types = m.types }

-- an entry by an import's name
pub record IsNamedEntry (e : NameScope) (renames : Option (List RenameView)) (m : ModuleValue) (i : ImportValue) (x : Entry) : Type 0 where
  pub core : CoreImport
  pub view : ImportView
  pub required_type : Option FuncTypeValue
  pub is_core : IsCoreImport (name_scope_of e renames m) i core
  pub is_meant : Classified e core (means view required_type)
  pub signed : HasSignature core.ty required_type
  pub is_entry : x ≡ single i.module_name i.name view

pub named_entry : (e : NameScope) (renames : Option (List RenameView)) (m : ModuleValue) (i : ImportValue) (x : Entry)
    → IsEntry (name_scope_of e renames m) i x
    → IsNamedEntry e renames m i x
named_entry e renames m i x (inl h) = absurd (let bad : ⊥ = cc h in bad)
named_entry e renames m i x (inr h) = record { core = h.1; view = h.2; required_type = h.3; is_core = h.4; is_meant = h.5; signed = h.6; is_entry = h.7 }

pub alone : (e : NameScope) (renames : Option (List RenameView)) (m : ModuleValue) (i : ImportValue) (x : Entry) → IsEntry (name_scope_of e renames m) i x
    → IsSingle x
alone e renames m i x h = subst IsSingle (sym (named_entry e renames m i x h).is_entry) tt

-- an import that means something, with its signature, has no fault of its name
not_refused : (e : NameScope) → MeaningsUnique e.resolve → (a : CoreImport) (v : ImportView) (required_type : Option FuncTypeValue)
    → Classified e a (means v required_type)
    → HasSignature a.ty required_type → (k : FaultKind) → ¬ IsNameFault e a k
not_refused e unique a v required_type meant signed out_of_memory h = h
not_refused e unique a v required_type meant signed (wrong_signature (Some wanted)) h =
    let both : means h.0 (Some wanted) ≡ means v required_type = unique e a (means h.0 (Some wanted)) (means v required_type) refl h.1 meant in
    h.2 (subst (HasSignature a.ty) (sym (same_signature both)) signed)
not_refused e unique a v required_type meant signed (wrong_signature None) h =
    let both : means h.0 (Some h.1) ≡ means v required_type = unique e a (means h.0 (Some h.1)) (means v required_type) refl h.2 meant in
    h.3 (subst (HasSignature a.ty) (sym (same_signature both)) signed)
not_refused e unique a v required_type meant signed (refused_name why) h =
    let both : refuses why ≡ means v required_type = unique e a (refuses why) (means v required_type) refl h meant in let bad : ⊥ = cc both in bad
not_refused e unique a v required_type meant signed other_fault h = h

-- the signature that a name fixes is that of an import of a type that is the same but for indices too
signature_kept : (e : NameScope) (from name : List ℕ) (t u : ExternType) (i : ImportView) (required_type : Option FuncTypeValue) → AreSameButIndices t u
    → Classified e (record { from = from; name = name; ty = t }) (means i required_type)
    → HasSignature t required_type → HasSignature u required_type
signature_kept e from name t u i None but_indices meant signed = tt
signature_kept e from name t u i (Some w) but_indices meant signed =
    of_same_fixed t u w but_indices signed (fixed_plain e (record { from = from; name = name; ty = t }) i w meant)

main_meant : (e : NameScope) (a : CoreImport) → a.from ≡ main_module → Classified e a (means (main_module_export a.name (extern_kind a.ty)) None)
main_meant e a at = inr ((λ p h. not_both a.from h.0 at), inl (at, refl))

-- an import with a fault, those before it, and their entries
record FaultAt (s : ImportScope) (before : List Entry) (is : List ImportValue) (f : ValidateFault) : Type 0 where
  pub front : List ImportValue
  pub import : ImportValue
  pub back : List ImportValue
  pub entries : List Entry
  pub cut : is ≡ front ++ import ∷ back
  pub recorded : AllZip (IsEntry s) front entries
  pub fault : IsFaultOfImport s (before ++ entries) import f

fault_at : (s : ImportScope) (before : List Entry) (is : List ImportValue) (f : ValidateFault) → IsImportFault s before is f → FaultAt s before is f
fault_at s before [] f h = absurd h
fault_at s before (i ∷ is) f (inl h) = record {
  front = [];
  import = i;
  back = is;
  entries = [];
  cut = refl;
  recorded = tt;
  fault = subst (λ z. IsFaultOfImport s z i f) (sym (append-nil before)) h;
}
fault_at s before (i ∷ is) f (inr h) =
    let rest = fault_at s (before ++ h.0 ∷ []) is f h.3 in
    record {
      front = i ∷ rest.front;
      import = rest.import;
      back = rest.back;
      entries = h.0 ∷ rest.entries;
      cut = ap (λ z. i ∷ z) rest.cut;
      recorded = (h.1, rest.recorded);
      fault = subst (λ z. IsFaultOfImport s z rest.import f) (append_assoc before (h.0 ∷ []) rest.entries) rest.fault;
    }

-- the origin of an import, and of those before it
record OriginAt (v m : ModuleValue) (os : List (Option ℕ)) (front : List ImportValue) (i : ImportValue) : Type 0 where
  pub before : List (Option ℕ)
  pub origin : Option ℕ
  pub after : List (Option ℕ)
  pub cut : os ≡ before ++ origin ∷ after
  pub front_from : AllZip (HasOrigin v m) before front
  pub from : HasOrigin v m origin i

origin_at : (v m : ModuleValue) (os : List (Option ℕ)) (front : List ImportValue) (i : ImportValue) (back : List ImportValue)
    → AllZip (HasOrigin v m) os (front ++ i ∷ back) → OriginAt v m os front i
origin_at v m [] [] i back h = absurd h
origin_at v m [] (j ∷ front) i back h = absurd h
origin_at v m (o ∷ os) [] i back h = record { before = []; origin = o; after = os; cut = refl; front_from = tt; from = h.0 }
origin_at v m (o ∷ os) (j ∷ front) i back h =
    let rest = origin_at v m os front i back h.1 in
    record {
      before = o ∷ rest.before;
      origin = rest.origin;
      after = rest.after;
      cut = ap (λ z. o ∷ z)
          rest.cut;
      front_from = (h.0, rest.front_from);
      from = rest.from;
    }

abbrev IsMainEntry : Entry → Type 0
IsMainEntry x = (name n : List ℕ) × (k : ExportKind) × (x ≡ single main_module name (main_module_export n k))

-- an import before one: both are not from one position
record IsEarlier (e : NameScope) (renames : Option (List RenameView)) (v m : ModuleValue) (o : Option ℕ) (front : List ImportValue) (y : Entry) : Type 0 where
  pub origin : Option ℕ
  pub import : ImportValue
  pub there : Contains front import
  pub from : HasOrigin v m origin import
  pub entry : IsEntry (name_scope_of e renames m) import y
  pub differs : origin ≡ o → origin ≡ None

-- an import before one of the main module has its module and its name
record Collides (front : List ImportValue) (i : ImportValue) : Type 0 where
  pub of_main : i.module_name ≡ main_module
  pub first : ImportValue
  pub is_before : Contains front first
  pub same_module : first.module_name ≡ i.module_name
  pub same_name : first.name ≡ i.name

module _ (e : NameScope) (renames : Option (List RenameView)) (v m : ModuleValue) where
  further : (o : Option ℕ) (k : ImportValue) (front : List ImportValue) (y : Entry) → IsEarlier e renames v m o front y
      → IsEarlier e renames v m o (k ∷ front) y
  further o k front y r =
      record { origin = r.origin; import = r.import; there = contains_tail k front r.import r.there; from = r.from; entry = r.entry; differs = r.differs }

  earlier : (o : Option ℕ) (os : List (Option ℕ)) (front : List ImportValue) (ys : List Entry) → AllZip (HasOrigin v m) os front
      → AllZip (IsEntry (name_scope_of e renames m)) front ys → All (λ a. a ≡ o → a ≡ None) os
      → (y : Entry) → Contains ys y → IsEarlier e renames v m o front y
  earlier o os front [] from recorded differs y h = absurd (contains_none y h)
  earlier o os [] (z ∷ ys) from recorded differs y h = absurd recorded
  earlier o [] (k ∷ front) (z ∷ ys) from recorded differs y h = absurd from
  earlier o (a ∷ os) (k ∷ front) (z ∷ ys) from recorded differs y h = elim (contains_cons z ys y h) [
    | inl is ↦ record {
      origin = a;
      import = k;
      there = contains_head front k;
      from = from.0;
      entry = subst (IsEntry (name_scope_of e renames m) k) is recorded.0;
      differs = All-head (λ b. b ≡ o → b ≡ None) a os differs;
    }
    | inr later ↦ further o k front y (earlier o os front ys from.1 recorded.1 (All-tail (λ b. b ≡ o → b ≡ None) a os differs) y later)
  ]

  -- the original of an import is the same but for the indices in its type
  abbrev IsSameCoreButIndices : ImportValue → CoreImport → Type 0
  IsSameCoreButIndices j a =
      (t : ExternType) × IsCoreImport (name_scope_of e renames v) j (record { from = a.from; name = a.name; ty = t }) × AreSameButIndices t a.ty

  same_core : (j i : ImportValue) (a : CoreImport) → IsSameImport v m j i → IsCoreImport (name_scope_of e renames m) i a → IsSameCoreButIndices j a
  same_core j i a same core =
      let of = mapped_from without_indices (extern_type v.types j.ty) (without_indices a.ty) (same.ty ∙ ap (option_map without_indices) core.2) in (
        of.0,
        (
          core.0 ∙ sym same.from,
          core.1 ∙ (ap (λ z. original_name renames z i.name) (sym same.from) ∙ ap (λ z. original_name renames j.module_name z) (sym same.name)),
          of.1,
        ),
        of.2,
      )

  -- so it means the same, with the same signature
  abbrev MeansSame : CoreImport → ImportView → Option FuncTypeValue → Type 0
  MeansSame a view required_type = Classified e a (means view required_type) × HasSignature a.ty required_type

  carried : (j i : ImportValue) (y : Entry) (a : CoreImport) → IsSameImport v m j i → (named : IsNamedEntry e renames v j y)
      → IsCoreImport (name_scope_of e renames m) i a → MeansSame a named.view named.required_type
  carried j i y a same named core =
      let of = same_core j i a same core in
      let is = one_core (name_scope_of e renames v) j named.core (record { from = a.from; name = a.name; ty = of.0 }) named.is_core of.1 in
      let meant = subst (λ z. Classified e z (means named.view named.required_type)) is named.is_meant in (
        meaning_kept e a.from a.name of.0 a.ty named.view named.required_type of.2 meant,
        signature_kept e a.from a.name of.0 a.ty named.view named.required_type of.2 meant (subst (λ z. HasSignature z.ty named.required_type) is named.signed),
      )

  carried_entry : (j i : ImportValue) (y : Entry) (a : CoreImport) → IsSameImport v m j i → IsNamedEntry e renames v j y
      → IsCoreImport (name_scope_of e renames m) i a → IsEntry (name_scope_of e renames m) i y
  carried_entry j i y a same h core =
      let means_same = carried j i y a same h core in
      inr (
        refl,
        a,
        h.view,
        h.required_type,
        core,
        means_same.0,
        means_same.1,
        h.is_entry ∙ (ap (λ z. single z j.name h.view) same.from ∙ ap (λ z. single i.module_name z h.view) same.name),
      )

  module _ (unique : MeaningsUnique e.resolve) (xs : List Entry) (entries : AreEntries (name_scope_of e renames v) [] v.imports xs) where
    -- the entry of an import that is from a position is the entry there
    pub entry_of : (p : ℕ) (j i : ImportValue) (x : Entry) → slice_get v.imports p ≡ Some j → IsSameImport v m j i → IsEntry (name_scope_of e renames m) i x
        → slice_get xs p ≡ Some x
    entry_of p j i x at same h =
        let y = entry_at (name_scope_of e renames v) [] v.imports xs p j entries at in
        let named = named_entry e renames m i x h in
        y.1 ∙ ap Some (one_entry e.resolve unique (name_scope_of e renames m) i y.0 x refl
        (carried_entry j i y.0 named.core same (named_entry e renames v j y.0 y.2) named.is_core) h)

    meant : (o : Option ℕ) (i : ImportValue) (a : CoreImport) → HasOrigin v m o i → IsCoreImport (name_scope_of e renames m) i a → (w : ImportView)
        × (required_type : Option FuncTypeValue) × Classified e a (means w required_type) × HasSignature a.ty required_type
    meant (Some p) i a h core =
        let y = entry_at (name_scope_of e renames v) [] v.imports xs p h.0 entries h.1 in
        let named = named_entry e renames v h.0 y.0 y.2 in
        let means_same = carried h.0 i y.0 a h.2 named core in
        (named.view, named.required_type, means_same.0, means_same.1)
    meant None i a h core = (main_module_export a.name (extern_kind a.ty), None, main_meant e a (core.0 ∙ h.0), tt)

    pub main_is : (i : ImportValue) (x : Entry) → HasOrigin v m None i → (h : IsNamedEntry e renames m i x)
        → x ≡ single main_module i.name (main_module_export (h.core).name (extern_kind (h.core).ty))
    main_is i x from h =
        let a = h.core in
        let meaning : means h.view h.required_type ≡ means (main_module_export a.name (extern_kind a.ty)) None =
        unique e a (means h.view h.required_type) (means (main_module_export a.name (extern_kind a.ty)) None) refl h.is_meant
        (main_meant e a (h.is_core.0 ∙ from.0))
        in
        h.is_entry ∙ (ap (λ z. single z i.name h.view) from.0 ∙ ap (single main_module i.name) (same_import meaning))

    main_entry : (i : ImportValue) (x : Entry) → HasOrigin v m None i → IsEntry (name_scope_of e renames m) i x → IsMainEntry x
    main_entry i x from entry =
        let named = named_entry e renames m i x entry in
        (i.name, (named.core).name, extern_kind (named.core).ty, main_is i x from named)

    either_way : (y z : Entry) → AreCompatible y z ⊎ AreCompatible z y → AreCompatible y z
    either_way y z (inl c) = c
    either_way y z (inr c) = swapped z y c

    -- two imports: one is a function of the main module, or they can stand together
    related : (a o : Option ℕ) (k i : ImportValue) (y z : Entry) → (a ≡ o → a ≡ None) → HasOrigin v m a k → HasOrigin v m o i
        → IsEntry (name_scope_of e renames m) k y → IsEntry (name_scope_of e renames m) i z
        → IsMainEntry y ⊎ (IsMainEntry z ⊎ AreCompatible y z)
    related None o k i y z differs from_k from_i entry_k entry_i = inl (main_entry k y from_k entry_k)
    related (Some q) None k i y z differs from_k from_i entry_k entry_i = inr (inl (main_entry i z from_i entry_i))
    related (Some q) (Some p) k i y z differs from_k from_i entry_k entry_i =
        inr (inr (either_way y z
        (pair_either AreCompatible xs q p y z (pairs_compatible (name_scope_of e renames v) (alone e renames v) v.imports xs entries)
        (λ is. let some : Some q ≡ None = differs (ap Some is) in let bad : ⊥ = cc some in bad)
        (entry_of q from_k.0 k y from_k.1 from_k.2 entry_k) (entry_of p from_i.0 i z from_i.1 from_i.2 entry_i))))

    module _ (o : Option ℕ) (i : ImportValue) (w : ImportView) (front : List ImportValue) (ys : List Entry) (from : HasOrigin v m o i)
        (entry : IsEntry (name_scope_of e renames m) i (single i.module_name i.name w))
        (each : (y : Entry) → Contains ys y → IsEarlier e renames v m o front y) (singles : All IsSingle ys) where
      abbrev here : Entry
      here = single i.module_name i.name w

      abbrev Related : Entry → Type 0
      Related y = IsMainEntry y ⊎ (IsMainEntry here ⊎ AreCompatible y here)

      is_related : (y : Entry) → Contains ys y → Related y
      is_related y there = let k = each y there in related k.origin o k.import i y here k.differs k.from from k.entry entry

      no_memories : (y : Entry) (ty other : MemoryType) → w ≡ main_module_memory ty → memory_of y ≡ Some other → ¬ Related y
      no_memories y ty other is own (inl main) = let both : None ≡ Some other = sym (ap memory_of main.3) ∙ own in let bad : ⊥ = cc both in bad
      no_memories y ty other is own (inr (inl main)) =
          let both : None ≡ Some ty = sym (ap memory_of main.3) ∙ ap memory_type_of is in let bad : ⊥ = cc both in bad
      no_memories y ty other is own (inr (inr c)) = c.memories other ty own (ap memory_type_of is)

      no_types : (y : Entry) (a f : List ℕ) (ty other : FuncTypeValue) → w ≡ adapter_export a f ty → adapter_type_of a f y ≡ Some other → ty ≢ other
          → ¬ Related y
      no_types y a f ty other is own differ (inl main) =
          let both : None ≡ Some other = sym (ap (adapter_type_of a f) main.3) ∙ own in let bad : ⊥ = cc both in bad
      no_types y a f ty other is own differ (inr (inl main)) =
          let both : None ≡ Some ty = sym (ap (adapter_type_of a f) main.3) ∙ (ap (adapter_type_in a f) is ∙ adapter_self a f ty) in let bad : ⊥ = cc both in
          bad
      no_types y a f ty other is own differ (inr (inr c)) =
          c.types a f other ty own (ap (adapter_type_in a f) is ∙ adapter_self a f ty) (λ same. differ (sym same))

      one_main : (u : ImportView) → Related (single i.module_name i.name u) → i.module_name ≡ main_module
      one_main u (inl main) = let is = main.3 in let same : i.module_name ≡ main_module = cc is in same
      one_main u (inr (inl main)) = let is = main.3 in let same : i.module_name ≡ main_module = cc is in same
      one_main u (inr (inr c)) = absurd (c.names i.module_name i.name u w refl refl)

      duplicate : IsNameRecorded (by_modules ys) i.module_name i.name → Collides front i
      duplicate h =
          let found = name_from ys singles i.module_name i.name h in
          let k = each (single i.module_name i.name found.0) found.1 in
          let is = (named_entry e renames m k.import (single i.module_name i.name found.0) k.entry).is_entry in
          let modules : k.import.module_name ≡ i.module_name = cc is in
          let names : k.import.name ≡ i.name = cc is in
          record {
            of_main = one_main found.0 (is_related (single i.module_name i.name found.0)
                found.1);
            first = k.import;
            is_before = k.there;
            same_module = modules;
            same_name = names;
          }

      of_pair : (f : ValidateFault) → IsEntryCause ys here f → (f ≡ DuplicateImport) × Collides front i
      of_pair SeveralMemoryImports h =
          absurd (let found = first_from memory_of ys h.1 h.3 in no_memories found.0 h.0 h.1 h.2 found.2 (is_related found.0 found.1))
      of_pair Mixed h = absurd (not_all ys singles i.module_name h)
      of_pair DuplicateImport h = (refl, duplicate h)
      of_pair AdapterTypesDiffer h =
          absurd (let found = first_from (adapter_type_of h.0 h.1) ys h.3 h.5 in no_types found.0 h.0 h.1 h.2 h.3 h.4 found.2 h.6 (is_related found.0 found.1))
      of_pair f h = absurd h

    of_fault : (o : Option ℕ) (i : ImportValue) (front : List ImportValue) (ys : List Entry) (f : ValidateFault) → HasOrigin v m o i
        → ((y : Entry) → Contains ys y → IsEarlier e renames v m o front y)
        → IsFaultOfImport (name_scope_of e renames m) ys i f → (f ≡ DuplicateImport) × Collides front i
    of_fault o i front ys f from each (inl h) =
        absurd (let is = meant o i h.1 from h.2 in not_refused e unique h.1 is.0 is.1 is.2 is.3 (import_fault_kind f) h.3)
    of_fault o i front ys f from each (inr h) =
        let named = named_entry e renames m i h.0 h.1 in
        let kind = first_kind (λ k (g : ValidateFault). IsEntryCause ys h.0 k × (g ≡ k)) entry_faults f h.2 in
        let cause : IsEntryCause ys h.0 f = subst (IsEntryCause ys h.0) (sym kind.1.1) kind.1.0 in
        let singles : All IsSingle ys = all_by IsSingle ys (λ y there. let k = each y there in alone e renames m k.import y k.entry) in
        of_pair o i named.view front ys from (subst (IsEntry (name_scope_of e renames m) i) named.is_entry h.1) each singles f
        (subst (λ z. IsEntryCause ys z f) named.is_entry cause)

    -- the fault of the imports
    pub imports_refused : (os : List (Option ℕ)) → AllZip (HasOrigin v m) os m.imports → AreDistinct os → (f : ValidateFault)
        → IsImportFault (name_scope_of e renames m) [] m.imports f → (f ≡ DuplicateImport) × HasCollision m
    imports_refused os from differs f h =
        let at = fault_at (name_scope_of e renames m) [] m.imports f h in
        let origin = origin_at v m os at.front at.import at.back (subst (AllZip (HasOrigin v m) os) at.cut from) in
        let others = pairs_before (λ a b. a ≡ b → a ≡ None) origin.before origin.origin origin.after (subst AreDistinct origin.cut differs) in
        let refused = of_fault origin.origin at.import at.front at.entries f origin.from
        (earlier origin.origin origin.before at.front at.entries origin.front_from at.recorded others) at.fault in (
          refused.0,
          record {
            front = at.front;
            second = at.import;
            back = at.back;
            cut = at.cut;
            of_main = refused.1.of_main;
            first = refused.1.first;
            is_before = refused.1.is_before;
            same_module = refused.1.same_module;
            same_name = refused.1.same_name;
          },
        )

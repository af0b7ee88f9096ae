-- The adapters that are made of files: they are put into a map under their names, which differ.
use Rattle.std.proofs.Common.{◌≡◌, ◌≢◌, ℕ, ◌<◌, suc, zero, List, [], ◌∷◌, ◌++◌, map, length, take, drop, get_or, Contains, Option, Some, String, Global, refl, sym, ◌∙◌, ap, subst, string_bytes, string_eq, inl, inr, arith}
use Rattle.std.specs.List.{AllPairs, AllZip}
use Rattle.std.proofs.lemmas.Bool.{cases_Bool}
use Rattle.std.proofs.lemmas.List.{map-append, map-id}
use Rattle.std.proofs.lemmas.List.Elements.{All-contains}
use Rattle.indexmap.specs.IndexMap.{insert_entry}
use Rattle.wc_adapters.specs.Adapters.{AdapterView, adapter_entry}
use Rattle.wc_adapters.specs.declared.adapters.Adapter.{Adapter}
use Rattle.wc_maps.proofs.PairLemmas.{pairs_head, pairs_tail}
use Rattle.wc_resolve.proofs.KeyLemmas.{texts_law}
use Rattle.wc_maps.proofs.ListLemmas.{contains_cons, contains_head, contains_none, contains_tail}
use Rattle.wc_program.specs.Files.{Held}
use Rattle.wc_selection.specs.Keys.{NamedKey}
use Rattle.wc_selection.specs.ModuleKeys.{required_keys}
use Rattle.wc_selection.specs.Requests.{RequestValue}
use Rattle.wc_maps.specs.Texts.{AreDistinct, first_parts}
use Rattle.wcplan_inputs.specs.Inputs.{HoldsInput, IsAdapterIn, IsFileIn, adapter_bytes}
use Rattle.wcplan_inputs.specs.Private.AdapterFiles.{IsAdapterOf}
use Rattle.wcplan_inputs.specs.Private.SharedKeys.{file_bytes}
use Rattle.wcplan_inputs.specs.declared.adapter_files.AdapterFile.{AdapterFile}
use Rattle.wc_options.proofs.AdapterLemmas.{zip_push}

abbrev Files : Type 0
Files = List (List ℕ × List ℕ)

abbrev NotEqual : List ℕ → List ℕ → Type 0
NotEqual a b = a ≢ b

-- files have the names of what they are of
pub names_read : (before : Option Held) (xs files : Files) → AllZip (IsFileIn before) xs files → first_parts files ≡ first_parts xs
names_read before [] [] h = refl
names_read before [] (f ∷ fs) h = absurd h
names_read before (x ∷ xs) [] h = absurd h
names_read before (x ∷ xs) (f ∷ fs) h = (λ i. h.0.0 i ∷ names_read before xs fs h.1 i)

module _ (q : RequestValue) (keys : List NamedKey) where
  -- and adapters the names and the bytes of their files
  pub bytes_requested : (files : Files) (ys : List (List ℕ × AdapterView)) → AllZip (IsAdapterOf q keys) files ys → map adapter_bytes ys ≡ files
  bytes_requested [] [] h = refl
  bytes_requested [] (y ∷ ys) h = absurd h
  bytes_requested (f ∷ fs) [] h = absurd h
  bytes_requested (f ∷ fs) (y ∷ ys) h = (λ i. (h.0.name i, h.0.wasm i) ∷ bytes_requested fs ys h.1 i)

  same_names : (files : Files) (ys : List (List ℕ × AdapterView)) → AllZip (IsAdapterOf q keys) files ys
      → map (λ (y : List ℕ × AdapterView). y.0) ys ≡ first_parts files
  same_names [] [] h = refl
  same_names [] (y ∷ ys) h = absurd h
  same_names (f ∷ fs) [] h = absurd h
  same_names (f ∷ fs) (y ∷ ys) h = (λ i. h.0.name i ∷ same_names fs ys h.1 i)

  pub files_requested : (before : Option Held) (xs files : Files) (ys : List (List ℕ × AdapterView)) → AllZip (IsFileIn before) xs files
      → AllZip (IsAdapterOf q keys) files ys → AllZip (IsAdapterIn before q keys) xs ys
  files_requested before [] [] [] h g = tt
  files_requested before [] [] (y ∷ ys) h g = absurd g
  files_requested before [] (f ∷ fs) ys h g = absurd h
  files_requested before (x ∷ xs) [] ys h g = absurd h
  files_requested before (x ∷ xs) (f ∷ fs) [] h g = absurd g
  files_requested before (x ∷ xs) (f ∷ fs) (y ∷ ys) h g = (
    record {
      name = g.0.name ∙ h.0.0;
      wasm = subst (λ bytes. HoldsInput before x.1 bytes) (sym g.0.wasm) h.0.1;
      required = g.0.required ∙ ap (λ (name : List ℕ). required_keys q (Some name) keys) h.0.0;
      library = g.0.library;
    },
    files_requested before xs fs ys h.1 g.1,
  )

among : (xs zs : List (List ℕ)) (y : List ℕ) → Contains (xs ++ y ∷ zs) y
among [] zs y = contains_head zs y
among (x ∷ xs) zs y = contains_tail x (xs ++ y ∷ zs) y (among xs zs y)

-- a name after others, among names that differ, is none of these
fresh_after : (xs zs : List (List ℕ)) (y : List ℕ) → AllPairs NotEqual (xs ++ y ∷ zs) → Contains xs y → ⊥
fresh_after [] zs y distinct has = contains_none y has
fresh_after (x ∷ xs) zs y distinct has = elim (contains_cons x xs y has) [
  | inl same ↦ All-contains (NotEqual x) (xs ++ y ∷ zs) y (pairs_head NotEqual x (xs ++ y ∷ zs) distinct) (among xs zs y) same
  | inr later ↦ fresh_after xs zs y (pairs_tail NotEqual x (xs ++ y ∷ zs) distinct) later
]

insert_new : (entries : List (String Global × Adapter)) (name : String Global) (adapter : Adapter)
    → (Contains (map (λ (y : List ℕ × AdapterView). y.0) (map adapter_entry entries)) (string_bytes name) → ⊥)
    → insert_entry string_eq entries name adapter ≡ entries ++ (name, adapter) ∷ []
insert_new [] name adapter fresh = refl
insert_new (e ∷ es) name adapter fresh = elim (cases_Bool (string_eq name e.0)) [
  | inl same ↦ absurd (fresh (subst (Contains (map (λ (y : List ℕ × AdapterView). y.0) (map adapter_entry (e ∷ es)))) (sym ((texts_law name e.0).0 same))
      (contains_head (map (λ (y : List ℕ × AdapterView). y.0) (map adapter_entry es)) (string_bytes e.0))))
  | inr other ↦ rw other (ap (λ l. e ∷ l) (insert_new es name adapter
      (λ has. fresh (contains_tail (string_bytes e.0) (map (λ (y : List ℕ × AdapterView). y.0) (map adapter_entry es)) (string_bytes name) has))))
]

cut_at : (xs : List AdapterFile) (k : ℕ) (d : AdapterFile) → k < length xs → xs ≡ take k xs ++ get_or xs k d ∷ drop (suc k) xs
cut_at [] k d lt = absurd (omega arith)
cut_at (y ∷ ys) zero d lt = refl
cut_at (y ∷ ys) (suc k) d lt = ap (λ l. y ∷ l) (cut_at ys k d (omega arith))

-- one more adapter, of the file that comes after those that are passed
pub requested_more : (q : RequestValue) (keys : List NamedKey) (files passed : List AdapterFile) (file : AdapterFile)
    (entries after : List (String Global × Adapter)) (name : String Global) (adapter : Adapter)
    → (length passed < length files) × (file ≡ get_or files (length passed) file) → map (λ f. f) passed ≡ take (length passed) files
    → AreDistinct (first_parts (map file_bytes files)) → IsAdapterOf q keys (file_bytes file) (adapter_entry (name, adapter))
    → after ≡ insert_entry string_eq entries name adapter → AllZip (IsAdapterOf q keys) (map file_bytes passed) (map adapter_entry entries)
    → AllZip (IsAdapterOf q keys) (map file_bytes (passed ++ file ∷ [])) (map adapter_entry after)
requested_more q keys files passed file entries after name adapter at so_far distinct here put before =
    let rest : List AdapterFile = drop (suc (length passed)) files in
    let cut : files ≡ passed ++ file ∷ rest = cut_at files (length passed) file at.0
    ∙ (λ i. sym so_far i ++ sym at.1 i ∷ rest) ∙ ap (λ l. l ++ file ∷ rest) (map-id passed) in
    let named : first_parts (map file_bytes files) ≡ first_parts (map file_bytes passed) ++ file.name.now ∷ first_parts (map file_bytes rest) =
    ap (λ l. first_parts (map file_bytes l)) cut ∙ ap first_parts (map-append file_bytes passed (file ∷ rest))
    ∙ map-append (λ (p : List ℕ × List ℕ). p.0) (map file_bytes passed) (file_bytes file ∷ map file_bytes rest) in
    let fresh : Contains (map (λ (y : List ℕ × AdapterView). y.0) (map adapter_entry entries)) (string_bytes name) → ⊥ =
    λ has. fresh_after (first_parts (map file_bytes passed)) (first_parts (map file_bytes rest)) file.name.now (subst AreDistinct named distinct)
    (subst (Contains (first_parts (map file_bytes passed))) here.name
    (subst (λ (l : List (List ℕ)). Contains l (string_bytes name)) (same_names q keys (map file_bytes passed) (map adapter_entry entries) before) has)) in
    let grown = ap (map adapter_entry) (put ∙ insert_new entries name adapter fresh) ∙ map-append adapter_entry entries ((name, adapter) ∷ []) in
    subst (λ ys. AllZip (IsAdapterOf q keys) (map file_bytes (passed ++ file ∷ [])) ys) (sym grown)
    (subst (λ xs. AllZip (IsAdapterOf q keys) xs (map adapter_entry entries ++ adapter_entry (name, adapter) ∷ [])) (sym (map-append file_bytes passed (file ∷ [])))
    (zip_push (IsAdapterOf q keys) (map file_bytes passed) (map adapter_entry entries) (file_bytes file) (adapter_entry (name, adapter)) before here))

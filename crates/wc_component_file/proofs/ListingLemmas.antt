-- The lines of modules, and names each once, one after another.
use Rattle.std.proofs.Common.{◌≡◌, ◌≢◌, ℕ, ◌+◌, ◌<◌, Bool, true, false, cond, ◌||◌, List, [], ◌∷◌, ◌++◌, length, map, take, get_or, fold, refl, sym, ◌∙◌, ap, subst, append-nil, min, String, Global, string_bytes, Result, Ok, Err, IfOk, inl, inr}
use Rattle.std.proofs.lemmas.List.{map-append, take_min}
use Rattle.std.proofs.lemmas.List.Concat.{flat_map-append}
use Rattle.std.specs.Borrow.{Bor}
use Rattle.std.specs.Prelude.{⊤}
use Rattle.std.specs.List.{flat_map, list_any}
use Rattle.std.specs.Str.{bytes_eq}
use Rattle.indexmap.specs.IndexMap.{insert_entry}
use Rattle.indexmap.specs.IndexSet.{insert_key}
use Rattle.wc_maps.proofs.ListLemmas.{passed_more}
use Rattle.std.specs.declared.alloc.AllocError.{AllocError}
use Rattle.wc_read.specs.Fault.{SpellsNothing}
use Rattle.wc_read.specs.Imports.{ImportValue, import_value}
use Rattle.wc_read.specs.Modules.{ModuleValue, SpellsModule}
use Rattle.wc_read.specs.declared.fault.ReadFault.{ReadFault}
use Rattle.wc_read.specs.declared.fault.ReadFault.TheVariants.{Memory}
use Rattle.wc_read.specs.declared.types.Import.{Import}
use Rattle.wc_component_file.proofs.EachLemmas.{each_more}
use Rattle.wc_component_file.specs.Files.{CoreModuleView, core_module_view}
use Rattle.wc_component_file.specs.Listing.{AreLines, IsLineOf, each_once, import_modules, read_line, unread_line}
use Rattle.wc_component_file.specs.declared.file.CoreModule.{CoreModule}

abbrev IsLineAt : ℕ → CoreModuleView → List ℕ → Type 0
IsLineAt position core line = IsLineOf position core.bytes line

pub lines_more : (modules : List CoreModule) (k : ℕ) (d : CoreModule) (old new line : List ℕ) → k < length modules
    → AreLines (map core_module_view (take k modules)) old → IsLineOf k (get_or modules k d).bytes.now line → new ≡ old ++ line
    → AreLines (map core_module_view (take (k + 1) modules)) new
lines_more modules k d old new line lt are is put = (
  are.0 ++ line ∷ [],
  each_more IsLineAt core_module_view modules k d are.0 (are.0 ++ line ∷ []) line lt are.1 is refl,
  put ∙ (ap (λ t. t ++ line) are.2 ∙ sym (flat_map-append (λ l. l) are.0 (line ∷ []) ∙ ap (λ t. flat_map (λ (l : List ℕ). l) are.0 ++ t) (append-nil line))),
)

pub lines_first : (modules : List CoreModule) (k n : ℕ) (text : List ℕ) → k ≡ min n (length modules) → AreLines (map core_module_view (take k modules)) text
    → AreLines (map core_module_view (take n modules)) text
lines_first modules k n text is are =
    subst (λ l. AreLines (map core_module_view l) text) (ap (λ i. take i modules) is ∙ take_min n modules) are

-- ---- the line of a module that is read, or can't be read

pub line_ok : (position : ℕ) (bytes : List ℕ) (m : ModuleValue) (r : Result (String Global) AllocError) → SpellsModule bytes m
    → IfOk r (λ s. string_bytes s ≡ read_line position m) → IfOk r (λ s. IsLineOf position bytes (string_bytes s))
line_ok position bytes m (Ok s) spelled is = inl (m, spelled, is)
line_ok position bytes m (Err e) spelled is = tt

pub line_err : (position : ℕ) (bytes : List ℕ) (fault : ReadFault) (r : Result (String Global) AllocError) → (fault ≢ Memory → SpellsNothing SpellsModule bytes)
    → IfOk r (λ s. string_bytes s ≡ unread_line position fault) → IfOk r (λ s. fault ≢ Memory) → IfOk r (λ s. IsLineOf position bytes (string_bytes s))
line_err position bytes fault (Ok s) nothing is failed = inr (fault, failed, nothing failed, is)
line_err position bytes fault (Err e) nothing is failed = tt

-- ---- names, each once

abbrev pub Entry : Type 0
Entry = Bor (List ℕ) × ⊤

abbrev pub key : Entry → List ℕ
key e = e.0.now

name_first : (b c : Bool) (x k : List ℕ) (xs : List (List ℕ)) → cond b (x ∷ xs) (x ∷ cond c xs (xs ++ k ∷ [])) ≡ cond (b || c) (x ∷ xs) (x ∷ (xs ++ k ∷ []))
name_first true c x k xs = refl
name_first false true x k xs = refl
name_first false false x k xs = refl

mapped_cond : (b : Bool) (x y : List Entry) → map key (cond b x y) ≡ cond b (map key x) (map key y)
mapped_cond true x y = refl
mapped_cond false x y = refl

pub names_put : (entries : List Entry) (k : Bor (List ℕ)) (v : ⊤)
    → map key (insert_entry (λ a b. bytes_eq a.now b.now) entries k v) ≡ insert_key bytes_eq (map key entries) k.now
names_put [] k v = refl
names_put (e ∷ es) k v =
    mapped_cond (bytes_eq k.now e.0.now) ((e.0, v) ∷ es) (e ∷ insert_entry (λ a b. bytes_eq a.now b.now) es k v)
    ∙ (ap (λ l. cond (bytes_eq k.now e.0.now) (key e ∷ map key es) (key e ∷ l)) (names_put es k v)
    ∙ name_first (bytes_eq k.now e.0.now) (list_any (bytes_eq k.now) (map key es)) (key e) k.now (map key es))

fold_append : (names : List (List ℕ)) (start : List (List ℕ)) (x : List ℕ)
    → fold (insert_key bytes_eq) start (names ++ x ∷ []) ≡ insert_key bytes_eq (fold (insert_key bytes_eq) start names) x
fold_append [] start x = refl
fold_append (n ∷ names) start x = fold_append names (insert_key bytes_eq start n) x

pub once_more : (imports : List Import) (k : ℕ) (d : Import) (old new : List Entry) (v : ⊤) (name : Bor (List ℕ)) → k < length imports
    → name.now ≡ (get_or imports k d).module.now → map key old ≡ import_modules (map import_value (take k imports))
    → new ≡ insert_entry (λ a b. bytes_eq a.now b.now) old name v → map key new ≡ import_modules (map import_value (take (k + 1) imports))
once_more imports k d old new v name lt here is put =
    let front = map import_value (take k imports) in
    let last = import_value (get_or imports k d) in
    ap (map key) put
    ∙ (names_put old name v
    ∙ ((λ t. insert_key bytes_eq (is t) (here t))
    ∙ sym (ap import_modules (passed_more import_value imports k d lt) ∙ (ap each_once (map-append (λ (i : ImportValue). i.module_name) front (last ∷ []))
    ∙ fold_append (map (λ (i : ImportValue). i.module_name) front) [] last.module_name))))

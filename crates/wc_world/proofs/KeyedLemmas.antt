-- Lowerings and entries put into a map one after another.
use Rattle.std.proofs.Common.{◌≡◌, ◌≢◌, ℕ, List, [], ◌∷◌, ◌++◌, Bool, true, false, ◌&&◌, Option, Some, None, All, AllPairs, map, String, string_bytes, refl}
use Rattle.std.proofs.Common.{sym, ap, ◌∙◌, subst, append_assoc}
use Rattle.std.specs.Prelude.{if◌then◌else◌}
use Rattle.std.specs.Option.{option_eq, option_map}
use Rattle.std.specs.String.{string_eq}
use Rattle.std.specs.declared.alloc.Global.{Global}
use Rattle.std.proofs.lemmas.List.{map-append}
use Rattle.std.proofs.lemmas.List.Elements.{All-head, All-tail}
use Rattle.std.proofs.lemmas.Bool.{and_parts}
use Rattle.indexmap.specs.IndexMap.{insert_entry}
use Rattle.wc_resolve.specs.declared.functions.AbiVariant.{AbiVariant}
use Rattle.wc_resolve.specs.declared.functions.AbiVariant.TheVariants.{GuestImport, GuestExport, GuestImportAsync, GuestExportAsync, GuestExportAsyncStackful}
use Rattle.wc_resolve.specs.contracts.functions.AbiVariantPartialEq.TheImpl.{eq-value as abi_eq}
use Rattle.wc_resolve.proofs.KeyLemmas.{texts_law}
use Rattle.wc_maps.proofs.PairLemmas.{pairs_head, pairs_tail}
use Rattle.wc_world.specs.declared.imported.ImportedInterface.{ImportedInterface}
use Rattle.wc_world.specs.declared.imported.Lowering.{Lowering}
use Rattle.wc_world.specs.Lowering.{AreEntriesDistinct, AreKeysDistinct, KeyedLowering}
use Rattle.wc_world.specs.Views.{LoweringKey}
use Rattle.wc_world.specs.WorldViews.{imported_entry, imported_view, lowering_entry, lowering_view}
use Rattle.wc_world.proofs.PairListLemmas.{pairs_front}

abbrev pub RawLowering : Type 0
RawLowering = (String Global × AbiVariant) × Lowering

abbrev pub RawImport : Type 0
RawImport = Option (String Global) × ImportedInterface

-- an entry whose key no other has goes last
module _ {K V A B : Type 0} (key : K → A) (value : V → B) (eq : K → K → Bool) (law : (a b : K) → eq a b ≡ true → key a ≡ key b) (x : K × V) where
  abbrev view : K × V → A × B
  view e = (key e.0, value e.1)

  abbrev Differ : A × B → A × B → Type 0
  Differ a b = a.0 ≢ b.0

  at_last : (P : A × B → Type 0) (es : List (K × V)) → All P (map view (es ++ x ∷ [])) → P (view x)
  at_last P [] h = All-head P (view x) [] h
  at_last P (e ∷ es) h = at_last P es (All-tail P (view e) (map view (es ++ x ∷ [])) h)

  at : (e : K × V) (es : List (K × V)) (b : Bool) → (b ≡ true → ⊥) → insert_entry eq es x.0 x.1 ≡ es ++ x ∷ []
      → (if b then (e.0, x.1) ∷ es else e ∷ insert_entry eq es x.0 x.1) ≡ e ∷ (es ++ x ∷ [])
  at e es true never later = absurd (never refl)
  at e es false never later = ap (λ z. e ∷ z) later

  pub put_last : (es : List (K × V)) → AllPairs Differ (map view (es ++ x ∷ [])) → insert_entry eq es x.0 x.1 ≡ es ++ x ∷ []
  put_last [] h = refl
  put_last (e ∷ es) h =
      at e es (eq x.0 e.0) (λ same. at_last (Differ (view e)) es (pairs_head Differ (view e) (map view (es ++ x ∷ [])) h) (sym (law x.0 e.0 same)))
      (put_last es (pairs_tail Differ (view e) (map view (es ++ x ∷ [])) h))

-- lowerings

-- a test that says only of equal keys that they are equal
abbrev pub SaysEqual : (String Global × AbiVariant → String Global × AbiVariant → Bool) → Type 0
SaysEqual eq = (a b : String Global × AbiVariant) → eq a b ≡ true → ◌≡◌ {A = LoweringKey} (string_bytes a.0, a.1) (string_bytes b.0, b.1)

pub put_next : (eq : String Global × AbiVariant → String Global × AbiVariant → Bool) → SaysEqual eq
    → (all left rest old new : List RawLowering) (x : RawLowering) → AreKeysDistinct (map lowering_entry all) → left ≡ x ∷ rest
    → new ≡ insert_entry eq old x.0 x.1 → old ++ left ≡ all → new ++ rest ≡ all
put_next eq law all left rest old new x distinct is put same =
    let split : (old ++ x ∷ []) ++ rest ≡ all = append_assoc old (x ∷ []) rest ∙ (ap (λ z. old ++ z) (sym is) ∙ same) in
    let keys_distinct : AreKeysDistinct (map lowering_entry (old ++ x ∷ [])) =
    pairs_front (λ (a b : KeyedLowering). a.0 ≢ b.0) (map lowering_entry (old ++ x ∷ [])) (map lowering_entry rest)
    (subst AreKeysDistinct (sym (ap (map lowering_entry) split) ∙ map-append lowering_entry (old ++ x ∷ []) rest) distinct) in
    ap (λ z. z ++ rest) (put ∙ put_last (λ (k : String Global × AbiVariant). (string_bytes k.0, k.1)) lowering_view eq law x old keys_distinct) ∙ split

-- names of imported interfaces
names_law : (a b : Option (String Global)) → option_eq string_eq a b ≡ true → option_map string_bytes a ≡ option_map string_bytes b
names_law None None h = refl
names_law None (Some b) h = absurd (let bad : ⊥ = cc h in bad)
names_law (Some a) None h = absurd (let bad : ⊥ = cc h in bad)
names_law (Some a) (Some b) h = ap (λ (n : List ℕ). Some n) ((texts_law a b).0 h)

pub entry_put : (old new : List RawImport) (x : RawImport) → new ≡ insert_entry (option_eq string_eq) old x.0 x.1
    → AreEntriesDistinct (map imported_entry old ++ imported_entry x ∷ []) → map imported_entry new ≡ map imported_entry old ++ imported_entry x ∷ []
entry_put old new x put distinct =
    let pushed : map imported_entry (old ++ x ∷ []) ≡ map imported_entry old ++ imported_entry x ∷ [] = map-append imported_entry old (x ∷ []) in
    ap (map imported_entry) (put ∙ put_last (option_map string_bytes) imported_view (option_eq string_eq) names_law x old
    (subst AreEntriesDistinct (sym pushed) distinct)) ∙ pushed

abi_law : (a b : AbiVariant) → abi_eq.it a b ≡ true → a ≡ b
abi_law GuestImport GuestImport h = refl
abi_law GuestExport GuestExport h = refl
abi_law GuestImportAsync GuestImportAsync h = refl
abi_law GuestExportAsync GuestExportAsync h = refl
abi_law GuestExportAsyncStackful GuestExportAsyncStackful h = refl
abi_law a b h = absurd (let bad : ⊥ = cc h in bad)

abbrev pub same_key : String Global × AbiVariant → String Global × AbiVariant → Bool
same_key a b = string_eq a.0 b.0 && abi_eq.it a.1 b.1

pub key_law : SaysEqual same_key
key_law a b h =
    let both = and_parts (string_eq a.0 b.0) (abi_eq.it a.1 b.1) h in
    ap (λ n. (n, a.1)) ((texts_law a.0 b.0).0 both.0) ∙ ap (λ z. (string_bytes b.0, z)) (abi_law a.1 b.1 both.1)

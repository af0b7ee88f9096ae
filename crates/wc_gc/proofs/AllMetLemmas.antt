-- Where as many exports are kept as names are required, each of these is exported.
use Rattle.std.proofs.Common.{◌≡◌, ◌≢◌, ℕ, List, [], ◌∷◌, length, refl, sym, ◌∙◌, subst, Bool, true, false, None, arith}
use Rattle.std.specs.Prelude.{All, AllPairs, Contains}
use Rattle.std.specs.List.{AllByRecursion, IsDistinct, list_any}
use Rattle.std.specs.Str.{bytes_eq}
use Rattle.std.proofs.lemmas.Bool.{false≢true}
use Rattle.std.proofs.lemmas.Cmp.{nat_list_eq_equiv}
use Rattle.std.proofs.lemmas.List.{length-map}
use Rattle.std.proofs.lemmas.List.Elements.{All-contains, All-contains_itself, All-map, All-weaker, recursion_from_All}
use Rattle.std.proofs.lemmas.Map.Made.{IsDistinct-from_AllPairs, length-le_from_is_member}
use Rattle.std.proofs.lemmas.Map.Views.{Contains-from_any, list_any-from_Contains}
use Rattle.std.proofs.lemmas.Slice.Eq.{bytes_eq-Decides}
use Rattle.wc_read.specs.Exports.{ExportValue}
use Rattle.wc_gc.specs.Exports.{export_names, is_exported, kept_exports, missing_name}
use Rattle.wc_gc.proofs.ChainLemmas.{same_names as equal}
use Rattle.wc_gc.proofs.ExportLemmas.{all_kept, differ as tests}
use Rattle.wc_gc.proofs.KeptExportLemmas.{names_of_pairs, pairs_kept, pairs_named}
use Rattle.wc_graph.proofs.ListLemmas.{contains_mapped}
use Rattle.wc_gc.proofs.KeptOrderLemmas.{Differ, flip}
use Rattle.wc_gc.proofs.RequiredExportLemmas.{kept_required}

named_there : (es : List ExportValue) (y : ExportValue) → Contains es y → is_exported es y.name ≡ true
named_there es y c = list_any-from_Contains nat_list_eq_equiv y.name (export_names es) (contains_mapped (λ (e : ExportValue). e.name) es y c)

none_of : (es : List ExportValue) (names : List (List ℕ)) → AllByRecursion (λ x. is_exported es x ≡ true) names → missing_name es names ≡ None
none_of es [] h = refl
none_of es (x ∷ names) h = rw h.0 (none_of es names h.1)

module _ (required : List (List ℕ)) (es : List ExportValue) (pairs : AllPairs (λ x y. x ≢ y) (export_names es))
    (many : length (kept_exports required es) ≡ length required) where
  abbrev kept : List ExportValue
  kept = kept_exports required es

  differ : AllPairs Differ es
  differ = pairs_named (λ (e : ExportValue). e.name) es pairs

  each_required : All (λ x. Contains required x) (export_names kept)
  each_required =
      All-map (λ x. Contains required x) (λ (e : ExportValue). e.name) kept
      (All-weaker (Contains kept) (λ (y : ExportValue). Contains required y.name) (λ y c. kept_required required es differ y c) kept (All-contains_itself kept))

  distinct : (x : List ℕ) → AllByRecursion (λ y. bytes_eq x y ≡ false) (export_names kept) → IsDistinct bytes_eq (x ∷ export_names kept)
  unfolding IsDistinct
  distinct x h =
      (h, IsDistinct-from_AllPairs bytes_eq-Decides (export_names kept) (names_of_pairs (λ (e : ExportValue). e.name) kept (pairs_kept Differ flip required es differ)))

  member : (x : List ℕ) → Contains required x → (q : List ℕ) → list_any (bytes_eq q) (x ∷ export_names kept) ≡ true → list_any (bytes_eq q) required ≡ true
  member x c q h = by (bytes_eq q x) refl
    where
      by : (b : Bool) → bytes_eq q x ≡ b → list_any (bytes_eq q) required ≡ true
      by true e = list_any-from_Contains nat_list_eq_equiv q required (subst (Contains required) (sym (equal q x e)) c)
      by false e =
          let there : list_any (bytes_eq q) (export_names kept) ≡ true = rw e at h in
          list_any-from_Contains nat_list_eq_equiv q required
          (All-contains (λ z. Contains required z) (export_names kept) q each_required (Contains-from_any equal q (export_names kept) there))

  met : (x : List ℕ) → Contains required x → is_exported es x ≡ true
  met x c = by (is_exported es x) refl
    where
      by : (b : Bool) → is_exported es x ≡ b → is_exported es x ≡ true
      by true e = e
      by false e =
          let apart : All (λ (y : ExportValue). y.name ≢ x) es =
          All-weaker (Contains es) (λ (y : ExportValue). y.name ≢ x)
          (λ y there same. false≢true (sym e ∙ subst (λ z. is_exported es z ≡ true) same (named_there es y there))) es (All-contains_itself es) in
          let others = All-map (λ y. bytes_eq x y ≡ false) (λ (v : ExportValue). v.name) kept
          (All-weaker (λ (y : ExportValue). y.name ≢ x) (λ (y : ExportValue). bytes_eq x y.name ≡ false)
          (λ y n. tests x y.name (λ same. n (sym same))) kept (all_kept (λ y. y.name ≢ x) required es apart)) in
          let le = length-le_from_is_member nat_list_eq_equiv (x ∷ export_names kept) required
          (distinct x (recursion_from_All (λ y. bytes_eq x y ≡ false) (export_names kept) others)) (member x c) in
          let l = length-map kept (λ (v : ExportValue). v.name) in
          absurd (omega (arith, le, l, many))

  pub none_missing : missing_name es required ≡ None
  none_missing = none_of es required (recursion_from_All (λ x. is_exported es x ≡ true) required
      (All-weaker (Contains required) (λ x. is_exported es x ≡ true) met required (All-contains_itself required)))

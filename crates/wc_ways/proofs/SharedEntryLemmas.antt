-- What modules import of an interface is noted under another name.
use Rattle.std.proofs.Common.{◌≡◌, ℕ, Bool, true, false, cond, List, [], ◌∷◌, ◌++◌, map, Option, Some, None, is_some, String, string_bytes, Global, true≢false, refl, sym, ◌∙◌, ap, subst, append-nil}
use Rattle.std.specs.Prelude.{unwrap_or}
use Rattle.std.specs.Borrow.{Bor}
use Rattle.std.specs.Map.{lookup}
use Rattle.std.specs.Option.{option_and_then, option_copied, option_map}
use Rattle.std.specs.Str.{bytes_eq}
use Rattle.std.proofs.lemmas.Map.Made.{is_some-lookup}
use Rattle.std.proofs.lemmas.Slice.Eq.{bytes_eq-Decides}
use Rattle.wc_maps.proofs.LookupLemmas.{name_viewed}
use Rattle.wc_texts.specs.Names.{first_occurrences}
use Rattle.wc_summary.specs.Entries.{EntriesView, IsChanged, IsPlace, entries_view, no_parts, parts_of}
use Rattle.wc_summary.specs.Summary.{AdapterPartView, MainPartView, PartsView, part_view, parts_view}
use Rattle.wc_summary.specs.declared.summary.AdapterPart.{AdapterPart}
use Rattle.wc_summary.specs.declared.summary.Entry.{Entry}
use Rattle.wc_summary.specs.declared.summary.MainPart.{MainPart}
use Rattle.wc_world.specs.Views.{ComponentWorldView, ImportedView}
use Rattle.wc_ways.specs.Imports.{first_name, with_modules}
use Rattle.wc_ways.specs.Private.SummaryShared.{IsCleared, Shares, SharesFirst, SharesImport, modules_in}
use Rattle.wc_ways.proofs.RecordLemmas.{viewed_found}

-- an entry that was looked up
pub entry_found : (es : List (String Global × Entry)) (name : List ℕ) (r : Option (Bor Entry)) → option_copied r ≡ lookup (λ k. bytes_eq name (string_bytes k)) es
    → lookup (bytes_eq name) (entries_view es) ≡ option_map (λ (x : Bor Entry). parts_view x.now) r
entry_found es name r at = viewed_found parts_view es (entries_view es) name r refl at

-- and one that isn't there
not_some : {X : Type 0} (o : Option X) → is_some o ≡ false → o ≡ None
not_some None off = refl
not_some (Some x) off = absurd (true≢false off)

pub entry_absent : (es : List (String Global × Entry)) (name : List ℕ) → is_some (lookup (λ k. bytes_eq name (string_bytes k)) es) ≡ false → lookup (bytes_eq name) (entries_view es) ≡ None
entry_absent es name off =
    sym (name_viewed parts_view es name) ∙ ap (option_map parts_view) (not_some (lookup (λ k. bytes_eq name (string_bytes k)) es) off)

abbrev with_both : MainPartView → List AdapterPartView → PartsView → PartsView
with_both main adapters p = record { main = main; adapters = adapters; types = p.types }

-- it is noted under another name, which is listed
pub shared_set : (from to : List ℕ) (place : ℕ) (old mid new : EntriesView) (p given : PartsView) → lookup (bytes_eq from) old ≡ Some p → IsPlace to place old mid
    → IsChanged (with_modules given) place mid new → given.main ≡ p.main → given.adapters ≡ p.adapters → Shares from to old new
shared_set from to place old mid new p given found i c main adapters =
    let there = sym (is_some-lookup (bytes_eq from) old) ∙ ap is_some found in
    let is : parts_of old from ≡ p = ap (λ o. unwrap_or o no_parts) found in
    record {
      listed = λ before h. c.listed ∙ (i.listed before h ∙ ap (λ b. first_occurrences (before ++ cond b (to ∷ []) [])) (sym there));
      each = λ name. c.each to name i.at
          ∙ ((λ k. cond (bytes_eq name to) (with_both (main k) (adapters k) (i.same name k)) (i.same name k))
          ∙ ap (λ (z : PartsView). cond (bytes_eq name to) (with_modules z (parts_of old name)) (parts_of old name)) (sym is));
    }

-- nothing is, where that isn't listed
pub shared_none : (from to : List ℕ) (old new : EntriesView) → lookup (bytes_eq from) old ≡ None → IsCleared to old new → Shares from to old new
shared_none from to old new none c =
    let absent = sym (is_some-lookup (bytes_eq from) old) ∙ ap is_some none in
    record {
      listed = λ before h. c.listed ∙ (h ∙ (ap first_occurrences (sym (append-nil before)) ∙ ap (λ b. first_occurrences (before ++ cond b (to ∷ []) [])) (sym absent)));
      each = λ name. c.each name
          ∙ ap (λ o. cond (bytes_eq name to) (with_modules (unwrap_or o no_parts) (parts_of old name)) (parts_of old name)) (sym none);
    }

pub cleared_at : (to : List ℕ) (place : ℕ) (old new : EntriesView) (main : MainPart) (parts : List AdapterPart) → IsPlace to place old old
    → IsChanged (with_modules (modules_in main parts)) place old new → main.imports ≡ 0 → main.by.items ≡ [] → parts ≡ [] → IsCleared to old new
cleared_at to place old new main parts i c none nobody nothing = record {
  listed = c.listed;
  each = λ name. c.each to name i.at
      ∙ (λ k. cond (bytes_eq name to) (with_both (record { imports = none k; by = nobody k }) (map part_view (nothing k)) (parts_of old name)) (parts_of old name));
}

same_choice : (b : Bool) (m p : PartsView) → (b ≡ true → p ≡ m) → p ≡ cond b m p
same_choice true m p h = h refl
same_choice false m p h = refl

pub cleared_past : (to : List ℕ) (old : EntriesView) → lookup (bytes_eq to) old ≡ None → IsCleared to old old
cleared_past to old none = record {
  listed = refl;
  each = λ name. same_choice (bytes_eq name to) (with_modules no_parts (parts_of old name)) (parts_of old name) (nothing name);
}
  where
    nothing : (name : List ℕ) → bytes_eq name to ≡ true → parts_of old name ≡ with_modules no_parts (parts_of old name)
    nothing name on =
        let is : parts_of old name ≡ no_parts = ap (parts_of old) ((bytes_eq-Decides name to).0 on) ∙ ap (λ o. unwrap_or o no_parts) none in
        is ∙ ap (with_modules no_parts) (sym is)

-- ---- by the import of the world that has a name

module _ (w : ComponentWorldView) (x : Option (List ℕ) × ImportedView) (old : EntriesView) where
  pub import_unnamed : x.0 ≡ None → SharesImport w x old old
  import_unnamed e = subst (λ (n : Option (List ℕ)). SharesImport w (n, x.1) old old) (sym e) refl

  none_by : (n : Option (List ℕ)) → option_and_then (first_name w) x.1.interface ≡ None → SharesImport w (n, x.1) old old
  none_by None e = refl
  none_by (Some name) e = subst (λ (o : Option (List ℕ)). SharesFirst o name old old) (sym e) refl

  pub import_none : x.1.interface ≡ None → SharesImport w x old old
  import_none e = none_by x.0 (ap (option_and_then (first_name w)) e)

  pub import_shared : (new : EntriesView) (name : List ℕ) (i : ℕ) → x.0 ≡ Some name → x.1.interface ≡ Some i → SharesFirst (first_name w i) name old new → SharesImport w x old new
  import_shared new name i named at s =
      subst (λ (n : Option (List ℕ)). SharesImport w (n, x.1) old new) (sym named)
      (subst (λ (o : Option (List ℕ)). SharesFirst o name old new) (sym (ap (option_and_then (first_name w)) at)) s)

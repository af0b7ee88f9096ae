-- The parts of a component, by its modules.
use Rattle.std.proofs.Common.{◌≡◌, ℕ, ◌+◌, ◌<◌, Bool, true, false, List, [], ◌∷◌, ◌++◌, Option, Some, None, length, map, take, get_or, is_some, option_map, refl, sym, ap, ◌∙◌, subst}
use Rattle.std.specs.List.{slice_get}
use Rattle.std.specs.Prelude.{MatchBool, MatchOption}
use Rattle.std.specs.Option.{option_and_then}
use Rattle.wc_paths.specs.Counts.{counts_value}
use Rattle.wc_paths.specs.Roots.{AreImportItems}
use Rattle.wc_paths.specs.declared.items.PathItem.{PathItem}
use Rattle.wc_read.specs.Imports.{import_value, import_values}
use Rattle.wc_read.specs.declared.types.Import.{Import}
use Rattle.wc_world.specs.WorldViews.{world_view}
use Rattle.std.proofs.lemmas.List.{length-map, length_push, take_more}
use Rattle.std.proofs.lemmas.Option.{same_Some, slice_get-map}
use Rattle.wc_adapters.specs.Adapters.{LibraryView}
use Rattle.wc_why.specs.Part.{LinkView, PartView}
use Rattle.wc_import_paths.specs.MainModules.{IsMainPart, bytes_in, code_of, main_view}
use Rattle.wc_import_paths.specs.Parts.{IsAdapterPart, IsLibraryPart}
use Rattle.wc_read.specs.Exports.{ExportValue}
use Rattle.wc_read.specs.Modules.{ModuleValue}
use Rattle.wc_validate.specs.Validate.{ModuleRecord, module_record}
use Rattle.wc_world.specs.Views.{ComponentWorldView, NamedWorldAdapter}
use Rattle.wc_ways.specs.Parts.{AreParts, IsPartBy, IsPartIn, always_of, bytes_of, counts_in, exported_number, link_at, link_of, linked_at, linked_in, links_of, with_links}
use Rattle.wc_ways.specs.Private.Modules.{AreModulesOf, IsAdapterModule, IsModuleWith, code_in, codes_in}
use Rattle.wc_ways.specs.Private.Parts.{AreAdapterParts, IsPartOfModule, link_with}
use Rattle.wc_ways.specs.declared.parts.Linking.{Linking}
use Rattle.wc_ways.specs.declared.modules.AdapterModule.{AdapterModule}
use Rattle.wc_ways.specs.declared.modules.Modules.{Modules}
use Rattle.wc_ways.proofs.FoundLemmas.{import_read, item_read}
use Rattle.wc_ways.proofs.LoopLemmas.{pair_more, pair_none}

-- ---- an adapter or a library

module _ (a : AdapterModule) (p : PartView) where
  abbrev IsOfLibrary : Type 0
  IsOfLibrary = IsLibraryPart a.name.now (code_in a) a.bytes.now p

  abbrev IsOfAdapter : List ExportValue → Type 0
  IsOfAdapter always = IsAdapterPart a.name.now (code_in a) a.bytes.now always p

  abbrev recorded : List ExportValue
  recorded = always_of (module_record a.info.now) (code_in a)

  pub part_trimmed : a.is_library ≡ false → (always : List ExportValue) → always ≡ recorded → IsOfAdapter always → IsPartOfModule a p
  part_trimmed e always same h = subst (λ (b : Bool). MatchBool b IsOfLibrary (IsOfAdapter recorded)) (sym e) (subst IsOfAdapter same h)

module _ (y : NamedWorldAdapter) (a : AdapterModule) (p : PartView) (bytes : List ℕ) (is : IsModuleWith y bytes a) where
  as_adapter : IsAdapterPart a.name.now (code_in a) a.bytes.now (always_of (module_record a.info.now) (code_in a)) p → IsAdapterPart y.0 (code_in a) bytes (always_of y.1.info (code_in a)) p
  as_adapter h =
      subst (λ (n : List ℕ). IsAdapterPart n (code_in a) bytes (always_of y.1.info (code_in a)) p) is.name
      (subst (λ (b : List ℕ). IsAdapterPart a.name.now (code_in a) b (always_of y.1.info (code_in a)) p) is.bytes
      (subst (λ (r : ModuleRecord). IsAdapterPart a.name.now (code_in a) a.bytes.now (always_of r (code_in a)) p) is.info h))

  as_library : IsLibraryPart a.name.now (code_in a) a.bytes.now p → IsLibraryPart y.0 (code_in a) bytes p
  as_library h =
      subst (λ (n : List ℕ). IsLibraryPart n (code_in a) bytes p) is.name
      (subst (λ (b : List ℕ). IsLibraryPart a.name.now (code_in a) b p) is.bytes h)

  part_by : (o : Option LibraryView) (b : Bool) → b ≡ is_some o
      → MatchBool b (IsLibraryPart a.name.now (code_in a) a.bytes.now p) (IsAdapterPart a.name.now (code_in a) a.bytes.now (always_of (module_record a.info.now) (code_in a)) p)
      → MatchOption o (IsAdapterPart y.0 (code_in a) bytes (always_of y.1.info (code_in a)) p) (λ (l : LibraryView). IsLibraryPart y.0 (code_in a) bytes p)
  part_by None false e h = as_adapter h
  part_by (Some l) true e h = as_library h
  part_by None true e h = absurd (let bad : true ≡ false = e in cc)
  part_by (Some l) false e h = absurd (let bad : false ≡ true = e in cc)

  pub part_with : IsPartOfModule a p → IsPartBy y (code_in a) bytes p
  part_with h = part_by y.1.library_info a.is_library is.library h

pub part_in : (w : ComponentWorldView) (y : NamedWorldAdapter) (a : AdapterModule) (p : PartView) → IsAdapterModule w y a → IsPartOfModule a p → IsPartIn w y (code_in a) p
part_in w y a p is h = record { spelled = is.spelled; is = part_with y a p (bytes_of w y) is h }

-- ---- all parts

view_at : (adapters : List AdapterModule) (k : ℕ) (m : ModuleValue) → slice_get (map code_in adapters) k ≡ Some m → (a : AdapterModule) × (slice_get adapters k ≡ Some a) × (m ≡ code_in a)
view_at adapters k m e = by (slice_get adapters k) refl
  where
    by : (o : Option AdapterModule) → slice_get adapters k ≡ o → (a : AdapterModule) × (slice_get adapters k ≡ Some a) × (m ≡ code_in a)
    by (Some a) at = (a, at, same_Some m (code_in a) (sym e ∙ (slice_get-map code_in adapters k ∙ ap (option_map code_in) at)))
    by None at = absurd (let bad : Some m ≡ None = sym e ∙ (slice_get-map code_in adapters k ∙ ap (option_map code_in) at) in cc)

module _ (w : ComponentWorldView) (m : Modules) (are : AreModulesOf w m) (first : PartView) (others : List PartView) where
  pub all_parts : IsMainPart (bytes_in m.main) (main_view m.main) first → AreAdapterParts m.adapters.items others → (parts : List PartView) (links : List LinkView)
      → links ≡ links_of w (codes_in m) (counts_in (main_view m.main)) (code_of (main_view m.main)).imports → parts ≡ with_links links first ∷ others
      → AreParts w (main_view m.main) (codes_in m) parts
  all_parts is_main rest parts links is made = record {
    is_main = are.main.is_main;
    first = first;
    is_first = subst (λ (b : List ℕ). IsMainPart b (main_view m.main) first) are.main.spelled is_main;
    others = others;
    each_module = length-map m.adapters.items code_in ∙ are.adapters.each;
    each_part = rest.each ∙ are.adapters.each;
    at = λ k y v p at_y at_m at_p.
        let (a, at_a, same) = view_at m.adapters.items k v at_m in
        subst (λ (z : ModuleValue). IsPartIn w y z p) (sym same) (part_in w y a p (are.adapters.at k y a at_y at_a) (rest.at k a p at_a at_p));
    are = made ∙ ap (λ (l : List LinkView). with_links l first ∷ others) is;
  }

-- ---- links

pub linked_one : (ms : List ModuleValue) (func : List ℕ) (k : ℕ) (m : ModuleValue) (o : Option ℕ) → Some m ≡ slice_get ms k → o ≡ exported_number m func
    → option_map (λ (n : ℕ). (k + 1, (n, func))) o ≡ linked_at ms func k
linked_one ms func k m o at is =
    ap (option_map (λ (n : ℕ). (k + 1, (n, func)))) is ∙ ap (option_and_then (λ (v : ModuleValue). linked_in v k func)) at

pub link_read : (l : Linking) (imports : List Import) (items : List PathItem) (k : ℕ) (d : Import) (e : PathItem) → AreImportItems (import_values imports) items → k < length imports
    → link_with l (import_value (get_or imports k d)) (get_or items k e)
    ≡ link_at (world_view l.world.now) (codes_in l.modules.now) (counts_value l.rows.now.counts) (import_values imports) k
link_read l imports items k d e are lt =
    ap (λ (x : PathItem). link_with l (import_value (get_or imports k d)) x) (item_read imports items k are lt d (get_or items k e) e refl)
    ∙ ap (option_and_then (link_of (world_view l.world.now) (codes_in l.modules.now) (counts_value l.rows.now.counts) (import_values imports) k))
    (sym (import_read imports items k are lt d))

-- ---- adapters one after another

pub parts_none : (parts : List PartView) → parts ≡ [] → AreAdapterParts [] parts
parts_none parts none = subst (AreAdapterParts []) (sym none) (record { each = refl; at = pair_none IsPartOfModule })

pub parts_next : (adapters : List AdapterModule) (k : ℕ) (d a : AdapterModule) (old new : List PartView) (p : PartView) → k < length adapters → a ≡ get_or adapters k d
    → IsPartOfModule a p → new ≡ old ++ p ∷ [] → AreAdapterParts (take k adapters) old → AreAdapterParts (take (k + 1) adapters) new
parts_next adapters k d a old new p lt at is put h =
    let one : take (k + 1) adapters ≡ take k adapters ++ a ∷ [] = take_more adapters k d lt ∙ ap (λ (z : AdapterModule). take k adapters ++ z ∷ []) (sym at) in
    subst (λ (z : List AdapterModule). AreAdapterParts z new) (sym one)
    (subst (AreAdapterParts (take k adapters ++ a ∷ [])) (sym put) (record {
      each = length_push old p ∙ (ap (λ n. n + 1) h.each ∙ sym (length_push (take k adapters) a));
      at = pair_more IsPartOfModule (take k adapters) old a p h.each h.at is;
    }))

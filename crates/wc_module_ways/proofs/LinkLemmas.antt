-- Links, when they are put one after another.
use Rattle.std.proofs.Common.{◌≡◌, ℕ, ◌+◌, ◌<◌, ◌≤◌, Bool, true, false, cond, All, List, [], ◌++◌, length, map, get_or, Option, Some, None, option_map, refl, sym, ◌∙◌, ap, subst, inl, inr, arith}
use Rattle.std.proofs.lemmas.Bool.{and_from, and_parts, cases_lt}
use Rattle.std.proofs.lemmas.List.{map-append}
use Rattle.std.proofs.lemmas.List.Elements.{All-append, All-cons, All-nil, Contains-append_left, Contains-append_right}
use Rattle.std.proofs.lemmas.Option.{get_or_from_slice_get, same_Some, slice_get-get_or, slice_get_within}
use Rattle.std.specs.List.{slice_get}
use Rattle.std.specs.Option.{option_and_then, option_map_or, option_to_list}
use Rattle.std.specs.Prelude.{◌&&◌, Contains}
use Rattle.wc_read.specs.Exports.{ExportValue}
use Rattle.wc_read.specs.Imports.{ImportValue, import_value, import_values}
use Rattle.wc_read.specs.declared.types.Import.{Import}
use Rattle.wc_paths.specs.Items.{CountsValue, has_item}
use Rattle.wc_paths.specs.Numbers.{number_of}
use Rattle.wc_paths.specs.Roots.{AreImportItems, import_item}
use Rattle.wc_paths.specs.declared.items.PathItem.{PathItem}
use Rattle.wc_why.specs.Part.{LinkView}
use Rattle.wc_maps.proofs.ListLemmas.{contains_head}
use Rattle.wc_import_paths.proofs.ShownLemmas.{at_view}
use Rattle.wc_component_file.specs.Renamed.{original_import_name}
use Rattle.wc_module_ways.specs.Servers.{ServerView}
use Rattle.wc_module_ways.specs.Names.{is_function}
use Rattle.wc_module_ways.specs.Parts.{AreLinks, IsFoundAs, IsLink, IsServed, IsServing}
use Rattle.wc_module_ways.specs.Private.Places.{ArePlaces, Found, IsPlace, Key, Places, found_at, found_place, link_of, link_to, named_place, place_of}

-- what is found of a name, and what that says

module _ (servers : List ServerView) (places : Places) (are : ArePlaces servers places) (from : List ℕ) where
  abbrev key : List ℕ → Key
  key name = (record { ref_ptr = (0, 0); now = from }, record { ref_ptr = (0, 0); now = name })

  not_serving : (name : List ℕ) → place_of places from name ≡ None → (index : ℕ) (v : ServerView) (e : ExportValue)
      → ¬ (IsServing servers from name index v e)
  not_serving name none index v e is =
      are.missing (key name) none index is.export.0 v e (inl (slice_get_within servers index v is.server)) is.server
      (slice_get-get_or v.exports is.export.0 e is.export.1 ∙ ap Some is.export.2) (is.of_name, is.named, is.there)

  -- a place that was found
  module _ (name : List ℕ) where
    abbrev IsIt : Found → Type 0
    IsIt f = IsPlace servers from f.export f.place × IsFoundAs servers from name f.export

    original_by : place_of places from name ≡ None → (n : List ℕ) → original_import_name name ≡ Some n → (o : Option (ℕ × ℕ)) → place_of places from n ≡ o
        → (f : Found) → option_map (found_at n) o ≡ Some f → IsIt f
    original_by none n is (Some p) there f e =
        subst IsIt (same_Some (found_at n p) f e) (are.there (key n) p there, inr (not_serving name none, is))
    original_by none n is None there f e = let bad : None ≡ Some f = e in absurd cc

    pub found_by : (o : Option (ℕ × ℕ)) → place_of places from name ≡ o → (other : Option (List ℕ)) → original_import_name name ≡ other → (f : Found)
        → option_map_or (λ (p : ℕ × ℕ). Some (found_at name p)) o (option_and_then (named_place places from) other) ≡ Some f → IsIt f
    found_by (Some p) there other is f e = subst IsIt (same_Some (found_at name p) f e) (are.there (key name) p there, inl refl)
    found_by None none (Some n) is f e = original_by none n is (place_of places from n) refl f e
    found_by None none None is f e = let bad : None ≡ Some f = e in absurd cc

  -- none was found
  named_none : (n : List ℕ) (o : Option (ℕ × ℕ)) → place_of places from n ≡ o → option_map (found_at n) o ≡ None → place_of places from n ≡ None
  named_none n (Some p) there e = let bad : Some (found_at n p) ≡ None = e in absurd cc
  named_none n None there e = there

  abbrev AreNone : List ℕ → Option (List ℕ) → Type 0
  AreNone name other = (place_of places from name ≡ None) × ((n : List ℕ) → other ≡ Some n → place_of places from n ≡ None)

  pub none_by : (name : List ℕ) (o : Option (ℕ × ℕ)) → place_of places from name ≡ o → (other : Option (List ℕ)) → original_import_name name ≡ other
      → option_map_or (λ (p : ℕ × ℕ). Some (found_at name p)) o (option_and_then (named_place places from) other) ≡ None → AreNone name other
  none_by name (Some p) there other is e = let bad : Some (found_at name p) ≡ None = e in absurd cc
  none_by name None none other is e =
      (none, λ n same. named_none n (place_of places from n) refl (sym (ap (option_and_then (named_place places from)) same) ∙ e))

  pub not_found : (name : List ℕ) (index : ℕ) (v : ServerView) (e : ExportValue) → IsFoundAs servers from name e.name
      → IsServing servers from e.name index v e → ¬ (AreNone name (original_import_name name))
  not_found name index v e (inl same) s none = not_serving e.name (ap (place_of places from) same ∙ none.0) index v e s
  not_found name index v e (inr other) s none = not_serving e.name (none.1 e.name other.1) index v e s

-- links of the imports at positions below n
pub record HasLinksTo (imports : List ImportValue) (c : CountsValue) (servers : List ServerView) (n : ℕ) (links : List LinkView) : Type 0 where
  pub each : All (IsLink imports c servers) links
  pub all : (k : ℕ) (i : ImportValue) (index : ℕ) (v : ServerView) (e : ExportValue) → k < n → slice_get imports k ≡ Some i → IsServed servers i index v e
      → has_item c (import_item imports k i) ≡ true → Contains (map (λ (l : LinkView). l.item) links) (number_of c (import_item imports k i))

module _ (imports : List ImportValue) (c : CountsValue) (servers : List ServerView) (places : Places) (are : ArePlaces servers places) where
  pub no_links : (links : List LinkView) → links ≡ [] → HasLinksTo imports c servers 0 links
  no_links links none = record {
    each = subst (All (IsLink imports c servers)) (sym none) (All-nil (IsLink imports c servers));
    all = λ k i index v e lt. absurd (omega (arith, lt));
  }

  -- one import more
  module _ (k : ℕ) (i : ImportValue) (at : slice_get imports k ≡ Some i) where
    abbrev x : PathItem
    x = import_item imports k i

    abbrev put_by : (b : Bool) → Option Found → List LinkView
    put_by b o = option_to_list (cond b (option_map (link_to (number_of c x)) o) None)

    links_by : (b : Bool) → (is_function i.ty && has_item c x) ≡ b → (o : Option Found) → found_place places i.module_name i.name ≡ o
        → All (IsLink imports c servers) (put_by b o)
    links_by true on (Some f) found =
        let r = found_by servers places are i.module_name i.name (place_of places i.module_name i.name) refl (original_import_name i.name) refl f found in
        let p = r.0 in
        let both = and_parts (is_function i.ty) (has_item c x) on in
        All-cons (IsLink imports c servers) (link_to (number_of c x) f) []
        (record {
          position = k;
          import = i;
          is_import = at;
          index = p.index;
          server = p.server;
          export = p.export;
          served = record {
            function = both.0;
            found = subst (IsFoundAs servers i.module_name i.name) (sym p.named.1) r.1;
            serving = record {
              server = p.is_server;
              of_name = p.named.0;
              export = (
                p.position,
                slice_get_within p.server.exports p.position p.export p.is_export,
                get_or_from_slice_get p.server.exports p.position p.export p.export p.is_export,
              );
              named = refl;
              there = p.named.2;
            };
          };
          item = refl;
          part = p.part;
          linked = p.item;
          name = sym p.named.1;
        }) (All-nil (IsLink imports c servers))
    links_by true on None found = All-nil (IsLink imports c servers)
    links_by false off o found = All-nil (IsLink imports c servers)

    linked_by : (index : ℕ) (v : ServerView) (e : ExportValue) → IsServed servers i index v e → (b : Bool) → b ≡ true → (o : Option Found)
        → found_place places i.module_name i.name ≡ o → Contains (map (λ (l : LinkView). l.item) (put_by b o)) (number_of c x)
    linked_by index v e s false off o found = let bad : false ≡ true = off in absurd cc
    linked_by index v e s true on (Some f) found = contains_head [] (number_of c x)
    linked_by index v e s true on None found =
        absurd (not_found servers places are i.module_name i.name index v e s.found s.serving
        (none_by servers places are i.module_name i.name (place_of places i.module_name i.name) refl (original_import_name i.name) refl found))

    pub links_next : (old new : List LinkView) → HasLinksTo imports c servers k old → new ≡ old ++ option_to_list (link_of i x c places)
        → HasLinksTo imports c servers (k + 1) new
    links_next old new h put =
        let P = IsLink imports c servers in
        let more = put_by (is_function i.ty && has_item c x) (found_place places i.module_name i.name) in
        record {
          each = subst (All P) (sym put) (All-append P old more h.each (links_by (is_function i.ty && has_item c x) refl (found_place places i.module_name i.name) refl));
          all = λ j y index v e lt is s has.
              subst (λ z. Contains z (number_of c (import_item imports j y))) (sym (ap (map (λ (l : LinkView). l.item)) put ∙ map-append (λ (l : LinkView). l.item) old more))
              (elim (cases_lt j k) [
                | inl less ↦
                    Contains-append_left (map (λ (l : LinkView). l.item) old) (map (λ (l : LinkView). l.item) more) (number_of c (import_item imports j y))
                    (h.all j y index v e less is s has)
                | inr past ↦
                    let same : j ≡ k = omega (arith, lt, past) in
                    let one : i ≡ y = same_Some i y (sym at ∙ subst (λ n. slice_get imports n ≡ Some y) same is) in
                    Contains-append_right (map (λ (l : LinkView). l.item) old) (map (λ (l : LinkView). l.item) more) (number_of c (import_item imports j y))
                    (last j y index v e same one s has)
              ]);
        }
      where
        last : (j : ℕ) (y : ImportValue) (index : ℕ) (v : ServerView) (e : ExportValue) → j ≡ k → i ≡ y → IsServed servers y index v e
            → has_item c (import_item imports j y) ≡ true
            → Contains (map (λ (l : LinkView). l.item) (put_by (is_function i.ty && has_item c x) (found_place places i.module_name i.name)))
            (number_of c (import_item imports j y))
        last j y index v e same one s has =
            let item : x ≡ import_item imports j y = λ t. import_item imports (sym same t) (one t) in
            let mine : IsServed servers i index v e = subst (λ z. IsServed servers z index v e) (sym one) s in
            let there : has_item c x ≡ true = ap (has_item c) item ∙ has in
            subst (λ z. Contains (map (λ (l : LinkView). l.item) (put_by (is_function i.ty && has_item c x) (found_place places i.module_name i.name))) (number_of c z)) item
            (linked_by index v e mine (is_function i.ty && has_item c x) (and_from (is_function i.ty) (has_item c x) mine.function there)
            (found_place places i.module_name i.name) refl)

  pub all_links : (n : ℕ) (links : List LinkView) → length imports ≤ n → HasLinksTo imports c servers n links → AreLinks imports c servers links
  all_links n links all h = record {
    each = h.each;
    all = λ k i index v e is s has. h.all k i index v e (let w = slice_get_within imports k i is in omega (arith, w, all)) is s has;
  }

-- the same of imports that are gone through
pub link_more : (imports : List Import) (c : CountsValue) (servers : List ServerView) (places : Places) → ArePlaces servers places → (items : List PathItem) (k : ℕ)
    (d : Import) (x y : PathItem) → k < length imports → AreImportItems (import_values imports) items → x ≡ get_or items k y → (old new : List LinkView)
    → HasLinksTo (import_values imports) c servers k old → new ≡ old ++ option_to_list (link_of (import_value (get_or imports k d)) x c places)
    → HasLinksTo (import_values imports) c servers (k + 1) new
link_more imports c servers places are items k d x y lt there is old new h put =
    let i = import_value (get_or imports k d) in
    let at = at_view import_value imports k d lt in
    let item = is ∙ get_or_from_slice_get items k _ _ (there.at k i at) in
    links_next (import_values imports) c servers places are k i at old new h (put ∙ ap (λ z. old ++ option_to_list (link_of i z c places)) item)

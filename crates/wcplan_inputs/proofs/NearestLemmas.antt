-- The first of some names that is near a name, key by key.
use Rattle.std.proofs.Common.{◌≡◌, ◌<◌, ℕ, Bool, true, false, cond, List, [], ◌∷◌, map, length, find, Option, Some, None, String, Global, sym, ◌∙◌, ap, subst, string_bytes, slice_get}
use Rattle.std.specs.List.{cons_option}
use Rattle.std.specs.Option.{IfSome, option_and_then, option_map, option_map_or}
use Rattle.semver.specs.Identifiers.{parts_text}
use Rattle.wc_encoder.specs.EncoderParts.{EncoderView, HasWorld, world_exports, world_imports}
use Rattle.wc_encoder.proofs.WorldLemmas.{exports_are, imports_are}
use Rattle.wc_names.specs.Keys.{as_interface}
use Rattle.wc_resolve.specs.declared.functions.Function.{Function}
use Rattle.wc_resolve.specs.declared.ids.InterfaceId.{InterfaceId}
use Rattle.wc_resolve.specs.declared.worlds.WorldItem.{WorldItem}
use Rattle.wc_resolve.specs.declared.worlds.WorldKey.{WorldKey}
use Rattle.wc_resolve.specs.Resolve.{key_text}
use Rattle.wc_resolve.specs.Ranges.{IsItemIn}
use Rattle.wc_resolve.specs.Views.{FunctionView, ItemView, KeyView, WorldView, function_entry, function_item, interface_item, item_view, key_view, type_item, world_entry}
use Rattle.wc_resolve.specs.Kinds.{ResolveView}
use Rattle.wc_selection.specs.Keys.{NamedKey, named_keys, texts_of, with_text}
use Rattle.wcplan_inputs.specs.Nearest.{first_near, has_key_text, interface_by, interface_for, is_near, key_texts}

abbrev Entry : Type 0
Entry = WorldKey × WorldItem

abbrev under_text : KeyView → List ℕ → NamedKey
under_text key text = (key, text)

-- of names the first is passed over, or is near

abbrev first_of : List ℕ → List ℕ → List (List ℕ) → Bool → Option (List ℕ)
first_of name text rest is = cond is (Some text) (first_near name rest)

module _ (r : ResolveView) (left rest : List Entry) (key : WorldKey) (item : WorldItem) (text : List ℕ) (next : left ≡ (key, item) ∷ rest)
    (named : key_text parts_text r (key_view key) ≡ Some text)
  where
    texts_cut : key_texts r (map world_entry left) ≡ text ∷ key_texts r (map world_entry rest)
    texts_cut =
        let first : with_text r (key_view key, item_view item) ≡ Some (key_view key, text) = ap (option_map (under_text (key_view key))) named in
        ap (λ (z : List Entry). key_texts r (map world_entry z)) next ∙ ap (λ x. texts_of (cons_option x (named_keys r (map world_entry rest)))) first

    pub key_passed : (name : List ℕ) (all : Option (List ℕ)) → is_near name text ≡ false → first_near name (key_texts r (map world_entry left)) ≡ all
        → first_near name (key_texts r (map world_entry rest)) ≡ all
    key_passed name all off before =
        sym (ap (first_near name) texts_cut ∙ ap (first_of name text (key_texts r (map world_entry rest))) off) ∙ before

    pub key_found : (name : List ℕ) (all : Option (List ℕ)) → is_near name text ≡ true → first_near name (key_texts r (map world_entry left)) ≡ all → Some text ≡ all
    key_found name all on before =
        sym (ap (first_near name) texts_cut ∙ ap (first_of name text (key_texts r (map world_entry rest))) on) ∙ before

    -- the key whose text a text is

    abbrev interface_of : KeyView × ItemView → Option ℕ
    interface_of x = as_interface x.1

    abbrev named_by : (List ℕ → Bool) → Bool → Option ℕ
    named_by fits is =
        option_and_then interface_of (cond is (Some (key_view key, item_view item)) (find (has_key_text r fits) (map world_entry rest)))

    named_cut : (fits : List ℕ → Bool) (is : Bool) → fits text ≡ is → interface_by r (map world_entry left) fits ≡ named_by fits is
    named_cut fits is alike =
        let same : has_key_text r fits (key_view key, item_view item) ≡ fits text = ap (λ (o : Option (List ℕ)). option_map_or fits o false) named in
        ap (λ (z : List Entry). interface_by r (map world_entry z) fits) next ∙ ap (named_by fits) (same ∙ alike)

    pub named_passed : (fits : List ℕ → Bool) (all : Option ℕ) → fits text ≡ false → interface_by r (map world_entry left) fits ≡ all
        → interface_by r (map world_entry rest) fits ≡ all
    named_passed fits all off before = sym (named_cut fits false off) ∙ before

    pub named_found : (fits : List ℕ → Bool) (all : Option ℕ) → fits text ≡ true → interface_by r (map world_entry left) fits ≡ all
        → as_interface (item_view item) ≡ all
    named_found fits all on before = sym (named_cut fits true on) ∙ before

-- there are no more
pub key_none : (r : ResolveView) (left : List Entry) (name : List ℕ) (all : Option (List ℕ)) → left ≡ [] → first_near name (key_texts r (map world_entry left)) ≡ all
    → None ≡ all
key_none r left name all none before = sym (ap (λ (z : List Entry). first_near name (key_texts r (map world_entry z))) none) ∙ before

pub named_none : (r : ResolveView) (left : List Entry) (fits : List ℕ → Bool) (all : Option ℕ) → left ≡ [] → interface_by r (map world_entry left) fits ≡ all
    → None ≡ all
named_none r left fits all none before = sym (ap (λ (z : List Entry). interface_by r (map world_entry z) fits) none) ∙ before

-- an interface that is an item in range is in range
pub item_there : (r : ResolveView) (item : ItemView) (i : ℕ) → IsItemIn r item → as_interface item ≡ Some i → i < length r.interfaces
item_there r (interface_item j external) i there is = let same : j ≡ i = cc in rw (sym same) there
item_there r (function_item f) i there is = absurd cc
item_there r (type_item t) i there is = absurd cc

abbrev index_of : InterfaceId → ℕ
index_of i = i.0

pub found_there : (r : ResolveView) (item : ItemView) (found : Option InterfaceId) → IsItemIn r item → option_map index_of found ≡ as_interface item
    → IfSome found (λ (i : InterfaceId). i.0 < length r.interfaces)
found_there r item None there is = tt
found_there r item (Some i) there is = item_there r item i.0 there (sym is)

-- functions, one after another

abbrev pub Functions : Type 0
Functions = List (String Global × Function)

abbrev pub names_of : Functions → List (List ℕ)
names_of xs = map (λ (f : List ℕ × FunctionView). f.0) (map function_entry xs)

module _ (left rest : Functions) (function : String Global × Function) (next : left ≡ function ∷ rest) (name : List ℕ) (all : Option (List ℕ)) where
  names_cut : (is : Bool) → is_near name (string_bytes function.0) ≡ is
      → first_near name (names_of left) ≡ first_of name (string_bytes function.0) (names_of rest) is
  names_cut is near = ap (λ (z : Functions). first_near name (names_of z)) next ∙ ap (first_of name (string_bytes function.0) (names_of rest)) near

  pub name_passed : is_near name (string_bytes function.0) ≡ false → first_near name (names_of left) ≡ all → first_near name (names_of rest) ≡ all
  name_passed off before = sym (names_cut false off) ∙ before

  pub name_found : is_near name (string_bytes function.0) ≡ true → first_near name (names_of left) ≡ all → Some (string_bytes function.0) ≡ all
  name_found on before = sym (names_cut true on) ∙ before

pub name_none : (left : Functions) (name : List ℕ) (all : Option (List ℕ)) → left ≡ [] → first_near name (names_of left) ≡ all → None ≡ all
name_none left name all none before = sym (ap (λ (z : Functions). first_near name (names_of z)) none) ∙ before

-- what the world of an encoder imports and exports
module _ (e : EncoderView) (r : ResolveView) (world : ℕ) (same : r ≡ e.resolve) (at : world ≡ e.world) where
  pub world_there : HasWorld e → world < length r.worlds
  world_there has = subst (λ (n : ℕ). n < length r.worlds) (sym at) (subst (λ (z : ResolveView). e.world < length z.worlds) (sym same) has)

  module _ (w : WorldView) (there : slice_get r.worlds world ≡ Some w) where
    world_is : slice_get e.resolve.worlds e.world ≡ Some w
    world_is = (λ i. slice_get (sym same i).worlds (sym at i)) ∙ there

    pub imports_near : (name : List ℕ) → first_near name (key_texts r w.imports) ≡ first_near name (key_texts e.resolve (world_imports e))
    imports_near name = (λ i. first_near name (key_texts (same i) (sym (imports_are e w world_is) i)))

    pub exports_near : (name : List ℕ) → first_near name (key_texts r w.exports) ≡ first_near name (key_texts e.resolve (world_exports e))
    exports_near name = (λ i. first_near name (key_texts (same i) (sym (exports_are e w world_is) i)))

    pub interface_is : (text : List ℕ) → interface_for r w.imports text ≡ interface_for e.resolve (world_imports e) text
    interface_is text = (λ i. interface_for (same i) (sym (imports_are e w world_is) i) text)

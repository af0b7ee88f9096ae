-- Worlds that are written are read back.
use Rattle.std.proofs.Common.{◌≡◌, ◌≢◌, ℕ, List, ◌++◌, Option, Some, None, Ok, All, Bool, true, false, map, codes, decimal, length, take, if◌then◌else◌}
use Rattle.std.proofs.Common.{drop, refl, sym, ap, ◌∙◌, subst}
use Rattle.std.specs.Bool.{Decides}
use Rattle.std.specs.Str.{bytes_eq}
use Rattle.std.proofs.Math.Seq.{drop-append_seam, take-append_seam}
use Rattle.std.proofs.lemmas.Bool.{cond-true}
use Rattle.std.proofs.lemmas.List.{take-append-drop}
use Rattle.std.proofs.lemmas.Map.Made.{IsDistinct-from_AllPairs}
use Rattle.std.proofs.lemmas.Option.{cond_some}
use Rattle.std.proofs.lemmas.Slice.Eq.{bytes_eq-Decides}
use Rattle.wc_resolve.specs.Views.{KeyView, plain_key, interface_key, ItemView, interface_item, function_item, type_item, WorldView}
use Rattle.wc_resolve.proofs.KeyLemmas.{key_view_eq, nat_from, nat_to}
use Rattle.wc_texts.specs.Prefixes.{rest_after}
use Rattle.wc_json.specs.Fits.{HasDistinctTexts, InterfaceKeyFits, ItemFits, KeyFits, PlainKeyFits, WorldEntryFits, WorldFits}
use Rattle.wc_json.specs.Keys.{is_id_key, is_id_rest, item_key}
use Rattle.wc_json.specs.ToJson.{item_json, key_text, world_items_json, world_json}
use Rattle.wc_json.specs.Worlds.{item, items, world}
use Rattle.wc_json.proofs.MapRoundTripLemmas.{IsDistinct-from_texts, entries_after-members_json}
use Rattle.wc_json.proofs.TypeRoundTripLemmas.{function-function_json, index-number_json, nullable-number_json, nullable-string}

-- the keys of interfaces

abbrev prefix : List ℕ
prefix = codes "interface-"

rest_after-append : (beginning rest : List ℕ) → rest_after beginning (beginning ++ rest) ≡ Some rest
rest_after-append b rest =
    cond-true (bytes_eq (take (length b) (b ++ rest)) b) _ _ ((bytes_eq-Decides (take (length b) (b ++ rest)) b).1 (take-append_seam b rest))
    ∙ ap Some (drop-append_seam b rest)

item_key-id : (n : ℕ) (external_id : Option (List ℕ)) → item_key (key_text (interface_key n)) (interface_item n external_id) ≡ interface_key n
item_key-id n external_id =
    let same : is_id_key (prefix ++ decimal n) n ≡ true =
    ap (is_id_rest n) (rest_after-append prefix (decimal n)) ∙ (bytes_eq-Decides (decimal n) (decimal n)).1 refl in
    rw same refl

item_key-interface : (n : ℕ) (i : ItemView) → InterfaceKeyFits n i → item_key (key_text (interface_key n)) i ≡ interface_key n
item_key-interface n (interface_item m external_id) fits =
    subst (λ k. item_key (key_text (interface_key n)) (interface_item k external_id) ≡ interface_key n) fits (item_key-id n external_id)
item_key-interface n (function_item f) fits = absurd fits
item_key-interface n (type_item m) fits = absurd fits

-- plain keys

rest_after_is : (beginning text rest : List ℕ) → Some rest ≡ rest_after beginning text → text ≡ beginning ++ rest
rest_after_is b text rest e =
    let p = cond_some (bytes_eq (take (length b) text) b) (drop (length b) text) rest (sym e) in
    sym (take-append-drop (length b) text) ∙ ap (λ (xs : List ℕ). xs ++ drop (length b) text) ((bytes_eq-Decides (take (length b) text) b).0 p.0)
    ∙ ap (λ (xs : List ℕ). b ++ xs) p.1

is_id_rest-is : (n : ℕ) (name : List ℕ) (rest : Option (List ℕ)) → rest ≡ rest_after prefix name → is_id_rest n rest ≡ true → name ≡ prefix ++ decimal n
is_id_rest-is n name None e is = absurd cc
is_id_rest-is n name (Some digits) e is =
    rest_after_is prefix name digits e ∙ ap (λ (xs : List ℕ). prefix ++ xs) (sym ((bytes_eq-Decides (decimal n) digits).0 is))

plain_by : (n : ℕ) (name : List ℕ) (t : Bool) → is_id_key name n ≡ t → (name ≢ key_text (interface_key n))
    → (if t then interface_key n else plain_key name) ≡ plain_key name
plain_by n name true is fits = absurd (fits (is_id_rest-is n name (rest_after prefix name) refl is))
plain_by n name false is fits = refl

item_key-plain : (name : List ℕ) (i : ItemView) → PlainKeyFits name i → item_key name i ≡ plain_key name
item_key-plain name (interface_item n external_id) fits = plain_by n name (is_id_key name n) refl fits
item_key-plain name (function_item f) fits = refl
item_key-plain name (type_item n) fits = refl

item_key-key_text : (k : KeyView) (i : ItemView) → KeyFits k i → item_key (key_text k) i ≡ k
item_key-key_text (plain_key name) i fits = item_key-plain name i fits
item_key-key_text (interface_key n) i fits = item_key-interface n i fits

-- equality of keys

pub key_view_eq-Decides : (a b : KeyView) → Decides (key_view_eq a b) (a ≡ b)
key_view_eq-Decides (plain_key n) (plain_key m) = (λ e. ap plain_key ((bytes_eq-Decides n m).0 e), λ e. (bytes_eq-Decides n m).1 (cc e))
key_view_eq-Decides (plain_key n) (interface_key j) = (λ e. let bad : ⊥ = cc e in absurd bad, λ e. let bad : ⊥ = cc e in absurd bad)
key_view_eq-Decides (interface_key i) (plain_key m) = (λ e. let bad : ⊥ = cc e in absurd bad, λ e. let bad : ⊥ = cc e in absurd bad)
key_view_eq-Decides (interface_key i) (interface_key j) = (λ e. ap interface_key (nat_from i j e), λ e. nat_to i j (cc e))

-- items and worlds

item-item_json : (i : ItemView) → ItemFits i → item (item_json i) ≡ Ok i
item-item_json (interface_item n external_id) fits = rw (index-number_json n fits, nullable-string external_id) refl
item-item_json (function_item f) fits = rw (function-function_json f fits) refl
item-item_json (type_item n) fits = rw (index-number_json n fits) refl

items-world_items_json : (es : List (KeyView × ItemView)) → HasDistinctTexts es → All WorldEntryFits es → items (world_items_json es) ≡ Ok es
items-world_items_json es distinct fits =
    let texts = IsDistinct-from_AllPairs bytes_eq-Decides (map (λ (e : KeyView × ItemView). key_text e.0) es) distinct in
    let keys = IsDistinct-from_texts key_view_eq key_view_eq-Decides key_text es texts in
    entries_after-members_json key_view_eq key_view_eq-Decides key_text item_key item_json item WorldEntryFits
    (λ e h. item_key-key_text e.0 e.1 h.0) (λ e h. item-item_json e.1 h.1) es keys fits

pub world-world_json : (p : WorldView × Option ℕ) → WorldFits p → world (world_json p) ≡ Ok p
world-world_json p fits =
    rw (
      items-world_items_json p.0.imports fits.import_keys fits.imports,
      items-world_items_json p.0.exports fits.export_keys fits.exports,
      nullable-number_json p.1 fits.in_package,
    ) refl

-- The keys of exports under their texts, one after another; and those that a module has to export.
use Rattle.std.proofs.Common.{◌≡◌, ◌≢◌, ℕ, ◌+◌, ◌<◌, zero, suc, Bool, true, false, cond, List, [], ◌∷◌, ◌++◌, map, length, take, get_or, Option, Some, None, String, Global, sym, ◌∙◌, ap, subst, arith, append-nil, append_assoc, inl, inr, All, Contains}
use Rattle.std.proofs.lemmas.List.Kept.{AllPairs-cons}
use Rattle.std.proofs.lemmas.Map.Keys.{IsDistinct-head, IsDistinct-tail}
use Rattle.wc_maps.proofs.PairLemmas.{pairs_head, pairs_none, pairs_tail}
use Rattle.wc_maps.proofs.ListLemmas.{contains_cons, contains_head, contains_none, contains_tail, any_held, passed_more}
use Rattle.std.specs.List.{AllByRecursion, AllPairs, IsDistinct, cons_option, filter, list_any}
use Rattle.std.specs.Option.{option_map}
use Rattle.std.specs.Prelude.{string_bytes}
use Rattle.std.proofs.lemmas.Bool.{cases_Bool}
use Rattle.std.proofs.lemmas.List.{map-append}
use Rattle.std.proofs.lemmas.List.Elements.{All-cons, All-contains, All-nil, filter-append}
use Rattle.indexmap.specs.IndexSet.{insert_key}
use Rattle.semver.specs.Identifiers.{parts_text}
use Rattle.wc_resolve.specs.declared.worlds.WorldKey.{WorldKey}
use Rattle.wc_resolve.specs.declared.worlds.WorldItem.{WorldItem}
use Rattle.wc_resolve.specs.contracts.worlds.WorldKeyPartialEq.TheImpl.{eq-value as key_eq}
use Rattle.wc_resolve.specs.Resolve.{key_text}
use Rattle.wc_resolve.specs.Views.{KeyView, item_view, key_view, world_entry}
use Rattle.wc_resolve.specs.Kinds.{ResolveView}
use Rattle.wc_resolve.proofs.KeyLemmas.{keys_law}
use Rattle.wc_selection.specs.Keys.{NamedKey, named_key, named_keys, with_text}

abbrev Entry : Type 0
Entry = WorldKey × WorldItem

abbrev pub under_text : KeyView → List ℕ → NamedKey
under_text key text = (key, text)

-- the next key, which has a text
pub named_more : (r : ResolveView) (left rest : List Entry) (key copy : WorldKey) (item : WorldItem) (text : String Global)
    (keys : List (WorldKey × String Global)) (all : List NamedKey) → left ≡ (key, item) ∷ rest → key_view copy ≡ key_view key
    → key_text parts_text r (key_view key) ≡ Some (string_bytes text)
    → map named_key keys ++ named_keys r (map world_entry left) ≡ all → map named_key (keys ++ (copy, text) ∷ []) ++ named_keys r (map world_entry rest) ≡ all
named_more r left rest key copy item text keys all next same named before =
    let first : with_text r (key_view key, item_view item) ≡ Some (key_view key, string_bytes text) = ap (option_map (under_text (key_view key))) named in
    let cut : named_keys r (map world_entry left) ≡ (key_view key, string_bytes text) ∷ named_keys r (map world_entry rest) =
    ap (λ (z : List Entry). named_keys r (map world_entry z)) next ∙ ap (λ x. cons_option x (named_keys r (map world_entry rest))) first in
    let pushed : map named_key (keys ++ (copy, text) ∷ []) ≡ map named_key keys ++ (key_view key, string_bytes text) ∷ [] =
    map-append named_key keys ((copy, text) ∷ []) ∙ ap (λ k. map named_key keys ++ (k, string_bytes text) ∷ []) same in
    ap (λ l. l ++ named_keys r (map world_entry rest)) pushed ∙ append_assoc (map named_key keys) ((key_view key, string_bytes text) ∷ [])
    (named_keys r (map world_entry rest)) ∙ ap (λ l. map named_key keys ++ l) (sym cut) ∙ before

-- all keys
pub named_all : (r : ResolveView) (left : List Entry) (keys : List (WorldKey × String Global)) (all : List NamedKey) → left ≡ []
    → map named_key keys ++ named_keys r (map world_entry left) ≡ all → map named_key keys ≡ all
named_all r left keys all none before =
    sym (append-nil (map named_key keys)) ∙ ap (λ (z : List Entry). map named_key keys ++ named_keys r (map world_entry z)) (sym none) ∙ before

-- keys that differ

abbrev Differ : NamedKey → NamedKey → Type 0
Differ a b = a.0 ≢ b.0

abbrev entry_key : Entry → WorldKey
entry_key e = e.0

unequal : (a b : WorldKey) → key_eq.it a b ≡ false → key_view a ≢ key_view b
unequal a b other same = absurd (let equal : key_eq.it a b ≡ true = (keys_law a b).1 same in let bad : true ≡ false = sym equal ∙ other in cc)

differ_by : (key : KeyView) (text : List ℕ) (k : KeyView) (found : Option (List ℕ)) (others : List NamedKey) → k ≢ key → All (Differ (key, text)) others
    → All (Differ (key, text)) (cons_option (option_map (under_text k) found) others)
differ_by key text k None others other all = all
differ_by key text k (Some t) others other all = All-cons (Differ (key, text)) (k, t) others (λ same. other (sym same)) all

-- a key is none of those after it
none_after : (r : ResolveView) (key : WorldKey) (text : List ℕ) (entries : List Entry)
    → AllByRecursion (λ (y : WorldKey). key_eq.it key y ≡ false) (map entry_key entries)
    → All (Differ (key_view key, text)) (named_keys r (map world_entry entries))
none_after r key text [] h = All-nil (Differ (key_view key, text))
none_after r key text (e ∷ rest) h =
    differ_by (key_view key) text (key_view e.0) (key_text parts_text r (key_view e.0)) (named_keys r (map world_entry rest))
    (λ same. unequal key e.0 h.0 (sym same)) (none_after r key text rest h.1)

apart_by : (key : KeyView) (found : Option (List ℕ)) (others : List NamedKey) → ((text : List ℕ) → All (Differ (key, text)) others) → AllPairs Differ others
    → AllPairs Differ (cons_option (option_map (under_text key) found) others)
apart_by key None others first rest = rest
apart_by key (Some t) others first rest = AllPairs-cons Differ (key, t) others (first t) rest

-- the keys of a map differ
pub keys_apart : (r : ResolveView) (entries : List Entry) → IsDistinct key_eq.it (map entry_key entries)
    → AllPairs Differ (named_keys r (map world_entry entries))
keys_apart r [] h = pairs_none Differ
keys_apart r (e ∷ rest) h =
    apart_by (key_view e.0) (key_text parts_text r (key_view e.0)) (named_keys r (map world_entry rest))
    (λ text. none_after r e.0 text rest (IsDistinct-head key_eq.it e.0 (map entry_key rest) h))
    (keys_apart r rest (IsDistinct-tail key_eq.it e.0 (map entry_key rest) h))

-- keys that are picked of those before a key do not have it

abbrev Pair : Type 0
Pair = WorldKey × String Global

abbrev pub first_key : NamedKey → KeyView
first_key k = k.0

has_at : (pairs : List Pair) (k : ℕ) (x : Pair) → k < length pairs → x ≡ get_or pairs k x → Contains (map named_key pairs) (named_key x)
has_at [] k x lt at = absurd (omega arith)
has_at (y ∷ ys) zero x lt at = subst (λ (z : Pair). Contains (map named_key (y ∷ ys)) (named_key z)) (sym at) (contains_head (map named_key ys) (named_key y))
has_at (y ∷ ys) (suc k) x lt at = contains_tail (named_key y) (map named_key ys) (named_key x) (has_at ys k x (omega arith) at)

picked_differ : (is_chosen : NamedKey → Bool) (y : NamedKey) (b : Bool) (rest : List NamedKey) (key : KeyView) → y.0 ≢ key
    → (Contains (map first_key rest) key → ⊥) → Contains (map first_key (cond b (y ∷ rest) rest)) key → ⊥
picked_differ is_chosen y true rest key other none has =
    elim (contains_cons y.0 (map first_key rest) key has) [ inl same ↦ other same | inr later ↦ none later ]
picked_differ is_chosen y false rest key other none has = none has

pub none_picked : (is_chosen : NamedKey → Bool) (pairs : List Pair) (k : ℕ) (x : Pair) → k < length pairs → x ≡ get_or pairs k x
    → AllPairs Differ (map named_key pairs) → Contains (map first_key (filter is_chosen (map named_key (take k pairs)))) (key_view x.0) → ⊥
none_picked is_chosen [] k x lt at apart has = absurd (omega arith)
none_picked is_chosen (y ∷ ys) zero x lt at apart has = contains_none (key_view x.0) has
none_picked is_chosen (y ∷ ys) (suc k) x lt at apart has =
    let other : key_view y.0 ≢ key_view x.0 = All-contains (Differ (named_key y)) (map named_key ys) (named_key x)
    (pairs_head Differ (named_key y) (map named_key ys) apart) (has_at ys k x (omega arith) at) in
    picked_differ is_chosen (named_key y) (is_chosen (named_key y)) (filter is_chosen (map named_key (take k ys))) (key_view x.0) other
    (none_picked is_chosen ys k x (omega arith) at (pairs_tail Differ (named_key y) (map named_key ys) apart)) has

-- one more key that is passed

abbrev picked : (NamedKey → Bool) → List Pair → List KeyView
picked is_chosen pairs = map first_key (filter is_chosen (map named_key pairs))

picked_more : (is_chosen : NamedKey → Bool) (pairs : List Pair) (k : ℕ) (x : Pair) → k < length pairs → x ≡ get_or pairs k x
    → picked is_chosen (take (k + 1) pairs) ≡ picked is_chosen (take k pairs) ++ map first_key (cond (is_chosen (named_key x)) (named_key x ∷ []) [])
picked_more is_chosen pairs k x lt at =
    ap (λ l. map first_key (filter is_chosen l)) (passed_more named_key pairs k x lt
    ∙ ap (λ (z : Pair). map named_key (take k pairs) ++ named_key z ∷ []) (sym at))
    ∙ ap (map first_key) (filter-append is_chosen (map named_key (take k pairs)) (named_key x ∷ []))
    ∙ map-append first_key (filter is_chosen (map named_key (take k pairs))) (cond (is_chosen (named_key x)) (named_key x ∷ []) [])

pub pick_no : (is_chosen : NamedKey → Bool) (pairs : List Pair) (k : ℕ) (x : Pair) (keys : List WorldKey) → k < length pairs → x ≡ get_or pairs k x
    → is_chosen (named_key x) ≡ false → map key_view keys ≡ picked is_chosen (take k pairs) → map key_view keys ≡ picked is_chosen (take (k + 1) pairs)
pick_no is_chosen pairs k x keys lt at other before =
    before ∙ sym (picked_more is_chosen pairs k x lt at ∙ ap (λ b. picked is_chosen (take k pairs) ++ map first_key (cond b (named_key x ∷ []) [])) other
    ∙ append-nil (picked is_chosen (take k pairs)))

pub unheld : (keys : List WorldKey) (copy : WorldKey) → (Contains (map key_view keys) (key_view copy) → ⊥) → list_any (key_eq.it copy) keys ≡ false
unheld keys copy none = elim (cases_Bool (list_any (key_eq.it copy) keys)) [
  | inl held ↦ absurd (none (any_held key_view (key_eq.it copy) (key_view copy) (keys_law copy) keys held))
  | inr free ↦ free
]

pub pick_yes : (is_chosen : NamedKey → Bool) (pairs : List Pair) (k : ℕ) (x : Pair) (copy : WorldKey) (keys after : List WorldKey) → k < length pairs
    → x ≡ get_or pairs k x → AllPairs Differ (map named_key pairs) → is_chosen (named_key x) ≡ true → key_view copy ≡ key_view x.0
    → after ≡ insert_key key_eq.it keys copy
    → map key_view keys ≡ picked is_chosen (take k pairs) → map key_view after ≡ picked is_chosen (take (k + 1) pairs)
pick_yes is_chosen pairs k x copy keys after lt at apart chosen same put before =
    let fresh = unheld keys copy (λ has. none_picked is_chosen pairs k x lt at apart
    (subst (Contains (picked is_chosen (take k pairs))) same (subst (λ l. Contains l (key_view copy)) before has))) in
    let pushed : after ≡ keys ++ copy ∷ [] = put ∙ ap (λ b. cond b keys (keys ++ copy ∷ [])) fresh in
    ap (map key_view) pushed ∙ map-append key_view keys (copy ∷ []) ∙ (λ i. before i ++ same i ∷ [])
    ∙ sym (picked_more is_chosen pairs k x lt at ∙ ap (λ b. picked is_chosen (take k pairs) ++ map first_key (cond b (named_key x ∷ []) [])) chosen)

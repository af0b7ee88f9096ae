-- The keys at the positions of their texts.
use Rattle.std.proofs.Common.{◌≡◌, ◌≢◌, ℕ, ◌+◌, ◌<◌, ◌≤◌, zero, suc, Bool, true, false, cond, List, [], ◌∷◌, ◌++◌, map, filter, length, take, get_or, Some, All, Contains, String, Global, refl, sym, ap, ◌∙◌, subst, arith}
use Rattle.std.specs.Borrow.{Bor}
use Rattle.std.specs.List.{list_any}
use Rattle.std.specs.Prelude.{◌&&◌, ◌||◌}
use Rattle.std.specs.Str.{bytes_eq}
use Rattle.std.proofs.lemmas.Cmp.{nat_list_eq_equiv}
use Rattle.std.proofs.lemmas.Slice.Eq.{bytes_eq-Decides}
use Rattle.std.specs.declared.vec.Vec.{Vec}
use Rattle.std.proofs.lemmas.List.{get_or-map, get_or-take, length-map, map-append, take-map}
use Rattle.std.proofs.lemmas.List.Elements.{All-cons, All-nil}
use Rattle.std.proofs.lemmas.List.Kept.{AllPairs-filter}
use Rattle.indexmap.specs.IndexSet.{insert_key}
use Rattle.wc_resolve.specs.Views.{KeyView, key_view}
use Rattle.wc_resolve.specs.declared.worlds.WorldKey.{WorldKey}
use Rattle.wc_resolve.specs.contracts.worlds.WorldKeyPartialEq.TheImpl.{eq-value as key_eq}
use Rattle.wc_selection.proofs.KeyListLemmas.{first_key, unheld}
use Rattle.wc_maps.proofs.ListLemmas.{length_one, passed_more}
use Rattle.wc_selection.proofs.PositionLemmas.{sorted_is}
use Rattle.wc_selection.proofs.RequiredLemmas.{Pair, filter_same, under_in, under_more}
use Rattle.wc_selection.specs.KeyIndex.{AreApart, AreSorted, IsKeyIndex, key_at, keys_under, listed_positions, positions_from, viewed_key}
use Rattle.wc_selection.specs.Keys.{AreKeysApart, NamedKey, named_key}
use Rattle.wc_selection.specs.ModuleKeys.{is_pair, is_required, required_keys}
use Rattle.wc_selection.specs.Requests.{RequestValue}
use Rattle.wc_selection.specs.RequiredTexts.{texts_under}
use Rattle.wc_selection.specs.TextLists.{ListsMore, listed}
use Rattle.wc_maps.specs.Texts.{is_in, second_parts, text_of, text_pair}

abbrev Lists : Type 0
Lists = List (Bor (List ℕ) × Vec ℕ Global)

-- a position counted from a number on, in a list that is passed up to there

in_range_at : (b : Bool) (low n : ℕ) (xs : List ℕ) → low < n → All (λ (p : ℕ). p < n) xs → All (λ (p : ℕ). p < n) (cond b (low ∷ xs) xs)
in_range_at true low n xs lt all = All-cons (λ (p : ℕ). p < n) low xs lt all
in_range_at false low n xs lt all = all

pub positions_in : {A : Type 0} (low n : ℕ) (p : A → Bool) (xs : List A) → low + length xs ≤ n → All (λ (x : ℕ). x < n) (positions_from low p xs)
positions_in low n p [] le = All-nil (λ (x : ℕ). x < n)
positions_in low n p (k ∷ xs) le =
    in_range_at (p k) low n (positions_from (suc low) p xs) (omega (arith, le)) (positions_in (suc low) n p xs (omega (arith, le)))

key_there : (front : List NamedKey) (k : NamedKey) (keys : List NamedKey) → key_at (front ++ k ∷ keys) (length front) ≡ k.0
key_there [] k keys = refl
key_there (x ∷ front) k keys = key_there front k keys

append_one : (front : List NamedKey) (k : NamedKey) (keys : List NamedKey) → (front ++ k ∷ []) ++ keys ≡ front ++ k ∷ keys
append_one [] k keys = refl
append_one (x ∷ front) k keys = ap (λ l. x ∷ l) (append_one front k keys)

kept_at : (f : ℕ → KeyView) (b : Bool) (low : ℕ) (ps : List ℕ) (k : NamedKey) (rest : List NamedKey) → f low ≡ k.0
    → map f ps ≡ map first_key rest → map f (cond b (low ∷ ps) ps) ≡ map first_key (cond b (k ∷ rest) rest)
kept_at f true low ps k rest here h = λ i. here i ∷ h i
kept_at f false low ps k rest here h = h

keys_from : (p : NamedKey → Bool) (front keys all : List NamedKey) (low : ℕ) → low ≡ length front → front ++ keys ≡ all
    → map (key_at all) (positions_from low p keys) ≡ map first_key (filter p keys)
keys_from p front [] all low is cut = refl
keys_from p front (k ∷ keys) all low is cut =
    kept_at (key_at all) (p k) low (positions_from (suc low) p keys) k (filter p keys)
    ((λ i. key_at (sym cut i) (is i)) ∙ key_there front k keys)
    (keys_from p (front ++ k ∷ []) keys all (suc low) (ap suc is ∙ sym (length_one front k)) (append_one front k keys ∙ cut))

pub keys_found : (texts : List (List ℕ)) (keys : List NamedKey)
    → map (key_at keys) (positions_from 0 (λ (k : NamedKey). is_in texts k.1) keys) ≡ keys_under texts keys
keys_found texts keys = keys_from (λ (k : NamedKey). is_in texts k.1) [] keys keys 0 refl refl

module _ (keys : List NamedKey) (entries : Lists) (index : IsKeyIndex keys entries) (texts : List (List ℕ)) (sorted : List ℕ)
    (are : AreSorted (listed_positions entries texts) sorted) where
  is : sorted ≡ positions_from 0 (λ (k : NamedKey). is_in texts k.1) keys
  is = sorted_is keys entries texts sorted index.positions are

  pub sorted_in : All (λ (p : ℕ). p < length keys) sorted
  sorted_in = subst (All (λ (p : ℕ). p < length keys)) (sym is)
      (positions_in 0 (length keys) (λ (k : NamedKey). is_in texts k.1) keys (omega arith))

  pub keys_sorted : map (key_at keys) sorted ≡ keys_under texts keys
  keys_sorted = ap (map (key_at keys)) is ∙ keys_found texts keys

map_apart : (keys : List NamedKey) → AreKeysApart keys → AreApart (map first_key keys)
map_apart keys apart i j d less small =
    let lt : j < length keys = omega (arith, small, length-map keys first_key) in
    subst (λ (z : KeyView). z ≢ get_or (map first_key keys) j d)
    (sym (get_or-map first_key keys i (d, []) d (omega (arith, less, lt))))
    (subst (λ (z : KeyView). first_key (get_or keys i (d, [])) ≢ z) (sym (get_or-map first_key keys j (d, []) d lt)) (apart i j (d, []) less lt))

pub found_apart : (texts : List (List ℕ)) (keys : List NamedKey) → AreKeysApart keys → AreApart (keys_under texts keys)
found_apart texts keys apart =
    map_apart (filter (λ (k : NamedKey). is_in texts k.1) keys)
    (AllPairs-filter (λ (a : NamedKey) (b : NamedKey). a.0 ≢ b.0) (λ (k : NamedKey). is_in texts k.1) keys apart)

-- a key at a position

pub key_of : (keys : List (WorldKey × String Global)) (p : ℕ) (x : WorldKey × String Global) → p < length keys → x ≡ get_or keys p x
    → key_at (map named_key keys) p ≡ key_view x.0
key_of [] p x lt at = absurd (omega arith)
key_of (y ∷ keys) zero x lt at = ap (λ (z : WorldKey × String Global). key_view z.0) (sym at)
key_of (y ∷ keys) (suc p) x lt at = key_of keys p x (omega (arith, lt)) at

-- a key that is none of those before

abbrev Refs : Type 0
Refs = List (Bor WorldKey)

none_before : (zs : List KeyView) (k : ℕ) (x : KeyView) → AreApart zs → k < length zs → ((e : KeyView) → get_or zs k e ≡ x) → Contains (take k zs) x → ⊥
none_before zs k x apart lt at has =
    let below : has.0 < k = omega (arith, has.1, length_take zs k) in
    apart has.0 k x below lt (sym (get_or-take k zs has.0 x below) ∙ has.2 ∙ sym (at x))
  where
    length_take : (zs : List KeyView) (k : ℕ) → length (take k zs) ≤ k
    length_take zs zero = omega arith
    length_take [] (suc k) = omega arith
    length_take (z ∷ zs) (suc k) = omega (arith, length_take zs k)

pub set_next : (keys : Refs) (k : ℕ) (x : Bor WorldKey) (copy : WorldKey) (set after : List WorldKey) → k < length keys → x ≡ get_or keys k x
    → AreApart (map viewed_key keys) → key_view copy ≡ viewed_key x → after ≡ insert_key key_eq.it set copy
    → map key_view set ≡ map viewed_key (take k keys) → map key_view after ≡ map viewed_key (take (k + 1) keys)
set_next keys k x copy set after lt at apart same put before =
    let fresh = unheld set copy (λ has. absent (subst (Contains (map viewed_key (take k keys))) (same ∙ ap viewed_key at)
    (subst (λ l. Contains l (key_view copy)) before has))) in
    let pushed : after ≡ set ++ copy ∷ [] = put ∙ ap (λ b. cond b set (set ++ copy ∷ [])) fresh in
    ap (map key_view) pushed ∙ map-append key_view set (copy ∷ []) ∙ (λ i. before i ++ (same ∙ ap viewed_key at) i ∷ [])
    ∙ sym (passed_more viewed_key keys k x lt)
  where
    absent : Contains (map viewed_key (take k keys)) (viewed_key (get_or keys k x)) → ⊥
    absent has =
        none_before (map viewed_key keys) k (viewed_key (get_or keys k x)) apart (omega (arith, lt, length-map keys viewed_key))
        (λ e. get_or-map viewed_key keys k x e lt)
        (subst (λ l. Contains l (viewed_key (get_or keys k x))) (sym (take-map viewed_key k keys)) has)

-- a key at one position more

pub keys_next : (keys : List (WorldKey × String Global)) (positions : List ℕ) (k : ℕ) (x : WorldKey × String Global) (r : Bor WorldKey) (found after : Refs)
    → k < length positions → get_or positions k 0 < length keys → x ≡ get_or keys (get_or positions k 0) x → r.now ≡ x.0 → after ≡ found ++ r ∷ []
    → map viewed_key found ≡ map (key_at (map named_key keys)) (take k positions)
    → map viewed_key after ≡ map (key_at (map named_key keys)) (take (k + 1) positions)
keys_next keys positions k x r found after lt below at is put before =
    let here : viewed_key r ≡ key_at (map named_key keys) (get_or positions k 0) = ap key_view is ∙ sym (key_of keys (get_or positions k 0) x below at) in
    ap (map viewed_key) put ∙ map-append viewed_key found (r ∷ []) ∙ (λ i. before i ++ here i ∷ [])
    ∙ sym (passed_more (key_at (map named_key keys)) positions k 0 lt)

-- the keys of an index under some texts

module _ (pairs : List (WorldKey × String Global)) (entries : Lists) (index : IsKeyIndex (map named_key pairs) entries) (texts : List (List ℕ))
    (sorted positions : List ℕ) (are : AreSorted (listed_positions entries texts) sorted) (same : positions ≡ sorted) where
  pub positions_below : All (λ (p : ℕ). p < length pairs) positions
  positions_below =
      subst (λ (n : ℕ). All (λ (p : ℕ). p < n) positions) (length-map pairs named_key)
      (subst (All (λ (p : ℕ). p < length (map named_key pairs))) (sym same) (sorted_in (map named_key pairs) entries index texts sorted are))

  pub keys_are : (keys refs : Refs) → map viewed_key keys ≡ map (key_at (map named_key pairs)) positions → refs ≡ keys
      → map viewed_key refs ≡ keys_under texts (map named_key pairs)
  keys_are keys refs found is =
      ap (map viewed_key) is ∙ found ∙ ap (map (key_at (map named_key pairs))) same ∙ keys_sorted (map named_key pairs) entries index texts sorted are

-- what is found under an adapter's texts is required of it
pub required_under : (q : RequestValue) (name : List ℕ) (keys : List NamedKey)
    → keys_under (texts_under name q.adapter_exports) keys ≡ required_keys q (Some name) keys
required_under q name keys =
    ap (map first_key)
    (filter_same (λ (k : NamedKey). is_in (texts_under name q.adapter_exports) k.1) (λ (k : NamedKey). is_required q (Some name) k.1)
    (λ k. under_in name k.1 q.adapter_exports) keys)

-- and so is what is found under its own texts, where a request gives it no others

own_in : {X : Type 0} (text : X → List ℕ) (name t : List ℕ) (xs : List X) → is_in (map text xs) t ≡ list_any (is_pair name t) (map (λ x. (name, text x)) xs)
own_in text name t [] = refl
own_in text name t (x ∷ xs) =
    let same : true ≡ bytes_eq name name = sym ((bytes_eq-Decides name name).1 refl) in
    (λ i. (same i && bytes_eq (text x) t) || own_in text name t xs i)

pub own_required : {X : Type 0} (text : X → List ℕ) (name : List ℕ) (xs : List X) (q : RequestValue) → q.adapter_exports ≡ map (λ x. (name, text x)) xs
    → (keys : List NamedKey) → keys_under (map text xs) keys ≡ required_keys q (Some name) keys
own_required text name xs q is keys =
    ap (map first_key)
    (filter_same (λ (k : NamedKey). is_in (map text xs) k.1) (λ (k : NamedKey). is_required q (Some name) k.1)
    (λ k. own_in text name k.1 xs ∙ ap (list_any (is_pair name k.1)) (sym is)) keys)

-- texts under names, one pair after another

second_one : (b : Bool) (x : Pair) → map text_of (cond b (x.1 ∷ []) []) ≡ second_parts (cond b (text_pair x ∷ []) [])
second_one true x = refl
second_one false x = refl

pub texts_next : (pairs : List Pair) (k : ℕ) (d : Pair) (old new : List (Bor (List ℕ) × Vec (Bor (List ℕ)) Global)) → k < length pairs
    → ListsMore old new (get_or pairs k d).0.now (get_or pairs k d).1
    → ((q : List ℕ) → map text_of (listed old q) ≡ texts_under q (map text_pair (take k pairs)))
    → (q : List ℕ) → map text_of (listed new q) ≡ texts_under q (map text_pair (take (k + 1) pairs))
texts_next pairs k d old new lt more before q =
    let x : Pair = get_or pairs k d in
    ap (map text_of) (more q) ∙ map-append text_of (listed old q) (cond (bytes_eq q x.0.now) (x.1 ∷ []) [])
    ∙ (λ i. before q i ++ (ap (λ b. map text_of (cond b (x.1 ∷ []) [])) (nat_list_eq_equiv.symm q x.0.now) ∙ second_one (bytes_eq x.0.now q) x) i)
    ∙ sym (under_more q pairs k d lt)

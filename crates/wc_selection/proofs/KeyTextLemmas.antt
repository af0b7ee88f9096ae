-- The texts of keys in sets and maps.
use Rattle.std.proofs.Common.{◌≡◌, ◌⊎◌, inl, ℕ, ◌+◌, ◌<◌, ◌==◌, zero, suc, Bool, true, false, not, ◌&&◌, cond, if◌then◌else◌, List, [], ◌∷◌, ◌++◌, map, filter, length, take, get_or, Some, is_some, unwrap_or, String, Global, string_bytes, refl, sym, ◌∙◌, ap, subst, append-nil, arith}
use Rattle.std.specs.Borrow.{Bor}
use Rattle.std.specs.Str.{bytes_eq}
use Rattle.std.proofs.lemmas.List.{map-append}
use Rattle.std.proofs.lemmas.List.Elements.{filter-append}
use Rattle.std.proofs.lemmas.Slice.Eq.{bytes_eq-Decides}
use Rattle.wc_resolve.specs.Views.{KeyView, interface_key, plain_key}
use Rattle.wc_resolve.specs.declared.worlds.WorldKey.{WorldKey}
use Rattle.wc_selection.proofs.KeyNameLemmas.{not_one, texted}
use Rattle.wc_maps.proofs.ListLemmas.{length_one, passed_more}
use Rattle.wc_selection.specs.KeyNames.{count_unversioned, index_text, keys_as_given, keys_by_index, text_as_given, text_or_index_of, unversioned}
use Rattle.wc_selection.specs.Keys.{NamedKey, named_key, texts_of}
use Rattle.wc_selection.specs.KeyTexts.{HasSingles, IsUnknownKey, ShortTexts, found_short, is_single, keys_found, single, text_found}
use Rattle.wc_selection.specs.ModuleKeys.{IsKeysCause}
use Rattle.wc_maps.specs.Texts.{HasTexts, IsFirstMissing, is_in}
use Rattle.wc_selection.specs.declared.fault.RequestFault.{RequestFault}
use Rattle.wc_selection.specs.declared.fault.RequestFault.TheVariants.{UnknownKey, SeveralKeys, RepeatedKey}

abbrev Pair : Type 0
Pair = WorldKey × String Global

-- the text of one more key
pub texts_more : (keys : List Pair) (k : ℕ) (x : Pair) (text : Bor (List ℕ)) → k < length keys → x ≡ get_or keys k x → text.now ≡ string_bytes x.1
    → texts_of (map named_key (take (k + 1) keys)) ≡ texts_of (map named_key (take k keys)) ++ text.now ∷ []
texts_more keys k x text lt at is =
    ap texts_of (passed_more named_key keys k x lt ∙ ap (λ (z : Pair). map named_key (take k keys) ++ named_key z ∷ []) (sym at))
    ∙ map-append (λ (k : NamedKey). k.1) (map named_key (take k keys)) (named_key x ∷ [])
    ∙ ap (λ t. texts_of (map named_key (take k keys)) ++ t ∷ []) (sym is)

-- one more key of a text without its version

counted_append : (keys : List NamedKey) (k : NamedKey) (t : List ℕ) → count_unversioned (keys ++ k ∷ []) t
    ≡ length (filter (λ (x : NamedKey). bytes_eq (unversioned x) t) keys ++ cond (bytes_eq (unversioned k) t) (k ∷ []) [])
counted_append keys k t = ap length (filter-append (λ (x : NamedKey). bytes_eq (unversioned x) t) keys (k ∷ []))

counted_yes : (keys : List NamedKey) (k : NamedKey) (t : List ℕ) → bytes_eq (unversioned k) t ≡ true
    → count_unversioned (keys ++ k ∷ []) t ≡ suc (count_unversioned keys t)
counted_yes keys k t is =
    counted_append keys k t ∙ ap (λ b. length (filter (λ (x : NamedKey). bytes_eq (unversioned x) t) keys ++ cond b (k ∷ []) [])) is
    ∙ length_one (filter (λ (x : NamedKey). bytes_eq (unversioned x) t) keys) k

counted_no : (keys : List NamedKey) (k : NamedKey) (t : List ℕ) → bytes_eq (unversioned k) t ≡ false
    → count_unversioned (keys ++ k ∷ []) t ≡ count_unversioned keys t
counted_no keys k t is =
    counted_append keys k t ∙ ap (λ b. length (filter (λ (x : NamedKey). bytes_eq (unversioned x) t) keys ++ cond b (k ∷ []) [])) is
    ∙ ap length (append-nil (filter (λ (x : NamedKey). bytes_eq (unversioned x) t) keys))

single_next : (n : ℕ) → single (suc n) ≡ Some (not (is_some (single n)))
single_next zero = refl
single_next (suc zero) = refl
single_next (suc (suc n)) = refl

pub single_more : (keys more : List NamedKey) (k : NamedKey) (old new : ShortTexts) (text : Bor (List ℕ)) (first : Bool) → more ≡ keys ++ k ∷ []
    → text.now ≡ unversioned k → first ≡ not (is_some (found_short old text.now))
    → ((q : Bor (List ℕ)) → found_short new q.now ≡ cond (bytes_eq text.now q.now) (Some first) (found_short old q.now)) → HasSingles keys old → HasSingles more new
single_more keys more k old new text first next is fresh put before t = step (bytes_eq text.now t) refl
  where
    q : Bor (List ℕ)
    q = record { ref_ptr = (0, 0); now = t }

    step : (b : Bool) → bytes_eq text.now t ≡ b → found_short new t ≡ single (count_unversioned more t)
    step true same =
        let here : text.now ≡ t = (bytes_eq-Decides text.now t).0 same in
        let value : first ≡ not (is_some (single (count_unversioned keys t))) =
        fresh ∙ ap (λ z. not (is_some (found_short old z))) here ∙ ap (λ o. not (is_some o)) (before t) in
        let counted : count_unversioned more t ≡ suc (count_unversioned keys t) =
        ap (λ l. count_unversioned l t) next ∙ counted_yes keys k t (ap (λ z. bytes_eq z t) (sym is) ∙ same) in
        put q ∙ ap (λ b. cond b (Some first) (found_short old t)) same ∙ ap Some value
        ∙ sym (ap single counted ∙ single_next (count_unversioned keys t))
    step false other =
        let counted : count_unversioned more t ≡ count_unversioned keys t =
        ap (λ l. count_unversioned l t) next ∙ counted_no keys k t (ap (λ z. bytes_eq z t) (sym is) ∙ other) in
        put q ∙ ap (λ b. cond b (Some first) (found_short old t)) other ∙ before t ∙ sym (ap single counted)

-- the text that is found is the one by which a key is given

single_is : (n : ℕ) → unwrap_or (single n) false ≡ (n == 1)
single_is zero = sym (not_one 0 (λ (e : 0 ≡ 1). omega (arith, e)))
single_is (suc zero) = refl
single_is (suc (suc n)) = sym (not_one (suc (suc n)) (λ (e : suc (suc n) ≡ 1). omega (arith, e)))

module _ (given set own : List (List ℕ)) (all : List NamedKey) (short : ShortTexts) (asked : HasTexts given set) (has : HasTexts (texts_of all) own)
    (singles : HasSingles all short) where
  text_same : (k : NamedKey) → text_found set own short k ≡ text_as_given given all k
  text_same k =
      let one : is_single short (unversioned k) ≡ (count_unversioned all (unversioned k) == 1) =
      ap (λ o. unwrap_or o false) (singles (unversioned k)) ∙ single_is (count_unversioned all (unversioned k)) in
      (λ i. if (asked (unversioned k) i && not (asked k.1 i)) && (one i && not (has (unversioned k) i)) then unversioned k else k.1)

  found_same : (keys : List NamedKey) → keys_found set own short keys ≡ texted (text_as_given given all) keys
  found_same [] = refl
  found_same (k ∷ keys) = λ i. (k.0, text_same k i) ∷ found_same keys i

  pub found_given : keys_found set own short all ≡ keys_as_given given all
  found_given = found_same all

-- and so is the index

module _ (given set : List (List ℕ)) (asked : HasTexts given set) where
  index_same : (key : KeyView) (text : List ℕ) → text_or_index_of set key text ≡ text_or_index_of given key text
  index_same (interface_key id) text = λ i. if asked (index_text id) i then index_text id else text
  index_same (plain_key name) text = refl

  pub indexed_same : (keys : List NamedKey) → keys_by_index set keys ≡ keys_by_index given keys
  indexed_same [] = refl
  indexed_same (k ∷ keys) = λ i. (k.0, index_same k.0 k.1 i) ∷ indexed_same keys i

-- the first text that is missing, by its fault

pub unknown_cause : (given : List (List ℕ)) (own keys : List NamedKey) (text : List ℕ) (f : RequestFault) → IsFirstMissing given (texts_of keys) text
    → IsUnknownKey own text f → IsKeysCause given own keys f
unknown_cause given own keys text (UnknownKey key) missing h =
    subst (λ t. IsFirstMissing given (texts_of keys) t × (is_in (texts_of own) t ≡ false) × (count_unversioned own t ≡ 0)) (sym h.0) (missing, h.1, h.2)
unknown_cause given own keys text (SeveralKeys key) missing h =
    subst (λ t. IsFirstMissing given (texts_of keys) t × (is_in (texts_of own) t ≡ false) × (1 < count_unversioned own t)) (sym h.0) (missing, h.1, h.2)
unknown_cause given own keys text (RepeatedKey key) missing h =
    inl (subst (λ t. IsFirstMissing given (texts_of keys) t × ((is_in (texts_of own) t ≡ true) ⊎ (count_unversioned own t ≡ 1))) (sym h.0) (missing, h.1))
unknown_cause given own keys text f missing h = absurd h

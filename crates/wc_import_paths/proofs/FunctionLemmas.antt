-- Functions that texts ask for: sets of their indices and of their names.
use Rattle.std.proofs.Common.{◌≡◌, ◌∙◌, ℕ, suc, ◌+◌, ◌<◌, Bool, true, false, not, ◌&&◌, ◌||◌, ◌^◌, ◌≤◌, ◌-◌, nat_lt, nat_le, Result, Ok, Err, cond, List, [], ◌∷◌, ◌++◌, length, map, take, get_or, Option, Some, None, refl, sym, ap, subst, arith, inl, inr, nat_eq, string_bytes}
use Rattle.std.proofs.Math.Bool.{or-false}
use Rattle.std.proofs.lemmas.Bool.{and_parts, cases_Bool, eq-eqb, eqb-true, le-ltb, leb-true, lt-ltb, ltb-true}
use Rattle.std.proofs.lemmas.Cmp.{nat_list_eq_equiv}
use Rattle.std.proofs.lemmas.Map.Made.{lookup-map_values}
use Rattle.std.proofs.Math.Bool.{or_assoc}
use Rattle.std.proofs.lemmas.List.{map-append}
use Rattle.std.proofs.lemmas.List.Folds.{list_any-append}
use Rattle.std.proofs.lemmas.Slice.Eq.{bytes_eq-Decides}
use Rattle.std.specs.Prelude.{String}
use Rattle.std.specs.Borrow.{Bor}
use Rattle.std.specs.Char.{digit_value, is_ascii_digit}
use Rattle.std.specs.List.{find, list_all, list_any, range_with_len}
use Rattle.std.specs.Map.{lookup}
use Rattle.std.specs.Option.{is_some, option_map, option_map_or}
use Rattle.std.specs.Result.{result_ok}
use Rattle.std.specs.Str.{bytes_eq}
use Rattle.std.specs.Str.Parse.{AllDigits, IsNumeral, ParsesUnsigned, digits_value, without_leading_plus}
use Rattle.std.specs.declared.alloc.Global.{Global}
use Rattle.wc_graph.proofs.ListLemmas.{range_more}
use Rattle.wc_read.specs.Names.{GlobalNameValue}
use Rattle.wc_why.specs.Component.{caller_named}
use Rattle.wc_why.specs.Texts.{name_at, text_of}
use Rattle.wc_why.specs.Tree.{TreeCallerView, tree_caller_view}
use Rattle.wc_why.specs.declared.tree.TreeCaller.{TreeCaller}
use Rattle.wc_why_text.specs.RustNames.{rust_name}
use Rattle.wc_import_paths.specs.Functions.{asks_either, asks_for, asks_index, asks_name, functions_named, index_of, is_known_function, is_number, shown_name}
use Rattle.wc_import_paths.specs.Private.Functions.{AddsFunction, AddsName, AddsText, AreKnown, AreWanted, has_either, has_index, has_name, is_called, is_either}
use Rattle.wc_import_paths.specs.declared.functions.FunctionKeys.{FunctionKeys}
use Rattle.wc_import_paths.proofs.SearchLemmas.{any_either, any_next, any_same, found_here, none_any, none_more}

-- one function more
pub named_more : (names : List GlobalNameValue) (k : ℕ) (now new : List TreeCallerView) → now ≡ functions_named names k → new ≡ now ++ caller_named names k ∷ []
    → new ≡ functions_named names (k + 1)
named_more names k now new e put =
    let before = range_with_len 0 k in
    let next : k + 1 ≡ suc k = omega arith in
    let same : 0 + k ≡ k = omega arith in
    let more : range_with_len 0 (k + 1) ≡ before ++ k ∷ [] =
    ap (range_with_len 0) next ∙ (range_more 0 k ∙ ap (λ n. before ++ n ∷ []) same) in
    put ∙ (ap (λ z. z ++ caller_named names k ∷ []) e
    ∙ sym (ap (map (caller_named names)) more ∙ map-append (caller_named names) before (k ∷ [])))

-- the name of a function
pub name_is : (names : List (ℕ × Bor (List ℕ))) (index n : ℕ) (r : Option (Bor (List ℕ))) → n ≡ index → index < 2 ^ 32 → r ≡ lookup (nat_eq n) names
    → option_map text_of r ≡ name_at (map (λ e. (e.0, e.1.now)) names) index
name_is names index n r same lt found =
    ap (option_map text_of) (found ∙ ap (λ i. lookup (nat_eq i) names) same)
    ∙ (sym (lookup-map_values (λ (b : Bor (List ℕ)). b.now) (nat_eq index) names)
    ∙ sym (ap (λ b. cond b (lookup (nat_eq index) (map (λ (e : ℕ × Bor (List ℕ)). (e.0, e.1.now)) names)) None) (lt-ltb index (2 ^ 32) lt)))

pub some_named : (name : Option (Bor (List ℕ))) → is_some name ≡ true → option_map_or (λ (n : List ℕ). true) (option_map text_of name) false ≡ true
some_named None e = e
some_named (Some n) e = refl

-- the index that a text of digits is
digit_facts : (c : ℕ) → is_ascii_digit c ≡ true → (48 ≤ c) × (c ≤ 57)
digit_facts c h = let p = and_parts (nat_le 48 c) (nat_le c 57) h in (leb-true 48 c p.0, leb-true c 57 p.1)

digit_small : (c : ℕ) → is_ascii_digit c ≡ true → digit_value c < 10
digit_small c h =
    let p = digit_facts c h in
    let low = p.0 in
    let high = p.1 in
    let less : c < 58 = omega (arith, high) in
    let small : c - 48 < 10 = omega (arith, low, high) in
    rw (le-ltb c 48 low, lt-ltb c 58 less) small

digits_small : (cs : List ℕ) → list_all is_ascii_digit cs ≡ true → AllDigits 10 cs
digits_small [] h = tt
digits_small (c ∷ cs) h = let p = and_parts (is_ascii_digit c) (list_all is_ascii_digit cs) h in (digit_small c p.0, digits_small cs p.1)

are_digits : (text : List ℕ) → is_number text ≡ true → list_all is_ascii_digit text ≡ true
are_digits text h = (and_parts (not (nat_eq (length text) 0)) (list_all is_ascii_digit text) h).1

no_plus : (text : List ℕ) → is_number text ≡ true → without_leading_plus text ≡ text
no_plus [] h = refl
no_plus (c ∷ cs) h =
    let p = and_parts (is_ascii_digit c) (list_all is_ascii_digit cs) (are_digits (c ∷ cs) h) in
    elim (cases_Bool (nat_eq c 43)) [
      | inl plus ↦ absurd (let low = (digit_facts c p.0).0 in let is = eqb-true c 43 plus in omega (arith, low, is))
      | inr other ↦ rw other refl
    ]

numeral : (text : List ℕ) → is_number text ≡ true → IsNumeral 10 text
numeral [] h = let bad : ⊥ = cc h in absurd bad
numeral (c ∷ cs) h = (omega arith, digits_small (c ∷ cs) (are_digits (c ∷ cs) h))

parsed_by : {E : Type 0} (text : List ℕ) (r : Result ℕ E) → is_number text ≡ true → ParsesUnsigned 64 10 text r → result_ok r ≡ index_of text
parsed_by text (Ok n) is h =
    let low : digits_value 10 text < 2 ^ 64 = subst (λ t. digits_value 10 t < 2 ^ 64) (no_plus text is) h.0.1 in
    ap (λ v. Some v) (h.1 ∙ ap (digits_value 10) (no_plus text is))
    ∙ sym (ap (λ b. cond (b && nat_lt (digits_value 10 text) (2 ^ 64)) (Some (digits_value 10 text)) None) is
    ∙ ap (λ b. cond b (Some (digits_value 10 text)) None) (lt-ltb (digits_value 10 text) (2 ^ 64) low))
parsed_by text (Err e) is h =
    elim (cases_Bool (nat_lt (digits_value 10 text) (2 ^ 64))) [
      | inl low ↦ absurd (h (subst (λ t. IsNumeral 10 t × (digits_value 10 t < 2 ^ 64)) (sym (no_plus text is))
          (numeral text is, ltb-true (digits_value 10 text) (2 ^ 64) low)))
      | inr high ↦ sym (ap (λ b. cond (b && nat_lt (digits_value 10 text) (2 ^ 64)) (Some (digits_value 10 text)) None) is
          ∙ ap (λ b. cond b (Some (digits_value 10 text)) None) high)
    ]

pub parsed : {E : Type 0} (text : List ℕ) (r : Result ℕ E) (o : Option ℕ) → o ≡ result_ok r → is_number text ≡ true → ParsesUnsigned 64 10 text r → o ≡ index_of text
parsed text r o e is h = e ∙ parsed_by text r is h

-- a key that is put into a set
module _ {X : Type 0} (same : X → X → Bool) (is : X → Bool) where
  over : (keys : List X) (k : X) → ((y : X) → same k y ≡ true → is y ≡ true) → list_any (same k) keys ≡ true → list_any is keys ≡ true
  over [] k h e = absurd (let it : false ≡ true = e in cc)
  over (y ∷ ys) k h e = elim (cases_Bool (same k y)) [
    | inl it ↦ rw (h y it) refl
    | inr not_it ↦ let rest : list_any (same k) ys ≡ true = rw not_it at e in
        elim (cases_Bool (is y)) [ inl so ↦ rw so refl | inr no_so ↦ rw no_so (over ys k h rest) ]
  ]

  put_by : (b : Bool) (keys : List X) (k : X) → (is k ≡ true → b ≡ true → list_any is keys ≡ true)
      → list_any is (cond b keys (keys ++ k ∷ [])) ≡ (list_any is keys || is k)
  put_by false keys k h = list_any-append is keys (k ∷ []) ∙ ap (λ b. list_any is keys || b) (or-false (is k))
  put_by true keys k h = elim (cases_Bool (is k)) [
    | inl so ↦ let there : list_any is keys ≡ true = h so refl in rw there refl
    | inr no_so ↦ rw no_so (sym (or-false (list_any is keys)))
  ]

  pub put_in : (keys after : List X) (k : X) → (is k ≡ true → (y : X) → same k y ≡ true → is y ≡ true)
      → after ≡ cond (list_any (same k) keys) keys (keys ++ k ∷ []) → list_any is after ≡ (list_any is keys || is k)
  put_in keys after k h e = ap (list_any is) e ∙ put_by (list_any (same k) keys) keys k (λ so. over keys k (h so))

pub index_in : (keys after : List ℕ) (k n : ℕ) → after ≡ cond (list_any (nat_eq k) keys) keys (keys ++ k ∷ []) → has_index after n ≡ (has_index keys n || nat_eq n k)
index_in keys after k n e =
    put_in nat_eq (nat_eq n) keys after k (λ so y it. eq-eqb n y (eqb-true n k so ∙ eqb-true k y it)) e

abbrev same_text : String Global → String Global → Bool
same_text x y = bytes_eq (string_bytes x) (string_bytes y)

pub name_in : (keys after : List (String Global)) (k : String Global) (t : List ℕ)
    → after ≡ cond (list_any (same_text k) keys) keys (keys ++ k ∷ []) → has_name after t ≡ (has_name keys t || bytes_eq t (string_bytes k))
name_in keys after k t e =
    put_in same_text (λ y. bytes_eq t (string_bytes y)) keys after k
    (λ so y it. subst (λ z. bytes_eq t z ≡ true) ((bytes_eq-Decides (string_bytes k) (string_bytes y)).0 it) so) e

-- two names of a function
pub both_in : (keys next after : List (String Global)) (k j : String Global) (name : List ℕ) → string_bytes k ≡ name → string_bytes j ≡ rust_name name
    → next ≡ cond (list_any (same_text k) keys) keys (keys ++ k ∷ []) → after ≡ cond (list_any (same_text j) next) next (next ++ j ∷ [])
    → AddsName keys after name
both_in keys next after k j name this that first second t =
    name_in next after j t second
    ∙ (ap (λ b. b || bytes_eq t (string_bytes j)) (name_in keys next k t first)
    ∙ (or_assoc (has_name keys t) (bytes_eq t (string_bytes k)) (bytes_eq t (string_bytes j))
    ∙ (ap (λ z. has_name keys t || (bytes_eq t z || bytes_eq t (string_bytes j))) this
    ∙ ap (λ z. has_name keys t || (bytes_eq t name || bytes_eq t z)) that)))

-- a text that is a name
no_index : (text : List ℕ) (n : ℕ) → is_number text ≡ false → asks_index n text ≡ false
no_index text n is =
    ap (λ b. option_map_or (λ m. nat_eq m n) (cond (b && nat_lt (digits_value 10 text) (2 ^ 64)) (Some (digits_value 10 text)) None) false) is

pub name_adds : (before after : FunctionKeys) (text : List ℕ) (k : String Global) → is_number text ≡ false → string_bytes k ≡ text
    → after.indices.keys ≡ before.indices.keys
    → after.names.keys ≡ cond (list_any (same_text k) before.names.keys) before.names.keys (before.names.keys ++ k ∷ []) → AddsText before after text
name_adds before after text k is bytes kept put = record {
  indices = λ n. ap (λ keys. has_index keys n) kept
      ∙ (sym (or-false (has_index before.indices.keys n)) ∙ ap (λ b. has_index before.indices.keys n || b) (sym (no_index text n is)));
  names = λ t. name_in before.names.keys after.names.keys k t put
      ∙ ap (λ b. has_name before.names.keys t || b)
      (ap (bytes_eq t) bytes ∙ (nat_list_eq_equiv.symm t text ∙ sym (ap (λ b. not b && bytes_eq text t) is)));
}

-- of texts, and of functions, one more
pub wanted_more : (texts : List (Bor (List ℕ))) (k : ℕ) (d : Bor (List ℕ)) (before after : FunctionKeys) → k < length texts
    → AreWanted (map text_of (take k texts)) before → AddsText before after (text_of (get_or texts k d)) → AreWanted (map text_of (take (k + 1) texts)) after
wanted_more texts k d before after lt w a = record {
  indices = λ n. a.indices n
      ∙ (ap (λ b. b || asks_index n (text_of (get_or texts k d))) (w.indices n) ∙ sym (any_next text_of (asks_index n) texts k d lt));
  names = λ t. a.names t
      ∙ (ap (λ b. b || asks_name t (text_of (get_or texts k d))) (w.names t) ∙ sym (any_next text_of (asks_name t) texts k d lt));
}

pub known_more : (fs : List TreeCaller) (k : ℕ) (d : TreeCaller) (before after : FunctionKeys) → k < length fs
    → AreKnown (map tree_caller_view (take k fs)) before → AddsFunction before after (tree_caller_view (get_or fs k d))
    → AreKnown (map tree_caller_view (take (k + 1) fs)) after
known_more fs k d before after lt w a = record {
  indices = λ n. a.indices n
      ∙ (ap (λ b. b || nat_eq n (tree_caller_view (get_or fs k d)).index) (w.indices n)
      ∙ sym (any_next tree_caller_view (λ (f : TreeCallerView). nat_eq n f.index) fs k d lt));
  names = λ t. a.names t
      ∙ (ap (λ b. b || is_called t (tree_caller_view (get_or fs k d))) (w.names t) ∙ sym (any_next tree_caller_view (is_called t) fs k d lt));
}

-- a function is wanted where some text asks for it
either_any : (texts : List (List ℕ)) (names : List (String Global)) → ((t : List ℕ) → has_name names t ≡ list_any (asks_name t) texts) → (name : List ℕ)
    → has_either names name ≡ list_any (λ text. asks_either text name) texts
either_any texts names w name =
    ap (λ b. b || has_name names (rust_name name)) (w name)
    ∙ (ap (λ b. list_any (asks_name name) texts || b) (w (rust_name name)) ∙ sym (any_either (asks_name name) (asks_name (rust_name name)) texts))

pub wanted_by : (texts : List (List ℕ)) (k : FunctionKeys) → AreWanted texts k → (index : ℕ) (name : Option (List ℕ))
    → list_any (asks_for (record { index = index; name = name })) texts ≡ (has_index k.indices.keys index || option_map_or (has_either k.names.keys) name false)
wanted_by texts k w index None =
    any_either (asks_index index) (λ text. false) texts
    ∙ (ap (λ b. list_any (asks_index index) texts || b) (none_any texts) ∙ ap (λ b. b || false) (sym (w.indices index)))
wanted_by texts k w index (Some name) =
    any_either (asks_index index) (λ text. asks_either text name) texts
    ∙ (ap (λ b. b || list_any (λ text. asks_either text name) texts) (sym (w.indices index))
    ∙ ap (λ b. has_index k.indices.keys index || b) (sym (either_any texts k.names.keys w.names name)))

-- a text asks for one of the functions that are known
module _ (text : List ℕ) where
  number_by : (index : ℕ) (name : Option (List ℕ)) → is_number text ≡ true
      → (asks_index index text || option_map_or (asks_either text) name false) ≡ asks_index index text
  number_by index None is = or-false (asks_index index text)
  number_by index (Some n) is =
      ap (λ b. asks_index index text || b) (ap (λ b. (not b && bytes_eq text n) || (not b && bytes_eq text (rust_name n))) is)
      ∙ or-false (asks_index index text)

  name_by : (index : ℕ) (name : Option (List ℕ)) → is_number text ≡ false
      → (asks_index index text || option_map_or (asks_either text) name false) ≡ option_map_or (is_either text) name false
  name_by index name is = ap (λ b. b || option_map_or (asks_either text) name false) (no_index text index is) ∙ on name
    where
      on : (name : Option (List ℕ)) → option_map_or (asks_either text) name false ≡ option_map_or (is_either text) name false
      on None = refl
      on (Some n) = ap (λ b. (not b && bytes_eq text n) || (not b && bytes_eq text (rust_name n))) is

  module _ (fs : List TreeCallerView) (k : FunctionKeys) (w : AreKnown fs k) where
    by_index : (i : Option ℕ) → option_map_or (has_index k.indices.keys) i false ≡ list_any (λ (f : TreeCallerView). option_map_or (λ n. nat_eq n f.index) i false) fs
    by_index None = sym (none_any fs)
    by_index (Some n) = w.indices n

    pub known_number : is_number text ≡ true → option_map_or (has_index k.indices.keys) (index_of text) false ≡ is_known_function fs text
    known_number is =
        by_index (index_of text)
        ∙ sym (any_same (λ f. asks_for f text) (λ (f : TreeCallerView). asks_index f.index text) fs (λ f. number_by f.index f.name is))

    pub known_name : is_number text ≡ false → has_name k.names.keys text ≡ is_known_function fs text
    known_name is = w.names text ∙ sym (any_same (λ f. asks_for f text) (is_called text) fs (λ f. name_by f.index f.name is))

-- the name that is shown of the first function that fits
module _ (f : TreeCallerView → Bool) (fs : List TreeCaller) (k : ℕ) (d : TreeCaller) (lt : k < length fs) (before : find f (map tree_caller_view (take k fs)) ≡ None) where
  abbrev this : TreeCallerView
  this = tree_caller_view (get_or fs k d)

  fits : (b : Bool) (r : Option (String Global)) (s : String Global) → option_map string_bytes r ≡ cond b (Some (shown_name this)) None → r ≡ Some s
      → (b ≡ true) × (string_bytes s ≡ shown_name this)
  fits true r s e is = (refl, (let both : Some (string_bytes s) ≡ Some (shown_name this) = sym (ap (option_map string_bytes) is) ∙ e in cc))
  fits false r s e is = absurd (let both : Some (string_bytes s) ≡ None = sym (ap (option_map string_bytes) is) ∙ e in cc)

  lacks : (b : Bool) (r : Option (String Global)) → option_map string_bytes r ≡ cond b (Some (shown_name this)) None → r ≡ None → b ≡ false
  lacks false r e is = refl
  lacks true r e is = absurd (let both : None ≡ Some (shown_name this) = sym (ap (option_map string_bytes) is) ∙ e in cc)

  pub shown_here : (r : Option (String Global)) (s : String Global) → option_map string_bytes r ≡ cond (f this) (Some (shown_name this)) None → r ≡ Some s
      → option_map string_bytes (Some s) ≡ option_map shown_name (find f (map tree_caller_view fs))
  shown_here r s e is =
      let it = fits (f this) r s e is in
      ap (λ (t : List ℕ). Some t) it.1 ∙ sym (ap (option_map shown_name) (found_here tree_caller_view f fs k d lt before it.0))

  pub none_here : (r : Option (String Global)) → option_map string_bytes r ≡ cond (f this) (Some (shown_name this)) None → r ≡ None
      → find f (map tree_caller_view (take (k + 1) fs)) ≡ None
  none_here r e is = none_more tree_caller_view f fs k d lt before (lacks (f this) r e is)

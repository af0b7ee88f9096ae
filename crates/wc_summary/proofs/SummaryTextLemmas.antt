-- What is imported of an interface, as a line and as JSON, part by part.
use Rattle.std.proofs.Common.{◌≡◌, ℕ, ◌+◌, ◌<◌, List, [], ◌∷◌, ◌++◌, map, take, length, get_or, refl, sym, ap, ◌∙◌, append_assoc, append-nil, subst, Option, Result, Ok, Err, OnOk, codes, nat_eq, string_bytes}
use Rattle.std.specs.Prelude.{String}
use Rattle.std.specs.Map.{lookup}
use Rattle.std.specs.Option.{option_map}
use Rattle.std.specs.declared.alloc.Global.{Global}
use Rattle.std.specs.Borrow.{Bor}
use Rattle.std.proofs.lemmas.Map.Made.{lookup-map_values}
use Rattle.std.specs.List.{flat_map}
use Rattle.std.proofs.lemmas.List.{map_more, map_push, map-id}
use Rattle.std.proofs.lemmas.List.Concat.{flat_map-append}
use Rattle.json.specs.Json.{Json, string}
use Rattle.json.specs.Token.{Token, begin_array, end_array, key, string as token}
use Rattle.json.specs.Tree.{json_tokens}
use Rattle.json.specs.Written.{Written}
use Rattle.wc_texts.specs.Shapes.{array_of}
use Rattle.wc_why_text.specs.JsonParts.{text_or_null}
use Rattle.wc_why.specs.Texts.{text_of}
use Rattle.wc_summary.specs.Names.{function_name}
use Rattle.wc_why_text.specs.Private.Tokens.{Puts}
use Rattle.wc_why_text.proofs.TokenLemmas.{array_are, both}

-- a text more, of what is next in a list
pub pushed_mapped : {X V : Type 0} (view : X → V) (text : V → List ℕ) (xs : List X) (i : ℕ) (x : X) (start : List (List ℕ)) (old new : List (String Global)) (s : String Global)
    → i < length xs → x ≡ get_or xs i x → map string_bytes old ≡ start ++ map text (map view (take i xs)) → new ≡ old ++ s ∷ [] → string_bytes s ≡ text (view x)
    → map string_bytes new ≡ start ++ map text (map view (take (i + 1) xs))
pushed_mapped view text xs i x start old new s h at before pushed is =
    ap (map string_bytes) pushed
    ∙ (map_push string_bytes old s
    ∙ (ap (λ z. z ++ string_bytes s ∷ []) before
    ∙ (append_assoc start (map text (map view (take i xs))) (string_bytes s ∷ [])
    ∙ ap (λ z. start ++ z)
    (ap (λ z. map text (map view (take i xs)) ++ z ∷ []) (is ∙ ap (λ v. text (view v)) at)
    ∙ sym (ap (map text) (map_more view xs i x h) ∙ map_push text (map view (take i xs)) (view (get_or xs i x)))))))

-- the name of a function
pub name_found : (names : List (ℕ × Bor (List ℕ))) (index : ℕ) (r : Option (Bor (List ℕ))) → r ≡ lookup (nat_eq index) names
    → option_map text_of r ≡ function_name (map (λ e. (e.0, e.1.now)) names) index
name_found names index r f = ap (option_map text_of) f ∙ sym (lookup-map_values (λ (b : Bor (List ℕ)). b.now) (nat_eq index) names)

-- ---- JSON

-- a member that is a text that is the same
pub text_as : {a b : Written} (name x y : List ℕ) → x ≡ y → Puts a b (key name ∷ token x ∷ []) → Puts a b (key name ∷ token y ∷ [])
text_as {a} {b} name x y e p = subst (λ z. Puts a b (key name ∷ token z ∷ [])) e p

-- a member that is a text or null, where the text is the same
pub name_as : {a b : Written} (x y : Option (List ℕ)) → x ≡ y → Puts a b (key (codes "name") ∷ json_tokens (text_or_null x))
    → Puts a b (key (codes "name") ∷ json_tokens (text_or_null y))
name_as {a} {b} x y e p = subst (λ (z : Option (List ℕ)). Puts a b (key (codes "name") ∷ json_tokens (text_or_null z))) e p

-- a member that is a list, of the same values
pub names_as : {a b : Written} (name : List ℕ) (x y : List (String Global)) → x ≡ y → Puts a b (key name ∷ json_tokens (array_of (map string (map string_bytes x))))
    → Puts a b (key name ∷ json_tokens (array_of (map string (map string_bytes y))))
names_as {a} {b} name x y e p = subst (λ (z : List (String Global)). Puts a b (key name ∷ json_tokens (array_of (map string (map string_bytes z))))) e p

pub stays_as : {a b : Written} (x y v w : List (String Global)) → x ≡ y → v ≡ w
    → Puts a b (key (codes "stays") ∷ json_tokens (array_of (map string (map string_bytes x) ++ map string (map string_bytes v))))
    → Puts a b (key (codes "stays") ∷ json_tokens (array_of (map string (map string_bytes y) ++ map string (map string_bytes w))))
stays_as {a} {b} x y v w e f p =
    subst (λ (z : List (String Global)). Puts a b (key (codes "stays") ∷ json_tokens (array_of (map string (map string_bytes y) ++ map string (map string_bytes z))))) f
    (subst (λ (z : List (String Global)). Puts a b (key (codes "stays") ∷ json_tokens (array_of (map string (map string_bytes z) ++ map string (map string_bytes v))))) e p)

pub values_as : {a b : Written} (json : ℕ → Json) (x y : List ℕ) → x ≡ y → Puts a b (key (codes "by") ∷ json_tokens (array_of (map json x)))
    → Puts a b (key (codes "by") ∷ json_tokens (array_of (map json y)))
values_as {a} {b} json x y e p = subst (λ (z : List ℕ). Puts a b (key (codes "by") ∷ json_tokens (array_of (map json z)))) e p

-- a list of what is mapped from itself
pub plain_list : {E : Type 0} (name : List ℕ) (json : ℕ → Json) (xs : List ℕ) (a b : Written) (r : Result (Unit {0}) E)
    → OnOk r (Puts a b (key name ∷ json_tokens (array_of (map json (map (λ (x : ℕ). x) xs))))) → OnOk r (Puts a b (key name ∷ json_tokens (array_of (map json xs))))
plain_list name json xs a b r p = subst (λ (z : List ℕ). OnOk r (Puts a b (key name ∷ json_tokens (array_of (map json z))))) (map-id xs) p

-- values one after another
pub values_none : (a : Written) → Puts a a []
values_none a = record { before = refl; tokens = sym (append-nil a.tokens) }

pub values_one : {E : Type 0} (j : Json) (a b : Written) (r : Result (Unit {0}) E) → OnOk r (Puts a b (json_tokens j)) → OnOk r (Puts a b (flat_map json_tokens (j ∷ [])))
values_one j a b r p = subst (λ (z : List Token). OnOk r (Puts a b z)) (sym (append-nil (json_tokens j))) p

pub values_more : {X V : Type 0} (view : X → V) (json : V → Json) (xs : List X) {a b c : Written} (n : ℕ) (d : X) → n < length xs
    → Puts a b (flat_map json_tokens (map json (map view (take n xs)))) → Puts b c (json_tokens (json (view (get_or xs n d))))
    → Puts a c (flat_map json_tokens (map json (map view (take (n + 1) xs))))
values_more view json xs {a} {b} {c} n d h p q =
    let next : map json (map view (take (n + 1) xs)) ≡ map json (map view (take n xs)) ++ json (view (get_or xs n d)) ∷ [] =
    ap (map json) (map_more view xs n d h) ∙ map_push json (map view (take n xs)) (view (get_or xs n d)) in
    subst (Puts a c)
    (sym (ap (flat_map json_tokens) next ∙ (flat_map-append json_tokens (map json (map view (take n xs))) (json (view (get_or xs n d)) ∷ [])
    ∙ ap (λ z. flat_map json_tokens (map json (map view (take n xs))) ++ z) (append-nil (json_tokens (json (view (get_or xs n d))))))))
    (both p q)

-- a member that is a list, whose values are those of two lists
pub two_lists : {E : Type 0} {a b c d : Written} (name : List ℕ) (xs ys : List Json) (e : Written) (r : Result (Unit {0}) E) → Puts a b (key name ∷ begin_array ∷ [])
    → Puts b c (flat_map json_tokens xs) → Puts c d (flat_map json_tokens ys) → OnOk r (Puts d e (end_array ∷ []))
    → OnOk r (Puts a e (key name ∷ json_tokens (array_of (xs ++ ys))))
two_lists {E} {a} {b} {c} {d} name xs ys e (Ok u) p q s t =
    subst (Puts a e)
    (ap (λ (z : List Token). key name ∷ begin_array ∷ z)
    (sym (append_assoc (flat_map json_tokens xs) (flat_map json_tokens ys) (end_array ∷ [])) ∙ ap (λ (z : List Token). z ++ end_array ∷ []) (sym (flat_map-append json_tokens xs ys)))
    ∙ ap (λ (z : List Token). key name ∷ z) (sym (array_are (xs ++ ys))))
    (both p (both q (both s t)))
two_lists name xs ys e (Err f) p q s t = tt

-- a member that is a list, with some of its values so far
pub record PutsLeft {V : Type 0} (name : List ℕ) (json : V → Json) (all left : List V) (a b : Written) : Type 0 where
  pub front : List V
  pub split : front ++ left ≡ all
  pub put : Puts a b (key name ∷ begin_array ∷ flat_map json_tokens (map json front))

module _ {V : Type 0} (name : List ℕ) (json : V → Json) (all : List V) where
  pub left_start : {a b : Written} (left : List V) → left ≡ all → Puts a b (key name ∷ begin_array ∷ []) → PutsLeft name json all left a b
  left_start left is p = record { front = []; split = is; put = p }

  pub left_next : {a b c : Written} (left rest : List V) (v : V) → left ≡ v ∷ rest → PutsLeft name json all left a b → Puts b c (json_tokens (json v))
      → PutsLeft name json all rest a c
  left_next {a} {b} {c} left rest v is h p =
      let next : flat_map json_tokens (map json h.front) ++ json_tokens (json v) ≡ flat_map json_tokens (map json (h.front ++ v ∷ [])) =
      sym (ap (flat_map json_tokens) (map_push json h.front v) ∙ (flat_map-append json_tokens (map json h.front) (json v ∷ [])
      ∙ ap (λ (z : List Token). flat_map json_tokens (map json h.front) ++ z) (append-nil (json_tokens (json v))))) in
      record {
        front = h.front ++ v ∷ [];
        split = append_assoc h.front (v ∷ []) rest ∙ (ap (λ (z : List V). h.front ++ z) (sym is) ∙ h.split);
        put = subst (λ (z : List Token). Puts a c (key name ∷ begin_array ∷ z)) next (both h.put p);
      }

  pub left_done : {E : Type 0} {a b : Written} (left : List V) (c : Written) (r : Result (Unit {0}) E) → left ≡ [] → PutsLeft name json all left a b
      → OnOk r (Puts b c (end_array ∷ [])) → OnOk r (Puts a c (key name ∷ json_tokens (array_of (map json all))))
  left_done {E} {a} {b} left c (Ok u) none h q =
      let whole : h.front ≡ all = sym (append-nil h.front) ∙ (ap (λ (z : List V). h.front ++ z) (sym none) ∙ h.split) in
      subst (Puts a c) (ap (λ (z : List Token). key name ∷ z) (sym (array_are (map json all))))
      (both (subst (λ (z : List V). Puts a b (key name ∷ begin_array ∷ flat_map json_tokens (map json z))) whole h.put) q)
  left_done left c (Err f) none h q = tt

-- The tokens of lists and objects.
use Rattle.std.proofs.Common.{◌≡◌, ℕ, ◌+◌, ◌<◌, List, [], ◌∷◌, ◌++◌, map, length, get_or, drop, Result, Ok, Err, OnOk, Option, Some, None, refl, ap, sym, subst, append_assoc, append-nil, ◌∙◌}
use Rattle.std.specs.List.{flat_map}
use Rattle.std.specs.Option.{option_map}
use Rattle.std.proofs.lemmas.List.{drop_more, map-id}
use Rattle.json.specs.Json.{Json}
use Rattle.json.specs.Token.{Token, begin_array, end_array, begin_object, end_object, key}
use Rattle.json.specs.Tree.{json_tokens, items_tokens, members_tokens}
use Rattle.wc_texts.specs.Shapes.{Field, array_of, items_of, members_of, nullable_json, object_of}
use Rattle.wc_record.specs.Objects.{Puts, PutsField, PutsFields, PutsJson, fields_tokens}
use Rattle.json.specs.Written.{Written}

-- the tokens of values, without the brackets around them
abbrev pub values_tokens : List Json → List Token
values_tokens js = flat_map json_tokens js

pub items_tokens-items_of : (js : List Json) → items_tokens (items_of js) ≡ values_tokens js ++ end_array ∷ []
items_tokens-items_of [] = refl
items_tokens-items_of (j ∷ js) =
    ap (λ ts. json_tokens j ++ ts) (items_tokens-items_of js)
    ∙ sym (append_assoc (json_tokens j) (values_tokens js) (end_array ∷ []))

pub members_tokens-members_of : (fs : List Field) → members_tokens (members_of fs) ≡ fields_tokens fs ++ end_object ∷ []
members_tokens-members_of [] = refl
members_tokens-members_of (f ∷ fs) =
    ap (λ ts. key f.0 ∷ (json_tokens f.1 ++ ts)) (members_tokens-members_of fs)
    ∙ ap (λ ts. key f.0 ∷ ts) (sym (append_assoc (json_tokens f.1) (fields_tokens fs) (end_object ∷ [])))

-- no members; one before others
pub no_fields : {a : Written} → PutsFields a a []
no_fields {a} = record { before = refl; tokens = sym (append-nil a.tokens) }

pub field_then : {a b c : Written} {name : List ℕ} {j : Json} {fs : List Field}
    → PutsField a b name j → PutsFields b c fs → PutsFields a c ((name, j) ∷ fs)
field_then {a} {b} {c} {name} {j} {fs} p q = record {
  before = q.before ∙ p.before;
  tokens = q.tokens ∙ ap (λ ts. ts ++ fields_tokens fs) p.tokens ∙ append_assoc a.tokens (key name ∷ json_tokens j) (fields_tokens fs);
}

-- members before others
fields_tokens-append : (fs gs : List Field) → fields_tokens (fs ++ gs) ≡ fields_tokens fs ++ fields_tokens gs
fields_tokens-append [] gs = refl
fields_tokens-append (f ∷ fs) gs =
    ap (λ ts. (key f.0 ∷ json_tokens f.1) ++ ts) (fields_tokens-append fs gs)
    ∙ sym (append_assoc (key f.0 ∷ json_tokens f.1) (fields_tokens fs) (fields_tokens gs))

pub fields_then : {a b c : Written} {fs gs : List Field} → PutsFields a b fs → PutsFields b c gs → PutsFields a c (fs ++ gs)
fields_then {a} {b} {c} {fs} {gs} p q = record {
  before = q.before ∙ p.before;
  tokens = q.tokens ∙ ap (λ ts. ts ++ fields_tokens gs) p.tokens ∙ append_assoc a.tokens (fields_tokens fs) (fields_tokens gs)
      ∙ ap (λ ts. a.tokens ++ ts) (sym (fields_tokens-append fs gs));
}

-- an object, by the bracket that opens it, its members, and the bracket that closes it
pub object_written : {E : Type 0} {a b c : Written} {fs : List Field} (d : Written) (r : Result (Unit {0}) E) → Puts a b (begin_object ∷ [])
    → PutsFields b c fs → OnOk r (Puts c d (end_object ∷ [])) → OnOk r (PutsJson a d (object_of fs))
unfolding object_of
object_written {E} {a} {b} {c} {fs} d (Ok u) p q e = record {
  before = e.before ∙ q.before ∙ p.before;
  tokens = e.tokens ∙ ap (λ ts. ts ++ end_object ∷ []) (q.tokens ∙ ap (λ ts. ts ++ fields_tokens fs) p.tokens)
      ∙ append_assoc (a.tokens ++ begin_object ∷ []) (fields_tokens fs) (end_object ∷ [])
      ∙ append_assoc a.tokens (begin_object ∷ []) (fields_tokens fs ++ end_object ∷ [])
      ∙ ap (λ ts. a.tokens ++ (begin_object ∷ ts)) (sym (members_tokens-members_of fs));
}
object_written d (Err f) p q e = tt

-- a list is begun: with these values that are left, all values are written
pub record PutsRest (start now : Written) (all rest : List Json) : Type 0 where
  pub before : now.before ≡ start.before
  pub tokens : start.tokens ++ (begin_array ∷ values_tokens all) ≡ now.tokens ++ values_tokens rest

pub rest_begun : {a b : Written} (all : List Json) → Puts a b (begin_array ∷ []) → PutsRest a b all all
rest_begun {a} {b} all p = record {
  before = p.before;
  tokens = sym (append_assoc a.tokens (begin_array ∷ []) (values_tokens all)) ∙ ap (λ ts. ts ++ values_tokens all) (sym p.tokens);
}

rest_more : {a b c : Written} {all : List Json} {j : Json} {rest : List Json} → PutsRest a b all (j ∷ rest) → PutsJson b c j → PutsRest a c all rest
rest_more {a} {b} {c} {all} {j} {rest} p q = record {
  before = q.before ∙ p.before;
  tokens = p.tokens ∙ sym (append_assoc b.tokens (json_tokens j) (values_tokens rest)) ∙ ap (λ ts. ts ++ values_tokens rest) (sym q.tokens);
}

-- a list of values by their views is begun
pub rest_begun_at : {A B : Type 0} {a b : Written} (xs ys : List A) (view : A → B) (json : B → Json) → ys ≡ xs → Puts a b (begin_array ∷ [])
    → PutsRest a b (map json (map view xs)) (map json (map view ys))
rest_begun_at {A} {B} {a} {b} xs ys view json e p =
    subst (λ zs. PutsRest a b (map json (map view xs)) (map json (map view zs))) (sym e) (rest_begun (map json (map view xs)) p)

-- the next value is written, by its view
pub rest_next : {A B : Type 0} {a b c : Written} {all : List Json} (x : A) (xs ys : List A) (view : A → B) (json : B → Json) → xs ≡ x ∷ ys
    → PutsRest a b all (map json (map view xs)) → PutsJson b c (json (view x)) → PutsRest a c all (map json (map view ys))
rest_next {A} {B} {a} {b} {c} {all} x xs ys view json e p q = rest_more (subst (λ zs. PutsRest a b all (map json (map view zs))) e p) q

-- the next value is written as it is
pub rest_next_same : {B : Type 0} {a b c : Written} {all : List Json} (x : B) (xs ys : List B) (json : B → Json) → xs ≡ x ∷ ys → PutsRest a b all (map json xs)
    → PutsJson b c (json x) → PutsRest a c all (map json ys)
rest_next_same {B} {a} {b} {c} {all} x xs ys json e p q = rest_more (subst (λ zs. PutsRest a b all (map json zs)) e p) q

pub rest_written : {E : Type 0} {a b : Written} {all : List Json} (rest : List Json) (d : Written) (r : Result (Unit {0}) E) → rest ≡ []
    → PutsRest a b all rest → OnOk r (Puts b d (end_array ∷ [])) → OnOk r (PutsJson a d (array_of all))
unfolding array_of
rest_written {E} {a} {b} {all} rest d (Ok u) none p e = record {
  before = e.before ∙ p.before;
  tokens = e.tokens
      ∙ ap (λ ts. ts ++ end_array ∷ []) (sym (append-nil b.tokens) ∙ ap (λ js. b.tokens ++ values_tokens js) (sym none) ∙ sym p.tokens)
      ∙ append_assoc a.tokens (begin_array ∷ values_tokens all) (end_array ∷ [])
      ∙ ap (λ ts. a.tokens ++ (begin_array ∷ ts)) (sym (items_tokens-items_of all));
}
rest_written rest d (Err f) none p e = tt

-- an item of a list, and what is after it
pub drop_next : {A : Type 0} (xs : List A) (n : ℕ) (x : A) → n < length xs → x ≡ get_or xs n x → drop n xs ≡ x ∷ drop (n + 1) xs
drop_next xs n x within is = drop_more xs n x within ∙ ap (λ y. y ∷ drop (n + 1) xs) (sym is)

-- all values by their views are written
pub rest_done : {E A B : Type 0} {a b : Written} {all : List Json} (xs : List A) (view : A → B) (json : B → Json) (d : Written)
    (r : Result (Unit {0}) E) → xs ≡ []
    → PutsRest a b all (map json (map view xs)) → OnOk r (Puts b d (end_array ∷ [])) → OnOk r (PutsJson a d (array_of all))
rest_done xs view json d r none p e = rest_written (map json (map view xs)) d r (ap (λ zs. map json (map view zs)) none) p e

-- a member whose value is another one
pub field_is : {a b : Written} {name : List ℕ} (j k : Json) → j ≡ k → PutsField a b name j → PutsField a b name k
field_is {a} {b} {name} j k e p = subst (PutsField a b name) e p

-- values that are seen as they are
pub array_same : {A : Type 0} (json : A → Json) (xs ys : List A) → xs ≡ ys → array_of (map json (map (λ (x : A). x) xs)) ≡ array_of (map json ys)
array_same json xs ys e = ap (λ zs. array_of (map json zs)) (map-id xs ∙ e)

pub nullable_same : {A : Type 0} (json : A → Json) (o : Option A) → nullable_json json (option_map (λ (x : A). x) o) ≡ nullable_json json o
nullable_same json None = refl
nullable_same json (Some a) = refl

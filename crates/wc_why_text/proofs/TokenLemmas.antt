-- Tokens that are written one after another.
use Rattle.std.proofs.Common.{◌≡◌, ℕ, ◌<◌, ◌+◌, List, [], ◌∷◌, ◌++◌, length, map, take, get_or, Result, Ok, Err, OnOk, refl, sym, ◌∙◌, ap, subst, append_assoc, append-nil, arith}
use Rattle.std.proofs.lemmas.List.{map-append, take_all, take_more}
use Rattle.std.proofs.lemmas.List.Concat.{flat_map-append}
use Rattle.std.specs.List.{flat_map}
use Rattle.json.specs.Json.{Json}
use Rattle.json.specs.Token.{Token, begin_array, end_array, end_object, key}
use Rattle.json.specs.Tree.{items_tokens, json_tokens}
use Rattle.json.specs.Written.{Writes, Written}
use Rattle.wc_texts.specs.Shapes.{array_of, items_of}
use Rattle.wc_why_text.specs.Private.Tokens.{Puts}

-- tokens after others
pub both : {a b c : Written} {xs ys : List Token} → Puts a b xs → Puts b c ys → Puts a c (xs ++ ys)
both {a} {b} {c} {xs} {ys} p q = record {
  before = q.before ∙ p.before;
  tokens = q.tokens ∙ ap (λ z. z ++ ys) p.tokens ∙ append_assoc a.tokens xs ys;
}

-- tokens, and then an object is ended; and tokens before what is written at last
pub closed : {E : Type 0} {a b : Written} {xs : List Token} (c : Written) (r : Result (Unit {0}) E) → Puts a b xs → OnOk r (Puts b c (end_object ∷ []))
    → OnOk r (Puts a c (xs ++ end_object ∷ []))
closed c (Ok u) p q = both p q
closed c (Err e) p q = tt

pub then : {E : Type 0} {a b : Written} {xs : List Token} (ys : List Token) (c : Written) (r : Result (Unit {0}) E) → Puts a b xs → OnOk r (Puts b c ys)
    → OnOk r (Puts a c (xs ++ ys))
then ys c (Ok u) p q = both p q
then ys c (Err e) p q = tt

-- what the writer's calls write
pub wrote : {E : Type 0} {a b : Written} {t : Token} {u : Unit {0}} → Writes {E = E} (Ok u) a b t → Puts a b (t ∷ [])
wrote w = record { before = w.room.0; tokens = w.ok }

pub wrote_last : {E : Type 0} (a b : Written) (t : Token) (r : Result (Unit {0}) E) → Writes r a b t → OnOk r (Puts a b (t ∷ []))
wrote_last a b t (Ok u) w = record { before = w.room.0; tokens = w.ok }
wrote_last a b t (Err e) w = tt

-- the tokens of values, and the bracket after them
items_are : (js : List Json) → items_tokens (items_of js) ≡ flat_map json_tokens js ++ end_array ∷ []
items_are [] = refl
items_are (j ∷ js) = ap (λ ts. json_tokens j ++ ts) (items_are js) ∙ sym (append_assoc (json_tokens j) (flat_map json_tokens js) (end_array ∷ []))

pub array_are : (js : List Json) → json_tokens (array_of js) ≡ begin_array ∷ (flat_map json_tokens js ++ end_array ∷ [])
unfolding array_of
array_are js = ap (λ ts. begin_array ∷ ts) (items_are js)

-- a list that is written as a member, with some of its values so far
module _ {X V : Type 0} (name : List ℕ) (json : V → Json) (view : X → V) (xs : List X) where
  abbrev pub so_far : ℕ → List Token
  so_far n = key name ∷ begin_array ∷ flat_map json_tokens (map json (map view (take n xs)))

  more : (n : ℕ) (d : X) → n < length xs → so_far n ++ json_tokens (json (view (get_or xs n d))) ≡ so_far (n + 1)
  more n d lt =
      let x = get_or xs n d in
      let next : map json (map view (take (n + 1) xs)) ≡ map json (map view (take n xs)) ++ json (view x) ∷ [] =
      ap (λ z. map json (map view z)) (take_more xs n d lt) ∙ (ap (map json) (map-append view (take n xs) (x ∷ [])) ∙ map-append json (map view (take n xs)) (view x ∷ [])) in
      sym (ap (λ z. key name ∷ begin_array ∷ z) (ap (flat_map json_tokens) next
      ∙ (flat_map-append json_tokens (map json (map view (take n xs))) (json (view x) ∷ [])
      ∙ ap (λ z. flat_map json_tokens (map json (map view (take n xs))) ++ z) (append-nil (json_tokens (json (view x)))))))

  pub list_more : {a b c : Written} (n : ℕ) (d : X) → n < length xs → Puts a b (so_far n) → Puts b c (json_tokens (json (view (get_or xs n d))))
      → Puts a c (so_far (n + 1))
  list_more {a} {b} {c} n d lt p q = subst (Puts a c) (more n d lt) (both p q)

  pub list_done : {E : Type 0} {a b : Written} (c : Written) (n : ℕ) (r : Result (Unit {0}) E) → n ≡ length xs → Puts a b (so_far n) → OnOk r (Puts b c (end_array ∷ []))
      → OnOk r (Puts a c (key name ∷ json_tokens (array_of (map json (map view xs)))))
  list_done {E} {a} {b} c n (Ok u) end p q =
      let all : take n xs ≡ xs = take_all n xs (omega (arith, end)) in
      let js = map json (map view xs) in
      subst (Puts a c) (ap (λ z. key name ∷ z) (sym (array_are js)))
      (both (subst (λ z. Puts a b (key name ∷ begin_array ∷ flat_map json_tokens (map json (map view z)))) all p) q)
  list_done c n (Err e) end p q = tt

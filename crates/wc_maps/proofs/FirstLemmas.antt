-- The first text that is none of others, and the first that was there before.
use Rattle.std.proofs.Common.{◌≡◌, ◌↔◌, ℕ, ◌+◌, ◌<◌, suc, Bool, true, false, not, List, [], ◌∷◌, ◌++◌, map, length, take, drop, get_or, All, Contains, sym, ◌∙◌, ap, subst, inl, inr}
use Rattle.std.specs.Borrow.{Bor}
use Rattle.std.specs.List.{list_any}
use Rattle.std.specs.Str.{bytes_eq}
use Rattle.std.proofs.lemmas.Bool.{not-false, or_cases, or_parts}
use Rattle.std.proofs.lemmas.List.{drop_more}
use Rattle.std.proofs.lemmas.Slice.Eq.{bytes_eq-Decides}
use Rattle.wc_maps.proofs.ListLemmas.{contains_cons, contains_head, contains_none, contains_tail, any_held, cut_at}
use Rattle.wc_maps.proofs.SeenLemmas.{IsSeen}
use Rattle.wc_maps.specs.Texts.{IsFirstMissing, IsFirstRepeated, is_in, text_of}

abbrev pub Words : Type 0
Words = List (Bor (List ℕ))

-- a text is in a list exactly where the test says so
pub in_contains : (texts : List (List ℕ)) (text : List ℕ) → is_in texts text ≡ true → Contains texts text
in_contains [] text is = absurd cc
in_contains (x ∷ xs) text is = elim (or_cases (bytes_eq x text) (is_in xs text) is) [
  | inl same ↦ subst (Contains (x ∷ xs)) ((bytes_eq-Decides x text).0 same) (contains_head xs x)
  | inr later ↦ contains_tail x xs text (in_contains xs text later)
]

pub out_lacks : (texts : List (List ℕ)) (text : List ℕ) → is_in texts text ≡ false → Contains texts text → ⊥
out_lacks [] text is has = contains_none text has
out_lacks (x ∷ xs) text is has = elim (contains_cons x xs text has) [
  | inl same ↦ absurd (let yes = (bytes_eq-Decides x text).1 same in let no = (or_parts (bytes_eq x text) (is_in xs text) is).0 in cc)
  | inr later ↦ out_lacks xs text (or_parts (bytes_eq x text) (is_in xs text) is).1 later
]

-- the first that is missing, where the test says so
pub missing_at : (texts : Words) (others : List (List ℕ)) (k : ℕ) (d : Bor (List ℕ)) → k < length texts → All (Contains others) (map text_of (take k texts))
    → is_in others (get_or texts k d).now ≡ false → IsFirstMissing (map text_of texts) others (get_or texts k d).now
missing_at texts others k d lt there absent = record {
  front = map text_of (take k texts);
  back = map text_of (drop (suc k) texts);
  cut = cut_at text_of texts k d lt;
  there = there;
  missing = out_lacks others (get_or texts k d).now absent;
}

-- what is left, from its first text on
pub next_left : (texts : Words) (k : ℕ) (d : Bor (List ℕ)) → k < length texts
    → map text_of (drop k texts) ≡ (get_or texts k d).now ∷ map text_of (drop (k + 1) texts)
next_left texts k d lt = ap (map text_of) (drop_more texts k d lt)

-- a text that was seen
pub repeated_at : (texts : Words) (left rest : List (List ℕ)) (test : Bor (List ℕ) → Bool) (seen : Words) (text : List ℕ) (new : Bool)
    → ((y : Bor (List ℕ)) → (test y ≡ true) ↔ (text ≡ text_of y)) → IsSeen text_of (map text_of texts) left seen → left ≡ text ∷ rest
    → new ≡ not (list_any test seen) → new ≡ false → IsFirstRepeated (map text_of texts) text
repeated_at texts left rest test seen text new law s next is old = record {
  front = map text_of seen;
  back = rest;
  cut = s.split ∙ ap (λ l. map text_of seen ++ l) next;
  distinct = s.distinct;
  repeated = any_held text_of test text law seen (not-false (list_any test seen) (sym is ∙ old));
}

-- Texts in sets: which are there, the first that is not, and one more that is put in.
use Rattle.std.proofs.Common.{◌≡◌, ℕ, Bool, true, false, cond, ◌||◌, List, [], ◌∷◌, ◌++◌, map, Option, Some, None, IfSome, IfNone, All, Contains, refl, sym, ◌∙◌, ap, subst, inl, inr}
use Rattle.std.specs.Borrow.{Bor}
use Rattle.std.specs.List.{list_any}
use Rattle.std.specs.Str.{bytes_eq}
use Rattle.std.proofs.lemmas.Bool.{cases_Bool}
use Rattle.std.proofs.lemmas.Cmp.{nat_list_eq_equiv}
use Rattle.std.proofs.lemmas.List.{map-append}
use Rattle.std.proofs.lemmas.List.Elements.{All-weaker}
use Rattle.std.proofs.lemmas.Slice.Eq.{bytes_eq-Decides}
use Rattle.std.proofs.Math.Bool.{or-false}
use Rattle.wc_maps.proofs.FirstLemmas.{Words, in_contains, out_lacks}
use Rattle.wc_maps.proofs.ListLemmas.{or_step}
use Rattle.wc_maps.specs.Texts.{HasTexts, IsFirstMissing, is_in, text_of}

-- a set has a text where its keys do
pub set_in : (keys : Words) (text : List ℕ) → list_any (λ k. bytes_eq text k.now) keys ≡ is_in (map text_of keys) text
set_in [] text = refl
set_in (k ∷ keys) text = λ i. nat_list_eq_equiv.symm text k.now i || set_in keys text i

-- one more key

held_or : (b c : Bool) → (c ≡ true → b ≡ true) → b ≡ (b || c)
held_or true c h = refl
held_or false true h = h refl
held_or false false h = refl

in_append : (xs : List (List ℕ)) (y t : List ℕ) → is_in (xs ++ y ∷ []) t ≡ (is_in xs t || bytes_eq y t)
in_append [] y t = or-false (bytes_eq y t)
in_append (x ∷ xs) y t = or_step (bytes_eq x t) (is_in (xs ++ y ∷ []) t) (is_in xs t) (bytes_eq y t) (in_append xs y t)

with_held : (keys : List (List ℕ)) (k t : List ℕ) → is_in keys k ≡ true → is_in keys t ≡ (is_in keys t || bytes_eq k t)
with_held keys k t held =
    held_or (is_in keys t) (bytes_eq k t) (λ same. subst (λ (z : List ℕ). is_in keys z ≡ true) ((bytes_eq-Decides k t).0 same) held)

put_one : (b : Bool) (keys : Words) (k : Bor (List ℕ)) (t : List ℕ) → (b ≡ true → is_in (map text_of keys) k.now ≡ true)
    → is_in (map text_of (cond b keys (keys ++ k ∷ []))) t ≡ (is_in (map text_of keys) t || bytes_eq k.now t)
put_one true keys k t held = with_held (map text_of keys) k.now t (held refl)
put_one false keys k t held = ap (λ l. is_in l t) (map-append text_of keys (k ∷ [])) ∙ in_append (map text_of keys) k.now t

pub set_more : (texts more : List (List ℕ)) (keys after : Words) (k : Bor (List ℕ)) → more ≡ texts ++ k.now ∷ []
    → after ≡ cond (list_any (λ y. bytes_eq k.now y.now) keys) keys (keys ++ k ∷ []) → HasTexts texts (map text_of keys) → HasTexts more (map text_of after)
set_more texts more keys after k next put before t =
    ap (λ l. is_in (map text_of l) t) put
    ∙ put_one (list_any (λ y. bytes_eq k.now y.now) keys) keys k t (λ held. sym (set_in keys k.now) ∙ held)
    ∙ ap (λ b. b || bytes_eq k.now t) (before t)
    ∙ sym (ap (λ l. is_in l t) next ∙ in_append texts k.now t)

-- what is in a set, is in the list

contains_in : (texts : List (List ℕ)) (t : List ℕ) → Contains texts t → is_in texts t ≡ true
contains_in texts t has = elim (cases_Bool (is_in texts t)) [ inl there ↦ there | inr lacking ↦ absurd (out_lacks texts t lacking has) ]

listed : (texts keys : List (List ℕ)) → HasTexts texts keys → (t : List ℕ) → Contains keys t → Contains texts t
listed texts keys same t has = in_contains texts t (sym (same t) ∙ contains_in keys t has)

kept : (texts keys : List (List ℕ)) → HasTexts texts keys → (t : List ℕ) → Contains texts t → Contains keys t
kept texts keys same t has = in_contains keys t (same t ∙ contains_in texts t has)

pub missing_listed : (xs texts keys : List (List ℕ)) → HasTexts texts keys → (r : Option (Bor (List ℕ)))
    → IfSome r (λ text. IsFirstMissing xs keys text.now) → IfSome r (λ text. IsFirstMissing xs texts text.now)
missing_listed xs texts keys same None h = tt
missing_listed xs texts keys same (Some t) h = record {
  front = h.front;
  back = h.back;
  cut = h.cut;
  there = All-weaker (Contains keys) (Contains texts) (listed texts keys same) h.front h.there;
  missing = λ has. h.missing (kept texts keys same t.now has);
}

pub there_listed : (xs texts keys : List (List ℕ)) → HasTexts texts keys → (r : Option (Bor (List ℕ)))
    → IfNone r (All (Contains keys) xs) → IfNone r (All (Contains texts) xs)
there_listed xs texts keys same None h = All-weaker (Contains keys) (Contains texts) (listed texts keys same) xs h
there_listed xs texts keys same (Some t) h = tt

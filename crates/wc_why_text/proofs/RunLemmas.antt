-- The runs of a tree.
use Rattle.std.proofs.Common.{◌≡◌, ℕ, zero, suc, ◌+◌, ◌-◌, ◌<◌, Bool, true, false, ◌||◌, cond, List, [], ◌∷◌, ◌++◌, map, take, length, get_or, refl, sym, ap, ◌∙◌, arith}
use Rattle.std.proofs.Math.Bool.{or-false}
use Rattle.std.proofs.lemmas.List.Folds.{list_any-append, list_any_more}
use Rattle.std.proofs.lemmas.List.FromFn.{map-range_with_len_more}
use Rattle.std.specs.List.{list_any, range_with_len}
use Rattle.indexmap.specs.IndexSet.{insert_key}
use Rattle.wc_paths.proofs.CallListLemmas.{key_same}
use Rattle.wc_paths.specs.CallLists.{is_call_key as is_place}
use Rattle.wc_why_text.specs.Runs.{Place, first_of, is_among}

-- what is among items, when one more is put to a set of them

among_more : (places : List Place) (new p : Place) → is_among (insert_key is_place places new) p ≡ (is_among places p || is_place p new)
among_more places new p = by (list_any (is_place new) places) refl
  where
    known : (b : Bool) → list_any (is_place new) places ≡ true → is_place p new ≡ b → is_among places p ≡ (is_among places p || is_place p new)
    known true there same =
        let has : is_among places p ≡ true = ap (is_among places) (key_same p new same) ∙ there in
        has ∙ sym (ap (λ b. b || is_place p new) has)
    known false there other = sym (ap (λ b. is_among places p || b) other ∙ or-false (is_among places p))

    by : (b : Bool) → list_any (is_place new) places ≡ b → is_among (insert_key is_place places new) p ≡ (is_among places p || is_place p new)
    by true there = rw there (known (is_place p new) there refl)
    by false absent = rw absent (list_any-append (is_place p) places (new ∷ []) ∙ ap (λ b. is_among places p || b) (or-false (is_place p new)))

pub ends_more : (ends : List Place) (i : ℕ) (d : Place) (set new : List Place) → i < length ends
    → ((q : Place) → is_among set q ≡ is_among (take i ends) q) → new ≡ insert_key is_place set (get_or ends i d)
    → (q : Place) → is_among new q ≡ is_among (take (i + 1) ends) q
ends_more ends i d set new within before put q =
    ap (λ l. is_among l q) put ∙ among_more set (get_or ends i d) q ∙ ap (λ b. b || is_place q (get_or ends i d)) (before q)
    ∙ sym (list_any_more (is_place q) ends i d within)

-- the first item of the run of each item, and of one more

either : (b : Bool) (n : ℕ) → cond b n n ≡ n
either true n = refl
either false n = refl

before_next : (k : ℕ) → suc k - 1 ≡ k
before_next k = omega arith

first_more : (joined : ℕ → Bool) (k first : ℕ) → first ≡ first_of joined (k - 1) → cond (joined k) first k ≡ first_of joined k
first_more joined zero first is = ap (λ z. cond (joined 0) z 0) is ∙ either (joined 0) 0
first_more joined (suc k) first is = ap (λ z. cond (joined (suc k)) z (suc k)) (is ∙ ap (first_of joined) (before_next k))

after_next : (k : ℕ) → k ≡ (k + 1) - 1
after_next k = omega arith

pub firsts_more : (joined : ℕ → Bool) (k before first : ℕ) (firsts new : List ℕ) → firsts ≡ map (first_of joined) (range_with_len 0 k)
    → before ≡ first_of joined (k - 1) → first ≡ cond (joined k) before k → new ≡ firsts ++ first ∷ []
    → (new ≡ map (first_of joined) (range_with_len 0 (k + 1))) × (first ≡ first_of joined ((k + 1) - 1))
firsts_more joined k before first firsts new done last is put =
    let here : first ≡ first_of joined k = is ∙ first_more joined k before last in (
      put ∙ (λ i. done i ++ here i ∷ []) ∙ sym (map-range_with_len_more (first_of joined) 0 k k (omega arith)),
      here ∙ ap (first_of joined) (after_next k),
    )

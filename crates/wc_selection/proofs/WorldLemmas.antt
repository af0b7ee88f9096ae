-- Worlds that have a name, one index after another.
use Rattle.std.proofs.Common.{◌≡◌, ℕ, ◌+◌, zero, suc, Bool, true, false, List, [], ◌∷◌, ◌++◌, refl, ◌∙◌, ap, subst, arith, append-nil, ◌<◌, length, All}
use Rattle.wc_json.specs.Document.{DocumentView}
use Rattle.wc_selection.specs.Worlds.{IsSelected, is_named, or_else, worlds_named}
use Rattle.wc_selection.specs.declared.worlds.NameForm.TheVariants.{Full, Short}
use Rattle.wc_resolve.specs.declared.ids.PackageId.{PackageId}
use Rattle.std.specs.List.{filter, range_with_len}
use Rattle.std.proofs.lemmas.List.Elements.{All-cons, All-filter, All-head, All-nil, filter-append}

abbrev pub id_of : PackageId → ℕ
id_of id = id.0

range_push : (a n : ℕ) → range_with_len a (suc n) ≡ range_with_len a n ++ (a + n) ∷ []
range_push a zero = let same : a ≡ a + 0 = omega arith in ap (λ k. k ∷ []) same
range_push a (suc n) =
    let same : (a + 1) + n ≡ a + suc n = omega arith in ap (λ l. a ∷ l) (range_push (a + 1) n ∙ ap (λ k. range_with_len (a + 1) n ++ k ∷ []) same)

range_more : (n : ℕ) → range_with_len 0 (n + 1) ≡ range_with_len 0 n ++ n ∷ []
range_more n = let next : n + 1 ≡ suc n = omega arith in let same : 0 + n ≡ n = omega arith in ap (range_with_len 0) next ∙ range_push 0 n
    ∙ ap (λ k. range_with_len 0 n ++ k ∷ []) same

pub named_yes : (test : ℕ → Bool) (n : ℕ) → test n ≡ true → filter test (range_with_len 0 (n + 1)) ≡ filter test (range_with_len 0 n) ++ n ∷ []
named_yes test n is = ap (filter test) (range_more n) ∙ filter-append test (range_with_len 0 n) (n ∷ []) ∙ rw is refl

pub named_no : (test : ℕ → Bool) (n : ℕ) → test n ≡ false → filter test (range_with_len 0 (n + 1)) ≡ filter test (range_with_len 0 n)
named_no test n is = ap (filter test) (range_more n) ∙ filter-append test (range_with_len 0 n) (n ∷ []) ∙ rw is (append-nil _)

-- a world that is selected is there

abbrev Below : ℕ → ℕ → Type 0
Below n k = k < n

below_all : (a n : ℕ) → All (Below (a + n)) (range_with_len a n)
below_all a zero = All-nil (Below (a + 0))
below_all a (suc n) =
    let next : (a + 1) + n ≡ a + suc n = omega arith in
    All-cons (Below (a + suc n)) a (range_with_len (a + 1) n) (omega arith) (subst (λ k. All (Below k) (range_with_len (a + 1) n)) next (below_all (a + 1) n))

below_named : (test : ℕ → Bool) (n index : ℕ) → filter test (range_with_len 0 n) ≡ index ∷ [] → index < n
below_named test n index only =
    let all : All (Below (0 + n)) (filter test (range_with_len 0 n)) = All-filter test (Below (0 + n)) (range_with_len 0 n) (below_all 0 n) in
    let here : index < 0 + n = All-head (Below (0 + n)) index [] (subst (All (Below (0 + n))) only all) in
    omega arith

below_meant : (test other : ℕ → Bool) (n index : ℕ) (full : List ℕ) → filter test (range_with_len 0 n) ≡ full
    → or_else full (filter other (range_with_len 0 n)) ≡ index ∷ [] → index < n
below_meant test other n index [] is only = below_named other n index only
below_meant test other n index (x ∷ xs) is only = below_named test n index (is ∙ only)

pub selected_there : (d : DocumentView) (text : List ℕ) (index : ℕ) → IsSelected d text index → index < length d.parts.worlds
selected_there d text index h = below_meant (is_named d Full text) (is_named d Short text) (length d.parts.worlds) index (worlds_named d Full text) refl h.1.0

-- Names that were seen, and whether one of them comes again.
use Rattle.std.proofs.Common.{◌≡◌, ◌≢◌, ◌↔◌, ℕ, suc, ◌<◌, ◌+◌, Bool, true, false, not, cond, List, [], ◌∷◌, ◌++◌, map, length, take, get_or, refl, sym}
use Rattle.std.proofs.Common.{ap, ◌∙◌, subst, inl, inr, arith, length-append}
use Rattle.std.specs.List.{AllPairs, Contains, list_any}
use Rattle.std.proofs.Math.Seq.{get_or-append_seam}
use Rattle.std.proofs.lemmas.Bool.{not-true, not-false, or_cases, or_left, or_right}
use Rattle.std.proofs.lemmas.List.{get_or_append_left, get_or_default, length-map, map-append, take-map, take_more}
use Rattle.std.proofs.lemmas.List.Quantifiers.{all_pairs_push}
use Rattle.wc_resolve.specs.declared.packages.Package.{Package}
use Rattle.wc_resolve.specs.declared.packages.PackageName.{PackageName}
use Rattle.wc_resolve.specs.contracts.packages.PackageNamePartialEq.TheImpl.{eq-value}
use Rattle.wc_resolve.specs.Explain.{IsRepeatAt}
use Rattle.wc_resolve.specs.WellFormed.{HaveDistinctNames}
use Rattle.wc_resolve.proofs.PackageNameLemmas.{names_law}
use Rattle.wc_resolve.specs.Views.{PackageNameView, PackageView, package_name_view, package_view}
use Rattle.wc_maps.proofs.ListLemmas.{contains_cons, contains_head, contains_none, contains_tail}

-- no two of the names are equal
abbrev pub AreDistinct : List PackageNameView → Type 0
AreDistinct names = AllPairs (λ m n. m ≢ n) names

distinct_push : (xs : List PackageNameView) (y : PackageNameView) → AreDistinct xs → (Contains xs y → ⊥) → AreDistinct (xs ++ y ∷ [])
distinct_push xs y a new = all_pairs_push (λ m n. m ≢ n) xs y a (λ k d small same. new (k, small, get_or_default xs k y d small ∙ same))

again : (xs rest : List PackageNameView) (y : PackageNameView) → Contains xs y → AreDistinct (xs ++ y ∷ rest) → ⊥
again xs rest y h a =
    let longer : length (xs ++ y ∷ rest) ≡ length xs + suc (length rest) = length-append xs (y ∷ rest) in
    let within : length xs < length (xs ++ y ∷ rest) = omega (arith, longer) in
    a h.0 (length xs) y h.1 within (get_or_append_left xs (y ∷ rest) y h.0 h.1 ∙ h.2 ∙ sym (get_or-append_seam xs y rest y))

-- the keys, seen as names, are the names so far, and no two of these are equal
pub record AreSeen {K : Type 0} (v : K → PackageNameView) (keys : List K) (names : List PackageNameView) : Type 0 where
  pub same : map v keys ≡ names
  pub distinct : AreDistinct names

any_contains : {K : Type 0} (v : K → PackageNameView) (test : K → Bool) (n : PackageNameView) → ((y : K) → (test y ≡ true) ↔ (n ≡ v y)) → (keys : List K)
    → list_any test keys ≡ true → Contains (map v keys) n
any_contains v test n law [] h = absurd (let e : false ≡ true = h in let bad : ⊥ = cc e in bad)
any_contains v test n law (x ∷ keys) h =
    elim (or_cases (test x) (list_any test keys) h) [
      | inl e ↦ subst (λ (z : PackageNameView). Contains (v x ∷ map v keys) z) (sym ((law x).0 e)) (contains_head (map v keys) (v x))
      | inr rest ↦ contains_tail (v x) (map v keys) n (any_contains v test n law keys rest)
    ]

contains_any : {K : Type 0} (v : K → PackageNameView) (test : K → Bool) (n : PackageNameView) → ((y : K) → (test y ≡ true) ↔ (n ≡ v y)) → (keys : List K)
    → Contains (map v keys) n → list_any test keys ≡ true
contains_any v test n law [] h = absurd (contains_none n h)
contains_any v test n law (x ∷ keys) h =
    elim (contains_cons (v x) (map v keys) n h) [
      | inl same ↦ or_left (test x) (list_any test keys) ((law x).1 (sym same))
      | inr rest ↦ or_right (test x) (list_any test keys) (contains_any v test n law keys rest)
    ]

pub seen_none : {K : Type 0} (v : K → PackageNameView) → AreSeen v [] []
seen_none v = record { same = refl; distinct = λ i j d less small. absurd (omega (arith, less, small)) }

-- one more name, which was not seen
pub seen_more : {K : Type 0} (v : K → PackageNameView) (test : K → Bool) (keys after : List K) (k : K) (n : PackageNameView)
    (names : List PackageNameView) (new : Bool)
    → ((y : K) → (test y ≡ true) ↔ (n ≡ v y)) → v k ≡ n → AreSeen v keys names → new ≡ not (list_any test keys) → new ≡ true
    → after ≡ cond (list_any test keys) keys (keys ++ k ∷ []) → AreSeen v after (names ++ n ∷ [])
seen_more v test keys after k n names new law is s e t made =
    let fresh : list_any test keys ≡ false = not-true (list_any test keys) (sym e ∙ t) in
    let grown : after ≡ keys ++ k ∷ [] = made ∙ ap (λ b. cond b keys (keys ++ k ∷ [])) fresh in
    record {
      same = ap (λ ks. map v ks) grown ∙ map-append v keys (k ∷ []) ∙ ap (λ ns. ns ++ v k ∷ []) s.same ∙ ap (λ z. names ++ z ∷ []) is;
      distinct = distinct_push names n s.distinct (λ h.
          let there : Contains (map v keys) n = subst (λ (z : List PackageNameView). Contains z n) (sym s.same) h in
          let found : list_any test keys ≡ true = contains_any v test n law keys there in
          let bad : true ≡ false = sym found ∙ fresh in let none : ⊥ = cc bad in none);
    }

-- a name that was seen comes again
pub seen_again : {K : Type 0} (v : K → PackageNameView) (test : K → Bool) (keys : List K) (n : PackageNameView) (names rest : List PackageNameView) (new : Bool)
    → ((y : K) → (test y ≡ true) ↔ (n ≡ v y)) → AreSeen v keys names → new ≡ not (list_any test keys) → new ≡ false → AreDistinct (names ++ n ∷ rest) → ⊥
seen_again v test keys n names rest new law s e f distinct =
    let found : list_any test keys ≡ true = not-false (list_any test keys) (sym e ∙ f) in
    again names rest n (subst (λ (z : List PackageNameView). Contains z n) s.same (any_contains v test n law keys found)) distinct

-- a copy of a name is equal to the names that it is equal to
pub copies_law : (copy original : PackageName) → package_name_view copy ≡ package_name_view original → (y : PackageName)
    → (eq-value.it copy y ≡ true) ↔ (package_name_view original ≡ package_name_view y)
copies_law copy original same y = subst (λ (n : PackageNameView). (eq-value.it copy y ≡ true) ↔ (n ≡ package_name_view y)) same (names_law copy y)

abbrev pub names_of : List Package → List PackageNameView
names_of ps = map (λ (p : PackageView). p.name) (map package_view ps)

pub names_more : (ps : List Package) (i : ℕ) (p : Package) → i < length ps → p ≡ get_or ps i p → names_of (take (i + 1) ps) ≡ names_of (take i ps)
    ++ package_name_view p.name ∷ []
names_more ps i p small read =
    ap (λ z. names_of z) (take_more ps i p small ∙ ap (λ z. take i ps ++ z ∷ []) (sym read))
    ∙ ap (λ z. map (λ (q : PackageView). q.name) z) (map-append package_view (take i ps) (p ∷ []))
    ∙ map-append (λ (q : PackageView). q.name) (map package_view (take i ps)) (package_view p ∷ [])

-- the package at an index has a name that was seen
pub repeat_found : (ps : List Package) (i : ℕ) (keys : List PackageName) (copy : PackageName) (p : Package) (new : Bool) → i < length ps → p ≡ get_or ps i p
    → package_name_view copy ≡ package_name_view p.name → AreSeen package_name_view keys (names_of (take i ps))
    → new ≡ not (list_any (eq-value.it copy) keys) → new ≡ false → IsRepeatAt (map package_view ps) i
repeat_found ps i keys copy p new small read same seen e f = (
  subst (λ n. i < n) (sym (length-map ps package_view)) small,
  subst HaveDistinctNames (sym (take-map package_view i ps)) seen.distinct,
  λ distinct.
      let here : HaveDistinctNames (map package_view (take (i + 1) ps)) = subst HaveDistinctNames (take-map package_view (i + 1) ps) distinct in
      seen_again package_name_view (eq-value.it copy) keys (package_name_view p.name) (names_of (take i ps)) [] new (copies_law copy p.name same) seen e f
      (subst AreDistinct (names_more ps i p small read) here),
)

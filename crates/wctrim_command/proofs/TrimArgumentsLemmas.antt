-- The arguments of a trim, read forward, are those of the one trim that they spell.
use Rattle.std.proofs.Common.{◌≡◌, ℕ, true, not, ◌||◌, cond, List, [], ◌∷◌, ◌++◌, codes, Option, Some, None, refl, sym, ◌∙◌, ap, subst, inl}
use Rattle.std.proofs.Common.{inr, ◌⊎◌}
use Rattle.std.proofs.lemmas.Bool.{cases_Bool, not-true, or_parts}
use Rattle.std.specs.Option.{option_map}
use Rattle.std.specs.Str.{bytes_eq}
use Rattle.std.proofs.lemmas.Slice.Eq.{bytes_eq-Decides}
use Rattle.std.proofs.lemmas.Option.{same_Some}
use Rattle.wc_gc.proofs.ExportLemmas.{differ}
use Rattle.wctrim_command.specs.Command.{IsTrimLine, IsPageOption, AreExports, realloc_arguments}
use Rattle.wctrim_command.specs.Private.TrimArguments.{realloc_parts, page_of, page_parts, either_realloc, are_exports, checked_parts, parts_after, trim_parts, TrimParts}

abbrev PageParts : Type 0
PageParts = ℕ × List (List ℕ)

-- what is read is put together again

realloc_valid : (arguments : List (List ℕ)) → arguments ≡ realloc_arguments (realloc_parts arguments).0 ++ (realloc_parts arguments).1
realloc_valid [] = refl
realloc_valid (argument ∷ []) = refl
realloc_valid (argument ∷ name ∷ arguments) =
    elim (cases_Bool (bytes_eq argument (codes "--realloc"))) [
      | inl same ↦ rw same (ap (λ w. w ∷ name ∷ arguments) ((bytes_eq-Decides argument (codes "--realloc")).0 same))
      | inr other ↦ rw other refl
    ]

page_valid : (argument : List ℕ) (page_size_log2 : ℕ) → page_of argument ≡ Some page_size_log2 → IsPageOption page_size_log2 (codes "--page" ∷ argument ∷ [])
page_valid argument page_size_log2 =
    elim (cases_Bool (bytes_eq argument (codes "0"))) [
      | inl same ↦ rw same (λ e. let is : page_size_log2 ≡ 0 = cc in inr (inl (is, ap (λ w. codes "--page" ∷ w ∷ []) ((bytes_eq-Decides argument (codes "0")).0 same))))
      | inr other ↦
          elim (cases_Bool (bytes_eq argument (codes "16"))) [
            | inl same ↦ rw (other, same) (λ e. let is : page_size_log2 ≡ 16 = cc in
                inr (inr (is, ap (λ w. codes "--page" ∷ w ∷ []) ((bytes_eq-Decides argument (codes "16")).0 same))))
            | inr none ↦ rw (other, none) (λ e. absurd cc)
          ]
    ]

-- the arguments before those that are left are a page's option
abbrev IsPaged : ℕ → List (List ℕ) → List (List ℕ) → Type 0
IsPaged page_size_log2 arguments rest = (paged : List (List ℕ)) × IsPageOption page_size_log2 paged × (arguments ≡ paged ++ rest)

paged_by : (digits : List ℕ) (arguments rest : List (List ℕ)) (page_size_log2 : ℕ) (found : Option ℕ) → page_of digits ≡ found
    → option_map {U = ℕ × List (List ℕ)} (λ p. (p, arguments)) found ≡ Some (page_size_log2, rest) → IsPaged page_size_log2 (codes "--page" ∷ digits ∷ arguments) rest
paged_by digits arguments rest page_size_log2 None at e = absurd cc
paged_by digits arguments rest page_size_log2 (Some p) at e =
    let both = same_Some {A = PageParts} (p, arguments) (page_size_log2, rest) e in
    let same : p ≡ page_size_log2 = ap (λ (q : PageParts). q.0) both in
    let left : arguments ≡ rest = ap (λ (q : PageParts). q.1) both in
    (codes "--page" ∷ digits ∷ [], page_valid digits page_size_log2 (at ∙ ap Some same), ap (λ l. codes "--page" ∷ digits ∷ l) left)

abbrev page_answer : ℕ → List (List ℕ) → Option PageParts
page_answer page_size_log2 arguments = Some (page_size_log2, arguments)

unpaged : (arguments rest : List (List ℕ)) (page_size_log2 : ℕ) → page_answer 16 arguments ≡ Some (page_size_log2, rest) → IsPaged page_size_log2 arguments rest
unpaged arguments rest page_size_log2 e =
    let both = same_Some {A = PageParts} (16, arguments) (page_size_log2, rest) e in
    ([], inl (sym (ap (λ (q : PageParts). q.0) both), refl), ap (λ (q : PageParts). q.1) both)

pages_valid : (arguments rest : List (List ℕ)) (page_size_log2 : ℕ) → page_parts arguments ≡ Some (page_size_log2, rest) → IsPaged page_size_log2 arguments rest
pages_valid [] rest page_size_log2 = unpaged [] rest page_size_log2
pages_valid (argument ∷ []) rest page_size_log2 = unpaged (argument ∷ []) rest page_size_log2
pages_valid (argument ∷ digits ∷ arguments) rest page_size_log2 =
    elim (cases_Bool (bytes_eq argument (codes "--page"))) [
      | inl same ↦ rw (same, (bytes_eq-Decides argument (codes "--page")).0 same) (paged_by digits arguments rest page_size_log2 (page_of digits) refl)
      | inr other ↦ rw other (unpaged (argument ∷ digits ∷ arguments) rest page_size_log2)
    ]

exports_valid : (exports : List (List ℕ)) → are_exports exports ≡ true → AreExports exports
exports_valid [] e = absurd cc
exports_valid (first ∷ others) e =
    let neither = not-true (bytes_eq first (codes "--realloc") || bytes_eq first (codes "--page")) e in
    let no = or_parts (bytes_eq first (codes "--realloc")) (bytes_eq first (codes "--page")) neither in (
      λ is. absurd (let same = (bytes_eq-Decides first (codes "--realloc")).1 is in cc),
      λ is. absurd (let same = (bytes_eq-Decides first (codes "--page")).1 is in cc),
    )

checked_valid : (page_size_log2 : ℕ) (q : Option (List ℕ) × List (List ℕ)) (realloc : Option (List ℕ)) (p : ℕ) (exports : List (List ℕ))
    → checked_parts page_size_log2 q ≡ Some (realloc, p, exports) → (q ≡ (realloc, exports)) × (page_size_log2 ≡ p) × AreExports exports
checked_valid page_size_log2 (name, arguments) realloc p exports =
    elim (cases_Bool (are_exports arguments)) [
      | inl true_is ↦ rw true_is (λ h. let same = same_Some {A = TrimParts} (name, page_size_log2, arguments) (realloc, p, exports) h in (
        ap (λ (t : TrimParts). (t.0, t.2)) same,
        ap (λ (t : TrimParts). t.1) same,
        subst AreExports (ap (λ (t : TrimParts). t.2) same)
            (exports_valid arguments true_is),
      ))
      | inr false_is ↦ rw false_is (λ h. absurd cc)
    ]

after_valid : (arguments : List (List ℕ)) (name : Option (List ℕ)) (left : List (List ℕ)) (realloc : Option (List ℕ)) (page_size_log2 : ℕ)
    (exports : List (List ℕ)) → arguments ≡ realloc_arguments name ++ left → (found : Option (ℕ × List (List ℕ))) → page_parts left ≡ found
    → parts_after name found ≡ Some (realloc, page_size_log2, exports) → IsTrimLine arguments realloc page_size_log2 exports
after_valid arguments name left realloc page_size_log2 exports split None at h = absurd cc
after_valid arguments (Some name) left realloc page_size_log2 exports split (Some (n, rest)) at h =
    let paged = pages_valid left rest n at in
    let known = checked_valid n (Some name, rest) realloc page_size_log2 exports h in
    record {
      paged = paged.0;
      is_page = subst (λ z. IsPageOption z paged.0) known.1 paged.1;
      are_exports = known.2;
      joined = inl (split ∙ (ap (λ l. realloc_arguments (Some name) ++ l) paged.2 ∙ ap (λ q. realloc_arguments q.0 ++ (paged.0 ++ q.1)) known.0));
    }
after_valid arguments None left realloc page_size_log2 exports split (Some (n, rest)) at h =
    let paged = pages_valid left rest n at in
    let known = checked_valid n (realloc_parts rest) realloc page_size_log2 exports h in
    record {
      paged = paged.0;
      is_page = subst (λ z. IsPageOption z paged.0) known.1 paged.1;
      are_exports = known.2;
      joined = inr (split ∙ (paged.2 ∙ (ap (λ l. paged.0 ++ l) (realloc_valid rest) ∙ ap (λ q. paged.0 ++ (realloc_arguments q.0 ++ q.1)) known.0)));
    }

pub trim_valid : (arguments : List (List ℕ)) (realloc : Option (List ℕ)) (page_size_log2 : ℕ) (exports : List (List ℕ))
    → trim_parts arguments ≡ Some (realloc, page_size_log2, exports) → IsTrimLine arguments realloc page_size_log2 exports
trim_valid arguments realloc page_size_log2 exports h = after_valid arguments (realloc_parts arguments).0 (realloc_parts arguments).1 realloc page_size_log2 exports
    (realloc_valid arguments) (page_parts (realloc_parts arguments).1) refl h

-- what is put together is read again

exports_complete : (exports : List (List ℕ)) → AreExports exports → are_exports exports ≡ true
exports_complete [] h = absurd h
exports_complete (first ∷ others) h = rw (differ first (codes "--realloc") h.0, differ first (codes "--page") h.1) refl

no_realloc : (exports : List (List ℕ)) → AreExports exports → realloc_parts exports ≡ (None, exports)
no_realloc [] h = absurd h
no_realloc (first ∷ []) h = refl
no_realloc (first ∷ second ∷ others) h = rw (differ first (codes "--realloc") h.0) refl

no_page : (exports : List (List ℕ)) → AreExports exports → page_parts exports ≡ Some (16, exports)
no_page [] h = absurd h
no_page (first ∷ []) h = refl
no_page (first ∷ second ∷ others) h = rw (differ first (codes "--page") h.1) refl

realloc_complete : (name : Option (List ℕ)) (arguments : List (List ℕ)) → realloc_parts arguments ≡ (None, arguments)
    → realloc_parts (realloc_arguments name ++ arguments) ≡ (name, arguments)
realloc_complete None arguments h = h
realloc_complete (Some name) arguments h = refl

page_complete : (page_size_log2 : ℕ) (paged arguments : List (List ℕ)) → IsPageOption page_size_log2 paged → page_parts arguments ≡ Some (16, arguments)
    → page_parts (paged ++ arguments) ≡ Some (page_size_log2, arguments)
page_complete page_size_log2 paged arguments (inl (is, nil)) h = rw (nil, is) h
page_complete page_size_log2 paged arguments (inr (inl (is, given))) h = rw (given, is) refl
page_complete page_size_log2 paged arguments (inr (inr (is, given))) h = rw (given, is) refl

page_first : (page_size_log2 : ℕ) (paged arguments : List (List ℕ)) → IsPageOption page_size_log2 paged → realloc_parts arguments ≡ (None, arguments)
    → realloc_parts (paged ++ arguments) ≡ (None, paged ++ arguments)
page_first page_size_log2 paged arguments (inl (is, nil)) h = rw nil h
page_first page_size_log2 paged arguments (inr (inl (is, given))) h = rw given refl
page_first page_size_log2 paged arguments (inr (inr (is, given))) h = rw given refl

either_kept : (name : Option (List ℕ)) (arguments : List (List ℕ)) → realloc_parts arguments ≡ (None, arguments)
    → either_realloc name arguments ≡ (name, arguments)
either_kept None arguments h = h
either_kept (Some name) arguments h = refl

by_parts : (arguments : List (List ℕ)) (name : Option (List ℕ)) (left : List (List ℕ)) (page_size_log2 : ℕ) (rest : List (List ℕ)) (realloc : Option (List ℕ))
    (exports : List (List ℕ)) → realloc_parts arguments ≡ (name, left) → page_parts left ≡ Some (page_size_log2, rest)
    → either_realloc name rest ≡ (realloc, exports) → are_exports exports ≡ true → trim_parts arguments ≡ Some (realloc, page_size_log2, exports)
by_parts arguments name left page_size_log2 rest realloc exports a b c d =
    ap (λ q. parts_after q.0 (page_parts q.1)) a
    ∙ (ap (parts_after name) b ∙ (ap (checked_parts page_size_log2) c ∙ ap (λ t. cond t (Some (realloc, page_size_log2, exports)) None) d))

realloc_then_page : (realloc : Option (List ℕ)) (page_size_log2 : ℕ) (paged exports : List (List ℕ)) → IsPageOption page_size_log2 paged → AreExports exports
    → trim_parts (realloc_arguments realloc ++ (paged ++ exports)) ≡ Some (realloc, page_size_log2, exports)
realloc_then_page realloc page_size_log2 paged exports is are =
    let none = no_realloc exports are in
    by_parts (realloc_arguments realloc ++ (paged ++ exports)) realloc (paged ++ exports) page_size_log2 exports realloc exports
    (realloc_complete realloc (paged ++ exports) (page_first page_size_log2 paged exports is none))
    (page_complete page_size_log2 paged exports is (no_page exports are))
    (either_kept realloc exports none) (exports_complete exports are)

after_page : (digits : List ℕ) (realloc : Option (List ℕ)) (page_size_log2 : ℕ) (exports : List (List ℕ)) → AreExports exports
    → page_parts (codes "--page" ∷ digits ∷ realloc_arguments realloc ++ exports) ≡ Some (page_size_log2, realloc_arguments realloc ++ exports)
    → trim_parts (codes "--page" ∷ digits ∷ realloc_arguments realloc ++ exports) ≡ Some (realloc, page_size_log2, exports)
after_page digits realloc page_size_log2 exports are known =
    let arguments = realloc_arguments realloc ++ exports in
    by_parts (codes "--page" ∷ digits ∷ arguments) None (codes "--page" ∷ digits ∷ arguments) page_size_log2 arguments realloc exports
    refl known (realloc_complete realloc exports (no_realloc exports are)) (exports_complete exports are)

page_then_realloc : (realloc : Option (List ℕ)) (page_size_log2 : ℕ) (paged exports : List (List ℕ)) → IsPageOption page_size_log2 paged → AreExports exports
    → trim_parts (paged ++ (realloc_arguments realloc ++ exports)) ≡ Some (realloc, page_size_log2, exports)
page_then_realloc realloc page_size_log2 paged exports (inl (is, nil)) are = rw nil (realloc_then_page realloc page_size_log2 [] exports (inl (is, refl)) are)
page_then_realloc realloc page_size_log2 paged exports (inr (inl (is, given))) are =
    rw given (after_page (codes "0") realloc page_size_log2 exports are (ap (λ p. Some (p, realloc_arguments realloc ++ exports)) (sym is)))
page_then_realloc realloc page_size_log2 paged exports (inr (inr (is, given))) are =
    rw given (after_page (codes "16") realloc page_size_log2 exports are (ap (λ p. Some (p, realloc_arguments realloc ++ exports)) (sym is)))

joined_complete : (arguments : List (List ℕ)) (realloc : Option (List ℕ)) (page_size_log2 : ℕ) (paged exports : List (List ℕ)) → IsPageOption page_size_log2 paged
    → AreExports exports → (arguments ≡ realloc_arguments realloc ++ (paged ++ exports))
    ⊎ (arguments ≡ paged ++ (realloc_arguments realloc ++ exports)) → trim_parts arguments ≡ Some (realloc, page_size_log2, exports)
joined_complete arguments realloc page_size_log2 paged exports is are (inl e) = ap trim_parts e ∙ realloc_then_page realloc page_size_log2 paged exports is are
joined_complete arguments realloc page_size_log2 paged exports is are (inr e) = ap trim_parts e ∙ page_then_realloc realloc page_size_log2 paged exports is are

pub trim_complete : (arguments : List (List ℕ)) (realloc : Option (List ℕ)) (page_size_log2 : ℕ) (exports : List (List ℕ))
    → IsTrimLine arguments realloc page_size_log2 exports → trim_parts arguments ≡ Some (realloc, page_size_log2, exports)
trim_complete arguments realloc page_size_log2 exports line = joined_complete arguments realloc page_size_log2 line.paged exports line.is_page line.are_exports line.joined

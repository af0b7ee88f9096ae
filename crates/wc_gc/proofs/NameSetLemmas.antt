-- A set of names that are text, when one more is put into it; and names without repeats.
use Rattle.std.proofs.Common.{◌≡◌, ◌≢◌, ℕ, Bool, true, false, not, ◌||◌, List, [], ◌∷◌, ◌++◌, map, refl, sym, ◌∙◌, ap, String, Global, inl, inr, append-nil}
use Rattle.std.proofs.Math.Bool.{or-true}
use Rattle.std.proofs.lemmas.Bool.{cases_Bool, or_cases}
use Rattle.std.proofs.lemmas.List.{map-append}
use Rattle.std.proofs.lemmas.List.Elements.{filter-append}
use Rattle.std.proofs.lemmas.Slice.Eq.{bytes_eq-Decides}
use Rattle.std.specs.Prelude.{string_bytes}
use Rattle.std.specs.List.{list_any, filter}
use Rattle.std.specs.Str.{bytes_eq}
use Rattle.indexmap.specs.IndexSet.{insert_key}
use Rattle.wc_gc.specs.LiveItems.{names_of}
use Rattle.wc_texts.specs.Names.{first_occurrences}

abbrev pub same_text : String Global → String Global → Bool
same_text a b = bytes_eq (string_bytes a) (string_bytes b)

any_text : (keys : List (String Global)) (name : String Global)
    → list_any (same_text name) keys ≡ list_any (bytes_eq (string_bytes name)) (map string_bytes keys)
any_text [] name = refl
any_text (k ∷ keys) name = ap (λ b. same_text name k || b) (any_text keys name)

pub text_more : (keys : List (String Global)) (name : String Global)
    → map string_bytes (insert_key same_text keys name) ≡ insert_key bytes_eq (map string_bytes keys) (string_bytes name)
text_more keys name =
    elim (cases_Bool (list_any (same_text name) keys)) [
      | inl there ↦ rw (sym (any_text keys name), there) refl
      | inr new ↦ rw (sym (any_text keys name), new) (map-append string_bytes keys (name ∷ []))
    ]

-- names without repeats

bytes_eq-sym : (a b : List ℕ) (v : Bool) → bytes_eq a b ≡ v → bytes_eq b a ≡ v
bytes_eq-sym a b true e = (bytes_eq-Decides b a).1 (sym ((bytes_eq-Decides a b).0 e))
bytes_eq-sym a b false e =
    elim (cases_Bool (bytes_eq b a)) [
      | inl same ↦ absurd (let turned : bytes_eq a b ≡ true = (bytes_eq-Decides a b).1 (sym ((bytes_eq-Decides b a).0 same)) in cc)
      | inr other ↦ other
    ]

abbrev differs : List ℕ → List ℕ → Bool
differs name other = not (bytes_eq name other)

-- whether another name is among names does not depend on this one
any_other : (name other : List ℕ) (names : List (List ℕ)) → bytes_eq other name ≡ false → list_any (bytes_eq other) (filter (differs name) names)
    ≡ list_any (bytes_eq other) names
any_other name other [] unequal = refl
any_other name other (x ∷ names) unequal =
    elim (cases_Bool (bytes_eq name x)) [
      | inl same ↦
          (let is_x : name ≡ x = (bytes_eq-Decides name x).0 same in
          let no : bytes_eq other x ≡ false = ap (bytes_eq other) (sym is_x) ∙ unequal in
          rw (same, no) (any_other name other names unequal))
      | inr differ ↦ rw differ (ap (λ b. bytes_eq other x || b) (any_other name other names unequal))
    ]

-- a name put after a first one and the others
insert_after : (name other : List ℕ) (names : List (List ℕ)) → insert_key bytes_eq (name ∷ filter (differs name) names) other ≡ name ∷ filter
    (differs name) (insert_key bytes_eq names other)
insert_after name other names =
    elim (cases_Bool (bytes_eq other name)) [
      | inl same ↦
          (let turned : bytes_eq name other ≡ true = bytes_eq-sym other name true same in
          let skipped : filter (differs name) (names ++ other ∷ []) ≡ filter (differs name) names = filter-append (differs name) names (other ∷ [])
          ∙ rw turned (append-nil _) in
          elim (cases_Bool (list_any (bytes_eq other) names)) [
            | inl there ↦ rw (same, there) refl
            | inr new ↦ rw (same, new) (ap (λ l. name ∷ l) (sym skipped))
          ])
      | inr unequal ↦
          (let turned : bytes_eq name other ≡ false = bytes_eq-sym other name false unequal in
          let kept : filter (differs name) (names ++ other ∷ []) ≡ filter (differs name) names ++ other ∷ [] = filter-append (differs name) names
          (other ∷ []) ∙ rw turned refl in
          let any = any_other name other names unequal in
          elim (cases_Bool (list_any (bytes_eq other) names)) [
            | inl there ↦ rw (unequal, any, there) refl
            | inr new ↦ rw (unequal, any, new) (ap (λ l. name ∷ l) (sym kept))
          ])
    ]

-- one more name after others
pub distinct_more : (names : List (List ℕ)) (name : List ℕ) → first_occurrences (names ++ name ∷ []) ≡ insert_key bytes_eq (first_occurrences names) name
distinct_more [] name = refl
distinct_more (x ∷ names) name = ap (λ l. x ∷ filter (differs x) l) (distinct_more names name) ∙ sym (insert_after x name (first_occurrences names))

-- the set after its name for one more text
pub set_more : (keys : List (String Global)) (names : List (List ℕ)) (name : String Global) (text : List ℕ) → names_of keys ≡ first_occurrences names
    → string_bytes name ≡ text → names_of (insert_key same_text keys name) ≡ first_occurrences (names ++ text ∷ [])
set_more keys names name text known same =
    text_more keys name ∙ (ap (λ l. insert_key bytes_eq l (string_bytes name)) known
    ∙ (ap (insert_key bytes_eq (first_occurrences names)) same ∙ sym (distinct_more names text)))

-- where there is a name, one is in the set
pub some_keys : (keys : List (String Global)) (names : List (List ℕ)) → names_of keys ≡ first_occurrences names → names ≢ [] → keys ≢ []
some_keys keys [] same some = λ e. some refl
some_keys keys (x ∷ names) same some = λ e. let none : names_of keys ≡ [] = ap (map string_bytes) e in absurd cc

-- what is among names that pass a test is among the names; so is what is among them without repeats

among_filter : (p : List ℕ → Bool) (names : List (List ℕ)) (x : List ℕ) → list_any (bytes_eq x) (filter p names) ≡ true
    → list_any (bytes_eq x) names ≡ true
among_filter p [] x e = e
among_filter p (n ∷ names) x e =
    elim (cases_Bool (p n)) [
      | inl passes ↦
          (let more : (bytes_eq x n || list_any (bytes_eq x) (filter p names)) ≡ true = rw passes at e in
          elim (or_cases (bytes_eq x n) (list_any (bytes_eq x) (filter p names)) more) [
            | inl is ↦ rw is refl
            | inr rest ↦ rw (among_filter p names x rest) (or-true _)
          ])
      | inr fails ↦
          (let rest : list_any (bytes_eq x) (filter p names) ≡ true = rw fails at e in
          rw (among_filter p names x rest) (or-true _))
    ]

pub among_distinct : (names : List (List ℕ)) (x : List ℕ) → list_any (bytes_eq x) (first_occurrences names) ≡ true → list_any (bytes_eq x) names ≡ true
among_distinct [] x e = e
among_distinct (n ∷ names) x e =
    elim (or_cases (bytes_eq x n) (list_any (bytes_eq x) (filter (differs n) (first_occurrences names))) e) [
      | inl is ↦ rw is refl
      | inr rest ↦ rw (among_distinct names x (among_filter (differs n) (first_occurrences names) x rest)) (or-true _)
    ]

-- The original name of a renamed import is found by its name.
use Rattle.std.proofs.Common.{◌≡◌, ℕ, ◌&&◌, Bool, true, false, cond, List, [], ◌∷◌, ◌++◌, Some, None, inl, inr, refl, sym, subst, ◌∙◌, append_assoc}
use Rattle.std.specs.List.{Contains, AllZip}
use Rattle.std.specs.Str.{bytes_eq}
use Rattle.std.proofs.lemmas.Bool.{cases_Bool, false_from_ne_true, true≢false}
use Rattle.std.proofs.lemmas.Slice.Eq.{bytes_eq-Decides}
use Rattle.wc_dedupe.specs.Renaming.{ImportName, RenameView, Renamed, renames_of, is_rename_to, original_in}
use Rattle.wc_dedupe.proofs.DistinctLemmas.{Contains-here, Contains-later, names_are_distinct}

-- where no rename of the first list is to the name, it is looked for in the second
original_in-append : (front back : List RenameView) (m n : List ℕ) → original_in front m n ≡ None → original_in (front ++ back) m n ≡ original_in back m n
original_in-append [] back m n e = refl
original_in-append (r ∷ front) back m n e =
    elim (is_rename_to m n r) as (λ b. cond b (Some r.original) (original_in front m n) ≡ None → cond b (Some r.original) (original_in (front ++ back) m n) ≡ original_in back m n)
    [ true ↦ λ is. cc | false ↦ λ is. original_in-append front back m n is ] e

-- a rename is to one name alone
is_rename_to_means : (s n x : ImportName) → n.module_name ≡ s.module_name → is_rename_to x.module_name x.name (record { module_name = s.module_name; original = s.name; name = n.name }) ≡ true → n ≡ x
is_rename_to_means s n x one e = both (bytes_eq s.module_name x.module_name) (bytes_eq n.name x.name) refl refl e
  where
    both : (a b : Bool) → bytes_eq s.module_name x.module_name ≡ a → bytes_eq n.name x.name ≡ b → (a && b) ≡ true → n ≡ x
    both true true p q h =
        let modules : n.module_name ≡ x.module_name = one ∙ (bytes_eq-Decides s.module_name x.module_name).0 p in
        let names : n.name ≡ x.name = (bytes_eq-Decides n.name x.name).0 q in
        rw (← modules, ← names) refl
    both true false p q h = absurd (true≢false (sym h))
    both false b p q h = absurd (true≢false (sym h))

is_rename_to_itself : (s n : ImportName) → n.module_name ≡ s.module_name → is_rename_to n.module_name n.name (record { module_name = s.module_name; original = s.name; name = n.name }) ≡ true
is_rename_to_itself s n one = rw ((bytes_eq-Decides s.module_name n.module_name).1 (sym one), (bytes_eq-Decides n.name n.name).1 refl) refl

-- no rename is to a name that is none of theirs
not_found : (given ss ns : List ImportName) → Renamed given ss ns → (x : ImportName) → (Contains ns x → ⊥) → original_in (renames_of ss ns) x.module_name x.name ≡ None
not_found given [] ns r x absent = refl
not_found given (s ∷ ss) [] r x absent = refl
not_found given (s ∷ ss) (n ∷ ns) r x absent =
    let rest : original_in (renames_of ss ns) x.module_name x.name ≡ None = not_found (given ++ n ∷ []) ss ns r.1 x (λ there. absent (Contains-later n ns x there)) in
    let other : is_rename_to x.module_name x.name (record { module_name = s.module_name; original = s.name; name = n.name }) ≡ false =
    false_from_ne_true _ (λ e. absent (subst (λ (y : ImportName). Contains (n ∷ ns) y) (is_rename_to_means s n x r.0.0 e) (Contains-here n ns))) in
    elim (bytes_eq s.name n.name) as (λ b. original_in (cond b (renames_of ss ns) ((record { module_name = s.module_name; original = s.name; name = n.name }) ∷ renames_of ss ns)) x.module_name x.name ≡ None)
    [ true ↦ rest | false ↦ rw other rest ]

-- what is in the list of renames for the name n of the original name s
abbrev pub HasOriginal : List RenameView → ImportName → ImportName → Type 0
HasOriginal rs s n = original_in rs n.module_name n.name ≡ cond (bytes_eq s.name n.name) None (Some s.name)

-- after renames to none of the names
originals_after : (front : List RenameView) (given ss ns : List ImportName) → Renamed given ss ns → ((x : ImportName) → Contains ns x → original_in front x.module_name x.name ≡ None)
    → AllZip (HasOriginal (front ++ renames_of ss ns)) ss ns
originals_after front given [] [] r none = tt
originals_after front given [] (n ∷ ns) r none = cc
originals_after front given (s ∷ ss) [] r none = absurd r
originals_after front given (s ∷ ss) (n ∷ ns) r none =
    elim (cases_Bool (bytes_eq s.name n.name)) [
      | inl same ↦
          let listed : renames_of (s ∷ ss) (n ∷ ns) ≡ renames_of ss ns = rw same refl in
          let first : HasOriginal (front ++ renames_of ss ns) s n = rw same (original_in-append front (renames_of ss ns) n.module_name n.name (none n (Contains-here n ns)) ∙ not_found (given ++ n ∷ []) ss ns r.1 n again) in
          subst (λ (rs : List RenameView). AllZip (HasOriginal (front ++ rs)) (s ∷ ss) (n ∷ ns)) (sym listed)
          (first, originals_after front (given ++ n ∷ []) ss ns r.1 (λ x there. none x (Contains-later n ns x there)))
      | inr differs ↦
          let listed : renames_of (s ∷ ss) (n ∷ ns) ≡ here ∷ renames_of ss ns = rw differs refl in
          let first : HasOriginal (front ++ here ∷ renames_of ss ns) s n = rw differs (original_in-append front (here ∷ renames_of ss ns) n.module_name n.name (none n (Contains-here n ns)) ∙ rw (is_rename_to_itself s n r.0.0) refl) in
          subst (λ (rs : List RenameView). AllZip (HasOriginal (front ++ rs)) (s ∷ ss) (n ∷ ns)) (sym listed) (
            first,
            subst (λ (rs : List RenameView). AllZip (HasOriginal rs) ss ns) (append_assoc front (here ∷ []) (renames_of ss ns))
                (originals_after (front ++ here ∷ []) (given ++ n ∷ []) ss ns r.1 (λ x there. original_in-append front (here ∷ []) x.module_name x.name (none x (Contains-later n ns x there)) ∙ rw (another x there) refl)),
          )
    ]
  where
    here : RenameView
    here = record { module_name = s.module_name; original = s.name; name = n.name }

    again : Contains ns n → ⊥
    again there = (names_are_distinct given (s ∷ ss) (n ∷ ns) r).0 there

    another : (x : ImportName) → Contains ns x → is_rename_to x.module_name x.name here ≡ false
    another x there = false_from_ne_true _ (λ e. again (subst (λ (y : ImportName). Contains ns y) (sym (is_rename_to_means s n x r.0.0 e)) there))

pub names_give_originals : (ss ns : List ImportName) → Renamed [] ss ns → AllZip (HasOriginal (renames_of ss ns)) ss ns
names_give_originals ss ns r = originals_after [] [] ss ns r (λ x there. refl)

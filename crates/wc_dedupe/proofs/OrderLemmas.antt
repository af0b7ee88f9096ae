-- Renames in the order of the keys of their new names.
use Rattle.std.proofs.Common.{◌≡◌, ◌≢◌, ℕ, zero, suc, ◌<◌, ◌≤◌, ◌⊎◌, ◌&&◌, ◌++◌, Bool, true, false, List, [], ◌∷◌, length, map, get_or, Option, Some, None, inl, inr, refl, sym, ap, subst, ◌∙◌, arith}
use Rattle.std.specs.Prelude.{slice_get}
use Rattle.std.specs.Cmp.{IsTotalOrder}
use Rattle.std.specs.List.{AllZip}
use Rattle.std.specs.List.Sorted.{IsSortedBy, IsNonDecreasingBy, IsPartitionPoint, IsPermutation}
use Rattle.std.specs.Option.{option_map, option_map_or}
use Rattle.std.specs.Ordering.{is_lt, nat_cmp, ordering_then, ordering_index}
use Rattle.std.specs.Str.{bytes_eq}
use Rattle.std.specs.declared.cmp.Ordering.{Ordering}
use Rattle.std.specs.declared.cmp.Ordering.TheVariants.{Less, Equal, Greater}
use Rattle.std.proofs.lemmas.Bool.{true≢false, cases_Bool, cases_order}
use Rattle.std.proofs.lemmas.Cmp.{nat_cmp_total, on_total, then_total, tied_itself}
use Rattle.std.proofs.lemmas.List.{get_or_default}
use Rattle.std.proofs.lemmas.List.Sorted.{searchable_from_sorted}
use Rattle.std.proofs.lemmas.Option.{slice_get-map, slice_get_within}
use Rattle.std.proofs.lemmas.Slice.Eq.{bytes_eq-Decides}
use Rattle.wc_dedupe.specs.Renaming.{ImportName, RenameView, Renamed, renames_of, is_rename_to, original_in}
use Rattle.wc_dedupe.specs.Private.NameKeys.{NameKey, IsKeyOf, AreKeys, name_key}
use Rattle.wc_dedupe.specs.Private.NamePositions.{names_cmp}
use Rattle.wc_dedupe.specs.Private.RenameOrder.{new_name, name_at, numbered_cmp, key_cmp, IsNameOrder, LeadBack, Finds}
use Rattle.wc_dedupe.proofs.OriginalNameLemmas.{HasOriginal}
use Rattle.wc_dedupe.proofs.NameKeyLemmas.{keys_sorted}
use Rattle.wc_dedupe.proofs.NamePositionLemmas.{names_total, names_equal}

-- the order of keys

pub numbered_total : IsTotalOrder (λ (x y : ℕ × ImportName). numbered_cmp x.0 x.1 y.0 y.1)
numbered_total = then_total (on_total (λ (x : ℕ × ImportName). x.0) nat_cmp_total) (on_total (λ (x : ℕ × ImportName). x.1) names_total)

none_within : {X : Type 0} (xs : List X) (i : ℕ) → i < length xs → slice_get xs i ≡ None → ⊥
none_within [] i h e = absurd (omega (arith, h))
none_within (x ∷ xs) zero h e = cc
none_within (x ∷ xs) (suc i) h e = none_within xs i (omega (arith, h)) e

-- the key of the new name at an index
pub key_at : (renames : List RenameView) (n k : ℕ) (x : ImportName) → k < length renames → x ≡ name_at renames k → n ≡ name_key x → IsKeyOf (map new_name renames) (n, k)
key_at renames n k x h is key = (x, by (slice_get renames k) refl, key)
  where
    by : (o : Option RenameView) → slice_get renames k ≡ o → slice_get (map new_name renames) k ≡ Some x
    by None none = absurd (none_within renames k h none)
    by (Some r) some =
        slice_get-map new_name renames k ∙ ap (option_map new_name) some ∙ ap Some (sym (is ∙ ap (λ (o : Option RenameView). option_map_or new_name o (record { module_name = []; name = [] })) some))

renamed_at : (renames : List RenameView) (e : NameKey) → IsKeyOf (map new_name renames) e → (r : RenameView) × (slice_get renames e.1 ≡ Some r) × (e.0 ≡ name_key (new_name r))
renamed_at renames e of = by (slice_get renames e.1) refl
  where
    by : (o : Option RenameView) → slice_get renames e.1 ≡ o → (r : RenameView) × (slice_get renames e.1 ≡ Some r) × (e.0 ≡ name_key (new_name r))
    by None is = let none : None ≡ Some of.0 = sym (slice_get-map new_name renames e.1 ∙ ap (option_map new_name) is) ∙ of.1 in cc
    by (Some r) is =
        let both : Some (new_name r) ≡ Some of.0 = sym (slice_get-map new_name renames e.1 ∙ ap (option_map new_name) is) ∙ of.1 in
        let same : new_name r ≡ of.0 = cc in
        (r, is, of.2 ∙ ap name_key (sym same))

pub name_order : (renames : List RenameView) (keys order : List NameKey) → AreKeys (map new_name renames) (length renames) keys → IsPermutation keys order
    → IsSortedBy (λ (e f : NameKey). is_lt (key_cmp renames e f.0 (name_at renames f.1))) order → IsNameOrder renames order
name_order renames keys order made moved rises =
    let sorted = keys_sorted (map new_name renames) (length renames) keys order moved made in
    record { of = λ e c. renamed_at renames e (sorted.of e c); all = sorted.all; rises = rises }

-- what a search finds

cases_lt : (i p : ℕ) → (i < p) ⊎ (p ≤ i)
cases_lt i p =
    elim (cases_order i p) [
      | inl same ↦ inr (omega (arith, same))
      | inr distinct ↦ elim distinct [ inl less ↦ inl less | inr more ↦ inr (omega (arith, more)) ]
    ]

is_to : (r : RenameView) (x : ImportName) → is_rename_to x.module_name x.name r ≡ true → new_name r ≡ x
is_to r x e = both (bytes_eq r.module_name x.module_name) (bytes_eq r.name x.name) refl refl e
  where
    both : (a b : Bool) → bytes_eq r.module_name x.module_name ≡ a → bytes_eq r.name x.name ≡ b → (a && b) ≡ true → new_name r ≡ x
    both true true p q h = let one = (bytes_eq-Decides r.module_name x.module_name).0 p in let two = (bytes_eq-Decides r.name x.name).0 q in rw (← one, ← two) refl
    both true false p q h = absurd (true≢false (sym h))
    both false b p q h = absurd (true≢false (sym h))

at_name : (renames : List RenameView) (i : ℕ) (r : RenameView) → slice_get renames i ≡ Some r → name_at renames i ≡ new_name r
at_name renames i r e = ap (λ (o : Option RenameView). option_map_or new_name o (record { module_name = []; name = [] })) e

then_equal : (o p : Ordering) → ordering_then o p ≡ Equal → p ≡ Equal
then_equal Less p e = absurd cc
then_equal Equal p e = e
then_equal Greater p e = absurd cc

module _ (renames : List RenameView) (order : List NameKey) (x : ImportName) (ordered : IsNameOrder renames order) where
  pub found_at : (n p : ℕ) → p < length order → key_cmp renames (get_or order p (0, 0)) n x ≡ Equal → Finds renames x (Some (get_or order p (0, 0)).1)
  found_at n p h tie =
      let e = get_or order p (0, 0) in
      let at = ordered.of e (p, h, get_or_default order p e (0, 0) h) in
      (at.0, at.1, sym (at_name renames e.1 at.0 at.1) ∙ names_equal (name_at renames e.1) x (then_equal (nat_cmp e.0 n) (names_cmp (name_at renames e.1) x) tie))

  pub rises_to : (n : ℕ) → IsNonDecreasingBy (λ (e : NameKey). ordering_index (key_cmp renames e n x)) order
  rises_to n = searchable_from_sorted numbered_total (λ (e : NameKey). (e.0, name_at renames e.1)) order (n, x) ordered.rises

  pub not_found : (n p : ℕ) → n ≡ name_key x → IsPartitionPoint (λ (e : NameKey). key_cmp renames e n x ≡ Less) (λ (e : NameKey). key_cmp renames e n x ≡ Greater) order p → Finds renames x None
  not_found n p number parts i r here = λ is.
      let entry = ordered.all i (slice_get_within renames i r here) in
      let e = entry.0 in
      let c = entry.1 in
      let of = ordered.of e c in
      let both : Some of.0 ≡ Some r = sym of.1 ∙ ap (λ (j : ℕ). slice_get renames j) entry.2 ∙ here in
      let same : of.0 ≡ r = cc in
      let name : new_name of.0 ≡ x = ap new_name same ∙ is in
      let key : e.0 ≡ n = of.2 ∙ ap name_key name ∙ sym number in
      let at : name_at renames e.1 ≡ x = at_name renames e.1 of.0 of.1 ∙ name in
      let tie : key_cmp renames e n x ≡ Equal =
      subst (λ (z : ImportName). numbered_cmp e.0 z n x ≡ Equal) (sym at) (subst (λ (m : ℕ). numbered_cmp m x n x ≡ Equal) (sym key) (tied_itself numbered_total (n, x))) in
      elim (cases_lt c.0 p) [
        | inl below ↦ let less = parts.0 c.0 e (omega arith) below in let two : Less ≡ Equal = sym (subst (λ (f : NameKey). key_cmp renames f n x ≡ Less) c.2 less) ∙ tie in cc
        | inr above ↦ let more = parts.1 c.0 e above c.1 in let two : Greater ≡ Equal = sym (subst (λ (f : NameKey). key_cmp renames f n x ≡ Greater) c.2 more) ∙ tie in cc
      ]

-- the original name that a new name leads to

pub leads_nowhere : (renames : List RenameView) (x : ImportName) → Finds renames x None → original_in renames x.module_name x.name ≡ None
leads_nowhere [] x none = refl
leads_nowhere (r ∷ rs) x none =
    elim (cases_Bool (is_rename_to x.module_name x.name r)) [
      | inl same ↦ absurd (none 0 r refl (is_to r x same))
      | inr other ↦ rw other (leads_nowhere rs x (λ i s e. none (suc i) s e))
    ]

pub leads_to : (renames : List RenameView) (i : ℕ) (x : ImportName) (r : RenameView) → Finds renames x (Some i) → slice_get renames i ≡ Some r → LeadBack renames → original_in renames x.module_name x.name ≡ Some r.original
leads_to renames i x r found here back =
    let both : Some found.0 ≡ Some r = sym found.1 ∙ here in
    let same : found.0 ≡ r = cc in
    let to : new_name r ≡ x = ap new_name (sym same) ∙ found.2 in
    subst (λ (z : ImportName). original_in renames z.module_name z.name ≡ Some r.original) to (back i r here)

pub lead_back : (all : List RenameView) (given ss ns : List ImportName) → Renamed given ss ns → AllZip (HasOriginal all) ss ns → (i : ℕ) (r : RenameView) → slice_get (renames_of ss ns) i ≡ Some r
    → original_in all r.module_name r.name ≡ Some r.original
lead_back all given [] ns named zip i r e = cc
lead_back all given (s ∷ ss) [] named zip i r e = cc
lead_back all given (s ∷ ss) (n ∷ ns) named zip i r e =
    elim (cases_Bool (bytes_eq s.name n.name)) [
      | inl same ↦ lead_back all (given ++ n ∷ []) ss ns named.1 zip.1 i r (rw same at e)
      | inr other ↦ first (λ j f. lead_back all (given ++ n ∷ []) ss ns named.1 zip.1 j r f) i (rw other at e) (rw other at zip.0)
    ]
  where
    first : ((j : ℕ) → slice_get (renames_of ss ns) j ≡ Some r → original_in all r.module_name r.name ≡ Some r.original) → (i : ℕ) → slice_get ((record { module_name = s.module_name; original = s.name; name = n.name }) ∷ renames_of ss ns) i ≡ Some r → original_in all n.module_name n.name ≡ Some s.name → original_in all r.module_name r.name ≡ Some r.original
    first later zero e h =
        let is : ◌≡◌ {A = RenameView} (record { module_name = s.module_name; original = s.name; name = n.name }) r = cc in
        subst (λ (q : RenameView). original_in all q.module_name q.name ≡ Some q.original) is (subst (λ (m : List ℕ). original_in all m n.name ≡ Some s.name) named.0.0 h)
    first later (suc i) e h = later i e

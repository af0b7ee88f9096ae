-- Names in the order of their first occurrences.
use Rattle.std.proofs.Common.{◌≡◌, ℕ, List, [], ◌∷◌, ◌++◌, Bool, true, false, cond, map, String, string_bytes, refl, sym, ap, ◌∙◌, subst, append-nil, append_assoc}
use Rattle.std.specs.List.{list_any}
use Rattle.std.specs.Str.{bytes_eq}
use Rattle.std.specs.String.{string_eq}
use Rattle.std.specs.declared.alloc.Global.{Global}
use Rattle.std.proofs.lemmas.Cmp.{nat_list_eq_equiv}
use Rattle.std.proofs.lemmas.List.{map-append}
use Rattle.wc_texts.specs.Names.{first_occurrences}
use Rattle.wc_validate.proofs.InstanceLemmas.{new_module, old_module}
use Rattle.wc_world.specs.Trimming.{HasNames}
use Rattle.wc_world.proofs.ImportedItemLemmas.{added_last}

module _ (old new : List (String Global)) (k : String Global) (m : List ℕ) (passed : List (List ℕ)) (is : string_bytes k ≡ m) (put : new ≡ cond (list_any (string_eq k) old) old (old ++ k ∷ []))
    (updates : (q : String Global) → list_any (string_eq q) new ≡ cond (string_eq k q) true (list_any (string_eq q) old)) (h : HasNames old passed) where
  known : (b : Bool) → list_any (string_eq k) old ≡ b → map string_bytes new ≡ first_occurrences (passed ++ m ∷ [])
  known true there =
      ap (map string_bytes) (put ∙ ap (λ b. cond b old (old ++ k ∷ [])) there)
      ∙ (h.names ∙ sym (old_module m passed (ap (λ z. list_any (bytes_eq z) passed) (sym is) ∙ (sym (h.has k) ∙ there))))
  known false none =
      ap (map string_bytes) (put ∙ ap (λ b. cond b old (old ++ k ∷ [])) none)
      ∙ (map-append string_bytes old (k ∷ []) ∙ (ap (λ z. z ++ string_bytes k ∷ []) h.names ∙ (ap (λ z. first_occurrences passed ++ z ∷ []) is
      ∙ sym (new_module m passed (ap (λ z. list_any (bytes_eq z) passed) (sym is) ∙ (sym (h.has k) ∙ none))))))

  pub name_added : HasNames new (passed ++ m ∷ [])
  name_added = record {
    names = known (list_any (string_eq k) old) refl;
    has = λ q.
        added_last (bytes_eq (string_bytes q)) passed m (list_any (string_eq q) new) (list_any (string_eq q) old) (string_eq k q) (updates q) (h.has q)
        (nat_list_eq_equiv.symm (string_bytes k) (string_bytes q) ∙ ap (bytes_eq (string_bytes q)) is);
  }

-- names that are gone through, after others
pub record NameWalk {X : Type 0} (name : X → List ℕ) (before : List (List ℕ)) (all left : List X) (keys : List (String Global)) : Type 0 where
  pub front : List X
  pub split : front ++ left ≡ all
  pub has : HasNames keys (before ++ map name front)

pub names_start : {X : Type 0} (name : X → List ℕ) (before : List (List ℕ)) (all left : List X) (keys : List (String Global)) → left ≡ all → HasNames keys before → NameWalk name before all left keys
names_start name before all left keys is h = record { front = []; split = is; has = subst (HasNames keys) (sym (append-nil before)) h }

pub names_next : {X : Type 0} (name : X → List ℕ) (before : List (List ℕ)) (all left rest : List X) (x : X) (old new : List (String Global)) → left ≡ x ∷ rest → ((passed : List (List ℕ)) → HasNames old passed → HasNames new (passed ++ name x ∷ []))
    → NameWalk name before all left old → NameWalk name before all rest new
names_next name before all left rest x old new is put w = record {
  front = w.front ++ x ∷ [];
  split = append_assoc w.front (x ∷ []) rest ∙ (ap (λ z. w.front ++ z) (sym is) ∙ w.split);
  has = subst (HasNames new) (append_assoc before (map name w.front) (name x ∷ []) ∙ ap (λ z. before ++ z) (sym (map-append name w.front (x ∷ [])))) (put (before ++ map name w.front) w.has);
}

pub names_end : {X : Type 0} (name : X → List ℕ) (before : List (List ℕ)) (all left : List X) (keys : List (String Global)) → left ≡ [] → NameWalk name before all left keys → HasNames keys (before ++ map name all)
names_end name before all left keys none w = subst (λ z. HasNames keys (before ++ map name z)) (sym (append-nil w.front) ∙ (ap (λ z. w.front ++ z) (sym none) ∙ w.split)) w.has

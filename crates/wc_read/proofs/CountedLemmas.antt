-- The loop that reads so many items.
use Rattle.std.proofs.Common.{◌≡◌, ℕ, suc, List, [], ◌∷◌, ◌++◌, Option, Some, None, refl, ◌∙◌, ap, append_assoc, append-nil}
use Rattle.wc_read.specs.Reading.Reader.{Read, items_at, vector_at, number_at}
use Rattle.wc_read.specs.Options.{◌>>=◌}
use Rattle.wc_read.proofs.OptionsLemmas.{bind_none, bind_some}

-- other items after those that were read
abbrev pub after_front : {A : Type 0} → List A → List A × List ℕ → Option (List A × List ℕ)
after_front front others = Some (front ++ others.0, others.1)

-- what was read before, and the items that are left at the bytes, give the total
pub record IsPartRead {A : Type 0} (read : Read A) (front : List A) (left : ℕ) (bytes : List ℕ) (total : Option (List A × List ℕ)) : Type 0 where
  pub gives : total ≡ (items_at read left bytes >>= after_front front)

same : {A : Type 0} (o : Option (List A × List ℕ)) → o ≡ (o >>= after_front [])
same None = refl
same (Some x) = refl

pub part_start : {A : Type 0} (read : Read A) (bytes : List ℕ) (n : ℕ) (rest : List ℕ) → number_at 32 bytes ≡ Some (n, rest) → IsPartRead read [] n rest (vector_at read bytes)
unfolding vector_at
part_start read bytes n rest e = record { gives = bind_some _ _ (n, rest) e ∙ same (items_at read n rest) }

pub part_of_items : {A : Type 0} (read : Read A) (bytes : List ℕ) (n : ℕ) → IsPartRead read [] n bytes (items_at read n bytes)
part_of_items read bytes n = record { gives = same (items_at read n bytes) }

pub part_end : {A : Type 0} (read : Read A) (front : List A) (bytes : List ℕ) (total : Option (List A × List ℕ)) → IsPartRead read front 0 bytes total → total ≡ Some (front, bytes)
unfolding items_at
part_end read front bytes total s = s.gives ∙ rw append-nil refl

pub part_fails : {A : Type 0} (read : Read A) (front : List A) (left : ℕ) (bytes : List ℕ) (total : Option (List A × List ℕ)) → IsPartRead read front (suc left) bytes total → read bytes ≡ None → total ≡ None
unfolding items_at
part_fails read front left bytes total s none = s.gives ∙ bind_none _ _ (bind_none (read bytes) _ none)

-- one item more at the front
one_more : {A : Type 0} (front : List A) (x : A) (o : Option (List A × List ℕ)) → ((o >>= after_front (x ∷ [])) >>= after_front front) ≡ (o >>= after_front (front ++ x ∷ []))
one_more front x None = refl
one_more front x (Some others) = rw append_assoc refl

pub part_more : {A : Type 0} (read : Read A) (front : List A) (left : ℕ) (bytes : List ℕ) (total : Option (List A × List ℕ)) (x : A) (rest : List ℕ) → IsPartRead read front (suc left) bytes total → read bytes ≡ Some (x, rest) → IsPartRead read (front ++ x ∷ []) left rest total
unfolding items_at
part_more read front left bytes total x rest s e = record { gives = s.gives ∙ ap (λ o. o >>= after_front front) (bind_some (read bytes) _ (x, rest) e) ∙ one_more front x (items_at read left rest) }

-- Lists that stand one after another, when one more is put to them.
use Rattle.std.proofs.Common.{◌≡◌, ℕ, zero, suc, ◌+◌, List, [], ◌∷◌, ◌++◌, length, Some, refl, sym, ◌∙◌, ap, subst, append-nil, append_assoc, arith}
use Rattle.std.proofs.Math.ListN.{length-append}
use Rattle.std.specs.List.{flat_map, slice_get}
use Rattle.wc_import_paths.specs.Joined.{AreJoined}

zero_more : (k : ℕ) → 0 + k ≡ k
zero_more k = omega arith

module _ {A : Type 0} where
  pub none_joined : (IsAt : ℕ → List A → Type 0) → AreJoined 0 IsAt []
  none_joined IsAt = record { parts = []; each = refl; are = λ k part e. absurd cc; is = refl }

  pub none_yet : (IsAt : ℕ → List A → Type 0) (joined : List A) → joined ≡ [] → AreJoined 0 IsAt joined
  none_yet IsAt joined none = subst (AreJoined 0 IsAt) (sym none) (none_joined IsAt)

  -- what the last of parts is, and those before it
  got : (IsAt : ℕ → List A → Type 0) (parts : List (List A)) (last : List A) (from : ℕ)
      → ((k : ℕ) (part : List A) → slice_get parts k ≡ Some part → IsAt (from + k) part) → IsAt (from + length parts) last
      → (k : ℕ) (part : List A) → slice_get (parts ++ last ∷ []) k ≡ Some part → IsAt (from + k) part
  got IsAt [] last from are here zero part e = let same : last ≡ part = cc in subst (IsAt (from + 0)) same here
  got IsAt [] last from are here (suc k) part e = absurd cc
  got IsAt (t ∷ parts) last from are here zero part e = are zero part e
  got IsAt (t ∷ parts) last from are here (suc k) part e =
      subst (λ n. IsAt n part) (omega arith)
      (got IsAt parts last (from + 1) (λ j other f. subst (λ n. IsAt n other) (omega arith) (are (suc j) other f))
      (subst (λ n. IsAt n last) (omega arith) here) k part e)

  joined_push : (parts : List (List A)) (last : List A) → flat_map (λ t. t) (parts ++ last ∷ []) ≡ flat_map (λ t. t) parts ++ last
  joined_push [] last = append-nil last
  joined_push (t ∷ parts) last = ap (λ r. t ++ r) (joined_push parts last) ∙ sym (append_assoc t (flat_map (λ u. u) parts) last)

  pub one_joined : (n : ℕ) (IsAt : ℕ → List A → Type 0) (front part : List A) → AreJoined n IsAt front → IsAt n part → AreJoined (n + 1) IsAt (front ++ part)
  one_joined n IsAt front part j here = record {
    parts = j.parts ++ part ∷ [];
    each = length-append j.parts (part ∷ []) ∙ ap (λ k. k + 1) j.each;
    are = λ k other e. subst (λ m. IsAt m other) (zero_more k)
        (got IsAt j.parts part 0 (λ l some f. subst (λ m. IsAt m some) (sym (zero_more l)) (j.are l some f))
        (subst (λ m. IsAt m part) (sym (zero_more (length j.parts) ∙ j.each)) here) k other e);
    is = ap (λ r. r ++ part) j.is ∙ sym (joined_push j.parts part);
  }

  -- the same, of what was put
  pub one_more : (n : ℕ) (IsAt : ℕ → List A → Type 0) (front part new : List A) → AreJoined n IsAt front → new ≡ front ++ part → IsAt n part → AreJoined (n + 1) IsAt new
  one_more n IsAt front part new j put here = subst (AreJoined (n + 1) IsAt) (sym put) (one_joined n IsAt front part j here)

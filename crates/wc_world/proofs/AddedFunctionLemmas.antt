-- Functions of interfaces whose types were added.
use Rattle.std.proofs.Common.{◌≡◌, ◌∙◌, ℕ, true, cond, List, [], Some, None, string_bytes, refl, sym, ap, subst, inl, inr}
use Rattle.std.specs.Prelude.{◌==◌}
use Rattle.std.specs.List.{Contains, list_any}
use Rattle.std.specs.Str.{bytes_eq}
use Rattle.std.specs.String.{string_eq}
use Rattle.std.proofs.lemmas.Bool.{and_parts, cases_Bool}
use Rattle.std.proofs.lemmas.Slice.Eq.{bytes_eq-Decides}
use Rattle.wc_resolve.specs.Live.{AddsListings, IsComplete, listing_from}
use Rattle.wc_resolve.specs.Kinds.{ResolveView}
use Rattle.wc_resolve.proofs.KeyLemmas.{nat_from}
use Rattle.wc_resolve.proofs.ListUnionLemmas.{list_union_has, list_union_keeps, list_union_there}
use Rattle.wc_world.specs.Live.{named_function_roots}
use Rattle.wc_world.specs.Private.LiveAdditions.{FunctionKey, HaveListings, key_roots, same_function}

-- keys that are the same have the same types
same_roots : (r : ResolveView) (k f : FunctionKey) → same_function k f ≡ true → key_roots r k ≡ key_roots r f
same_roots r (None, s) (None, t) h = refl
same_roots r (None, s) (Some j, t) h = absurd (let bad : ⊥ = cc h in bad)
same_roots r (Some i, s) (None, t) h = absurd (let bad : ⊥ = cc h in bad)
same_roots r (Some i, s) (Some j, t) h =
    let same = and_parts (i.0 == j.0) (string_eq s t) h in
    ap (λ n. named_function_roots r n (string_bytes s)) (nat_from i.0 j.0 same.0) ∙ ap (named_function_roots r j.0) ((bytes_eq-Decides (string_bytes s) (string_bytes t)).0 same.1)

module _ (r : ResolveView) (old new : List ℕ) (roots : List ℕ) (complete : IsComplete r.types old) (adds : AddsListings r old new roots) where
  pub have_more : (keys : List FunctionKey) → HaveListings r keys old → HaveListings r keys new
  have_more keys have = λ f at t h. subst (λ z. Contains z t) (sym (adds complete).1) (list_union_keeps old (listing_from r.types roots) t (have f at t h))

  -- a function more
  pub have_new : (key : FunctionKey) (before after : List FunctionKey) → key_roots r key ≡ roots
      → ((f : FunctionKey) → list_any (same_function f) after ≡ cond (same_function key f) true (list_any (same_function f) before)) → HaveListings r before old → HaveListings r after new
  have_new key before after own put have = λ f at t h.
      elim (cases_Bool (same_function key f)) [
        | inl same ↦
            subst (λ z. Contains z t) (sym (adds complete).1)
            (list_union_has old (listing_from r.types roots) t (subst (λ z. Contains (listing_from r.types z) t) (sym (same_roots r key f same) ∙ own) h))
        | inr other ↦ have_more before have f (sym (ap (λ b. cond b true (list_any (same_function f) before)) other) ∙ (sym (put f) ∙ at)) t h
      ]

-- a function once more
pub have_again : (r : ResolveView) (live : List ℕ) (key : FunctionKey) (before after : List FunctionKey) → list_any (same_function key) before ≡ true
    → ((f : FunctionKey) → list_any (same_function f) after ≡ cond (same_function key f) true (list_any (same_function f) before)) → HaveListings r before live → HaveListings r after live
have_again r live key before after there put have = λ f at t h.
    elim (cases_Bool (same_function key f)) [
      | inl same ↦ have key there t (subst (λ z. Contains (listing_from r.types z) t) (sym (same_roots r key f same)) h)
      | inr other ↦ have f (sym (ap (λ b. cond b true (list_any (same_function f) before)) other) ∙ (sym (put f) ∙ at)) t h
    ]

pub adds_again_none : (r : ResolveView) (live roots : List ℕ) → ((t : ℕ) → Contains (listing_from r.types roots) t → Contains live t) → AddsListings r live live roots
adds_again_none r live roots there = λ complete. (complete, sym (list_union_there live (listing_from r.types roots) there))

-- at first there are none
pub have_none : (r : ResolveView) (keys : List FunctionKey) (live : List ℕ) → keys ≡ [] → HaveListings r keys live
have_none r keys live none = λ f at. (let both = ap (list_any (same_function f)) (sym none) ∙ at in let bad : ⊥ = cc both in absurd bad)

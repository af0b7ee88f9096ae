-- The items of a path, back from its end, up to one that has a line.
use Rattle.std.proofs.Common.{◌≡◌, ℕ, zero, suc, ◌+◌, ◌-◌, ◌<◌, ◌≤◌, true, false, cond, List, [], ◌∷◌, ◌++◌, Option, Some, None, refl, sym, ap, ◌∙◌, append-nil, append_assoc, arith}
use Rattle.wc_why.specs.Tree.{TreeModuleView}
use Rattle.wc_why_text.specs.Runs.{Place, is_among}
use Rattle.wc_why_text.specs.TreeLines.{before, new_items, path_back, shared_item}

module _ (modules : List TreeModuleView) (above : List Place) (most : ℕ) (last : Option Place) where
  abbrev path : List Place
  path = path_back modules most last

  -- so many items were passed, and these have no line
  pub record IsWalked (count : ℕ) (passed : List Place) (next : Option Place) : Type 0 where
    pub new : passed ++ new_items above (path_back modules (most - count) next) ≡ new_items above path
    pub shared : shared_item above (path_back modules (most - count) next) ≡ shared_item above path

  pub walked_none : (passed : List Place) → passed ≡ [] → IsWalked 0 passed last
  walked_none passed none =
      let whole : most - 0 ≡ most = omega arith in
      record {
        new = ap (λ l. l ++ new_items above (path_back modules (most - 0) last)) none ∙ ap (λ n. new_items above (path_back modules n last)) whole;
        shared = ap (λ n. shared_item above (path_back modules n last)) whole;
      }

  left : (count : ℕ) (p : Place) → count < most → path_back modules (most - count) (Some p) ≡ p ∷ path_back modules (most - (count + 1)) (before modules p)
  left count p within =
      let next : most - count ≡ suc (most - (count + 1)) = omega (arith, within) in
      ap (λ n. path_back modules n (Some p)) next

  pub walked_more : (count : ℕ) (passed new : List Place) (p : Place) (next : Option Place) → count < most → IsWalked count passed (Some p)
      → is_among above p ≡ false → new ≡ passed ++ p ∷ [] → next ≡ before modules p → IsWalked (count + 1) new next
  walked_more count passed new p next within walked unseen put is =
      let rest : List Place = path_back modules (most - (count + 1)) (before modules p) in
      let back : path_back modules (most - count) (Some p) ≡ p ∷ rest = left count p within in
      let same : path_back modules (most - (count + 1)) next ≡ rest = ap (path_back modules (most - (count + 1))) is in
      record {
        new = ap (λ l. l ++ new_items above (path_back modules (most - (count + 1)) next)) put
            ∙ ap (λ l. (passed ++ p ∷ []) ++ new_items above l) same
            ∙ append_assoc passed (p ∷ []) (new_items above rest)
            ∙ ap (λ l. passed ++ l) (sym (ap (new_items above) back ∙ ap (λ b. cond b [] (p ∷ new_items above rest)) unseen))
            ∙ walked.new;
        shared = ap (shared_item above) same
            ∙ sym (ap (shared_item above) back ∙ ap (λ b. cond b (Some p) (shared_item above rest)) unseen)
            ∙ walked.shared;
      }

  -- where the walk ends

  pub seen_new : (count : ℕ) (passed : List Place) (p : Place) → count < most → IsWalked count passed (Some p) → is_among above p ≡ true
      → passed ≡ new_items above path
  seen_new count passed p within walked seen =
      let rest : List Place = path_back modules (most - (count + 1)) (before modules p) in
      sym (append-nil passed)
      ∙ ap (λ l. passed ++ l) (sym (ap (new_items above) (left count p within) ∙ ap (λ b. cond b [] (p ∷ new_items above rest)) seen))
      ∙ walked.new

  pub seen_shared : (count : ℕ) (passed : List Place) (p : Place) → count < most → IsWalked count passed (Some p) → is_among above p ≡ true
      → Some p ≡ shared_item above path
  seen_shared count passed p within walked seen =
      let rest : List Place = path_back modules (most - (count + 1)) (before modules p) in
      sym (ap (shared_item above) (left count p within) ∙ ap (λ b. cond b (Some p) (shared_item above rest)) seen) ∙ walked.shared

  none_left : (n : ℕ) → path_back modules n None ≡ []
  none_left zero = refl
  none_left (suc n) = refl

  pub begun_new : (count : ℕ) (passed : List Place) → IsWalked count passed None → passed ≡ new_items above path
  begun_new count passed walked =
      sym (append-nil passed) ∙ ap (λ l. passed ++ l) (sym (ap (new_items above) (none_left (most - count)))) ∙ walked.new

  pub begun_shared : (count : ℕ) (passed : List Place) → IsWalked count passed None → None ≡ shared_item above path
  begun_shared count passed walked = sym (ap (shared_item above) (none_left (most - count))) ∙ walked.shared

  all_passed : (count : ℕ) (next : Option Place) → most ≤ count → path_back modules (most - count) next ≡ []
  all_passed count next past = let none : most - count ≡ 0 = omega (arith, past) in ap (λ n. path_back modules n next) none

  pub past_new : (count : ℕ) (passed : List Place) (next : Option Place) → most ≤ count → IsWalked count passed next → passed ≡ new_items above path
  past_new count passed next end walked =
      sym (append-nil passed) ∙ ap (λ l. passed ++ l) (sym (ap (new_items above) (all_passed count next end))) ∙ walked.new

  pub past_shared : (count : ℕ) (passed : List Place) (next : Option Place) → most ≤ count → IsWalked count passed next → None ≡ shared_item above path
  past_shared count passed next end walked = sym (ap (shared_item above) (all_passed count next end)) ∙ walked.shared

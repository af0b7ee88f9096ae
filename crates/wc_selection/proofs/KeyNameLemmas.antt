-- Keys under the texts by which they are given.
use Rattle.std.proofs.Common.{◌≡◌, ◌≢◌, ℕ, ◌==◌, arith, false, List, [], ◌∷◌, map, All}
use Rattle.std.specs.List.{AllPairs}
use Rattle.std.proofs.lemmas.Bool.Decides.{nat_tests}
use Rattle.std.proofs.lemmas.Grind.{common_steps}
use Rattle.std.proofs.lemmas.List.Elements.{All-cons, All-head, All-nil, All-tail}
use Rattle.std.proofs.lemmas.List.Kept.{AllPairs-cons}
use Rattle.wc_maps.proofs.PairLemmas.{pairs_head, pairs_none, pairs_tail}
use Rattle.wc_selection.specs.Keys.{NamedKey}

-- some keys, under other texts
abbrev pub texted : (NamedKey → List ℕ) → List NamedKey → List NamedKey
texted text keys = map (λ (k : NamedKey). (k.0, text k)) keys

abbrev Differ : NamedKey → NamedKey → Type 0
Differ a b = a.0 ≢ b.0

module _ (text : NamedKey → List ℕ) where
  others_apart : (k : NamedKey) (own : List ℕ) (keys : List NamedKey) → All (Differ k) keys → All (Differ (k.0, own)) (texted text keys)
  others_apart k own [] h = All-nil (Differ (k.0, own))
  others_apart k own (x ∷ xs) h =
      All-cons (Differ (k.0, own)) (x.0, text x) (texted text xs) (All-head (Differ k) x xs h) (others_apart k own xs (All-tail (Differ k) x xs h))

  -- keys that differ do so under other texts
  pub texted_apart : (keys : List NamedKey) → AllPairs Differ keys → AllPairs Differ (texted text keys)
  texted_apart [] h = pairs_none Differ
  texted_apart (x ∷ xs) h =
      AllPairs-cons Differ (x.0, text x) (texted text xs) (others_apart x (text x) xs (pairs_head Differ x xs h))
      (texted_apart xs (pairs_tail Differ x xs h))

-- a number is not one
pub not_one : (n : ℕ) → ¬ (n ≡ 1) → (n == 1) ≡ false
not_one n other = grind (arith, nat_tests, common_steps)

-- What words of labels say of sources and owners.
use Rattle.std.proofs.Common.{◌≡◌, ℕ, ◌+◌, ◌-◌, ◌*◌, ◌/◌, ◌%◌, ◌<◌, Bool, true, false, List, [], ◌∷◌, ◌++◌, length, get_or, refl, sym, ◌∙◌, ap, subst, inl, inr, arith, Option, Some}
use Rattle.std.specs.Prelude.{◌↔◌, ◌==◌, AllPairs, Contains, filter}
use Rattle.std.specs.Int.{bit_at}
use Rattle.std.specs.List.{range_with_len, slice_get}
use Rattle.std.specs.Option.{option_and_then, option_map_or}
use Rattle.std.proofs.lemmas.Bool.{eq-eqb, eqb-true}
use Rattle.std.proofs.lemmas.List.{length_push}
use Rattle.std.proofs.lemmas.List.Elements.{All-contains, filter_passes}
use Rattle.std.proofs.lemmas.List.FromFn.{get_or-range_with_len, length-range_with_len}
use Rattle.std.proofs.lemmas.List.Kept.{AllPairs-filter}
use Rattle.std.proofs.lemmas.Nat.{div-add-mod'}
use Rattle.std.proofs.lemmas.Option.{slice_get-get_or, slice_get_within}
use Rattle.wc_graph.proofs.ListLemmas.{in_filter}
use Rattle.wc_graph.proofs.ListLemmas.{from_filter}
use Rattle.wc_graph.proofs.ChainTreeLemmas.{push_cases}
use Rattle.wc_graph.specs.Labels.{IsSpread}
use Rattle.wc_graph.specs.Leads.{Leads}
use Rattle.wc_graph.specs.Positions.{AreAscending}
use Rattle.wc_graph.specs.Private.Leads.{AreBlocks, AreBlocksTo, IsBlock, is_led, word_at}
use Rattle.wc_graph.specs.Private.Marks.{AreGathered, AreLabelsAt}

-- the labels of a run, gathered
pub block_is : (names : ℕ → List ℕ) (sources owners : List (Option ℕ)) (count start size : ℕ) (labels words gathered : List ℕ)
    → AreLabelsAt sources start size labels → IsSpread names labels words → AreGathered words owners count gathered
    → IsBlock names sources owners count start gathered
block_is names sources owners count start size labels words gathered a s g = record {
  sized = g.sized;
  labelled = λ u l lt. (
    λ h. let r = (g.labelled u l).0 h in let t = (s.labelled r.0 l).0 r.2 in (t.0, r.0, (a.labelled t.0 l lt).0 t.1, r.1, (t.2, t.3)),
    λ h. (g.labelled u l).1 (h.1, h.3, (s.labelled h.1 l).1 (h.0, (a.labelled h.0 l lt).1 h.2, h.4.0, h.4.1)),
  );
}

-- numbers that pass a test, in order
in_filtered : (p : ℕ → Bool) (n x : ℕ) → x < n → p x ≡ true → Contains (filter p (range_with_len 0 n)) x
in_filtered p n x h passes = in_filter p (range_with_len 0 n) x
    (x, let l = length-range_with_len 0 n in omega (arith, l, h), get_or-range_with_len 0 n x x h ∙ (let z : 0 + x ≡ x = omega arith in z)) passes

from_filtered : (p : ℕ → Bool) (n x : ℕ) → Contains (filter p (range_with_len 0 n)) x → (x < n) × (p x ≡ true)
from_filtered p n x c =
    let (k, h, e) = from_filter p (range_with_len 0 n) x c in
    let l = length-range_with_len 0 n in
    let w : k < n = omega (arith, l, h) in
    let f : 0 + k ≡ x = sym (get_or-range_with_len 0 n k x w) ∙ e in
    (omega (arith, f, w), All-contains (λ y. p y ≡ true) (filter p (range_with_len 0 n)) x (filter_passes p (range_with_len 0 n)) c)

rising : (n : ℕ) → AllPairs (λ a b. a < b) (range_with_len 0 n)
rising n i j d h k =
    let l = length-range_with_len 0 n in
    let w : j < n = omega (arith, l, k) in
    let a = get_or-range_with_len 0 n i d (omega (arith, h, w)) in
    let b = get_or-range_with_len 0 n j d w in
    omega (arith, a, b, h)

pub filtered : (p : ℕ → Bool) (n : ℕ) (Is : ℕ → Type 0) → ((x : ℕ) → x < n → (p x ≡ true) ↔ Is x) → ((x : ℕ) → Is x → x < n)
    → AreAscending Is (filter p (range_with_len 0 n))
filtered p n Is is below = (
  AllPairs-filter (λ a b. a < b) p (range_with_len 0 n) (rising n),
  λ x. (
    λ c. let f = from_filtered p n x c in (is x f.0).0 f.1,
    λ h. in_filtered p n x (below x h) ((is x (below x h)).1 h),
  ),
)

module _ (names : ℕ → List ℕ) (sources owners : List (Option ℕ)) (count : ℕ) where
  pub no_blocks : AreBlocksTo names sources owners count 0 []
  no_blocks = record { each = refl; at = λ b words e. absurd (let w = slice_get_within [] b words e in omega (arith, w)) }

  pub blocks_next : (next : ℕ) (blocks : List (List ℕ)) (words : List ℕ) → AreBlocksTo names sources owners count next blocks
      → IsBlock names sources owners count (next * 64) words → AreBlocksTo names sources owners count (next + 1) (blocks ++ words ∷ [])
  blocks_next next blocks words a h = record {
    each = let n = length_push blocks words in let e = a.each in omega (arith, n, e);
    at = λ b ws e. elim (push_cases blocks words b ws e) [
      | inl old ↦ a.at b ws old
      | inr new ↦
          let here : next ≡ b = sym (new.0 ∙ a.each) in
          subst (λ (k : ℕ). IsBlock names sources owners count (k * 64) ws) here
          (subst (IsBlock names sources owners count (next * 64)) (sym new.1) h)
    ];
  }

  module _ (blocks : List (List ℕ)) (are : AreBlocks names sources owners count blocks) (owner : ℕ) (own : owner < count) where
    -- the word of an owner, in the block of a position
    word_is : (position : ℕ) → position < length sources → (words : List ℕ) × IsBlock names sources owners count (position / 64 * 64) words
        × (word_at blocks owner position ≡ Some (get_or words owner 0))
    word_is position within =
        let n = are.each in
        let here : position / 64 < length blocks = omega (arith, n, within) in
        let words = get_or blocks (position / 64) [] in
        let at : slice_get blocks (position / 64) ≡ Some words = slice_get-get_or blocks (position / 64) [] here in
        let block = are.at (position / 64) words at in
        let k = block.sized in
        let some : slice_get words owner ≡ Some (get_or words owner 0) = slice_get-get_or words owner 0 (omega (arith, k, own)) in
        (words, block, ap (option_and_then (λ (ws : List ℕ). slice_get ws owner)) at ∙ some)

    led_by : (position : ℕ) → position < length sources → (words : List ℕ) → IsBlock names sources owners count (position / 64 * 64) words
        → word_at blocks owner position ≡ Some (get_or words owner 0) → (is_led blocks owner position ≡ true) ↔ Leads names sources owners owner position
    led_by position within words block e =
        let low : position % 64 < 64 = omega arith in
        let back : position / 64 * 64 + position % 64 ≡ position = div-add-mod' position 64 in
        let is : is_led blocks owner position ≡ (bit_at (get_or words owner 0) (position % 64) == 1) =
        ap (λ (o : Option ℕ). option_map_or (λ (word : ℕ). bit_at word (position % 64) == 1) o false) e in
        let l = block.labelled owner (position % 64) low in (
          λ t. subst (Leads names sources owners owner) back (l.0 (eqb-true (bit_at (get_or words owner 0) (position % 64)) 1 (sym is ∙ t))),
          λ h. is ∙ eq-eqb (bit_at (get_or words owner 0) (position % 64)) 1 (l.1 (subst (Leads names sources owners owner) (sym back) h)),
        )

    led_is : (position : ℕ) → position < length sources → (is_led blocks owner position ≡ true) ↔ Leads names sources owners owner position
    led_is position within = let w = word_is position within in led_by position within w.0 w.1 w.2

    pub led_all : AreAscending (Leads names sources owners owner) (filter (is_led blocks owner) (range_with_len 0 (length sources)))
    led_all = filtered (is_led blocks owner) (length sources) (Leads names sources owners owner) led_is
        (λ x h. slice_get_within sources x (Some h.0) h.2)

-- ---- of each owner
pub record AreLeadsTo (names : ℕ → List ℕ) (sources owners : List (Option ℕ)) (next : ℕ) (leads : List (List ℕ)) : Type 0 where
  pub each : length leads ≡ next
  pub at : (owner : ℕ) (positions : List ℕ) → slice_get leads owner ≡ Some positions → AreAscending (Leads names sources owners owner) positions

pub no_leads : (names : ℕ → List ℕ) (sources owners : List (Option ℕ)) → AreLeadsTo names sources owners 0 []
no_leads names sources owners = record { each = refl; at = λ u ps e. absurd (let w = slice_get_within [] u ps e in omega (arith, w)) }

pub leads_next : (names : ℕ → List ℕ) (sources owners : List (Option ℕ)) (count next : ℕ) (blocks leads : List (List ℕ)) (positions : List ℕ)
    → AreBlocks names sources owners count blocks → next < count → positions ≡ filter (is_led blocks next) (range_with_len 0 (length sources))
    → AreLeadsTo names sources owners next leads → AreLeadsTo names sources owners (next + 1) (leads ++ positions ∷ [])
leads_next names sources owners count next blocks leads positions are below is a = record {
  each = let n = length_push leads positions in let e = a.each in omega (arith, n, e);
  at = λ u ps e. elim (push_cases leads positions u ps e) [
    | inl old ↦ a.at u ps old
    | inr new ↦
        let here : next ≡ u = sym (new.0 ∙ a.each) in
        subst (λ (k : ℕ). AreAscending (Leads names sources owners k) ps) here
        (subst (AreAscending (Leads names sources owners next)) (sym (new.1 ∙ is)) (led_all names sources owners count blocks are next below))
  ];
}

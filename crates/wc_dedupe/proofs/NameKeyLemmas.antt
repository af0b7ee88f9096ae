-- Names that are placed one after another, in the order of their keys.
use Rattle.std.proofs.Common.{◌≡◌, ℕ, ◌+◌, ◌-◌, ◌<◌, List, [], ◌∷◌, ◌++◌, length, map, take, set, get_or, Some, inl, inr, sym, ap, subst, ◌∙◌, arith}
use Rattle.std.specs.Prelude.{slice_get, All}
use Rattle.std.specs.List.{Contains}
use Rattle.std.specs.List.Sorted.{IsPermutation}
use Rattle.std.specs.Option.{option_map}
use Rattle.std.proofs.lemmas.Bool.{cases_eq}
use Rattle.std.proofs.lemmas.List.{take_more, take_all, length-append, length-map, length-set, get_or_default}
use Rattle.std.proofs.lemmas.List.Elements.{Contains-push_cases, Contains-push, Contains-append_left}
use Rattle.std.proofs.lemmas.List.Sorted.{Contains-permutation, length_permutation, IsPermutation-sym}
use Rattle.std.proofs.lemmas.Option.{slice_get-map, slice_get-get_or, slice_get_within, get_or_from_slice_get}
use Rattle.wc_dedupe.specs.Private.NameKeys.{NameKey, IsKeyOf, AreKeys}
use Rattle.wc_dedupe.specs.Private.NamePositions.{Texts, named, names_of, PushesNew, HavePositions}
use Rattle.wc_dedupe.specs.Renaming.{ImportName}
use Rattle.wc_dedupe.proofs.NamePositionLemmas.{name_of_index, slice_get_set, slice_get_set_other, IsAfterPush, after_push}

-- keys that are made one after another, and sorted

pub keys_more : (names : List ImportName) (k : ℕ) (keys : List NameKey) (e : NameKey) → e.1 ≡ k → IsKeyOf names e → AreKeys names k keys → AreKeys names (k + 1) (keys ++ e ∷ [])
keys_more names k keys e at of made = record {
  as_long = length-append keys (e ∷ []) ∙ ap (λ n. n + 1) made.as_long;
  of = λ x c. elim (Contains-push_cases keys e x c) [ inl before ↦ made.of x before | inr here ↦ subst (IsKeyOf names) here of ];
  all = λ i h. elim (cases_eq i k) [
    | inl same ↦ (e, Contains-push keys e, at ∙ sym same)
    | inr other ↦ let old = made.all i (omega (arith, h, other)) in (old.0, Contains-append_left keys (e ∷ []) old.0 old.1, old.2)
  ];
}

pub keys_sorted : (names : List ImportName) (k : ℕ) (xs ys : List NameKey) → IsPermutation xs ys → AreKeys names k xs → AreKeys names k ys
keys_sorted names k xs ys moved made = record {
  as_long = length_permutation xs ys moved ∙ made.as_long;
  of = λ e c. made.of e (Contains-permutation ys xs e (IsPermutation-sym xs ys moved) c);
  all = λ i h. let old = made.all i h in (old.0, Contains-permutation xs ys old.0 moved old.1, old.2);
}

-- the names of the first k keys, and where each is

pub record ArePlaced (texts : List Texts) (keys : List NameKey) (k : ℕ) (few : List Texts) (positions : List ℕ) : Type 0 where
  pub wide : length positions ≡ length texts
  pub place : (e : NameKey) → Contains (take k keys) e → (n : ImportName) → slice_get (names_of texts) e.1 ≡ Some n → (p : ℕ) × (slice_get positions e.1 ≡ Some p) × (slice_get (names_of few) p ≡ Some n)

pub placed_start : (texts : List Texts) (keys : List NameKey) (positions : List ℕ) → length positions ≡ length texts → ArePlaced texts keys 0 [] positions
placed_start texts keys positions wide = record { wide = wide; place = λ e c n is. absurd (omega (arith, c.1)) }

module _ (texts : List Texts) (keys : List NameKey) (k : ℕ) (d : NameKey) (all : AreKeys (names_of texts) (length texts) keys) (lt : k < length keys) where
  abbrev pub e : NameKey
  e = get_or keys k d

  pub key_within : e.1 < length texts
  key_within = let of = all.of e (k, lt, get_or_default keys k e d lt) in omega (arith, slice_get_within (names_of texts) e.1 of.0 of.1, length-map texts named)

  pub placed_more : (x : Texts) (few more : List Texts) (positions : List ℕ) → ArePlaced texts keys k few positions → PushesNew few more (get_or texts e.1 x) → ArePlaced texts keys (k + 1) more (set positions e.1 (length more - 1))
  placed_more x few more positions walk push = record {
    wide = length-set positions e.1 (length more - 1) ∙ walk.wide;
    place = λ f c n is. elim (cases_eq e.1 f.1) [
      | inl same ↦ (
        length more - 1,
        subst (λ (i : ℕ). slice_get (set positions e.1 (length more - 1)) i ≡ Some (length more - 1)) same (slice_get_set positions e.1 (length more - 1) (omega (arith, key_within, walk.wide))),
        after.last ∙ sym (name_of_index texts e.1 x key_within) ∙ ap (λ (i : ℕ). slice_get (names_of texts) i) same ∙ is,
      )
      | inr other ↦ elim (Contains-push_cases (take k keys) e f (split f c)) [
        | inl before ↦
            let old = walk.place f before n is in
            (old.0, slice_get_set_other positions e.1 f.1 (length more - 1) other ∙ old.1, after.stays old.0 n old.2)
        | inr here ↦ absurd (other (ap (λ (z : NameKey). z.1) here))
      ]
    ];
  }
    where
      after : IsAfterPush few more (get_or texts e.1 x)
      after = after_push few more (get_or texts e.1 x) push

      split : (f : NameKey) → Contains (take (k + 1) keys) f → Contains (take k keys ++ e ∷ []) f
      split f c = subst (λ (es : List NameKey). Contains es f) (take_more keys k d lt) c

pub placed_end : (texts : List Texts) (keys : List NameKey) (few : List Texts) (positions : List ℕ) → AreKeys (names_of texts) (length texts) keys → ArePlaced texts keys (length keys) few positions → HavePositions (names_of texts) (names_of few) positions
placed_end texts keys few positions all walk = record {
  as_long = walk.wide ∙ sym (length-map texts named);
  found = λ i n is.
      let e = all.all i (omega (arith, slice_get_within (names_of texts) i n is, length-map texts named)) in
      let there : Contains (take (length keys) keys) e.0 = subst (λ (es : List NameKey). Contains es e.0) (sym (take_all (length keys) keys (omega arith))) e.1 in
      let put = walk.place e.0 there n (subst (λ (j : ℕ). slice_get (names_of texts) j ≡ Some n) (sym e.2) is) in
      (put.0, subst (λ (j : ℕ). slice_get positions j ≡ Some put.0) e.2 put.1, put.2);
}

-- positions among names that have positions themselves

no_name : ImportName
no_name = record { module_name = []; name = [] }

pub positions_below : (names few : List ImportName) (positions : List ℕ) → HavePositions names few positions → All (λ (p : ℕ). p < length few) positions
positions_below names few positions have k d lt =
    let there = have.found k (get_or names k no_name) (slice_get-get_or names k no_name (omega (arith, lt, have.as_long))) in
    let is : get_or positions k d ≡ there.0 = get_or_from_slice_get positions k there.0 d there.1 in
    omega (arith, is, slice_get_within few there.0 (get_or names k no_name) there.2)

pub through : (names few known : List ImportName) (positions further : List ℕ) → HavePositions names few positions → HavePositions few known further → HavePositions names known (map (λ (p : ℕ). get_or further p 0) positions)
through names few known positions further first second = record {
  as_long = length-map positions (λ (p : ℕ). get_or further p 0) ∙ first.as_long;
  found = λ i n is.
      let one = first.found i n is in
      let two = second.found one.0 n one.2 in (
        two.0,
        slice_get-map (λ (p : ℕ). get_or further p 0) positions i ∙ ap (option_map (λ (p : ℕ). get_or further p 0)) one.1 ∙ ap Some (get_or_from_slice_get further one.0 two.0 0 two.1),
        two.2,
      );
}

-- The items of a tree by modules: their positions.
use Rattle.std.proofs.Common.{◌≡◌, ◌≢◌, ℕ, suc, ◌+◌, ◌<◌, List, [], ◌∷◌, ◌++◌, length, set, option_map, get_or, Bool, true, false, cond, nat_eq, Some, refl, sym, ◌∙◌, ap, subst, inl, inr, arith, append-nil}
use Rattle.std.specs.Prelude.{filter}
use Rattle.std.specs.List.{range_with_len, slice_get}
use Rattle.std.specs.Option.{option_map_or}
use Rattle.std.proofs.lemmas.Bool.{cases_eq, cases_lt, eqb-true}
use Rattle.std.proofs.lemmas.Cmp.{nat_eq_equiv}
use Rattle.std.proofs.lemmas.List.{length-map, length-set, length_push}
use Rattle.std.proofs.lemmas.List.Elements.{filter-append}
use Rattle.std.proofs.lemmas.Option.{same_Some, slice_get-get_or, slice_get-map}
use Rattle.std.specs.declared.alloc.Global.{Global}
use Rattle.std.specs.declared.vec.Vec.{Vec}
use Rattle.wc_graph.proofs.ListLemmas.{get_front, get_last, get_set_other, get_some, range_more, set_same}
use Rattle.wc_why.specs.Component.{is_position_in, position_in, positions_in}
use Rattle.wc_why.specs.Private.Positions.{ArePositionsTo, IsPutUnder, groups_view, items_of}

module _ (items : List (ℕ × ℕ)) (modules k : ℕ) (groups groups' : List (List ℕ)) (own own' : List ℕ) (p place : ℕ) (y : ℕ × ℕ) (a : ArePositionsTo items modules k groups own)
    (at : slice_get items k ≡ Some y) (of : y.0 ≡ p) (there : p < modules) (put : IsPutUnder p k groups groups' place) (owns : own' ≡ own ++ place ∷ []) where
  more : (q : ℕ) → positions_in items q (k + 1) ≡ positions_in items q k ++ filter (is_position_in items q) (k ∷ [])
  more q =
      ap (filter (is_position_in items q)) ((let e : k + 1 ≡ suc k = omega arith in ap (range_with_len 0) e) ∙ range_more 0 k ∙ ap (λ n. range_with_len 0 k ++ n ∷ []) (let e : 0 + k ≡ k = omega arith in e))
      ∙ filter-append (is_position_in items q) (range_with_len 0 k) (k ∷ [])

  is_of : (q : ℕ) → is_position_in items q k ≡ nat_eq y.0 q
  is_of q = ap (λ o. option_map_or (λ (z : ℕ × ℕ). nat_eq z.0 q) o false) at

  more_here : positions_in items p (k + 1) ≡ positions_in items p k ++ k ∷ []
  more_here =
      let yes : is_position_in items p k ≡ true = is_of p ∙ (ap (λ n. nat_eq n p) of ∙ nat_eq_equiv.refl p) in
      more p ∙ ap (λ b. positions_in items p k ++ cond b (k ∷ []) []) yes

  more_other : (q : ℕ) → q ≢ p → positions_in items q (k + 1) ≡ positions_in items q k
  more_other q other = by (is_position_in items q k) refl
    where
      by : (b : Bool) → is_position_in items q k ≡ b → positions_in items q (k + 1) ≡ positions_in items q k
      by true e = absurd (other (sym (eqb-true y.0 q (sym (is_of q) ∙ e)) ∙ of))
      by false e = more q ∙ (ap (λ b. positions_in items q k ++ cond b (k ∷ []) []) e ∙ append-nil (positions_in items q k))

  old_group : (ks : List ℕ) × (slice_get groups p ≡ Some ks)
  old_group = get_some groups p (let e = a.modules_are in omega (arith, e, there))

  pub positions_more : ArePositionsTo items modules (k + 1) groups' own'
  positions_more = record {
    modules_are = put.sized ∙ a.modules_are;
    grouped = λ q ks e. elim (cases_eq q p) [
      | inl same ↦
          let (old, was) = old_group in
          let now = (put.here old was).1 in
          let is : ks ≡ old ++ k ∷ [] = same_Some ks (old ++ k ∷ []) (sym e ∙ (ap (slice_get groups') same ∙ now)) in
          subst (λ z. ks ≡ positions_in items z (k + 1)) (sym same) (is ∙ (ap (λ l. l ++ k ∷ []) (a.grouped p old was) ∙ sym more_here))
      | inr other ↦ a.grouped q ks (sym (put.others q other) ∙ e) ∙ sym (more_other q other)
    ];
    each = ap length owns ∙ (length_push own place ∙ ap (λ n. n + 1) a.each);
    own_at = λ i z lt is. elim (cases_lt i k) [
      | inl less ↦ ap (λ l. slice_get l i) owns ∙ get_front own (place ∷ []) i (position_in items z i) (a.own_at i z less is)
      | inr past ↦
          let same : i ≡ k = omega (arith, lt, past) in
          let one : z ≡ y = same_Some z y (sym is ∙ (ap (slice_get items) same ∙ at)) in
          let (old, was) = old_group in
          let placed : place ≡ position_in items y k =
          (put.here old was).0 ∙ (ap length (a.grouped p old was) ∙ ap (λ q. length (positions_in items q k)) (sym of)) in
          ap (λ l. slice_get l i) owns
          ∙ (ap (slice_get (own ++ place ∷ [])) (same ∙ sym a.each)
          ∙ (get_last own place ∙ ap (λ o. Some o) (placed ∙ (ap (λ v. position_in items v k) (sym one) ∙ ap (position_in items z) (sym same)))))
    ];
  }

-- a position was appended
pub put_under : (groups : List (Vec ℕ Global)) (p k : ℕ) (new : Vec ℕ Global) (place : ℕ) → p < length groups → (old : List ℕ)
    → slice_get (groups_view groups) p ≡ Some old → place ≡ length old → new.items ≡ old ++ k ∷ []
    → IsPutUnder p k (groups_view groups) (groups_view (set groups p new)) place
put_under groups p k new place lt old was at is = record {
  sized = length-map (set groups p new) items_of ∙ (length-set groups p new ∙ sym (length-map groups items_of));
  here = λ ks e.
      let same : ks ≡ old = same_Some ks old (sym e ∙ was) in (
        at ∙ ap length (sym same),
        slice_get-map items_of (set groups p new) p ∙ (ap (option_map items_of) (set_same groups p new lt) ∙ ap (λ l. Some l) (is ∙ ap (λ l. l ++ k ∷ []) (sym same))),
      );
  others = λ q other.
      slice_get-map items_of (set groups p new) q ∙ (ap (option_map items_of) (get_set_other groups p q new other) ∙ sym (slice_get-map items_of groups q));
}

pub group_was : (groups : List (Vec ℕ Global)) (p : ℕ) (d : Vec ℕ Global) → p < length groups → slice_get (groups_view groups) p ≡ Some (get_or groups p d).items
group_was groups p d lt = slice_get-map items_of groups p ∙ ap (option_map items_of) (slice_get-get_or groups p d lt)

pub positions_step : (items : List (ℕ × ℕ)) (modules k : ℕ) (d : ℕ × ℕ) (groups groups' : List (List ℕ)) (own own' : List ℕ) (place : ℕ) → k < length items
    → ArePositionsTo items modules k groups own → (get_or items k d).0 < modules → IsPutUnder (get_or items k d).0 k groups groups' place → own' ≡ own ++ place ∷ []
    → ArePositionsTo items modules (k + 1) groups' own'
positions_step items modules k d groups groups' own own' place lt a there put owns =
    positions_more items modules k groups groups' own own' (get_or items k d).0 place (get_or items k d) a (slice_get-get_or items k d lt) refl there put owns

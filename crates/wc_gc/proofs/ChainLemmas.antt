-- The exports that are kept are the required ones, so what is kept has a chain from one.
use Rattle.std.proofs.Common.{◌≡◌, ◌≢◌, ℕ, ◌-◌, ◌<◌, ◌≤◌, List, [], ◌∷◌, length, get_or, refl, sym, ◌∙◌, ap, subst, Bool, true, false, ◌||◌, not, cond, Some, None, ltb-true, arith, inl, inr}
use Rattle.std.specs.Prelude.{AllPairs, fold, nat_lt, Contains, ◌↔◌}
use Rattle.std.specs.List.{AllByRecursion, list_any, position_or_len, swap_remove}
use Rattle.std.specs.Option.{option_map_or}
use Rattle.std.specs.Str.{bytes_eq}
use Rattle.std.proofs.lemmas.Bool.{cases_lt, ltb-false, true≢false, false_from_ne_true, or_parts}
use Rattle.std.proofs.lemmas.Bool.Decides.{eqb_tells}
use Rattle.std.proofs.lemmas.List.Elements.{filter_passes, recursion_from_All}
use Rattle.std.proofs.lemmas.List.Sums.{fails_before_first, passes_at_first}
use Rattle.std.proofs.lemmas.Slice.Eq.{bytes_eq-Decides}
use Rattle.wc_read.specs.Exports.{ExportValue}
use Rattle.wc_read.specs.Modules.{IsModule, ModuleValue}
use Rattle.wc_gc.specs.Chains.{HasChain, KeptExportsAreRequired, KeptItemsHaveChains}
use Rattle.wc_read.specs.Decoded.{ItemIndex, decode, exported_item}
use Rattle.wc_read.specs.Entries.{refs_in}
use Rattle.wc_gc.specs.Exports.{dropped_names, export_names, is_required, kept_exports, without}
use Rattle.wc_gc.specs.LiveItems.{IsLive}
use Rattle.wc_graph.specs.Reached.{IsPath}
use Rattle.wc_gc.proofs.BuiltPartLemmas.{each_weaker}
use Rattle.wc_gc.proofs.KeptExportLemmas.{at_hole, at_other, bounded_after, pairs_named, pairs_without}
use Rattle.wc_graph.proofs.ListLemmas.{contains_mapped}
use Rattle.wc_graph.proofs.ListLemmas.{in_all, in_filter, contains_unmapped}

-- lists

pub any_fails : {A : Type 0} (p : A → Bool) (xs : List A) → list_any p xs ≡ false → AllByRecursion (λ x. p x ≡ false) xs
any_fails p [] h = tt
any_fails p (x ∷ xs) h = let none = or_parts (p x) (list_any p xs) h in (none.0, any_fails p xs none.1)

pub fails_any : {A : Type 0} (p : A → Bool) (xs : List A) → AllByRecursion (λ x. p x ≡ false) xs → list_any p xs ≡ false
fails_any p [] h = refl
fails_any p (x ∷ xs) h = ap (λ b. b || list_any p xs) h.0 ∙ fails_any p xs h.1

-- names

pub same_names : (xs ys : List ℕ) → bytes_eq xs ys ≡ true → xs ≡ ys
same_names xs ys h = (bytes_eq-Decides xs ys).0 h

abbrev Differ : ExportValue → ExportValue → Type 0
Differ x y = x.name ≢ y.name

differ_back : (x y : ExportValue) → Differ x y → Differ y x
differ_back x y h e = h (sym e)

-- exports of distinct names

module _ (es : List ExportValue) (pairs : AllPairs Differ es) where
  abbrev Last : ℕ
  Last = length es - 1

  differ_at : (i j : ℕ) (d : ExportValue) → i < length es → j < length es → j ≢ i → (get_or es i d).name ≢ (get_or es j d).name
  differ_at i j d h k other =
      elim (cases_lt i j) [
        | inl less ↦ pairs i j d less k
        | inr more ↦ differ_back (get_or es j d) (get_or es i d) (pairs j i d (lower more) h)
      ]
    where
      lower : j ≤ i → j < i
      lower m = elim (cases_lt j i) [ inl l ↦ l | inr l ↦ absurd (other (omega arith)) ]

  -- one is left where it is another than the one that is taken out

  in_removed : (i : ℕ) (d e : ExportValue) → i < length es → Contains (swap_remove es i d) e → (j : ℕ) × (j < length es) × (j ≢ i) × (get_or es j e ≡ e)
  in_removed i d e h c =
      elim (eqb_tells c.0 i) [
        | inl a ↦
            let same : c.0 ≡ i = a.1 in
            (Last, omega (arith, h), (λ q. omega (arith, q, same, bounded)), sym (at_hole Differ differ_back es i d pairs c.0 e bounded same) ∙ c.2)
        | inr b ↦ (c.0, omega (arith, bounded), b.1, sym (at_other Differ differ_back es i d pairs c.0 e bounded b.1) ∙ c.2)
      ]
    where
      bounded : c.0 < Last
      bounded = let l = bounded_after Differ differ_back es i d pairs in let b = c.1 in omega (arith, l, b)

  in_removed_back : (i j : ℕ) (d e : ExportValue) → i < length es → j < length es → j ≢ i → get_or es j e ≡ e → Contains (swap_remove es i d) e
  in_removed_back i j d e h k other is =
      elim (cases_lt j Last) [
        | inl less ↦ (
          j,
          (let l = bounded_after Differ differ_back es i d pairs in omega (arith, l, less)),
          at_other Differ differ_back es i d pairs j e less other ∙ is,
        )
        | inr more ↦
            let last : j ≡ Last = omega (arith, more, k) in
            let less : i < Last = lower last in (
              i,
              (let l = bounded_after Differ differ_back es i d pairs in omega (arith, l, less)),
              at_hole Differ differ_back es i d pairs i e less refl
                  ∙ (ap (λ n. get_or es n e) (sym last) ∙ is),
            )
      ]
    where
      lower : j ≡ Last → i < Last
      lower last = elim (cases_lt i Last) [ inl l ↦ l | inr l ↦ absurd (other (omega (arith, last, l, h))) ]

  module _ (name : List ℕ) (e : ExportValue) where
    abbrev test : ExportValue → Bool
    test x = bytes_eq name x.name

    abbrev first : ℕ
    first = position_or_len test es

    abbrev Left : List ExportValue → Type 0
    Left xs = Contains xs e ↔ (Contains es e × (test e ≡ false))

    taken : (x : ExportValue) → first < length es → Left (swap_remove es first x)
    taken x h = (to, back)
      where
        at_first : name ≡ (get_or es first e).name
        at_first = same_names name (get_or es first e).name (passes_at_first test es e h)

        to : Contains (swap_remove es first x) e → Contains es e × (test e ≡ false)
        to c =
            let r = in_removed first x e h c in (
              (r.0, r.1, r.3),
              false_from_ne_true (test e)
                  (λ t. differ_at first r.0 e h r.1 r.2 (sym at_first ∙ (same_names name e.name t ∙ ap (λ (z : ExportValue). z.name) (sym r.3)))),
            )

        back : Contains es e × (test e ≡ false) → Contains (swap_remove es first x) e
        back c =
            in_removed_back first c.0.0 x e h c.0.1
            (λ q. true≢false (sym (passes_at_first test es e h) ∙ (ap test (ap (λ n. get_or es n e) (sym q) ∙ c.0.2) ∙ c.1))) c.0.2

    none_taken : length es ≤ first → Left es
    none_taken h = ((λ c. (c, ap test (sym c.2) ∙ fails_before_first test es c.0 e (let b = c.1 in omega (arith, b, h)))), λ c. c.0)

    removed_by : (x : ExportValue) (b : Bool) → nat_lt first (length es) ≡ b → Left (option_map_or (λ i. swap_remove es i x) (cond b (Some first) None) es)
    removed_by x true h = taken x (ltb-true first (length es) h)
    removed_by x false h = none_taken (ltb-false first (length es) h)

in_without : (es : List ExportValue) (pairs : AllPairs Differ es) (name : List ℕ) (e : ExportValue)
    → Contains (without es name) e ↔ (Contains es e × (bytes_eq name e.name ≡ false))
in_without [] pairs name e = ((λ c. absurd (let b = c.1 in omega (arith, b))), λ c. c.0)
in_without (x ∷ xs) pairs name e = removed_by (x ∷ xs) pairs name e x (nat_lt (position_or_len (λ (y : ExportValue). bytes_eq name y.name) (x ∷ xs))
    (length (x ∷ xs))) refl

in_fold : (names : List (List ℕ)) (es : List ExportValue) (pairs : AllPairs Differ es) (e : ExportValue)
    → Contains (fold without es names) e ↔ (Contains es e × (list_any (λ n. bytes_eq n e.name) names ≡ false))
in_fold [] es pairs e = ((λ c. (c, refl)), λ c. c.0)
in_fold (n ∷ names) es pairs e =
    let rest = in_fold names (without es n) (pairs_without Differ differ_back es n pairs) e in
    let one = in_without es pairs n e in
    let any = list_any (λ k. bytes_eq k e.name) names in (
      (λ c. let r = rest.0 c in let o = one.0 r.0 in (o.0, ap (λ b. b || any) o.1 ∙ r.1)),
      λ c. let none = or_parts (bytes_eq n e.name) any c.1 in rest.1 (one.1 (c.0, none.0), none.1),
    )

-- a name is dropped where it is not required

module _ (required : List (List ℕ)) (es : List ExportValue) (e : ExportValue) where
  abbrev is_left : Bool
  is_left = list_any (λ n. bytes_eq n e.name) (dropped_names required es)

  left_required : Contains es e → is_left ≡ false → is_required required e.name ≡ true
  left_required c h = by (is_required required e.name) refl
    where
      by : (b : Bool) → is_required required e.name ≡ b → b ≡ true
      by true q = refl
      by false q =
          let there = in_filter (λ name. not (is_required required name)) (export_names es) e.name
          (contains_mapped (λ (x : ExportValue). x.name) es e c) (ap not q) in
          absurd (true≢false (sym ((bytes_eq-Decides e.name e.name).1 refl) ∙ in_all (λ n. bytes_eq n e.name ≡ false)
          (dropped_names required es) e.name (any_fails (λ n. bytes_eq n e.name) (dropped_names required es) h) there))

  required_left : is_required required e.name ≡ true → is_left ≡ false
  required_left h =
      fails_any (λ n. bytes_eq n e.name) (dropped_names required es)
      (each_weaker (λ n. not (is_required required n) ≡ true) (λ n. bytes_eq n e.name ≡ false) (dropped_names required es)
      (λ n k. false_from_ne_true (bytes_eq n e.name) (λ t. true≢false (sym k ∙ ap not (ap (is_required required) (same_names n e.name t) ∙ h))))
      (recursion_from_All (λ n. not (is_required required n) ≡ true) (dropped_names required es)
      (filter_passes (λ name. not (is_required required name)) (export_names es))))

pub exports_required : KeptExportsAreRequired
exports_required required m e v =
    let pairs = pairs_named (λ (x : ExportValue). x.name) m.exports v.distinct in
    let kept = in_fold (dropped_names required m.exports) m.exports pairs e in (
      (λ c. let k = kept.0 c in record { there = k.0; named = left_required required m.exports e k.0 k.1 }),
      λ r. kept.1 (r.there, required_left required m.exports e r.named),
    )

module _ (required : List (List ℕ)) (m : ModuleValue) (x : ItemIndex) (v : IsModule m) where
  abbrev kept : List ExportValue
  kept = kept_exports required m.exports

  live_chain : IsLive required m x → HasChain required m x
  live_chain l =
      let e = contains_unmapped exported_item kept l.0 l.1 in
      record {
        export = e.0;
        is_required = (exports_required required m e.0 v).0 e.1;
        chain = l.2;
        leads = subst (λ z. IsPath (refs_in (decode m)) z l.2 x) (sym e.2) l.3;
      }

  chain_live : HasChain required m x → IsLive required m x
  chain_live h = (
    exported_item h.export,
    contains_mapped exported_item kept h.export ((exports_required required m h.export v).1 h.is_required),
    h.chain,
    h.leads,
  )

pub items_have_chains : KeptItemsHaveChains
items_have_chains required m x v = (live_chain required m x v, chain_live required m x v)

-- The refusals of parts, from those of one rule after another.
use Rattle.std.proofs.Common.{◌≡◌, inl, inr, ℕ, ◌<◌, ◌+◌, List, ◌++◌, ◌≢◌, map, length, take, drop, get_or, sym, ap, subst, ◌∙◌, arith, length-append, take-append-drop}
use Rattle.std.specs.List.{AllPairs}
use Rattle.std.proofs.lemmas.List.{get_or_append_left, map-append}
use Rattle.wc_resolve.specs.declared.fault.ResolveFault.{ResolveFault}
use Rattle.wc_resolve.specs.declared.fault.ResolveFault.TheVariants.{IdRange, Unnamed, KeyMismatch, BadCharacter, ByValueResource, Empty}
use Rattle.wc_resolve.specs.declared.validate.order.OrderFault.{OrderFault}
use Rattle.wc_resolve.specs.declared.validate.order.OrderFault.TheVariants.{Memory as NoMemory, Cycle as OnCycle}
use Rattle.wc_resolve.specs.declared.explain.Part.{Part}
use Rattle.wc_resolve.specs.declared.explain.Part.TheVariants.{TypeDef, Package}
use Rattle.wc_resolve.specs.Fault.{IsOrderCause, IsResolveCause}
use Rattle.wc_resolve.specs.Explain.{IsBreach, IsPlace, IsRepeatAt}
use Rattle.wc_resolve.specs.Ranges.{AreIdsInRange}
use Rattle.wc_resolve.specs.Refusals.{IsOrderRefusal, IsRefusal, IsRepeatRefused, IsRuleBroken, Refusal}
use Rattle.wc_resolve.specs.Views.{PackageView}
use Rattle.wc_resolve.specs.WellFormed.{AreNamed, KeysMatch, HaveDistinctNames, AreNamesSpelled, HasNoResourceByValue}
use Rattle.wc_resolve.specs.Kinds.{ResolveView, HasCycle}
use Rattle.wc_resolve.proofs.ExplainLemmas.{broken, filled_iff, free_iff, in_range_iff, match_iff, named_iff, spelled_iff}

rule_refused : (r : ResolveView) (x : Refusal) (f : ResolveFault) → ((p : Part) → IsBreach r f p → IsResolveCause r f × IsPlace r f p) → IsRuleBroken r f x → IsRefusal r x
rule_refused r x f h (inl memory) = inl memory
rule_refused r x f h (inr at) =
    let found = h at.1 at.3 in
    inr (at.1, at.2, subst (λ z. IsResolveCause r z) (sym at.0) found.0, subst (λ z. IsPlace r z at.1) (sym at.0) found.1)

pub range_refused : (r : ResolveView) (x : Refusal) → IsRuleBroken r IdRange x → IsRefusal r x
range_refused r x = rule_refused r x IdRange (λ p b. ((λ ids. broken r IdRange p b ((in_range_iff r).1 ids)), b))

pub order_refused : (r : ResolveView) (x : Refusal) (f : OrderFault) → AreIdsInRange r → IsOrderCause r.types f → IsOrderRefusal f x → IsRefusal r x
order_refused r x NoMemory ids cause h = inl h
order_refused r x (OnCycle index) ids cause h =
    inr (TypeDef index, h.1, subst (λ z. IsResolveCause r z) (sym h.0) (ids, (index, cause)), subst (λ z. IsPlace r z (TypeDef index)) (sym h.0) cause)

module _ (r : ResolveView) (x : Refusal) (ids : AreIdsInRange r) (order : HasCycle r.types → ⊥) where
  pub unnamed_refused : IsRuleBroken r Unnamed x → IsRefusal r x
  unnamed_refused = rule_refused r x Unnamed (λ p b. ((ids, order, λ all. broken r Unnamed p b ((named_iff r).1 all)), b))

  pub keys_refused : AreNamed r → IsRuleBroken r KeyMismatch x → IsRefusal r x
  keys_refused named = rule_refused r x KeyMismatch (λ p b. ((ids, order, named, λ all. broken r KeyMismatch p b ((match_iff r).1 all)), b))

  pub spelling_refused : AreNamed r → KeysMatch r → HaveDistinctNames r.packages → IsRuleBroken r BadCharacter x → IsRefusal r x
  spelling_refused named keyed distinct =
      rule_refused r x BadCharacter (λ p b. ((ids, order, named, keyed, distinct, λ all. broken r BadCharacter p b ((spelled_iff r).1 all)), b))

  pub by_value_refused : AreNamed r → KeysMatch r → HaveDistinctNames r.packages → AreNamesSpelled r → IsRuleBroken r ByValueResource x → IsRefusal r x
  by_value_refused named keyed distinct spelled =
      rule_refused r x ByValueResource (λ p b. ((ids, order, named, keyed, distinct, spelled, λ all. broken r ByValueResource p b ((free_iff r).1 all)), b))

  pub empty_refused : AreNamed r → KeysMatch r → HaveDistinctNames r.packages → AreNamesSpelled r → HasNoResourceByValue r → IsRuleBroken r Empty x → IsRefusal r x
  empty_refused named keyed distinct spelled free =
      rule_refused r x Empty (λ p b. ((ids, order, named, keyed, distinct, spelled, free, λ all. broken r Empty p b ((filled_iff r).1 all)), b))

-- what is so of all pairs of a list is so of those in its front
pairs_left : {X : Type 0} (R : X → X → Type 0) (xs ys : List X) → AllPairs R (xs ++ ys) → AllPairs R xs
pairs_left R xs ys all = λ i j d less small.
    let within : j < length (xs ++ ys) = omega (arith, small, length-append xs ys) in
    let first : get_or (xs ++ ys) i d ≡ get_or xs i d = get_or_append_left xs ys d i (omega (arith, less, small)) in
    let second : get_or (xs ++ ys) j d ≡ get_or xs j d = get_or_append_left xs ys d j small in
    subst (λ z. R z (get_or xs j d)) first (subst (λ z. R (get_or (xs ++ ys) i d) z) second (all i j d less within))

repeat_refutes : (packages : List PackageView) (i : ℕ) → IsRepeatAt packages i → HaveDistinctNames packages → ⊥
repeat_refutes packages i h distinct =
    let front = take (i + 1) packages in
    let rest = drop (i + 1) packages in
    let name : PackageView → _ = λ p. p.name in
    let cut : map name packages ≡ map name front ++ map name rest =
    ap (λ z. map name z) (sym (take-append-drop (i + 1) packages)) ∙ map-append name front rest in
    h.2 (pairs_left (λ m n. m ≢ n) (map name front) (map name rest) (subst (AllPairs (λ m n. m ≢ n)) cut distinct))

pub repeat_refused : (r : ResolveView) (x : Refusal) → AreIdsInRange r → (HasCycle r.types → ⊥) → AreNamed r → KeysMatch r → IsRepeatRefused r.packages x
    → IsRefusal r x
repeat_refused r x ids order named keyed (inl memory) = inl memory
repeat_refused r x ids order named keyed (inr at) =
    inr (
      Package at.1,
      at.2,
      subst (λ z. IsResolveCause r z) (sym at.0) (ids, order, named, keyed, repeat_refutes r.packages at.1 at.3),
      subst (λ z. IsPlace r z (Package at.1)) (sym at.0) at.3,
    )

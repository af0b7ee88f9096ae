-- Functions that have their lowerings have no fault for one, and can be named.
use Rattle.std.proofs.Common.{◌≡◌, inl, inr, List, [], ◌∷◌, All, Option, Some, None, Bool, true, false, cond, filter, refl, sym, ◌∙◌, ap, subst, String, Global}
use Rattle.std.specs.Prelude.{◌&&◌, is_none, not}
use Rattle.std.specs.List.{cons_option, filter_map, flat_map}
use Rattle.std.specs.Option.{IsSome, option_map}
use Rattle.std.proofs.lemmas.List.Elements.{All-append, All-cons, All-filter, All-head, All-nil, All-tail, All-weaker}
use Rattle.wc_resolve.specs.Kinds.{ResolveView}
use Rattle.wc_names.specs.Views.{ImportView, interface_func, world_func}
use Rattle.wc_validate.specs.Exports.Map.{ExportRecord}
use Rattle.wc_validate.specs.Imports.Map.{imports_in}
use Rattle.wc_world.specs.FunctionsLowered.{IsLoweredIn}
use Rattle.wc_world.specs.Options.{memory_flag, realloc_flag}
use Rattle.wc_world.specs.Slots.{all_imports, imports_of}
use Rattle.wc_world.specs.Views.{ComponentWorldView, ImportMapView, LoweringView, NamedWorldAdapter}
use Rattle.wc_plan.specs.Calls.{Wanted, all_wanted, call_eq, call_of, firsts, wanted, wanted_by}
use Rattle.wc_world.specs.Nameable.{IsNameable, AreNameable}
use Rattle.wc_plan.specs.Fault.{IsFaultNamed, IsFirstFault, UseFault, lowered_fault, no_lowering, no_memory, no_realloc}
use Rattle.wc_plan.specs.Encoder.{IsLowered}
use Rattle.wc_plan.specs.Plans.{has_memory, import_realloc, lowering_of, needs}
use Rattle.wc_plan.specs.Planner.{IsPlanFault}
use Rattle.wc_plan.specs.Views.{CallView, OwnerView, adapter_owner, main_owner}
use Rattle.wc_plan.specs.declared.fault.PlanFault.{PlanFault}
use Rattle.wc_plan.specs.declared.fault.PlanFault.TheVariants.{NoLowering}
use Rattle.wc_world.proofs.ModuleLemmas.{Single, of_adapters, of_main}
use Rattle.wc_world.proofs.PairListLemmas.{all_back}

lowered_nameable : (r : ResolveView) (m : ImportMapView) (i : ImportView) → IsLoweredIn r m i → IsNameable r i
lowered_nameable r m (interface_func key i name abi) h = (h.0, h.1)
lowered_nameable r m i h = tt

abbrev AreLowered : ComponentWorldView → Type 0
AreLowered w = All (IsLoweredIn w.encoder.resolve w.import_map) (imports_of (all_imports w.info w.adapters))

pub lowered_are_nameable : (w : ComponentWorldView) → AreLowered w → AreNameable w
lowered_are_nameable w h = All-weaker (IsLoweredIn w.encoder.resolve w.import_map) (IsNameable w.encoder.resolve)
    (lowered_nameable w.encoder.resolve w.import_map) (imports_of (all_imports w.info w.adapters)) h

module _ (w : ComponentWorldView) where
  abbrev HasLowering : Wanted → Type 0
  HasLowering x = IsSome (lowering_of w x.0)

  one_wanted : (owner : OwnerView) (exports : ExportRecord) (i : ImportView) (rest : List Wanted) → IsLoweredIn w.encoder.resolve w.import_map i
      → All HasLowering rest
      → All HasLowering (cons_option (option_map (λ (c : CallView). (c, exports)) (call_of w.encoder.resolve owner i)) rest)
  one_wanted owner exports (world_func key name abi) rest h later = All-cons HasLowering _ rest h later
  one_wanted owner exports (interface_func key i name abi) rest h later = All-cons HasLowering _ rest h.2 later
  one_wanted owner exports i rest h later = later

  module_wanted : (owner : OwnerView) (exports : ExportRecord) (xs : List Single) → All (IsLoweredIn w.encoder.resolve w.import_map) (imports_of xs)
      → All HasLowering (filter_map (λ (x : Single). option_map (λ (c : CallView). (c, exports)) (call_of w.encoder.resolve owner x.1.1)) xs)
  module_wanted owner exports [] h = All-nil HasLowering
  module_wanted owner exports (x ∷ xs) h =
      one_wanted owner exports x.1.1 (filter_map
      (λ (x : Single). option_map (λ (c : CallView). (c, exports)) (call_of w.encoder.resolve owner x.1.1)) xs)
      (All-head (IsLoweredIn w.encoder.resolve w.import_map) x.1.1 (imports_of xs) h)
      (module_wanted owner exports xs (All-tail (IsLoweredIn w.encoder.resolve w.import_map) x.1.1 (imports_of xs) h))

  adapters_wanted : (ys : List NamedWorldAdapter)
      → All (λ (a : NamedWorldAdapter). All (IsLoweredIn w.encoder.resolve w.import_map) (imports_of (imports_in a.1.info.imports))) ys
      → All HasLowering (flat_map (λ (a : NamedWorldAdapter). wanted_by w.encoder.resolve (adapter_owner a.0) a.1.info) ys)
  adapters_wanted [] h = All-nil HasLowering
  adapters_wanted (a ∷ ys) h =
      All-append HasLowering (wanted_by w.encoder.resolve (adapter_owner a.0) a.1.info)
      (flat_map (λ (a : NamedWorldAdapter). wanted_by w.encoder.resolve (adapter_owner a.0) a.1.info) ys)
      (module_wanted (adapter_owner a.0) a.1.info.exports (imports_in a.1.info.imports)
      (All-head (λ (a : NamedWorldAdapter). All (IsLoweredIn w.encoder.resolve w.import_map) (imports_of (imports_in a.1.info.imports))) a ys h))
      (adapters_wanted ys (All-tail (λ (a : NamedWorldAdapter). All (IsLoweredIn w.encoder.resolve w.import_map)
      (imports_of (imports_in a.1.info.imports))) a ys h))

  firsts_have : (xs : List Wanted) → All HasLowering xs → All HasLowering (firsts xs)
  firsts_have [] h = h
  firsts_have (x ∷ xs) h =
      All-cons HasLowering x (filter (λ (y : Wanted). not (call_eq x.0 y.0)) (firsts xs)) (All-head HasLowering x xs h)
      (All-filter (λ (y : Wanted). not (call_eq x.0 y.0)) HasLowering (firsts xs) (firsts_have xs (All-tail HasLowering x xs h)))

  wanted_have : AreLowered w → All HasLowering (wanted w)
  wanted_have h =
      firsts_have (all_wanted w) (All-append HasLowering (wanted_by w.encoder.resolve main_owner w.info)
      (flat_map (λ (a : NamedWorldAdapter). wanted_by w.encoder.resolve (adapter_owner a.0) a.1.info) w.adapters)
      (module_wanted main_owner w.info.exports (imports_in w.info.imports) (of_main (IsLoweredIn w.encoder.resolve w.import_map) w h))
      (adapters_wanted w.adapters (of_adapters (IsLoweredIn w.encoder.resolve w.import_map) w h)))

  two_faults : (a b : Bool) → cond a (Some no_memory) (cond b (Some no_realloc) None) ≡ Some no_lowering → ⊥
  two_faults true b h = cc h
  two_faults false true h = cc h
  two_faults false false h = cc h

  not_missing : (x : Wanted) (l : Option LoweringView) → IsSome l → lowered_fault w x l ≡ Some no_lowering → ⊥
  not_missing x None some h = cc some
  not_missing x (Some l) some h = two_faults (needs memory_flag l && not (has_memory w.info)) (needs realloc_flag l && is_none (import_realloc x.1)) h

  not_first : (name : String Global) (kind : UseFault) (p : IsFirstFault w (NoLowering name)) → p.kind ≡ kind → AreLowered w → ⊥
  not_first name no_lowering p is h =
      not_missing p.at (lowering_of w p.at.0)
      (All-head HasLowering p.at p.back (all_back HasLowering p.front (p.at ∷ p.back) (subst (All HasLowering) p.cut (wanted_have h))))
      (p.stopped ∙ ap (λ (k : UseFault). Some k) is)
  not_first name kind p is h = subst (λ k. IsFaultNamed k p.at.0.name (NoLowering name)) is p.named

  first_is_lowered : (f : PlanFault) → AreLowered w → IsFirstFault w f → IsLowered f
  first_is_lowered (NoLowering name) h p = not_first name p.kind p refl h
  first_is_lowered f h p = tt

  pub fault_is_lowered : (f : PlanFault) → AreLowered w → IsPlanFault w f → IsLowered f
  fault_is_lowered f h (inl is) = subst IsLowered (sym is) tt
  fault_is_lowered f h (inr p) = first_is_lowered f h p

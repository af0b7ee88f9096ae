-- The chains of a search that begins with the items of required exports.
use Rattle.std.proofs.Common.{◌≡◌, ℕ, ◌<◌, ◌≤◌, List, [], ◌++◌, length, map, refl, sym, ◌∙◌, ap, subst, Bool, true, arith, get_or}
use Rattle.std.proofs.Common.{Option, Some, None, length-append}
use Rattle.std.specs.Prelude.{All, Contains, IfSome, IsTrue, MatchOption, ◌↔◌}
use Rattle.std.specs.Borrow.{Bor}
use Rattle.std.specs.List.{slice_get}
use Rattle.std.proofs.lemmas.Bool.{both_ways}
use Rattle.std.proofs.lemmas.List.{length-map}
use Rattle.std.proofs.lemmas.List.Elements.{All-contains, Contains-get_or}
use Rattle.std.proofs.lemmas.Option.{slice_get_within}
use Rattle.wc_read.specs.Imports.{import_value, import_values}
use Rattle.wc_read.specs.Modules.{IsModule, ModuleValue, module_value}
use Rattle.wc_read.specs.declared.core_module.Module.{Module}
use Rattle.wc_read.specs.declared.types.Import.{Import}
use Rattle.wc_read.specs.Decoded.{ItemIndex, decode, decoded_module, exported_item, is_in}
use Rattle.wc_read.specs.Entries.{refs_in}
use Rattle.wc_gc.specs.InRange.{is_item_in_range}
use Rattle.wc_gc.specs.Exports.{kept_exports}
use Rattle.wc_gc.specs.LiveChains.{AreImportChains, IsChainTo, IsFirstName, items_named}
use Rattle.wc_gc.specs.LiveItems.{HasLiveBody, IsLive}
use Rattle.wc_graph.specs.Reached.{IsReachedFrom}
use Rattle.wc_read.specs.ImportItems.{IsImportItem}
use Rattle.wc_graph.specs.ShortestChains.{IsFinderChain}
use Rattle.wc_graph.specs.Finders.{AreFound}
use Rattle.wc_gc.specs.Private.Roots.{HaveFirstNames}
use Rattle.wc_graph.specs.Growth.{HasGrown}
use Rattle.wc_gc.specs.declared.import_chains.Chain.{Chain}
use Rattle.wc_gc.specs.declared.import_chains.ImportChains.{ImportChains}
use Rattle.wc_graph.proofs.FinderChainLemmas.{IsWalked, begins_at, finder_chains, found_from_list, in_list, reached_from_list}
use Rattle.wc_gc.proofs.LivenessLemmas.{roots_there}
use Rattle.wc_gc.proofs.RootLemmas.{kept_named, named_kept, old_of}

-- a chain that was walked, with the name of the item that it begins with
pub chain_shown : (required : List (List ℕ)) (m : ModuleValue) (c : ImportChains) (position at : ℕ) (x : ItemIndex) (shown : Chain) → AreImportChains required m c
    → slice_get c.order.items position ≡ Some x → IsFinderChain c.order.items c.finder.items position shown.items.items
    → IsWalked c.order.items c.finder.items at position shown.items.items → at < length c.order.items → slice_get c.exports.items at ≡ Some shown.export
    → IsChainTo required m x shown
chain_shown required m c position at x shown a is walk w lt named = record {
  shortest = a.chains position x shown.items.items is walk;
  begins = by (slice_get shown.items.items 0) refl;
}
  where
    by : (o : Option ItemIndex) → slice_get shown.items.items 0 ≡ o → IfSome o (λ y. IsFirstName required m.exports y shown.export.now)
    by None e = tt
    by (Some y) e = subst (λ o. IfSome o (λ name. IsFirstName required m.exports y name.now)) named
        (a.begin at y (begins_at c.order.items c.finder.items at position shown.items.items lt w y e))

-- where the items of imports are among others
abbrev pub HavePositions : List Import → List ItemIndex → List (Option ℕ) → Type 0
HavePositions imports order positions = (length positions ≡ length imports)
    × ((k : ℕ) (x : ItemIndex) (position : Option ℕ) → IsImportItem (import_values imports) k x → slice_get positions k ≡ Some position
    → MatchOption position (¬ (Contains order x)) (λ p. slice_get order p ≡ Some x))

pub same_positions : (imports is : List Import) (order others : List ItemIndex) (positions : List (Option ℕ)) → imports ≡ is → order ≡ others
    → HavePositions imports order positions → HavePositions is others positions
same_positions imports is order others positions e f h = subst (λ z. HavePositions z others positions) e (subst (λ z. HavePositions imports z positions) f h)

module _ (a : Module) (required : List (List ℕ)) (order : List ItemIndex) (has : ItemIndex → Bool) (v : IsModule (module_value a))
    (g : HasGrown [] has order (items_named (module_value a).exports required)) where
  -- what the search reaches is live

  pub live_reached : (x : ItemIndex) → IsReachedFrom (refs_in (decode (module_value a))) order x ↔ IsLive required (module_value a) x
  live_reached x =
      let m = module_value a in
      let from = reached_from_list (items_named m.exports required) has order g (refs_in (decode m)) x in (
        (λ r. let l = from.1 r in (l.0, named_kept required m v l.0 l.1, l.2, l.3)),
        λ l. from.0 (l.0, kept_named required m v l.0 l.1, l.2, l.3),
      )

  pub roots_in : All (λ (x : ItemIndex). IsTrue (is_in (decoded_module a) x)) order
  unfolding decoded_module
  roots_in =
      let m = module_value a in
      let there = roots_there a required (map exported_item (kept_exports required m.exports)) v refl in
      λ k d h. All-contains (λ (x : ItemIndex). IsTrue (is_in (decode m) x)) (map exported_item (kept_exports required m.exports)) (get_or order k d) there
      (named_kept required m v (get_or order k d) (in_list (items_named m.exports required) has order g (get_or order k d) (Contains-get_or order k d h)))

  pub chains_are : (c : ImportChains) → HaveFirstNames required (module_value a).exports order c.exports.items
      → AreFound (refs_in (decoded_module a)) order c.order.items c.finder.items → (more : List ItemIndex) → c.order.items ≡ order ++ more
      → ((x : ItemIndex) → Contains c.order.items x ↔ IsReachedFrom (refs_in (decoded_module a)) order x)
      → HavePositions a.imports.items c.order.items c.imports.items
      → AreImportChains required (module_value a) c
  unfolding decoded_module
  chains_are c n f more e reached h = record {
    live = λ x. ((λ k. (live_reached x).0 ((reached x).0 k)), λ l. (reached x).1 ((live_reached x).1 l));
    once = f.1.distinct;
    chains = λ k x items is w. finder_chains (refs_in (decode (module_value a))) (items_named (module_value a).exports required) c.order.items c.finder.items
        (found_from_list (items_named (module_value a).exports required) has order g (refs_in (decode (module_value a))) c.order.items c.finder.items f) k x items is w;
    begin = λ k x is. named k x is (slice_get c.exports.items k) refl;
    imports = record {
      each = h.0 ∙ sym (length-map a.imports.items import_value);
      at = λ k x position i s. positioned x position (h.1 k x position i s);
    };
  }
    where
      named : (k : ℕ) (x : ItemIndex) → slice_get c.order.items k ≡ Some x → (o : Option (Bor (List ℕ))) → slice_get c.exports.items k ≡ o
          → IfSome o (λ name. IsFirstName required (module_value a).exports x name.now)
      named k x is None q = tt
      named k x is (Some name) q =
          let within = slice_get_within c.exports.items k name q in
          let sized = n.sized in
          n.each k x name (sym (old_of order more k (omega (arith, within, sized))) ∙ (ap (λ z. slice_get z k) (sym e) ∙ is)) q

      positioned : (x : ItemIndex) (position : Option ℕ) → MatchOption position (¬ (Contains c.order.items x)) (λ p. slice_get c.order.items p ≡ Some x)
          → MatchOption position (¬ (IsLive required (module_value a) x)) (λ p. slice_get c.order.items p ≡ Some x)
      positioned x None h = λ l. h ((reached x).1 ((live_reached x).1 l))
      positioned x (Some p) h = h

  pub live_in_range : ((x : ItemIndex) → IsReachedFrom (refs_in (decoded_module a)) order x → is_item_in_range (decoded_module a) x ≡ true)
      → ¬ (HasLiveBody required (module_value a))
  unfolding decoded_module
  live_in_range good bad = both_ways _ bad.2 (good bad.0 ((live_reached bad.0).1 bad.1))

-- a list of names is no longer than what begins with what it names
pub names_bounded : (order found more : List ItemIndex) (names : List (Bor (List ℕ))) → length names ≡ length order → found ≡ order ++ more → length names ≤ length found
names_bounded order found more names sized e = let l = ap length e ∙ length-append order more in omega (arith, l, sized)

use Rattle.std.proofs.Common.{◌≡◌, ◌∷◌, ◌++◌, [], map, sym, ◌∙◌, ap, subst, rules, append_assoc, append-nil}
use Rattle.std.specs.Prelude.{string_bytes}
use Rattle.wc_gc.specs.Bits.{bit_of}
use Rattle.wc_gc.specs.Exports.{export_entries}
use Rattle.wc_gc.specs.LiveChains.{items_named}
use Rattle.wc_gc.specs.Private.TrimPlace.{HasFound}
use Rattle.wc_gc.specs.Private.Roots.{AreNamedRoots}
use Rattle.wc_gc.specs.Private.Search.{finds}
use Rattle.wc_gc.proofs.TrimPlaceLemmas.{no_roots}
use Rattle.wc_gc.proofs.RootLemmas.{AreBegun, begun, name_done}
use Rattle.wc_gc.proofs.finders.find_roots.Goals as goal

pub loop-name-init : goal.loop-name-init
loop-name-init c =
    let all : map string_bytes c.args.required.now.keys ≡ map string_bytes c.into_iter-name-iterator.result = search rules in (
      [],
      all,
      begun (export_entries c.args.named.now.entries) _ c.new.ensures.none c.new-2.ensures.items
          (no_roots (finds (λ b. bit_of b.words.items) c.new.result) c.new.result.order.items c.new.ensures.none c.new.ensures.consistent),
    )

pub loop-name-preserved : goal.loop-name-preserved
loop-name-preserved c =
    let done = c.loop-name.invariant.0 in
    let name = string_bytes c.in-Some.name.now in
    let step : map string_bytes c.loop-name.name-iterator ≡ name ∷ map string_bytes c.next.new.self = ap (map string_bytes) c.in-Some.ensures.steps in (
      done ++ name ∷ [],
      c.loop-name.invariant.1 ∙ (ap (λ z. done ++ z) step ∙ sym (append_assoc done (name ∷ []) (map string_bytes c.next.new.self))),
      subst (λ z. AreBegun (export_entries c.args.named.now.entries) (done ++ z ∷ []) c.find_named.new.roots) c.as_str.ensures.value
          (name_done (export_entries c.args.named.now.entries) done c.as_str.result c.loop-name.roots c.find_named.new.roots c.in_ok-find_named.ensures c.loop-name.invariant.2),
    )

pub returns-clause-found : goal.returns-clause-found
returns-clause-found c =
    let all : map string_bytes c.args.required.now.keys ≡ c.loop-name.invariant.0 =
    c.loop-name.invariant.1 ∙ (ap (λ z. c.loop-name.invariant.0 ++ map string_bytes z) c.in-None.ensures.steps.0 ∙ append-nil c.loop-name.invariant.0) in
    subst (λ z. HasFound (items_named (export_entries c.args.named.now.entries) z) c.loop-name.roots.search) (sym all) c.loop-name.invariant.2.found

pub returns-clause-named : goal.returns-clause-named
returns-clause-named c =
    let all : map string_bytes c.args.required.now.keys ≡ c.loop-name.invariant.0 =
    c.loop-name.invariant.1 ∙ (ap (λ z. c.loop-name.invariant.0 ++ map string_bytes z) c.in-None.ensures.steps.0 ∙ append-nil c.loop-name.invariant.0) in
    subst (λ z. AreNamedRoots z (export_entries c.args.named.now.entries) c.loop-name.roots) (sym all) c.loop-name.invariant.2.named

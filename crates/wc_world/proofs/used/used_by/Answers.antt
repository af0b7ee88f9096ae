use Rattle.std.proofs.Common.{◌++◌, ◌∷◌, [], sym, subst, take, filter, get_or}
use Rattle.wc_resolve.specs.Dependencies.{interface_ids}
use Rattle.wc_adapters.specs.Entries.{entries_of}
use Rattle.wc_world.specs.Used.{IsUsedPart, has_interface, is_exported_itself}
use Rattle.wc_world.proofs.UsedLemmas.{used_part_all, used_part_end, used_part_has, used_part_none, used_part_skip, dependency_there, none_among}
use Rattle.wc_world.proofs.used.used_by.Goals as goal
use Rattle.wc_world.proofs.used.used_by.Goals.{then-is_exported_itself+in_ok-add_with_used, else-is_exported_itself}

pub loop-dependency-init : goal.loop-dependency-init
loop-dependency-init c = used_part_none c.args.resolve.now (entries_of c.args.exports.now) c.args.id.0 (has_interface c.with_hasher-set.result) (λ j. none_among c.with_hasher-set.result.keys j c.with_hasher-set.ensures.empty)

pub loop-dependency-preserved : goal.loop-dependency-preserved
loop-dependency-preserved c =
    elim c.if-is_exported_itself.branch [
      | then-is_exported_itself+in_ok-add_with_used w ↦
          (let there = dependency_there c.args.resolve.now (entries_of c.args.exports.now) c.args.id.0 c.in_ok-dependencies.dependencies.items c.deref-dependency-items.result.now c.loop-dependency.dependency-index c.is_exported_itself.result
          c.in_ok-dependencies.ensures c.deref-dependency-items.ensures.value c.loop-dependency-test.true c.is_exported_itself.ensures w.if-is_exported_itself.true in
          used_part_has c.args.resolve.now (entries_of c.args.exports.now) c.args.id.0 c.deref-dependency-items.result.now c.loop-dependency.dependency-index c.is_exported_itself.result (has_interface c.if-is_exported_itself.set)
          c.loop-dependency-test.true c.is_exported_itself.ensures w.if-is_exported_itself.true
          (subst (λ s. IsUsedPart c.args.resolve.now (entries_of c.args.exports.now) c.args.id.0
          (filter (is_exported_itself (entries_of c.args.exports.now)) (take c.loop-dependency.dependency-index (interface_ids c.deref-dependency-items.result.now)) ++ (get_or c.deref-dependency-items.result.now c.loop-dependency.dependency-index (record { 0 = 0 })).0 ∷ []) (has_interface s)) (sym w.set-is)
          (w.in_ok-add_with_used.ensures (record { resolve = c.args.resolve.now; exports = entries_of c.args.exports.now; interface = c.args.id.0 })
          (c.requires.known (get_or c.deref-dependency-items.result.now c.loop-dependency.dependency-index (record { 0 = 0 })).0 there) there (filter (is_exported_itself (entries_of c.args.exports.now)) (take c.loop-dependency.dependency-index (interface_ids c.deref-dependency-items.result.now)))
          c.loop-dependency.invariant)))
      | else-is_exported_itself w ↦
          used_part_skip c.args.resolve.now (entries_of c.args.exports.now) c.args.id.0 c.deref-dependency-items.result.now c.loop-dependency.dependency-index c.is_exported_itself.result (has_interface c.if-is_exported_itself.set)
          c.loop-dependency-test.true c.is_exported_itself.ensures w.if-is_exported_itself.false
          (subst (λ s. IsUsedPart c.args.resolve.now (entries_of c.args.exports.now) c.args.id.0 (filter (is_exported_itself (entries_of c.args.exports.now)) (take c.loop-dependency.dependency-index (interface_ids c.deref-dependency-items.result.now))) (has_interface s)) (sym w.set-is)
          c.loop-dependency.invariant)
    ]

pub returns : goal.returns
returns c =
    used_part_all c.args.resolve.now (entries_of c.args.exports.now) c.args.id.0 (has_interface c.loop-dependency.set)
    (used_part_end c.args.resolve.now (entries_of c.args.exports.now) c.args.id.0 c.in_ok-dependencies.dependencies.items c.deref-dependency-items.result.now c.loop-dependency.dependency-index (has_interface c.loop-dependency.set)
    c.in_ok-dependencies.ensures c.deref-dependency-items.ensures.value c.loop-dependency-test.false c.loop-dependency.invariant)

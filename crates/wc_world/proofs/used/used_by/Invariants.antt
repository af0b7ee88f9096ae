use Rattle.std.proofs.Common.{take, filter}
use Rattle.wc_resolve.specs.Dependencies.{interface_ids}
use Rattle.wc_adapters.specs.Entries.{entries_of}
use Rattle.wc_world.specs.Used.{IsUsedPart, has_interface, is_exported_itself}
use Rattle.wc_world.proofs.used.used_by.Given as goal

abbrev pub invariant-loop-dependency : goal.invariant-loop-dependency
invariant-loop-dependency l = IsUsedPart l.resolve (entries_of l.exports) l.fn.id.0 (filter (is_exported_itself (entries_of l.exports)) (take l.dependency-index (interface_ids l.dependency-items))) (has_interface l.set)

use Rattle.std.proofs.Common.{◌≡◌, ◌++◌, ℕ, List, map}
use Rattle.std.specs.Prelude.{string_bytes}
use Rattle.wc_gc.specs.Exports.{export_entries}
use Rattle.wc_gc.proofs.RootLemmas.{AreBegun}
use Rattle.wc_gc.proofs.finders.find_roots.Given as goal

abbrev pub invariant-loop-name : goal.invariant-loop-name
invariant-loop-name l = (done : List (List ℕ)) × (map string_bytes l.required.keys ≡ done ++ map string_bytes l.name-iterator)
    × AreBegun (export_entries l.named.entries) done l.roots

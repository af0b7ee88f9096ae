use Rattle.std.proofs.Common.{ℕ, String, map}
use Rattle.std.specs.declared.alloc.Global.{Global}
use Rattle.wc_validate.specs.Imports.FirstFunctions.{function_at}
use Rattle.wc_validate.specs.Imports.Map.{required_entry}
use Rattle.wc_validate.specs.Imports.Instances.{import_entry}
use Rattle.wc_validate.proofs.AdapterFunctionLemmas.{CollectedFirsts}
use Rattle.wc_validate.proofs.imports.map.required_among.Given as goal

abbrev pub invariant-loop-name : goal.invariant-loop-name
invariant-loop-name l =
    CollectedFirsts (λ (e : String Global × ℕ). function_at (map import_entry l.names.entries) e.1) l.positions.entries l._name-iterator
    (map required_entry l.functions.entries)

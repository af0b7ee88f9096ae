use Rattle.std.proofs.Common.{[], List, map, ℕ}
use Rattle.wc_read.specs.Types.{FuncTypeValue}
use Rattle.wc_names.specs.ExportViews.{ExportView}
use Rattle.wc_validate.specs.Imports.Map.{required_entry}
use Rattle.wc_validate.specs.Exports.Iter.{exports_left}
use Rattle.wc_world.proofs.NameLemmas.{NameWalk}
use Rattle.wc_world.proofs.trimming.required_names.Given as goal

abbrev pub invariant-loop-name : goal.invariant-loop-name
invariant-loop-name l = NameWalk (λ (f : List ℕ × FuncTypeValue). f.0) [] (map required_entry l.required.entries) (map required_entry l.name-iterator) l.names.keys

abbrev pub invariant-loop-name-2 : goal.invariant-loop-name-2
invariant-loop-name-2 l = NameWalk (λ (x : List ℕ × ExportView). x.0) (map (λ (f : List ℕ × FuncTypeValue). f.0) (map required_entry l.fn.required.entries)) l.exports (exports_left l.name-iterator) l.names.keys

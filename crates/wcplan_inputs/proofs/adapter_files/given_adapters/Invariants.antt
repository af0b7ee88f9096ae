use Rattle.std.proofs.Common.{List, map}
use Rattle.std.specs.List.{AllZip}
use Rattle.wc_adapters.specs.Adapters.{adapter_entry}
use Rattle.wc_selection.specs.AdapterKeys.{AreAdapterKeys}
use Rattle.wc_selection.specs.Keys.{NamedKey}
use Rattle.wc_selection.specs.Requests.{RequestValue}
use Rattle.wcplan_inputs.specs.Private.AdapterFiles.{IsAdapterOf}
use Rattle.wcplan_inputs.specs.Private.SharedKeys.{file_bytes}
use Rattle.wcplan_inputs.proofs.adapter_files.given_adapters.Given as goal

abbrev pub invariant-loop-file : goal.invariant-loop-file
invariant-loop-file l =
    (q : RequestValue) (keys : List NamedKey) → AreAdapterKeys q keys l.given
    → AllZip (IsAdapterOf q keys) (map file_bytes l.yielded) (map adapter_entry l.adapters.entries)

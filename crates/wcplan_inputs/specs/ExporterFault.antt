-- Why it can't be told which module exports a key: the texts.
use Rattle.std.specs.Prelude.{ℕ, List, [], ◌++◌, codes, string_bytes}
use Rattle.wc_texts.specs.Escape.{escaped}
use Rattle.wc_texts.specs.FaultTexts.{memory_text}
use Rattle.wcplan_inputs.specs.declared.exporter_fault.ExporterFault.{ExporterFault}
use Rattle.wcplan_inputs.specs.declared.exporter_fault.ExporterFault.TheVariants.{Memory, NoExporter, SeveralExporters}

abbrev pub no_exporter_text : List ℕ → List ℕ
no_exporter_text key = codes "no module exports all functions of `" ++ (key ++ codes "`")

abbrev pub several_text : List ℕ → List ℕ → List ℕ
several_text key listing = codes "several adapters export all functions of `" ++ (key ++ (codes "`:" ++ listing))

-- the text of a fault, escaped
abbrev pub exporter_fault_text : ExporterFault → List ℕ
exporter_fault_text Memory = memory_text
exporter_fault_text (NoExporter key lines) = escaped (no_exporter_text (string_bytes key))
exporter_fault_text (SeveralExporters key listing) = escaped (several_text (string_bytes key) (string_bytes listing))

-- what is printed under it
abbrev pub exporter_lines : ExporterFault → List ℕ
exporter_lines (NoExporter key lines) = string_bytes lines
exporter_lines f = []

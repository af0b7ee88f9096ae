use Rattle.std.proofs.Common.{ap, sym}
use Rattle.json.specs.Print.{escape_byte, print_from}
use Rattle.wc_texts.specs.Shapes.{object_of}
use Rattle.wcwhy.specs.JsonFaults.{fault_json_line}
use Rattle.wcwhy.proofs.json_faults.fixed_json.Goals as goal

pub returns-in-Output-clause-whole : goal.returns-in-Output-clause-whole
unfolding print_from escape_byte object_of
returns-in-Output-clause-whole c = ap fault_json_line (sym c.in-Output.is)

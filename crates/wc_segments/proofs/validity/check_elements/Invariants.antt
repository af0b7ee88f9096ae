use Rattle.std.proofs.Common.{map}
use Rattle.wc_read.specs.Items.{table_value}
use Rattle.wc_read.specs.Reading.InitTypes.{scope_value}
use Rattle.wc_segments.specs.Elements.{element_value}
use Rattle.wc_segments.specs.Validity.{IsElement}
use Rattle.wc_segments.proofs.ValidityLemmas.{HoldTo}
use Rattle.wc_segments.proofs.validity.check_elements.Given as goal

abbrev pub invariant-loop-element : goal.invariant-loop-element
invariant-loop-element l = HoldTo (IsElement (scope_value l.scope) (map table_value l.tables)) element_value l.elements l.element-index

-- Marks by numbers.
use Rattle.std.specs.Prelude.{◌≡◌, ℕ, Bool, true, false, List, Option, Some, None}
use Rattle.std.specs.List.{filter_map}
use Rattle.std.specs.Option.{option_map, option_map_or}
use Rattle.std.specs.declared.alloc.Global.{Global}
use Rattle.std.specs.declared.vec.Vec.{Vec}
use Rattle.wc_graph.specs.ChainMarks.{is_set}
use Rattle.wc_graph.specs.Dominators.{AreGraphDominators}
use Rattle.wc_why.specs.Component.{asked_items}
use Rattle.wc_why.specs.Private.Numbers.{number_of, total}
use Rattle.wc_why.specs.declared.component.Target.{Target}
use Rattle.wc_why.specs.declared.numbers.Numbers.{Numbers}

-- the numbers of the targets that were asked for
abbrev pub asked_numbers : Numbers → List Target → List ℕ
asked_numbers n targets = filter_map (number_of n) (asked_items targets)

-- there are none, or they are those of dominators
abbrev pub AreMarks : (ℕ → List ℕ) → Numbers → List ℕ → List Target → Bool → Option (Vec Bool Global) → Type 0
AreMarks names n roots targets false marks = marks ≡ None
AreMarks names n roots targets true marks = (v : Vec Bool Global) × (marks ≡ Some v) × AreGraphDominators names (total n) roots (asked_numbers n targets) v.items

-- the mark of an item
abbrev pub mark_in : Numbers → ℕ × ℕ → Vec Bool Global → Bool
mark_in n y v = option_map_or (is_set v.items) (number_of n y) false

abbrev pub mark_of : Numbers → Option (Vec Bool Global) → ℕ × ℕ → Option Bool
mark_of n marks y = option_map (mark_in n y) marks

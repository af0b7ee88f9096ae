-- What is printed of a component's plan: a line for each use, escaped.
use Rattle.std.specs.Prelude.{ℕ, List, ◌++◌, codes}
use Rattle.std.specs.List.{flat_map}
use Rattle.wc_texts.specs.Escape.{escaped}
use Rattle.wc_plan.specs.Lines.{called_text, owner_text, realloc_text, slot_text, space}
use Rattle.wc_plan.specs.Views.{UseView}

-- ` slot N realloc NAME`
abbrev pub needed_text : UseView → List ℕ
needed_text u = codes " slot " ++ (slot_text u.slot ++ (codes " realloc " ++ realloc_text u.realloc))

-- the line of a use, as it is written of a plan, without its end
abbrev pub use_text : UseView → List ℕ
use_text u = owner_text u.call.owner ++ (space ++ (called_text u.call ++ needed_text u))

abbrev pub printed_line : UseView → List ℕ
printed_line u = escaped (use_text u) ++ codes "\n"

-- a line for each use, in order
abbrev pub lines_text : List UseView → List ℕ
lines_text uses = flat_map printed_line uses

-- The bodies that the search keeps.
use Rattle.std.specs.Prelude.{◌≢◌, ℕ, List, [], Option}
use Rattle.std.specs.Borrow.{Bor}
use Rattle.std.specs.List.{slice_get}
use Rattle.std.specs.Option.{option_map_or}
use Rattle.wc_read.specs.Bodies.{BodyValue}
use Rattle.wc_read.specs.declared.items.Item.{Item}
use Rattle.wc_gc.specs.Private.BodyCuts.{AreCut, IsBodyCut, IsFuncCut, IsOpenAt, ReadFuncs, stretches_in}
use Rattle.wc_gc.specs.declared.body_cuts.BodyCuts.{BodyCuts}
use Rattle.wc_gc.specs.declared.body_cuts.Stretch.{Stretch}

-- the stretches of the body of the function at an index; none, where it has to be read again
abbrev pub stretches_at : BodyCuts → ℕ → List Stretch
stretches_at c n = option_map_or (stretches_in c.stretches.items) (slice_get c.spans.items n) []

-- if there are any, they are those of a body
abbrev pub IsCutAt : BodyCuts → ℕ → Option BodyValue → Type 0
IsCutAt c n body = stretches_at c n ≢ [] → IsBodyCut (stretches_at c n) body

-- they are those of a function's body
abbrev pub IsFuncCutAt : BodyCuts → ℕ → Item ℕ (Bor (List ℕ)) → Type 0
IsFuncCutAt c n f = stretches_at c n ≢ [] → IsFuncCut (stretches_at c n) f

-- the bodies of functions that were read are cut
abbrev pub AreBodiesCut : ReadFuncs → BodyCuts → Type 0
AreBodiesCut funcs c = AreCut funcs c.stretches.items c.spans.items

-- they are cut still
abbrev pub KeepsCuts : ReadFuncs → BodyCuts → BodyCuts → Type 0
KeepsCuts funcs old new = AreBodiesCut funcs old → AreBodiesCut funcs new

-- they are cut still, once the body that was read, that of the function at an index, is kept
abbrev pub KeepsBody : ℕ → BodyCuts → BodyCuts → Type 0
KeepsBody n old new = (funcs : ReadFuncs) → IsOpenAt funcs n old.current → KeepsCuts funcs old new

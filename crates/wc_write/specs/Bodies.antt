-- The text of a function's body (WebAssembly core specification, 5.5.13 "Code Section").
use Rattle.std.specs.Prelude.{ℕ, List, ◌++◌}
use Rattle.std.specs.List.{flat_map}
use Rattle.wc_read.specs.Bodies.{BodyValue}
pub use Rattle.wc_read.specs.Text.{locals_text}
use Rattle.wc_write.specs.Text.{vector_text}
use Rattle.wc_write.specs.Operators.{instr_text}

-- a body: its runs of locals unchanged, and its operators
unfoldable pub body_text : BodyValue → List ℕ
body_text b = vector_text locals_text b.locals ++ flat_map instr_text b.operators

-- The bodies and initialisers that are written.
use Rattle.std.specs.Prelude.{ℕ, ◌+◌, List, ◌++◌, Bool, ◌&&◌, cond, Option, Some, None}
use Rattle.std.specs.Option.{option_map, option_to_list}
use Rattle.wc_read.specs.Operators.{InstrValue}
use Rattle.wc_read.specs.Bodies.{BodyValue}
use Rattle.wc_read.specs.BodyOperators.{body_in, init_in}
use Rattle.wc_read.specs.Renumbering.{Renumbering}
use Rattle.wc_read.specs.declared.operators.Space.TheVariants.{Funcs}
use Rattle.wc_gc.specs.AddedCode.{call, growing_body, stack_body}
use Rattle.wc_gc.specs.Edit.{lazy_position}
use Rattle.wc_gc.specs.Image.{new_body, new_init}
use Rattle.wc_gc.specs.NewIndices.{new_of}
use Rattle.wc_gc.specs.declared.parts.Parts.{Parts}
use Rattle.wc_gc.specs.declared.new_bodies.NewBody.{NewBody}
use Rattle.wc_gc.specs.declared.new_bodies.NewBody.TheVariants.{Old, Growing, Stack}
use Rattle.wc_gc.specs.declared.new_bodies.OldBody.{OldBody}
use Rattle.wc_gc.specs.declared.new_bodies.StackBody.{StackBody}
use Rattle.wc_gc.specs.declared.new_bodies.NewInit.{NewInit}

-- a call, where there is a function to be called
abbrev pub calls_of : Option ℕ → List InstrValue
calls_of func = option_to_list (option_map call func)

-- the call with which an exported function begins, under new indices
abbrev pub call_added : Renumbering → ℕ → Parts → Bool → Option ℕ
call_added new funcs p exported = cond (p.lazy && exported) (Some (new Funcs (funcs + lazy_position p))) None

-- what an exported function calls first
abbrev pub first_call : OldBody → Option ℕ
first_call b = cond b.exported b.bodies.now.call None

-- a body of the adapter under new indices, after a call
abbrev pub old_body_written : OldBody → BodyValue
old_body_written b = record {
  locals = (new_body (new_of b.bodies.now.new.now) (body_in b.bytes.now)).locals;
  operators = calls_of (first_call b) ++ (new_body (new_of b.bodies.now.new.now) (body_in b.bytes.now)).operators;
}

abbrev pub stack_body_written : StackBody → BodyValue
stack_body_written b = stack_body b.realloc b.stack b.state

abbrev pub body_written : NewBody → BodyValue
body_written (Old b) = old_body_written b
body_written (Growing g) = growing_body g.page_size_log2 0
body_written (Stack b) = stack_body_written b

-- an initialiser of the adapter under new indices
abbrev pub init_written : NewInit → List InstrValue
init_written i = new_init (new_of i.new.now) (init_in i.bytes.now)

-- Words of contracts of private functions. No contract of a public function cites these, directly or through others.
-- How a function that is required of an adapter is read.
use Rattle.std.specs.Prelude.{ℕ, List, Some}
use Rattle.wc_read.specs.Options.{◌>>=◌}
use Rattle.wc_read.specs.Reading.Contents.{func_type_at}
use Rattle.wc_read.specs.Reading.Reader.{Read, name_at}
use Rattle.wc_read.specs.Types.{FuncTypeValue, func_type_value}
use Rattle.wc_calls.specs.declared.required_functions.NamedFunction.{NamedFunction}

abbrev pub function_view : NamedFunction → List ℕ × FuncTypeValue
function_view f = (f.name.now, func_type_value f.ty)

unfoldable pub function_at : Read (List ℕ × FuncTypeValue)
function_at bytes = do
  name ← name_at bytes
  ty ← func_type_at name.1
  Some ((name.0, ty.0), ty.1)

-- Element segments (5.5.12).
use Rattle.std.specs.Prelude.{Bool, true, false, Some, ◌==◌}
use Rattle.wc_read.specs.Options.{◌>>=◌}
use Rattle.wc_read.specs.Types.{is_reference}
use Rattle.wc_read.specs.Reading.Inits.{init_bytes_at}
use Rattle.wc_read.specs.Reading.Reader.{Read, as_made, byte_at, number_at, vector_at, where_at}
use Rattle.wc_read.specs.Reading.Types.{val_type_at}
use Rattle.wc_read.specs.declared.types.ValType.{ValType}
use Rattle.wc_read.specs.declared.types.ValType.TheVariants.{FuncRef}
use Rattle.wc_segments.specs.Elements.{ElementValue, ElementsValue, functions, expressions, form_of, function_kind}
use Rattle.wc_segments.specs.Reading.Modes.{mode_at}
use Rattle.wc_segments.specs.declared.elements.ElementForm.{ElementForm}
use Rattle.wc_segments.specs.declared.elements.TypeForm.{TypeForm}
use Rattle.wc_segments.specs.declared.elements.TypeForm.TheVariants.{Nothing, Kind, Reference}

unfoldable pub form_at : Read ElementForm
form_at bytes = number_at 32 bytes >>= λ flags. form_of flags.0 >>= λ form. Some (form, flags.1)

unfoldable pub kind_at : Read ValType
kind_at bytes = where_at (λ b. b == function_kind) byte_at bytes >>= as_made (λ _. FuncRef)

unfoldable pub reference_at : Read ValType
reference_at bytes = where_at is_reference val_type_at bytes

abbrev pub type_at : TypeForm → Read ValType
type_at Nothing bytes = Some (FuncRef, bytes)
type_at Kind bytes = kind_at bytes
type_at Reference bytes = reference_at bytes

unfoldable pub elements_at : Bool → Read ElementsValue
elements_at true bytes = vector_at init_bytes_at bytes >>= as_made expressions
elements_at false bytes = vector_at (number_at 32) bytes >>= as_made functions

unfoldable pub element_at : Read ElementValue
element_at bytes = do
  form ← form_at bytes
  mode ← mode_at form.0.mode form.1
  ty ← type_at form.0.ty mode.1
  elements ← elements_at form.0.has_expressions ty.1
  Some (record { mode = mode.0; ty = ty.0; elements = elements.0 }, elements.1)

-- Element segments (WebAssembly core specification, 2.5.7), and how bytes spell them (5.5.12).
use Rattle.std.specs.Prelude.{◌≡◌, ℕ, ◌==◌, if◌then◌else◌, List, [], ◌∷◌, ◌++◌, map, Bool, true, false, Option, Some, None}
use Rattle.wc_read.specs.Formats.{Format, SpellsNumber, SpellsVector}
use Rattle.wc_read.specs.Types.{SpellsValType, IsReference}
use Rattle.wc_read.specs.declared.types.ValType.{ValType}
use Rattle.wc_read.specs.declared.types.ValType.TheVariants.{FuncRef}
use Rattle.wc_segments.specs.Modes.{ModeValue, mode_value, IsInitialiser, SpellsMode}
use Rattle.wc_segments.specs.declared.modes.ModeForm.{ModeForm}
use Rattle.wc_segments.specs.declared.modes.ModeForm.TheVariants.{First, Named, Passive, Declarative}
use Rattle.wc_segments.specs.declared.elements.TypeForm.{TypeForm}
use Rattle.wc_segments.specs.declared.elements.TypeForm.TheVariants.{Nothing, Kind, Reference}
use Rattle.wc_segments.specs.declared.elements.ElementForm.{ElementForm}
use Rattle.wc_segments.specs.declared.elements.Elements.{Elements}
use Rattle.wc_segments.specs.declared.elements.Elements.TheVariants.{Functions, Expressions}
use Rattle.wc_segments.specs.declared.elements.ElementSegment.{ElementSegment}

-- functions by their indices, or the bytes of initialisers
pub data ElementsValue : Type 0 where
  functions : List ℕ → ElementsValue
  expressions : List (List ℕ) → ElementsValue

-- an element segment: how it is used, the type of its elements, its elements
pub record ElementValue : Type 0 where
  pub mode : ModeValue
  pub ty : ValType
  pub elements : ElementsValue

abbrev pub elements_value : Elements → ElementsValue
elements_value (Functions indices) = functions indices.items
elements_value (Expressions es) = expressions (map (λ e. e.bytes.now) es.items)

abbrev pub element_value : ElementSegment → ElementValue
element_value e = record { mode = mode_value e.mode; ty = e.ty; elements = elements_value e.elements }

abbrev pub form : ModeForm → TypeForm → Bool → ElementForm
form mode ty has_expressions = record { mode = mode; ty = ty; has_expressions = has_expressions }

-- the forms, by their flags
unfoldable pub form_of : ℕ → Option ElementForm
form_of flags =
    if flags == 0 then Some (form First Nothing false)
    else if flags == 1 then Some (form Passive Kind false)
    else if flags == 2 then Some (form Named Kind false)
    else if flags == 3 then Some (form Declarative Kind false)
    else if flags == 4 then Some (form First Nothing true)
    else if flags == 5 then Some (form Passive Reference true)
    else if flags == 6 then Some (form Named Reference true)
    else if flags == 7 then Some (form Declarative Reference true) else None

-- the byte of functions as a kind
abbrev pub function_kind : ℕ
function_kind = 0

-- what bytes have of the type of elements: nothing, or a kind, of functions; or a reference type
abbrev pub SpellsElementType : TypeForm → Format ValType
SpellsElementType Nothing bytes t = (bytes ≡ []) × (t ≡ FuncRef)
SpellsElementType Kind bytes t = (bytes ≡ function_kind ∷ []) × (t ≡ FuncRef)
SpellsElementType Reference bytes t = SpellsValType bytes t × IsReference t

-- a vector of expressions, or of functions
abbrev pub SpellsElements : Bool → Format ElementsValue
SpellsElements true bytes elements = (es : List (List ℕ)) × SpellsVector IsInitialiser bytes es × (elements ≡ expressions es)
SpellsElements false bytes elements = (indices : List ℕ) × SpellsVector (SpellsNumber 32) bytes indices × (elements ≡ functions indices)

-- flags, and the parts that their form has
pub record SpellsElement (bytes : List ℕ) (e : ElementValue) : Type 0 where
  pub flags : ℕ
  pub has_form : ElementForm
  pub flags_bytes : List ℕ
  pub mode_bytes : List ℕ
  pub type_bytes : List ℕ
  pub elements_bytes : List ℕ
  pub cut : bytes ≡ flags_bytes ++ (mode_bytes ++ (type_bytes ++ elements_bytes))
  pub has_flags : SpellsNumber 32 flags_bytes flags
  pub is_form : form_of flags ≡ Some has_form
  pub has_mode : SpellsMode has_form.mode mode_bytes e.mode
  pub has_type : SpellsElementType has_form.ty type_bytes e.ty
  pub has_elements : SpellsElements has_form.has_expressions elements_bytes e.elements

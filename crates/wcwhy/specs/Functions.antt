-- The functions that a command asks for.
use Rattle.std.specs.Prelude.{◌≡◌, ℕ, Bool, true, false, not, ◌&&◌, List, Some, string_bytes}
use Rattle.std.specs.Option.{option_map}
use Rattle.wc_texts.specs.Escape.{escaped}
use Rattle.wc_why.specs.Tree.{TreeCallerView}
use Rattle.wc_import_paths.specs.Functions.{AreFunctions, are_named, first_unknown_function, functions_asked, is_number, near_function}
use Rattle.wcwhy.specs.Arguments.{CommandView}
use Rattle.wcwhy.specs.declared.fault.WhyFault.{WhyFault}
use Rattle.wcwhy.specs.declared.fault.WhyFault.TheVariants.{NoFunction, NoNames}

-- a text is a name, and the module has no names of functions
abbrev pub lacks_names : List TreeCallerView → List ℕ → Bool
lacks_names functions text = not (are_named functions) && not (is_number text)

-- none of these functions is what a text asks for, which is the first such: the fault says which name may be meant; or that there are
-- no names in the module of this path
abbrev pub IsUnknownFault : List ℕ → List TreeCallerView → List ℕ → WhyFault → Type 0
IsUnknownFault path functions text (NoFunction name near) =
    (name.now ≡ text) × (lacks_names functions text ≡ false) × (option_map string_bytes near ≡ option_map escaped (near_function functions text))
IsUnknownFault path functions text (NoNames name source) = (name.now ≡ text) × (source.now ≡ path) × (lacks_names functions text ≡ true)
IsUnknownFault path functions text f = ⊥

abbrev pub IsFunctionFault : CommandView → List ℕ → ℕ → WhyFault → Type 0
IsFunctionFault c bytes count f =
    (functions : List TreeCallerView) × (text : List ℕ) × AreFunctions bytes count functions
    × (first_unknown_function (functions_asked c.functions functions) c.functions ≡ Some text) × IsUnknownFault c.source functions text f

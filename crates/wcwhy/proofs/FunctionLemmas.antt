-- The fault for a function that is asked for.
use Rattle.std.proofs.Common.{◌≡◌, ◌∙◌, ◌⊎◌, ℕ, List, Option, Some, sym, ap, inl, inr}
use Rattle.std.specs.Borrow.{Bor}
use Rattle.std.specs.Option.{option_map}
use Rattle.wc_why.specs.Texts.{text_of}
use Rattle.wc_why.specs.Tree.{TreeCallerView}
use Rattle.wc_import_paths.specs.Functions.{AreFunctions, first_unknown_function, functions_asked}
use Rattle.wcwhy.specs.Arguments.{CommandView}
use Rattle.wcwhy.specs.Functions.{IsFunctionFault, IsUnknownFault}
use Rattle.wcwhy.specs.declared.fault.WhyFault.{WhyFault}
use Rattle.wcwhy.specs.declared.fault.WhyFault.TheVariants.{Memory}

pub unknown_is : (c : CommandView) (bytes : List ℕ) (count : ℕ) (f : WhyFault) (fs asked : List TreeCallerView) (r : Option (Bor (List ℕ))) (name : Bor (List ℕ))
    → AreFunctions bytes count fs → asked ≡ functions_asked c.functions fs → option_map text_of r ≡ first_unknown_function asked c.functions → r ≡ Some name
    → (f ≡ Memory) ⊎ IsUnknownFault c.source fs name.now f → (f ≡ Memory) ⊎ IsFunctionFault c bytes count f
unknown_is c bytes count f fs asked r name are is found some it = elim it [
  | inl none ↦ inl none
  | inr unknown ↦ inr
      (fs, name.now, are, ap (λ z. first_unknown_function z c.functions) (sym is) ∙ (sym found ∙ ap (option_map text_of) some), unknown)
]

-- What adapters there are.
use Rattle.std.specs.Prelude.{◌≡◌, ℕ, ◌==◌, List, ◌++◌, length, map, codes, Option, Some, None, if◌then◌else◌}
use Rattle.std.specs.Borrow.{Bor}
use Rattle.wc_encoder.specs.EncoderParts.{EncoderView}
use Rattle.wc_validate.specs.declared.fault.ValidateFault.TheVariants.{BadSyntax, UnknownInterface}
use Rattle.wc_world.specs.declared.fault.WorldFault.{WorldFault}
use Rattle.wc_world.specs.declared.fault.WorldFault.TheVariants.{Main}
use Rattle.wc_options.specs.Listing.{listing_text}
use Rattle.wcplan_inputs.specs.Listing.{IsListedNear}
use Rattle.wcplan_inputs.specs.declared.fault.ProgramFault.{ProgramFault}
use Rattle.wcplan_inputs.specs.declared.fault.ProgramFault.TheVariants.{Memory, NoAdapter}

-- no adapter has a name: what adapters there are is said, and the first whose name is near
abbrev pub IsNoAdapter : List (List ℕ) → Bor (List ℕ) → ProgramFault → Type 0
IsNoAdapter names name Memory = Unit {0}
IsNoAdapter names name (NoAdapter n listing nearest) = (n ≡ name) × IsListedNear names name.now listing nearest
IsNoAdapter names name f = ⊥

-- the names of adapters
abbrev pub names_of : {A : Type 0} → List (List ℕ × A) → List (List ℕ)
names_of adapters = map (λ a. a.0) adapters

-- what adapters there are; or what gives one
abbrev pub adapters_text : List (List ℕ) → List ℕ
adapters_text names =
    if length names == 0 then codes "no adapter is given: `--adapt NAME=FILE` gives one" else (codes "adapters:" ++ listing_text names)

-- it is said where the main module imports of a module that is unknown
abbrev pub given_adapters : EncoderView → WorldFault → Option (List ℕ)
given_adapters e (Main UnknownInterface) = Some (adapters_text (names_of e.adapters))
given_adapters e (Main BadSyntax) = Some (adapters_text (names_of e.adapters))
given_adapters e f = None

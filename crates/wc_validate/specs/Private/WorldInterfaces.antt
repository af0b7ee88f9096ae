-- The interfaces of an encoder's world, as imports of modules name them.
use Rattle.std.specs.Prelude.{Option}
use Rattle.std.specs.Borrow.{Bor}
use Rattle.std.specs.Option.{IfSome}
use Rattle.wc_encoder.specs.EncoderParts.{EncoderView}
use Rattle.wc_names.specs.Imports.{NameScope}
use Rattle.wc_validate.specs.NameScope.{AreInterfacesOf}
use Rattle.wc_validate.specs.Validate.{IsNameScopeOf}
use Rattle.wc_validate.specs.declared.name_scope.Interfaces.{Interfaces}

-- the interfaces of the world that an encoder has, by the texts of both schemes
abbrev pub AreInterfacesFor : EncoderView → Interfaces → Type 0
AreInterfacesFor e interfaces = (s : NameScope) → IsNameScopeOf e s → AreInterfacesOf s interfaces

-- the same, if they were made
abbrev pub AreInterfacesThere : EncoderView → Option (Bor Interfaces) → Type 0
AreInterfacesThere e interfaces = IfSome interfaces (λ (i : Bor Interfaces). AreInterfacesFor e i.now)

-- What a fault of parts is about: the first world, interface, type or package that breaks the fault's rule.
use Rattle.std.specs.Prelude.{◌≡◌, ℕ, ◌<◌, ◌+◌, Bool, List, length, take, Some, slice_get, All}
use Rattle.wc_resolve.specs.declared.fault.ResolveFault.{ResolveFault}
use Rattle.wc_resolve.specs.declared.fault.ResolveFault.TheVariants.{Memory, IdRange, Cycle, Unnamed, KeyMismatch, NameClash, BadCharacter, ByValueResource, Empty}
use Rattle.wc_resolve.specs.declared.explain.Part.{Part}
use Rattle.wc_resolve.specs.declared.explain.Part.TheVariants.{World, Interface, TypeDef, Package}
use Rattle.wc_resolve.specs.Ranges.{IsWorldIn, IsInterfaceIn, IsTypeDefIn, IsPackageIn}
use Rattle.wc_resolve.specs.Resources.{AreResourceFlags}
use Rattle.wc_resolve.specs.Views.{WorldView, InterfaceView, TypeView, PackageView}
use Rattle.wc_resolve.specs.WellFormed.{AreKeysIdentified, AreMembersIdentified, HasNeededName, HasMatchingKeys, HasMatchingNames, HasMatchingMembers, HaveDistinctNames, IsWorldSpelled, IsInterfaceSpelled, IsTypeSpelled, IsPackageSpelled, IsFree, HasCases}
use Rattle.wc_resolve.specs.Kinds.{ResolveView, DoesWorldPass, DoesInterfacePass, DoesTypePass, Leads, children}

-- what the rule of a fault asks of a world
abbrev pub DoesWorldFollow : ResolveView → ResolveFault → WorldView → Type 0
DoesWorldFollow r IdRange w = IsWorldIn r w
DoesWorldFollow r Unnamed w = AreKeysIdentified r w
DoesWorldFollow r KeyMismatch w = HasMatchingKeys r w
DoesWorldFollow r BadCharacter w = IsWorldSpelled w
DoesWorldFollow r ByValueResource w = DoesWorldPass (IsFree r.types) w
DoesWorldFollow r f w = Unit {0}

-- what it asks of an interface
abbrev pub DoesInterfaceFollow : ResolveView → ResolveFault → InterfaceView → Type 0
DoesInterfaceFollow r IdRange i = IsInterfaceIn r i
DoesInterfaceFollow r KeyMismatch i = HasMatchingNames r i
DoesInterfaceFollow r BadCharacter i = IsInterfaceSpelled i
DoesInterfaceFollow r ByValueResource i = DoesInterfacePass (IsFree r.types) i
DoesInterfaceFollow r f i = Unit {0}

-- what it asks of a type
abbrev pub DoesTypeFollow : ResolveView → ResolveFault → TypeView → Type 0
DoesTypeFollow r IdRange t = IsTypeDefIn r t
DoesTypeFollow r Unnamed t = HasNeededName t.kind t.name
DoesTypeFollow r BadCharacter t = IsTypeSpelled t
DoesTypeFollow r ByValueResource t = DoesTypePass (IsFree r.types) t
DoesTypeFollow r Empty t = HasCases t.kind
DoesTypeFollow r f t = Unit {0}

-- what it asks of a package
abbrev pub DoesPackageFollow : ResolveView → ResolveFault → PackageView → Type 0
DoesPackageFollow r IdRange p = IsPackageIn r p
DoesPackageFollow r Unnamed p = AreMembersIdentified r p
DoesPackageFollow r KeyMismatch p = HasMatchingMembers r p
DoesPackageFollow r BadCharacter p = IsPackageSpelled p
DoesPackageFollow r f p = Unit {0}

-- the first item that is not so is at an index
abbrev pub IsFirstBreach : {X : Type 0} → (X → Type 0) → List X → ℕ → Type 0
IsFirstBreach P items index = All P (take index items) × (x : _) × (slice_get items index ≡ Some x) × ¬ P x

-- the first part that breaks the rule of a fault: worlds, then interfaces, then types, then packages
abbrev pub IsBreach : ResolveView → ResolveFault → Part → Type 0
IsBreach r f (World i) = IsFirstBreach (DoesWorldFollow r f) r.worlds i
IsBreach r f (Interface i) = All (DoesWorldFollow r f) r.worlds × IsFirstBreach (DoesInterfaceFollow r f) r.interfaces i
IsBreach r f (TypeDef i) =
    All (DoesWorldFollow r f) r.worlds × All (DoesInterfaceFollow r f) r.interfaces × IsFirstBreach (DoesTypeFollow r f) r.types i
IsBreach r f (Package i) =
    All (DoesWorldFollow r f) r.worlds × All (DoesInterfaceFollow r f) r.interfaces × All (DoesTypeFollow r f) r.types
    × IsFirstBreach (DoesPackageFollow r f) r.packages i

-- every part follows the rule of a fault
abbrev pub DoAllFollow : ResolveView → ResolveFault → Type 0
DoAllFollow r f =
    All (DoesWorldFollow r f) r.worlds × All (DoesInterfaceFollow r f) r.interfaces × All (DoesTypeFollow r f) r.types
    × All (DoesPackageFollow r f) r.packages

-- flags of the types that are resources, where the rule of a fault needs them
abbrev pub AreFlagsFor : ResolveView → ResolveFault → List Bool → Type 0
AreFlagsFor r ByValueResource resource_flags = AreResourceFlags r.types resource_flags
AreFlagsFor r f resource_flags = Unit {0}

-- a type that leads to itself
abbrev pub IsOnCycle : ResolveView → Part → Type 0
IsOnCycle r (TypeDef i) = Leads (children r.types) i i
IsOnCycle r p = ⊥

-- the first package that has the name and version of an earlier one is at an index
abbrev pub IsRepeatAt : List PackageView → ℕ → Type 0
IsRepeatAt packages i = (i < length packages) × HaveDistinctNames (take i packages) × ¬ HaveDistinctNames (take (i + 1) packages)

abbrev pub IsFirstRepeat : ResolveView → Part → Type 0
IsFirstRepeat r (Package i) = IsRepeatAt r.packages i
IsFirstRepeat r p = ⊥

-- what a fault is about
abbrev pub IsPlace : ResolveView → ResolveFault → Part → Type 0
IsPlace r Memory p = ⊥
IsPlace r Cycle p = IsOnCycle r p
IsPlace r NameClash p = IsFirstRepeat r p
IsPlace r f p = IsBreach r f p

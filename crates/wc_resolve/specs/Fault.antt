-- The cause of each fault: its rule is broken, and no earlier one is; and the texts and the numbers of faults.
use Rattle.std.specs.Prelude.{ℕ, List, codes}
use Rattle.wc_resolve.specs.declared.fault.ResolveFault.{ResolveFault}
use Rattle.wc_resolve.specs.declared.fault.ResolveFault.TheVariants.{Memory, IdRange, Cycle, Unnamed, KeyMismatch, NameClash, BadCharacter, ByValueResource, Empty}
use Rattle.wc_resolve.specs.declared.validate.order.OrderFault.{OrderFault}
use Rattle.wc_resolve.specs.declared.validate.order.OrderFault.TheVariants.{Memory as NoMemory, Cycle as OnCycle}
use Rattle.wc_resolve.specs.Ranges.{AreIdsInRange}
use Rattle.wc_resolve.specs.Views.{TypeView}
use Rattle.wc_resolve.specs.Kinds.{ResolveView, HasCycle, Leads, children}
use Rattle.wc_resolve.specs.WellFormed.{AreNamed, KeysMatch, ArePackagesDistinct, AreNamesSpelled, HasNoResourceByValue, HasNoEmptyType}
use Rattle.wc_texts.specs.FaultTexts.{memory_text}

abbrev pub IsResolveCause : ResolveView → ResolveFault → Type 0
IsResolveCause r Memory = Unit {0}
IsResolveCause r IdRange = ¬ AreIdsInRange r
IsResolveCause r Cycle = AreIdsInRange r × HasCycle r.types
IsResolveCause r Unnamed = AreIdsInRange r × (¬ HasCycle r.types) × ¬ AreNamed r
IsResolveCause r KeyMismatch = AreIdsInRange r × (¬ HasCycle r.types) × AreNamed r × ¬ KeysMatch r
IsResolveCause r NameClash = AreIdsInRange r × (¬ HasCycle r.types) × AreNamed r × KeysMatch r × ¬ ArePackagesDistinct r
IsResolveCause r BadCharacter = AreIdsInRange r × (¬ HasCycle r.types) × AreNamed r × KeysMatch r × ArePackagesDistinct r × ¬ AreNamesSpelled r
IsResolveCause r ByValueResource =
    AreIdsInRange r × (¬ HasCycle r.types) × AreNamed r × KeysMatch r × ArePackagesDistinct r × AreNamesSpelled r × ¬ HasNoResourceByValue r
IsResolveCause r Empty =
    AreIdsInRange r × (¬ HasCycle r.types) × AreNamed r × KeysMatch r × ArePackagesDistinct r × AreNamesSpelled r × HasNoResourceByValue r × ¬ HasNoEmptyType r

-- why there is no order of the types
abbrev pub IsOrderCause : List TypeView → OrderFault → Type 0
IsOrderCause types NoMemory = Unit {0}
IsOrderCause types (OnCycle index) = Leads (children types) index index

-- the text of a fault
abbrev pub resolve_fault_text : ResolveFault → List ℕ
resolve_fault_text Memory = memory_text
resolve_fault_text IdRange = codes "IdRange"
resolve_fault_text Cycle = codes "Cycle"
resolve_fault_text Unnamed = codes "Unnamed"
resolve_fault_text KeyMismatch = codes "KeyMismatch"
resolve_fault_text NameClash = codes "NameClash"
resolve_fault_text BadCharacter = codes "BadCharacter"
resolve_fault_text ByValueResource = codes "ByValueResource"
resolve_fault_text Empty = codes "Empty"

-- the number of a fault, its position in the enum
abbrev pub resolve_fault_number : ResolveFault → ℕ
resolve_fault_number Memory = 0
resolve_fault_number IdRange = 1
resolve_fault_number Cycle = 2
resolve_fault_number Unnamed = 3
resolve_fault_number KeyMismatch = 4
resolve_fault_number NameClash = 5
resolve_fault_number BadCharacter = 6
resolve_fault_number ByValueResource = 7
resolve_fault_number Empty = 8

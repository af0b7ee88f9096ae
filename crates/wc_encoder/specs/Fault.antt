-- What is wrong with an encoder's parts where a fault is named: the first in this order that is; and the texts and the
-- numbers of faults.
use Rattle.wc_encoder.specs.declared.fault.EncoderFault.{EncoderFault}
use Rattle.wc_encoder.specs.declared.fault.EncoderFault.TheVariants.{Memory, UnknownWorld, NotAnExport, TypeExported, InterfaceTwice, DependencyLater, ImportNameClash}
use Rattle.wc_encoder.specs.Dependencies.{AreDependenciesBefore}
use Rattle.wc_encoder.specs.Distinct.{AreInterfacesOnce, AreNamesDistinct}
use Rattle.wc_encoder.specs.EncoderParts.{EncoderView, HasWorld, world_exports, world_imports}
use Rattle.wc_encoder.specs.Exported.{AreKeysExported, AreNoTypes}
use Rattle.std.specs.Prelude.{ℕ, List, codes}
use Rattle.wc_texts.specs.FaultTexts.{memory_text}

abbrev pub IsEncoderCause : EncoderView → EncoderFault → Type 0
IsEncoderCause e Memory = Unit {0}
IsEncoderCause e UnknownWorld = ¬ HasWorld e
IsEncoderCause e NotAnExport = HasWorld e × ¬ AreKeysExported e (world_exports e)
IsEncoderCause e TypeExported = HasWorld e × AreKeysExported e (world_exports e) × ¬ AreNoTypes (world_exports e)
IsEncoderCause e InterfaceTwice = HasWorld e × AreKeysExported e (world_exports e) × AreNoTypes (world_exports e) × ¬ AreInterfacesOnce (world_exports e)
IsEncoderCause e DependencyLater =
    HasWorld e × AreKeysExported e (world_exports e) × AreNoTypes (world_exports e) × AreInterfacesOnce (world_exports e)
    × ¬ AreDependenciesBefore e.resolve (world_exports e)
IsEncoderCause e ImportNameClash =
    HasWorld e × AreKeysExported e (world_exports e) × AreNoTypes (world_exports e) × AreInterfacesOnce (world_exports e)
    × AreDependenciesBefore e.resolve (world_exports e) × ¬ AreNamesDistinct e.resolve (world_imports e)

-- the text of a fault
abbrev pub encoder_fault_text : EncoderFault → List ℕ
encoder_fault_text Memory = memory_text
encoder_fault_text UnknownWorld = codes "UnknownWorld"
encoder_fault_text NotAnExport = codes "NotAnExport"
encoder_fault_text TypeExported = codes "TypeExported"
encoder_fault_text InterfaceTwice = codes "InterfaceTwice"
encoder_fault_text DependencyLater = codes "DependencyLater"
encoder_fault_text ImportNameClash = codes "ImportNameClash"

-- the number of a fault, its position in the enum
abbrev pub encoder_fault_number : EncoderFault → ℕ
encoder_fault_number Memory = 0
encoder_fault_number UnknownWorld = 1
encoder_fault_number NotAnExport = 2
encoder_fault_number TypeExported = 3
encoder_fault_number InterfaceTwice = 4
encoder_fault_number DependencyLater = 5
encoder_fault_number ImportNameClash = 6

-- Laws of the texts: each spells its value, and no bytes that spell the value are fewer.
use Rattle.std.specs.Prelude.{ℕ, ◌^◌, ◌<◌, ◌≤◌, List, length, All}
use Rattle.wc_read.specs.Formats.{SpellsNumber}
use Rattle.wc_read.specs.Imports.{ImportValue, SpellsImport, SpellsImports}
use Rattle.wc_read.specs.Sections.{SectionValue, SpellsSection}
use Rattle.wc_write.specs.Text.{number_text, import_text, imports_text, FitsSize, section_text}
use Rattle.wc_read.specs.Operators.{InstrValue}
use Rattle.wc_read.specs.Bodies.{BodyValue, SpellsBody}
use Rattle.wc_read.specs.Inits.{SpellsInit}
use Rattle.wc_read.specs.Modules.{ModuleValue, SpellsModule}
use Rattle.wc_write.specs.Bodies.{body_text}
use Rattle.wc_write.specs.Values.{AreBytes, IsU32, IsImport, IsBody}
use Rattle.wc_write.specs.Modules.{BuiltValue, operators_text, built_text, SizesFit}
use Rattle.wc_write.specs.BuiltValues.{IsInitialiser, IsBuilt, IsReadBody, IsReadInit, IsRead, IsModuleOf, IsWritable}

-- a number of at most 64 bits is spelled by its text
abbrev pub NumberIsSpelled : Type 0
NumberIsSpelled = (bits n : ℕ) → bits ≤ 64 → n < 2 ^ bits → SpellsNumber bits (number_text n) n

-- no bytes that spell a number of at most 64 bits are shorter than its text
abbrev pub NumberIsShortest : Type 0
NumberIsShortest = (bits n : ℕ) (bytes : List ℕ) → AreBytes bytes → SpellsNumber bits bytes n →
    length (number_text n) ≤ length bytes

-- an import that can be spelled is spelled by its text
abbrev pub ImportIsSpelled : Type 0
ImportIsSpelled = (i : ImportValue) → IsImport i → SpellsImport (import_text i) i

-- fewer than 2^32 imports that can be spelled are spelled by their text, as the content of an import section
abbrev pub ImportsAreSpelled : Type 0
ImportsAreSpelled = (is : List ImportValue) → IsU32 (length is) → All IsImport is → SpellsImports (imports_text is) is

-- imports that some bytes spell are such imports, and fewer than 2^32
abbrev pub SpelledAreImports : Type 0
SpelledAreImports = (bytes : List ℕ) (is : List ImportValue) → AreBytes bytes → SpellsImports bytes is →
    IsU32 (length is) × All IsImport is

-- no bytes that spell imports are fewer than those of their text
abbrev pub ImportsAreShortest : Type 0
ImportsAreShortest = (bytes : List ℕ) (is : List ImportValue) → AreBytes bytes → SpellsImports bytes is →
    length (imports_text is) ≤ length bytes

-- a section is spelled by its text, where its content has a size of 32 bits
abbrev pub SectionIsSpelled : Type 0
SectionIsSpelled = (s : SectionValue) → FitsSize s.content → SpellsSection (section_text s.id s.content) s

-- no bytes that spell a section are shorter than its text
abbrev pub SectionIsShortest : Type 0
SectionIsShortest = (bytes : List ℕ) (s : SectionValue) → AreBytes bytes → SpellsSection bytes s →
    length (section_text s.id s.content) ≤ length bytes

-- a body that can be spelled is spelled by its text, where that has a size of 32 bits, and the text spells no other
abbrev pub BodyTextIsRead : Type 0
BodyTextIsRead = (b : BodyValue) → IsBody b → FitsSize (body_text b) → IsReadBody b

-- a body that some bytes spell is such a body
abbrev pub SpelledAreBodies : Type 0
SpelledAreBodies = (bytes : List ℕ) (b : BodyValue) → AreBytes bytes → SpellsBody bytes b → IsBody b

-- no bytes that spell a body are fewer than those of its text
abbrev pub BodyIsShortest : Type 0
BodyIsShortest = (bytes : List ℕ) (b : BodyValue) → AreBytes bytes → SpellsBody bytes b →
    length (body_text b) ≤ length bytes

-- a module that can be spelled is spelled by its text, where the contents of its sections have sizes of 32 bits, and
-- the text spells no other; the same of its bodies and initialisers
abbrev pub TextIsRead : Type 0
TextIsRead = (b : BuiltValue) → IsBuilt b → SizesFit b → IsRead b

-- a module that some bytes spell has such parts; its bodies are not looked at
abbrev pub SpelledAreModules : Type 0
SpelledAreModules = (bytes : List ℕ) (m : ModuleValue) → AreBytes bytes → SpellsModule bytes m → IsWritable m

-- an initialiser that can be spelled is spelled by its text, where that has a size of 32 bits, and the text spells no
-- other
abbrev pub InitTextIsRead : Type 0
InitTextIsRead = (operators : List InstrValue) → IsInitialiser operators → FitsSize (operators_text operators) →
    IsReadInit operators

-- an initialiser that some bytes spell is such an initialiser
abbrev pub SpelledAreInits : Type 0
SpelledAreInits = (bytes : List ℕ) (operators : List InstrValue) → AreBytes bytes → SpellsInit bytes operators →
    IsInitialiser operators

-- no bytes that spell an initialiser are fewer than those of its text
abbrev pub InitIsShortest : Type 0
InitIsShortest = (bytes : List ℕ) (operators : List InstrValue) → AreBytes bytes → SpellsInit bytes operators →
    length (operators_text operators) ≤ length bytes

-- no bytes that spell a module with these types, index spaces, exports, start function and producers are fewer than
-- those of the module's text, in whatever order their imports are, and whatever names, segments and other custom
-- sections they have
abbrev pub ModuleIsShortest : Type 0
ModuleIsShortest = (bytes : List ℕ) (m : ModuleValue) (b : BuiltValue) → AreBytes bytes → SpellsModule bytes m →
    IsModuleOf m b → length (built_text b) ≤ length bytes

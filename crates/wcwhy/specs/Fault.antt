-- The texts of faults.
use Rattle.std.specs.Prelude.{◌≡◌, ◌⊎◌, ⊤, ℕ, List, [], ◌++◌, cond, codes, decimal, Option, Some, None, String, string_bytes}
use Rattle.std.specs.Option.{option_and_then, option_map, option_or}
use Rattle.std.specs.Str.{bytes_eq}
use Rattle.std.specs.declared.alloc.Global.{Global}
use Rattle.wc_component_file.specs.Fault.{file_fault_text}
use Rattle.wc_gc.specs.declared.fault.GcFault.{GcFault}
use Rattle.wc_gc.specs.declared.fault.GcFault.TheVariants.{Memory as gc_memory}
use Rattle.wc_gc.specs.Fault.{gc_fault_text}
use Rattle.wc_gc.specs.TrimPlace.{place_text}
use Rattle.wc_gc.specs.declared.trim_place.TrimPlace.{TrimPlace}
use Rattle.wc_texts.specs.Escape.{escaped}
use Rattle.wc_read.specs.Imports.{ImportValue}
use Rattle.wc_texts.specs.FaultTexts.{memory_text}
use Rattle.wc_program.specs.Files.{problem_text}
use Rattle.wc_program.specs.declared.files.FileProblem.{FileProblem}
use Rattle.wc_import_paths.specs.Patterns.{PatternView, pattern_view}
use Rattle.wcwhy.specs.NearExports.{IsNearFor}
use Rattle.wcwhy.specs.Patterns.{named_under, near_import, near_package, near_pattern}
use Rattle.wc_why.specs.Keys.{package_text}
use Rattle.wc_why_text.specs.Texts.{word}
use Rattle.wcwhy.specs.declared.fault.WhyFault.{WhyFault}
use Rattle.wcwhy.specs.declared.fault.WhyFault.TheVariants.{Memory, CannotRead, RepeatedAdapter, NoAdapter, Source, Adapter, NoImport, NoFunction, NoNames, Component, NoComponent, File, NoModule, NoSuchModule, Unclear, Core, CannotWrite, NotAllowed, AllowNotText, Output}

-- a text that was given, as a word; an empty one as two quotes
abbrev pub given_word : List ℕ → List ℕ
given_word text = cond (bytes_eq text []) (codes "''") (word text)

-- what an option asks for: the key, and the name, if it has one
abbrev pub pattern_by : List ℕ → Option (List ℕ) → List ℕ
pattern_by key None = given_word key
pattern_by key (Some name) = given_word key ++ (codes " " ++ given_word name)

abbrev pub pattern_text : PatternView → List ℕ
pattern_text p = pattern_by p.0 p.1

-- the package of an import with its version, and its name where an option has one
abbrev pub package_pattern_text : PatternView → ImportValue → Option (List ℕ)
package_pattern_text p i = option_map (λ (t : List ℕ). pattern_text (named_under p t i.name)) (package_text i.module_name)

-- that of the first import for whose package an option would ask, if versions and the case of letters did not count
abbrev pub near_package_text : List ImportValue → PatternView → Option (List ℕ)
near_package_text imports p = option_and_then (package_pattern_text p) (near_package imports p)

-- what is there in place of the imports that an option asks for: the module of the first that is near, or else the package
abbrev pub near_text : List ImportValue → PatternView → Option (List ℕ)
near_text imports p = option_or (option_map (λ (i : ImportValue). pattern_text (near_pattern p i)) (near_import imports p)) (near_package_text imports p)

-- a module has none of the imports that an option asks for, and under it what is there
abbrev pub unknown_text : PatternView → Option (List ℕ) → List ℕ
unknown_text p None = codes "no import " ++ pattern_text p
unknown_text p (Some near) = codes "no import " ++ (pattern_text p ++ (codes "\n  did you mean " ++ (near ++ codes "?")))

-- a text that was given, escaped; an empty one as two quotes
abbrev pub given_text : List ℕ → List ℕ
given_text text = cond (bytes_eq text []) (codes "''") (escaped text)

-- a module has none of the functions that a text asks for, and under it the name that may be meant
abbrev pub no_function_text : List ℕ → Option (List ℕ) → List ℕ
no_function_text name None = codes "no function " ++ given_text name
no_function_text name (Some near) = codes "no function " ++ (given_text name ++ (codes "\n  did you mean " ++ (near ++ codes "?")))

-- or it has no names of functions, and under it how to keep them
abbrev pub names_hint : List ℕ → List ℕ
names_hint path = codes "no function names in " ++ (escaped path ++ codes ": link with -g, without --strip, strip = false")

abbrev pub no_names_text : List ℕ → List ℕ → List ℕ
no_names_text name path = no_function_text name None ++ (codes "\n  " ++ names_hint path)

-- a file could not be read: its path, and why
abbrev pub unread_text : List ℕ → FileProblem → List ℕ
unread_text path p = codes "cannot read " ++ (escaped path ++ problem_text p)

-- two adapters have a name
abbrev pub repeated_adapter_text : List ℕ → List ℕ
repeated_adapter_text name = codes "adapter `" ++ (escaped name ++ codes "` twice")

-- no adapter has a name, and what adapters there are
abbrev pub no_adapter_text : List ℕ → List ℕ → List ℕ
no_adapter_text name listing = escaped (codes "no adapter `" ++ (name ++ (codes "`; adapters:" ++ listing)))

-- why a module can't be followed, and under it what it is about, or what is there in place of an export
abbrev pub source_text : GcFault → Option TrimPlace → Option (List ℕ) → List ℕ
source_text f (Some p) near = escaped (gc_fault_text f) ++ (codes "\n  " ++ place_text p)
source_text f None (Some near) = escaped (gc_fault_text f) ++ (codes "\n  did you mean " ++ (near ++ codes "?"))
source_text f None None = escaped (gc_fault_text f)

-- the same of an adapter of a name
abbrev pub adapter_text : List ℕ → List ℕ → List ℕ
adapter_text name text = codes "Adapter `" ++ (escaped name ++ (codes "`: " ++ text))

-- a file could not be written: its path, and why; or it is no text
abbrev pub unwritten_text : List ℕ → FileProblem → List ℕ
unwritten_text path p = codes "cannot write " ++ (escaped path ++ problem_text p)

abbrev pub no_text_text : List ℕ → List ℕ
no_text_text path = escaped path ++ codes " is not UTF-8"

-- a component has no core module, and so many components inside it have some; or none of an index, and so many
abbrev pub no_module_text : ℕ → List ℕ
no_module_text inside = codes "the component has no core module; components inside: " ++ decimal inside

abbrev pub no_such_module_text : ℕ → ℕ → List ℕ
no_such_module_text asked count = codes "no core module " ++ (decimal asked ++ (codes "; the component has " ++ decimal count))

-- it can't be told which core module is which, and under it what core modules there are
abbrev pub unclear_text : List ℕ → List ℕ
unclear_text listing = codes "which core module is which can't be told; --core N picks the main module" ++ listing

-- why the core module of an index can't be followed
abbrev pub core_text : ℕ → List ℕ → List ℕ
core_text index text = codes "core module " ++ (decimal index ++ (codes ": " ++ text))

-- the text of a fault
abbrev pub why_fault_text : WhyFault → List ℕ
why_fault_text Memory = memory_text
why_fault_text (CannotRead path p) = unread_text path.now p
why_fault_text (RepeatedAdapter name) = repeated_adapter_text name.now
why_fault_text (NoAdapter name listing) = no_adapter_text name.now (string_bytes listing)
why_fault_text (Source f place near) = source_text f place (option_map string_bytes near)
why_fault_text (Adapter name f place near) = adapter_text (string_bytes name) (source_text f place (option_map string_bytes near))
why_fault_text (NoImport p near) = unknown_text (pattern_view p) (option_map string_bytes near)
why_fault_text (NoFunction name near) = no_function_text name.now (option_map string_bytes near)
why_fault_text (NoNames name path) = no_names_text name.now path.now
why_fault_text Component = codes "IN is a component, which has its adapters: no --adapt"
why_fault_text NoComponent = codes "--core: IN is no component"
why_fault_text (File f byte) = file_fault_text f
why_fault_text (NoModule inside) = no_module_text inside
why_fault_text (NoSuchModule asked count) = no_such_module_text asked count
why_fault_text (Unclear listing) = unclear_text (string_bytes listing)
why_fault_text (Core index f place) = core_text index (source_text f place None)
why_fault_text (CannotWrite path p) = unwritten_text path.now p
why_fault_text (NotAllowed text) = string_bytes text
why_fault_text (AllowNotText path) = no_text_text path.now
why_fault_text Output = codes "cannot print"

-- memory is needed for the text of a fault, unless it is always the same
abbrev pub NeedsText : WhyFault → Type 0
NeedsText Memory = ⊥
NeedsText Output = ⊥
NeedsText f = ⊤

-- the fault for it
abbrev pub of_source : GcFault → Option TrimPlace → Option (String Global) → WhyFault
of_source gc_memory place near = Memory
of_source f place near = Source f place near

-- with what is there in place of an export; there may have been no memory to find it
abbrev pub IsSourceFault : List ℕ → GcFault → Option TrimPlace → WhyFault → Type 0
IsSourceFault bytes f place fault =
    (fault ≡ Memory) ⊎ ((near : Option (String Global)) × IsNearFor bytes f near × (fault ≡ of_source f place near))

-- the same of the adapter of a name
abbrev pub of_adapter : String Global → GcFault → Option TrimPlace → Option (String Global) → WhyFault
of_adapter name gc_memory place near = Memory
of_adapter name f place near = Adapter name f place near

-- there may have been no memory for its name
abbrev pub IsNamedFault : List ℕ → GcFault → Option TrimPlace → Option (String Global) → WhyFault → Type 0
IsNamedFault name f place near fault =
    (fault ≡ Memory) ⊎ ((n : String Global) × (string_bytes n ≡ name) × (fault ≡ of_adapter n f place near))

abbrev pub IsAdapterFault : List ℕ → List ℕ → GcFault → Option TrimPlace → WhyFault → Type 0
IsAdapterFault name bytes f place fault =
    (fault ≡ Memory) ⊎ ((near : Option (String Global)) × IsNearFor bytes f near × IsNamedFault name f place near fault)

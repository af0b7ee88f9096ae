-- The exports that are there in place of those that are not.
use Rattle.std.specs.Prelude.{◌≡◌, ◌==◌, ◌&&◌, ℕ, Bool, List, Option, None, String, string_bytes}
use Rattle.std.specs.List.{after_first, find}
use Rattle.std.specs.Option.{option_map}
use Rattle.std.specs.Str.{str_eq_ignore_ascii_case}
use Rattle.std.specs.declared.alloc.Global.{Global}
use Rattle.wc_gc.specs.declared.fault.GcFault.{GcFault}
use Rattle.wc_gc.specs.declared.fault.GcFault.TheVariants.{MissingExport}
use Rattle.wc_texts.specs.Escape.{escaped}
use Rattle.wc_read.specs.Exports.{ExportValue}
use Rattle.wc_read.specs.Modules.{ModuleValue, SpellsModule}
use Rattle.wcwhy.specs.Texts.{is_alike}

-- the function of an interface that a name is about: what is after the first `#`
abbrev pub function_text : List ℕ → List ℕ
function_text text = after_first (λ b. b == 35) text

-- names are the same but for their versions, which end before a `#`, and for the case of letters
abbrev pub is_alike_name : List ℕ → List ℕ → Bool
is_alike_name name other = is_alike name other && str_eq_ignore_ascii_case (function_text name) (function_text other)

abbrev pub is_alike_export : List ℕ → ExportValue → Bool
is_alike_export name e = is_alike_name name e.name

-- the first such
abbrev pub first_alike : List ℕ → List ExportValue → Option ExportValue
first_alike name exports = find (is_alike_export name) exports

abbrev pub near_export : List ExportValue → List ℕ → Option (List ℕ)
near_export exports name = option_map (λ (e : ExportValue). escaped e.name) (first_alike name exports)

-- it is that of the module which the bytes spell
abbrev pub IsNearExport : List ℕ → List ℕ → Option (String Global) → Type 0
IsNearExport bytes name near = (m : ModuleValue) → SpellsModule bytes m → option_map string_bytes near ≡ near_export m.exports name

-- what is there in place of an export that is missing; nothing for other faults
abbrev pub IsNearFor : List ℕ → GcFault → Option (String Global) → Type 0
IsNearFor bytes (MissingExport name) near = IsNearExport bytes (string_bytes name) near
IsNearFor bytes f near = near ≡ None

-- Files as they are read.
use Rattle.std.specs.Prelude.{◌≡◌, ◌≢◌, ⊤, ℕ, List, Contains, Option, Some, None, string_bytes}
use Rattle.std.specs.Borrow.{Bor}
use Rattle.std.specs.Option.{option_map}
use Rattle.std.specs.Str.{IsUtf8}
use Rattle.std.specs.declared.alloc.Global.{Global}
use Rattle.std.specs.declared.vec.Vec.{Vec}
use Rattle.wc_module_ways.specs.Adapters.{Given}
use Rattle.wc_program.specs.Files.{FileChange, Held, Holds}
use Rattle.wc_program.specs.declared.files.FileProblem.{FileProblem}
use Rattle.wc_program.specs.declared.files.FileProblem.TheVariants.{Memory as read_memory}
use Rattle.wc_maps.specs.Texts.{second_parts}
use Rattle.wcwhy.specs.Arguments.{CommandView}
use Rattle.wcwhy.specs.Inputs.{AllowView, HasNoText, input_path}
use Rattle.wcwhy.specs.declared.fault.WhyFault.{WhyFault}
use Rattle.wcwhy.specs.declared.fault.WhyFault.TheVariants.{Memory, CannotRead, AllowNotText}
use Rattle.wcwhy.specs.declared.inputs.AllowFile.{AllowFile}
use Rattle.wcwhy.specs.declared.inputs.Request.{Request}

abbrev pub file_view : Bor (List ℕ) × Vec ℕ Global → Given
file_view f = (f.0.now, f.1.items)

-- the read of a path failed, by the reads that fail with their problems
abbrev pub IsReadFault : List ℕ → (List ℕ → FileProblem → Type 0) → WhyFault → Type 0
IsReadFault path fails Memory = fails (input_path path) read_memory
IsReadFault path fails (CannotRead at p) = (at.now ≡ path) × fails (input_path at.now) p × (p ≢ read_memory)
IsReadFault path fails f = ⊥

-- that of an adapter did
abbrev pub AreUnread : CommandView → (List ℕ → FileProblem → Type 0) → WhyFault → Type 0
AreUnread c fails Memory = ⊤
AreUnread c fails (CannotRead at p) = Contains (second_parts c.adapters) at.now × fails (input_path at.now) p × (p ≢ read_memory)
AreUnread c fails f = ⊥

-- a file of what is allowed; and that of a request, if it has one

abbrev pub allow_view : AllowFile → AllowView
allow_view a = record { path = a.path.now; text = string_bytes a.text }

abbrev pub allow_in : Request → Option AllowView
allow_in r = option_map allow_view r.allow.now

-- the read of a text failed; or it is no text
abbrev pub IsTextFault : List ℕ → Option Held → (List ℕ → FileProblem → Type 0) → WhyFault → Type 0
IsTextFault path before fails (AllowNotText at) = (at.now ≡ path) × HasNoText before path
IsTextFault path before fails f = IsReadFault path fails f

-- that of a path, if there is one
abbrev pub IsAllowFault : Option (List ℕ) → Option Held → (List ℕ → FileProblem → Type 0) → WhyFault → Type 0
IsAllowFault None before fails f = ⊥
IsAllowFault (Some path) before fails f = IsTextFault path before fails f

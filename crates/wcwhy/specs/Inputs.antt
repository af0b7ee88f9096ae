-- The files that a command is about: that of a module or a component, those of its adapters, and that of what is allowed.
use Rattle.std.specs.Prelude.{◌≡◌, ◌≢◌, ◌⊎◌, ◌==◌, ◌||◌, ⊤, ℕ, Bool, true, false, not, length, cond, codes, List, ◌∷◌, ◌++◌, Contains, Option, Some, None}
use Rattle.std.specs.List.{AllZip}
use Rattle.std.specs.Option.{option_to_list}
use Rattle.std.specs.Str.{IsUtf8, bytes_eq}
use Rattle.wc_component_file.specs.Headers.{BeginsAsComponent}
use Rattle.wc_module_ways.specs.Adapters.{Given}
use Rattle.wc_program.specs.Files.{FileChange, Held, Holds}
use Rattle.wc_program.specs.declared.files.FileProblem.{FileProblem}
use Rattle.wc_program.specs.declared.files.FileProblem.TheVariants.{Memory as read_memory}
use Rattle.wc_maps.specs.Texts.{first_parts, second_parts}
use Rattle.wcwhy.specs.AdapterNames.{AreAdaptersNamed, IsNamesCause}
use Rattle.wcwhy.specs.Arguments.{CommandView}
use Rattle.wcwhy.specs.declared.fault.WhyFault.{WhyFault}
use Rattle.wcwhy.specs.declared.fault.WhyFault.TheVariants.{Memory, CannotRead, RepeatedAdapter, NoAdapter, Component, NoComponent, AllowNotText}

-- the path of the file that is read: `-` stands for standard input
abbrev pub input_path : List ℕ → List ℕ
input_path path = cond (bytes_eq path (codes "-")) (codes "/dev/stdin") path

-- an adapter with its name, and the bytes of its file
abbrev pub IsAdapterFile : Option Held → List ℕ × List ℕ → Given → Type 0
IsAdapterFile before a file = (file.0 ≡ a.0) × Holds before (input_path a.1) file.1

-- an adapter is given, or an export of one
abbrev pub gives_adapters : CommandView → Bool
gives_adapters c = not (length c.adapters == 0) || not (length c.adapter_exports == 0)

-- a component has no adapters but its own, and of no other file a core module is chosen
pub record Fits (c : CommandView) (source : List ℕ) : Type 0 where
  pub component : BeginsAsComponent source → gives_adapters c ≡ false
  pub other : ¬ BeginsAsComponent source → c.core ≡ None

-- why not
abbrev pub IsMisfit : CommandView → List ℕ → WhyFault → Type 0
IsMisfit c source Component = BeginsAsComponent source × (gives_adapters c ≡ true)
IsMisfit c source NoComponent = ¬ BeginsAsComponent source × (c.core ≢ None)
IsMisfit c source f = ⊥

-- the module's or the component's file has these bytes, which fit
pub record IsSource (c : CommandView) (before : Option Held) (source : List ℕ) : Type 0 where
  pub held : Holds before (input_path c.source) source
  pub fits : Fits c source

-- a file of what is allowed: its path, and its text
pub record AllowView : Type 0 where
  pub path : List ℕ
  pub text : List ℕ

-- it is that of a path, if there is one
abbrev pub IsAllowFile : Option Held → Option (List ℕ) → Option AllowView → Type 0
IsAllowFile before None None = ⊤
IsAllowFile before (Some path) (Some a) = (a.path ≡ path) × Holds before (input_path path) a.text
IsAllowFile before path a = ⊥

-- adapters have names of their own, and each that an export is asked of is there
abbrev pub AreNamed : CommandView → Type 0
AreNamed c = AreAdaptersNamed (first_parts c.adapters) (first_parts c.adapter_exports)

-- the files of a command have these bytes: that of the module or component, those of adapters, and that of what is allowed
pub record AreInputs (c : CommandView) (before : Option Held) (source : List ℕ) (adapters : List Given) (allow : Option AllowView) : Type 0 where
  pub is_source : IsSource c before source
  pub named : AreNamed c
  pub files : AllZip (IsAdapterFile before) c.adapters adapters
  pub allowed : IsAllowFile before c.allow allow

-- the module's or the component's file has bytes that fit
abbrev pub HasSource : CommandView → Option Held → Type 0
HasSource c before = (source : List ℕ) × IsSource c before source

-- the files of these paths are read
abbrev pub paths_of : CommandView → List (List ℕ)
paths_of c = c.source ∷ (second_parts c.adapters ++ option_to_list c.allow)

-- the read of a file failed, not by a want of memory
abbrev pub IsUnread : FileChange → List ℕ → FileProblem → Type 0
IsUnread files path p = files.IsFailedRead (input_path path) p × (p ≢ read_memory)

-- a file has bytes that don't fit
abbrev pub HasMisfit : CommandView → Option Held → WhyFault → Type 0
HasMisfit c before f = (source : List ℕ) × Holds before (input_path c.source) source × IsMisfit c source f

-- why the module's or the component's file is not there
abbrev pub IsSourceCause : CommandView → FileChange → WhyFault → Type 0
IsSourceCause c files Memory = files.IsFailedRead (input_path c.source) read_memory
IsSourceCause c files (CannotRead path p) = (path.now ≡ c.source) × IsUnread files c.source p
IsSourceCause c files f = HasMisfit c files.before f

-- a file of what is allowed is no text
abbrev pub HasNoText : Option Held → List ℕ → Type 0
HasNoText before path = (bytes : List ℕ) × Holds before (input_path path) bytes × ¬ IsUtf8 bytes

-- why files are not there: the read of one failed, by a want of memory or else; or one does not fit, or is no text; or adapters are not
-- named so
abbrev pub IsInputCause : CommandView → FileChange → WhyFault → Type 0
IsInputCause c files Memory = files.IsFailedRead (input_path c.source) read_memory ⊎ HasSource c files.before
IsInputCause c files (CannotRead path p) = Contains (paths_of c) path.now × IsUnread files path.now p
IsInputCause c files (RepeatedAdapter name) =
    HasSource c files.before × IsNamesCause (first_parts c.adapters) (first_parts c.adapter_exports) (RepeatedAdapter name)
IsInputCause c files (NoAdapter name listing) =
    HasSource c files.before × IsNamesCause (first_parts c.adapters) (first_parts c.adapter_exports) (NoAdapter name listing)
IsInputCause c files (AllowNotText path) = HasSource c files.before × (c.allow ≡ Some path.now) × HasNoText files.before path.now
IsInputCause c files f = HasMisfit c files.before f

-- The bytes of files by their paths, where they are known.
use Rattle.std.specs.Prelude.{◌≡◌, ◌≢◌, ℕ, false, cond, List, [], codes, IfSome, Option, Some, None}
use Rattle.std.specs.Str.{bytes_eq}
use Rattle.std.specs.declared.io.ErrorKind.{ErrorKind}
use Rattle.std.specs.declared.io.ErrorKind.TheVariants as kind
use Rattle.wc_program.specs.declared.files.FileProblem.{FileProblem}
use Rattle.wc_program.specs.declared.files.FileProblem.TheVariants.{Memory, NotFound, IsADirectory, NotADirectory, PermissionDenied, AlreadyExists, StorageFull, ReadOnlyFilesystem, Other}

-- the bytes of the file of each path, None where there is no file
abbrev pub Held : Type 0
Held = List ℕ → Option (List ℕ)

-- the file has these bytes
abbrev pub Holds : Option Held → List ℕ → List ℕ → Type 0
Holds known path bytes = IfSome known (λ f. f path ≡ Some bytes)

-- the file has these bytes now, and each other file the bytes that it had
abbrev pub Writes : Option Held → Option Held → List ℕ → List ℕ → Type 0
Writes None after path bytes = Unit {0}
Writes (Some f) None path bytes = ⊥
Writes (Some f) (Some g) path bytes = (q : List ℕ) → g q ≡ cond (bytes_eq path q) (Some bytes) (f q)

-- the problem that an error of this kind stands for
abbrev pub IsProblemOf : ErrorKind → FileProblem → Type 0
IsProblemOf k Memory = k ≡ kind.OutOfMemory
IsProblemOf k NotFound = k ≡ kind.NotFound
IsProblemOf k IsADirectory = k ≡ kind.IsADirectory
IsProblemOf k NotADirectory = k ≡ kind.NotADirectory
IsProblemOf k PermissionDenied = k ≡ kind.PermissionDenied
IsProblemOf k AlreadyExists = k ≡ kind.AlreadyExists
IsProblemOf k StorageFull = k ≡ kind.StorageFull
IsProblemOf k ReadOnlyFilesystem = k ≡ kind.ReadOnlyFilesystem
IsProblemOf k Other =
    (k ≢ kind.OutOfMemory) × (k ≢ kind.NotFound) × (k ≢ kind.IsADirectory) × (k ≢ kind.NotADirectory) × (k ≢ kind.PermissionDenied)
    × (k ≢ kind.AlreadyExists) × (k ≢ kind.StorageFull) × (k ≢ kind.ReadOnlyFilesystem)

-- calls that fail with errors of certain kinds: one did, with an error that the problem stands for
abbrev pub FailsBy : (ErrorKind → Type 0) → FileProblem → Type 0
FailsBy fails p = (k : ErrorKind) × fails k × IsProblemOf k p

-- and those of a path in a store
abbrev pub FailsToRead : {S : Type 0} → (S → List ℕ → ErrorKind → Type 0) → S → List ℕ → FileProblem → Type 0
FailsToRead fails files path = FailsBy (fails files path)

-- what is printed after the path of a file that could not be read or written, or of a directory that could not be made
abbrev pub problem_text : FileProblem → List ℕ
problem_text Memory = codes ": out of memory"
problem_text NotFound = codes ": not found"
problem_text IsADirectory = codes ": is a directory"
problem_text NotADirectory = codes ": not a directory"
problem_text PermissionDenied = codes ": permission denied"
problem_text AlreadyExists = codes ": file exists"
problem_text StorageFull = codes ": no space left on device"
problem_text ReadOnlyFilesystem = codes ": read-only file system"
problem_text Other = []

-- what became of files: their bytes before and after; why a read of a path failed; and which failed write, of a path and of
-- bytes, made it so, and why it failed
pub record FileChange : Type 1 where
  pub before : Option Held
  pub after : Option Held
  pub IsFailedRead : List ℕ → FileProblem → Type 0
  pub IsFailedWrite : List ℕ → List ℕ → FileProblem → Type 0

abbrev pub file_change : {S : Type 0} → (S → Option Held) → (S → List ℕ → ErrorKind → Type 0) → (S → S → List ℕ → List ℕ → ErrorKind → Type 0) → S → S → FileChange
file_change held read_fails write_fails before after =
    record {
      before = held before;
      after = held after;
      IsFailedRead = FailsToRead read_fails before;
      IsFailedWrite = λ path bytes. FailsBy (write_fails before after path bytes);
    }

-- the same of a store with directories: which of them could be made, and why one could not; and which failed write made it so
-- of files that had these bytes, and why it failed
pub record StoreChange : Type 1 where
  pub before : Option Held
  pub after : Option Held
  pub Makes : List ℕ → Type 0
  pub IsFailedRead : List ℕ → FileProblem → Type 0
  pub IsFailedMake : List ℕ → FileProblem → Type 0
  pub IsFailedWrite : Option Held → List ℕ → List ℕ → FileProblem → Type 0

-- a write of these bytes failed for this problem in a store that had these files, and left this one
abbrev pub FailsFrom : {S : Type 0} → (S → Option Held) → (S → S → List ℕ → List ℕ → ErrorKind → Type 0) → S → Option Held → List ℕ → List ℕ → FileProblem → Type 0
FailsFrom {S} held fails after files path bytes p = (s : S) × (held s ≡ files) × FailsBy (fails s after path bytes) p

abbrev pub store_change : {S : Type 0} → (S → Option Held) → (S → List ℕ → Type 0) → (S → List ℕ → ErrorKind → Type 0) → (S → S → List ℕ → ErrorKind → Type 0)
    → (S → S → List ℕ → List ℕ → ErrorKind → Type 0) → S → S → StoreChange
store_change held makes read_fails make_fails write_fails before after =
    record {
      before = held before;
      after = held after;
      Makes = makes before;
      IsFailedRead = FailsToRead read_fails before;
      IsFailedMake = λ path. FailsBy (make_fails before after path);
      IsFailedWrite = FailsFrom held write_fails after;
    }

-- all files but one have the bytes that they had
abbrev pub KeepsOthers : Option Held → Option Held → List ℕ → Type 0
KeepsOthers None after path = Unit {0}
KeepsOthers (Some f) None path = ⊥
KeepsOthers (Some f) (Some g) path = (q : List ℕ) → bytes_eq path q ≡ false → g q ≡ f q

-- The texts of the faults of calls on bytes, by their numbers.
use Rattle.std.specs.Prelude.{◌≡◌, ◌⊎◌, ℕ, List, codes, false}
use Rattle.wc_dedupe.specs.Fault.{dedupe_fault_number, dedupe_fault_text}
use Rattle.wc_dedupe.specs.declared.fault.DedupeFault.{DedupeFault}
use Rattle.wc_gc.specs.Fault.{gc_fault_number, gc_fault_text}
use Rattle.wc_gc.specs.declared.fault.GcFault.{GcFault}
use Rattle.wc_gc.specs.declared.fault.GcFault.TheVariants.{MissingExport}
use Rattle.wc_read.specs.Fault.{read_fault_number, read_fault_text}
use Rattle.wc_read.specs.declared.fault.ReadFault.{ReadFault}
use Rattle.wc_calls.specs.MemoryFaults.{dedupe_is_memory, gc_is_memory, read_is_memory}

-- the text of a fault of trimming, without the name that it carries
abbrev pub unnamed_text : GcFault → List ℕ
unnamed_text (MissingExport name) = codes "adapter module does not have export"
unnamed_text f = gc_fault_text f

-- a fault of renaming has this number and this text; one of trimming has, or one of reading. It neither is nor carries a Memory

abbrev pub IsDedupeText : ℕ → List ℕ → Type 0
IsDedupeText number text =
    (f : DedupeFault) × (dedupe_is_memory f ≡ false) × (dedupe_fault_number f ≡ number) × (text ≡ dedupe_fault_text f)

abbrev pub IsTrimText : ℕ → List ℕ → Type 0
IsTrimText number text = (f : GcFault) × (gc_is_memory f ≡ false) × (gc_fault_number f ≡ number) × (text ≡ unnamed_text f)

abbrev pub IsReadText : ℕ → List ℕ → Type 0
IsReadText number text = (f : ReadFault) × (read_is_memory f ≡ false) × (read_fault_number f ≡ number) × (text ≡ read_fault_text f)

-- the calls on bytes, by their numbers

abbrev pub dedupe_call : ℕ
dedupe_call = 0

abbrev pub trim_call : ℕ
trim_call = 1

abbrev pub why_call : ℕ
why_call = 2

abbrev pub scan_call : ℕ
scan_call = 3

abbrev pub paths_call : ℕ
paths_call = 4

-- the calls that answer faults of trimming
abbrev pub AnswersTrimFaults : ℕ → Type 0
AnswersTrimFaults call = (call ≡ trim_call) ⊎ (call ≡ why_call) ⊎ (call ≡ paths_call)

-- a fault of a call has this number and this text
abbrev pub IsFaultText : ℕ → ℕ → List ℕ → Type 0
IsFaultText call number text =
    ((call ≡ dedupe_call) × IsDedupeText number text) ⊎ (AnswersTrimFaults call × IsTrimText number text)
    ⊎ ((call ≡ scan_call) × IsReadText number text)

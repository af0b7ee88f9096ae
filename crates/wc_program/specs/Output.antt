-- What a printer is made of.
use Rattle.std.specs.Prelude.{Bool}
use Rattle.std.specs.declared.io.buffered.BufWriter.{BufWriter}
use Rattle.std.specs.Global.{Global}
use Rattle.wc_program.specs.declared.output.Printer.{Printer}

-- the writer with its buffer
abbrev pub buffer_of : {W : Type 0} → Printer W → BufWriter W Global
buffer_of p = p.writer

-- whether a write failed
abbrev pub has_failed : {W : Type 0} → Printer W → Bool
has_failed p = p.failed

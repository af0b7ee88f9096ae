-- What a sink over a writer is made of.
use Rattle.std.specs.Prelude.{Bool}
use Rattle.wc_texts.specs.declared.sink.WriterSink.{WriterSink}

-- the writer that bytes go to
abbrev pub writer_of : {W : Type 0} → WriterSink W → W
writer_of s = s.writer

-- whether a write failed
abbrev pub has_failed : {W : Type 0} → WriterSink W → Bool
has_failed s = s.failed

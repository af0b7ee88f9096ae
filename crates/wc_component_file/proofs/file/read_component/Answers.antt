use Rattle.std.proofs.lemmas.Result.{err_from_is_err_and}
use Rattle.wc_component_file.proofs.FramesLemmas.{refused_nothing}
use Rattle.wc_component_file.proofs.file.read_component.Goals as goal

pub returns-in_err-frames-clause-refused : goal.returns-in_err-frames-clause-refused
returns-in_err-frames-clause-refused c =
    let p = err_from_is_err_and c.from_residual.result c.from_residual.ensures.1 in
    rw (p.1, p.2) (λ real file s. refused_nothing _ _ _ c.in_err-frames.ensures.refused real s.fs s.has_frames)

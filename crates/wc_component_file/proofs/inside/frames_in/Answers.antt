use Rattle.wc_component_file.proofs.FramesLemmas.{refused_nothing}
use Rattle.wc_component_file.proofs.inside.frames_in.Goals as goal

pub returns-in_default : goal.returns-in_default
returns-in_default c = refused_nothing _ _ _ c.in-Err.ensures.refused c.in_default.not-Memory

use Rattle.wc_validate.specs.Private.WorldInterfaces.{AreInterfacesFor}
use Rattle.wc_validate.proofs.WorldInterfaceLemmas.{borrowed}
use Rattle.wc_validate.proofs.world_interfaces.WorldInterfaces.validation_input.Goals as goal

pub returns-clause-interfaces : goal.returns-clause-interfaces
returns-clause-interfaces c = borrowed (AreInterfacesFor c.self.inside.encoder.now) c.as_ref.result c.self.inside.interfaces c.as_ref.ensures.value c.self.invariant

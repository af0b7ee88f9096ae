use Rattle.wc_record.proofs.LibraryRoundTripLemmas.{argument_back, instance_back, item_back, kind_back, library_back, which_back}
use Rattle.wc_record.proofs.laws.libraries_read_back.Goals as goal

pub returns-clause-libraries : goal.returns-clause-libraries
returns-clause-libraries c = library_back

pub returns-clause-arguments : goal.returns-clause-arguments
returns-clause-arguments c = argument_back

pub returns-clause-instances : goal.returns-clause-instances
returns-clause-instances c = instance_back

pub returns-clause-items : goal.returns-clause-items
returns-clause-items c = item_back

pub returns-clause-exporters : goal.returns-clause-exporters
returns-clause-exporters c = which_back

pub returns-clause-kinds : goal.returns-clause-kinds
returns-clause-kinds c = kind_back

use Rattle.wc_record.proofs.places.put_subject.Goals as goal

pub returns-in-MissingExport : goal.returns-in-MissingExport
returns-in-MissingExport c = rw (c.in-MissingExport.is, ← c.deref-in-MissingExport.ensures) c.put_named-in-MissingExport.ensures

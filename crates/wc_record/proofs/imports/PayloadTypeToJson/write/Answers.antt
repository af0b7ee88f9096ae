use Rattle.wc_record.proofs.imports.PayloadTypeToJson.write.Goals as goal

pub returns-in-UnitStream : goal.returns-in-UnitStream
returns-in-UnitStream c = rw c.in-UnitStream.is c.put_plain_kind-in-UnitStream.ensures

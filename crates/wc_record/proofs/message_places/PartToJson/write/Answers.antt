use Rattle.wc_record.proofs.message_places.PartToJson.write.Goals as goal

pub returns-in-Interface : goal.returns-in-Interface
returns-in-Interface c = rw c.in-Interface.is c.put_kind_with-in-Interface.ensures

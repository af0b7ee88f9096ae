use Rattle.wc_record.proofs.message_places.JsonPlaceToJson.write.Goals as goal

pub returns-in-Byte : goal.returns-in-Byte
returns-in-Byte c = rw c.in-Byte.is c.put_kind_with.ensures

pub returns-in-Path : goal.returns-in-Path
returns-in-Path c = rw c.in-Path.is c.put_kind_with-in-Path.ensures

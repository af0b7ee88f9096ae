use Rattle.wc_calls.proofs.message_fault.MessageFaultFaultText.put_pieces.Goals as goal

pub returns-in-UnknownWorld : goal.returns-in-UnknownWorld
returns-in-UnknownWorld g c = rw (c.in-UnknownWorld.is, ← c.deref.ensures) c.put_quoted.ensures

pub returns-in-AdapterTwice : goal.returns-in-AdapterTwice
returns-in-AdapterTwice g c = rw (c.in-AdapterTwice.is, ← c.deref-in-AdapterTwice.ensures) c.put_quoted-in-AdapterTwice.ensures

pub returns-in-SeveralWorlds : goal.returns-in-SeveralWorlds
returns-in-SeveralWorlds g c = rw (c.in-SeveralWorlds.is, ← c.deref-in-SeveralWorlds.ensures) c.put_quoted-in-SeveralWorlds.ensures

pub returns-in-UnknownKey : goal.returns-in-UnknownKey
returns-in-UnknownKey g c = rw (c.in-UnknownKey.is, ← c.deref-in-UnknownKey.ensures) c.put_quoted-in-UnknownKey.ensures

pub returns-in-SeveralKeys : goal.returns-in-SeveralKeys
returns-in-SeveralKeys g c = rw (c.in-SeveralKeys.is, ← c.deref-in-SeveralKeys.ensures) c.put_quoted-in-SeveralKeys.ensures

pub returns-in-RepeatedKey : goal.returns-in-RepeatedKey
returns-in-RepeatedKey g c = rw (c.in-RepeatedKey.is, ← c.deref-in-RepeatedKey.ensures) c.put_quoted-in-RepeatedKey.ensures

-- What contracts see of an exported interface and those that it uses.
use Rattle.wc_resolve.specs.Dependencies.{interface_ids}
use Rattle.wc_record.specs.Worlds.{UsedInterface}
use Rattle.wc_record.specs.declared.used.UsedInterfaces.{UsedInterfaces}

abbrev pub used_interface_view : UsedInterfaces → UsedInterface
used_interface_view u = (u.interface.0, interface_ids u.uses.items)

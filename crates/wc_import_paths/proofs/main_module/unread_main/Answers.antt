use Rattle.std.proofs.Common.{refl}
use Rattle.wc_import_paths.proofs.main_module.unread_main.Goals as goal

pub returns-in-Ok-clause-main : goal.returns-in-Ok-clause-main
returns-in-Ok-clause-main c exports h = record { is_main = (c.requires, h); spelled = refl; has_main = c.in-Ok.ensures }

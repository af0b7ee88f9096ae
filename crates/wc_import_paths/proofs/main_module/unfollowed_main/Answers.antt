use Rattle.wc_import_paths.proofs.main_module.unfollowed_main.Goals as goal

pub returns-in-Ok-clause-main : goal.returns-in-Ok-clause-main
returns-in-Ok-clause-main c exports h =
    c.unread_main.ensures.main exports (c.args.refused.fault, c.args.refused.place, h, c.in-Some.ensures.some)

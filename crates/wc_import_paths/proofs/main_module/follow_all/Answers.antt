use Rattle.std.proofs.Common.{map}
use Rattle.wc_why.specs.Texts.{text_of}
use Rattle.wc_import_paths.proofs.MainModuleLemmas.{main_whole}
use Rattle.wc_import_paths.proofs.main_module.follow_all.Goals as goal

pub returns-in-Ok-clause-main : goal.returns-in-Ok-clause-main
returns-in-Ok-clause-main c = main_whole c.args.bytes.now (map text_of c.args.exports.now) c.in-Ok.followed c.in-Ok.ensures.source

pub returns-in-Err-clause-main : goal.returns-in-Err-clause-main
returns-in-Err-clause-main c = c.unfollowed_main.ensures.main (map text_of c.args.exports.now) c.in-Err.ensures.refused

pub returns-in-Err-clause-refused : goal.returns-in-Err-clause-refused
returns-in-Err-clause-refused c = c.unfollowed_main.ensures.refused (map text_of c.args.exports.now) c.in-Err.ensures.refused

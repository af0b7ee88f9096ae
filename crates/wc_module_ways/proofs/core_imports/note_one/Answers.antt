use Rattle.std.proofs.lemmas.Result.{on_ok_weaker}
use Rattle.std.proofs.Common.{refl}
use Rattle.wc_read.specs.Modules.{module_value}
use Rattle.wc_import_paths.specs.Followed.{followed_view}
use Rattle.wc_module_ways.specs.CoreImports.{library_tags, live_tags}
use Rattle.wc_module_ways.proofs.core_imports.note_one.Goals as goal

pub returns-in-Followed : goal.returns-in-Followed
returns-in-Followed c imports are given has =
    rw c.in-Followed.is
    (on_ok_weaker c.note_followed.result
    (λ n. (live_tags given n.0 (followed_view c.in-Followed.core.followed).code.imports, (n.0, n.1, refl), n.2))
    (c.note_followed.ensures imports are given has))

pub returns-in-Unfollowed : goal.returns-in-Unfollowed
returns-in-Unfollowed c imports are given has =
    rw c.in-Unfollowed.is
    (on_ok_weaker c.note_unfollowed.result (λ n. (library_tags given (module_value c.in-Unfollowed.core.code).imports, refl, n))
    (c.note_unfollowed.ensures given has))

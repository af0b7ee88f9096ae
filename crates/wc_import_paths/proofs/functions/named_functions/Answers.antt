use Rattle.std.proofs.Common.{◌∙◌, ◌∷◌, ◌++◌, [], ap, map}
use Rattle.std.proofs.lemmas.List.{map_push}
use Rattle.wc_read.specs.Names.{name_entries}
use Rattle.wc_why.specs.Tree.{tree_caller_view}
use Rattle.wc_import_paths.proofs.FunctionLemmas.{named_more}
use Rattle.wc_import_paths.proofs.functions.named_functions.Goals as goal

pub loop-index-preserved : goal.loop-index-preserved
loop-index-preserved c =
    named_more (name_entries c.args.names.now) c.loop-index.index (map tree_caller_view c.loop-index.functions.items) (map tree_caller_view c.push.new.self.items)
    c.loop-index.invariant
    (ap (map tree_caller_view) c.in_ok-push.ensures.items ∙ (map_push tree_caller_view c.loop-index.functions.items c.function_at.result
    ∙ ap (λ z. map tree_caller_view c.loop-index.functions.items ++ z ∷ []) c.function_at.ensures))

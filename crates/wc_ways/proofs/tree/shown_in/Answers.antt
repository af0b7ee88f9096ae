use Rattle.std.proofs.Common.{◌∙◌, ◌++◌, ap}
use Rattle.wc_import_paths.specs.MainModules.{main_view}
use Rattle.wc_world.specs.WorldViews.{world_view}
use Rattle.wc_ways.specs.Typed.{typed_in}
use Rattle.wc_ways.specs.Private.Modules.{codes_in}
use Rattle.wc_ways.proofs.tree.shown_in.Goals as goal

pub returns : goal.returns
returns c =
    let w = world_view c.args.world.now in
    let m = c.args.modules.now in
    let key = c.args.key.now in
    record {
      main = main_view m.main;
      modules = codes_in m;
      are_parts = c.in_ok-parts.ensures;
      wanted = c.in_ok-put_typed.ensures ∙ ap (λ z. z ++ typed_in w key (main_view m.main) (codes_in m)) (c.in_ok-wanted.ensures key c.in_ok-keys.ensures);
      marked = c.ne-marked.ensures;
    }

use Rattle.std.proofs.Common.{◌∙◌, true, false}
use Rattle.wc_gc.specs.Parts.{settings_view}
use Rattle.wc_gc.specs.Private.FuncGroups.{is_in_group}
use Rattle.wc_gc.proofs.NumbersBelowLemmas.{in_group}
use Rattle.wc_gc.proofs.func_groups.FuncGroups.new.Goals as goal

pub returns : goal.returns
returns g c =
    let has = g.L.LiveSet.has c.args.live.now in
    record {
      imports = λ n. c.in_ok-imports.ensures.imports n ∙ in_group has (is_in_group (settings_view c.args.settings) true) c.args.funcs.now n _ (c.deref.ensures.value ∙ c.in_ok-live.ensures);
      defined = λ n. c.in_ok-imports.ensures.defined n ∙ in_group has (is_in_group (settings_view c.args.settings) false) c.args.funcs.now n _ (c.deref.ensures.value ∙ c.in_ok-live.ensures);
      exported = c.in_ok-exported_funcs.ensures;
    }

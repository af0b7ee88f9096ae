use Rattle.std.proofs.Common.{◌∙◌, List, [], ℕ, ap, subst}
use Rattle.wc_read.specs.Imports.{ImportValue, import_values}
use Rattle.wc_read.specs.Modules.{ModuleValue}
use Rattle.wc_import_paths.specs.MainModules.{IsMainOf}
use Rattle.wc_ways.specs.Private.Modules.{ArePlaces}
use Rattle.wc_ways.proofs.modules.Modules.read.Goals as goal

pub returns-clause-modules : goal.returns-clause-modules
returns-clause-modules c = record {
  main = subst (λ (bytes : List ℕ). IsMainOf bytes [] c.in-Ok.main) c.«module».ensures c.in-Ok.ensures.main;
  places = subst (λ (is : List ImportValue). ArePlaces is c.in_ok-places.places.entries)
      (ap import_values c.deref.ensures.value ∙ ap (λ (v : ModuleValue). v.imports) c.code.ensures) c.in_ok-places.ensures;
  adapters = c.in_ok-adapters.ensures.modules;
}

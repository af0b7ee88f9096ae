use Rattle.std.proofs.Common.{◌↔◌, ℕ, List, All, IsTrue, subst, rules}
use Rattle.wc_resolve.specs.Dependencies.{id_of_interface}
use Rattle.wc_resolve.specs.Views.{interface_key}
use Rattle.wc_resolve.proofs.ViewedLemmas.{viewed}
use Rattle.wc_adapters.specs.Entries.{entries_after}
use Rattle.wc_encoder.specs.Exported.{IsExported}
use Rattle.wc_encoder.proofs.dependencies.has_none_after.Goals as goal

pub returns : goal.returns
returns c =
    let later = entries_after c.args.exports.now c.args.index in
    subst (λ (z : List ℕ). IsTrue c.all.result ↔ All (λ d. ¬ IsExported later (interface_key d)) z) c.in_ok-owners.ensures
    (viewed id_of_interface (λ d. ¬ IsExported later (interface_key d)) c.in_ok-owners.owners.items c.all.result (search rules))

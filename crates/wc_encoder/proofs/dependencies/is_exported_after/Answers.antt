use Rattle.std.proofs.Common.{◌≡◌, ◌∙◌, true, false, is_some, nat_lt, sym, ap, rules}
use Rattle.wc_resolve.specs.declared.worlds.WorldKey.TheVariants.{Interface as InterfaceKey}
use Rattle.wc_resolve.specs.contracts.worlds.WorldKeyPartialEq.TheImpl.{eq-value as key_eq}
use Rattle.wc_resolve.specs.Views.{interface_key}
use Rattle.wc_encoder.proofs.EntriesAfterLemmas.{after_none, after_some}
use Rattle.wc_resolve.proofs.KeyLemmas.{keys_law}
use Rattle.wc_encoder.proofs.LookupLemmas.{exported_law}
use Rattle.wc_encoder.proofs.dependencies.is_exported_after.Goals as goal

pub returns-in-Some : goal.returns-in-Some
returns-in-Some c =
    after_some key_eq.it keys_law (InterfaceKey c.args.id) c.args.exports.now.entries c.get_index_of.ensures.unique c.args.index c.in-Some.at (nat_lt c.args.index c.in-Some.at)
    (sym c.get_index_of.ensures.index ∙ c.in-Some.is) (search rules)

pub returns : goal.returns
returns c =
    after_none (interface_key c.args.id.0) c.args.exports.now.entries c.args.index (λ h.
    let e : false ≡ true = (exported_law _ (interface_key c.args.id.0) (λ y. keys_law (InterfaceKey c.args.id) y) c.args.exports.now.entries false (sym (ap is_some c.in-None.is) ∙ c.get_index_of.ensures.found)).1 h in
    let bad : ⊥ = cc e in bad)

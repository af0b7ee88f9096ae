use Rattle.wc_names.specs.Interfaces.{canonical_ids, full_ids}
use Rattle.wc_validate.specs.NameScope.{name_scope_of}
use Rattle.wc_validate.proofs.name_scope.Interfaces.new.Goals as goal

pub returns-then-lookups-le-FEW_LOOKUPS : goal.returns-then-lookups-le-FEW_LOOKUPS
returns-then-lookups-le-FEW_LOOKUPS c =
    let e = name_scope_of c.args.names.now in
    record {
      standard = c.unindexed.ensures canonical_ids e;
      legacy = c.unindexed-then-lookups-le-FEW_LOOKUPS.ensures full_ids e;
    }

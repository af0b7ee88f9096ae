use Rattle.semver.specs.Identifiers.{parts_text}
use Rattle.wc_resolve.specs.Views.{world_view}
use Rattle.wc_resolve.proofs.WellFormedLemmas.{export_items_in, import_keys_have_texts, import_keys_in}
use Rattle.wc_encoder.specs.EncoderParts.{parts_view}
use Rattle.wc_encoder.specs.Dependencies.{AreDependenciesBefore}
use Rattle.wc_encoder.specs.Distinct.{AreInterfacesOnce, AreNamesDistinct}
use Rattle.wc_adapters.specs.Entries.{Entries}
use Rattle.wc_encoder.specs.Exported.{AreKeysExported, AreNoTypes}
use Rattle.wc_encoder.proofs.WorldLemmas.{fails, has_world, holds, imports_fail, imports_hold}
use Rattle.wc_encoder.proofs.well_formed.check.Goals as goal

pub returns-then-not-are_no_types-clause-fault : goal.returns-then-not-are_no_types-clause-fault
returns-then-not-are_no_types-clause-fault c =
    let e = parts_view c.args.parts.now in
    let w = world_view c.in-Some.world.now in
    let there = c.in-Some.ensures.some in (
      has_world e w there,
      holds e w there (AreKeysExported e) c.are_keys_exported.result c.are_keys_exported.ensures c.if-not-are_keys_exported.false,
      fails e w there (λ (x : Entries). AreNoTypes x) c.are_no_types.result c.are_no_types.ensures c.if-not-are_no_types.true,
    )

pub returns-then-not-branch-clause-fault : goal.returns-then-not-branch-clause-fault
returns-then-not-branch-clause-fault c =
    let e = parts_view c.args.parts.now in
    let w = world_view c.in-Some.world.now in
    let there = c.in-Some.ensures.some in (
      has_world e w there,
      holds e w there (AreKeysExported e) c.are_keys_exported.result c.are_keys_exported.ensures c.if-not-are_keys_exported.false,
      holds e w there (λ (x : Entries). AreNoTypes x) c.are_no_types.result c.are_no_types.ensures c.if-not-are_no_types.false,
      fails e w there (λ (x : Entries). AreInterfacesOnce x) c.in_ok-are_interfaces_once.field-0 c.in_ok-are_interfaces_once.ensures c.if-not-branch.true,
    )

pub returns-then-not-branch-2-clause-fault : goal.returns-then-not-branch-2-clause-fault
returns-then-not-branch-2-clause-fault c =
    let e = parts_view c.args.parts.now in
    let w = world_view c.in-Some.world.now in
    let there = c.in-Some.ensures.some in (
      has_world e w there,
      holds e w there (AreKeysExported e) c.are_keys_exported.result c.are_keys_exported.ensures c.if-not-are_keys_exported.false,
      holds e w there (λ (x : Entries). AreNoTypes x) c.are_no_types.result c.are_no_types.ensures c.if-not-are_no_types.false,
      holds e w there (λ (x : Entries). AreInterfacesOnce x) c.in_ok-are_interfaces_once.field-0 c.in_ok-are_interfaces_once.ensures c.if-not-branch.false,
      fails e w there (AreDependenciesBefore e.resolve) c.in_ok-are_dependencies_before.field-0 c.in_ok-are_dependencies_before.ensures c.if-not-branch-2.true,
    )

pub returns-then-not-branch-3-clause-fault : goal.returns-then-not-branch-3-clause-fault
returns-then-not-branch-3-clause-fault c =
    let e = parts_view c.args.parts.now in
    let w = world_view c.in-Some.world.now in
    let there = c.in-Some.ensures.some in (
      has_world e w there,
      holds e w there (AreKeysExported e) c.are_keys_exported.result c.are_keys_exported.ensures c.if-not-are_keys_exported.false,
      holds e w there (λ (x : Entries). AreNoTypes x) c.are_no_types.result c.are_no_types.ensures c.if-not-are_no_types.false,
      holds e w there (λ (x : Entries). AreInterfacesOnce x) c.in_ok-are_interfaces_once.field-0 c.in_ok-are_interfaces_once.ensures c.if-not-branch.false,
      holds e w there (AreDependenciesBefore e.resolve) c.in_ok-are_dependencies_before.field-0 c.in_ok-are_dependencies_before.ensures c.if-not-branch-2.false,
      imports_fail e w there (AreNamesDistinct e.resolve) c.in_ok-are_names_distinct.field-0 c.in_ok-are_names_distinct.ensures c.if-not-branch-3.true,
    )

pub are_dependencies_before-requires : goal.are_dependencies_before-requires
are_dependencies_before-requires c =
    let e = parts_view c.args.parts.now in
    let w = world_view c.in-Some.world.now in
    let there = c.in-Some.ensures.some in
    export_items_in e.resolve c.well_formedness.ensures e.world w there

pub are_names_distinct-requires-clause-there : goal.are_names_distinct-requires-clause-there
are_names_distinct-requires-clause-there c =
    let e = parts_view c.args.parts.now in
    let w = world_view c.in-Some.world.now in
    let there = c.in-Some.ensures.some in
    import_keys_in e.resolve c.well_formedness.ensures e.world w there

pub are_names_distinct-requires-clause-named : goal.are_names_distinct-requires-clause-named
are_names_distinct-requires-clause-named c =
    let e = parts_view c.args.parts.now in
    let w = world_view c.in-Some.world.now in
    let there = c.in-Some.ensures.some in
    import_keys_have_texts e.resolve c.well_formedness.ensures e.world w there parts_text

pub returns-clause-formed : goal.returns-clause-formed
returns-clause-formed c =
    let e = parts_view c.args.parts.now in
    let w = world_view c.in-Some.world.now in
    let there = c.in-Some.ensures.some in
    record {
      has_world = has_world e w there;
      exported = holds e w there (AreKeysExported e) c.are_keys_exported.result c.are_keys_exported.ensures c.if-not-are_keys_exported.false;
      no_types = holds e w there (λ (x : Entries). AreNoTypes x) c.are_no_types.result c.are_no_types.ensures c.if-not-are_no_types.false;
      once = holds e w there (λ (x : Entries). AreInterfacesOnce x) c.in_ok-are_interfaces_once.field-0 c.in_ok-are_interfaces_once.ensures c.if-not-branch.false;
      dependencies_before = holds e w there (AreDependenciesBefore e.resolve) c.in_ok-are_dependencies_before.field-0 c.in_ok-are_dependencies_before.ensures c.if-not-branch-2.false;
      distinct = imports_hold e w there (AreNamesDistinct e.resolve) c.in_ok-are_names_distinct.field-0 c.in_ok-are_names_distinct.ensures c.if-not-branch-3.false;
    }

use Rattle.std.proofs.Common.{◌≡◌, ◌≢◌, ◌<◌, ◌^◌, ℕ, map, Some, sym, arith}
use Rattle.std.specs.List.{slice_get}
use Rattle.wc_resolve.specs.Views.{package_name_view}
use Rattle.wc_resolve.proofs.PackagePositionLemmas.{index_fits, index_too_large, name_absent, name_found, name_later, none_then}
use Rattle.wc_resolve.proofs.packages.name_index.Goals as goal

pub returns-in_err-index-clause-none : goal.returns-in_err-index-clause-none
returns-in_err-index-clause-none c =
    none_then c.from_residual.result ((k : ℕ) → k < 2 ^ 32 → slice_get (map package_name_view c.args.names.now.keys) k ≢ Some (package_name_view c.args.name.now))
    (λ k below. name_absent c.args.names.now.keys c.args.name.now (sym c.in_err-index.ensures.index) k)

pub returns-clause-found : goal.returns-clause-found
returns-clause-found c =
    rw c.ok.ensures.value
    (index_fits c.try_from.result c.in_ok-index.index (λ k. slice_get (map package_name_view c.args.names.now.keys) k ≡ Some (package_name_view c.args.name.now)) c.try_from.ensures
    (name_found c.args.names.now.keys c.args.name.now c.in_ok-index.index (sym c.in_ok-index.ensures.index)))

pub returns-clause-none : goal.returns-clause-none
returns-clause-none c =
    rw c.ok.ensures.value
    (index_too_large c.try_from.result c.in_ok-index.index ((k : ℕ) → k < 2 ^ 32 → slice_get (map package_name_view c.args.names.now.keys) k ≢ Some (package_name_view c.args.name.now)) c.try_from.ensures
    (λ large k below. name_later c.args.names.now.keys c.args.name.now c.in_ok-index.index k (sym c.in_ok-index.ensures.index) (omega (arith, large, below))))

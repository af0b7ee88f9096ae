use Rattle.std.proofs.Common.{inl, inr, map}
use Rattle.std.proofs.lemmas.Result.{err_from_is_err_and}
use Rattle.wc_adapters.specs.Adapters.{adapter_entry}
use Rattle.wc_resolve.specs.Views.{key_view}
use Rattle.wc_calls.proofs.encoders.module_parts.Goals as goal

pub returns-in_err-hook-clause-fault : goal.returns-in_err-hook-clause-fault
returns-in_err-hook-clause-fault c =
    let p = err_from_is_err_and c.from_residual.result c.from_residual.ensures.1 in
    rw p.1 (inl p.2)

pub returns-in_err-exporters-clause-fault : goal.returns-in_err-exporters-clause-fault
returns-in_err-exporters-clause-fault c =
    let p = err_from_is_err_and c.from_residual-in_err-exporters.result c.from_residual-in_err-exporters.ensures.1 in
    rw p.1 (inr (inl (c.in_err-exporters.field-0.0, c.in_err-exporters.ensures.fault, p.2)))

pub returns-in-Err-clause-fault : goal.returns-in-Err-clause-fault
returns-in-Err-clause-fault c =
    inr (inr (
      map key_view c.in_ok-exporters.exporters.main.keys,
      map adapter_entry c.in_ok-exporters.exporters.adapters.entries,
      c.in_ok-exporters.ensures.exporters,
      c.in-Err.ensures.fault,
    ))

use Rattle.std.proofs.Common.{subst, sym}
use Rattle.wc_validate.specs.Validate.{module_record}
use Rattle.wc_world.specs.Trimming.{validation_input_of}
use Rattle.wc_world.specs.Private.Adapters.{IsInputRecord, IsInputTrimmedText, main_of, named_adapter}
use Rattle.wc_world.specs.Private.Refused.{IsInputRefusal}
use Rattle.wc_world.specs.World.{settings_of, adapter_trim_input}
use Rattle.wc_world.proofs.FaultLemmas.{passed_on}
use Rattle.wc_world.proofs.adapters.trim_adapter.Goals as goal

pub returns-in_err-bytes-clause-refusal : goal.returns-in_err-bytes-clause-refusal
returns-in_err-bytes-clause-refusal c = passed_on (IsInputRefusal c.args.input.now) c.from_residual.result _ c.from_residual.ensures.1 c.in_err-bytes.ensures.refusal

pub returns-in_err-info-clause-refusal : goal.returns-in_err-info-clause-refusal
returns-in_err-info-clause-refusal c =
    passed_on (IsInputRefusal c.args.input.now) c.from_residual-in_err-info.result _ c.from_residual-in_err-info.ensures.1
    (c.in_err-info.ensures.refusal (module_record c.args.first.now) (subst (IsInputTrimmedText c.args.input.now (module_record c.args.first.now)) (sym c.deref.ensures.value) c.in_ok-bytes.ensures.trimmed))

pub returns-clause-is_adapter : goal.returns-clause-is_adapter
returns-clause-is_adapter c = record {
  first = module_record c.args.first.now;
  original = c.requires.original;
  trimmed = c.in_ok-bytes.ensures.trimmed.trimmed;
  last = subst (λ b. IsInputRecord c.args.input.now b (module_record c.in_ok-info.info)) c.deref.ensures.value c.in_ok-info.ensures.recorded;
  restricted =
      c.trimmed_is_restricted.ensures.restricted (validation_input_of c.args.input.now.encoder.now (main_of c.args.input.now) (named_adapter c.args.input.now))
      (settings_of c.args.input.now.encoder.now (main_of c.args.input.now) (module_record c.args.first.now)) (adapter_trim_input (main_of c.args.input.now) (named_adapter c.args.input.now) (module_record c.args.first.now))
      c.in_ok-bytes.bytes.items (module_record c.args.first.now) (module_record c.in_ok-info.info) c.in_ok-bytes.ensures.trimmed
      (subst (λ b. IsInputRecord c.args.input.now b (module_record c.in_ok-info.info)) c.deref.ensures.value c.in_ok-info.ensures.recorded);
}

use Rattle.std.proofs.Common.{map}
use Rattle.wc_selection.specs.Keys.{named_key}
use Rattle.wc_selection.specs.Requests.{request_value}
use Rattle.wcplan_inputs.proofs.adapter_files.requested_adapters.Goals as goal

pub returns : goal.returns
returns c = c.given_adapters.ensures (request_value c.args.request.now) (map named_key c.args.keys.now) c.in_ok-given.ensures

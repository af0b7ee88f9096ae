use Rattle.std.proofs.Common.{◌≡◌, map, string_bytes}
use Rattle.wc_json.proofs.kinds.label_names.Given as goal

abbrev pub invariant-loop-label : goal.invariant-loop-label
invariant-loop-label l = map string_bytes l.names.items ≡ map (λ y. string_bytes y.0) l.yielded

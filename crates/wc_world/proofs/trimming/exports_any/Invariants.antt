use Rattle.std.proofs.Common.{◌≡◌, map}
use Rattle.std.specs.List.{list_any}
use Rattle.wc_resolve.specs.Views.{key_view}
use Rattle.wc_adapters.specs.Entries.{entries_of}
use Rattle.wc_world.specs.Trimming.{exports_function}
use Rattle.wc_world.proofs.trimming.exports_any.Given as goal

abbrev pub invariant-loop-key : goal.invariant-loop-key
invariant-loop-key l = list_any (exports_function l.resolve (entries_of l.exports)) (map key_view l.keys.keys) ≡ list_any (exports_function l.resolve (entries_of l.exports)) (map key_view l.key-iterator)

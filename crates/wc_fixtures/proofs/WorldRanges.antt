-- What is in range of a well-formed `Resolve`: a world at an index, and the keys of a world.
use Rattle.std.proofs.Common.{◌≡◌, ℕ, Some}
use Rattle.std.specs.Prelude.{slice_get, All}
use Rattle.std.proofs.lemmas.List.Elements.{All-weaker}
use Rattle.wc_resolve.specs.Ranges.{AreIdsInRange, IsEntryIn, IsKeyIn, IsWorldIn}
use Rattle.wc_resolve.specs.Views.{ItemView, KeyView, WorldView}
use Rattle.wc_resolve.specs.Kinds.{ResolveView}
use Rattle.wc_resolve.proofs.WellFormedLemmas.{all_get}

pub world_in_range : (r : ResolveView) (i : ℕ) (w : WorldView) → AreIdsInRange r → slice_get r.worlds i ≡ Some w → IsWorldIn r w
unfolding AreIdsInRange
world_in_range r i w h at = all_get (IsWorldIn r) r.worlds i w h.0 at

key_in : (r : ResolveView) (x : KeyView × ItemView) → IsEntryIn r x → IsKeyIn r x.0
unfolding IsEntryIn
key_in r x h = h.0

pub import_keys_in : (r : ResolveView) (w : WorldView) → IsWorldIn r w → All (λ (x : KeyView × ItemView). IsKeyIn r x.0) w.imports
unfolding IsWorldIn
import_keys_in r w h = All-weaker (IsEntryIn r) (λ (x : KeyView × ItemView). IsKeyIn r x.0) (key_in r) w.imports h.0

pub export_keys_in : (r : ResolveView) (w : WorldView) → IsWorldIn r w → All (λ (x : KeyView × ItemView). IsKeyIn r x.0) w.exports
unfolding IsWorldIn
export_keys_in r w h = All-weaker (IsEntryIn r) (λ (x : KeyView × ItemView). IsKeyIn r x.0) (key_in r) w.exports h.1

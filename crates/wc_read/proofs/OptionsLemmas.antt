-- Options, and one step after another.
use Rattle.std.proofs.Common.{◌≡◌, Option, Some, None, refl, ap}
use Rattle.wc_read.specs.Options.{◌>>=◌}
pub use Rattle.wc_maps.proofs.OptionLemmas.{some_none}
pub use Rattle.std.proofs.lemmas.Option.{same_Some as some_same, some_pair_parts as some_pair}

-- a step whose front gives nothing, or something
pub bind_none : {A B : Type 0} (o : Option A) (f : A → Option B) → o ≡ None → (o >>= f) ≡ None
bind_none None f e = refl
bind_none (Some x) f e = some_none x e

pub bind_some : {A B : Type 0} (o : Option A) (f : A → Option B) (x : A) → o ≡ Some x → (o >>= f) ≡ f x
bind_some None f x e = absurd cc
bind_some (Some y) f x e = ap f (some_same y x e)

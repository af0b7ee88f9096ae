-- What futures and streams carry.
use Rattle.std.specs.Prelude.{◌≡◌, ◌⊎◌, Option, Some, None}
use Rattle.wc_resolve.specs.declared.types.WitType.{WitType}
use Rattle.wc_resolve.specs.Views.{future_kind, stream_kind}
use Rattle.wc_resolve.specs.Kinds.{ResolveView, kind_at}
use Rattle.wc_names.specs.Views.{PayloadTypeView, typed, unit_future, unit_stream}

-- the type is a future or a stream that carries this, or nothing
abbrev pub IsPayload : ResolveView → PayloadTypeView → Option WitType → Type 0
IsPayload r (typed id function) payload = (kind_at r.types id ≡ Some (future_kind payload)) ⊎ (kind_at r.types id ≡ Some (stream_kind payload))
IsPayload r unit_future payload = payload ≡ None
IsPayload r unit_stream payload = payload ≡ None

-- the type is a future or a stream
abbrev pub HasPayload : ResolveView → PayloadTypeView → Type 0
HasPayload r ty = (payload : Option WitType) × IsPayload r ty payload

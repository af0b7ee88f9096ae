-- Globals are read as they are spelled.
use Rattle.std.proofs.Common.{ℕ, List, ◌++◌, refl, ◌∙◌, ap}
use Rattle.wc_read.specs.Formats.{Format, Joined}
use Rattle.wc_read.specs.Types.{SpellsGlobal}
use Rattle.wc_read.specs.Reading.Inits.{init_bytes_at}
use Rattle.wc_read.specs.Globals.{LocalGlobalValue, SpellsLocalGlobal}
use Rattle.wc_read.specs.Reading.Globals.{local_global_at}
use Rattle.wc_read.specs.Reading.Types.{global_at}
use Rattle.wc_read.specs.Options.{◌>>=◌}
use Rattle.wc_read.specs.declared.types.GlobalType.{GlobalType}
use Rattle.wc_read.proofs.MeetsLemmas.{Meets, same_meets, bind_meets, made_meets, made_at, Made}
use Rattle.wc_read.proofs.TypesLemmas.{global_meets}
use Rattle.wc_read.proofs.InitsLemmas.{SpellsInitBytes, init_bytes_meet}

made_local : GlobalType → List ℕ → LocalGlobalValue
made_local t init = record { ty = t; init = init }

abbrev SpellsEnd : GlobalType → Format LocalGlobalValue
SpellsEnd t = Made SpellsInitBytes (made_local t)

local_to : (bytes : List ℕ) (g : LocalGlobalValue) → Joined SpellsGlobal SpellsEnd bytes g → SpellsLocalGlobal bytes g
unfolding made_local
local_to bytes g j =
    let k = j.5 in
    let i = k.1.1 in
    rw k.2 (record { type_bytes = j.1; operators = i.0; cut = j.3 ∙ ap (λ (r : List ℕ). j.1 ++ r) k.1.0; has_type = j.4; has_init = i.1 })

local_from : (bytes : List ℕ) (g : LocalGlobalValue) → SpellsLocalGlobal bytes g → Joined SpellsGlobal SpellsEnd bytes g
unfolding made_local
local_from bytes g s = (g.ty, s.type_bytes, g.init, s.cut, s.has_type, (g.init, (refl, (s.operators, s.has_init)), refl))

pub local_global_meets : Meets SpellsLocalGlobal local_global_at
unfolding local_global_at made_local
local_global_meets =
    same_meets (Joined SpellsGlobal SpellsEnd) SpellsLocalGlobal local_global_at
    (bind_meets SpellsGlobal global_at SpellsEnd (λ t bytes. init_bytes_at bytes >>= made_at (made_local t)) global_meets
    (λ t. made_meets SpellsInitBytes init_bytes_at (made_local t) init_bytes_meet))
    local_to local_from

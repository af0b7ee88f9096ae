-- Laws of the worlds of components.
use Rattle.wc_encoder.specs.EncoderParts.{EncoderView}
use Rattle.wc_world.specs.Causes.{HasNoCause}
use Rattle.wc_world.specs.Options.{OptionsOf}
use Rattle.wc_world.specs.Views.{ComponentWorldView}
use Rattle.wc_world.specs.World.{IsWorldOf}

-- where there is a world, no fault but those of memory has a cause
abbrev pub WorldsExcludeFaults : EncoderView → Type 0
WorldsExcludeFaults e = (options : OptionsOf) (w : ComponentWorldView) → IsWorldOf options e w → HasNoCause e

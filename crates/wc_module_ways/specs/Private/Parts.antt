-- The parts of adapters, after the first part, and before others.
use Rattle.std.specs.Prelude.{◌≡◌, List, ◌∷◌, ◌++◌}
use Rattle.wc_why.specs.Part.{PartView}
use Rattle.wc_module_ways.specs.Adapters.{AdapterView}
use Rattle.wc_module_ways.specs.Parts.{AreAdapterParts}

pub record HasAdapterParts (adapters : List AdapterView) (parts : List PartView) : Type 0 where
  pub first : PartView
  pub others : List PartView
  pub rest : List PartView
  pub are : parts ≡ first ∷ (others ++ rest)
  pub are_others : AreAdapterParts adapters others

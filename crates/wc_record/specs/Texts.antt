-- The texts of a component's world, of what is recorded of a module, and of a plan.
use Rattle.std.specs.Prelude.{ℕ, List}
use Rattle.json.specs.Json.{Json}
use Rattle.json.specs.Print.{print}
use Rattle.json.specs.Tree.{json_tokens}
use Rattle.wc_plan.specs.Views.{UseView}
use Rattle.wc_validate.specs.Validate.{ModuleRecord}
use Rattle.wc_world.specs.Views.{ComponentWorldView}
use Rattle.wc_record.specs.Modules.{module_json}
use Rattle.wc_record.specs.Plans.{plan_json}
use Rattle.wc_record.specs.Worlds.{planned_world_json, world_json}

-- a value without spaces and with the shortest escapes
abbrev pub text_of : Json → List ℕ
text_of j = print (json_tokens j)

abbrev pub world_text : ComponentWorldView → List ℕ
world_text w = text_of (world_json w)

abbrev pub planned_world_text : ComponentWorldView → List UseView → List ℕ
planned_world_text w uses = text_of (planned_world_json w uses)

abbrev pub plan_text : List UseView → List ℕ
plan_text uses = text_of (plan_json uses)

abbrev pub module_text : ModuleRecord → List ℕ
module_text m = text_of (module_json m)

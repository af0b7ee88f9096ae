-- Kinds that are no plain text.
use Rattle.std.proofs.Common.{◌≡◌, None, refl}
use Rattle.json.specs.Find.{as_str}
use Rattle.json.specs.Json.{Json, null, boolean, number, string, array, object}
use Rattle.wc_json.specs.Functions.{function_kind, kind_with_resource}
use Rattle.wc_json.specs.Kinds.{kind, kind_by_name}

pub kind-not_text : (j : Json) → None ≡ as_str j → kind j ≡ kind_by_name j
kind-not_text null h = refl
kind-not_text (boolean b) h = refl
kind-not_text (number s) h = refl
kind-not_text (string s) h = let bad : ⊥ = cc h in absurd bad
kind-not_text (array js) h = refl
kind-not_text (object ms) h = refl

pub function_kind-not_text : (j : Json) → None ≡ as_str j → function_kind j ≡ kind_with_resource j
function_kind-not_text null h = refl
function_kind-not_text (boolean b) h = refl
function_kind-not_text (number s) h = refl
function_kind-not_text (string s) h = let bad : ⊥ = cc h in absurd bad
function_kind-not_text (array js) h = refl
function_kind-not_text (object ms) h = refl

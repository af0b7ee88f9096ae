-- What is there in place of an export, of the one module that bytes spell.
use Rattle.std.proofs.Common.{◌≡◌, ◌∙◌, ap, ℕ, List, Option, Result, Ok, Err, IfOk, String, Global, string_bytes}
use Rattle.std.specs.Option.{option_map}
use Rattle.std.specs.declared.alloc.AllocError.{AllocError}
use Rattle.wc_read.specs.Modules.{ModuleValue, SpellsModule}
use Rattle.wcwhy.specs.NearExports.{IsNearExport, near_export}

pub near_in : ((bytes : List ℕ) (m other : ModuleValue) → SpellsModule bytes m → SpellsModule bytes other → m ≡ other)
    → (bytes : List ℕ) (m : ModuleValue) → SpellsModule bytes m → (name : List ℕ) (r : Result (Option (String Global)) AllocError)
    → IfOk r (λ near. option_map string_bytes near ≡ near_export m.exports name) → IfOk r (λ near. IsNearExport bytes name near)
near_in unique bytes m spelled name (Ok near) is = λ other h. is ∙ ap (λ (z : ModuleValue). near_export z.exports name) (unique bytes m other spelled h)
near_in unique bytes m spelled name (Err e) is = tt

-- Values on the heap.
use Rattle.std.proofs.Common.{◌≡◌, List, ℕ, Box, Result, Ok, Err, IfErr, IfOk, subst, sym}
use Rattle.wc_encoder.specs.EncoderParts.{EncoderView}
use Rattle.wc_validate.specs.Validate.{ModuleRecord, module_record}
use Rattle.wc_validate.specs.declared.validate.ValidatedModule.{ValidatedModule}
use Rattle.wc_world.specs.Options.{OptionsOf}
use Rattle.wc_world.specs.World.{IsWorldOf}
use Rattle.wc_world.specs.WorldViews.{world_view}
use Rattle.wc_world.specs.declared.world.ComponentWorld.{ComponentWorld}
use Rattle.wc_calls.specs.Encoders.{AreOptionsOf, IsEncoderOf}
use Rattle.wc_calls.specs.Private.OptionTables.{table_options}
use Rattle.wc_calls.specs.Private.Refusals.{IsNoEncoder, IsWithoutPlace, RefusedMessage}
use Rattle.wc_calls.specs.declared.encoders.WorldInput.{WorldInput}
use Rattle.wc_calls.specs.declared.message_fault.MessageFault.TheVariants.{Memory}
use Rattle.wc_calls.proofs.CauseLemmas.{no_memory}

-- what is so of a value is so of it on the heap
pub boxed_as : {A E Z : Type 0} (P : A → Type 0) (r : Result (Box A Z) E) (a : A) → IfOk r (λ b. b.value ≡ a) → P a → IfOk r (λ b. P b.value)
boxed_as P (Ok b) a is own = subst P (sym is) own
boxed_as P (Err x) a is own = tt

-- a value is not on the heap, since an allocation failed
pub not_boxed : {B : Type 0} (text modules : List ℕ) (r : Result B RefusedMessage) → IfErr r (IsWithoutPlace Memory) → IfErr r (IsNoEncoder text modules)
not_boxed text modules (Ok b) is = tt
not_boxed text modules (Err x) is = no_memory text modules x is

-- what is so of a value on the heap, where it is lent

pub encoder_there : (text modules : List ℕ) (i j : WorldInput) → j ≡ i → IsEncoderOf text modules i.encoder → IsEncoderOf text modules j.encoder
encoder_there text modules i j same is = subst (λ (k : WorldInput). IsEncoderOf text modules k.encoder) (sym same) is

pub options_there : (text : List ℕ) (i j : WorldInput) → j ≡ i → AreOptionsOf text (table_options i.options) → AreOptionsOf text (table_options j.options)
options_there text i j same is = subst (λ (k : WorldInput). AreOptionsOf text (table_options k.options)) (sym same) is

pub world_there : (options : OptionsOf) (e : EncoderView) (w v : ComponentWorld) → v ≡ w → IsWorldOf options e (world_view w)
    → IsWorldOf options e (world_view v)
world_there options e w v same is = subst (λ (u : ComponentWorld). IsWorldOf options e (world_view u)) (sym same) is

pub record_there : (P : ModuleRecord → Type 0) (v w : ValidatedModule) → w ≡ v → P (module_record v) → P (module_record w)
record_there P v w same is = subst (λ (x : ValidatedModule). P (module_record x)) (sym same) is

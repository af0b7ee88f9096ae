-- What the call that makes a component's world answers.
use Rattle.std.proofs.Common.{◌≡◌, ◌≢◌, ◌⊎◌, ◌++◌, ◌≤◌, ◌<◌, ℕ, List, Result, Ok, Err, IfOk, length, sym, subst, ap, inl, inr, arith}
use Rattle.wc_encoder.specs.EncoderParts.{EncoderView}
use Rattle.wc_record.specs.Texts.{world_text}
use Rattle.wc_world.specs.Causes.{IsComponentWorldCause, IsMemory}
use Rattle.wc_world.specs.Options.{OptionsOf}
use Rattle.wc_world.specs.Views.{ComponentWorldView}
use Rattle.wc_world.specs.World.{IsWorldOf}
use Rattle.wc_world.specs.declared.fault.WorldFault.{WorldFault}
use Rattle.wc_world.specs.declared.fault.WorldFault.TheVariants.{Memory as world_memory}
use Rattle.wc_calls.specs.Answers.{IsFront, IsPut, IsTooLong, done, too_small}
use Rattle.wc_calls.specs.ComponentWorlds.{IsWorldAnswer, modules_text}
use Rattle.wc_calls.specs.Encoders.{AreOptionsOf, IsEncoderOf}
use Rattle.wc_calls.specs.MessageFault.{of_world}
use Rattle.wc_calls.specs.Private.EncoderAnswers.{IsAnswerFor, IsFaultFor}
use Rattle.wc_calls.specs.declared.component_worlds.WorldAnswer.{WorldAnswer}

-- what is answered for an encoder and options, of which this is the component's world

pub answered_for : {A : Type 0} (options : OptionsOf) (e : EncoderView) (w : ComponentWorldView) (r : Result WorldAnswer A) → IsWorldOf options e w
    → IfOk r (λ a. a.modules.items ≡ modules_text w) → IfOk r (λ a. a.json.items ≡ world_text w)
    → IfOk r (λ a. IsAnswerFor options e (length a.modules.items) (a.modules.items ++ a.json.items))
answered_for options e w (Ok a) made modules json = record {
  world = w;
  made = made;
  size = ap length modules;
  whole = (λ i. modules i ++ json i);
}
answered_for options e w (Err x) made modules json = tt

-- and the fault, where there is none
pub world_fault_for : (e : EncoderView) (f : WorldFault) → IsMemory e f ⊎ IsComponentWorldCause e f → IsFaultFor e (of_world f)
world_fault_for e world_memory h = tt
world_fault_for e f h = ((λ same. cc), h)

-- the same for a message
pub answered_to : (message modules : List ℕ) (options : OptionsOf) (e : EncoderView) (module_length : ℕ) → IsEncoderOf message modules e
    → AreOptionsOf message options → (text : List ℕ) → IsAnswerFor options e module_length text → IsWorldAnswer message modules module_length text
answered_to message modules options e module_length encodes given text is =
    record { encoder = e; encodes = encodes; options = options; given = given; world = is.world; made = is.made; size = is.size; whole = is.whole }

-- what holds of the bytes of modules and a text, with the length of the modules, as they were written

as_written : (P : ℕ → List ℕ → Type 0) (wasm json modules text : List ℕ) (own : ℕ) → P (length modules) (modules ++ text) → wasm ≡ modules → json ≡ text
    → own ≡ length wasm → P own (wasm ++ json)
as_written P wasm json modules text own is same_modules same_text size =
    subst (λ k. P k (wasm ++ json)) (sym size) (subst (λ w. P (length w) (w ++ json)) (sym same_modules) (subst (λ t. P (length modules) (modules ++ t)) (sym same_text) is))

pub written : (P : ℕ → List ℕ → Type 0) (wasm json modules text : List ℕ) (own n : ℕ) (old new : List ℕ) → P (length modules) (modules ++ text) → wasm ≡ modules
    → json ≡ text → own ≡ length wasm → n ≡ length (wasm ++ json) → IsFront (wasm ++ json) old new → IsPut (P own) n old new
written P wasm json modules text own n old new is same_modules same_text size long front =
    (wasm ++ json, as_written P wasm json modules text own is same_modules same_text size, long, front)

pub too_long : (P : ℕ → List ℕ → Type 0) (wasm json modules text : List ℕ) (own n : ℕ) (old : List ℕ) → P (length modules) (modules ++ text) → wasm ≡ modules
    → json ≡ text → own ≡ length wasm → n ≡ length (wasm ++ json) → length old < n → IsTooLong (P own) n old
too_long P wasm json modules text own n old is same_modules same_text size long fewer =
    (wasm ++ json, as_written P wasm json modules text own is same_modules same_text size, long, fewer)

-- a text is put, or is longer than the buffer
pub put_or_longer : (status n : ℕ) (text old new : List ℕ) → n ≡ length text → (status ≡ done → IsFront text old new) → (status ≡ too_small → length old < n)
    → (status ≢ done → new ≡ old) → (status ≡ done) ⊎ (status ≡ too_small)
    → (length text ≤ length old → IsFront text old new) × (length old < length text → new ≡ old)
put_or_longer status n text old new long front fewer same (inl is) =
    let here = front is in
    ((λ fits. here), (λ less. absurd (omega (arith, here.0, less))))
put_or_longer status n text old new long front fewer same (inr is) =
    let less = fewer is in
    ((λ fits. absurd (omega (arith, less, fits, long))), (λ over. same (λ other. cc)))

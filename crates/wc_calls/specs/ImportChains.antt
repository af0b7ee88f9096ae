-- What the call that says why an adapter imports what it does answers.
use Rattle.std.specs.Prelude.{◌≡◌, ℕ, List}
use Rattle.wc_gc.specs.LiveChains.{AreWhyImports}
use Rattle.wc_gc.specs.LiveItems.{IsFault, TrimInput, trim_input_for_names}
use Rattle.wc_gc.specs.declared.import_chains.ImportChains.{ImportChains}
use Rattle.wc_record.specs.Chains.{chains_json}
use Rattle.wc_record.specs.Texts.{text_of}
use Rattle.wc_calls.specs.Trimming.{IsFaultFor}
use Rattle.wc_calls.specs.declared.answers.Answer.{Answer}

-- the text is that of the shortest chains from the required exports to the imports that they reach, as JSON
abbrev pub IsWhyText : TrimInput → List ℕ → Type 0
IsWhyText w text = (c : ImportChains) × AreWhyImports w c × (text ≡ text_of (chains_json c))

-- the answer is a fault that there are no chains, with its cause
abbrev pub IsWhyFault : List ℕ → List (List ℕ) → Answer → List ℕ → List ℕ → Type 0
IsWhyFault wasm names = IsFaultFor (IsFault (trim_input_for_names wasm names)) wasm names

-- The laws of the reader, as the functions of `laws` state them.
use Rattle.std.specs.Prelude.{◌≡◌, ℕ, List, Ok, IsSomeAnd}
use Rattle.json.specs.Json.{document}
use Rattle.json.specs.Print.{print}
use Rattle.json.specs.Strict.{HasUniqueKeys}
use Rattle.json.specs.Tree.{json_tokens}
use Rattle.wc_json.specs.Document.{DocumentView, document_of}
use Rattle.wc_json.specs.Fits.{DocumentFits}
use Rattle.wc_json.specs.ToJson.{document_json}

-- a document that is written as a JSON value is read back
abbrev pub DocumentsReadBack : Type 0
DocumentsReadBack = (d : DocumentView) → DocumentFits d → document_of (document_json d) ≡ Ok d

-- a document as a text
abbrev pub document_text : DocumentView → List ℕ
document_text d = print (json_tokens (document_json d))

-- a document that is written as a text is read back: the text is JSON, no object in it repeats a member, and its value
-- is read as the document
abbrev pub TextsReadBack : Type 0
TextsReadBack = (d : DocumentView) → DocumentFits d → IsSomeAnd (document (document_text d)) (λ j. HasUniqueKeys j × (document_of j ≡ Ok d))

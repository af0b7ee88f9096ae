-- Objects of several kinds, and what a writer has after one more value.
use Rattle.std.specs.Prelude.{◌≡◌, ℕ, List, [], ◌∷◌, ◌++◌, codes, flat_map}
use Rattle.json.specs.Json.{Json}
use Rattle.json.specs.Token.{Token, key}
use Rattle.json.specs.Tree.{json_tokens}
use Rattle.json.specs.Written.{Written}
use Rattle.wc_texts.specs.Shapes.{Field, object_of}

-- an object of a kind: its first member says which kind it is
abbrev pub object_of_kind : List ℕ → List Field → Json
object_of_kind kind fs = object_of ((codes "kind", Json.string kind) ∷ fs)

-- one that has no members besides
abbrev pub plain_kind : List ℕ → Json
plain_kind kind = object_of_kind kind []

-- the tokens of members, without the brackets around them

abbrev pub field_tokens : Field → List Token
field_tokens f = key f.0 ∷ json_tokens f.1

abbrev pub fields_tokens : List Field → List Token
fields_tokens fs = flat_map field_tokens fs

-- these tokens are written after the others, and what was before these stays
pub record Puts (old new : Written) (ts : List Token) : Type 0 where
  pub before : new.before ≡ old.before
  pub tokens : new.tokens ≡ old.tokens ++ ts

-- a value is written
pub record PutsJson (old new : Written) (j : Json) : Type 0 where
  pub before : new.before ≡ old.before
  pub tokens : new.tokens ≡ old.tokens ++ json_tokens j

-- a member of an object is written; several are

pub record PutsField (old new : Written) (name : List ℕ) (j : Json) : Type 0 where
  pub before : new.before ≡ old.before
  pub tokens : new.tokens ≡ old.tokens ++ (key name ∷ json_tokens j)

pub record PutsFields (old new : Written) (fs : List Field) : Type 0 where
  pub before : new.before ≡ old.before
  pub tokens : new.tokens ≡ old.tokens ++ fields_tokens fs

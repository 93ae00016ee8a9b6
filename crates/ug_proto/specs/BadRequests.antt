-- Where a line that is no request goes wrong.
use Rattle.std.specs.Prelude.{◌≡◌, ◌≢◌, ℕ, ◌⊎◌, List, [], ◌∷◌, ◌++◌, length}
use Rattle.ug_types.specs.Elements.{Has}
use Rattle.ug_proto.specs.declared.request.Request.{Request}
use Rattle.ug_proto.specs.Splitting.{IsRest}
use Rattle.ug_proto.specs.Texts.{request_text, IsRequest}

-- a request's text is these words, and then it ends or a space stands behind
pub record BeginsRequest (words : List ℕ) : Type 0 where
  pub request : Request
  pub can : IsRequest request
  pub more : List ℕ
  pub rest : IsRest more
  pub whole : request_text request ≡ words ++ more

-- nothing, or words that begin a request, and a space
abbrev pub FitsBefore : List ℕ → Type 0
FitsBefore before =
    (before ≡ []) ⊎ ((words : List ℕ) × (before ≡ words ++ 32 ∷ []) × BeginsRequest words)

-- the words before that place begin a request, and no request goes on with the
-- word there, which may be empty
pub record HasWrongWord (line : List ℕ) (place : ℕ) : Type 0 where
  pub before : List ℕ
  pub word : List ℕ
  pub behind : List ℕ
  pub whole : line ≡ before ++ (word ++ behind)
  pub fits : FitsBefore before
  pub plain : ¬ Has word 32
  pub rest : IsRest behind
  pub wrong : ¬ BeginsRequest (before ++ word)
  pub at : place ≡ length before

-- the line begins a request, but is none: at its end a word is missing
pub record LacksWord (line : List ℕ) (place : ℕ) : Type 0 where
  pub begins : BeginsRequest line
  pub none : (request : Request) → IsRequest request → line ≢ request_text request
  pub at : place ≡ length line

abbrev pub IsBadRequest : List ℕ → ℕ → Type 0
IsBadRequest line place = HasWrongWord line place ⊎ LacksWord line place

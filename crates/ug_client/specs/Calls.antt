-- The calls of a client on its link, where the link tells them.
use Rattle.std.specs.Prelude.{◌≡◌, ℕ, ◌≤◌, List, [], ◌∷◌, ◌++◌, ◌⊎◌, map, length, Option, Some, None}
use Rattle.ug_types.specs.Told.{GrowsBy}
use Rattle.ug_links.specs.declared.link.Dialled.{Dialled}
use Rattle.ug_links.specs.declared.link.Dialled.TheVariants as dialled
use Rattle.ug_types.specs.declared.sink.Put.TheVariants as put
use Rattle.ug_links.specs.declared.link_call.Receipt.{Receipt}
use Rattle.ug_links.specs.declared.link_call.Receipt.TheVariants as receipt
use Rattle.ug_links.specs.declared.link_call.LinkCall.{LinkCall}
use Rattle.ug_links.specs.declared.link_call.LinkCall.TheVariants as call
use Rattle.ug_client.specs.Answers.{IsAwaiting}
use Rattle.ug_client.specs.declared.asked.Asked.{Asked}
use Rattle.ug_client.specs.declared.asked.Asked.TheVariants as asked

-- these calls stand behind those that were told before
abbrev pub TellsCalls : Option (List LinkCall) → List LinkCall → Option (List LinkCall) → Type 0
TellsCalls before calls None = Unit {0}
TellsCalls before calls (Some after) = GrowsBy before calls after

-- the bytes that receives gave
abbrev pub bytes_in : List Receipt → List ℕ
bytes_in [] = []
bytes_in (receipt.Bytes piece ∷ rest) = piece ++ bytes_in rest
bytes_in (receipt.End ∷ rest) = bytes_in rest
bytes_in (receipt.Failed ∷ rest) = bytes_in rest

-- each receive is made only where more is wanted behind the bytes so far, and none behind the end
-- or a failure
abbrev pub AreWanted : (List ℕ → Type 0) → ℕ → List ℕ → List Receipt → Type 0
AreWanted Wants most so_far [] = Unit {0}
AreWanted Wants most so_far (receipt.Bytes piece ∷ rest) =
    Wants so_far × (length piece ≤ most) × AreWanted Wants most (so_far ++ piece) rest
AreWanted Wants most so_far (receipt.End ∷ rest) = Wants so_far × (rest ≡ [])
AreWanted Wants most so_far (receipt.Failed ∷ rest) = Wants so_far × (rest ≡ [])

-- all of them gave bytes
abbrev pub GaveBytes : List Receipt → Type 0
GaveBytes [] = Unit {0}
GaveBytes (receipt.Bytes piece ∷ rest) = GaveBytes rest
GaveBytes (receipt.End ∷ rest) = ⊥
GaveBytes (receipt.Failed ∷ rest) = ⊥

-- receives behind some bytes, each of at most so many, and what they gave
pub record Receives (Wants : List ℕ → Type 0) (most : ℕ) (so_far : List ℕ)
    (before after : Option (List LinkCall)) (taken : List ℕ) : Type 0 where
  pub receipts : List Receipt
  pub gave : taken ≡ bytes_in receipts
  pub wanted : AreWanted Wants most so_far receipts
  pub tells : TellsCalls before (map call.Receive receipts) after

-- the same where the link goes on
pub record GoesOnReceiving (Wants : List ℕ → Type 0) (most : ℕ) (so_far : List ℕ)
    (before after : Option (List LinkCall)) (taken : List ℕ) : Type 0 where
  pub receives : Receives Wants most so_far before after taken
  pub bytes : GaveBytes receives.receipts

-- one dial of the path, the request's line, and receives
abbrev pub calls_to_ask : List ℕ → List ℕ → List Receipt → List LinkCall
calls_to_ask path line receipts =
    call.Dial path dialled.Ready ∷ call.Send line put.Done ∷ map call.Receive receipts

-- how a dialling ends a call
abbrev pub EndsUndialled : Dialled → Asked → Type 0
EndsUndialled dialled.Ready result = ⊥
EndsUndialled dialled.Failed result = result ≡ asked.LinkFailed
EndsUndialled dialled.Memory result = result ≡ asked.Memory

-- the calls before anything is received, where memory was short for the line, or one of them failed
pub data CallsInVain (path line : List ℕ) (before after : Option (List LinkCall)) (result : Asked) :
    Type 0 where
  Unprinted : result ≡ asked.Memory → TellsCalls before [] after
      → CallsInVain path line before after result
  Undialled : (answer : Dialled) → EndsUndialled answer result
      → TellsCalls before (call.Dial path answer ∷ []) after
      → CallsInVain path line before after result
  Unsent : result ≡ asked.LinkFailed
      → TellsCalls before (call.Dial path dialled.Ready ∷ call.Send line put.Failed ∷ []) after
      → CallsInVain path line before after result

-- the calls up to a reply: receives are made only while it is to come
pub record CallsForReply (path line : List ℕ) (before after : Option (List LinkCall))
    (taken : List ℕ) : Type 0 where
  pub receipts : List Receipt
  pub gave : taken ≡ bytes_in receipts
  pub wanted : AreWanted IsAwaiting 65536 [] receipts
  pub tells : TellsCalls before (calls_to_ask path line receipts) after

abbrev pub CallsToAsk : List ℕ → List ℕ → Option (List LinkCall) → Option (List LinkCall) → List ℕ
    → Asked → Type 0
CallsToAsk path line before after taken result =
    ((taken ≡ []) × CallsInVain path line before after result)
    ⊎ CallsForReply path line before after taken

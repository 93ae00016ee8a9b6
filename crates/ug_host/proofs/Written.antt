-- A line and the newline behind it, written one after the other.
use Rattle.std.proofs.Common.{ℕ, List, [], ◌∷◌, ◌++◌, Option, sym, ap, ◌∙◌, append_assoc}
use Rattle.std.proofs.lemmas.List.{append-nil}
use Rattle.std.specs.Io.KnownBytes.{Keeps}
use Rattle.ug_types.specs.Ends.{Puts}
use Rattle.ug_types.specs.declared.sink.Put.TheVariants as put
use Rattle.ug_types.proofs.Known.{Appends-then, Keeps-then}
use Rattle.ug_audit.specs.Auditors.{TakesEntryLine}
use Rattle.ug_audit.specs.declared.auditor.Noted.TheVariants as noted

pub line_ended : (a b c : Option (List ℕ)) (line : List ℕ) → Puts a b line put.Done → Puts b c (10 ∷ []) put.Done → TakesEntryLine a c line noted.Done
line_ended a b c line h k = Appends-then a b c line (10 ∷ []) h k

pub line_cut : (a b : Option (List ℕ)) (line : List ℕ) → Puts a b line put.Failed → TakesEntryLine a b line noted.Failed
line_cut a b line (front, rest, e, h) = (front, rest ++ 10 ∷ [], ap (λ l. l ++ 10 ∷ []) e ∙ append_assoc front rest (10 ∷ []), h)

pub end_cut : (a b c : Option (List ℕ)) (line : List ℕ) → Puts a b line put.Done → Puts b c (10 ∷ []) put.Failed → TakesEntryLine a c line noted.Failed
end_cut a b c line h (front, rest, e, k) = (line ++ front, rest, ap (λ l. line ++ l) e ∙ sym (append_assoc line front rest), Appends-then a b c line front h k)

-- what was flushed is what was written, whether or not the flush failed
pub flushed : (a b c : Option (List ℕ)) (bytes : List ℕ) → Puts a b bytes put.Done → Keeps b c → Puts a c bytes put.Done
flushed a b c bytes h k = Keeps-then a b c bytes h k

pub unflushed : (a b c : Option (List ℕ)) (bytes : List ℕ) → Puts a b bytes put.Done → Keeps b c → Puts a c bytes put.Failed
unflushed a b c bytes h k = (bytes, [], sym (append-nil bytes), Keeps-then a b c bytes h k)

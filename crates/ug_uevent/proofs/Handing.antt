-- The next message of a stream, handed out.
use Rattle.std.proofs.Common.{◌≡◌, ℕ, ◌+◌, ◌-◌, List, [], ◌∷◌, Bool, true, false, length, take, drop, Some, Result, Ok, Err, refl, sym, ap, ◌∙◌, ◌↔◌}
use Rattle.std.proofs.Math.Seq.{drop-drop}
use Rattle.ug_types.proofs.Known.{to_end}
use Rattle.ug_types.specs.TextFaults.{fault_of_kind}
use Rattle.ug_uevent.specs.Answers.{HandsOutHint}
use Rattle.ug_uevent.specs.Faults.{SaidFault}
use Rattle.ug_uevent.specs.Grammar.{IsMessage, IsBadMessage, ReadsAs}
use Rattle.ug_uevent.specs.Streams.{Whole, Stream, behind_messages, whole_stream, waiting, FindsEnd}
use Rattle.ug_uevent.specs.declared.fault.UeventKind.{UeventKind}
use Rattle.ug_uevent.specs.declared.hint.Hint.{Hint}
use Rattle.ug_uevent.specs.declared.scan.Beginning.TheVariants as beginning

pub reads_as : (message : List ℕ) (answer : Result Hint SaidFault) → ((hint : Hint) → (answer ≡ Ok hint) ↔ IsMessage message hint)
    → ((kind : UeventKind) (place : ℕ) → (answer ≡ Err (fault_of_kind kind place)) ↔ IsBadMessage message kind place) → ReadsAs message answer
reads_as message (Ok hint) good bad = (good hint).0 refl
reads_as message (Err fault) good bad = (bad fault.kind fault.place).0 refl

pub handed : (ended : Bool) (items lent : List ℕ) (at n : ℕ) (s : Stream) (answer : Result Hint SaidFault) → ended ≡ false → lent ≡ items
    → FindsEnd (take (length lent - at) (drop at lent)) (beginning.Message n) → waiting ended (drop at items) ≡ s
    → ReadsAs (take n (take (length lent - at) (drop at lent))) answer → HandsOutHint s (Some answer) (waiting ended (drop (at + (n + 1)) items))
handed true items lent at n s answer e l f v r = let none : ⊥ = cc in absurd none
handed false items lent at n s answer e l f v r =
    let rest : List ℕ = take (length lent - at) (drop at lent) in
    let kept : rest ≡ drop at items = to_end at lent ∙ ap (drop at) l in
    let behind : drop (n + 1) rest ≡ drop (at + (n + 1)) items = ap (drop (n + 1)) kept ∙ drop-drop (n + 1) at items in
    let all : s ≡ behind_messages (Whole (take n rest) ∷ []) (whole_stream (drop (at + (n + 1)) items)) =
    sym v ∙ ap whole_stream (sym kept) ∙ f.1 ∙ ap (λ (x : List ℕ). behind_messages (Whole (take n rest) ∷ []) (whole_stream x)) behind in
    (Whole (take n rest), ap (λ (t : Stream). t.messages) all, sym (ap (λ (t : Stream). t.begun) all), r)

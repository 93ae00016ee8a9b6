-- A whole pass from its parts.
use Rattle.std.proofs.Common.{◌≡◌, List, sym, subst}
use Rattle.std.specs.declared.cmp.Ordering.{Ordering}
use Rattle.std.specs.List.Sorted.{IsPermutation, IsSorted}
use Rattle.ug_iface.specs.Calls.{IfaceCall, IfaceAnswer}
use Rattle.ug_iface.specs.Tree.{RunsIfaces}
use Rattle.ug_iface.specs.Settle.{Aim, beginning, walking, RunsPass, Ended, Walked}
use Rattle.ug_iface.specs.declared.name.IfaceName.{IfaceName}
use Rattle.ug_iface.specs.declared.settle.Begun.{Begun}
use Rattle.ug_iface.specs.declared.settle.Begun.TheVariants.{Walks, Ends}
use Rattle.ug_iface.specs.declared.settle.IfaceEntry.{IfaceEntry}
use Rattle.ug_iface.specs.declared.settle.Passed.{Passed}

module _ {S : Type 0} (serves : S → (call : IfaceCall) → IfaceAnswer call → S → Type 0) (cmp : IfaceName → IfaceName → Ordering) where
  pub walked_pass : (aim : Aim) (s u t : S) (begun : Begun) (names order now : List IfaceName) (es room more : List IfaceEntry) (end : Passed)
      → RunsIfaces serves s (beginning aim.device.via_port) begun u → begun ≡ Walks names → IsPermutation names order → IsSorted cmp order → now ≡ order → room ≡ es
      → RunsIfaces serves u (walking aim now room) (end, more) t → RunsPass serves cmp aim s es end more t
  walked_pass aim s u t begun names order now es room more end first is permuted sorted same kept rest =
      Walked names order u end more t
      (subst (λ (b : Begun). RunsIfaces serves s (beginning aim.device.via_port) b u) is first) permuted sorted
      (subst (λ (v : List IfaceEntry). RunsIfaces serves u (walking aim order v) (end, more) t) kept (subst (λ (v : List IfaceName). RunsIfaces serves u (walking aim v room) (end, more) t) same rest))

  pub ended_pass : (aim : Aim) (s t : S) (begun : Begun) (es room : List IfaceEntry) (end : Passed)
      → RunsIfaces serves s (beginning aim.device.via_port) begun t → begun ≡ Ends end → room ≡ es → RunsPass serves cmp aim s es end room t
  ended_pass aim s t begun es room end first is kept =
      subst (λ (v : List IfaceEntry). RunsPass serves cmp aim s es end v t) (sym kept)
      (Ended end t (subst (λ (b : Begun). RunsIfaces serves s (beginning aim.device.via_port) b t) is first))

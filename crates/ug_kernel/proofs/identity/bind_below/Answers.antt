use Rattle.std.proofs.Common.{refl, ap, sym, subst, ◌≡◌, ℕ, List, Option, Some, None, Result}
use Rattle.ug_types.specs.declared.record.Attrs.{Attrs}
use Rattle.ug_kernel.specs.Calls.{Call, Answer}
use Rattle.ug_kernel.specs.Tree.{Runs}
use Rattle.ug_kernel.proofs.Runs.{runs_then}
use Rattle.ug_kernel.specs.Files.{reading_parent}
use Rattle.ug_kernel.specs.Bind.{binding, to_parent, after_parent, asking_alive}
use Rattle.ug_kernel.specs.declared.files.OwnFiles.{OwnFiles}
use Rattle.ug_kernel.specs.declared.files.Stop.{Stop}
use Rattle.ug_kernel.specs.declared.identity.Binding.{Binding}
use Rattle.ug_kernel.specs.declared.identity.Binding.TheVariants as bound
use Rattle.ug_kernel.proofs.identity.bind_below.Goals.{in-None, in-Some+in-Ok-read_parent}
use Rattle.ug_kernel.proofs.identity.bind_below.Goals as goal

module _ {S : Type 0} (gives : S → (call : Call) → Answer call → S → Type 0) where
  asked : (s : S) (held : ℕ) (own : OwnFiles) (attrs is : Option Attrs) (u : S) (r : Binding) (t : S) → attrs ≡ is → u ≡ s → Runs gives u (asking_alive held own attrs) r t → Runs gives s (asking_alive held own is) r t
  asked s held own attrs is u r t e f h = subst (λ (v : S). Runs gives v (asking_alive held own is) r t) f (subst (λ (v : Option Attrs). Runs gives u (asking_alive held own v) r t) e h)

  alone : (s : S) (held : ℕ) (own : OwnFiles) (parent : Option (List ℕ)) (attrs : Option Attrs) (u : S) (r : Binding) (t : S) → parent ≡ None → attrs ≡ None → u ≡ s → Runs gives u (asking_alive held own attrs) r t → Runs gives s (to_parent held own parent) r t
  alone s held own parent attrs u r t e f k h = subst (λ (v : Option (List ℕ)). Runs gives s (to_parent held own v) r t) (sym e) (asked s held own attrs None u r t f k h)

  below : (s : S) (held : ℕ) (own : OwnFiles) (parent : Option (List ℕ)) (above : List ℕ) (theirs : Result Attrs Stop) (m : S) (r : Binding) (t : S) → parent ≡ Some above → Runs gives s (reading_parent above held) theirs m → Runs gives m (after_parent held own theirs) r t → Runs gives s (to_parent held own parent) r t
  below s held own parent above theirs m r t e a b = subst (λ (v : Option (List ℕ)). Runs gives s (to_parent held own v) r t) (sym e) (runs_then gives s (reading_parent above held) (after_parent held own) theirs m r t a b)

pub returns-in-Absent : goal.returns-in-Absent
unfolding binding
returns-in-Absent g c = (_, _, c.in-Absent.ensures, (refl, refl))

pub returns-in-Failed : goal.returns-in-Failed
unfolding binding
returns-in-Failed g c = (_, _, c.in-Failed.ensures, (ap bound.Failed c.failed_call.ensures, refl))

pub returns-in-Memory : goal.returns-in-Memory
unfolding binding
returns-in-Memory g c = (_, _, c.in-Memory.ensures, (refl, refl))

pub returns-in-Err : goal.returns-in-Err
unfolding binding
returns-in-Err g c = (_, _, c.in-Token.ensures, runs_then _ _ _ _ _ _ _ _ c.in-Err.ensures (c.into.ensures, refl))

pub returns-in-Err-read_parent : goal.returns-in-Err-read_parent
unfolding binding
returns-in-Err-read_parent g c = (_, _, c.in-Token.ensures, runs_then _ _ _ _ _ _ _ _ c.in-Ok.ensures (below _ _ _ _ _ _ _ _ _ _ c.in-Some.is c.in-Err-read_parent.ensures (c.into-in-Err-read_parent.ensures, refl)))

pub returns : goal.returns
unfolding binding
returns g c = (_, _, c.in-Token.ensures, runs_then _ _ _ _ _ _ _ _ c.in-Ok.ensures (elim c.match-parent.branch as (λ x. Runs g.Y.Sysfs.gives c.read_own.new.sysfs (to_parent c.in-Token.held.0 c.in-Ok.own c.args.parent) c.end_binding.result c.end_binding.new.sysfs) [ in-None w ↦ alone _ _ _ _ _ _ _ _ _ w.in-None.is w.parent_attrs-is w.sysfs-is c.end_binding.ensures | in-Some+in-Ok-read_parent w ↦ below _ _ _ _ _ _ _ _ _ _ w.in-Some.is w.in-Ok-read_parent.ensures (asked _ _ _ _ _ _ _ _ _ w.parent_attrs-is w.sysfs-is c.end_binding.ensures) ]))

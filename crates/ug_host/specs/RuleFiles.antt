-- The calls on a rule file of this machine.
use Rattle.std.proofs.Common.{◌≡◌, ℕ, List, ◌∙◌}
use Rattle.ug_store.specs.DiskCalls.{DiskCall, DiskTold, CountsOnDisk}

-- a call counts its failure, and is on the file that was named
pub record CallsAt (call : DiskCall) (told : DiskTold call) (path : List ℕ) (faults : ℕ)
    (after : List ℕ) (count : ℕ) : Type 0 where
  pub counts : CountsOnDisk call told faults count
  pub same : after ≡ path

pub same_path : (before after path : List ℕ) → after ≡ before → before ≡ path → after ≡ path
same_path before after path same is = same ∙ is

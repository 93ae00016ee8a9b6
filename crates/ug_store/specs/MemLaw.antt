-- A disk in memory does what a disk may, and counts its faults.
use Rattle.std.proofs.Common.{◌≡◌, ℕ, ◌+◌, ◌-◌, ◌^◌, ◌≤◌, Bool, true, false, cond, if◌then◌else◌, nat_lt, nat_le, List, [], ◌∷◌, length, Option, Some, None, inl, inr, refl, sym, ◌∙◌, ap, subst, arith}
use Rattle.std.proofs.lemmas.Bool.{both_ways, lt-ltb, leb-true}
use Rattle.ug_types.specs.Ends.{IsCounted, Rose}
use Rattle.ug_types.specs.Limits.{text_limit}
use Rattle.ug_store.specs.DiskCalls.{DiskCall, Load, Write_new, Sync_new, Swap, DiskReply, DiskTold, failed_on, failed_load, CountsOnDisk}
use Rattle.ug_store.specs.Disk.{Disk, ReadsFile, DiskCalled, FollowsOnDisk}
use Rattle.ug_store.specs.Scripted.{DiskWorld, one_up, text_or_absent, loaded_of, failed_reply, past_within, disk_after, with_number, fate_at, reply_by, faults_by, told_with, world_after, refused_on, answering_on, WantsMemory, MemKeeps, disk_told}
use Rattle.ug_store.specs.declared.disk.DiskAnswer.{DiskAnswer}
use Rattle.ug_store.specs.declared.disk.Loaded.{Loaded}
use Rattle.ug_store.specs.declared.disk.Loaded.TheVariants as loaded
use Rattle.ug_store.specs.declared.mishap.Mishap.{Mishap}
use Rattle.ug_store.specs.declared.mishap.Mishap.TheVariants as mishap

text_read : (text : List ℕ) → length text ≤ text_limit → ReadsFile (text_or_absent text) text
text_read [] le = refl
text_read (b ∷ bs) le = (refl, le)

reads_within : (text : List ℕ) (b : Bool) → nat_le (length text) text_limit ≡ b
    → ReadsFile (if b then text_or_absent text else loaded.TooLong) text
reads_within text true e = text_read text (leb-true (length text) text_limit e)
reads_within text false e = grind (arith, e)

reads_whole : (text : List ℕ) → ReadsFile (loaded_of text) text
reads_whole text = reads_within text (nat_le (length text) text_limit) refl

-- what the script has a call do is what it may do
does : (call : DiskCall) (fate : Option Mishap) (m : Disk) (count : ℕ)
    → DiskCalled call (record { answer = reply_by call fate m; count = count }) m
    (disk_after call fate (past_within call m))
does Load fate m count =
    record {
      effect = (
        reads_whole m.text,
        record
            { text = refl; fresh = refl; synced = refl; left = refl },
      );
      past = refl;
    }
does (Write_new text) None m count =
    record {
      effect = record { text = refl; fresh = refl; synced = refl; left = refl };
      past = refl;
    }
does (Write_new text) (Some mishap.NoEffect) m count =
    record {
      effect = inl (record { text = refl; fresh = refl; synced = refl; left = refl });
      past = refl;
    }
does (Write_new text) (Some mishap.Effect) m count =
    record {
      effect = inr (text, record { text = refl; fresh = refl; synced = refl; left = refl });
      past = refl;
    }
does Sync_new None m count =
    record {
      effect = record { text = refl; fresh = refl; synced = refl; left = refl };
      past = refl;
    }
does Sync_new (Some mishap.NoEffect) m count =
    record {
      effect = inl (record { text = refl; fresh = refl; synced = refl; left = refl });
      past = refl;
    }
does Sync_new (Some mishap.Effect) m count =
    record {
      effect = inr (record { text = refl; fresh = refl; synced = refl; left = refl });
      past = refl;
    }
does Swap None m count = record { effect = (refl, refl); past = refl }
does Swap (Some mishap.NoEffect) m count = record { effect = (inl refl, refl); past = refl }
does Swap (Some mishap.Effect) m count = record { effect = (inr refl, refl); past = refl }

-- a call that found no memory for a text did nothing
does_nothing : (call : DiskCall) (a : DiskTold call) (m : Disk) → WantsMemory call a.answer
    → DiskCalled call a m (past_within call m)
does_nothing Load a m e =
    record {
      effect = (
        subst (λ (r : Loaded). ReadsFile r m.text) (sym e) tt,
        record
            { text = refl; fresh = refl; synced = refl; left = refl },
      );
      past = refl;
    }
does_nothing (Write_new text) a m e =
    subst (λ (r : DiskAnswer). DiskCalled (Write_new text)
    (record { answer = r; count = a.count }) m (past_within (Write_new text) m)) (sym e)
    (record {
      effect = record { text = refl; fresh = refl; synced = refl; left = refl };
      past = refl;
    })
does_nothing Sync_new a m e = absurd e
does_nothing Swap a m e = absurd e

same_disk : (call : DiskCall) (s : DiskWorld) → (with_number call s).disk ≡ s.disk
same_disk Load s = refl
same_disk (Write_new text) s = refl
same_disk Sync_new s = refl
same_disk Swap s = refl

same_faults : (call : DiskCall) (s : DiskWorld) → (with_number call s).faults ≡ s.faults
same_faults Load s = refl
same_faults (Write_new text) s = refl
same_faults Sync_new s = refl
same_faults Swap s = refl

-- where a disk is told, it hasn't run out
told_if : (b : Bool) (m n : Disk) → cond b None (Some m) ≡ Some n → m ≡ n
told_if true m n e = let no : ⊥ = cc in absurd no
told_if false m n e = cc

pub tells_disk : (s : DiskWorld) → s.ran_out ≡ false → disk_told s ≡ Some s.disk
tells_disk s e = ap (λ (b : Bool). cond b None (Some s.disk)) e

told_not : (t : DiskWorld) (n : Disk) → t.ran_out ≡ true → disk_told t ≡ Some n → ⊥
told_not t n out e = let no : None ≡ Some n =
    sym (ap (λ (b : Bool). cond b None (Some t.disk)) out) ∙ e in cc

-- where a disk is told after a call, one was told before it, and the call did what it may
pub mem_did : (s : DiskWorld) (call : DiskCall) (a : DiskTold call) (t : DiskWorld) (n : Disk)
    → MemKeeps s call a t → disk_told t ≡ Some n → FollowsOnDisk call a (disk_told s) n
mem_did s call a t n (inl h) e = pick s.ran_out refl h
  where
    fate : Option Mishap
    fate = fate_at call (with_number call s)

    runs : DiskWorld
    runs = world_after call (with_number call s)

    fails : DiskTold call × DiskWorld
    fails = answering_on call (failed_reply call) (refused_on call s)

    goes : DiskTold call × DiskWorld
    goes = answering_on call (reply_by call fate s.disk) runs

    pick : (b : Bool) → s.ran_out ≡ b → (a ≡ (cond b fails goes).0) × (t ≡ (cond b fails goes).1)
        → FollowsOnDisk call a (disk_told s) n
    pick true out k = absurd (told_not t n (ap (λ (w : DiskWorld). w.ran_out) k.1) e)
    pick false ran k =
        let at : t.disk ≡ disk_after call fate (past_within call s.disk) =
        ap (λ (w : DiskWorld). w.disk) k.1 ∙ ap
        (λ (m : Disk). disk_after call fate (past_within call m)) (same_disk call s) in
        let is : disk_after call fate (past_within call s.disk) ≡ n =
        sym at ∙ told_if t.ran_out t.disk n e in
        record {
          disk = s.disk;
          was_told = tells_disk s ran;
          called = subst (λ (b : DiskTold call). DiskCalled call b s.disk n) (sym k.0)
              (subst (λ (m : Disk). DiskCalled call
              (told_with call (reply_by call fate s.disk) runs) s.disk m) is
              (does call fate s.disk runs.faults));
        }
mem_did s call a t n (inr (inl h)) e =
    let is : past_within call s.disk ≡ n =
    sym (ap (λ (w : DiskWorld). w.disk) h.after) ∙ told_if t.ran_out t.disk n e in
    record {
      disk = s.disk;
      was_told = tells_disk s h.ran;
      called = subst (λ (m : Disk). DiskCalled call a s.disk m) is
          (does_nothing call a s.disk h.memory);
    }
mem_did s call a t n (inr (inr h)) e =
    absurd (told_not t n (ap (λ (w : DiskWorld). w.ran_out) h.after) e)

-- one up is at least as much, and at most one more
pub up_within : (n : ℕ) → (n ≤ one_up n) × (one_up n ≤ n + 1)
up_within n =
    elim (nat_lt n (2 ^ 64 - 1)) as (λ b. (n ≤ cond b (n + 1) n) × (cond b (n + 1) n ≤ n + 1)) [
      | true ↦ (omega arith, omega arith)
      | false ↦ (omega arith, omega arith)
    ]

up_rises : (n : ℕ) → Rose n (one_up n)
up_rises n lt = rw (lt-ltb n (2 ^ 64 - 1) lt) (omega arith)

-- a count that stands, of a call that didn't fail; or that rises
counts_same : (call : DiskCall) (a : DiskTold call) (f g : ℕ) → a.count ≡ g → g ≡ f
    → failed_on call a.answer ≡ false → CountsOnDisk call a f g
counts_same call a f g count same well =
    record {
      count = count;
      counted = (omega (arith, same), omega (arith, same));
      cause = λ yes. absurd (both_ways (failed_on call a.answer) well yes);
    }

counts_more : (call : DiskCall) (a : DiskTold call) (f g : ℕ) → a.count ≡ g → g ≡ one_up f
    → CountsOnDisk call a f g
counts_more call a f g count same =
    record {
      count = count;
      counted = subst (λ (x : ℕ). IsCounted f x) (sym same) (up_within f);
      cause = λ yes. subst (λ (x : ℕ). Rose f x) (sym same) (up_rises f);
    }

text_true : (text : List ℕ) → failed_load (text_or_absent text) ≡ false
text_true [] = refl
text_true (b ∷ bs) = refl

load_true : (text : List ℕ) → failed_load (loaded_of text) ≡ false
load_true text =
    elim (nat_le (length text) text_limit) as
    (λ b. failed_load (if b then text_or_absent text else loaded.TooLong) ≡ false)
    [ true ↦ text_true text | false ↦ refl ]

counts_by : (call : DiskCall) (fate : Option Mishap) (m : Disk) (a : DiskTold call) (f g : ℕ)
    → a.answer ≡ reply_by call fate m → a.count ≡ g → g ≡ faults_by fate f → CountsOnDisk call a f g
counts_by Load None m a f g is count same =
    counts_same Load a f g count same (ap failed_load is ∙ load_true m.text)
counts_by Load (Some x) m a f g is count same = counts_more Load a f g count same
counts_by (Write_new text) None m a f g is count same =
    counts_same (Write_new text) a f g count same (ap (failed_on (Write_new text)) is)
counts_by (Write_new text) (Some x) m a f g is count same =
    counts_more (Write_new text) a f g count same
counts_by Sync_new None m a f g is count same =
    counts_same Sync_new a f g count same (ap (failed_on Sync_new) is)
counts_by Sync_new (Some x) m a f g is count same = counts_more Sync_new a f g count same
counts_by Swap None m a f g is count same =
    counts_same Swap a f g count same (ap (failed_on Swap) is)
counts_by Swap (Some x) m a f g is count same = counts_more Swap a f g count same

wants_true : (call : DiskCall) (r : DiskReply call) → WantsMemory call r → failed_on call r ≡ false
wants_true Load r e = ap failed_load e
wants_true (Write_new text) r e = ap (failed_on (Write_new text)) e
wants_true Sync_new r e = absurd e
wants_true Swap r e = absurd e

-- each failure is counted
pub mem_counted : (s : DiskWorld) (call : DiskCall) (a : DiskTold call) (t : DiskWorld)
    → MemKeeps s call a t → CountsOnDisk call a s.faults t.faults
mem_counted s call a t (inl h) = pick s.ran_out h
  where
    fate : Option Mishap
    fate = fate_at call (with_number call s)

    runs : DiskWorld
    runs = world_after call (with_number call s)

    fails : DiskTold call × DiskWorld
    fails = answering_on call (failed_reply call) (refused_on call s)

    goes : DiskTold call × DiskWorld
    goes = answering_on call (reply_by call fate s.disk) runs

    pick : (b : Bool) → (a ≡ (cond b fails goes).0) × (t ≡ (cond b fails goes).1)
        → CountsOnDisk call a s.faults t.faults
    pick true k =
        let up : t.faults ≡ one_up s.faults = ap (λ (w : DiskWorld). w.faults) k.1 in
        counts_more call a s.faults t.faults (ap (λ (b : DiskTold call). b.count) k.0 ∙ sym up) up
    pick false k =
        let same : t.faults ≡ faults_by fate s.faults =
        ap (λ (w : DiskWorld). w.faults) k.1 ∙ ap (λ (n : ℕ). faults_by fate n)
        (same_faults call s) in
        counts_by call fate s.disk a s.faults t.faults (ap (λ (b : DiskTold call). b.answer) k.0)
        (ap (λ (b : DiskTold call). b.count) k.0 ∙ sym (ap (λ (w : DiskWorld). w.faults) k.1)) same
mem_counted s call a t (inr (inl h)) =
    counts_same call a s.faults t.faults h.count
    (ap (λ (w : DiskWorld). w.faults) h.after ∙ same_faults call s)
    (wants_true call a.answer h.memory)
mem_counted s call a t (inr (inr h)) =
    counts_more call a s.faults t.faults (ap (λ (b : DiskTold call). b.count) h.answer)
    (ap (λ (w : DiskWorld). w.faults) h.after)

-- a disk that has run out stays so
pub mem_stays_out : (s : DiskWorld) (call : DiskCall) (a : DiskTold call) (t : DiskWorld)
    → MemKeeps s call a t → s.ran_out ≡ true → t.ran_out ≡ true
mem_stays_out s call a t (inl h) out = pick s.ran_out out h
  where
    fails : DiskTold call × DiskWorld
    fails = answering_on call (failed_reply call) (refused_on call s)

    goes : DiskTold call × DiskWorld
    goes = answering_on call (reply_by call (fate_at call (with_number call s)) s.disk)
        (world_after call (with_number call s))

    pick : (b : Bool) → b ≡ true → (a ≡ (cond b fails goes).0) × (t ≡ (cond b fails goes).1)
        → t.ran_out ≡ true
    pick true is k = ap (λ (w : DiskWorld). w.ran_out) k.1
    pick false is k = absurd (both_ways false refl is)
mem_stays_out s call a t (inr (inl h)) out = absurd (both_ways s.ran_out h.ran out)
mem_stays_out s call a t (inr (inr h)) out = ap (λ (w : DiskWorld). w.ran_out) h.after

use Rattle.std.proofs.Common.{◌≡◌, ℕ, ◌+◌, ◌<◌, ◌≤◌, arith, List, ◌∷◌, length, get_or, drop, Result, Ok, Err, refl, sym, ap, subst, ◌∙◌}
use Rattle.std.proofs.lemmas.List.{drop_more}
use Rattle.std.proofs.lemmas.Result.{err_from_is_err_and}
use Rattle.ug_types.specs.Ends.{Rose}
use Rattle.ug_types.specs.Principals.{principal_of}
use Rattle.ug_acl.specs.Acls.{Addition}
use Rattle.ug_conf.specs.Files.{FileStep}
use Rattle.ug_serve.specs.Access.{ReadsNamed, ReadsNames}
use Rattle.ug_serve.specs.declared.not_started.NotStarted.{NotStarted}
use Rattle.ug_serve.specs.declared.not_started.NotStarted.TheVariants.{DiskFailed, FilesFailed}
use Rattle.ug_serve.proofs.access.add_files.Goals as goal

next_of : (names : List (List ℕ)) (i : ℕ) (name : List ℕ) → i < length names → name ≡ get_or names i name → drop i names ≡ name ∷ drop (i + 1) names
next_of names i name lt e = drop_more names i name lt ∙ ap (λ (y : List ℕ). y ∷ drop (i + 1) names) (sym e)

names_more : {F : Type 0} (gives : F → FileStep → F → Type 0) (folder : List ℕ) (names : List (List ℕ)) (i : ℕ) (name : List ℕ) (acl more : List Addition) (s u : F) → i < length names → name ≡ get_or names i name → ReadsNamed gives folder (principal_of name) name acl s (Ok more) u → (r : Result (List Addition) NotStarted) (t : F) → ReadsNames gives folder (drop (i + 1) names) more u r t → ReadsNames gives folder (drop i names) acl s r t
names_more {F} gives folder names i name acl more s u lt e one r t rest =
    subst (λ (ns : List (List ℕ)). ReadsNames gives folder ns acl s r t) (sym (next_of names i name lt e)) (Ok more, u, one, rest)

names_end : {F : Type 0} (gives : F → FileStep → F → Type 0) (folder : List ℕ) (names : List (List ℕ)) (i : ℕ) (name : List ℕ) (acl : List Addition) (s u : F) (cause : NotStarted) → i < length names → name ≡ get_or names i name → ReadsNamed gives folder (principal_of name) name acl s (Err cause) u → ReadsNames gives folder (drop i names) acl s (Err cause) u
names_end {F} gives folder names i name acl s u cause lt e one =
    subst (λ (ns : List (List ℕ)). ReadsNames gives folder ns acl s (Err cause) u) (sym (next_of names i name lt e)) (Err cause, u, one, (refl, refl))

cause_of : {A : Type 0} (a b : NotStarted) → ◌≡◌ {A = Result A NotStarted} (Err a) (Err b) → a ≡ b
cause_of a b e = cc

rose_after : (a b c : ℕ) → a ≤ b → b ≤ c → Rose b c → Rose a c
rose_after a b c h k r = λ p. grind (arith, r)

not_above : (a b c : ℕ) → a ≤ b → b ≤ c → a ≤ c
not_above a b c h k = omega arith

pub loop-name-preserved : goal.loop-name-preserved
loop-name-preserved g c = record {
  runs = λ r t k. c.loop-name.invariant.runs r t (names_more g.F.ConfFiles.gives c.args.folder.now c.args.names.now c.loop-name.name-index c.name-item.result c.loop-name.added.acl c.add_file.new.added.acl c.loop-name.files c.add_file.new.files c.loop-name-test.true c.name-item.is
      (subst (λ (name : List ℕ). ReadsNamed g.F.ConfFiles.gives c.args.folder.now (principal_of name) name c.loop-name.added.acl c.loop-name.files (Ok c.add_file.new.added.acl) c.add_file.new.files) c.bytes.ensures c.in_ok-add_file.ensures.reads) r t k);
  kept = c.in_ok-add_file.ensures.kept;
  counted = not_above (g.F.ConfFiles.faults c.args.files.now) (g.F.ConfFiles.faults c.loop-name.files) (g.F.ConfFiles.faults c.add_file.new.files) c.loop-name.invariant.counted c.add_file.ensures.counted;
}

pub returns-in_err-add_file-clause-reads : goal.returns-in_err-add_file-clause-reads
returns-in_err-add_file-clause-reads g c =
    let p = err_from_is_err_and c.from_residual.result c.from_residual.ensures.1 in
    rw (p.1, p.2) (c.loop-name.invariant.runs (Err c.in_err-add_file.field-0.0) c.add_file.new.files (names_end g.F.ConfFiles.gives c.args.folder.now c.args.names.now c.loop-name.name-index c.name-item.result c.loop-name.added.acl c.loop-name.files c.add_file.new.files c.in_err-add_file.field-0.0 c.loop-name-test.true c.name-item.is
    (subst (λ (name : List ℕ). ReadsNamed g.F.ConfFiles.gives c.args.folder.now (principal_of name) name c.loop-name.added.acl c.loop-name.files (Err c.in_err-add_file.field-0.0) c.add_file.new.files) c.bytes.ensures c.in_err-add_file.ensures.reads)))

pub returns-in_err-add_file-clause-cause : goal.returns-in_err-add_file-clause-cause
returns-in_err-add_file-clause-cause g c =
    let p = err_from_is_err_and c.from_residual.result c.from_residual.ensures.1 in
    rw (p.1, p.2) (λ e. rose_after (g.F.ConfFiles.faults c.args.files.now) (g.F.ConfFiles.faults c.loop-name.files) (g.F.ConfFiles.faults c.add_file.new.files) c.loop-name.invariant.counted c.add_file.ensures.counted (c.in_err-add_file.ensures.cause (ap (λ (why : NotStarted). Err why) (cause_of c.in_err-add_file.field-0.0 FilesFailed e))))

pub returns-in_err-add_file-clause-counted : goal.returns-in_err-add_file-clause-counted
returns-in_err-add_file-clause-counted g c = not_above (g.F.ConfFiles.faults c.args.files.now) (g.F.ConfFiles.faults c.loop-name.files) (g.F.ConfFiles.faults c.add_file.new.files) c.loop-name.invariant.counted c.add_file.ensures.counted

pub returns-in_err-add_file-clause-not_disk : goal.returns-in_err-add_file-clause-not_disk
returns-in_err-add_file-clause-not_disk g c =
    let p = err_from_is_err_and c.from_residual.result c.from_residual.ensures.1 in
    rw (p.1, p.2) (λ e. c.in_err-add_file.ensures.not_disk (ap (λ (why : NotStarted). Err why) (cause_of c.in_err-add_file.field-0.0 DiskFailed e)))

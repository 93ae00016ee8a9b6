-- The numbers are those of the journal that a replay writes.
use Rattle.std.proofs.Common.{◌≡◌, ℕ, ◌+◌, Bool, true, false, if◌then◌else◌, List, [], ◌∷◌, ◌++◌, Option, Some, None, refl, sym, ap, subst, ◌∙◌}
use Rattle.ug_lines.specs.Lines.{lines_of, whole_lines}
use Rattle.ug_lines.proofs.FirstLine.{nothing}
use Rattle.ug_kernel.specs.Kernel.{IsKernel}
use Rattle.ug_sysfs.specs.World.{World}
use Rattle.ug_command_io.specs.Fold.{BadLine, LineRefusal, LineOutcome, Writes, Refused, Stage, Going, Halted, advance, fault_line, fault_of, is_within, no_memory, plays, read_fault, stage_after, whole_text}
use Rattle.ug_command_io.specs.Refusals.{HoldsAt, HoldsOfEach}
use Rattle.ug_command_io.specs.Statuses.{AnswersLines}
use Rattle.ug_script.specs.Script.{Script}
use Rattle.ug_script.specs.Replay.{script_step}
use Rattle.ug_script.specs.declared.totals.Totals.{Totals}
use Rattle.ug_script.specs.Summing.{Summary, counted, no_totals, TellsSummary, summary_end, summary_line, summary_step, totals_of, with_lines}
use Rattle.ug_script.specs.CarriedOn.{CarriesThrough}
use Rattle.ug_script.specs.LinesRead.{LineReads}
use Rattle.ug_script.proofs.Carrying.{stays_carried}
use Rattle.ug_script.proofs.Counted.{totals_behind}
use Rattle.ug_script.proofs.WholeLines.{IsWhole, WritesWhole, both_whole, none_whole, step_whole}

-- the numbers stand in the place of the journal
abbrev pub summed : Stage (Option Script × World) → Stage (Summary × World)
summed (Going n text p) = Going n [] ((p.0, totals_of text), p.1)
summed (Halted fault n text p) = Halted fault n [] ((p.0, totals_of text), p.1)

-- wherever the lines of a script lead, they are those of the journal that a replay would have written
abbrev pub SumsUp : World → Type 0
SumsUp first = (lines : List (List ℕ))
    → plays summary_step (Going 0 [] ((None, no_totals), first)) lines ≡ summed (plays script_step (Going 0 [] (None, first)) lines)

abbrev AtWhole : {M : Type 0} → Stage M → Type 0
AtWhole (Going n text p) = IsWhole text
AtWhole (Halted fault n text p) = IsWhole text

after_sums : (n : ℕ) (text : List ℕ) (outcome : LineOutcome (Option Script × World)) → IsWhole text → WritesWhole outcome
    → (stage_after n [] (counted (totals_of text) outcome) ≡ summed (stage_after n text outcome)) × AtWhole (stage_after n text outcome)
after_sums n text (Writes more p) whole w = (ap (λ (t : Totals). Going (n + 1) [] ((p.0, t), p.1)) (totals_behind text more whole), both_whole text more whole w)
after_sums n text (Refused fault p) whole w = (refl, whole)

if_sums : (b : Bool) (n : ℕ) (text line : List ℕ) (p : Option Script × World) → IsWhole text
    → ((if b then stage_after n [] (counted (totals_of text) (script_step p line)) else Halted BadLine n [] ((p.0, totals_of text), p.1)) ≡ summed (if b then stage_after n text (script_step p line) else Halted BadLine n text p))
    × AtWhole (if b then stage_after n text (script_step p line) else Halted BadLine n text p)
if_sums true n text line p whole = after_sums n text (script_step p line) whole (step_whole p line)
if_sums false n text line p whole = (refl, whole)

one_sums : (stage : Stage (Option Script × World)) (line : List ℕ) → AtWhole stage → (advance summary_step (summed stage) line ≡ summed (advance script_step stage line)) × AtWhole (advance script_step stage line)
one_sums (Going n text p) line whole = if_sums (is_within n line) n text line p whole
one_sums (Halted fault n text p) line whole = (refl, whole)

all_sum : (stage : Stage (Option Script × World)) (lines : List (List ℕ)) → AtWhole stage → plays summary_step (summed stage) lines ≡ summed (plays script_step stage lines)
all_sum stage [] whole = refl
all_sum stage (line ∷ lines) whole =
    let one = one_sums stage line whole in
    ap (λ (next : Stage (Summary × World)). plays summary_step next lines) one.0 ∙ all_sum (advance script_step stage line) lines one.1

no_lines : totals_of [] ≡ no_totals
no_lines = ap (λ (lines : List (List ℕ)). with_lines lines no_totals) (nothing [] refl)

pub sums_up : (first : World) → SumsUp first
sums_up first lines =
    ap (λ (t : Totals). plays summary_step (Going 0 [] ((None, t), first)) lines) (sym no_lines)
    ∙ all_sum (Going 0 [] (None, first)) lines none_whole

-- ---- what is written

abbrev IsSilent : Stage (Summary × World) → Type 0
IsSilent (Going n text p) = text ≡ []
IsSilent (Halted fault n text p) = text ≡ []

silent_in : (stage : Stage (Option Script × World)) → IsSilent (summed stage)
silent_in (Going n text p) = refl
silent_in (Halted fault n text p) = refl

silent_text : (first : World) (lines : List (List ℕ)) (n : ℕ) (text : List ℕ) (p : Summary × World) → plays summary_step (Going 0 [] ((None, no_totals), first)) lines ≡ Going n text p → text ≡ []
silent_text first lines n text p e = subst IsSilent (sym (sums_up first lines) ∙ e) (silent_in (plays script_step (Going 0 [] (None, first)) lines))

-- the numbers stand where each line was good
abbrev Done : Stage (Option Script × World) → List ℕ → Type 0
Done stage text = (n : ℕ) × (journal : List ℕ) × (s : Script) × (w : World) × (stage ≡ Going n journal (Some s, w)) × (text ≡ summary_line (totals_of journal))

done_at : (stage : Stage (Option Script × World)) → fault_of summary_end (summed stage) ≡ None → Done stage (whole_text summary_end (summed stage))
done_at (Going n journal (Some s, w)) good = (n, journal, s, w, refl, refl)
done_at (Going n journal (None, w)) good = let none : ⊥ = cc in absurd none
done_at (Halted fault n journal p) good = let none : ⊥ = cc in absurd none

bad_at : (stage : Stage (Option Script × World)) (fault : LineRefusal) → fault_of summary_end (summed stage) ≡ Some fault → (why : LineRefusal) × (n : ℕ) × (whole_text summary_end (summed stage) ≡ fault_line why n)
bad_at (Going n journal (Some s, w)) fault e = let none : ⊥ = cc in absurd none
bad_at (Going n journal (None, w)) fault e = (BadLine, n, refl)
bad_at (Halted why n journal p) fault e = (why, n, refl)

pub summary_told : (first : World) (all base : List ℕ) (left held : Option (List ℕ)) (p : Summary × World) (status : ℕ)
    → AnswersLines summary_step summary_end ((None, no_totals), first) all base left held p status → TellsSummary first all base held status
summary_told first all base left held p status a =
    let sums = sums_up first (lines_of all) in
    let stage : Stage (Option Script × World) = plays script_step (Going 0 [] (None, first)) (lines_of all) in
    record {
      done = λ e.
          let k = a.done e in
          let d = done_at stage (subst (λ (x : Stage (Summary × World)). fault_of summary_end x ≡ None) sums k.1) in
          (d.0, d.1, d.2, d.3, d.4, k.2 ∙ ap (λ (x : Stage (Summary × World)). Some (base ++ whole_text summary_end x)) sums ∙ ap (λ (bytes : List ℕ). Some (base ++ bytes)) d.5);
      bad = λ e.
          let k = a.bad e in
          let b = bad_at stage k.0 (subst (λ (x : Stage (Summary × World)). fault_of summary_end x ≡ Some k.0) sums k.1) in
          (b.0, b.1, k.2 ∙ ap (λ (x : Stage (Summary × World)). Some (base ++ whole_text summary_end x)) sums ∙ ap (λ (bytes : List ℕ). Some (base ++ bytes)) b.2);
      read = λ e.
          let k = a.read e in
          k.7 ∙ ap (λ (bytes : List ℕ). Some (base ++ (bytes ++ read_fault))) (silent_text first (whole_lines k.0) k.2 k.3 p k.6);
      memory = λ e.
          let k = a.memory e in
          k.3 ∙ ap (λ (bytes : List ℕ). Some (base ++ (bytes ++ no_memory))) (silent_text first k.2.lines k.2.count k.0 k.1 k.2.played);
    }

-- ---- how the runs carry on one another

abbrev SumReads : Summary × World → List ℕ → Type 0
SumReads p line = LineReads (p.0.0, p.1) line

reads_unsummed : (stage : Stage (Option Script × World)) (lines : List (List ℕ)) → AtWhole stage → HoldsOfEach summary_step SumReads (summed stage) lines → HoldsOfEach script_step LineReads stage lines
reads_unsummed stage [] whole h = tt
reads_unsummed stage (line ∷ lines) whole h =
    let one = one_sums stage line whole in
    (at stage h.0, reads_unsummed (advance script_step stage line) lines one.1 (subst (λ (next : Stage (Summary × World)). HoldsOfEach summary_step SumReads next lines) one.0 h.1))
  where
    at : (x : Stage (Option Script × World)) → HoldsAt SumReads (summed x) line → HoldsAt LineReads x line
    at (Going n text p) k = k
    at (Halted fault n text p) k = tt

pub summary_carries : (first : World) → first.ran_out ≡ false → IsKernel first.kernel → (lines : List (List ℕ)) → fault_of summary_end (plays summary_step (Going 0 [] ((None, no_totals), first)) lines) ≡ None → HoldsOfEach summary_step SumReads (Going 0 [] ((None, no_totals), first)) lines → CarriesThrough first lines
summary_carries first run sound lines done each =
    let d = done_at (plays script_step (Going 0 [] (None, first)) lines) (subst (λ (x : Stage (Summary × World)). fault_of summary_end x ≡ None) (sums_up first lines) done) in
    let reads = reads_unsummed (Going 0 [] (None, first)) lines none_whole (subst (λ (t : Totals). HoldsOfEach summary_step SumReads (Going 0 [] ((None, t), first)) lines) (sym no_lines) each) in
    stays_carried first run sound lines d.0 d.1 d.2 d.3 d.4 reads

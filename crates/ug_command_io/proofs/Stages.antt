-- Stages over lines that come in parts.
use Rattle.std.proofs.Common.{◌≡◌, ℕ, ◌<◌, ◌≤◌, List, [], ◌∷◌, ◌++◌, length, Bool, true, false, if◌then◌else◌, refl, ap, ◌∙◌, arith}
use Rattle.std.proofs.lemmas.List.Sums.{fold-append}
use Rattle.ug_lines.specs.Lines.{lines_from}
use Rattle.ug_command_io.specs.Fold.{LineRefusal, BadLine, LineOutcome, Stage, Going, Halted, advance, plays, stage_after, is_within}
use Rattle.ug_lines.proofs.Lines.{Begins}
use Rattle.std.proofs.lemmas.Bool.Decides.{nat_tests}

pub plays-append : {M : Type 0} (step : M → List ℕ → LineOutcome M) (s : Stage M) (xs ys : List (List ℕ)) → plays step s (xs ++ ys) ≡ plays step (plays step s xs) ys
plays-append step s xs ys = fold-append (advance step) s xs ys

pub plays-halted : {M : Type 0} (step : M → List ℕ → LineOutcome M) (f : LineRefusal) (n : ℕ) (text : List ℕ) (m : M) (xs : List (List ℕ)) → plays step (Halted f n text m) xs ≡ Halted f n text m
plays-halted step f n text m [] = refl
plays-halted step f n text m (x ∷ xs) = plays-halted step f n text m xs

-- the limits
pub within : (n : ℕ) (line : List ℕ) → n < 1048576 → length line ≤ 1048576 → is_within n line ≡ true
within n line h k = grind (arith, nat_tests)

pub past_count : (n : ℕ) (line : List ℕ) → 1048576 ≤ n → is_within n line ≡ false
past_count n line h = grind (arith, nat_tests)

pub past_length : (n : ℕ) (line : List ℕ) → 1048576 < length line → is_within n line ≡ false
past_length n line h = grind (arith, nat_tests)

-- one line that is within them
pub plays-one : {M : Type 0} (step : M → List ℕ → LineOutcome M) (n : ℕ) (text : List ℕ) (m : M) (line : List ℕ) (o : LineOutcome M) (xs : List (List ℕ)) → is_within n line ≡ true → step m line ≡ o → plays step (Going n text m) (line ∷ xs) ≡ plays step (stage_after n text o) xs
plays-one {M} step n text m line o xs w e =
    ap (λ (v : Bool). plays step (if v then stage_after n text (step m line) else Halted BadLine n text m) xs) w ∙ ap (λ (q : LineOutcome M). plays step (stage_after n text q) xs) e

-- a line past them
pub plays-past : {M : Type 0} (step : M → List ℕ → LineOutcome M) (n : ℕ) (text : List ℕ) (m : M) (line bytes : List ℕ) (r : Begins line bytes) → is_within n r.first ≡ false → plays step (Going n text m) (lines_from line bytes) ≡ Halted BadLine n text m
plays-past step n text m line bytes r w =
    ap (λ (ls : List (List ℕ)). plays step (Going n text m) ls) r.lines
    ∙ (ap (λ (v : Bool). plays step (if v then stage_after n text (step m r.first) else Halted BadLine n text m) r.others) w ∙ plays-halted step BadLine n text m r.others)

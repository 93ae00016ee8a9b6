-- What a line came to, and what becomes of it once its text is written or counted.
use Rattle.std.proofs.Common.{◌≡◌, ◌⊎◌, ℕ, List, [], ◌++◌, Option, Some, None, inl, inr, refl, ap, subst, sym, ◌∙◌, append-nil}
use Rattle.ug_command_io.specs.Fold.{LineOutcome, Writes, Refused}
use Rattle.ug_command_io.specs.Runs.{Closes, Steps}
use Rattle.ug_command_io.specs.declared.machine.Ran.{Ran}
use Rattle.ug_command_io.specs.declared.machine.Ran.TheVariants.{Done, Bad, TooLong, SinkFailed, Memory}
use Rattle.ug_lines.specs.Lines.{lines_of}
use Rattle.ug_sysfs.specs.World.{World}
use Rattle.ug_script.specs.Replay.{EventOutcome}
use Rattle.ug_script.specs.Script.{Script}
use Rattle.ug_script.specs.Summing.{Summary, counted, with_lines}
use Rattle.ug_script.specs.Taking.{StepsToTell, silent}
use Rattle.ug_script.specs.declared.taken.Taken.{Taken}
use Rattle.ug_script.specs.declared.totals.Totals.{Totals}
use Rattle.ug_script.proofs.EventSteps.{memory_steps}

-- a line of which nothing is written
silent_so : {M : Type 0} (o : LineOutcome M) (new : M) (told : EventOutcome) (r : Ran) → Steps o new (Some []) (Some []) r → StepsToTell o new told (silent r)
silent_so o new told Done h = h
silent_so o new told Bad h = h
silent_so o new told TooLong h = h
silent_so o new told SinkFailed h = memory_steps o new (Some [])
silent_so o new told Memory h = h

pub silent_takes : {M : Type 0} (o : LineOutcome M) (new : M) (told : EventOutcome) (r : Ran) (t : Taken) → t ≡ silent r → Steps o new (Some []) (Some []) r → StepsToTell o new told t
silent_takes o new told r t is h = subst (λ (x : Taken). StepsToTell o new told x) (sym is) (silent_so o new told r h)

-- ---- the text is written

-- a text of a line that was good
pub text_written : {M : Type 0} (o : LineOutcome M) (new : M) (text : List ℕ) (before after : Option (List ℕ)) (r : Ran) → Steps o new (Some []) (Some text) Done → Closes (Some text) before after r → Steps o new before after r
text_written (Writes all next) new text before after r h c = by r (subst (λ (x : List ℕ). Closes (Some x) before after r) h.1 c)
  where
    by : (r : Ran) → Closes (Some all) before after r → Steps (Writes all next) new before after r
    by Done k = (h.0, k)
    by Bad k = k
    by TooLong k = k
    by SinkFailed k = (h.0, k)
    by Memory k = k
text_written (Refused fault next) new text before after r h c = absurd h

pub nothing_written : {M : Type 0} (o : LineOutcome M) (new : M) (held : Option (List ℕ)) → Steps o new (Some []) (Some []) Done → Steps o new held held Done
nothing_written (Writes text next) new None h = (h.0, tt)
nothing_written (Writes text next) new (Some bytes) h = (h.0, sym (append-nil bytes) ∙ ap (λ (x : List ℕ). bytes ++ x) h.1)
nothing_written (Refused fault next) new held h = absurd h

pub bad_written : {M : Type 0} (o : LineOutcome M) (new : M) (held : Option (List ℕ)) → Steps o new (Some []) (Some []) Bad → Steps o new held held Bad
bad_written (Writes text next) new held h = absurd h
bad_written (Refused fault next) new None h = (h.0, h.1, tt)
bad_written (Refused fault next) new (Some bytes) h = (h.0, h.1, refl)

pub long_written : {M : Type 0} (o : LineOutcome M) (new : M) (held : Option (List ℕ)) → Steps o new (Some []) (Some []) TooLong → Steps o new held held TooLong
long_written (Writes text next) new held h = absurd h
long_written (Refused fault next) new None h = (h.0, h.1, tt)
long_written (Refused fault next) new (Some bytes) h = (h.0, h.1, refl)

-- ---- or it is counted

abbrev beside : Totals → Option Script × World → Summary × World
beside t p = ((p.0, t), p.1)

text_added : (t u : Totals) (o : LineOutcome (Option Script × World)) (new : Option Script × World) (text : List ℕ) (held : Option (List ℕ)) → u ≡ with_lines (lines_of text) t → Steps o new (Some []) (Some text) Done → Steps (counted t o) (beside u new) held held Done
text_added t u (Writes all next) new text held is h =
    nothing_written (counted t (Writes all next)) (beside u new) held
    (ap (beside u) h.0 ∙ ap (λ (x : Totals). beside x next) (is ∙ ap (λ (x : List ℕ). with_lines (lines_of x) t) h.1), refl)
text_added t u (Refused fault next) new text held is h = absurd h

pub text_counted : (t u : Totals) (o : LineOutcome (Option Script × World)) (new : Option Script × World) (s : Option Script) (text : List ℕ) (held : Option (List ℕ)) (r : Ran) → (r ≡ Done) ⊎ (r ≡ Memory) → s ≡ new.0 → (r ≡ Done → u ≡ with_lines (lines_of text) t) → Steps o new (Some []) (Some text) Done → Steps (counted t o) ((s, u), new.1) held held r
text_counted t u o new s text held r (inl done) same is h =
    subst (λ (x : Ran). Steps (counted t o) ((s, u), new.1) held held x) (sym done)
    (subst (λ (x : Option Script). Steps (counted t o) ((x, u), new.1) held held Done) (sym same) (text_added t u o new text held (is done) h))
text_counted t u o new s text held r (inr memory) same is h =
    subst (λ (x : Ran). Steps (counted t o) ((s, u), new.1) held held x) (sym memory) (memory_steps (counted t o) ((s, u), new.1) held)

pub bad_counted : (t : Totals) (o : LineOutcome (Option Script × World)) (new : Option Script × World) (held : Option (List ℕ)) → Steps o new (Some []) (Some []) Bad → Steps (counted t o) (beside t new) held held Bad
bad_counted t (Writes text next) new held h = absurd h
bad_counted t (Refused fault next) new held h = bad_written (Refused fault (beside t next)) (beside t new) held (h.0, ap (beside t) h.1, refl)

pub long_counted : (t : Totals) (o : LineOutcome (Option Script × World)) (new : Option Script × World) (held : Option (List ℕ)) → Steps o new (Some []) (Some []) TooLong → Steps (counted t o) (beside t new) held held TooLong
long_counted t (Writes text next) new held h = absurd h
long_counted t (Refused fault next) new held h = long_written (Refused fault (beside t next)) (beside t new) held (h.0, ap (beside t) h.1, refl)

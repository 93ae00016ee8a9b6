-- The events of a generated script, one after another.
use Rattle.std.proofs.Common.{◌≡◌, ℕ, suc, ◌+◌, ◌-◌, ◌<◌, List, ◌++◌, Option, sym, ap, subst, ◌∙◌, arith}
use Rattle.std.specs.Io.KnownBytes.{Appends}
use Rattle.ug_types.specs.Ends.{Puts}
use Rattle.ug_types.specs.declared.sink.Put.TheVariants.{Failed}
use Rattle.ug_commands.specs.GeneratedScripts.{event_text, generated_events, line_before, number_at, number_behind, sweep_line}
use Rattle.ug_commands.proofs.Puts.{Leads, cut-text, leads-text}

pub next_number : (start event : ℕ) → number_at start (event + 1) ≡ number_behind (number_at start event)
next_number start event = let one : event + 1 ≡ suc event = omega arith in ap (number_at start) one

more_events : (start event events : ℕ) → event < events → generated_events start event (events - event) ≡ event_text start (event + 1) ++ generated_events start (event + 1) (events - (event + 1))
more_events start event events lt =
    let one : suc event ≡ event + 1 = omega arith in
    let left : events - event ≡ suc (events - (event + 1)) = omega (arith, lt) in
    ap (generated_events start event) left ∙ ap (λ (k : ℕ). event_text start k ++ generated_events start k (events - (event + 1))) one

-- the text of an event by the number that the loop has
same_event : (start event number : ℕ) → number ≡ number_at start event → line_before (number_behind number) ++ sweep_line (event + 1) ≡ event_text start (event + 1)
same_event start event number e = ap (λ (k : ℕ). line_before k ++ sweep_line (event + 1)) (ap number_behind e ∙ sym (next_number start event))

module _ (h0 h1 h2 : Option (List ℕ)) (whole : List ℕ) (start event events number : ℕ) where
  -- one more event, whole or cut
  pub event_put : event < events → number ≡ number_at start event → Leads h0 h1 (generated_events start event (events - event)) whole
      → Appends h1 h2 (line_before (number_behind number) ++ sweep_line (event + 1)) → Leads h0 h2 (generated_events start (event + 1) (events - (event + 1))) whole
  event_put lt e l k = leads-text h0 h1 h2 (event_text start (event + 1)) (generated_events start (event + 1) (events - (event + 1))) whole
      (subst (λ (t : List ℕ). Leads h0 h1 t whole) (more_events start event events lt) l)
      (subst (λ (t : List ℕ). Appends h1 h2 t) (same_event start event number e) k)

  pub event_cut : event < events → number ≡ number_at start event → Leads h0 h1 (generated_events start event (events - event)) whole
      → Puts h1 h2 (line_before (number_behind number) ++ sweep_line (event + 1)) Failed → Puts h0 h2 whole Failed
  event_cut lt e l p = cut-text h0 h1 h2 (event_text start (event + 1)) (generated_events start (event + 1) (events - (event + 1))) whole
      (subst (λ (t : List ℕ). Leads h0 h1 t whole) (more_events start event events lt) l)
      (subst (λ (t : List ℕ). Puts h1 h2 t Failed) (same_event start event number e) p)

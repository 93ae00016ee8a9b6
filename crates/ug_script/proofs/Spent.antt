-- What a sweep takes of the numbers: how many device numbers it gives out, how many calls it makes, and that no rule gets an id.
use Rattle.std.proofs.Common.{◌≡◌, ℕ, ◌+◌, ◌*◌, ◌≤◌, Bool, is_none, List, [], ◌∷◌, length, Option, Some, None, refl, ◌∙◌, ap, arith, true}
use Rattle.std.proofs.lemmas.List.{length-map}
use Rattle.ug_types.specs.Names.{parent_of}
use Rattle.ug_types.specs.Sweep.{in_sweep_order}
use Rattle.ug_types.specs.declared.record.DeviceRecord.{DeviceRecord}
use Rattle.ug_types.specs.declared.record.Judged.{Judged}
use Rattle.ug_types.specs.declared.record.Judged.TheVariants as judged
use Rattle.ug_kernel.specs.declared.control.Held.{Held}
use Rattle.ug_types.proofs.Sorting.{length-sweep_order}
use Rattle.ug_kernel.specs.Calls.{Call, Names, Open, Read, Ask_alive, Put, Close, Answer}
use Rattle.ug_kernel.specs.Along.{Made, count_calls}
use Rattle.ug_kernel.proofs.Ways.{Ways, ways_more}
use Rattle.ug_kernel.specs.declared.identity.Bound.{Bound}
use Rattle.ug_kernel.proofs.BindShapes.{count_more}
use Rattle.ug_audit.specs.declared.entry.Entry.{Entry}
use Rattle.ug_table.specs.Allowed.{allowed_records}
use Rattle.ug_table.specs.Parent.{judged_bound}
use Rattle.ug_table.specs.State.{State, Terms, terms_for}
use Rattle.ug_table.specs.Sweep.{names_of, settling_all, sweeping}
use Rattle.ug_table.specs.Parts.{AreClosings, unlisted_files, count_listed}
use Rattle.ug_table.specs.declared.standing.Standing.{Standing}
use Rattle.ug_table.proofs.Shapes.{judge_after}
use Rattle.ug_table.proofs.OnePart.{flat_few}
use Rattle.ug_table.proofs.Chains.{Chain, Over, First, Goes, Linked, Listed, Unlisted, Comes, settling_chain, sweeping_by}
use Rattle.ug_table.proofs.Faults.{chain_next, chain_given, chain_none}
use Rattle.ug_core.specs.Due.{standings_due}
use Rattle.ug_core.specs.Event.{most_standings, settling_due}
use Rattle.ug_types.specs.Events.{longest_piece}
use Rattle.ug_core.specs.Policy.{Judging, later_of, policy_answer, policy_later}

-- a verdict gives no rule an id

later_id : (p : Judging) (records : List DeviceRecord) (dev : Judged) (controller was : Bool)
    → (later_of p records dev controller was).next ≡ p.next
later_id p records (judged.Malformed kind place) controller was = refl
later_id p records (judged.Good dev) controller was = refl

judged_id : (terms : Terms) (name : List ℕ) (w : State Judging)
    (o : Option (List Standing × Bound))
    → (judge_after policy_later terms name w o).next ≡ w.judge.next
judged_id terms name w None = refl
judged_id terms name w (Some x) =
    let dev = judged_bound name x.0 x.1 in
    later_id w.judge (allowed_records x.0) dev (is_none (parent_of name)) terms.present

chain_id : {binds : Bool} {terms : Terms} {names : List (List ℕ)} {w v : State Judging} {ok : Bool}
    {ms : List Made} {es : List Entry}
    → Chain policy_answer policy_later binds terms names w ok ms es v
    → v.judge.next ≡ w.judge.next
chain_id (Over w) = refl
chain_id {terms = terms} (First name names how w x v ok more ms ns es p c) =
    chain_id c ∙ ap (λ (j : Judging). j.next) p.judge ∙ judged_id terms name w p.judged

-- calls

chain_calls : {binds : Bool} {terms : Terms} {names : List (List ℕ)} {w v : State Judging} {ok : Bool}
    {ms : List Made} {es : List Entry}
    → Chain policy_answer policy_later binds terms names w ok ms es v
    → count_calls ms ≤ 17 * length names
chain_calls (Over w) = omega arith
chain_calls (First name names how w x v ok more ms ns es p c) =
    let few = flat_few p.flat in
    let rest = chain_calls c in
    let sum = count_more ms ns in
    omega (arith, few, rest, sum)

closings_uncounted : (files : List Held) (ms : List Made) → AreClosings files ms
    → count_calls ms ≡ 0
closings_uncounted [] ms h = ap count_calls h
closings_uncounted (file ∷ files) ms h =
    let same = ap count_calls h.2 in
    let none = closings_uncounted files h.1 h.3 in
    omega (arith, same, none)

abbrev named_in : (call : Call) → Answer call → ℕ
named_in Names answer = count_listed answer.answer
named_in (Open name control) answer = 0
named_in (Read name attr) answer = 0
named_in (Ask_alive held) answer = 0
named_in (Put held write) answer = 0
named_in (Close held) answer = 0

-- how many names the first of these calls listed
abbrev pub found : List Made → ℕ
found [] = 0
found (m ∷ ms) = named_in m.call m.answer

goes_calls : {w v : State Judging} {ok : Bool} {ms : List Made} {es : List Entry}
    → Goes policy_answer policy_later w ok ms es v
    → count_calls ms ≤ 1 + (17 * found ms + 17 * length w.standings)
goes_calls {w = w} (Listed names failed ok shut made es v closings c) =
    let few = chain_calls c in
    let same = length-sweep_order names in
    let none = closings_uncounted (unlisted_files (in_sweep_order names) w.standings) shut closings
    in
    let sum = count_more shut made in
    omega (arith, few, same, none, sum)
goes_calls {w = w} (Unlisted list failed room why ok made es v by c) =
    let few = chain_calls c in
    let same : length (names_of w.standings) ≡ length w.standings =
    length-map w.standings (λ (s : Standing). s.name) in
    omega (arith, few, same)

goes_id : {w v : State Judging} {ok : Bool} {ms : List Made} {es : List Entry}
    → Goes policy_answer policy_later w ok ms es v → v.judge.next ≡ w.judge.next
goes_id (Listed names failed ok shut made es v closings c) = chain_id c
goes_id (Unlisted list failed room why ok made es v by c) = chain_id c

-- numbers

goes_next : {w v : State Judging} {ok : Bool} {ms : List Made} {es : List Entry}
    → Goes policy_answer policy_later w ok ms es v → v.next ≤ w.next + found ms
goes_next (Listed names failed ok shut made es v closings c) =
    let next = chain_next c in
    let given = chain_given c in
    let same = length-sweep_order names in
    omega (arith, next, given, same)
goes_next (Unlisted list failed room why ok made es v by c) =
    let next = chain_next c in
    let none = chain_none c in
    omega (arith, next, none)

-- from one state to another no more numbers are given out and no more calls are made, and the next rule's id stays
pub record Spends (numbers calls : ℕ) (w : State Judging) (ms : List Made) (v : State Judging) : Type 0 where
  pub next : v.next ≤ w.next + numbers
  pub made : count_calls ms ≤ calls
  pub id : v.judge.next ≡ w.judge.next

sweeping_spends : (w : State Judging)
    → Ways (sweeping policy_answer policy_later w)
    (λ ok ms v. Spends (found ms) (1 + (17 * found ms + 17 * length w.standings)) w ms v)
sweeping_spends w =
    ways_more (Comes policy_answer policy_later w)
    (λ ok ms v. Spends (found ms) (1 + (17 * found ms + 17 * length w.standings)) w ms v)
    (sweeping policy_answer policy_later w)
    (λ ok ms v x. record { next = goes_next x.1; made = goes_calls x.1; id = goes_id x.1 })
    (sweeping_by policy_answer policy_later w)

names_spends : (names : List (List ℕ)) (terms : Terms) (w : State Judging)
    → Ways (settling_all policy_answer policy_later names terms w)
    (λ ok ms v. Spends (length names) (17 * length names) w ms v)
names_spends names terms w =
    ways_more (Linked policy_answer policy_later true terms names w)
    (λ ok ms v. Spends (length names) (17 * length names) w ms v)
    (settling_all policy_answer policy_later names terms w)
    (λ ok ms v x.
    let next = chain_next x.1 in
    let given = chain_given x.1 in
    record { next = omega (arith, next, given); made = chain_calls x.1; id = chain_id x.1 })
    (settling_chain policy_answer policy_later names terms w)

-- of a last stage, where names may be due

abbrev pub numbers_due : Option (List (List ℕ)) → List Made → ℕ
numbers_due None ms = found ms
numbers_due (Some names) ms = length names

abbrev pub calls_due : Option (List (List ℕ)) → List Made → State Judging → ℕ
calls_due None ms w = 1 + (17 * found ms + 17 * length w.standings)
calls_due (Some names) ms w = 17 * length names

abbrev pub SpendsDue : Option (List (List ℕ)) → State Judging → Bool → List Made → State Judging → Type 0
SpendsDue due w ok ms v = Spends (numbers_due due ms) (calls_due due ms w) w ms v

pub due_spends : (due : Option (List (List ℕ))) (w : State Judging) → Ways (settling_due due w) (SpendsDue due w)
due_spends None w = sweeping_spends w
due_spends (Some names) w = names_spends names (terms_for w) w

-- they are few where there are few names and few standings
pub due_low : (due : Option (List (List ℕ))) (ms : List Made) (w : State Judging) → standings_due due ≤ longest_piece → found ms ≤ 65536 → length w.standings ≤ most_standings → (numbers_due due ms ≤ longest_piece) × (calls_due due ms w ≤ 36765697)
due_low None ms w few listed stands = (omega (arith, listed), omega (arith, listed, stands))
due_low (Some names) ms w few listed stands = (few, omega (arith, few))

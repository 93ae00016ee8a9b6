-- The pass goes over the standings by number, and its text grows by that of each.
use Rattle.std.proofs.Common.{◌≡◌, ℕ, ◌<◌, ◌≤◌, nat_lt, Bool, true, false, cond, List, [], ◌∷◌, ◌++◌, flat_map, Some, None, refl, sym, ap, ◌∙◌, inl, inr, ◌⊎◌, arith, append_assoc, append-nil}
use Rattle.ug_types.specs.Elements.{Has, AllDistinct}
use Rattle.ug_table.specs.Laws.{numbers_of}
use Rattle.ug_table.specs.Order.{IsNextNumbered}
use Rattle.ug_table.specs.declared.standing.Standing.{Standing}
use Rattle.ug_core.specs.DeviceRows.{AreRising, by_number}
use Rattle.ug_core.proofs.RowOrder.{by_has, has_by, rising_by}
use Rattle.ug_sysfs.specs.World.{World}
use Rattle.ug_iface.specs.declared.rules.IfaceRule.{IfaceRule}
use Rattle.ug_iface.specs.declared.settle.IfaceEntry.{IfaceEntry}
use Rattle.ug_iface.specs.declared.settle.Passed.{Passed}
use Rattle.ug_iface.specs.Settle.{Aim, beginning, walking}
use Rattle.ug_iface.specs.Order.{in_iface_order}
use Rattle.ug_iface.specs.declared.settle.Begun.{Begun}
use Rattle.ug_iface.specs.declared.settle.Begun.TheVariants.{Walks, Ends}
use Rattle.ug_script.specs.PassLines.{told_text}
use Rattle.ug_script.specs.Passes.{DevicePass, IsPassedOver, aims_at, aims_in, device_pass, later_than, pass_over, pass_tells_memory, play_ifaces, walk_from}
use Rattle.ug_script.proofs.PassPlays.{IsDevicePlay, play_out}

-- ---- the standings

abbrev later_by : ℕ → Standing → List Standing → Bool → List Standing
later_by number x xs b = cond b (x ∷ later_than number xs) (later_than number xs)

later_high : (number : ℕ) (x : Standing) (xs : List Standing) → number < x.number → later_than number (x ∷ xs) ≡ x ∷ later_than number xs
later_high number x xs h = let e : nat_lt number x.number ≡ true = grind arith in ap (later_by number x xs) e

later_low : (number : ℕ) (x : Standing) (xs : List Standing) → x.number ≤ number → later_than number (x ∷ xs) ≡ later_than number xs
later_low number x xs h = let e : nat_lt number x.number ≡ false = grind arith in ap (later_by number x xs) e

all_later : (number : ℕ) (xs : List Standing) → ((t : Standing) → Has xs t → number < t.number) → later_than number xs ≡ xs
all_later number [] h = refl
all_later number (x ∷ xs) h = later_high number x xs (h x (inl refl)) ∙ ap (λ (l : List Standing). x ∷ l) (all_later number xs (λ t a. h t (inr a)))

none_later : (number : ℕ) (xs : List Standing) → ((t : Standing) → Has xs t → t.number ≤ number) → later_than number xs ≡ []
none_later number [] h = refl
none_later number (x ∷ xs) h = later_low number x xs (h x (inl refl)) ∙ none_later number xs (λ t a. h t (inr a))

low_by : (number x s : ℕ) (b : Bool) → nat_lt number x ≡ b → x < s → (number < x → s ≤ x) → x ≤ number
low_by number x s true e up least = let high : number < x = grind arith in let none : s ≤ x = least high in absurd (omega arith)
low_by number x s false e up least = grind arith

next_later : (number : ℕ) (s : Standing) (xs : List Standing) → AreRising xs → Has xs s → number < s.number → ((t : Standing) → Has xs t → number < t.number → s.number ≤ t.number) → later_than number xs ≡ s ∷ later_than s.number xs
next_later number s [] r a l h = absurd a
next_later number s (x ∷ xs) r (inl e) l h =
    let same : x.number ≡ s.number = ap (λ (v : Standing). v.number) e in
    later_high number x xs (omega arith)
    ∙ ap (λ (v : List Standing). x ∷ v) (all_later number xs (λ t b. let up : x.number < t.number = r.0 t b in omega arith))
    ∙ ap (λ (v : List Standing). x ∷ v) (sym (all_later s.number xs (λ t b. let up : x.number < t.number = r.0 t b in omega arith)))
    ∙ ap (λ (v : List Standing). x ∷ v) (sym (later_low s.number x xs (omega arith)))
    ∙ ap (λ (v : Standing). v ∷ later_than s.number (x ∷ xs)) e
next_later number s (x ∷ xs) r (inr a) l h =
    let up : x.number < s.number = r.0 s a in
    let low : x.number ≤ number = low_by number x.number s.number (nat_lt number x.number) refl up (h x (inl refl)) in
    later_low number x xs low
    ∙ next_later number s xs r.1 a l (λ t b. h t (inr b))
    ∙ ap (λ (v : List Standing). s ∷ v) (sym (later_low s.number x xs (omega arith)))

-- ---- the pass

-- a kernel that has run out stays so
walk_out : (aim : Aim) (p : Begun × World) → p.1.ran_out ≡ true → (walk_from aim p).world.ran_out ≡ true
walk_out aim (Ends end, w) e = e
walk_out aim (Walks names, w) e = play_out (walking aim (in_iface_order names) []) w e

pass_out : (aims : List Aim) (w : World) → w.ran_out ≡ true → (pass_over aims w).world.ran_out ≡ true
pass_out [] w e = e
pass_out (aim ∷ aims) w e = pass_out aims (device_pass aim w).world (walk_out aim (play_ifaces (beginning aim.device.via_port) w) (play_out (beginning aim.device.via_port) w e))

abbrev text_at : Aim → World → List ℕ
text_at aim w = told_text aim.device.via_port (device_pass aim w).entries (device_pass aim w).end

pass_text : (xs ys : List Aim) (w : World) → (pass_over (xs ++ ys) w).text ≡ (pass_over xs w).text ++ (pass_over ys (pass_over xs w).world).text
pass_text [] ys w = refl
pass_text (x ∷ xs) ys w = ap (λ (l : List ℕ). text_at x w ++ l) (pass_text xs ys (device_pass x w).world) ∙ sym (append_assoc (text_at x w) (pass_over xs (device_pass x w).world).text (pass_over ys (pass_over xs (device_pass x w).world).world).text)

pass_world : (xs ys : List Aim) (w : World) → (pass_over (xs ++ ys) w).world ≡ (pass_over ys (pass_over xs w).world).world
pass_world [] ys w = refl
pass_world (x ∷ xs) ys w = pass_world xs ys (device_pass x w).world

-- ---- the pass over one device

pub device_passed : (aim : Aim) (w : World) (end : Passed) (es : List IfaceEntry) (v : World) (text longer : List ℕ) → IsDevicePlay aim w end es v → pass_tells_memory end es ≡ false → longer ≡ text ++ told_text aim.device.via_port es end → IsPassedOver (aim ∷ []) w text v longer
device_passed aim w end es v text longer h sure is = elim h [
  | inl x ↦ inr (
    is ∙ ap (λ (p : DevicePass). text ++ told_text aim.device.via_port p.entries p.end) x ∙ ap (λ (l : List ℕ). text ++ l) (sym (append-nil (text_at aim w))),
    ap (λ (p : DevicePass). p.world) x,
  )
  | inr y ↦ elim y [
    | inl z ↦ (let none : ⊥ = cc in absurd none)
    | inr z ↦ inl z
  ]
]

-- ---- the walk

-- what is left to do makes up what is to be done, or the kernel has run out
abbrev pub Remains : List Aim → World → List ℕ → List Aim → World → List ℕ → Type 0
Remains aims w text rest v longer =
    (v.ran_out ≡ true)
    ⊎ ((text ++ (pass_over aims w).text ≡ longer ++ (pass_over rest v).text) × ((pass_over aims w).world ≡ (pass_over rest v).world))

abbrev pub left_at : List IfaceRule → ℕ → List Standing → List Aim
left_at rules number ss = flat_map (aims_at rules) (later_than number (by_number ss))

remains_more : (aims first rest both : List Aim) (w v u : World) (text longer longest : List ℕ) → both ≡ first ++ rest → Remains aims w text both v longer → IsPassedOver first v longer u longest → Remains aims w text rest u longest
remains_more aims first rest both w v u text longer longest is h k = by h k
  where
    by : Remains aims w text both v longer → IsPassedOver first v longer u longest → Remains aims w text rest u longest
    by h (inl out) = inl out
    by (inl out) (inr y) = inl (ap (λ (x : World). x.ran_out) y.1 ∙ pass_out first v out)
    by (inr x) (inr y) =
        let here : World = (pass_over first v).world in
        inr (
          x.0
              ∙ ap (λ (l : List Aim). longer ++ (pass_over l v).text) is
              ∙ ap (λ (l : List ℕ). longer ++ l) (pass_text first rest v)
              ∙ sym (append_assoc longer (pass_over first v).text (pass_over rest here).text)
              ∙ ap (λ (l : List ℕ). l ++ (pass_over rest here).text) (sym y.0)
              ∙ ap (λ (x : World). longest ++ (pass_over rest x).text) (sym y.1),
          x.1
              ∙ ap (λ (l : List Aim). (pass_over l v).world) is
              ∙ pass_world first rest v
              ∙ ap (λ (x : World). (pass_over rest x).world) (sym y.1),
        )

pub walk_more : (rules : List IfaceRule) (ss : List Standing) (number : ℕ) (s : Standing) (w v u : World) (text longer longest : List ℕ) → AllDistinct (numbers_of ss) → IsNextNumbered ss number (Some s) → Remains (aims_in rules ss) w text (left_at rules number ss) v longer → IsPassedOver (aims_at rules s) v longer u longest → Remains (aims_in rules ss) w text (left_at rules s.number ss) u longest
walk_more rules ss number s w v u text longer longest d next h k =
    remains_more (aims_in rules ss) (aims_at rules s) (left_at rules s.number ss) (left_at rules number ss) w v u text longer longest
    (ap (flat_map (aims_at rules)) (next_later number s (by_number ss) (rising_by ss d) (has_by ss s next.0) next.1 (λ t a l. next.2 t (by_has ss t a) l)))
    h k

pub walk_all : (rules : List IfaceRule) (ss : List Standing) (number : ℕ) (w v : World) (text longer : List ℕ) → IsNextNumbered ss number None → Remains (aims_in rules ss) w text (left_at rules number ss) v longer → IsPassedOver (aims_in rules ss) w text v longer
walk_all rules ss number w v text longer none h = by h
  where
    over : left_at rules number ss ≡ []
    over = ap (flat_map (aims_at rules)) (none_later number (by_number ss) (λ t a. none t (by_has ss t a)))

    by : Remains (aims_in rules ss) w text (left_at rules number ss) v longer → IsPassedOver (aims_in rules ss) w text v longer
    by (inl out) = inl out
    by (inr x) = inr (
      sym (append-nil longer) ∙ sym (ap (λ (l : List Aim). longer ++ (pass_over l v).text) over) ∙ sym x.0,
      sym (ap (λ (l : List Aim). (pass_over l v).world) over) ∙ sym x.1,
    )

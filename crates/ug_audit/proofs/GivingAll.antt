-- A line that is given to one auditor, and then to those behind it.
use Rattle.std.proofs.Common.{◌≡◌, ℕ, ◌+◌, ◌*◌, Bool, true, false, cond, List, [], ◌∷◌, ◌++◌, Option, length, ◌<◌, ◌≤◌, ◌^◌, pow-suc, pow_mono, lt_of_lt_of_le, suc, refl, sym, ap, ◌∙◌, append-nil, append_assoc, arith}
use mir.Val.{bool_byte}
use Rattle.ug_audit.specs.Panels.{Member, NotesAll, TakesAs, dropped_between, is_newly, live_of, members_of, newly, newly_dropped, one_live}

abbrev member : {A : Type 0} → (A → Option (List ℕ)) → (A → ℕ) → A → Bool → Member
member text faults a mark = record { text = text a; faults = faults a; dropped = mark }

pub each_more : {A : Type 0} (text : A → Option (List ℕ)) (faults : A → ℕ) (line : List ℕ) (auditors later later_new : List A) (marks behind behind_new : List Bool) (a b : A) (mark mark_new : Bool) → auditors ≡ a ∷ later → marks ≡ mark ∷ behind
    → TakesAs mark mark_new line (member text faults a mark) (member text faults b mark_new) → NotesAll line (members_of text faults later behind) (members_of text faults later_new behind_new)
    → NotesAll line (members_of text faults auditors marks) (members_of text faults (b ∷ later_new) (mark_new ∷ behind_new))
each_more text faults line auditors later later_new marks behind behind_new a b mark mark_new e f h k = rw (e, f) (h, k)

byte_newly : (a b : Bool) → bool_byte (is_newly a b) ≡ newly a b
byte_newly true true = refl
byte_newly true false = refl
byte_newly false true = refl
byte_newly false false = refl

newly_one : (a b : Bool) → is_newly a b ≡ true → newly a b ≡ 1
newly_one a b h = sym (byte_newly a b) ∙ ap bool_byte h

newly_none : (a b : Bool) → is_newly a b ≡ false → newly a b ≡ 0
newly_none a b h = sym (byte_newly a b) ∙ ap bool_byte h

pub set_more : {A : Type 0} (text : A → Option (List ℕ)) (faults : A → ℕ) (auditors later later_new : List A) (marks behind behind_new : List Bool) (a b : A) (mark mark_new failed : Bool) (set : ℕ) → auditors ≡ a ∷ later → marks ≡ mark ∷ behind
    → failed ≡ is_newly mark mark_new → set ≡ dropped_between (members_of text faults later behind) (members_of text faults later_new behind_new)
    → bool_byte failed + 2 * set ≡ dropped_between (members_of text faults auditors marks) (members_of text faults (b ∷ later_new) (mark_new ∷ behind_new))
set_more text faults auditors later later_new marks behind behind_new a b mark mark_new failed set e f h k =
    rw (e, f) (ap (λ (v : Bool). bool_byte v + 2 * set) h ∙ ap (λ (n : ℕ). n + 2 * set) (byte_newly mark mark_new) ∙ ap (λ (n : ℕ). newly mark mark_new + 2 * n) k)

pub due_then : {A : Type 0} (text : A → Option (List ℕ)) (faults : A → ℕ) (first : ℕ) (auditors later later_new : List A) (marks behind behind_new : List Bool) (a b : A) (mark mark_new : Bool) (before between after : List ℕ) → auditors ≡ a ∷ later → marks ≡ mark ∷ behind
    → is_newly mark mark_new ≡ true → between ≡ before ++ first ∷ [] → after ≡ between ++ newly_dropped (first + 1) (members_of text faults later behind) (members_of text faults later_new behind_new)
    → after ≡ before ++ newly_dropped first (members_of text faults auditors marks) (members_of text faults (b ∷ later_new) (mark_new ∷ behind_new))
due_then text faults first auditors later later_new marks behind behind_new a b mark mark_new before between after e f h m k =
    let rest : List ℕ = newly_dropped (first + 1) (members_of text faults later behind) (members_of text faults later_new behind_new) in
    rw (e, f) (k ∙ ap (λ (l : List ℕ). l ++ rest) m ∙ append_assoc before (first ∷ []) rest ∙ ap (λ (v : Bool). before ++ cond v (first ∷ rest) rest) (sym h))

pub due_else : {A : Type 0} (text : A → Option (List ℕ)) (faults : A → ℕ) (first : ℕ) (auditors later later_new : List A) (marks behind behind_new : List Bool) (a b : A) (mark mark_new : Bool) (before between after : List ℕ) → auditors ≡ a ∷ later → marks ≡ mark ∷ behind
    → is_newly mark mark_new ≡ false → between ≡ before → after ≡ between ++ newly_dropped (first + 1) (members_of text faults later behind) (members_of text faults later_new behind_new)
    → after ≡ before ++ newly_dropped first (members_of text faults auditors marks) (members_of text faults (b ∷ later_new) (mark_new ∷ behind_new))
due_else text faults first auditors later later_new marks behind behind_new a b mark mark_new before between after e f h m k =
    let rest : List ℕ = newly_dropped (first + 1) (members_of text faults later behind) (members_of text faults later_new behind_new) in
    rw (e, f) (k ∙ ap (λ (l : List ℕ). l ++ rest) m ∙ ap (λ (v : Bool). before ++ cond v (first ∷ rest) rest) (sym h))

pub live_then : {A : Type 0} (auditors later later_new : List A) (marks behind behind_new : List Bool) (a : A) (mark mark_new : Bool) (before between after : ℕ) → auditors ≡ a ∷ later → marks ≡ mark ∷ behind
    → is_newly mark mark_new ≡ true → one_live mark_new + newly mark mark_new ≡ one_live mark → between ≡ before + 1 → live_of later_new behind_new + after ≡ live_of later behind + between
    → (one_live mark_new + live_of later_new behind_new) + after ≡ live_of auditors marks + before
live_then auditors later later_new marks behind behind_new a mark mark_new before between after e f h l m k =
    rw (e, f) (omega (arith, newly_one mark mark_new h, l, m, k))

pub live_else : {A : Type 0} (auditors later later_new : List A) (marks behind behind_new : List Bool) (a : A) (mark mark_new : Bool) (before between after : ℕ) → auditors ≡ a ∷ later → marks ≡ mark ∷ behind
    → is_newly mark mark_new ≡ false → one_live mark_new + newly mark mark_new ≡ one_live mark → between ≡ before → live_of later_new behind_new + after ≡ live_of later behind + between
    → (one_live mark_new + live_of later_new behind_new) + after ≡ live_of auditors marks + before
live_else auditors later later_new marks behind behind_new a mark mark_new before between after e f h l m k =
    rw (e, f) (omega (arith, newly_none mark mark_new h, l, m, k))

-- no auditor is left

pub each_none : {A : Type 0} (text : A → Option (List ℕ)) (faults : A → ℕ) (line : List ℕ) (auditors : List A) (marks : List Bool) → length auditors ≡ 0 → NotesAll line (members_of text faults auditors marks) (members_of text faults auditors marks)
each_none text faults line [] marks e = tt
each_none text faults line (a ∷ auditors) marks e = absurd (omega (arith, e))

pub set_none : {A : Type 0} (text : A → Option (List ℕ)) (faults : A → ℕ) (auditors : List A) (marks : List Bool) → length auditors ≡ 0 → 0 ≡ dropped_between (members_of text faults auditors marks) (members_of text faults auditors marks)
set_none text faults [] marks e = refl
set_none text faults (a ∷ auditors) marks e = absurd (omega (arith, e))

pub due_none : {A : Type 0} (text : A → Option (List ℕ)) (faults : A → ℕ) (first : ℕ) (auditors : List A) (marks : List Bool) (due : List ℕ) → length auditors ≡ 0 → due ≡ due ++ newly_dropped first (members_of text faults auditors marks) (members_of text faults auditors marks)
due_none text faults first [] marks due e = sym (append-nil due)
due_none text faults first (a ∷ auditors) marks due e = absurd (omega (arith, e))

-- each auditor has its mark
pub marked : {A : Type 0} (auditors later : List A) (marks : List Bool) (a : A) → auditors ≡ a ∷ later → length auditors ≤ length marks → length marks ≡ 0 → ⊥
marked auditors later marks a e f h = omega (arith, ap length e, f, h)

-- the places that are left are enough

pub room_then : {A : Type 0} (auditors later : List A) (marks behind : List Bool) (a : A) (mark mark_new : Bool) (before between : ℕ) → auditors ≡ a ∷ later → marks ≡ mark ∷ behind
    → is_newly mark mark_new ≡ true → one_live mark_new + newly mark mark_new ≡ one_live mark → between ≡ before + 1 → before + live_of auditors marks ≤ 64 → between + live_of later behind ≤ 64
room_then auditors later marks behind a mark mark_new before between e f h l m r =
    let few : before + (one_live mark + live_of later behind) ≤ 64 = rw (e, f) at r in
    omega (arith, newly_one mark mark_new h, l, m, few)

pub room_else : {A : Type 0} (auditors later : List A) (marks behind : List Bool) (a : A) (mark : Bool) (before between : ℕ) → auditors ≡ a ∷ later → marks ≡ mark ∷ behind
    → between ≡ before → before + live_of auditors marks ≤ 64 → between + live_of later behind ≤ 64
room_else auditors later marks behind a mark before between e f m r =
    let few : before + (one_live mark + live_of later behind) ≤ 64 = rw (e, f) at r in
    omega (arith, m, few)

-- the set has a bit for each auditor
pub small_more : {A : Type 0} (auditors later : List A) (a : A) (failed : Bool) (set : ℕ) → auditors ≡ a ∷ later → set < 2 ^ length later → bool_byte failed + 2 * set < 2 ^ length auditors
small_more auditors later a true set e h = rw e (omega (arith, pow-suc 2 (length later), h))
small_more auditors later a false set e h = rw e (omega (arith, pow-suc 2 (length later), h))

module _ {A : Type 0} (auditors later : List A) (a : A) (is : auditors ≡ a ∷ later) where
  fewer : suc (length later) ≡ length auditors
  fewer = sym (ap length is)

  pub shorter : (t : ℕ) → length auditors ≡ t → length later < t
  shorter t e = omega (arith, fewer, e)

  pub few_more : (first : ℕ) → first + length auditors ≤ 64 → first + 1 + length later ≤ 64
  few_more first h = omega (arith, fewer, h)

  pub marks_more : (marks behind : List Bool) (mark : Bool) → marks ≡ mark ∷ behind → length auditors ≤ length marks → length later ≤ length behind
  marks_more marks behind mark f h = omega (arith, fewer, ap length f, h)

  pub first_fits : (first : ℕ) → first + length auditors ≤ 64 → first + 1 < 256
  first_fits first h = omega (arith, fewer, h)

  pub twice_fits : (first set : ℕ) → first + length auditors ≤ 64 → set < 2 ^ length later → 2 * set < 2 ^ 64
  twice_fits first set h k =
      let n : suc (length later) ≤ 64 = omega (arith, fewer, h) in
      omega (arith, pow_mono n, pow-suc 2 (length later), k)

  pub sum_fits : (first set : ℕ) (failed : Bool) → first + length auditors ≤ 64 → set < 2 ^ length later → bool_byte failed + 2 * set < 2 ^ 64
  sum_fits first set failed h k =
      let n : length auditors ≤ 64 = omega (arith, h) in
      lt_of_lt_of_le (small_more auditors later a failed set is k) (pow_mono n)

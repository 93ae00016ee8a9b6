-- The reader's loops, step by step.
use Rattle.std.proofs.Common.{◌≡◌, ◌⊎◌, inl, inr, ℕ, ◌+◌, ◌-◌, ◌<◌, ◌≤◌, Bool, true, false, nat_eq, List, [], ◌∷◌, length, take, drop, Result, Ok, Err, refl, sym, ap, subst, ◌∙◌, arith, length-take, length-drop}
use Rattle.std.specs.Prelude.{◌&&◌}
use Rattle.ug_types.proofs.Known.{to_end}
use Rattle.ug_types.specs.TextFaults.{fault_of_kind}
use Rattle.ug_uevent.specs.Cuts.{length_before}
use Rattle.ug_uevent.specs.Faults.{SaidFault}
use Rattle.ug_uevent.specs.Grammar.{IsHeader, IsMessage, IsBadMessage}
use Rattle.ug_uevent.specs.Reading.{nothing, strings_of, string_read, strings_read, Hints}
use Rattle.ug_uevent.specs.declared.fault.UeventKind.{UeventKind}
use Rattle.ug_uevent.specs.declared.fault.UeventKind.TheVariants as kind
use Rattle.ug_uevent.specs.declared.fields.Found.{Found}
use Rattle.ug_uevent.specs.declared.hint.Hint.{Hint}
use Rattle.ug_uevent.proofs.Cuts.{tested}
use Rattle.ug_uevent.proofs.Meaning.{no_header_read, message_read, fault_read}
use Rattle.ug_uevent.proofs.Steps.{pair_at, next_read, stop_read, end_read}
use Rattle.ug_uevent.proofs.Strings.{of_nothing, first_of, behind_first, split_some}

pub within : (sign : ℕ) (text : List ℕ) → length_before sign text ≤ length text
within sign [] = omega arith
within sign (b ∷ text) = by (nat_eq b sign) refl (within sign text)
  where
    by : (v : Bool) → nat_eq b sign ≡ v → length_before sign text ≤ length text → length_before sign (b ∷ text) ≤ length (b ∷ text)
    by true e h = rw e (omega arith)
    by false e h = rw e (omega (arith, h))

-- the first string and those behind it are no longer than all
pub first_long : (text more rest : List ℕ) → text ≡ first_of rest → more ≡ behind_first rest → length text + 1 + length more ≤ length rest + 1
first_long text more rest t m =
    let n : length_before 0 rest ≤ length rest = within 0 rest in
    omega (arith, n, ap length t, ap length m, length-take (length_before 0 rest) rest, length-drop (length_before 0 rest + 1) rest)

pub more_behind : (text more rest : List ℕ) → text ≡ first_of rest → more ≡ behind_first rest → 0 < length more → length text + 1 + length more ≤ length rest
more_behind text more rest t m h =
    let n : length_before 0 rest ≤ length rest = within 0 rest in
    omega (arith, n, h, ap length t, ap length m, length-take (length_before 0 rest) rest, length-drop (length_before 0 rest + 1) rest)

module _ (act path : List ℕ) (found : Found) (at : ℕ) (rest text : List ℕ) (t : text ≡ first_of rest) where
  pub goes_on : (next : Found) (more : List ℕ) → more ≡ behind_first rest → 0 < length rest → string_read act path found text ≡ Ok next
      → strings_read act path next (at + (length text + 1)) (strings_of more) ≡ strings_read act path found at (strings_of rest)
  goes_on next more m h e =
      ap (λ (x : List ℕ). strings_read act path next (at + (length text + 1)) (strings_of x)) m
      ∙ sym (next_read act path found next at text (strings_of (behind_first rest)) e)
      ∙ ap (λ (x : List ℕ). strings_read act path found at (x ∷ strings_of (behind_first rest))) t
      ∙ ap (strings_read act path found at) (sym (split_some rest h))

  pub stops : (k : UeventKind) → 0 < length rest → string_read act path found text ≡ Err k → Err (fault_of_kind k at) ≡ strings_read act path found at (strings_of rest)
  stops k h e =
      sym (stop_read act path found k at text (strings_of (behind_first rest)) e)
      ∙ ap (λ (x : List ℕ). strings_read act path found at (x ∷ strings_of (behind_first rest))) t
      ∙ ap (strings_read act path found at) (sym (split_some rest h))

pub ends : (act path : List ℕ) (found : Found) (at : ℕ) (rest : List ℕ) → length rest ≡ 0 → Ok found ≡ strings_read act path found at (strings_of rest)
ends act path found at [] h = sym (end_read act path found at) ∙ ap (strings_read act path found at) (sym of_nothing)
ends act path found at (b ∷ rest) h = absurd (omega (arith, h))

-- the header
pub no_header : (message header : List ℕ) (n : ℕ) (wrong : SaidFault) → header ≡ first_of message → n ≡ length_before 64 header → (n ≡ 0) ⊎ (n ≡ length header)
    → wrong ≡ fault_of_kind kind.NoHeader 0 → IsBadMessage message wrong.kind wrong.place
no_header message header n wrong h l z e =
    let same : n ≡ length_before 64 (first_of message) = l ∙ ap (length_before 64) h in
    let test : (length_before 64 (first_of message) ≡ 0) ⊎ (length_before 64 (first_of message) ≡ length (first_of message)) =
    elim z [ inl a ↦ inl (sym same ∙ a) | inr b ↦ inr (sym same ∙ b ∙ ap length h) ] in
    subst (λ (w : SaidFault). IsBadMessage message w.kind w.place) (sym e) (inl (refl, refl, no_header_read message test))

module _ (message header others : List ℕ) (n : ℕ) (h : header ≡ first_of message) (o : others ≡ behind_first message) (l : n ≡ length_before 64 header) (some : n ≡ 0 → ⊥) (sign : n ≡ length header → ⊥) where
  abbrev back : List ℕ
  back = take (length header - (n + 1)) (drop (n + 1) header)

  some_first : length_before 64 (first_of message) ≡ 0 → ⊥
  some_first e = some (l ∙ ap (length_before 64) h ∙ e)

  is_header : IsHeader (first_of message) (take n header) back
  is_header =
      let there = pair_at 64 header (λ e. some (l ∙ e)) (λ e. sign (l ∙ e)) in
      let moved : IsHeader header (take n header) (drop (n + 1) header) = subst (λ (m : ℕ). IsHeader header (take m header) (drop (m + 1) header)) (sym l) there in
      subst (λ (x : List ℕ). IsHeader x (take n header) back) h (subst (IsHeader header (take n header)) (sym (to_end (n + 1) header)) moved)

  abbrev Read : List ℕ → Result Found SaidFault
  Read rest = strings_read (take n header) back nothing (length header + 1) (strings_of rest)

  on_message : (r : Result Found SaidFault) → Read others ≡ r → strings_read (take n header) back nothing (length (first_of message) + 1) (strings_of (behind_first message)) ≡ r
  on_message r e =
      ap (λ (x : List ℕ). strings_read (take n header) back nothing (length x + 1) (strings_of (behind_first message))) (sym h)
      ∙ ap (λ (x : List ℕ). strings_read (take n header) back nothing (length header + 1) (strings_of x)) (sym o) ∙ e

  pub hint_told : (found : Found) (hint : Hint) → Read others ≡ Ok found → Hints (take n header) back found hint → IsMessage message hint
  hint_told found hint e k = message_read message (take n header) back found hint some_first is_header (on_message (Ok found) e) k

  pub fault_told : (wrong : SaidFault) → Read others ≡ Err wrong → IsBadMessage message wrong.kind wrong.place
  fault_told wrong e = fault_read message (take n header) back wrong some_first is_header (on_message (Err wrong) e)

-- a byte that ends no message
pub ends_nothing : (b : ℕ) (fresh : Bool) → ((b ≡ 0) × (fresh ≡ false)) ⊎ (b ≡ 0 → ⊥) → (nat_eq b 0 && fresh) ≡ false
ends_nothing b fresh (inl h) = no (nat_eq b 0) fresh h.1
  where
    no : (v fresh : Bool) → fresh ≡ false → (v && fresh) ≡ false
    no true fresh e = e
    no false fresh e = refl
ends_nothing b fresh (inr h) = ap (λ (v : Bool). v && fresh) (tested b 0 h)

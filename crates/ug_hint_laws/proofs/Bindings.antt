-- The binding of a live name asks alike, and so does the opening of a file that is written once.
use Rattle.std.proofs.Common.{◌≡◌, ℕ, true, false, List, [], Option, Some, None, Ok, Err, Result, refl, subst}
use Rattle.ug_types.specs.Names.{parent_of}
use Rattle.ug_types.specs.declared.record.Attrs.{Attrs}
use Rattle.ug_kernel.specs.declared.control.Control.{Control}
use Rattle.ug_kernel.specs.declared.control.Control.TheVariants.{Authorized}
use Rattle.ug_kernel.specs.declared.control.Attr.{Attr}
use Rattle.ug_kernel.specs.Tree.{Prog, Return, then}
use Rattle.ug_kernel.specs.declared.files.File.{File}
use Rattle.ug_kernel.specs.declared.files.OwnFiles.{OwnFiles}
use Rattle.ug_kernel.specs.declared.files.Stop.{Stop}
use Rattle.ug_kernel.specs.declared.identity.Binding.{Binding}
use Rattle.ug_kernel.specs.declared.removal.RemoveHold.{RemoveHold}
use Rattle.ug_kernel.specs.Bind.{binding, binding_under, binding_of, after_open, after_open_under, after_own, after_own_under, after_parent, after_probe, after_asking, asking_alive, asking_parent, to_parent, closing}
use Rattle.ug_kernel.specs.Files.{reading, reading_own, reading_parent, after_read, if_absent, after_descriptors, after_product, after_serial, after_connect, after_parent_descriptors, after_parent_product, after_parent_serial, own_of, parent_of_files}
use Rattle.ug_kernel.specs.Removal.{holding, after_hold_open, after_hold_probe}
use Rattle.ug_table.specs.Parent.{binding_by}
use Rattle.ug_table.specs.declared.standing.Standing.{Standing}
use Rattle.ug_hint_laws.proofs.Alike.{Alike, Ends, alike_then}
use Rattle.ug_hint_laws.proofs.Asking.{asks_probe, asks_open, asks_read, asks_close}

module _ (P : List ℕ → Type 0) where
  -- one value
  abbrev pub Is : {A : Type 0} → A → A → Type 0
  Is a b = a ≡ b

  abbrev pub Asks_one : {A : Type 0} → Prog A → Type 0
  Asks_one {A} p = Alike P (λ (a b : A). a ≡ b) p p

  pub ends_one : {A : Type 0} (a : A) → Asks_one (Return a)
  ends_one a = Ends a a refl

  pub one_then : {A C D : Type 0} (R : C → D → Type 0) (p : Prog A) (f : A → Prog C) (g : A → Prog D) → Asks_one p → ((a : A) → Alike P R (f a) (g a)) → Alike P R (then p f) (then p g)
  one_then {A} R p f g x h = alike_then (λ (a b : A). a ≡ b) R p p f g x (λ a b e. subst (λ (v : A). Alike P R (f a) (g v)) e (h a))

  -- files
  one_absent : (attr : Attr) (held : ℕ) → Asks_one (if_absent attr held)
  one_absent Attr.Descriptors held = asks_close P (λ a b. a ≡ b) held (Return (Err Stop.Vanished)) (Return (Err Stop.Vanished)) (ends_one (Err Stop.Vanished))
  one_absent Attr.Product held = ends_one (Ok (record { bytes = []; too_long = false }))
  one_absent Attr.Serial held = ends_one (Ok (record { bytes = []; too_long = false }))
  one_absent Attr.Connect held = ends_one (Ok (record { bytes = []; too_long = false }))

  one_reading : (name : List ℕ) (attr : Attr) (held : ℕ) → P name → Asks_one (reading name attr held)
  unfolding reading
  one_reading name attr held lives = asks_read P (λ a b. a ≡ b) name attr lives (after_read attr held) (after_read attr held)
      (λ bytes x y. ends_one (Ok (record { bytes = bytes; too_long = false })))
      (λ x y. one_absent attr held)
      (λ x y. ends_one (Ok (record { bytes = []; too_long = true })))

  one_own : (name : List ℕ) (held : ℕ) → P name → Asks_one (reading_own name held)
  unfolding reading_own
  one_own name held lives = one_then (λ a b. a ≡ b) (reading name Attr.Descriptors held) (after_descriptors name held) (after_descriptors name held) (one_reading name Attr.Descriptors held lives) first
    where
      fourth : (d p s : File) (r : Result File Stop) → Asks_one (after_connect d p s r)
      fourth d p s (Ok c) = ends_one (Ok (own_of d p s c))
      fourth d p s (Err why) = ends_one (Err why)

      third : (d p : File) (r : Result File Stop) → Asks_one (after_serial name held d p r)
      third d p (Ok s) = one_then (λ a b. a ≡ b) (reading name Attr.Connect held) (after_connect d p s) (after_connect d p s) (one_reading name Attr.Connect held lives) (fourth d p s)
      third d p (Err why) = ends_one (Err why)

      second : (d : File) (r : Result File Stop) → Asks_one (after_product name held d r)
      second d (Ok p) = one_then (λ a b. a ≡ b) (reading name Attr.Serial held) (after_serial name held d p) (after_serial name held d p) (one_reading name Attr.Serial held lives) (third d p)
      second d (Err why) = ends_one (Err why)

      first : (r : Result File Stop) → Asks_one (after_descriptors name held r)
      first (Ok d) = one_then (λ a b. a ≡ b) (reading name Attr.Product held) (after_product name held d) (after_product name held d) (one_reading name Attr.Product held lives) (second d)
      first (Err why) = ends_one (Err why)

  one_parent : (name : List ℕ) (held : ℕ) → P name → Asks_one (reading_parent name held)
  unfolding reading_parent
  one_parent name held lives = one_then (λ a b. a ≡ b) (reading name Attr.Descriptors held) (after_parent_descriptors name held) (after_parent_descriptors name held) (one_reading name Attr.Descriptors held lives) first
    where
      third : (d p : File) (r : Result File Stop) → Asks_one (after_parent_serial d p r)
      third d p (Ok s) = ends_one (Ok (parent_of_files d p s))
      third d p (Err why) = ends_one (Err why)

      second : (d : File) (r : Result File Stop) → Asks_one (after_parent_product name held d r)
      second d (Ok p) = one_then (λ a b. a ≡ b) (reading name Attr.Serial held) (after_parent_serial d p) (after_parent_serial d p) (one_reading name Attr.Serial held lives) (third d p)
      second d (Err why) = ends_one (Err why)

      first : (r : Result File Stop) → Asks_one (after_parent_descriptors name held r)
      first (Ok d) = one_then (λ a b. a ≡ b) (reading name Attr.Product held) (after_parent_product name held d) (after_parent_product name held d) (one_reading name Attr.Product held lives) (second d)
      first (Err why) = ends_one (Err why)

  -- bindings
  one_closing : (held : ℕ) (answer : Binding) → Asks_one (closing held answer)
  one_closing held answer = asks_close P (λ a b. a ≡ b) held (Return answer) (Return answer) (ends_one answer)

  one_alive : (held : ℕ) (own : OwnFiles) (parent : Option Attrs) → Asks_one (asking_alive held own parent)
  one_alive held own parent = asks_probe P (λ a b. a ≡ b) held (after_probe held own parent) (after_probe held own parent) (λ on x y. ends_one (Binding.Bound _)) (λ x y. one_closing held Binding.Vanished)

  one_after_parent : (held : ℕ) (own : OwnFiles) (r : Result Attrs Stop) → Asks_one (after_parent held own r)
  one_after_parent held own (Ok parent) = one_alive held own (Some parent)
  one_after_parent held own (Err why) = ends_one (binding_of why)

  one_read_parent : (held : ℕ) (own : OwnFiles) (parent : List ℕ) → P parent → Asks_one (then (reading_parent parent held) (after_parent held own))
  one_read_parent held own parent lives = one_then (λ a b. a ≡ b) (reading_parent parent held) (after_parent held own) (after_parent held own) (one_parent parent held lives) (one_after_parent held own)

  one_to_parent : (held : ℕ) (own : OwnFiles) (parent : Option (List ℕ)) → ((n : List ℕ) → parent ≡ Some n → P n) → Asks_one (to_parent held own parent)
  one_to_parent held own None lives = one_alive held own None
  one_to_parent held own (Some parent) lives = one_read_parent held own parent (lives parent refl)

  one_binding : (name : List ℕ) (parent : Option (List ℕ)) → P name → ((n : List ℕ) → parent ≡ Some n → P n) → Asks_one (binding name parent)
  unfolding binding
  one_binding name parent lives above = asks_open P (λ a b. a ≡ b) name Authorized (after_open name parent) (after_open name parent)
      (λ held x y. one_then (λ a b. a ≡ b) (reading_own name held.0) (after_own held.0 parent) (after_own held.0 parent) (one_own name held.0 lives) (after held.0))
      (λ x y. ends_one Binding.Absent)
    where
      after : (held : ℕ) (r : Result OwnFiles Stop) → Asks_one (after_own held parent r)
      after held (Ok own) = one_to_parent held own parent above
      after held (Err why) = ends_one (binding_of why)

  one_asking : (held : ℕ) (own : OwnFiles) (parent : List ℕ) (kept : ℕ) → P parent → Asks_one (asking_parent held own parent kept)
  one_asking held own parent kept lives = asks_probe P (λ a b. a ≡ b) kept (λ r f. after_asking held own parent r) (λ r f. after_asking held own parent r) (λ on x y. one_alive held own None) (λ x y. one_read_parent held own parent lives)

  one_under : (name parent : List ℕ) (kept : ℕ) → P name → P parent → Asks_one (binding_under name parent kept)
  unfolding binding_under
  one_under name parent kept lives above = asks_open P (λ a b. a ≡ b) name Authorized (after_open_under name parent kept) (after_open_under name parent kept)
      (λ held x y. one_then (λ a b. a ≡ b) (reading_own name held.0) (after_own_under held.0 parent kept) (after_own_under held.0 parent kept) (one_own name held.0 lives) (after held.0))
      (λ x y. ends_one Binding.Absent)
    where
      after : (held : ℕ) (r : Result OwnFiles Stop) → Asks_one (after_own_under held parent kept r)
      after held (Ok own) = one_asking held own parent kept above
      after held (Err why) = ends_one (binding_of why)

  -- with that standing of the parent
  pub one_binding_by : (name : List ℕ) (o : Option Standing) → P name → ((n : List ℕ) → parent_of name ≡ Some n → P n) → ((s : Standing) → o ≡ Some s → P s.name) → Asks_one (binding_by name o)
  one_binding_by name None lives above kept = one_binding name (parent_of name) lives above
  one_binding_by name (Some s) lives above kept = one_under name s.name s.held.0 lives (kept s refl)

  -- the file of a write that is made once
  pub one_holding : (control : Control) (name : List ℕ) (held : ℕ) → Asks_one (holding control name held)
  unfolding holding
  one_holding control name held = asks_open P (λ a b. a ≡ b) name control (after_hold_open held) (after_hold_open held)
      (λ file x y. asks_probe P (λ a b. a ≡ b) held (after_hold_probe file) (after_hold_probe file) (λ on u v. ends_one (RemoveHold.Ready file)) (λ u v. asks_close P (λ a b. a ≡ b) file.0 (Return RemoveHold.Gone) (Return RemoveHold.Gone) (ends_one RemoveHold.Gone)))
      (λ x y. ends_one RemoveHold.Gone)

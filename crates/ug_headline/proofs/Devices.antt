-- Devices by their files, against the crates' own words.
use Rattle.std.proofs.Common.{◌≡◌, ℕ, Bool, true, false, not, is_none, ◌&&◌, ◌||◌, nat_eq, nat_le, cond, List, [], ◌∷◌, length, Option, Some, None, refl, sym, ◌∙◌, ap}
use Rattle.ug_types.specs.Names.{before_dash, before_last_dot, or_nothing, or_root, parent_of, root_of, with_first}
use Rattle.ug_types.specs.declared.record.Attrs.{Attrs}
use Rattle.ug_types.specs.declared.record.DeviceRecord.{DeviceRecord}
use Rattle.ug_types.specs.declared.record.Judged.TheVariants.{Good}
use Rattle.ug_kernel.specs.declared.control.Held.{Held}
use Rattle.ug_kernel.specs.declared.device.Device.{Device}
use Rattle.ug_kernel.specs.Bound.{IsParentRead, attrs_of, file_bytes, is_too_long, parent_attrs_of}
use Rattle.ug_kernel.specs.Called.{text_within, within_limit}
use Rattle.ug_kernel.specs.declared.calls.ReadOut.TheVariants as out
use Rattle.ug_kernel.specs.Kernel.{Kernel}
use Rattle.ug_record.specs.Records.{judged_of}
use Rattle.ug_table.specs.Laws.{IsDevice}
use Rattle.ug_headline.specs.Devices.{IsJudgedDevice, IsParentOf, files_shown, is_long, is_root_name, text_up_to}

-- names

abbrev no_mark : ℕ → List ℕ → Bool
no_mark mark [] = true
no_mark mark (b ∷ name) = not (nat_eq b mark) && no_mark mark name

dot_step : (b : ℕ) (o : Option (List ℕ)) (rest m : Bool) → is_none o ≡ rest → nat_eq b 46 ≡ m → is_none (or_nothing b o) ≡ (not m && rest)
dot_step b (Some front) rest true h e = refl
dot_step b (Some front) rest false h e = h
dot_step b None rest true h e = ap (λ (m : Bool). is_none (cond m (let here : Option (List ℕ) = Some [] in here) None)) e
dot_step b None rest false h e = ap (λ (m : Bool). is_none (cond m (let here : Option (List ℕ) = Some [] in here) None)) e ∙ h

no_dot : (name : List ℕ) → is_none (before_last_dot name) ≡ no_mark 46 name
no_dot [] = refl
no_dot (b ∷ name) = dot_step b (before_last_dot name) (no_mark 46 name) (nat_eq b 46) (no_dot name) refl

with_first_none : (b : ℕ) (o : Option (List ℕ)) → is_none (with_first b o) ≡ is_none o
with_first_none b None = refl
with_first_none b (Some front) = refl

dash_step : (b : ℕ) (o : Option (List ℕ)) (rest m : Bool) → is_none o ≡ rest → is_none (cond m (let here : Option (List ℕ) = Some [] in here) (with_first b o)) ≡ (not m && rest)
dash_step b o rest true h = refl
dash_step b o rest false h = with_first_none b o ∙ h

no_dash : (name : List ℕ) → is_none (before_dash name) ≡ no_mark 45 name
no_dash [] = refl
no_dash (b ∷ name) = dash_step b (before_dash name) (no_mark 45 name) (nat_eq b 45) (no_dash name)

neither : (name : List ℕ) → (no_mark 46 name && no_mark 45 name) ≡ is_root_name name
neither [] = refl
neither (b ∷ name) = by (nat_eq b 46) (nat_eq b 45) (no_mark 46 name) (no_mark 45 name) ∙ ap (λ (v : Bool). not (nat_eq b 45 || nat_eq b 46) && v) (neither name)
  where
    by : (dot dash p q : Bool) → ((not dot && p) && (not dash && q)) ≡ (not (dash || dot) && (p && q))
    by true true p q = refl
    by true false p q = refl
    by false true true q = refl
    by false true false q = refl
    by false false p q = refl

root_none : (o : Option (List ℕ)) → is_none (root_of o) ≡ is_none o
root_none None = refl
root_none (Some bus) = refl

pub root_name : (name : List ℕ) → is_none (parent_of name) ≡ is_root_name name
unfolding parent_of
root_name name =
    by (before_last_dot name) ∙ ap (λ (v : Bool). v && is_none (before_dash name)) (no_dot name) ∙ ap (λ (v : Bool). no_mark 46 name && v) (no_dash name) ∙ neither name
  where
    by : (o : Option (List ℕ)) → is_none (or_root o name) ≡ (is_none o && is_none (before_dash name))
    by None = root_none (before_dash name)
    by (Some front) = refl

-- files

bytes_within : (limit : ℕ) (bytes : List ℕ) → file_bytes (within_limit limit bytes) ≡ text_up_to limit (Some bytes)
bytes_within limit bytes = by (nat_le (length bytes) limit)
  where
    by : (b : Bool) → file_bytes (cond b (out.Bytes bytes) out.TooLong) ≡ cond b bytes []
    by true = refl
    by false = refl

long_within : (limit : ℕ) (bytes : List ℕ) → is_too_long (within_limit limit bytes) ≡ is_long limit (Some bytes)
long_within limit bytes = by (nat_le (length bytes) limit)
  where
    by : (b : Bool) → is_too_long (cond b (out.Bytes bytes) out.TooLong) ≡ not b
    by true = refl
    by false = refl

bytes_of : (o : Option (List ℕ)) → file_bytes (text_within o) ≡ text_up_to 4096 o
bytes_of None = refl
bytes_of (Some bytes) = bytes_within 4096 bytes

long_of : (o : Option (List ℕ)) → is_too_long (text_within o) ≡ is_long 4096 o
long_of None = refl
long_of (Some bytes) = long_within 4096 bytes

long_all : (d : Device) (connect : Option (List ℕ)) → (is_too_long (within_limit 131072 d.descriptors) || is_too_long (text_within d.product) || is_too_long (text_within d.serial) || is_too_long (text_within connect)) ≡ (is_long 131072 (Some d.descriptors) || is_long 4096 d.product || is_long 4096 d.serial || is_long 4096 connect)
long_all d connect =
    ap (λ (v : Bool). v || is_too_long (text_within d.product) || is_too_long (text_within d.serial) || is_too_long (text_within connect)) (long_within 131072 d.descriptors)
    ∙ ap (λ (v : Bool). is_long 131072 (Some d.descriptors) || v || is_too_long (text_within d.serial) || is_too_long (text_within connect)) (long_of d.product)
    ∙ ap (λ (v : Bool). is_long 131072 (Some d.descriptors) || is_long 4096 d.product || v || is_too_long (text_within connect)) (long_of d.serial)
    ∙ ap (λ (v : Bool). is_long 131072 (Some d.descriptors) || is_long 4096 d.product || is_long 4096 d.serial || v) (long_of connect)

or_false : (b : Bool) → (b || false) ≡ b
or_false true = refl
or_false false = refl

made_of : (a b c e : List ℕ) (t : Bool) → Attrs
made_of a b c e t = record { descriptors = a; product = b; serial = c; connect = e; too_long = t }

same_made : (a b c e f g h j : List ℕ) (t u : Bool) → a ≡ f → b ≡ g → c ≡ h → e ≡ j → t ≡ u → made_of a b c e t ≡ made_of f g h j u
same_made a b c e f g h j t u p q r s v = cc

own_files : (d : Device) → attrs_of d ≡ files_shown d.connect d
unfolding made_of
own_files d = same_made _ _ _ _ _ _ _ _ _ _ (bytes_within 131072 d.descriptors) (bytes_of d.product) (bytes_of d.serial) (bytes_of d.connect) (long_all d d.connect)

parent_files : (d : Device) → parent_attrs_of d ≡ files_shown None d
unfolding made_of
parent_files d = same_made _ _ _ _ _ _ _ _ _ _ (bytes_within 131072 d.descriptors) (bytes_of d.product) (bytes_of d.serial) refl (sym (or_false _) ∙ long_all d None)

parent_read : (k : Kernel) (p : Option ℕ) (files : Option Attrs) → IsParentRead k p files → IsParentOf k p files
parent_read k None files h = h
parent_read k (Some p) files h = (h.0, h.1, h.2 ∙ ap (λ (a : Attrs). Some a) (parent_files h.0))

pub judged_device : (k : Kernel) (i : ℕ) (name : List ℕ) (held : Held) (dev : DeviceRecord) → IsDevice k i name held (Good dev) → IsJudgedDevice k i name held dev
judged_device k i name held dev x = record {
  d = x.d;
  device = x.device;
  file = x.file;
  named = x.named;
  parent = x.of.0;
  read = parent_read k x.d.parent x.of.0 x.of.1;
  made = x.of.2 ∙ ap (λ (a : Attrs). judged_of x.d.name a x.of.0) (own_files x.d);
}

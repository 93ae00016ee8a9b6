-- The interfaces that lines add and take away.
use Rattle.std.specs.Prelude.{ℕ, Bool, nat_le, if◌then◌else◌, List, Option, Some, None, option_and_then, option_map}
use Rattle.ug_types.specs.declared.record.Triple.{Triple}
use Rattle.ug_types.specs.declared.rule.Iface.{Iface}
use Rattle.ug_lines.specs.Numbers.{number_in}
use Rattle.ug_words.specs.Words.{interface_of}
use Rattle.ug_iface.specs.declared.name.IfaceName.{IfaceName}
use Rattle.ug_sysfs.specs.declared.script.NewIface.{NewIface}
use Rattle.ug_steps.specs.Plugs.{start_of}
use Rattle.ug_steps.specs.Words.{cut_by_dot, cut_by_space, name_of}

-- ---- names

abbrev pub byte_number : Option ℕ → Option ℕ
byte_number None = None
byte_number (Some n) = if nat_le n 255 then Some n else None

-- a decimal number without sign or leading zero, up to 255
unfoldable pub byte_word : List ℕ → Option ℕ
byte_word text = byte_number (number_in text)

abbrev pub unless_zero : Option ℕ → Option ℕ
unless_zero None = None
unless_zero (Some n) = if nat_le 1 n then Some n else None

abbrev pub iface_named : List ℕ → ℕ → ℕ → IfaceName
iface_named device config number =
    record { device = device; config = config; number = number }

-- `C.I`: interface I of configuration C
abbrev pub iface_numbers_of : List ℕ → List ℕ → Option IfaceName
iface_numbers_of device text =
    cut_by_dot (λ config number.
    option_and_then (λ c. option_map (iface_named device c) (byte_word number))
    (unless_zero (byte_word config))) None text

-- `NAME C.I`
unfoldable pub iface_name_of : List ℕ → Option IfaceName
iface_name_of text =
    cut_by_space (λ name numbers.
    option_and_then (λ n. iface_numbers_of n numbers) (name_of name)) None text

-- ---- class, subclass and protocol

abbrev pub with_protocol : ℕ → ℕ → Option ℕ → Option Triple
with_protocol class subclass None = None
with_protocol class subclass (Some protocol) =
    Some (record { class = class; subclass = subclass; protocol = protocol })

abbrev pub with_subclass : ℕ → Option ℕ → Option ℕ → Option Triple
with_subclass class None protocol = None
with_subclass class (Some subclass) protocol = with_protocol class subclass protocol

abbrev pub whole_triple : Option Iface → Option Triple
whole_triple None = None
whole_triple (Some iface) = with_subclass iface.class iface.subclass iface.protocol

-- `cc:ss:pp`
unfoldable pub triple_word : List ℕ → Option Triple
triple_word word = whole_triple (interface_of word)

-- ---- new interfaces

abbrev pub iface_with : IfaceName → Triple → Bool → NewIface
iface_with name triple on = record { name = name; triple = triple; on = on }

-- `cc:ss:pp START`
abbrev pub with_triple : IfaceName → List ℕ → Option NewIface
with_triple name text =
    cut_by_space (λ triple start.
    option_and_then (λ t. option_map (iface_with name t) (start_of start)) (triple_word triple))
    None text

-- `C.I cc:ss:pp START`
abbrev pub with_numbers : List ℕ → List ℕ → Option NewIface
with_numbers device text =
    cut_by_space (λ numbers rest.
    option_and_then (λ name. with_triple name rest) (iface_numbers_of device numbers)) None text

-- `NAME C.I cc:ss:pp START`
unfoldable pub new_iface_of : List ℕ → Option NewIface
new_iface_of text =
    cut_by_space (λ name rest. option_and_then (λ n. with_numbers n rest) (name_of name)) None text

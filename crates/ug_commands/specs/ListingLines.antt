-- The lines about descriptors.
use Rattle.std.specs.Prelude.{ℕ, List, [], ◌∷◌, ◌++◌, codes, decimal}
use Rattle.std.specs.List.{flat_map}
use Rattle.ug_lines.specs.Digits.{hex_two, hex_four}
use Rattle.ug_types.specs.declared.record.Triple.{Triple}
use Rattle.ug_record.specs.declared.descriptors.Descr.{Descr}
use Rattle.ug_record.specs.declared.descriptors.Config.{Config}
use Rattle.ug_record.specs.declared.descriptors.IfaceDescr.{IfaceDescr}

-- a text and words behind it, one space before each, and a newline
abbrev pub line_with : List ℕ → List (List ℕ) → List ℕ
line_with text [] = text ++ 10 ∷ []
line_with text (word ∷ words) = line_with (text ++ 32 ∷ word) words

-- vendor and product, four hexadecimal digits each
abbrev pub vendor_product_text : ℕ → ℕ → List ℕ
vendor_product_text vendor product =
    hex_four vendor ++ 58 ∷ hex_four product

-- class, subclass and protocol, two hexadecimal digits each
abbrev pub triple_text : Triple → List ℕ
triple_text triple =
    hex_two triple.class ++ 58 ∷ hex_two triple.subclass ++ 58 ∷ hex_two triple.protocol

unfoldable pub device_line : Descr → List ℕ
device_line descr =
    line_with (codes "device")
    (vendor_product_text descr.vendor descr.product ∷ codes "class" ∷ triple_text descr.class
    ∷ codes "configurations" ∷ decimal descr.configurations ∷ [])

unfoldable pub configuration_line : Config → List ℕ
configuration_line config =
    line_with (codes "configuration")
    (decimal config.value ∷ codes "interfaces" ∷ decimal config.count ∷ [])

unfoldable pub interface_line : IfaceDescr → List ℕ
interface_line interface =
    line_with (codes "interface")
    (decimal interface.number ∷ codes "alternate" ∷ decimal interface.alternate ∷ codes "class"
    ∷ triple_text interface.triple ∷ codes "endpoints" ∷ decimal interface.endpoints ∷ [])

-- a configuration's line, and one for each of its interface descriptors
abbrev pub configuration_text : Config → List ℕ
configuration_text config = configuration_line config ++ flat_map interface_line config.items

-- the device's line, and then its configurations in file order
abbrev pub listing_text : Descr → List ℕ
listing_text descr = device_line descr ++ flat_map configuration_text descr.configs

-- the line of a fault: usbguard's kinds of malformed descriptors, and where they stand
unfoldable pub malformed_line : ℕ → ℕ → List ℕ
malformed_line kind place =
    line_with (codes "bad descriptors kind") (decimal kind ∷ codes "place" ∷ decimal place ∷ [])

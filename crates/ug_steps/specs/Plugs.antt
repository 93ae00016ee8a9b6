-- The device that a `plug` line plugs in.
use Rattle.std.specs.Prelude.{ℕ, ◌-◌, Bool, true, false, ◌&&◌, nat_eq, if◌then◌else◌, List, [], ◌∷◌, ◌++◌, length, get_or, Option, Some, None, option_and_then, option_map, Ok, Err, codes}
use Rattle.std.specs.Cmp.Lexicographic.{pointwise}
use Rattle.ug_words.specs.declared.token.Token.{Token}
use Rattle.ug_words.specs.declared.token.TokenKind.{TokenKind}
use Rattle.ug_words.specs.declared.token.TokenKind.TheVariants.{Word, Str, Open, Close, ParenOpen, ParenClose, Bang}
use Rattle.ug_words.specs.Lexing.{Lexed, tokens_of}
use Rattle.ug_sysfs.specs.declared.script.NewDevice.{NewDevice}
use Rattle.ug_steps.specs.declared.plugs.Files.{Files}
use Rattle.ug_steps.specs.Words.{bytes_of, cut_by_space, name_of}

-- a word that is a dash stands for no file
abbrev pub no_file : List ℕ → Token → Option (Option (List ℕ))
no_file text token =
    if nat_eq (token.end - token.start) 1 && nat_eq (get_or text token.start 0) 45 then Some None
    else None

-- a string is a file that holds what it spells and a newline
abbrev pub file_by : List ℕ → Token → TokenKind → Option (Option (List ℕ))
file_by text token Word = no_file text token
file_by text token (Str spelled) = Some (Some (spelled ++ 10 ∷ []))
file_by text token Open = None
file_by text token Close = None
file_by text token ParenOpen = None
file_by text token ParenClose = None
file_by text token Bang = None

abbrev pub plugged_file : List ℕ → Token → Option (Option (List ℕ))
plugged_file text token = file_by text token token.kind

-- one space is between the first and the second
abbrev pub one_space : List ℕ → Token → Token → Bool
one_space text a b = nat_eq (b.start - a.end) 1 && nat_eq (get_or text a.end 0) 32

-- three tokens are the whole text, with one space between one and the next
abbrev pub fill : List ℕ → Token → Token → Token → Bool
fill text a b c =
    nat_eq a.start 0 && (one_space text a b && (one_space text b c && nat_eq c.end (length text)))

abbrev pub with_connect : Option (List ℕ) → Option (List ℕ) → Option (Option (List ℕ))
    → Option Files
with_connect product serial None = None
with_connect product serial (Some connect) =
    Some (record { product = product; serial = serial; connect = connect })

abbrev pub with_serial : Option (List ℕ) → Option (Option (List ℕ)) → Option (Option (List ℕ))
    → Option Files
with_serial product None connect = None
with_serial product (Some serial) connect = with_connect product serial connect

abbrev pub with_product : Option (Option (List ℕ)) → Option (Option (List ℕ))
    → Option (Option (List ℕ)) → Option Files
with_product None serial connect = None
with_product (Some product) serial connect = with_serial product serial connect

abbrev pub files_in : List ℕ → List Token → Option Files
files_in text [] = None
files_in text (a ∷ []) = None
files_in text (a ∷ b ∷ []) = None
files_in text (a ∷ b ∷ c ∷ []) =
    if fill text a b c then
    with_product (plugged_file text a) (plugged_file text b) (plugged_file text c) else None
files_in text (a ∷ b ∷ c ∷ d ∷ tokens) = None

abbrev pub files_by : List ℕ → Lexed → Option Files
files_by text (Ok tokens) = files_in text tokens
files_by text (Err fault) = None

-- `PRODUCT SERIAL CONNECT`: each is a dash, or a string of a rule's text
abbrev pub plugged_files : List ℕ → Option Files
plugged_files text = files_by text (tokens_of text)

abbrev pub device_with : List ℕ → Bool → List ℕ → Files → NewDevice
device_with name on descriptors files = record {
  name = name;
  descriptors = descriptors;
  product = files.product;
  serial = files.serial;
  connect = files.connect;
  on = on;
}

-- `DESC PRODUCT SERIAL CONNECT`
abbrev pub with_digits : List ℕ → Bool → List ℕ → Option NewDevice
with_digits name on text =
    cut_by_space (λ digits rest.
    option_and_then (λ d. option_map (device_with name on d) (plugged_files rest))
    (bytes_of digits)) None text

-- `0` or `1`
unfoldable pub start_of : List ℕ → Option Bool
start_of word =
    if pointwise nat_eq word (codes "0") then Some false
    else if pointwise nat_eq word (codes "1") then Some true
    else None

-- `START DESC PRODUCT SERIAL CONNECT`
abbrev pub with_start : List ℕ → List ℕ → Option NewDevice
with_start name text =
    cut_by_space (λ start rest. option_and_then (λ on. with_digits name on rest) (start_of start))
    None text

-- `NAME START DESC PRODUCT SERIAL CONNECT`
unfoldable pub plugged_device : List ℕ → Option NewDevice
plugged_device text =
    cut_by_space (λ name rest. option_and_then (λ n. with_start n rest) (name_of name)) None text

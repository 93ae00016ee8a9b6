-- The scripts that `make-script` writes: usbguard(1).
use Rattle.std.specs.Prelude.{ℕ, zero, suc, ◌+◌, ◌*◌, ◌/◌, ◌%◌, ◌^◌, nat_eq, if◌then◌else◌, List, [], ◌∷◌, ◌++◌, codes, decimal}

-- A linear congruential generator of 32 bits gives a number to each event: its first event has the
-- number behind the start.

abbrev pub number_behind : ℕ → ℕ
number_behind number = (1664525 * number + 1013904223) % 2 ^ 32

abbrev pub number_at : ℕ → ℕ → ℕ
number_at start zero = start
number_at start (suc event) = number_behind (number_at start event)

-- what a number says: a port of the hub, what happens there, and a call of the event

abbrev pub port_in : ℕ → ℕ
port_in number = 1 + number / 2 ^ 24 % 8

abbrev pub happening_in : ℕ → ℕ
happening_in number = number / 2 ^ 16 % 4

abbrev pub planned_call : ℕ → ℕ
planned_call number = 1 + number / 2 ^ 8 % 16

-- The lines.

-- the setup: one device is allowed, and all others are blocked
unfoldable pub setup_lines : List ℕ
setup_lines =
    codes "usbguard-replay 1\n" ++
    codes "seed 0000000000000000000000000000000000000000000000000000000000000000\n" ++
    codes "rule allow id 1050:0011\n" ++
    codes "rule block id *:*\n"

-- the descriptors of a root hub: its device's, and its configuration's
abbrev pub hub_descriptors : List ℕ
hub_descriptors =
    codes "12010002090001406b1d0200060603020101" ++
    codes "09021900010100e0000904000001090000000705810304000c"

unfoldable pub hub_line : List ℕ
hub_line = codes "plug usb1 1 " ++ hub_descriptors ++ codes " - - -\n"

-- what stands before the first event
abbrev pub opening_lines : List ℕ
opening_lines = setup_lines ++ hub_line

unfoldable pub unplug_line : ℕ → List ℕ
unplug_line port = codes "unplug 1-" ++ decimal port ++ 10 ∷ []

-- the device that the rules allow, which starts switched off
unfoldable pub allowed_line : ℕ → List ℕ
allowed_line port =
    codes "plug 1-" ++ decimal port ++ codes " 0 120100020000004050101100000100000001 - - -\n"

-- the device that the rules block, which starts switched on
unfoldable pub blocked_line : ℕ → List ℕ
blocked_line port =
    codes "plug 1-" ++ decimal port ++ codes " 1 120100020000004050101200000100000001 - - -\n"

unfoldable pub fail_line : ℕ → List ℕ
fail_line call = codes "fail " ++ decimal call ++ 10 ∷ []

unfoldable pub sweep_line : ℕ → List ℕ
sweep_line event = codes "sweep " ++ decimal event ++ 10 ∷ []

-- what happens before an event
abbrev pub happening_line : ℕ → ℕ → ℕ → List ℕ
happening_line happening port call =
    if nat_eq happening 0 then unplug_line port else if nat_eq happening 1 then allowed_line port
    else if nat_eq happening 2 then blocked_line port else fail_line call

abbrev pub line_before : ℕ → List ℕ
line_before number = happening_line (happening_in number) (port_in number) (planned_call number)

abbrev pub event_text : ℕ → ℕ → List ℕ
event_text start event = line_before (number_at start event) ++ sweep_line event

-- so many events behind that one
abbrev pub generated_events : ℕ → ℕ → ℕ → List ℕ
generated_events start event zero = []
generated_events start event (suc more) =
    event_text start (suc event) ++ generated_events start (suc event) more

-- the whole script
abbrev pub generated_script : ℕ → ℕ → List ℕ
generated_script events start = opening_lines ++ generated_events start 0 events

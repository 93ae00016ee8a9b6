-- The words for sections and privileges: usbguard-daemon.conf(5), IPC access control files.
use Rattle.std.specs.Prelude.{ℕ, nat_eq, if◌then◌else◌, List, codes, Option, Some, None}
use Rattle.std.specs.Cmp.Lexicographic.{pointwise}
use Rattle.ug_types.specs.declared.access.Section.{Section}
use Rattle.ug_types.specs.declared.access.Section.TheVariants.{Devices, Policy, Exceptions, Parameters}
use Rattle.ug_types.specs.declared.access.Privilege.{Privilege}
use Rattle.ug_types.specs.declared.access.Privilege.TheVariants as privilege

unfoldable pub section_word : Section → List ℕ
section_word Devices = codes "Devices"
section_word Policy = codes "Policy"
section_word Exceptions = codes "Exceptions"
section_word Parameters = codes "Parameters"

unfoldable pub privilege_word : Privilege → List ℕ
privilege_word privilege.Modify = codes "modify"
privilege_word privilege.List = codes "list"
privilege_word privilege.Listen = codes "listen"

-- the section that a word is
unfoldable pub section_of : List ℕ → Option Section
section_of word =
    if pointwise nat_eq word (codes "Devices") then Some Devices else
    if pointwise nat_eq word (codes "Policy") then Some Policy else
    if pointwise nat_eq word (codes "Exceptions") then Some Exceptions else
    if pointwise nat_eq word (codes "Parameters") then Some Parameters else None

-- the privilege that a word is
unfoldable pub privilege_of : List ℕ → Option Privilege
privilege_of word =
    if pointwise nat_eq word (codes "modify") then Some privilege.Modify else
    if pointwise nat_eq word (codes "list") then Some privilege.List else
    if pointwise nat_eq word (codes "listen") then Some privilege.Listen else None

-- How a command ends that asks the daemon.
use Rattle.std.specs.Prelude.{◌≡◌, ℕ, List, Option, Some, None, codes}
use Rattle.std.specs.Io.KnownBytes.{Keeps}
use Rattle.ug_types.specs.Ends.{Rose}
use Rattle.ug_command_io.specs.Fold.{no_memory}
use Rattle.ug_links.specs.declared.link_call.LinkCall.{LinkCall}
use Rattle.ug_proto.specs.declared.request.Request.TheVariants as request
use Rattle.ug_types.specs.declared.rule.Query.{Query}
use Rattle.ug_rows.specs.declared.choice.Choice.{Choice}
use Rattle.ug_client.specs.Asking.{AsksDaemon, request_line}
use Rattle.ug_client.specs.Choosing.{chosen_text}
use Rattle.ug_client.specs.Fetching.{AsksShowing}
use Rattle.ug_client.specs.Following.{AsksTwice, by_lines, labelled_text}
use Rattle.ug_client.specs.Ordering.{OrdersMatching}
use Rattle.ug_client.specs.declared.orders.Wanted.{Wanted}
use Rattle.ug_client.specs.Watching.{Watches}
use Rattle.ug_client.specs.declared.asked.Asked.{Asked}
use Rattle.ug_client.specs.declared.asked.Asked.TheVariants as asked
use Rattle.ug_tool.specs.Faults.{EndsIn}

unfoldable pub link_fault : List ℕ
link_fault = codes "link fault\n"

-- the status, and the fault line behind what was printed
abbrev pub EndsAsked : Option (List ℕ) → Option (List ℕ) → Asked → ℕ → Type 0
EndsAsked before after asked.Done status = (status ≡ 0) × Keeps before after
EndsAsked before after asked.Refused status = (status ≡ 7) × Keeps before after
EndsAsked before after asked.NoReply status = EndsIn link_fault 8 before after status
EndsAsked before after asked.LinkFailed status = EndsIn link_fault 8 before after status
EndsAsked before after asked.WriteFault status = (status ≡ 5) × Keeps before after
EndsAsked before after asked.Memory status = EndsIn no_memory 6 before after status

-- a request at the socket of that path, and its reply: `faults` are those of the link
pub record AsksAndEnds (path line : List ℕ) (calls0 calls : Option (List LinkCall))
    (sent0 sent left0 left held0 held : Option (List ℕ)) (faults0 faults : ℕ) (status : ℕ) : Type 0
  where
    pub came : Asked
    pub between : Option (List ℕ)
    pub asks : AsksDaemon path line calls0 calls sent0 sent left0 left held0 between came
    pub cause : came ≡ asked.LinkFailed → Rose faults0 faults
    pub ends : EndsAsked between held came status

-- the same with so many notices behind it at most
pub record WatchesAndEnds (path line : List ℕ) (most : ℕ) (calls0 calls : Option (List LinkCall))
    (sent0 sent left0 left held0 held : Option (List ℕ)) (faults0 faults : ℕ) (status : ℕ) : Type 0
  where
    pub came : Asked
    pub between : Option (List ℕ)
    pub watches : Watches path line most calls0 calls sent0 sent left0 left held0 between came
    pub cause : came ≡ asked.LinkFailed → Rose faults0 faults
    pub ends : EndsAsked between held came status

-- a list of devices of which some are wanted
pub record ChoosesAndEnds (path : List ℕ) (choice : Choice) (calls0 calls : Option (List LinkCall))
    (sent0 sent left0 left held0 held : Option (List ℕ)) (faults0 faults : ℕ) (status : ℕ) : Type 0
  where
    pub came : Asked
    pub between : Option (List ℕ)
    pub lists : AsksShowing (chosen_text choice) path (request_line request.ListDevices)
        calls0 calls sent0 sent left0 left held0 between came
    pub cause : came ≡ asked.LinkFailed → Rose faults0 faults
    pub ends : EndsAsked between held came status

-- a list of rules of which those with a label are wanted
pub record LabelsAndEnds (path label : List ℕ) (calls0 calls : Option (List LinkCall))
    (sent0 sent left0 left held0 held : Option (List ℕ)) (faults0 faults : ℕ) (status : ℕ) : Type 0
  where
    pub came : Asked
    pub between : Option (List ℕ)
    pub lists : AsksShowing (labelled_text label) path (request_line request.ListRules)
        calls0 calls sent0 sent left0 left held0 between came
    pub cause : came ≡ asked.LinkFailed → Rose faults0 faults
    pub ends : EndsAsked between held came status

-- two requests, and what is told of the lines of both replies
pub record TellsBothAndEnds (text : List (List ℕ) → List (List ℕ) → List ℕ)
    (path first second : List ℕ) (calls0 calls : Option (List LinkCall))
    (sent0 sent left0 left held0 held : Option (List ℕ)) (faults0 faults : ℕ) (status : ℕ) : Type 0
  where
    pub came : Asked
    pub between : Option (List ℕ)
    pub asks : AsksTwice (by_lines text) path first second
        (record { calls = calls0; sent = sent0; left = left0; held = held0 })
        (record { calls = calls; sent = sent; left = left; held = between }) came
    pub cause : came ≡ asked.LinkFailed → Rose faults0 faults
    pub ends : EndsAsked between held came status

unfoldable pub no_device : List ℕ
no_device = codes "no device matches\n"

-- the status of orders, and the line that tells where no device matched
abbrev pub EndsOrdered : Option (List ℕ) → Option (List ℕ) → Option Asked → ℕ → Type 0
EndsOrdered before after None status = EndsIn no_device 7 before after status
EndsOrdered before after (Some ended) status = EndsAsked before after ended status

-- orders on the devices that a query matches
pub record OrdersAndEnds (path : List ℕ) (query : Query) (wanted : Wanted)
    (calls0 calls : Option (List LinkCall)) (sent0 sent left0 left held0 held : Option (List ℕ))
    (faults0 faults : ℕ) (status : ℕ) : Type 0
  where
    pub came : Option Asked
    pub between : Option (List ℕ)
    pub orders : OrdersMatching path query wanted
        (record { calls = calls0; sent = sent0; left = left0; held = held0 })
        (record { calls = calls; sent = sent; left = left; held = between }) came
    pub cause : came ≡ Some asked.LinkFailed → Rose faults0 faults
    pub ends : EndsOrdered between held came status

-- Words that weren't read for want of memory: what that says of each command.
use Rattle.std.proofs.Common.{◌≡◌, inl, inr, ℕ, List, [], ◌++◌, Option, Some, None, refl, ap, sym, arith, ◌∙◌}
use Rattle.std.proofs.KnownBytes.{Keeps-refl}
use Rattle.std.specs.Io.KnownBytes.{Appends}
use Rattle.ug_command_io.specs.Fold.{LineOutcome, no_memory}
use Rattle.ug_command_io.specs.Statuses.{AnswersLines, FirstLines, OfNoMemory}
use Rattle.ug_command_io.specs.WholeInputs.{AnswersWhole}
use Rattle.ug_command_io.specs.declared.results.Ended.{Ended}
use Rattle.ug_command_io.specs.declared.results.Ended.TheVariants.{Memory, WriteFault}
use Rattle.ug_links.specs.declared.link_call.LinkCall.{LinkCall}
use Rattle.ug_client.specs.Asking.{request_line}
use Rattle.ug_client.specs.Calls.{Unprinted}
use Rattle.ug_client.specs.Fetching.{FetchesReply}
use Rattle.ug_client.specs.declared.fetch.Fetched.TheVariants as fetched
use Rattle.ug_client.specs.declared.orders.Wanted.{Wanted}
use Rattle.ug_proto.specs.declared.request.Request.TheVariants as request
use Rattle.ug_types.specs.declared.rule.Query.{Query}
use Rattle.ug_rows.specs.declared.choice.Choice.{Choice}
use Rattle.ug_client.specs.declared.asked.Asked.TheVariants as asked
use Rattle.ug_client.proofs.Calls.{tells_nothing}
use Rattle.ug_client.proofs.Ending.{unsent_memory}
use Rattle.ug_client.proofs.Fetched.{fetch_short}
use Rattle.ug_client.proofs.WatchCalls.{ends_before}
use Rattle.ug_script.specs.Generating.{TellsFaultAlone}
use Rattle.ug_script.specs.Summing.{TellsSummary}
use Rattle.ug_sysfs.specs.World.{World}
use Rattle.ug_tool.specs.Client.{AsksAndEnds, ChoosesAndEnds, LabelsAndEnds, OrdersAndEnds, TellsBothAndEnds, WatchesAndEnds}
use Rattle.ug_arguments.specs.Commands.{NotRead}
use Rattle.ug_arguments.specs.declared.command.WordsFault.{WordsFault}
use Rattle.ug_arguments.specs.declared.command.WordsFault.TheVariants as fault
use Rattle.ug_tool.specs.Faults.{IsOutOfMemory}

-- a fault for words that are a command is want of memory
pub fault_is_memory : {X : Type 0} (read : Option X) (x : X) (f : WordsFault) → NotRead read f → read ≡ Some x → f ≡ fault.Memory
fault_is_memory read x fault.Bad none some = cc
fault_is_memory read x fault.Memory _ some = refl

-- so it is where the words are wanted ones
pub only_memory : {A : Type 0} (f : WordsFault) → (f ≡ fault.Bad → ¬ A) → A → f ≡ fault.Memory
only_memory fault.Bad not_so a = absurd (not_so refl a)
only_memory fault.Memory not_so a = refl

appends_known : (base bs : List ℕ) (after : Option (List ℕ)) → Appends (Some base) after bs → after ≡ Some (base ++ bs)
appends_known base bs None a = absurd a
appends_known base bs (Some ys) a = ap Some a

nothing_played : {M : Type 0} (step : M → List ℕ → LineOutcome M) (m : M) (all : List ℕ) → FirstLines step m all [] m
nothing_played step m all = record { lines = []; others = _; count = 0; front = refl; played = refl }

-- of a script
pub lines_unread : {M : Type 0} (step : M → List ℕ → LineOutcome M) (closing : M → Option (List ℕ)) (m : M) (all base : List ℕ) (held : Option (List ℕ)) (status : ℕ)
    → IsOutOfMemory (Some base) held status → AnswersLines step closing m all base (Some all) held m status
lines_unread step closing m all base held status (inl (is, appended)) = record {
  done = λ e. absurd (omega (arith, e, is));
  bad = λ e. absurd (omega (arith, e, is));
  read = λ e. absurd (omega (arith, e, is));
  written = λ e. absurd (omega (arith, e, is));
  memory = λ _. ([], m, nothing_played step m all, appends_known base no_memory held appended);
}
lines_unread step closing m all base held status (inr (is, (front, rest, split, appended))) = record {
  done = λ e. absurd (omega (arith, e, is));
  bad = λ e. absurd (omega (arith, e, is));
  read = λ e. absurd (omega (arith, e, is));
  written = λ _. ([], all, front, rest, refl, refl, appends_known base front held appended, OfNoMemory [] front m (nothing_played step m all) refl split);
  memory = λ e. absurd (omega (arith, e, is));
}

-- it isn't the status of a refused line
pub memory_unrefused : (before held : Option (List ℕ)) (status : ℕ) → IsOutOfMemory before held status → status ≡ 2 → ⊥
memory_unrefused before held status (inl k) e = omega (arith, e, k.0)
memory_unrefused before held status (inr k) e = omega (arith, e, k.0)

-- of an input that is read whole
pub input_unread : (statuses : Ended → ℕ) (most : ℕ) (good bad : List ℕ → List ℕ → Type 0) (all base : List ℕ) (held : Option (List ℕ)) (status : ℕ)
    → statuses Memory ≡ 6 → statuses WriteFault ≡ 5
    → IsOutOfMemory (Some base) held status → AnswersWhole statuses most good bad all base (Some all) held status
input_unread statuses most good bad all base held status m w (inl (is, appended)) = record {
  ended = Memory;
  is = is ∙ sym m;
  taken = [];
  more = all;
  split = refl;
  source = refl;
  text = no_memory;
  sink = appends_known base no_memory held appended;
  told = (tt, refl);
}
input_unread statuses most good bad all base held status m w (inr (is, (front, rest, split, appended))) = record {
  ended = WriteFault;
  is = is ∙ sym w;
  taken = [];
  more = all;
  split = refl;
  source = refl;
  text = front;
  sink = appends_known base front held appended;
  told = (Memory, rest, (tt, sym split));
}

memory_failed : ¬ (asked.Memory ≡ asked.LinkFailed)
memory_failed e = cc

memory_done : ¬ (asked.Memory ≡ asked.Done)
memory_done e = cc

-- of a request
pub request_unsent : (path line : List ℕ) (calls : Option (List LinkCall)) (sent left before held : Option (List ℕ)) (faults status : ℕ)
    → IsOutOfMemory before held status → AsksAndEnds path line calls calls sent sent left left before held faults faults status
request_unsent path line calls sent left before held faults status h = record {
  came = asked.Memory;
  between = before;
  asks = unsent_memory path line calls calls sent sent left left before (Unprinted refl (tells_nothing calls)) (Keeps-refl sent) (Keeps-refl left);
  cause = λ e. absurd (memory_failed e);
  ends = h;
}

-- of a list or of orders
fetch_unsent : (path line : List ℕ) (calls : Option (List LinkCall)) (sent left : Option (List ℕ)) → FetchesReply path line calls calls sent sent left left fetched.Memory
fetch_unsent path line calls sent left = fetch_short path line calls calls sent sent left left None (unsent_memory path line calls calls sent sent left left None (Unprinted refl (tells_nothing calls)) (Keeps-refl sent) (Keeps-refl left))

pub list_unsent : (path : List ℕ) (choice : Choice) (calls : Option (List LinkCall)) (sent left before held : Option (List ℕ)) (faults status : ℕ)
    → IsOutOfMemory before held status → ChoosesAndEnds path choice calls calls sent sent left left before held faults faults status
list_unsent path choice calls sent left before held faults status h = record {
  came = asked.Memory;
  between = before;
  lists = record {
    came = fetched.Memory;
    fetches = fetch_unsent path (request_line request.ListDevices) calls sent left;
    written = (refl, Keeps-refl before);
  };
  cause = λ e. absurd (memory_failed e);
  ends = h;
}

pub labelled_unsent : (path label : List ℕ) (calls : Option (List LinkCall)) (sent left before held : Option (List ℕ)) (faults status : ℕ)
    → IsOutOfMemory before held status → LabelsAndEnds path label calls calls sent sent left left before held faults faults status
labelled_unsent path label calls sent left before held faults status h = record {
  came = asked.Memory;
  between = before;
  lists = record {
    came = fetched.Memory;
    fetches = fetch_unsent path (request_line request.ListRules) calls sent left;
    written = (refl, Keeps-refl before);
  };
  cause = λ e. absurd (memory_failed e);
  ends = h;
}

pub both_unsent : (text : List (List ℕ) → List (List ℕ) → List ℕ) (path first second : List ℕ) (calls : Option (List LinkCall)) (sent left before held : Option (List ℕ)) (faults status : ℕ)
    → IsOutOfMemory before held status → TellsBothAndEnds text path first second calls calls sent sent left left before held faults faults status
both_unsent text path first second calls sent left before held faults status h = record {
  came = asked.Memory;
  between = before;
  asks = record {
    came = fetched.Memory;
    between = record { calls = calls; sent = sent; left = left; held = before };
    fetches = fetch_unsent path first calls sent left;
    unwritten = refl;
    told = ((refl, Keeps-refl before), refl);
  };
  cause = λ e. absurd (memory_failed e);
  ends = h;
}

some_memory_failed : ¬ (Some asked.Memory ≡ Some asked.LinkFailed)
some_memory_failed e = cc

pub orders_unsent : (path : List ℕ) (query : Query) (wanted : Wanted) (calls : Option (List LinkCall)) (sent left before held : Option (List ℕ)) (faults status : ℕ)
    → IsOutOfMemory before held status → OrdersAndEnds path query wanted calls calls sent sent left left before held faults faults status
orders_unsent path query wanted calls sent left before held faults status h = record {
  came = Some asked.Memory;
  between = before;
  orders = record {
    came = fetched.Memory;
    between = record { calls = calls; sent = sent; left = left; held = before };
    fetches = fetch_unsent path (request_line request.ListDevices) calls sent left;
    unwritten = refl;
    told = (asked.Memory, refl, (refl, Keeps-refl before), refl);
  };
  cause = λ e. absurd (some_memory_failed e);
  ends = h;
}

pub watch_unsent : (path line : List ℕ) (most : ℕ) (calls : Option (List LinkCall)) (sent left before held : Option (List ℕ)) (faults status : ℕ)
    → IsOutOfMemory before held status → WatchesAndEnds path line most calls calls sent sent left left before held faults faults status
watch_unsent path line most calls sent left before held faults status h = record {
  came = asked.Memory;
  between = before;
  watches = ends_before path line most calls calls sent sent left left before before asked.Memory memory_done (unsent_memory path line calls calls sent sent left left before (Unprinted refl (tells_nothing calls)) (Keeps-refl sent) (Keeps-refl left));
  cause = λ e. absurd (memory_failed e);
  ends = h;
}

-- the command that was read is the command that the words are
pub same_command : {X : Type 0} (read : Option X) (a b : X) → read ≡ Some a → read ≡ Some b → a ≡ b
same_command read a b e f = cc

pub memory_undone : (before held : Option (List ℕ)) (status : ℕ) → IsOutOfMemory before held status → status ≡ 0 → ⊥
memory_undone before held status (inl (is, appended)) e = omega (arith, e, is)
memory_undone before held status (inr (is, cut)) e = omega (arith, e, is)

pub memory_alone : (base : List ℕ) (held : Option (List ℕ)) (status : ℕ) → IsOutOfMemory (Some base) held status → TellsFaultAlone base held status
memory_alone base held status (inl (is, appended)) = record {
  bad = λ e. absurd (omega (arith, e, is));
  read = λ e. absurd (omega (arith, e, is));
  memory = λ _. appends_known base no_memory held appended;
}
memory_alone base held status (inr (is, cut)) = record {
  bad = λ e. absurd (omega (arith, e, is));
  read = λ e. absurd (omega (arith, e, is));
  memory = λ e. absurd (omega (arith, e, is));
}

pub memory_summary : (first : World) (all base : List ℕ) (held : Option (List ℕ)) (status : ℕ) → IsOutOfMemory (Some base) held status → TellsSummary first all base held status
memory_summary first all base held status (inl (is, appended)) = record {
  done = λ e. absurd (omega (arith, e, is));
  bad = λ e. absurd (omega (arith, e, is));
  read = λ e. absurd (omega (arith, e, is));
  memory = λ _. appends_known base no_memory held appended;
}
memory_summary first all base held status (inr (is, cut)) = record {
  done = λ e. absurd (omega (arith, e, is));
  bad = λ e. absurd (omega (arith, e, is));
  read = λ e. absurd (omega (arith, e, is));
  memory = λ e. absurd (omega (arith, e, is));
}

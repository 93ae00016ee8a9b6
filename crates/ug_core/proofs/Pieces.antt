-- What a piece of a stream of uevents brings to an event.
use Rattle.std.proofs.Common.{◌≡◌, ℕ, ◌+◌, ◌*◌, ◌≤◌, Bool, true, false, ◌&&◌, nat_eq, nat_lt, List, [], ◌∷◌, ◌++◌, length, Option, Some, None, Result, Ok, Err, inl, inr, refl, sym, ap, subst, ◌∙◌, append_assoc, append-nil, arith}
use Rattle.std.proofs.lemmas.Bool.{cond_both}
use Rattle.std.proofs.lemmas.Grind.{flat_map-append}
use Rattle.std.proofs.lemmas.List.{length-append}
use Rattle.ug_kernel.specs.declared.calls.FailedCall.{FailedCall}
use Rattle.ug_audit.specs.declared.entry.Entry.{Entry}
use Rattle.ug_audit.specs.declared.entry.Entry.TheVariants as entry
use Rattle.ug_audit.specs.declared.entry.Fault.TheVariants as fault
use Rattle.ug_table.specs.Laws.{AreInOrder}
use Rattle.ug_table.specs.Parts.{failures_told, unsettled_names}
use Rattle.ug_table.proofs.NameEntries.{told_more}
use Rattle.ug_table.proofs.Once.{names_more}
use Rattle.ug_uevent.specs.Answers.{AnswersMessage}
use Rattle.ug_uevent.specs.Faults.{SaidFault}
use Rattle.ug_uevent.specs.Streams.{BegunMessage, Partial, Overlong, Message, Whole, TooLong, Stream, byte_then, with_byte, stream_of, stream_with_piece}
use Rattle.ug_uevent.specs.declared.hint.Hint.{Hint}
use Rattle.ug_core.specs.Due.{FitsDue}
use Rattle.ug_core.specs.Event.{DaemonState}
use Rattle.ug_core.specs.Hinting.{AnswerEach, MeetsPiece, ReadsMessages, hinted_names, listed_name, name_hinted, names_due, refusal_of, refusals}
use Rattle.ug_core.specs.Pending.{saves_in}

-- ---- no more messages end in a piece than it has bytes

one_most : (begun : BegunMessage) (b : ℕ) → length (byte_then begun b).messages ≤ 1
one_most Overlong b = omega arith
one_most (Partial bytes fresh) b =
    let most : Stream → Type 0 = λ s. length s.messages ≤ 1 in
    cond_both (nat_eq b 0 && fresh) (record { messages = Whole bytes ∷ []; begun = Partial [] true }) (with_byte bytes b) most
    (λ e. omega arith)
    (λ e. cond_both (nat_lt (length bytes) 8191) (record { messages = []; begun = Partial (bytes ++ b ∷ []) (nat_eq b 0) }) (record { messages = TooLong ∷ []; begun = Overlong }) most
    (λ f. omega arith) (λ f. omega arith))

few_begun : (begun : BegunMessage) (bytes : List ℕ) → length (stream_of begun bytes).messages ≤ length bytes
few_begun begun [] = omega arith
few_begun begun (b ∷ bytes) =
    let x = byte_then begun b in
    omega (arith, one_most begun b, few_begun x.begun bytes, length-append x.messages (stream_of x.begun bytes).messages)

pub few_messages : (s : Stream) (piece : List ℕ) → s.messages ≡ [] → length (stream_with_piece s piece).messages ≤ length piece
few_messages s piece none =
    let own = (stream_of s.begun piece).messages in
    omega (arith, few_begun s.begun piece, length-append s.messages own, ap length none)

-- ---- messages are read one after another

-- some of them were read, and these are left
pub record ReadSoFar (all left : List Message) (names : List (List ℕ)) (before after : List Entry) : Type 0 where
  pub done : List Message
  pub cut : all ≡ done ++ left
  pub reads : ReadsMessages done names before after

pub none_read : (all : List Message) (names : List (List ℕ)) (es : List Entry) → names ≡ [] → ReadSoFar all all names es es
none_read all names es none = record {
  done = [];
  cut = refl;
  reads = record { answers = []; each = refl; noted = sym (append-nil es); hinted = none };
}

answer_more : (done : List Message) (answers : List (Result Hint SaidFault)) (m : Message) (a : Result Hint SaidFault) → AnswerEach done answers → AnswersMessage m a → AnswerEach (done ++ m ∷ []) (answers ++ a ∷ [])
answer_more [] answers m a h k = subst (λ (v : List (Result Hint SaidFault)). AnswerEach (m ∷ []) (v ++ a ∷ [])) (sym h) (k, refl)
answer_more (x ∷ done) [] m a h k = absurd h
answer_more (x ∷ done) (y ∷ answers) m a h k = (h.0, answer_more done answers m a h.1 k)

pub next_read : (all left more : List Message) (names now : List (List ℕ)) (before after then : List Entry) (m : Message) (a : Result Hint SaidFault)
    → ReadSoFar all left names before after → left ≡ m ∷ more → AnswersMessage m a → now ≡ names ++ name_hinted a → then ≡ after ++ refusal_of a → ReadSoFar all more now before then
next_read all left more names now before after then m a h first says named told =
    let r = h.reads in
    record {
      done = h.done ++ m ∷ [];
      cut = h.cut ∙ ap (λ (v : List Message). h.done ++ v) first ∙ sym (append_assoc h.done (m ∷ []) more);
      reads = record {
        answers = r.answers ++ a ∷ [];
        each = answer_more h.done r.answers m a r.each says;
        noted = told ∙ ap (λ (v : List Entry). v ++ refusal_of a) r.noted ∙ append_assoc before (refusals r.answers) (refusal_of a)
            ∙ ap (λ (v : List Entry). before ++ v) (sym (flat_map-append refusal_of r.answers (a ∷ []) ∙ ap (λ (v : List Entry). refusals r.answers ++ v) (append-nil (refusal_of a))));
        hinted = named ∙ ap (λ (v : List (List ℕ)). v ++ name_hinted a) r.hinted
            ∙ sym (flat_map-append name_hinted r.answers (a ∷ []) ∙ ap (λ (v : List (List ℕ)). hinted_names r.answers ++ v) (append-nil (name_hinted a)));
      };
    }

pub all_read : (all left : List Message) (names : List (List ℕ)) (before after : List Entry) → ReadSoFar all left names before after → left ≡ [] → ReadsMessages all names before after
all_read all left names before after h none =
    subst (λ (v : List Message). ReadsMessages v names before after) (sym (h.cut ∙ ap (λ (v : List Message). h.done ++ v) none ∙ append-nil h.done)) h.reads

-- ---- what is hinted

pub hinted_few : (a : Result Hint SaidFault) → length (name_hinted a) ≤ 1
hinted_few (Err bad) = omega arith
hinted_few (Ok hint) = elim hint.name as (λ o. length (listed_name o) ≤ 1) [ None ↦ omega arith | Some name ↦ omega arith ]

pub stream_left : (s t : Stream) (begun : BegunMessage) → (s.messages ≡ []) × (t ≡ s) → s.begun ≡ begun → t ≡ record { messages = []; begun = begun }
stream_left s t begun h e = h.1 ∙ (λ i. record { messages = h.0 i; begun = e i })

-- where none are due the stage is a sweep
pub fits_sweep : (due : Option (List (List ℕ))) (standings live places most : ℕ) → due ≡ None → 10 * standings + 2 + live ≤ places → 10 * standings + 128 ≤ most → FitsDue due standings live places most
fits_sweep due standings live places most is spare room =
    subst (λ (x : Option (List (List ℕ))). FitsDue x standings live places most) (sym is) (record { order = tt; few = omega arith; spare = omega (arith, spare); room = omega (arith, room) })

pub fits_names : (due : Option (List (List ℕ))) (names : List (List ℕ)) (standings live places most : ℕ) → due ≡ Some names → AreInOrder names → length names ≤ 1048576 → 10 * length names + 2 + live ≤ places → 10 * (standings + length names) + 128 ≤ most → FitsDue due standings live places most
fits_names due names standings live places most is order few spare room =
    subst (λ (x : Option (List (List ℕ))). FitsDue x standings live places most) (sym is) (record { order = order; few = few; spare = spare; room = room })

pub due_order : (listed : Bool) (names : List (List ℕ)) → AreInOrder names → AreInOrder (names_due listed names)
due_order true names o = o
due_order false names o = tt

-- ---- what a piece leaves of the daemon

pub met_judge : (piece : List ℕ) (d e : DaemonState) → MeetsPiece piece d e → e.sweep.judge ≡ d.sweep.judge
met_judge piece d e (inl h) = ap (λ (x : DaemonState). x.sweep.judge) h.state
met_judge piece d e (inr h) = ap (λ (x : DaemonState). x.sweep.judge) h

pub met_standings : (piece : List ℕ) (d e : DaemonState) → MeetsPiece piece d e → (e.sweep.standings ≡ d.sweep.standings) × (e.sweep.next ≡ d.sweep.next)
met_standings piece d e (inl h) = (ap (λ (x : DaemonState). x.sweep.standings) h.state, ap (λ (x : DaemonState). x.sweep.next) h.state)
met_standings piece d e (inr h) = (ap (λ (x : DaemonState). x.sweep.standings) h, ap (λ (x : DaemonState). x.sweep.next) h)

pub met_pending : (piece : List ℕ) (d e : DaemonState) → MeetsPiece piece d e → e.pending ≡ d.pending
met_pending piece d e (inl h) = ap (λ (x : DaemonState). x.pending) h.state
met_pending piece d e (inr h) = ap (λ (x : DaemonState). x.pending) h

-- its entries tell no failure and no save, and name nothing

refusals_told : (answers : List (Result Hint SaidFault)) → failures_told (refusals answers) ≡ []
refusals_told [] = refl
refusals_told (Ok hint ∷ answers) = refusals_told answers
refusals_told (Err bad ∷ answers) = refusals_told answers

refusals_names : (answers : List (Result Hint SaidFault)) → unsettled_names (refusals answers) ≡ []
refusals_names [] = refl
refusals_names (Ok hint ∷ answers) = refusals_names answers
refusals_names (Err bad ∷ answers) = refusals_names answers

refusals_saves : (answers : List (Result Hint SaidFault)) → saves_in (refusals answers) ≡ []
refusals_saves [] = refl
refusals_saves (Ok hint ∷ answers) = refusals_saves answers
refusals_saves (Err bad ∷ answers) = refusals_saves answers

pub met_told : (piece : List ℕ) (d e : DaemonState) → MeetsPiece piece d e → failures_told d.sweep.entries ≡ [] → unsettled_names d.sweep.entries ≡ [] → (failures_told e.sweep.entries ≡ []) × (unsettled_names e.sweep.entries ≡ [])
met_told piece d e m quiet nameless = by m
  where
    told_so : (more : List Entry) → e.sweep.entries ≡ d.sweep.entries ++ more → failures_told more ≡ [] → unsettled_names more ≡ [] → (failures_told e.sweep.entries ≡ []) × (unsettled_names e.sweep.entries ≡ [])
    told_so more is a b = (
      ap failures_told is ∙ told_more d.sweep.entries more ∙ ap (λ (x : List FailedCall). x ++ failures_told more) quiet ∙ a,
      ap unsettled_names is ∙ names_more d.sweep.entries more ∙ ap (λ (x : List (List ℕ)). x ++ unsettled_names more) nameless ∙ b,
    )

    by : MeetsPiece piece d e → (failures_told e.sweep.entries ≡ []) × (unsettled_names e.sweep.entries ≡ [])
    by (inl h) = told_so (refusals h.answers) (ap (λ (x : DaemonState). x.sweep.entries) h.state) (refusals_told h.answers) (refusals_names h.answers)
    by (inr h) = told_so (entry.UnsettledAll fault.Memory ∷ []) (ap (λ (x : DaemonState). x.sweep.entries) h) refl refl

pub met_adds : (piece : List ℕ) (d e : DaemonState) → MeetsPiece piece d e → (more : List Entry) × (e.sweep.entries ≡ d.sweep.entries ++ more) × (saves_in more ≡ [])
met_adds piece d e (inl h) = (refusals h.answers, ap (λ (x : DaemonState). x.sweep.entries) h.state, refusals_saves h.answers)
met_adds piece d e (inr h) = (entry.UnsettledAll fault.Memory ∷ [], ap (λ (x : DaemonState). x.sweep.entries) h, refl)

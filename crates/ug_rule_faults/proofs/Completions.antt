-- Each state has an ending: tokens that lead to where a line may end.
use Rattle.std.proofs.Common.{◌≡◌, ℕ, Bool, true, false, List, [], ◌∷◌, codes, None, Ok, refl, ap, ◌∙◌, arith}
use Rattle.hex.specs.Hex.{decode_pairs}
use Rattle.ug_words.specs.declared.token.Token.{Token}
use Rattle.ug_words.specs.declared.token.TokenKind.{TokenKind}
use Rattle.ug_words.specs.declared.token.TokenKind.TheVariants as kind
use Rattle.ug_words.specs.declared.keywords.Attr.TheVariants as attr
use Rattle.ug_words.specs.Keywords.{operator_of, attribute_of, condition_of}
use Rattle.ug_types.specs.Targets.{target_of}
use Rattle.ug_rule.specs.Tokens.{word_of}
use Rattle.ug_words.specs.Words.{two_of, two_stars, id_of, interface_of, decimal_of, part_of, minute_of, time_of, span_of, past_of, zero_point, chance_of}
use Rattle.ug_rule_faults.proofs.Machine.{Given, nothing, is_nothing, put, Shape, Ids, Interfaces, Strings, Argument, Time, Past, Chance, Where, BeforeIf, BehindIf, InQuery, Alone, State, End, Start, Front, Parts, Value, Brace, Items, Text, AfterIf, CondBrace, CondItems, Negated, Opening, Inner, Closing, May, Matches, step, onward, run}

-- a token of an ending
pub data Filler : Type 0 where
  Allow : Filler
  Label : Filler
  True : Filler
  AnyId : Filler
  AnyInterface : Filler
  Nothing : Filler
  Midnight : Filler
  Zero : Filler
  BraceOpen : Filler
  BraceClose : Filler
  ParenOpen : Filler
  ParenClose : Filler

abbrev pub filler_bytes : Filler → List ℕ
filler_bytes Allow = codes "allow"
filler_bytes Label = codes "label"
filler_bytes True = codes "true"
filler_bytes AnyId = codes "*:*"
filler_bytes AnyInterface = codes "00:*:*"
filler_bytes Nothing = 34 ∷ 34 ∷ []
filler_bytes Midnight = codes "00:00"
filler_bytes Zero = codes "0"
filler_bytes BraceOpen = codes "{"
filler_bytes BraceClose = codes "}"
filler_bytes ParenOpen = codes "("
filler_bytes ParenClose = codes ")"

abbrev pub filler_kind : Filler → TokenKind
filler_kind Allow = kind.Word
filler_kind Label = kind.Word
filler_kind True = kind.Word
filler_kind AnyId = kind.Word
filler_kind AnyInterface = kind.Word
filler_kind Nothing = kind.Str []
filler_kind Midnight = kind.Word
filler_kind Zero = kind.Word
filler_kind BraceOpen = kind.Open
filler_kind BraceClose = kind.Close
filler_kind ParenOpen = kind.ParenOpen
filler_kind ParenClose = kind.ParenClose

abbrev pub filler_word : Filler → List ℕ
filler_word Allow = codes "allow"
filler_word Label = codes "label"
filler_word True = codes "true"
filler_word AnyId = codes "*:*"
filler_word AnyInterface = codes "00:*:*"
filler_word Nothing = []
filler_word Midnight = codes "00:00"
filler_word Zero = codes "0"
filler_word BraceOpen = []
filler_word BraceClose = []
filler_word ParenOpen = []
filler_word ParenClose = []

-- the tokens are these, one for one
abbrev pub Spelled : List ℕ → List Token → List Filler → Type 0
Spelled line [] [] = Unit {0}
Spelled line [] (filler ∷ fillers) = ⊥
Spelled line (token ∷ tokens) [] = ⊥
Spelled line (token ∷ tokens) (filler ∷ fillers) = (token.kind ≡ filler_kind filler) × (word_of line token ≡ filler_word filler) × Spelled line tokens fillers

-- ---- endings

abbrev item : Shape → Filler
item Ids = AnyId
item Interfaces = AnyInterface
item Strings = Nothing

abbrev word : Argument → Filler
word Time = Midnight
word Past = Zero
word Chance = Zero

abbrev parts_ending : Where → Bool → List Filler → List Filler
parts_ending BeforeIf empty rest = []
parts_ending BehindIf empty rest = []
parts_ending InQuery true rest = Label ∷ Nothing ∷ ParenClose ∷ rest
parts_ending InQuery false rest = ParenClose ∷ rest
parts_ending Alone true rest = Label ∷ Nothing ∷ []
parts_ending Alone false rest = []

abbrev pub ending : State → List Filler
ending End = []
ending Start = Allow ∷ []
ending (Front place next) = parts_ending place true (ending next)
ending (Parts given place next) = parts_ending place (is_nothing given) (ending next)
ending (Value shape next) = item shape ∷ ending next
ending (Brace shape next) = BraceOpen ∷ item shape ∷ BraceClose ∷ ending next
ending (Items shape some at next) = item shape ∷ BraceClose ∷ ending next
ending (Text next) = Nothing ∷ ending next
ending (AfterIf next) = True ∷ ending next
ending (CondBrace next) = BraceOpen ∷ True ∷ BraceClose ∷ ending next
ending (CondItems some at next) = True ∷ BraceClose ∷ ending next
ending (Negated next) = True ∷ ending next
ending (Opening argument next) = ParenOpen ∷ word argument ∷ ParenClose ∷ ending next
ending (Inner argument next) = word argument ∷ ParenClose ∷ ending next
ending (Closing next) = ParenClose ∷ ending next
ending (May argument next) = ParenOpen ∷ word argument ∷ ParenClose ∷ ending next
ending (Matches next) = ParenOpen ∷ Label ∷ Nothing ∷ ParenClose ∷ ending next

-- tokens spelled so lead from the state to where a line may end
abbrev Leads : List ℕ → State → List Filler → Type 0
Leads line state fillers = (tokens : List Token) → Spelled line tokens fillers → run line state tokens ≡ None

by_token : (line : List ℕ) (state : State) (filler : Filler) (fillers : List Filler) (next : ℕ → State)
    → ((start : ℕ) → step state (filler_word filler) (filler_kind filler) start ≡ Ok (next start))
    → ((start : ℕ) → Leads line (next start) fillers) → Leads line state (filler ∷ fillers)
by_token line state filler fillers next goes again [] s = absurd s
by_token line state filler fillers next goes again (token ∷ tokens) s =
    ap (λ k. onward (step state (word_of line token) k token.start) token.start (λ n. run line n tokens)) s.0
    ∙ (ap (λ w. onward (step state w (filler_kind filler) token.start) token.start (λ n. run line n tokens)) s.1
    ∙ (ap (λ r. onward r token.start (λ n. run line n tokens)) (goes token.start) ∙ again token.start tokens s.2))

at_end : (line : List ℕ) (state : State) → run line state [] ≡ None → Leads line state []
at_end line state e [] s = e
at_end line state e (token ∷ tokens) s = absurd s

by_item : (line : List ℕ) (shape : Shape) (some : Bool) (at : ℕ) (next : State) (fillers : List Filler) → Leads line next fillers → Leads line (Items shape some at next) (item shape ∷ BraceClose ∷ fillers)
unfolding id_of two_stars interface_of two_of decode_pairs
by_item line Ids some at next fillers l = by_token line (Items Ids some at next) AnyId (BraceClose ∷ fillers) (λ start. Items Ids true at next) (λ start. refl) (λ start. by_token line (Items Ids true at next) BraceClose fillers (λ start. next) (λ start. refl) (λ start. l))
by_item line Interfaces some at next fillers l = by_token line (Items Interfaces some at next) AnyInterface (BraceClose ∷ fillers) (λ start. Items Interfaces true at next) (λ start. refl) (λ start. by_token line (Items Interfaces true at next) BraceClose fillers (λ start. next) (λ start. refl) (λ start. l))
by_item line Strings some at next fillers l = by_token line (Items Strings some at next) Nothing (BraceClose ∷ fillers) (λ start. Items Strings true at next) (λ start. refl) (λ start. by_token line (Items Strings true at next) BraceClose fillers (λ start. next) (λ start. refl) (λ start. l))

by_value : (line : List ℕ) (shape : Shape) (next : State) (fillers : List Filler) → Leads line next fillers → Leads line (Value shape next) (item shape ∷ fillers)
unfolding id_of two_stars interface_of two_of decode_pairs operator_of
by_value line Ids next fillers l = by_token line (Value Ids next) AnyId fillers (λ start. next) (λ start. refl) (λ start. l)
by_value line Interfaces next fillers l = by_token line (Value Interfaces next) AnyInterface fillers (λ start. next) (λ start. refl) (λ start. l)
by_value line Strings next fillers l = by_token line (Value Strings next) Nothing fillers (λ start. next) (λ start. refl) (λ start. l)

by_inner : (line : List ℕ) (argument : Argument) (next : State) (fillers : List Filler) → Leads line next fillers → Leads line (Inner argument next) (word argument ∷ ParenClose ∷ fillers)
unfolding span_of time_of minute_of part_of past_of decimal_of chance_of zero_point
by_inner line Time next fillers l = by_token line (Inner Time next) Midnight (ParenClose ∷ fillers) (λ start. Closing next) (λ start. refl) (λ start. by_token line (Closing next) ParenClose fillers (λ start. next) (λ start. refl) (λ start. l))
by_inner line Past next fillers l = by_token line (Inner Past next) Zero (ParenClose ∷ fillers) (λ start. Closing next) (λ start. refl) (λ start. by_token line (Closing next) ParenClose fillers (λ start. next) (λ start. refl) (λ start. l))
by_inner line Chance next fillers l = by_token line (Inner Chance next) Zero (ParenClose ∷ fillers) (λ start. Closing next) (λ start. refl) (λ start. by_token line (Closing next) ParenClose fillers (λ start. next) (λ start. refl) (λ start. l))

by_conds : (line : List ℕ) (some : Bool) (at : ℕ) (next : State) (fillers : List Filler) → Leads line next fillers → Leads line (CondItems some at next) (True ∷ BraceClose ∷ fillers)
unfolding condition_of
by_conds line some at next fillers l = by_token line (CondItems some at next) True (BraceClose ∷ fillers) (λ start. CondItems true at next) (λ start. refl) (λ start. by_token line (CondItems true at next) BraceClose fillers (λ start. next) (λ start. refl) (λ start. l))

-- a label where no attribute was given, behind which a query may end
by_label : (line : List ℕ) (state : State) (place : Where) (next : State) (fillers : List Filler)
    → ((start : ℕ) → step state (filler_word Label) (filler_kind Label) start ≡ Ok (Text (Parts (put attr.Label nothing) place next)))
    → Leads line (Parts (put attr.Label nothing) place next) fillers → Leads line state (Label ∷ Nothing ∷ fillers)
by_label line state place next fillers goes l =
    by_token line state Label (Nothing ∷ fillers) (λ start. Text (Parts (put attr.Label nothing) place next)) goes
    (λ start. by_token line (Text (Parts (put attr.Label nothing) place next)) Nothing fillers (λ start. Parts (put attr.Label nothing) place next) (λ start. refl) (λ start. l))

none_given : (given : Given) → is_nothing given ≡ true → given ≡ nothing
unfolding is_nothing
none_given given h = grind arith

by_parts : (line : List ℕ) (place : Where) (next : State) (fillers : List Filler) → Leads line next fillers → Leads line (Parts nothing place next) (parts_ending place true fillers)
unfolding is_nothing attribute_of
by_parts line BeforeIf next fillers l = at_end line (Parts nothing BeforeIf next) refl
by_parts line BehindIf next fillers l = at_end line (Parts nothing BehindIf next) refl
by_parts line InQuery next fillers l =
    by_label line (Parts nothing InQuery next) InQuery next (ParenClose ∷ fillers) (λ start. refl)
    (by_token line (Parts (put attr.Label nothing) InQuery next) ParenClose fillers (λ start. next) (λ start. refl) (λ start. l))
by_parts line Alone next fillers l =
    by_label line (Parts nothing Alone next) Alone next [] (λ start. refl) (at_end line (Parts (put attr.Label nothing) Alone next) refl)

by_some_parts : (line : List ℕ) (given : Given) (place : Where) (next : State) (fillers : List Filler) → is_nothing given ≡ false → Leads line next fillers → Leads line (Parts given place next) (parts_ending place false fillers)
unfolding attribute_of
by_some_parts line given BeforeIf next fillers n l = at_end line (Parts given BeforeIf next) refl
by_some_parts line given BehindIf next fillers n l = at_end line (Parts given BehindIf next) refl
by_some_parts line given InQuery next fillers n l = by_token line (Parts given InQuery next) ParenClose fillers (λ start. next) (λ start. rw n refl) (λ start. l)
by_some_parts line given Alone next fillers n l = at_end line (Parts given Alone next) (rw n refl)

by_front : (line : List ℕ) (place : Where) (next : State) (fillers : List Filler) → Leads line next fillers → Leads line (Front place next) (parts_ending place true fillers)
unfolding is_nothing attribute_of
by_front line BeforeIf next fillers l = at_end line (Front BeforeIf next) refl
by_front line BehindIf next fillers l = at_end line (Front BehindIf next) refl
by_front line InQuery next fillers l =
    by_label line (Front InQuery next) InQuery next (ParenClose ∷ fillers) (λ start. refl)
    (by_token line (Parts (put attr.Label nothing) InQuery next) ParenClose fillers (λ start. next) (λ start. refl) (λ start. l))
by_front line Alone next fillers l =
    by_label line (Front Alone next) Alone next [] (λ start. refl) (at_end line (Parts (put attr.Label nothing) Alone next) refl)

parts_lead : (line : List ℕ) (given : Given) (place : Where) (next : State) (fillers : List Filler) → Leads line next fillers → Leads line (Parts given place next) (parts_ending place (is_nothing given) fillers)
parts_lead line given place next fillers l = by (is_nothing given) refl
  where
    by : (b : Bool) → is_nothing given ≡ b → Leads line (Parts given place next) (parts_ending place (is_nothing given) fillers)
    by true n = rw n (rw (none_given given n) (by_parts line place next fillers l))
    by false n = rw n (by_some_parts line given place next fillers n l)

pub leads : (line : List ℕ) (state : State) → Leads line state (ending state)
unfolding target_of operator_of condition_of
leads line End = at_end line End refl
leads line Start = by_token line Start Allow [] (λ start. Front BeforeIf End) (λ start. refl) (λ start. at_end line (Front BeforeIf End) refl)
leads line (Front place next) = by_front line place next (ending next) (leads line next)
leads line (Parts given place next) = parts_lead line given place next (ending next) (leads line next)
leads line (Value shape next) = by_value line shape next (ending next) (leads line next)
leads line (Brace shape next) = by_token line (Brace shape next) BraceOpen (item shape ∷ BraceClose ∷ ending next) (λ start. Items shape false start next) (λ start. refl) (λ start. by_item line shape false start next (ending next) (leads line next))
leads line (Items shape some at next) = by_item line shape some at next (ending next) (leads line next)
leads line (Text next) = by_token line (Text next) Nothing (ending next) (λ start. next) (λ start. refl) (λ start. leads line next)
leads line (AfterIf next) = by_token line (AfterIf next) True (ending next) (λ start. next) (λ start. refl) (λ start. leads line next)
leads line (CondBrace next) = by_token line (CondBrace next) BraceOpen (True ∷ BraceClose ∷ ending next) (λ start. CondItems false start next) (λ start. refl) (λ start. by_conds line false start next (ending next) (leads line next))
leads line (CondItems some at next) = by_conds line some at next (ending next) (leads line next)
leads line (Negated next) = by_token line (Negated next) True (ending next) (λ start. next) (λ start. refl) (λ start. leads line next)
leads line (Opening argument next) = by_token line (Opening argument next) ParenOpen (word argument ∷ ParenClose ∷ ending next) (λ start. Inner argument next) (λ start. refl) (λ start. by_inner line argument next (ending next) (leads line next))
leads line (Inner argument next) = by_inner line argument next (ending next) (leads line next)
leads line (Closing next) = by_token line (Closing next) ParenClose (ending next) (λ start. next) (λ start. refl) (λ start. leads line next)
leads line (May argument next) = by_token line (May argument next) ParenOpen (word argument ∷ ParenClose ∷ ending next) (λ start. Inner argument next) (λ start. refl) (λ start. by_inner line argument next (ending next) (leads line next))
leads line (Matches next) = by_token line (Matches next) ParenOpen (Label ∷ Nothing ∷ ParenClose ∷ ending next) (λ start. Front InQuery next) (λ start. refl) (λ start. by_front line InQuery next (ending next) (leads line next))

-- Orders, one after another.
use Rattle.std.proofs.Common.{◌≡◌, ◌∙◌, ℕ, ◌+◌, ◌<◌, Bool, true, false, List, [], ◌∷◌, ◌++◌, length, take, get_or, refl, sym, ap, subst, append_assoc, inr, drop}
use Rattle.std.specs.Prelude.{◌||◌, cond}
use Rattle.std.proofs.lemmas.List.{append-nil, at_drop_more, take-append-drop, take_more}
use Rattle.std.proofs.lemmas.List.Elements.{filter_more}
use Rattle.std.specs.List.{filter}
use Rattle.ug_client.specs.declared.asked.Asked.{Asked}
use Rattle.ug_client.specs.declared.asked.Asked.TheVariants as asked
use Rattle.ug_proto.specs.Replies.{ended_lines}
use Rattle.ug_client.specs.Ordering.{Around, GaveOrders, GivesOrder, GivesOrders, end_by_refusal, spaced_lines}
use Rattle.ug_client.specs.declared.orders.Wanted.{Wanted}

or_false : (b : Bool) → b ≡ b || false
or_false true = refl
or_false false = refl

or_both : (a b c : Bool) → (a || b) || c ≡ a || (b || c)
or_both true b c = refl
or_both false b c = refl

same_or : (r was later : Bool) (c : Bool) → r ≡ was || later → r || c ≡ was || (later || c)
same_or r was later c e = ap (λ (b : Bool). b || c) e ∙ or_both was later c

pub gave_last : (path : List ℕ) (wanted : Wanted) (numbers : List ℕ) (number : ℕ) (a b c : Around) (refused was : Bool)
    → GaveOrders path wanted numbers a refused b → GivesOrder path wanted number b c (end_by_refusal was) → GaveOrders path wanted (numbers ++ number ∷ []) a (refused || was) c
gave_last path wanted [] number a b c refused was gave order =
    (c, was, false, subst (λ (s : Around). GivesOrder path wanted number s c (end_by_refusal was)) gave.0 order, (refl, refl), ap (λ (r : Bool). r || was) gave.1 ∙ or_false was)
gave_last path wanted (n ∷ numbers) number a b c refused was (between, first, later, one, others, is) order =
    (between, first, later || was, one, gave_last path wanted numbers number between b c later was others order, same_or refused first later was is)

pub gave_next : (path : List ℕ) (wanted : Wanted) (numbers : List ℕ) (i d : ℕ) → i < length numbers → (a b c : Around) (refused was : Bool)
    → GaveOrders path wanted (take i numbers) a refused b → GivesOrder path wanted (get_or numbers i d) b c (end_by_refusal was) → GaveOrders path wanted (take (i + 1) numbers) a (refused || was) c
gave_next path wanted numbers i d lt a b c refused was gave order =
    subst (λ (front : List ℕ). GaveOrders path wanted front a (refused || was) c) (sym (take_more numbers i d lt)) (gave_last path wanted (take i numbers) (get_or numbers i d) a b c refused was gave order)

or_true : (b : Bool) → b || true ≡ true
or_true true = refl
or_true false = refl

-- the next order was done, or refused
module _ (path : List ℕ) (wanted : Wanted) (numbers : List ℕ) (i d : ℕ) (lt : i < length numbers) (a b c : Around) (refused now : Bool) (result : Asked) (gave : GaveOrders path wanted (take i numbers) a refused b) (order : GivesOrder path wanted (get_or numbers i d) b c result) where
  pub gave_done : now ≡ refused → result ≡ asked.Done → GaveOrders path wanted (take (i + 1) numbers) a now c
  gave_done e is = subst (λ (r : Bool). GaveOrders path wanted (take (i + 1) numbers) a r c) (sym (e ∙ or_false refused))
      (gave_next path wanted numbers i d lt a b c refused false gave (subst (λ (r : Asked). GivesOrder path wanted (get_or numbers i d) b c r) is order))

  pub gave_refused : now ≡ true → result ≡ asked.Refused → GaveOrders path wanted (take (i + 1) numbers) a now c
  gave_refused e is = subst (λ (r : Bool). GaveOrders path wanted (take (i + 1) numbers) a r c) (or_true refused ∙ sym e)
      (gave_next path wanted numbers i d lt a b c refused true gave (subst (λ (r : Asked). GivesOrder path wanted (get_or numbers i d) b c r) is order))

  pub gave_up : ¬ (result ≡ asked.Done) → ¬ (result ≡ asked.Refused) → GivesOrders path wanted numbers a c result
  gave_up undone unrefused = inr (record {
    answered = take i numbers;
    number = get_or numbers i d;
    others = drop (i + 1) numbers;
    split = sym (take-append-drop i numbers) ∙ ap (λ (rest : List ℕ). take i numbers ++ rest) (at_drop_more (λ (rest : List ℕ). rest) numbers i d lt);
    between = b;
    refused = refused;
    gave = gave;
    stops = order;
    undone = undone;
    unrefused = unrefused;
  })

-- ---- lines

spaced_last : (lines : List (List ℕ)) (line : List ℕ) → spaced_lines (lines ++ line ∷ []) ≡ spaced_lines lines ++ (32 ∷ line)
spaced_last [] line = ap (λ (l : List ℕ). 32 ∷ l) (append-nil line)
spaced_last (first ∷ lines) line = ap (λ (l : List ℕ). 32 ∷ l) (ap (λ (l : List ℕ). first ++ l) (spaced_last lines line) ∙ sym (append_assoc first (spaced_lines lines) (32 ∷ line)))

pub spaced_next : (lines : List (List ℕ)) (i : ℕ) (d : List ℕ) → i < length lines → spaced_lines (take (i + 1) lines) ≡ spaced_lines (take i lines) ++ (32 ∷ get_or lines i d)
spaced_next lines i d lt = ap spaced_lines (take_more lines i d lt) ∙ spaced_last (take i lines) (get_or lines i d)

ended_both : (lines more : List (List ℕ)) → ended_lines (lines ++ more) ≡ ended_lines lines ++ ended_lines more
ended_both [] more = refl
ended_both (line ∷ lines) more = ap (λ (l : List ℕ). line ++ 10 ∷ l) (ended_both lines more) ∙ sym (append_assoc line (10 ∷ ended_lines lines) (ended_lines more))

ended_if : (chosen : Bool) (row : List ℕ) → ended_lines (cond chosen (row ∷ []) []) ≡ cond chosen (row ++ 10 ∷ []) []
ended_if true row = refl
ended_if false row = refl

pub ended_next : (lines : List (List ℕ)) (chosen : Bool) (row : List ℕ) → ended_lines (lines ++ cond chosen (row ∷ []) []) ≡ ended_lines lines ++ cond chosen (row ++ 10 ∷ []) []
ended_next lines chosen row = ended_both lines (cond chosen (row ∷ []) []) ∙ ap (λ (text : List ℕ). ended_lines lines ++ text) (ended_if chosen row)

-- one row more
pub rows_step : (test : List ℕ → Bool) (rows : List (List ℕ)) (i : ℕ) (d row : List ℕ) (chosen : Bool) (before after : List ℕ) → i < length rows
    → before ≡ ended_lines (filter test (take i rows)) → row ≡ get_or rows i d → chosen ≡ test row
    → after ≡ before ++ cond chosen (row ++ 10 ∷ []) [] → after ≡ ended_lines (filter test (take (i + 1) rows))
rows_step test rows i d row chosen before after lt h r c e =
    e
    ∙ ap (λ (text : List ℕ). text ++ cond chosen (row ++ 10 ∷ []) []) h
    ∙ sym (ended_next (filter test (take i rows)) chosen row)
    ∙ ap (λ (v : Bool). ended_lines (filter test (take i rows) ++ cond v (row ∷ []) [])) c
    ∙ ap (λ (line : List ℕ). ended_lines (filter test (take i rows) ++ cond (test line) (line ∷ []) [])) r
    ∙ sym (ap ended_lines (filter_more test rows i d lt))

pub spaced_step : (lines : List (List ℕ)) (i : ℕ) (d line : List ℕ) (base before after : List ℕ) → i < length lines
    → before ≡ base ++ spaced_lines (take i lines) → line ≡ get_or lines i d → after ≡ before ++ 32 ∷ line → after ≡ base ++ spaced_lines (take (i + 1) lines)
spaced_step lines i d line base before after lt h r e =
    e
    ∙ ap (λ (text : List ℕ). text ++ 32 ∷ line) h
    ∙ append_assoc base (spaced_lines (take i lines)) (32 ∷ line)
    ∙ ap (λ (one : List ℕ). base ++ (spaced_lines (take i lines) ++ 32 ∷ one)) r
    ∙ ap (λ (text : List ℕ). base ++ text) (sym (spaced_next lines i d lt))

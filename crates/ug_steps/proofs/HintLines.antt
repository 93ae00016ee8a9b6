-- `hint` lines are read as their grammar says.
use Rattle.std.proofs.Common.{◌≡◌, ℕ, ◌≤◌, Bool, cond, nat_le, List, ◌∷◌, ◌++◌, length, Some, None, refl, ap, subst, ◌∙◌, arith}
use Rattle.std.specs.Prelude.{codes, decimal, option_and_then}
use Rattle.std.proofs.lemmas.Bool.{leb-true, le-leb}
use Rattle.std.proofs.lemmas.Option.{cond_some}
use Rattle.ug_types.specs.Elements.{Has}
use Rattle.ug_types.specs.declared.verdict.Moment.{Moment}
use Rattle.ug_proto.proofs.Numerals.{decimal_plain}
use Rattle.ug_types.specs.Events.{longest_piece}
use Rattle.ug_types.specs.declared.event.Event.{Event}
use Rattle.ug_types.specs.declared.event.Event.TheVariants.{Hint}
use Rattle.ug_steps.specs.Grammar.{hint_at, hint_of}
use Rattle.ug_steps.specs.LineGrammar.{IsEventLine, IsHintLine, IsMoment}
use Rattle.ug_steps.specs.Words.{bytes_of, moment_word}
use Rattle.ug_steps.proofs.HexWords.{bytes_so, so_bytes}
use Rattle.ug_steps.proofs.LineCuts.{bound, cut_so, so_cut}
use Rattle.ug_steps.proofs.Moments.{moment_text}

moment_plain : (n : ℕ) → IsMoment n → ¬ Has (decimal n) 32
moment_plain n h = decimal_plain n (omega (arith, h))

hint_at_so : (n : ℕ) (piece : List ℕ) (event : Event) → hint_at n piece ≡ Some event → (length piece ≤ longest_piece) × (Hint (record { 0 = n }) piece ≡ event)
hint_at_so n piece event h =
    let k = cond_some (nat_le (length piece) longest_piece) (Hint (record { 0 = n }) piece) event h in
    (leb-true (length piece) longest_piece k.0, k.1)

so_hint_at : (n : ℕ) (piece : List ℕ) → length piece ≤ longest_piece → hint_at n piece ≡ Some (Hint (record { 0 = n }) piece)
so_hint_at n piece h = ap (λ (b : Bool). cond b (Some (Hint (record { 0 = n }) piece)) None) (le-leb (length piece) longest_piece h)

pub hint_so : (text : List ℕ) (event : Event) → hint_of text ≡ Some event → IsEventLine (codes "hint " ++ text) event
hint_so text event h =
    let c = cut_so (λ (moment digits : List ℕ). option_and_then (λ n. option_and_then (λ piece. hint_at n piece) (bytes_of digits)) (moment_word moment)) text event h in
    let n = bound (λ n. option_and_then (λ piece. hint_at n piece) (bytes_of c.rest)) (moment_word c.word) event c.gives in
    let p = bound (λ piece. hint_at n.0 piece) (bytes_of c.rest) event n.2 in
    let at = hint_at_so n.0 p.0 event p.2 in
    let moment = (moment_text c.word n.0).0 n.1 in
    let bytes = bytes_so c.rest p.0 p.1 in
    let words : text ≡ decimal n.0 ++ 32 ∷ c.rest = c.is ∙ ap (λ (w : List ℕ). w ++ 32 ∷ c.rest) moment.0 in
    subst (IsEventLine (codes "hint " ++ text)) at.1 (record {
      digits = c.rest;
      is = ap (λ (t : List ℕ). codes "hint " ++ t) words;
      moment_is = moment.1;
      described = bytes.0;
      some = bytes.1;
      short = at.0;
    })

pub so_hint : (line : List ℕ) (moment : Moment) (piece : List ℕ) → IsHintLine line moment piece → (text : List ℕ) × (line ≡ codes "hint " ++ text) × (hint_of text ≡ Some (Hint moment piece))
so_hint line moment piece o =
    let text : List ℕ = decimal moment.0 ++ 32 ∷ o.digits in
    let at : option_and_then (λ p. hint_at moment.0 p) (bytes_of o.digits) ≡ Some (Hint moment piece) =
    ap (option_and_then (λ p. hint_at moment.0 p)) (so_bytes o.digits piece o.described o.some) ∙ so_hint_at moment.0 piece o.short in (
      text,
      o.is,
      so_cut (λ (m ds : List ℕ). option_and_then (λ n. option_and_then (λ p. hint_at n p) (bytes_of ds)) (moment_word m)) text (decimal moment.0) o.digits (Hint moment piece) refl (moment_plain moment.0 o.moment_is)
          (ap (option_and_then (λ n. option_and_then (λ p. hint_at n p) (bytes_of o.digits))) ((moment_text (decimal moment.0) moment.0).1 (refl, o.moment_is)) ∙ at),
    )

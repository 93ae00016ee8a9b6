-- A line cut behind some of its tokens, with other tokens behind them.
use Rattle.std.proofs.Common.{◌≡◌, ℕ, ◌+◌, ◌-◌, ◌≤◌, inl, false, List, [], ◌∷◌, ◌++◌, codes, length, length-append, take, drop, Option, Some, None, refl, sym, ap, subst, ◌∙◌, append_assoc, arith}
use Rattle.std.proofs.Math.Seq.{drop-append-add, take-append_seam}
use Rattle.std.proofs.lemmas.List.{take-append-le}
use Rattle.ug_words.specs.Grammar.{Empty, goes_on, StandsInLine, Blank, Mark, Word, String, LinePart, parts_text, AllStand, token_at, tokens_placed, width, Good}
use Rattle.ug_words.specs.declared.token.Token.{Token}
use Rattle.ug_words.specs.declared.token.TokenKind.{TokenKind}
use Rattle.ug_words.specs.declared.token.TokenKind.TheVariants as kind
use Rattle.ug_rule_faults.specs.FirstFault.{end_behind}
use Rattle.ug_rule.specs.Tokens.{word_by}
use Rattle.ug_rule_faults.proofs.Completions as fill
use Rattle.ug_rule_faults.proofs.Completions.{Filler, filler_bytes, filler_kind, filler_word, Spelled}

-- ---- parts in a row

joined_more : (front back : List LinePart) (rest : List ℕ) → parts_text (front ++ back) rest ≡ parts_text front (parts_text back rest)
joined_more [] back rest = refl
joined_more (part ∷ front) back rest = ap (λ l. part.bytes ++ l) (joined_more front back rest)

joined_apart : (front : List LinePart) (rest : List ℕ) → parts_text front rest ≡ parts_text front [] ++ rest
joined_apart [] rest = refl
joined_apart (part ∷ front) rest = ap (λ l. part.bytes ++ l) (joined_apart front rest) ∙ sym (append_assoc part.bytes (parts_text front []) rest)

joined_width : (front : List LinePart) → length (parts_text front []) ≡ width front
joined_width [] = refl
joined_width (part ∷ front) = length-append part.bytes (parts_text front []) ∙ ap (λ n. length part.bytes + n) (joined_width front)

placed_more : (at : ℕ) (front back : List LinePart) → tokens_placed at (front ++ back) ≡ tokens_placed at front ++ tokens_placed (at + width front) back
placed_more at [] back = ap (λ n. tokens_placed n back) (let e : at ≡ at + 0 = omega arith in e)
placed_more at (part ∷ front) back =
    let n : at + length part.bytes + width front ≡ at + (length part.bytes + width front) = omega arith in
    ap (λ l. token_at at part.bytes part.kind ++ l) (placed_more (at + length part.bytes) front back ∙ ap (λ n. tokens_placed (at + length part.bytes) front ++ tokens_placed n back) n)
    ∙ sym (append_assoc (token_at at part.bytes part.kind) (tokens_placed (at + length part.bytes) front) (tokens_placed (at + (length part.bytes + width front)) back))

placed_end : (from at : ℕ) (front : List LinePart) → from ≤ at → end_behind from (tokens_placed at front) ≤ at + width front
placed_end from at [] h = omega (arith, h)
placed_end from at (part ∷ front) h = by part.kind (λ m l. placed_end m (at + length part.bytes) front l)
  where
    Again : Type 0
    Again = (m : ℕ) → m ≤ at + length part.bytes → end_behind m (tokens_placed (at + length part.bytes) front) ≤ at + length part.bytes + width front

    here : (m : ℕ) → end_behind m (tokens_placed (at + length part.bytes) front) ≤ at + length part.bytes + width front → end_behind m (tokens_placed (at + length part.bytes) front) ≤ at + (length part.bytes + width front)
    here m l = omega (arith, l)

    by : (o : Option TokenKind) → Again → end_behind from (token_at at part.bytes o ++ tokens_placed (at + length part.bytes) front) ≤ at + (length part.bytes + width front)
    by None again = here from (again from (omega (arith, h)))
    by (Some kind) again = here (at + length part.bytes) (again (at + length part.bytes) (omega arith))

-- the parts up to the last of some tokens
record Cut (at : ℕ) (parts : List LinePart) (before behind : List Token) : Type 0 where
  front : List LinePart
  back : List LinePart
  cut : parts ≡ front ++ back
  is : before ≡ tokens_placed at front

cut_parts : (at : ℕ) (parts : List LinePart) (before behind : List Token) → tokens_placed at parts ≡ before ++ behind → Cut at parts before behind
cut_parts at parts [] behind h = record { front = []; back = parts; cut = refl; is = refl }
cut_parts at [] (token ∷ before) behind h = let none : ⊥ = cc in absurd none
cut_parts at (part ∷ parts) (token ∷ before) behind h =
    let T : Option TokenKind → Type 0 = λ o. part.kind ≡ o → token_at at part.bytes o ++ tokens_placed (at + length part.bytes) parts ≡ (token ∷ before) ++ behind → Cut at (part ∷ parts) (token ∷ before) behind in
    let f : (o : Option TokenKind) → T o = λ o. elim o as T [
      | None ↦ λ e k.
          let c : Cut (at + length part.bytes) parts (token ∷ before) behind = cut_parts (at + length part.bytes) parts (token ∷ before) behind k in
          record { front = part ∷ c.front; back = c.back; cut = ap (λ l. part ∷ l) c.cut; is = c.is ∙ ap (λ o. token_at at part.bytes o ++ tokens_placed (at + length part.bytes) c.front) (sym e) }
      | Some kind ↦ λ e k.
          let same : tokens_placed (at + length part.bytes) parts ≡ before ++ behind = cc in
          let first : token_at at part.bytes (Some kind) ≡ token ∷ [] = let t : record { kind = kind; start = at; end = at + length part.bytes } ≡ token = cc in ap (λ t. t ∷ []) t in
          let c : Cut (at + length part.bytes) parts before behind = cut_parts (at + length part.bytes) parts before behind same in
          record {
            front = part ∷ c.front;
            back = c.back;
            cut = ap (λ l. part ∷ l) c.cut;
            is = ap (λ l. token ∷ l) c.is ∙ (ap (λ l. l ++ tokens_placed (at + length part.bytes) c.front) (sym first) ∙ ap (λ o. token_at at part.bytes o ++ tokens_placed (at + length part.bytes) c.front) (sym e));
          }
    ] in
    f part.kind refl h

-- ---- what stands with something else behind it

stands_before : (bytes : List ℕ) (o : Option TokenKind) (rest other : List ℕ) → StandsInLine bytes o rest → (goes_on rest ≡ false → goes_on other ≡ false) → StandsInLine bytes o other
stands_before bytes o rest other (Blank b r h) f = Blank b other h
stands_before bytes o rest other (Mark b mark r h) f = Mark b mark other h
stands_before bytes o rest other (Word b run r a g) f = Word b run other a (f g)
stands_before bytes o rest other (String inside text r s) f = String inside text other s

-- what a part begins with doesn't hang on what is behind it
first_same : (bytes : List ℕ) (o : Option TokenKind) (behind rest other : List ℕ) → StandsInLine bytes o behind → goes_on (bytes ++ rest) ≡ false → goes_on (bytes ++ other) ≡ false
first_same bytes o behind rest other (Blank b r h) g = g
first_same bytes o behind rest other (Mark b mark r h) g = g
first_same bytes o behind rest other (Word b run r a k) g = g
first_same bytes o behind rest other (String inside text r s) g = g

front_stands : (front : List LinePart) (rest other : List ℕ) → AllStand front rest → goes_on other ≡ false → AllStand front other
front_stands [] rest other a g = tt
front_stands (part ∷ front) rest other a g = (stands_before part.bytes part.kind (parts_text front rest) (parts_text front other) a.0 (λ k. first front a.1 k), front_stands front rest other a.1 g)
  where
    first : (front : List LinePart) → AllStand front rest → goes_on (parts_text front rest) ≡ false → goes_on (parts_text front other) ≡ false
    first [] b k = g
    first (next ∷ front) b k = first_same next.bytes next.kind (parts_text front rest) (parts_text front rest) (parts_text front other) b.0 k

stand_more : (front back : List LinePart) (rest : List ℕ) → AllStand front (parts_text back rest) → AllStand back rest → AllStand (front ++ back) rest
stand_more [] back rest a b = b
stand_more (part ∷ front) back rest a b = (subst (StandsInLine part.bytes part.kind) (sym (joined_more front back rest)) a.0, stand_more front back rest a.1 b)

stand_front : (front back : List LinePart) (rest : List ℕ) → AllStand (front ++ back) rest → AllStand front (parts_text back rest)
stand_front [] back rest a = tt
stand_front (part ∷ front) back rest a = (subst (StandsInLine part.bytes part.kind) (joined_more front back rest) a.0, stand_front front back rest a.1)

-- ---- fillers, each behind a blank

abbrev blank : LinePart
blank = record { bytes = 32 ∷ []; kind = None }

abbrev part_of : Filler → LinePart
part_of filler = record { bytes = filler_bytes filler; kind = Some (filler_kind filler) }

abbrev parts_of : List Filler → List LinePart
parts_of [] = []
parts_of (filler ∷ fillers) = blank ∷ part_of filler ∷ parts_of fillers

blank_behind : (fillers : List Filler) → goes_on (parts_text (parts_of fillers) []) ≡ false
blank_behind [] = refl
blank_behind (filler ∷ fillers) = refl

filler_stands : (filler : Filler) (rest : List ℕ) → goes_on rest ≡ false → StandsInLine (filler_bytes filler) (Some (filler_kind filler)) rest
filler_stands fill.Allow rest g = Word 97 (codes "llow") rest (refl, (refl, (refl, (refl, (refl, tt))))) g
filler_stands fill.Label rest g = Word 108 (codes "abel") rest (refl, (refl, (refl, (refl, (refl, tt))))) g
filler_stands fill.True rest g = Word 116 (codes "rue") rest (refl, (refl, (refl, (refl, tt)))) g
filler_stands fill.AnyId rest g = Word 42 (codes ":*") rest (refl, (refl, (refl, tt))) g
filler_stands fill.AnyInterface rest g = Word 48 (codes "0:*:*") rest (refl, (refl, (refl, (refl, (refl, (refl, tt)))))) g
filler_stands fill.Nothing rest g = String [] [] rest Empty
filler_stands fill.Midnight rest g = Word 48 (codes "0:00") rest (refl, (refl, (refl, (refl, (refl, tt))))) g
filler_stands fill.Zero rest g = Word 48 [] rest (refl, tt) g
filler_stands fill.BraceOpen rest g = Mark 123 kind.Open rest refl
filler_stands fill.BraceClose rest g = Mark 125 kind.Close rest refl
filler_stands fill.ParenOpen rest g = Mark 40 kind.ParenOpen rest refl
filler_stands fill.ParenClose rest g = Mark 41 kind.ParenClose rest refl

fillers_stand : (fillers : List Filler) → AllStand (parts_of fillers) []
fillers_stand [] = tt
fillers_stand (filler ∷ fillers) =
    (Blank 32 (parts_text (part_of filler ∷ parts_of fillers) []) refl, (filler_stands filler (parts_text (parts_of fillers) []) (blank_behind fillers), fillers_stand fillers))

filler_says : (filler : Filler) (line : List ℕ) (start end : ℕ) → take (end - start) (drop start line) ≡ filler_bytes filler → word_by line (filler_kind filler) start end ≡ filler_word filler
filler_says fill.Allow line start end e = e
filler_says fill.Label line start end e = e
filler_says fill.True line start end e = e
filler_says fill.AnyId line start end e = e
filler_says fill.AnyInterface line start end e = e
filler_says fill.Nothing line start end e = refl
filler_says fill.Midnight line start end e = e
filler_says fill.Zero line start end e = e
filler_says fill.BraceOpen line start end e = refl
filler_says fill.BraceClose line start end e = refl
filler_says fill.ParenOpen line start end e = refl
filler_says fill.ParenClose line start end e = refl

part_says : (before bytes behind : List ℕ) (at : ℕ) → at ≡ length before → take (at + length bytes - at) (drop at (before ++ (bytes ++ behind))) ≡ bytes
part_says before bytes behind at e =
    let n : at + length bytes - at ≡ length bytes = omega arith in
    let zero : at ≡ length before + 0 = omega (arith, e) in
    ap (λ k. take k (drop at (before ++ (bytes ++ behind)))) n
    ∙ (ap (λ k. take (length bytes) (drop k (before ++ (bytes ++ behind)))) zero
    ∙ (ap (take (length bytes)) (drop-append-add before (bytes ++ behind) 0) ∙ take-append_seam bytes behind))

fillers_spelled : (line before : List ℕ) (at : ℕ) (fillers : List Filler) → at ≡ length before → line ≡ before ++ parts_text (parts_of fillers) [] → Spelled line (tokens_placed at (parts_of fillers)) fillers
fillers_spelled line before at [] e l = tt
fillers_spelled line before at (filler ∷ fillers) e l =
    let bytes : List ℕ = filler_bytes filler in
    let rest : List ℕ = parts_text (parts_of fillers) [] in
    let next : at + 1 ≡ length (before ++ 32 ∷ []) = omega (arith, e, length-append before (32 ∷ [])) in
    let cut : line ≡ (before ++ 32 ∷ []) ++ (bytes ++ rest) = l ∙ sym (append_assoc before (32 ∷ []) (bytes ++ rest)) in
    let word : take (at + 1 + length bytes - (at + 1)) (drop (at + 1) line) ≡ bytes = ap (λ l. take (at + 1 + length bytes - (at + 1)) (drop (at + 1) l)) cut ∙ part_says (before ++ 32 ∷ []) bytes rest (at + 1) next in
    let further : at + 1 + length bytes ≡ length ((before ++ 32 ∷ []) ++ bytes) = omega (arith, next, length-append (before ++ 32 ∷ []) bytes) in
    (refl, filler_says filler line (at + 1) (at + 1 + length bytes) word, fillers_spelled line ((before ++ 32 ∷ []) ++ bytes) (at + 1 + length bytes) fillers further (cut ∙ sym (append_assoc (before ++ 32 ∷ []) bytes rest)))

-- ---- the other line

pub record Filled (line : List ℕ) (before : List Token) (fillers : List Filler) : Type 0 where
  pub other : List ℕ
  pub more : List Token
  pub same : take (end_behind 0 before) other ≡ take (end_behind 0 before) line
  pub cut : Good other (before ++ more)
  pub spelled : Spelled other more fillers

pub filled : (line : List ℕ) (before behind : List Token) (fillers : List Filler) → Good line (before ++ behind) → Filled line before fillers
filled line before behind fillers g =
    let c : Cut 0 g.parts before behind = cut_parts 0 g.parts before behind (sym g.says) in
    let whole : line ≡ parts_text c.front [] ++ parts_text c.back g.rest = g.all ∙ (ap (λ l. parts_text l g.rest) c.cut ∙ (joined_more c.front c.back g.rest ∙ joined_apart c.front (parts_text c.back g.rest))) in
    let parts : List LinePart = c.front ++ parts_of fillers in
    let other : List ℕ = parts_text parts [] in
    let cut : other ≡ parts_text c.front [] ++ parts_text (parts_of fillers) [] = joined_more c.front (parts_of fillers) [] ∙ joined_apart c.front (parts_text (parts_of fillers) []) in
    let stand : AllStand c.front (parts_text (parts_of fillers) []) = front_stands c.front (parts_text c.back g.rest) (parts_text (parts_of fillers) []) (stand_front c.front c.back g.rest (subst (λ l. AllStand l g.rest) c.cut g.stand)) (blank_behind fillers) in
    let tokens : tokens_placed 0 parts ≡ before ++ tokens_placed (width c.front) (parts_of fillers) = placed_more 0 c.front (parts_of fillers) ∙ (ap (λ n. tokens_placed 0 c.front ++ tokens_placed n (parts_of fillers)) (let z : 0 + width c.front ≡ width c.front = omega arith in z) ∙ ap (λ l. l ++ tokens_placed (width c.front) (parts_of fillers)) (sym c.is)) in
    let most : end_behind 0 before ≤ length (parts_text c.front []) = omega (arith, ap (end_behind 0) c.is, placed_end 0 0 c.front (omega arith), joined_width c.front) in
    record {
      other = other;
      more = tokens_placed (width c.front) (parts_of fillers);
      same = ap (take (end_behind 0 before)) cut
          ∙ (take-append-le (end_behind 0 before) (parts_text c.front []) (parts_text (parts_of fillers) []) most
          ∙ (sym (take-append-le (end_behind 0 before) (parts_text c.front []) (parts_text c.back g.rest) most)
          ∙ ap (take (end_behind 0 before)) (sym whole)));
      cut = record { parts = parts; rest = []; all = refl; stand = stand_more c.front (parts_of fillers) [] stand (fillers_stand fillers); ends = inl refl; says = sym tokens };
      spelled = fillers_spelled other (parts_text c.front []) (width c.front) fillers (sym (joined_width c.front)) cut;
    }

-- The line of a malformed device is one line.
use Rattle.std.proofs.Common.{◌≡◌, ℕ, ◌<◌, ◌^◌, List, [], ◌∷◌, ◌++◌, codes, refl, ap, ◌∙◌}
use Rattle.std.specs.Prelude.{decimal}
use Rattle.std.proofs.lemmas.Fmt.{decimal_nonempty}
use Rattle.ug_types.specs.declared.verdict.Target.{Target}
use Rattle.ug_lines.specs.Splitting.{IsLine}
use Rattle.ug_print.specs.Bytes.{AreBytes}
use Rattle.ug_print.specs.DeviceLines.{malformed_text}
use Rattle.ug_print.specs.Items.{string_text}
use Rattle.ug_print.specs.Words.{joined}
use Rattle.ug_types.specs.Targets.{target_word}
use Rattle.ug_words.proofs.Decimals.{decimal_written}
use Rattle.ug_print.proofs.Decimals.{digits_word, word_of_bytes}
use Rattle.ug_print.proofs.OneLine.{cut_line}
use Rattle.ug_print.proofs.Pieces.{Piece, CutAll, IsWord, cut_word, joined_cut, one_word, word_piece}
use Rattle.ug_print.proofs.Readings.{known_word}
use Rattle.ug_print.proofs.RuleAgain.{target_known}
use Rattle.ug_print.proofs.Strings.{string_piece}
use Rattle.ug_print.proofs.ValuesAgain.{ItemPiece}
use Rattle.ug_rule.specs.Values.{string_in}

decimal_word : (n : ℕ) → n < 2 ^ 64 → IsWord (decimal n)
decimal_word n h = word_of_bytes (decimal n) (decimal_nonempty n h) (digits_word (decimal n) (decimal_written n h).digits)

-- words that are cut into pieces
record Words (ws : List (List ℕ)) : Type 0 where
  pieces : List Piece
  cut : CutAll ws pieces

word_more : (word : List ℕ) (ws : List (List ℕ)) → IsWord word → Words ws → Words (word ∷ ws)
word_more word ws h w = record { pieces = word_piece word ∷ w.pieces; cut = cut_word word ws (word_piece word ∷ []) w.pieces (one_word word h) w.cut }

abbrev port_words : List ℕ → List (List ℕ)
port_words name = codes "via-port" ∷ string_text name ∷ []

pub malformed_on_line : (verdict : Target) (kind place : ℕ) (name : List ℕ) → kind < 2 ^ 64 → place < 2 ^ 64 → AreBytes name → IsLine (malformed_text verdict kind place name)
unfolding malformed_text
malformed_on_line verdict kind place name k p b =
    let s : ItemPiece string_in (string_text name) name = string_piece name b in
    let string : Words (string_text name ∷ []) = record { pieces = s.piece ∷ []; cut = cut_word (string_text name) [] (s.piece ∷ []) [] s.cut refl } in
    let port : Words (port_words name) = word_more (codes "via-port") (string_text name ∷ []) (known_word (codes "via-port") refl) string in
    let at : Words (decimal place ∷ port_words name) = word_more (decimal place) (port_words name) (decimal_word place p) port in
    let what : Words (decimal kind ∷ decimal place ∷ port_words name) = word_more (decimal kind) (decimal place ∷ port_words name) (decimal_word kind k) at in
    let named : Words (codes "malformed" ∷ decimal kind ∷ decimal place ∷ port_words name) = word_more (codes "malformed") (decimal kind ∷ decimal place ∷ port_words name) (known_word (codes "malformed") refl) what in
    let all : Words (target_word verdict ∷ codes "malformed" ∷ decimal kind ∷ decimal place ∷ port_words name) = word_more (target_word verdict) (codes "malformed" ∷ decimal kind ∷ decimal place ∷ port_words name) (target_known verdict).0 named in
    let ws : List (List ℕ) = target_word verdict ∷ codes "malformed" ∷ decimal kind ∷ decimal place ∷ port_words name in
    cut_line (joined ws) all.pieces (joined_cut ws all.pieces all.cut)

-- the words, as they are put one behind another
pub words_put : (verdict : Target) (kind place : ℕ) (name : List ℕ) (w0 w1 w2 w3 w4 w5 w6 : List (List ℕ)) (s : List ℕ)
    → w0 ≡ [] → w1 ≡ w0 ++ target_word verdict ∷ [] → w2 ≡ w1 ++ codes "malformed" ∷ [] → w3 ≡ w2 ++ decimal kind ∷ [] → w4 ≡ w3 ++ decimal place ∷ []
    → w5 ≡ w4 ++ codes "via-port" ∷ [] → s ≡ string_text name → w6 ≡ w5 ++ s ∷ [] → joined w6 ≡ malformed_text verdict kind place name
unfolding malformed_text
words_put verdict kind place name w0 w1 w2 w3 w4 w5 w6 s e0 e1 e2 e3 e4 e5 es e6 =
    let put : List ℕ → List (List ℕ) → List (List ℕ) = λ word words. words ++ word ∷ [] in
    let f1 : w1 ≡ target_word verdict ∷ [] = e1 ∙ ap (put (target_word verdict)) e0 in
    let f2 : w2 ≡ target_word verdict ∷ codes "malformed" ∷ [] = e2 ∙ ap (put (codes "malformed")) f1 in
    let f3 : w3 ≡ target_word verdict ∷ codes "malformed" ∷ decimal kind ∷ [] = e3 ∙ ap (put (decimal kind)) f2 in
    let f4 : w4 ≡ target_word verdict ∷ codes "malformed" ∷ decimal kind ∷ decimal place ∷ [] = e4 ∙ ap (put (decimal place)) f3 in
    let f5 : w5 ≡ target_word verdict ∷ codes "malformed" ∷ decimal kind ∷ decimal place ∷ codes "via-port" ∷ [] = e5 ∙ ap (put (codes "via-port")) f4 in
    ap joined (e6 ∙ ap (put s) f5 ∙ ap (λ (word : List ℕ). target_word verdict ∷ codes "malformed" ∷ decimal kind ∷ decimal place ∷ codes "via-port" ∷ word ∷ []) es)

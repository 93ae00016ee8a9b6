-- The first command of that name is the one that the word chooses.
use Rattle.std.proofs.Common.{◌≡◌, ◌∙◌, ◌+◌, ◌<◌, ◌≤◌, ℕ, Bool, cond, true, false, List, length, drop, get_or, Some, None, refl, sym, ap}
use Rattle.std.specs.List.{find}
use Rattle.std.proofs.lemmas.List.{at_drop_more, at_drop_all}
use Rattle.ug_arguments.specs.Arguments.{all_words, spells_command}
use Rattle.ug_arguments.specs.CommandWords.{asking_word_in, rule_word_in, word_in}
use Rattle.ug_arguments.specs.SimpleCommands.{app_of_word}
use Rattle.ug_arguments.specs.declared.command_word.CommandWord.{CommandWord}

pub among_all : (text : List ℕ) → find (spells_command text) all_words ≡ word_in text
unfolding app_of_word word_in asking_word_in rule_word_in
among_all text = refl

pub passed_over : (text : List ℕ) (words : List CommandWord) (i : ℕ) (d : CommandWord) → i < length words → spells_command text (get_or words i d) ≡ false
    → find (spells_command text) (drop i words) ≡ word_in text → find (spells_command text) (drop (i + 1) words) ≡ word_in text
passed_over text words i d lt other h =
    sym (at_drop_more (find (spells_command text)) words i d lt ∙ ap (λ (b : Bool). cond b (Some (get_or words i d)) (find (spells_command text) (drop (i + 1) words))) other) ∙ h

pub chosen : (text : List ℕ) (words : List CommandWord) (i : ℕ) (d : CommandWord) → i < length words → spells_command text (get_or words i d) ≡ true
    → find (spells_command text) (drop i words) ≡ word_in text → Some (get_or words i d) ≡ word_in text
chosen text words i d lt this h =
    sym (at_drop_more (find (spells_command text)) words i d lt ∙ ap (λ (b : Bool). cond b (Some (get_or words i d)) (find (spells_command text) (drop (i + 1) words))) this) ∙ h

pub none_chosen : (text : List ℕ) (words : List CommandWord) (i : ℕ) → length words ≤ i → find (spells_command text) (drop i words) ≡ word_in text → None ≡ word_in text
none_chosen text words i past h = sym (at_drop_all (find (spells_command text)) words i past) ∙ h

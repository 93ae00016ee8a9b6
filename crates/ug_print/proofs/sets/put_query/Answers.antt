use Rattle.std.proofs.Common.{◌≡◌, ℕ, List, ◌++◌, codes}
use Rattle.std.proofs.lemmas.Result.{on_ok_weaker}
use Rattle.ug_print.specs.Items.{id_text, interface_text, string_text}
use Rattle.ug_print.specs.Words.{attribute_words, label_words, query_words}
use Rattle.ug_print.proofs.Appending.{then}
use Rattle.ug_print.proofs.sets.put_query.Goals as goal

pub returns-clause-words : goal.returns-clause-words
unfolding query_words
returns-clause-words c =
    let start : List (List ℕ) = c.args.words.now in
    let w0 : List (List ℕ) = attribute_words (codes "id") id_text c.args.query.now.id in
    let w1 : List (List ℕ) = attribute_words (codes "serial") string_text c.args.query.now.serial in
    let w2 : List (List ℕ) = attribute_words (codes "name") string_text c.args.query.now.name in
    let w3 : List (List ℕ) = attribute_words (codes "hash") string_text c.args.query.now.hash in
    let w4 : List (List ℕ) = attribute_words (codes "parent-hash") string_text c.args.query.now.parent_hash in
    let w5 : List (List ℕ) = attribute_words (codes "via-port") string_text c.args.query.now.via_port in
    let w6 : List (List ℕ) = attribute_words (codes "with-interface") interface_text c.args.query.now.interface in
    let w7 : List (List ℕ) = attribute_words (codes "with-connect-type") string_text c.args.query.now.connect in
    let w8 : List (List ℕ) = label_words c.args.query.now.label in
    let e1 : c.put_texts.new.words ≡ start ++ (w0 ++ w1) = then start (w0) w1 c.put_ids.new.words c.put_texts.new.words c.in_ok-put_ids.ensures c.in_ok-put_texts.ensures.words in
    let e2 : c.put_texts-2.new.words ≡ start ++ (w0 ++ w1 ++ w2) = then start (w0 ++ w1) w2 c.put_texts.new.words c.put_texts-2.new.words e1 c.in_ok-put_texts-2.ensures.words in
    let e3 : c.put_texts-3.new.words ≡ start ++ (w0 ++ w1 ++ w2 ++ w3) = then start (w0 ++ w1 ++ w2) w3 c.put_texts-2.new.words c.put_texts-3.new.words e2 c.in_ok-put_texts-3.ensures.words in
    let e4 : c.put_texts-4.new.words ≡ start ++ (w0 ++ w1 ++ w2 ++ w3 ++ w4) = then start (w0 ++ w1 ++ w2 ++ w3) w4 c.put_texts-3.new.words c.put_texts-4.new.words e3 c.in_ok-put_texts-4.ensures.words in
    let e5 : c.put_texts-5.new.words ≡ start ++ (w0 ++ w1 ++ w2 ++ w3 ++ w4 ++ w5) = then start (w0 ++ w1 ++ w2 ++ w3 ++ w4) w5 c.put_texts-4.new.words c.put_texts-5.new.words e4 c.in_ok-put_texts-5.ensures.words in
    let e6 : c.put_interfaces.new.words ≡ start ++ (w0 ++ w1 ++ w2 ++ w3 ++ w4 ++ w5 ++ w6) = then start (w0 ++ w1 ++ w2 ++ w3 ++ w4 ++ w5) w6 c.put_texts-5.new.words c.put_interfaces.new.words e5 c.in_ok-put_interfaces.ensures in
    let e7 : c.put_texts-6.new.words ≡ start ++ (w0 ++ w1 ++ w2 ++ w3 ++ w4 ++ w5 ++ w6 ++ w7) = then start (w0 ++ w1 ++ w2 ++ w3 ++ w4 ++ w5 ++ w6) w7 c.put_interfaces.new.words c.put_texts-6.new.words e6 c.in_ok-put_texts-6.ensures.words in
    on_ok_weaker c.put_label.result (λ e. then start (w0 ++ w1 ++ w2 ++ w3 ++ w4 ++ w5 ++ w6 ++ w7) w8 c.put_texts-6.new.words c.put_label.new.words e7 e) c.put_label.ensures.words

pub returns-clause-bytes : goal.returns-clause-bytes
returns-clause-bytes c =
    on_ok_weaker c.put_label.result (λ label. record {
      serial = c.in_ok-put_texts.ensures.bytes;
      name = c.in_ok-put_texts-2.ensures.bytes;
      hash = c.in_ok-put_texts-3.ensures.bytes;
      parent_hash = c.in_ok-put_texts-4.ensures.bytes;
      via_port = c.in_ok-put_texts-5.ensures.bytes;
      connect = c.in_ok-put_texts-6.ensures.bytes;
      label = label;
    }) c.put_label.ensures.bytes

use Rattle.std.proofs.Common.{refl}
use Rattle.hex.specs.Hex.{decode_pairs}
use Rattle.ug_words.specs.Lexing.{front_of, quoted_from, tokens_from, tokens_of}
use Rattle.ug_words.specs.Keywords.{attribute_of, is_if, operator_of}
use Rattle.ug_words.specs.Words.{four_of, id_of, interface_of, star, two_of, two_stars}
use Rattle.ug_rule.specs.Queries.{attributes_from, bare_of, is_empty_query, query_of, stray, with_attribute}
use Rattle.ug_rule.specs.Rules.{whole_query}
use Rattle.ug_rule.specs.Values.{items_of, text_of, value_of}
use Rattle.ug_iface.proofs.laws.iface_lines_law.Goals as goal

pub returns-clause-rule : goal.returns-clause-rule
unfolding decode_pairs tokens_of tokens_from front_of quoted_from interface_of id_of two_of four_of star two_stars operator_of attribute_of is_if is_empty_query with_attribute attributes_from bare_of query_of stray whole_query items_of value_of text_of
returns-clause-rule c = refl

pub returns-clause-attribute : goal.returns-clause-attribute
unfolding decode_pairs tokens_of tokens_from front_of quoted_from interface_of id_of two_of four_of star two_stars operator_of attribute_of is_if is_empty_query with_attribute attributes_from bare_of query_of stray whole_query items_of value_of text_of
returns-clause-attribute c = refl

pub returns-clause-other_word : goal.returns-clause-other_word
unfolding decode_pairs tokens_of tokens_from front_of quoted_from interface_of id_of two_of four_of star two_stars operator_of attribute_of is_if is_empty_query with_attribute attributes_from bare_of query_of stray whole_query items_of value_of text_of
returns-clause-other_word c = refl

pub returns-clause-comment : goal.returns-clause-comment
unfolding decode_pairs tokens_of tokens_from front_of quoted_from interface_of id_of two_of four_of star two_stars operator_of attribute_of is_if is_empty_query with_attribute attributes_from bare_of query_of stray whole_query items_of value_of text_of
returns-clause-comment c = refl

pub returns-clause-lexical : goal.returns-clause-lexical
unfolding decode_pairs tokens_of tokens_from front_of quoted_from interface_of id_of two_of four_of star two_stars operator_of attribute_of is_if is_empty_query with_attribute attributes_from bare_of query_of stray whole_query items_of value_of text_of
returns-clause-lexical c = refl

pub returns-clause-no_type : goal.returns-clause-no_type
unfolding decode_pairs tokens_of tokens_from front_of quoted_from interface_of id_of two_of four_of star two_stars operator_of attribute_of is_if is_empty_query with_attribute attributes_from bare_of query_of stray whole_query items_of value_of text_of
returns-clause-no_type c = refl

pub returns-clause-bad_type : goal.returns-clause-bad_type
unfolding decode_pairs tokens_of tokens_from front_of quoted_from interface_of id_of two_of four_of star two_stars operator_of attribute_of is_if is_empty_query with_attribute attributes_from bare_of query_of stray whole_query items_of value_of text_of
returns-clause-bad_type c = refl

pub returns-clause-no_query : goal.returns-clause-no_query
unfolding decode_pairs tokens_of tokens_from front_of quoted_from interface_of id_of two_of four_of star two_stars operator_of attribute_of is_if is_empty_query with_attribute attributes_from bare_of query_of stray whole_query items_of value_of text_of
returns-clause-no_query c = refl

pub returns-clause-unknown : goal.returns-clause-unknown
unfolding decode_pairs tokens_of tokens_from front_of quoted_from interface_of id_of two_of four_of star two_stars operator_of attribute_of is_if is_empty_query with_attribute attributes_from bare_of query_of stray whole_query items_of value_of text_of
returns-clause-unknown c = refl

pub returns-clause-repeated : goal.returns-clause-repeated
unfolding decode_pairs tokens_of tokens_from front_of quoted_from interface_of id_of two_of four_of star two_stars operator_of attribute_of is_if is_empty_query with_attribute attributes_from bare_of query_of stray whole_query items_of value_of text_of
returns-clause-repeated c = refl

pub returns-clause-condition : goal.returns-clause-condition
unfolding decode_pairs tokens_of tokens_from front_of quoted_from interface_of id_of two_of four_of star two_stars operator_of attribute_of is_if is_empty_query with_attribute attributes_from bare_of query_of stray whole_query items_of value_of text_of
returns-clause-condition c = refl

pub returns-clause-trailing : goal.returns-clause-trailing
unfolding decode_pairs tokens_of tokens_from front_of quoted_from interface_of id_of two_of four_of star two_stars operator_of attribute_of is_if is_empty_query with_attribute attributes_from bare_of query_of stray whole_query items_of value_of text_of
returns-clause-trailing c = refl

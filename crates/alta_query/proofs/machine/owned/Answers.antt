use Rattle.alta_machine.specs.Patterns.{phrase_pattern}
use Rattle.alta_query.proofs.Texts.{titled_text, prefix_text, name_text}
use Rattle.alta_query.proofs.machine.owned.Goals as goal

pub returns-in_ok-tests_of-in-Words-clause-text : goal.returns-in_ok-tests_of-in-Words-clause-text
returns-in_ok-tests_of-in-Words-clause-text c =
    titled_text c.in-Words.title (phrase_pattern c.in_ok-tests_of-in-Words.field-0) c.in_ok-tests_of-in-Words.ensures.text

pub returns-in_ok-stem_test-in-Prefix-clause-text :
    goal.returns-in_ok-stem_test-in-Prefix-clause-text
returns-in_ok-stem_test-in-Prefix-clause-text c =
    prefix_text c.in-Prefix.title c.in_ok-copied-in-Prefix.field-0 c.in_ok-stem_test-in-Prefix.field-0 c.in_ok-stem_test-in-Prefix.ensures.text

pub returns-in_ok-copied-in-Name-clause-text : goal.returns-in_ok-copied-in-Name-clause-text
returns-in_ok-copied-in-Name-clause-text c =
    name_text c.in_ok-copied-in-Name.field-0 c.in_ok-copied-in-Name.ensures.text

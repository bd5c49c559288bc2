use Rattle.std.proofs.Common.{◌+◌}
use Rattle.alta_codec.specs.Rising.{pred_of}
use Rattle.alta_lead.specs.View.{chains_of}
use Rattle.alta_lead.proofs.Leading.{unmoved, made_sound, made_answers, made_moves}
use Rattle.alta_lead.proofs.reader.LeadReader.new.Goals as goal

pub bring-requires-clause-unpassed : goal.bring-requires-clause-unpassed
bring-requires-clause-unpassed g c =
    let R = g.R.Reader in let a = c.args in
    unmoved R.list R.location (record { ends = a.ends.inner; words = a.words.items; negated = a.negated.items }) (pred_of (R.list a.ends.inner) 1 + 1)
    c.requires.ends_unmoved c.requires.words_unmoved c.requires.negated_unmoved

pub returns-clause-sound : goal.returns-clause-sound
returns-clause-sound g c =
    let R = g.R.Reader in let a = c.args in
    made_sound R.sound R.list R.all R.location R.left R.cost a.lead (record { ends = a.ends.inner; words = a.words.items; negated = a.negated.items }) c.bring.new.self a.steps.now c.bring.new.steps
    c.bring.ensures.gone (g.met.R.Reader.rises a.ends.inner c.requires.ends) c.requires.lead c.bring.ensures.lead

pub returns-clause-answers : goal.returns-clause-answers
returns-clause-answers g c =
    let R = g.R.Reader in let a = c.args in
    made_answers R.sound R.list R.all R.location R.left R.cost a.lead (record { ends = a.ends.inner; words = a.words.items; negated = a.negated.items }) c.bring.new.self a.steps.now c.bring.new.steps
    c.bring.ensures.gone (g.met.R.Reader.rises a.ends.inner c.requires.ends)

pub returns-clause-moves : goal.returns-clause-moves
returns-clause-moves g c =
    let R = g.R.Reader in let a = c.args in
    made_moves R.sound R.list R.all R.location R.left R.cost a.lead (record { ends = a.ends.inner; words = a.words.items; negated = a.negated.items }) (chains_of c.bring.new.self) 1 c.bring.new.self.at
    a.steps.now c.bring.new.steps c.bring.ensures.gone

pub returns-clause-same_ends : goal.returns-clause-same_ends
returns-clause-same_ends g c = c.bring.ensures.gone.moved.ends.same_list

pub returns-clause-same_words : goal.returns-clause-same_words
returns-clause-same_words g c = c.bring.ensures.gone.moved.words.lists

pub returns-clause-same_negated : goal.returns-clause-same_negated
returns-clause-same_negated g c = c.bring.ensures.gone.moved.negated.lists

use Rattle.alta_memlevel.proofs.Behind.{may_join_behind}
use Rattle.alta_memlevel.proofs.One.{content_has, one_content}
use Rattle.alta_memlevel.proofs.Made.{made_back, made_live_back}
use Rattle.alta_memlevel.proofs.Live.{live_added, live_joined}
use Rattle.alta_memlevel.proofs.Part.{have_level, have_part}
use Rattle.alta_memlevel.proofs.laws.drained_documents_are_kept.Goals as goal

pub returns-clause-has : goal.returns-clause-has
returns-clause-has c = λ added s. content_has added s

pub returns-clause-one : goal.returns-clause-one
returns-clause-one c = λ added content h. one_content added content h

pub returns-clause-back : goal.returns-clause-back
returns-clause-back c = λ added content h made. made_back added content h made

pub returns-clause-live_added : goal.returns-clause-live_added
returns-clause-live_added c = λ number location added gone a. live_added number location added gone a

pub returns-clause-part : goal.returns-clause-part
returns-clause-part c = λ added content h made. have_part added content h made

pub returns-clause-level : goal.returns-clause-level
returns-clause-level c = λ added content h made some. have_level added content h made some

pub returns-clause-live_joined : goal.returns-clause-live_joined
returns-clause-live_joined c = λ added gone s. live_joined added gone s

pub returns-clause-live_back : goal.returns-clause-live_back
returns-clause-live_back c = λ added content deleted h made. made_live_back added content deleted h made

pub returns-clause-beside : goal.returns-clause-beside
returns-clause-beside c = λ number location contents added content n l h b a has. may_join_behind number location contents added content n l h b a has

use Rattle.alta_format.proofs.FormatLaws.{part_first, part_broken}
use Rattle.alta_root.specs.Root.{root_format, body_of}
use Rattle.alta_root.specs.Slots.{root_in}
use Rattle.std.proofs.Common.{take, refl}
use Rattle.alta_root.specs.declared.places.TheConstants.{FIELDS_BYTES}
use Rattle.alta_root.proofs.SpellLaws.{body_long, body_says, reads_back, sound_words, spelled_so}
use Rattle.alta_root.proofs.laws.a_root_reads_back.Goals as goal

pub returns-clause-read : goal.returns-clause-read
returns-clause-read c = λ size start root bytes rest below sound low is. reads_back size start root bytes rest below sound low is

pub returns-clause-spelled : goal.returns-clause-spelled
returns-clause-spelled c = λ size start root bytes fits e. spelled_so size start root bytes fits e

pub returns-clause-first : goal.returns-clause-first
unfolding root_in
returns-clause-first c = λ size start place bytes fits e. part_first (root_format size) bytes start place fits e

pub returns-clause-broken : goal.returns-clause-broken
unfolding root_in
returns-clause-broken c = λ size start place bytes fits first. part_broken (root_format size) bytes start place fits first

pub returns-clause-long : goal.returns-clause-long
returns-clause-long c = λ size root sound. body_long root sound.few

pub returns-clause-body : goal.returns-clause-body
returns-clause-body c = λ size start root below sound low. body_says size start root (body_of root) (take FIELDS_BYTES (body_of root)) sound low (sound_words size root below sound) refl refl

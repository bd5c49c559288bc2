use Rattle.std.proofs.Common.{◌<◌, inl, inr, length, List, ap, arith}
use Rattle.std.specs.Prelude.{not}
use Rattle.std.proofs.lemmas.List.Elements.{All-filter}
use Rattle.alta_content.specs.Lists.{IsContent}
use Rattle.alta_content.specs.Parts.{IsPart}
use Rattle.alta_content.specs.Rows.{end_of, ends_among}
use Rattle.alta_content.specs.declared.content.Content.{Content}
use Rattle.alta_content.specs.declared.document.DocRow.{DocRow}
use Rattle.alta_content.specs.Joining.{rows_in, joined_in}
use Rattle.alta_meaning.proofs.KeptStates.{rise_left}
use Rattle.alta_content.proofs.Kept.{join_is_part}
use Rattle.alta_joins.proofs.laws.joins_are_levels.Goals as goal

is_level : (c : Content) → IsPart c → 0 < length c.documents → IsContent c
is_level c (inl is) some = is
is_level c (inr empty) some = absurd (omega (arith, some, ap (λ (rows : List DocRow). length rows) empty.documents))

pub returns-clause-part : goal.returns-clause-part
returns-clause-part c = λ contents dead may. join_is_part contents dead may

pub returns-clause-level : goal.returns-clause-level
returns-clause-level c = λ contents dead may some. is_level (joined_in contents dead) (join_is_part contents dead may) some

pub returns-clause-rise : goal.returns-clause-rise
returns-clause-rise c = λ contents dead rise. rise_left (λ (row : DocRow). not (ends_among dead row)) (rows_in contents) rise

pub returns-clause-below : goal.returns-clause-below
returns-clause-below c = λ root contents dead below.
    All-filter (λ (row : DocRow). not (ends_among dead row)) (λ (row : DocRow). (row.number < root.next_number) × (end_of row < root.next_location)) (rows_in contents) below

use Rattle.std.proofs.Common.{◌≡◌, ◌∙◌, ap, sym, subst, arith}
use Rattle.std.specs.Prelude.{Some, None, if◌then◌else◌}
use Rattle.alta_machine.specs.Reading.{command_in}
use Rattle.alta_machine.specs.Lines.{refuses}
use Rattle.alta_model.specs.Seen.{command_of}
use Rattle.alta_model.proofs.Counts.{some_inj}
use Rattle.alta_model.proofs.Law.{reading_reads, reads_reading}
use Rattle.alta_machine.specs.LineFaults.{is_verb, word_of}
use Rattle.alta_machine.specs.declared.line.LineFault.TheVariants.{Unknown, Bad}
use Rattle.alta_model.proofs.Readings.{reading_long, reading_not_utf8, reading_text}
use Rattle.alta_model.proofs.Refusals.{given, refused, nothing}
use Rattle.alta_model.proofs.line.read_line.Goals as goal

pub returns-in-Some-clause-read : goal.returns-in-Some-clause-read
returns-in-Some-clause-read c =
    ((omega (arith, c.if-line-gt-LINE_LIMIT.false), c.in-Ok.ensures.cases.1), reading_reads _ _ (subst (λ t. command_in t ≡ Some (command_of c.in-Some.line)) c.in-Ok.ensures.cases.0 (sym c.in-Some.ensures)))

pub returns-in-Some-clause-only : goal.returns-in-Some-clause-only
returns-in-Some-clause-only c = λ command text reads.
    some_inj _ _ (c.in-Some.ensures ∙ subst (λ t. command_in t ≡ Some command) (sym c.in-Ok.ensures.cases.0) (reads_reading _ command reads))

pub returns-in-Some-clause-refused : goal.returns-in-Some-clause-refused
returns-in-Some-clause-refused c =
    given c.args.line.now c.in-Some.line (command_of c.in-Some.line) (omega (arith, c.if-line-gt-LINE_LIMIT.false), c.in-Ok.ensures.cases.1)
    (reading_reads _ _ (subst (λ t. command_in t ≡ Some (command_of c.in-Some.line)) c.in-Ok.ensures.cases.0 (sym c.in-Some.ensures)))

pub returns-in-None-clause-refused : goal.returns-in-None-clause-refused
returns-in-None-clause-refused c =
    refused c.args.line.now c.fault.result (omega (arith, c.if-line-gt-LINE_LIMIT.false), c.in-Ok.ensures.cases.1)
    (subst (λ t. command_in t ≡ None) c.in-Ok.ensures.cases.0 (nothing c.command.result c.in-Ok.text.now c.in-None.is c.command.ensures))
    (subst (λ t. c.fault.result ≡ (if is_verb (word_of t) then Bad else Unknown)) c.in-Ok.ensures.cases.0 c.fault.ensures)

pub returns-then-line-gt-LINE_LIMIT-clause-reading : goal.returns-then-line-gt-LINE_LIMIT-clause-reading
returns-then-line-gt-LINE_LIMIT-clause-reading c = sym (reading_long c.args.line.now (omega (arith, c.if-line-gt-LINE_LIMIT.true)))

pub returns-in_default-clause-reading : goal.returns-in_default-clause-reading
returns-in_default-clause-reading c = sym (reading_not_utf8 c.args.line.now (omega (arith, c.if-line-gt-LINE_LIMIT.false)) c.in_default.ensures.cases.0)

pub returns-in-Some-clause-reading : goal.returns-in-Some-clause-reading
returns-in-Some-clause-reading c =
    sym (reading_text c.args.line.now (Some (command_of c.in-Some.line)) (omega (arith, c.if-line-gt-LINE_LIMIT.false), c.in-Ok.ensures.cases.1)
    (subst (λ t. command_in t ≡ Some (command_of c.in-Some.line)) c.in-Ok.ensures.cases.0 (sym c.in-Some.ensures)))

pub returns-in-None-clause-reading : goal.returns-in-None-clause-reading
returns-in-None-clause-reading c =
    ap refuses (subst (λ t. c.fault.result ≡ (if is_verb (word_of t) then Bad else Unknown)) c.in-Ok.ensures.cases.0 c.fault.ensures)
    ∙ sym (reading_text c.args.line.now None (omega (arith, c.if-line-gt-LINE_LIMIT.false), c.in-Ok.ensures.cases.1)
    (subst (λ t. command_in t ≡ None) c.in-Ok.ensures.cases.0 (nothing c.command.result c.in-Ok.text.now c.in-None.is c.command.ensures)))

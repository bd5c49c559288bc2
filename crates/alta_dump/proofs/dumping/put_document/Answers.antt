use Rattle.std.proofs.Common.{◌≡◌, ◌++◌, cond, Global, List, ℕ, Option, append_assoc, get_or, ap, sym, subst, ◌∙◌, arith}
use Rattle.std.specs.Prelude.{IfSome, Some, None, String, codes, decimal, is_some, string_bytes}
use Rattle.std.specs.Option.{option_map}
use Rattle.alta_machine.specs.Dumps.{line_or_skipped}
use Rattle.alta_machine.specs.DumpLines.{line_of}
use Rattle.alta_dump.proofs.Lining.{behind_five, first_byte, kept_first}
use Rattle.alta_dump.proofs.dumping.put_document.Goals as goal

pub returns-in_ok-put_line-in-Some-clause-line : goal.returns-in_ok-put_line-in-Some-clause-line
returns-in_ok-put_line-in-Some-clause-line c = λ d number name named seen.
    let old = string_bytes c.args.text.now in
    let is : Some (string_bytes c.in-Some.line) ≡ line_of d = ap (option_map string_bytes) (sym c.in-Some.is) ∙ c.in_ok-found.ensures.line d (name ∙ sym c.as_str-name.ensures) named seen in
    (c.in_ok-put_line-in-Some.ensures ∙ append_assoc old (string_bytes c.in-Some.line) (codes "\n") ∙ ap (λ (o : Option (List ℕ)). old ++ line_or_skipped d o) is, ap (λ (o : Option (List ℕ)). cond (is_some o) 1 0) is)

pub returns-in_ok-put_line-in-Some-clause-other : goal.returns-in_ok-put_line-in-Some-clause-other
returns-in_ok-put_line-in-Some-clause-other c = λ first bad.
    let begins = subst (λ (o : Option (String Global)). IfSome o (λ l. get_or (string_bytes l) 0 0 ≡ 97)) c.in-Some.is c.in_ok-found.ensures.begins in
    kept_first (string_bytes c.args.text.now) (string_bytes c.in-Some.line ++ codes "\n") first (first_byte (string_bytes c.in-Some.line) (codes "\n") begins)
    (ap (λ (bytes : List ℕ). get_or bytes 0 0) (sym (c.in_ok-put_line-in-Some.ensures ∙ append_assoc (string_bytes c.args.text.now) (string_bytes c.in-Some.line) (codes "\n"))) ∙ bad)

pub returns-in_ok-put_skipped-in-None-clause-line : goal.returns-in_ok-put_skipped-in-None-clause-line
returns-in_ok-put_skipped-in-None-clause-line c = λ d number name named seen.
    let old = string_bytes c.args.text.now in let own = c.as_str-name.result.now in
    let same : d.name ≡ own = name ∙ sym c.as_str-name.ensures in
    let is : None ≡ line_of d = ap (option_map string_bytes) (sym c.in-None.is) ∙ c.in_ok-found.ensures.line d same named seen in (
      c.in_ok-put_skipped-in-None.ensures
          ∙ behind_five old (codes "skipped ") (decimal c.args.row.now.number) (codes " ") own (codes "\n")
          ∙ ap (λ (n : ℕ). old ++ (codes "skipped " ++ decimal n ++ codes " " ++ own ++ codes "\n")) (sym number)
          ∙ ap (λ (bytes : List ℕ). old ++ (codes "skipped " ++ decimal d.number ++ codes " " ++ bytes ++ codes "\n")) (sym same)
          ∙ ap (λ (o : Option (List ℕ)). old ++ line_or_skipped d o) is,
      ap (λ (o : Option (List ℕ)). cond (is_some o) 1 0) is,
    )

pub returns-in_ok-put_skipped-in-None-clause-other : goal.returns-in_ok-put_skipped-in-None-clause-other
returns-in_ok-put_skipped-in-None-clause-other c = λ first bad.
    kept_first (string_bytes c.args.text.now) (codes "skipped " ++ decimal c.args.row.now.number ++ codes " " ++ c.as_str-name.result.now ++ codes "\n") first (λ e. omega (arith, e))
    (ap (λ (bytes : List ℕ). get_or bytes 0 0) (sym (c.in_ok-put_skipped-in-None.ensures ∙ behind_five (string_bytes c.args.text.now) (codes "skipped ") (decimal c.args.row.now.number) (codes " ") c.as_str-name.result.now (codes "\n"))) ∙ bad)

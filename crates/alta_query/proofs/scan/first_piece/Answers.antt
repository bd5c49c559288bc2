use Rattle.std.proofs.Common.{◌+◌, get_or, sym, ap, ◌∙◌, arith}
use Rattle.std.proofs.lemmas.Result.{IfOk-from_err}
use Rattle.std.proofs.lemmas.Str.{IsCharBoundary-from_rest}
use Rattle.alta_query.proofs.Cuts.{first_boundary}
use Rattle.alta_query.proofs.Firsts.{open_first, close_first, quote_first, IsOther, name_first, title_first, run_first, run_some, run_byte}
use Rattle.alta_machine.specs.Spots.{name_token, run_token}
use Rattle.alta_query.proofs.scan.first_piece.Goals as goal

pub behind-requires : goal.behind-requires
behind-requires c = first_boundary c.args.rest.now 34 c.utf8.rest c.requires.some (rw c.as_bytes.ensures.value at c.if-first-eq34.true) (omega arith)

pub returns-in_err-piece : goal.returns-in_err-piece
returns-in_err-piece c =
    let e = c.from_residual.ensures.0 in
    record { token = IfOk-from_err _ _ e; len = IfOk-from_err _ _ e; within = IfOk-from_err _ _ e; positive = IfOk-from_err _ _ e; boundary = IfOk-from_err _ _ e }

pub returns-in_err-piece-2 : goal.returns-in_err-piece-2
returns-in_err-piece-2 c =
    let e = c.from_residual-in_err-piece-2.ensures.0 in
    record { token = IfOk-from_err _ _ e; len = IfOk-from_err _ _ e; within = IfOk-from_err _ _ e; positive = IfOk-from_err _ _ e; boundary = IfOk-from_err _ _ e }

pub returns-in_err-run : goal.returns-in_err-run
returns-in_err-run c =
    let e = c.from_residual-in_err-run.ensures.0 in
    record { token = IfOk-from_err _ _ e; len = IfOk-from_err _ _ e; within = IfOk-from_err _ _ e; positive = IfOk-from_err _ _ e; boundary = IfOk-from_err _ _ e }

pub returns-then-first-eq40 : goal.returns-then-first-eq40
returns-then-first-eq40 c =
    let e = rw c.as_bytes.ensures.value at c.if-first-eq40.true in
    let first = open_first c.args.rest.now c.requires.some e in
    record {
      token = first.token;
      len = first.len;
      within = c.requires.some;
      positive = omega arith;
      boundary = first_boundary c.args.rest.now 40 c.utf8.rest c.requires.some e (omega arith);
    }

pub returns-then-first-eq41 : goal.returns-then-first-eq41
returns-then-first-eq41 c =
    let e = rw c.as_bytes.ensures.value at c.if-first-eq41.true in
    let first = close_first c.args.rest.now c.requires.some e in
    record {
      token = first.token;
      len = first.len;
      within = c.requires.some;
      positive = omega arith;
      boundary = first_boundary c.args.rest.now 41 c.utf8.rest c.requires.some e (omega arith);
    }

pub returns-in_ok-piece : goal.returns-in_ok-piece
returns-in_ok-piece c =
    let first = quote_first c.args.rest.now c.requires.some (rw c.as_bytes.ensures.value at c.if-first-eq34.true) in
    let piece = rw c.behind.ensures at c.in_ok-piece.ensures in
    let boundary = IsCharBoundary-from_rest c.args.rest.now 1 _ c.requires.some piece.boundary in
    record {
      token = piece.token ∙ first.token;
      len = ap (λ n. 1 + n) piece.len ∙ first.len;
      within = boundary.0;
      positive = omega arith;
      boundary = boundary;
    }

pub returns-then-begins : goal.returns-then-begins
returns-then-begins c =
    let other : IsOther (get_or c.args.rest.now 0 0) = record {
      opens = rw c.as_bytes.ensures.value at c.if-first-eq40.false;
      closes = rw c.as_bytes.ensures.value at c.if-first-eq41.false;
      quotes = rw c.as_bytes.ensures.value at c.if-first-eq34.false;
    } in
    let first = name_first c.args.rest.now c.requires.some other (sym c.begins.ensures.value ∙ c.if-begins.true) in
    let name = rw c.behind-then-begins.ensures at c.solid_run-name.ensures in
    let boundary = IsCharBoundary-from_rest c.args.rest.now 5 _ (c.begins.ensures.boundary c.if-begins.true).0 name.boundary in
    record {
      token = c.named.ensures ∙ ap name_token name.value ∙ first.token;
      len = ap (λ n. 5 + n) name.len ∙ first.len;
      within = boundary.0;
      positive = omega arith;
      boundary = boundary;
    }

pub returns-in_ok-piece-2 : goal.returns-in_ok-piece-2
returns-in_ok-piece-2 c =
    let other : IsOther (get_or c.args.rest.now 0 0) = record {
      opens = rw c.as_bytes.ensures.value at c.if-first-eq40.false;
      closes = rw c.as_bytes.ensures.value at c.if-first-eq41.false;
      quotes = rw c.as_bytes.ensures.value at c.if-first-eq34.false;
    } in
    let first = title_first c.args.rest.now c.requires.some other (sym c.begins.ensures.value ∙ c.if-begins.false) (sym c.begins-else-begins.ensures.value ∙ c.if-begins-2.true) in
    let piece = rw c.behind-then-begins-2.ensures at c.in_ok-piece-2.ensures in
    let boundary = IsCharBoundary-from_rest c.args.rest.now 7 _ (c.begins-else-begins.ensures.boundary c.if-begins-2.true).0 piece.boundary in
    record {
      token = piece.token ∙ first.token;
      len = ap (λ n. 7 + n) piece.len ∙ first.len;
      within = boundary.0;
      positive = omega arith;
      boundary = boundary;
    }

pub returns-in_ok-run : goal.returns-in_ok-run
returns-in_ok-run c =
    let other : IsOther (get_or c.args.rest.now 0 0) = record {
      opens = rw c.as_bytes.ensures.value at c.if-first-eq40.false;
      closes = rw c.as_bytes.ensures.value at c.if-first-eq41.false;
      quotes = rw c.as_bytes.ensures.value at c.if-first-eq34.false;
    } in
    let first = run_first c.args.rest.now c.requires.some other (sym c.begins.ensures.value ∙ c.if-begins.false) (sym c.begins-else-begins.ensures.value ∙ c.if-begins-2.false) in
    let some = run_some c.args.rest.now c.requires.some (run_byte _ c.requires.solid other) in
    let text = c.run_of-text.ensures in
    record {
      token = c.in_ok-run.ensures ∙ ap run_token text.value ∙ first.token;
      len = text.len ∙ first.len;
      within = text.within;
      positive = omega (arith, some, text.len);
      boundary = text.boundary;
    }

use Rattle.std.proofs.Common.{◌≡◌, ℕ, ◌<◌, List, ◌∷◌, [], None, Some, length, inl, refl, sym, subst, ◌∙◌, arith}
use Rattle.std.specs.Prelude.{slice_get}
use Rattle.std.proofs.lemmas.Option.{slice_get_within}
use Rattle.alta_codec.specs.Bytes.{Lacks}
use Rattle.alta_make.specs.Script.{script}
use Rattle.alta_session.specs.Demo.{Obeyed, StopsObeying}
use Rattle.alta_session.specs.declared.status.Status.TheVariants.{Memory}
use Rattle.alta_session.proofs.FedLaws.{fed_none}
use Rattle.alta_session.proofs.ScriptLaws.{fed_next, fed_all, stops_next, stops_before, script_line_free, script_short}
use Rattle.alta_session.proofs.demo.obey_script.Goals as goal

pub lines-init : goal.lines-init
lines-init g c = record {
  within = omega arith;
  obeyed = fed_none g.D.Disk.tells None (g.D.Disk.state c.args.disk.now) c.args.session.now (g.met.D.Disk.lawful c.args.disk.now);
  can = c.requires.can;
  counts = record { faults = omega arith; limit = refl };
}

-- behind the last line
pub returns-in-Ok-None-clause-feeds : goal.returns-in-Ok-None-clause-feeds
returns-in-Ok-None-clause-feeds g c = record {
  ok = fed_all g.D.Disk.tells None None _ _ _ _ (script c.args.n) c.lines.index (sym c.in-Ok-None.ensures ∙ c.in-Ok-None.field-0-is) c.lines.invariant.obeyed;
  err = tt;
}

-- no memory for a line
pub returns-in-Err-clause-feeds : goal.returns-in-Err-clause-feeds
returns-in-Err-clause-feeds g c = record {
  ok = tt;
  err = stops_before g.D.Disk.tells None None _ _ _ c.lines.session (script c.args.n) c.lines.index Memory (g.met.D.Disk.lawful c.lines.disk) (λ need gap is. cc) (λ place is. cc) c.lines.invariant.obeyed;
}

pub obey-requires-clause-one_line : goal.obey-requires-clause-one_line
obey-requires-clause-one_line g c =
    let at : slice_get (script c.args.n) c.lines.index ≡ Some c.in-Ok-Some.line = sym c.in-Ok-Some.ensures ∙ c.in-Ok-Some.field-0-is in
    let bytes : c.as_bytes.result.now ≡ c.in-Ok-Some.line = c.as_bytes.ensures.value ∙ c.as_str.ensures in
    subst (Lacks 10) (sym bytes) (script_line_free c.args.n c.lines.index c.in-Ok-Some.line c.requires.few at)

pub overflow_add-index : goal.overflow_add-index
overflow_add-index g c =
    let at : slice_get (script c.args.n) c.lines.index ≡ Some c.in-Ok-Some.line = sym c.in-Ok-Some.ensures ∙ c.in-Ok-Some.field-0-is in
    let less : c.lines.index < length (script c.args.n) = slice_get_within (script c.args.n) c.lines.index c.in-Ok-Some.line at in
    let short : length (script c.args.n) < 1000000 = script_short c.args.n c.requires.few in
    omega arith

pub lines-smaller : goal.lines-smaller
lines-smaller g c =
    let at : slice_get (script c.args.n) c.lines.index ≡ Some c.in-Ok-Some.line = sym c.in-Ok-Some.ensures ∙ c.in-Ok-Some.field-0-is in
    let less : c.lines.index < length (script c.args.n) = slice_get_within (script c.args.n) c.lines.index c.in-Ok-Some.line at in
    omega arith

pub lines-preserved : goal.lines-preserved
lines-preserved g c =
    let at : slice_get (script c.args.n) c.lines.index ≡ Some c.in-Ok-Some.line = sym c.in-Ok-Some.ensures ∙ c.in-Ok-Some.field-0-is in
    let less : c.lines.index < length (script c.args.n) = slice_get_within (script c.args.n) c.lines.index c.in-Ok-Some.line at in
    let bytes : c.as_bytes.result.now ≡ c.in-Ok-Some.line = c.as_bytes.ensures.value ∙ c.as_str.ensures in
    record {
      within = omega arith;
      obeyed = fed_next g.D.Disk.tells None None None _ _ _ _ _ _ (script c.args.n) c.lines.index c.in-Ok-Some.line at c.lines.invariant.obeyed
          (subst (λ (l : List ℕ). Obeyed g.D.Disk.tells (g.D.Disk.state c.lines.disk) (g.D.Disk.state c.obey.new.disk) c.lines.session c.obey.new.session (l ∷ [])) bytes c.in-Ok.ensures.feeds.ok);
      can = c.in-Ok.ensures.can;
      counts = record { faults = omega (arith, c.lines.invariant.counts.faults, c.obey.ensures.accounts.counts.faults); limit = c.obey.ensures.accounts.counts.limit ∙ c.lines.invariant.counts.limit };
    }

-- a line was not answered
pub returns-in-Err-obey-clause-feeds : goal.returns-in-Err-obey-clause-feeds
returns-in-Err-obey-clause-feeds g c = record {
  ok = tt;
  err = let at : slice_get (script c.args.n) c.lines.index ≡ Some c.in-Ok-Some.line = sym c.in-Ok-Some.ensures ∙ c.in-Ok-Some.field-0-is in
      let bytes : c.as_bytes.result.now ≡ c.in-Ok-Some.line = c.as_bytes.ensures.value ∙ c.as_str.ensures in
      stops_next g.D.Disk.tells None None None _ _ _ _ _ (script c.args.n) c.lines.index c.in-Ok-Some.line c.in-Err-obey.status at c.lines.invariant.obeyed
      (subst (λ (l : List ℕ). StopsObeying g.D.Disk.tells (g.D.Disk.state c.lines.disk) (g.D.Disk.state c.obey.new.disk) c.lines.session (l ∷ []) c.in-Err-obey.status) bytes c.in-Err-obey.ensures.feeds.err);
}

pub returns-in-Ok-None-clause-accounts : goal.returns-in-Ok-None-clause-accounts
returns-in-Ok-None-clause-accounts g c = record { ends = tt; gives_nothing = tt; full = λ need gap tell is. absurd cc; disk_fault = λ is. absurd cc; counts = c.lines.invariant.counts }

pub returns-in-Err-clause-accounts : goal.returns-in-Err-clause-accounts
returns-in-Err-clause-accounts g c = record { ends = inl (inl refl); gives_nothing = λ is. absurd cc; full = λ need gap tell is. absurd cc; disk_fault = λ is. absurd cc; counts = c.lines.invariant.counts }

pub returns-in-Err-obey-clause-accounts : goal.returns-in-Err-obey-clause-accounts
returns-in-Err-obey-clause-accounts g c = record {
  ends = c.in-Err-obey.ensures.accounts.ends;
  gives_nothing = c.in-Err-obey.ensures.accounts.gives_nothing;
  full = c.in-Err-obey.ensures.accounts.full;
  disk_fault = λ is. omega (arith, c.in-Err-obey.ensures.accounts.disk_fault is, c.lines.invariant.counts.faults);
  counts = record { faults = omega (arith, c.lines.invariant.counts.faults, c.obey.ensures.accounts.counts.faults); limit = c.obey.ensures.accounts.counts.limit ∙ c.lines.invariant.counts.limit };
}

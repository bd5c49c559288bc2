use Rattle.std.proofs.Common.{◌≡◌, ◌≢◌, refl, ◌≤◌, ◌+◌, List, ℕ, Option, [], inl, inr, Err, length, take, sym, subst, rules, arith}
use Rattle.std.proofs.lemmas.List.{length-take}
use Rattle.std.proofs.lemmas.List.Elements.{All-nil}
use Rattle.alta_codec.specs.Bytes.{Lacks}
use Rattle.alta_console.specs.Lines.{last_piece}
use Rattle.alta_console.specs.Transcript.{Consumes}
use Rattle.alta_session.specs.Fed.{Fed}
use Rattle.alta_session.specs.Going.{Goes}
use Rattle.alta_session.specs.Progress.{StopsWithin}
use Rattle.alta_disk.specs.Disk.{DiskState}
use Rattle.alta_session.specs.Ending.{Accounts, AccountsForInput, KeepsCounts}
use Rattle.alta_session.specs.declared.status.Status.{Status}
use Rattle.alta_session.specs.declared.status.Status.TheVariants.{TakeFault}
use Rattle.alta_session.proofs.EndingLaws.{caused_input, caused_on, counts_none, counts_on, read_to_end}
use Rattle.alta_session.proofs.RunLaws.{goes_none, goes_on, runs_stopped, runs_failed, runs_past, runs_done, runs_ended}
use Rattle.alta_session.proofs.StatusLaws.{ends_not_done, ends_not_taken}
use Rattle.alta_session.proofs.serving.answer_pieces.Goals as goal

long : (n : ℕ) (bytes : List ℕ) → n ≤ length bytes → length (take n bytes) ≡ n
long n bytes l = omega (arith, length-take n bytes)

none : (a b : Option (List ℕ)) (n : ℕ) (bytes : List ℕ) → n ≡ 0 → Consumes a b (take n bytes) → Consumes a b []
none a b n bytes is read = let P : ℕ → Type 0 = λ k. Consumes a b (take k bytes) in subst P is read

-- a take behind calls that went well
took : {C : Type 0} (take_faults give_faults : C → ℕ) (a b c : C) (d e : DiskState) → KeepsCounts take_faults give_faults a b d e → take_faults b ≤ take_faults c → give_faults b ≤ give_faults c → KeepsCounts take_faults give_faults a c d e
took take_faults give_faults a b c d e counts takes gives = record { takes = omega (arith, counts.takes, takes); gives = omega (arith, counts.gives, gives); kept = counts.kept }

-- lines behind it were not all answered
stopped : {C T : Type 0} (tells : Type 0) (left : C → Option (List ℕ)) (take_faults give_faults : C → ℕ) (a b c : C) (d e f : DiskState) (status : Status) → KeepsCounts take_faults give_faults a b d e → Accounts {T = T} tells left take_faults give_faults b c e f (Err status)
    → AccountsForInput tells left take_faults give_faults a c d f status
stopped tells left take_faults give_faults a b c d e f status counts later = record {
  ends = inr (inr (inr later.ends));
  caused = caused_on take_faults give_faults tells a b c d e f status counts later.caused;
  take_fault = λ is. absurd (ends_not_taken status later.ends is);
  read_all = λ is. absurd (ends_not_done status later.ends is);
  counts = counts_on take_faults give_faults a b c d e f counts later.counts;
}

pub takes-init : goal.takes-init
takes-init g c =
    let P : List ℕ → Type 0 = λ line. Goes g.D.Disk.tells c.args.limit (g.C.Console.told c.args.console.now) (g.C.Console.told c.args.console.now) (g.C.Console.left c.args.console.now) (g.C.Console.left c.args.console.now) (g.D.Disk.state c.args.disk.now) (g.D.Disk.state c.args.disk.now) c.args.session.now c.args.session.now line 0 in
    record {
      goes = subst P (sym c.new-begun.ensures.items) (goes_none g.D.Disk.tells c.args.limit (g.C.Console.told c.args.console.now) (g.C.Console.left c.args.console.now) (g.D.Disk.state c.args.disk.now) c.args.session.now (g.met.D.Disk.lawful c.args.disk.now));
      short = search rules;
      free = subst (Lacks 10) (sym c.new-begun.ensures.items) (All-nil (λ (b : ℕ). b ≢ 10));
      can = c.requires.can;
      within = search rules;
      counts = counts_none g.C.Console.take_faults g.C.Console.give_faults c.args.console.now (g.D.Disk.state c.args.disk.now);
    }

pub returns-in-Err-clause-run : goal.returns-in-Err-clause-run
returns-in-Err-clause-run g c =
    runs_failed g.D.Disk.tells c.args.limit _ _ _ _ _ _ _ _ _ c.takes.session c.takes.begun.items c.takes.taken _ (g.met.D.Disk.lawful c.takes.disk) c.takes.invariant.goes c.in-Err.ensures.not_told c.in-Err.ensures.input_kept (λ same. cc) (λ same. cc) (λ need gap same. cc)
    (λ place same. cc)

pub returns-in-Ok-finish-clause-run : goal.returns-in-Ok-finish-clause-run
returns-in-Ok-finish-clause-run g c =
    let P : List ℕ → Type 0 = λ line. Fed g.D.Disk.tells (g.C.Console.told c.take.new.self) (g.C.Console.told c.finish.new.console) (g.D.Disk.state c.takes.disk) (g.D.Disk.state c.finish.new.disk) c.takes.session c.finish.new.session (last_piece line) in
    runs_done g.D.Disk.tells c.args.limit _ _ _ _ _ _ _ _ _ _ _ _ c.takes.session c.finish.new.session c.takes.begun.items c.takes.taken (g.met.D.Disk.lawful c.finish.new.disk) c.takes.invariant.goes (c.in-Ok.ensures.ended c.if-n-eq0.true)
    (none _ _ c.in-Ok.n c.take.new.buf c.if-n-eq0.true c.in-Ok.ensures.input) (subst P c.deref.ensures.value c.in-Ok-finish.ensures.feeds.ok) c.finish.ensures.accounts.input_kept

pub returns-in-Err-finish-clause-run : goal.returns-in-Err-finish-clause-run
returns-in-Err-finish-clause-run g c =
    let P : List ℕ → Type 0 = λ line. StopsWithin g.D.Disk.tells (g.C.Console.told c.take.new.self) (g.C.Console.told c.finish.new.console) (g.D.Disk.state c.takes.disk) (g.D.Disk.state c.finish.new.disk) c.takes.session (last_piece line) c.in-Err-finish.status in
    runs_ended g.D.Disk.tells c.args.limit _ _ _ _ _ _ _ _ _ _ _ _ c.takes.session c.takes.begun.items c.takes.taken c.in-Err-finish.status c.takes.invariant.goes (c.in-Ok.ensures.ended c.if-n-eq0.true)
    (none _ _ c.in-Ok.n c.take.new.buf c.if-n-eq0.true c.in-Ok.ensures.input) (subst P c.deref.ensures.value c.in-Err-finish.ensures.feeds.err) c.finish.ensures.accounts.input_kept c.in-Err-finish.ensures.accounts.ends

pub returns-then-n-limit-clause-run : goal.returns-then-n-limit-clause-run
returns-then-n-limit-clause-run g c =
    let buffer : List ℕ = c.take.new.buf in
    let is : length (take c.in-Ok.n buffer) ≡ c.in-Ok.n = long c.in-Ok.n buffer c.in-Ok.ensures.within in
    runs_past g.D.Disk.tells c.args.limit _ _ _ _ _ _ _ _ _ c.takes.session c.takes.begun.items c.takes.taken (take c.in-Ok.n buffer) (g.met.D.Disk.lawful c.takes.disk) c.takes.invariant.goes (c.in-Ok.ensures.taken (omega arith)) c.in-Ok.ensures.input (omega arith)

pub takes-preserved : goal.takes-preserved
takes-preserved g c =
    let buffer : List ℕ = c.take.new.buf in
    let piece : List ℕ = take c.in-Ok.n buffer in
    let is : length piece ≡ c.in-Ok.n = long c.in-Ok.n buffer c.in-Ok.ensures.within in
    let Q : ℕ → Type 0 = λ n. Goes g.D.Disk.tells c.args.limit (g.C.Console.told c.args.console.now) (g.C.Console.told c.feed.new.console) (g.C.Console.left c.args.console.now) (g.C.Console.left c.feed.new.console) (g.D.Disk.state c.args.disk.now) (g.D.Disk.state c.feed.new.disk) c.args.session.now c.feed.new.session c.feed.new.begun.items (c.takes.taken + n) in
    record {
      goes = subst Q is (goes_on g.D.Disk.tells c.args.limit _ _ _ _ _ _ _ _ _ _ _ _ c.takes.session c.feed.new.session c.takes.begun.items c.feed.new.begun.items c.takes.taken piece c.takes.invariant.goes (c.in-Ok.ensures.taken (omega arith)) c.in-Ok.ensures.input
          c.in-Ok-feed.ensures.answers.feeds.ok c.feed.ensures.answers.accounts.input_kept c.in-Ok-feed.ensures.begun (omega arith));
      short = c.in-Ok-feed.ensures.short;
      free = c.in-Ok-feed.ensures.free;
      can = c.in-Ok-feed.ensures.answers.can;
      within = omega arith;
      counts = counts_on g.C.Console.take_faults g.C.Console.give_faults c.args.console.now c.take.new.self c.feed.new.console (g.D.Disk.state c.args.disk.now) (g.D.Disk.state c.takes.disk) (g.D.Disk.state c.feed.new.disk) (took g.C.Console.take_faults g.C.Console.give_faults c.args.console.now c.takes.console c.take.new.self (g.D.Disk.state c.args.disk.now) (g.D.Disk.state c.takes.disk) c.takes.invariant.counts c.take.ensures.take_count c.take.ensures.give_count) c.feed.ensures.answers.accounts.counts;
    }

pub returns-in-Err-feed-clause-run : goal.returns-in-Err-feed-clause-run
returns-in-Err-feed-clause-run g c =
    let buffer : List ℕ = c.take.new.buf in
    let piece : List ℕ = take c.in-Ok.n buffer in
    let is : length piece ≡ c.in-Ok.n = long c.in-Ok.n buffer c.in-Ok.ensures.within in
    runs_stopped g.D.Disk.tells c.args.limit _ _ _ _ _ _ _ _ _ _ _ _ c.takes.session c.takes.begun.items c.takes.taken piece c.in-Err-feed.status c.takes.invariant.goes (c.in-Ok.ensures.taken (omega arith)) c.in-Ok.ensures.input
    c.in-Err-feed.ensures.answers.feeds.err c.feed.ensures.answers.accounts.input_kept (omega arith) c.in-Err-feed.ensures.answers.accounts.ends

pub returns-in-Err-clause-accounts : goal.returns-in-Err-clause-accounts
returns-in-Err-clause-accounts g c = record {
  ends = inr (inl refl);
  caused = caused_input g.D.Disk.tells g.C.Console.give_faults c.args.console.now c.take.new.self (g.D.Disk.state c.args.disk.now) (g.D.Disk.state c.takes.disk) TakeFault refl;
  take_fault = λ is. omega (arith, c.in-Err.ensures.failed, c.takes.invariant.counts.takes);
  read_all = λ is. absurd cc;
  counts = took g.C.Console.take_faults g.C.Console.give_faults c.args.console.now c.takes.console c.take.new.self (g.D.Disk.state c.args.disk.now) (g.D.Disk.state c.takes.disk) c.takes.invariant.counts c.take.ensures.take_count c.take.ensures.give_count;
}

pub returns-in-Ok-finish-clause-accounts : goal.returns-in-Ok-finish-clause-accounts
returns-in-Ok-finish-clause-accounts g c = record {
  ends = inl refl;
  caused = record { full = λ need gap tell is. absurd cc; give_fault = λ is. absurd cc; disk_fault = λ is. absurd cc };
  take_fault = λ is. absurd cc;
  read_all = λ is. read_to_end _ _ _ c.in-Ok.n c.take.new.buf c.if-n-eq0.true c.in-Ok.ensures.end c.in-Ok.ensures.input c.finish.ensures.accounts.input_kept;
  counts = counts_on g.C.Console.take_faults g.C.Console.give_faults c.args.console.now c.take.new.self c.finish.new.console (g.D.Disk.state c.args.disk.now) (g.D.Disk.state c.takes.disk) (g.D.Disk.state c.finish.new.disk) (took g.C.Console.take_faults g.C.Console.give_faults c.args.console.now c.takes.console c.take.new.self (g.D.Disk.state c.args.disk.now) (g.D.Disk.state c.takes.disk) c.takes.invariant.counts c.take.ensures.take_count c.take.ensures.give_count) c.finish.ensures.accounts.counts;
}

pub returns-in-Err-finish-clause-accounts : goal.returns-in-Err-finish-clause-accounts
returns-in-Err-finish-clause-accounts g c =
    stopped g.D.Disk.tells g.C.Console.left g.C.Console.take_faults g.C.Console.give_faults c.args.console.now c.take.new.self c.finish.new.console (g.D.Disk.state c.args.disk.now) (g.D.Disk.state c.takes.disk) (g.D.Disk.state c.finish.new.disk) c.in-Err-finish.status (took g.C.Console.take_faults g.C.Console.give_faults c.args.console.now c.takes.console c.take.new.self (g.D.Disk.state c.args.disk.now) (g.D.Disk.state c.takes.disk) c.takes.invariant.counts c.take.ensures.take_count c.take.ensures.give_count) c.in-Err-finish.ensures.accounts

pub returns-in-Err-feed-clause-accounts : goal.returns-in-Err-feed-clause-accounts
returns-in-Err-feed-clause-accounts g c =
    stopped g.D.Disk.tells g.C.Console.left g.C.Console.take_faults g.C.Console.give_faults c.args.console.now c.take.new.self c.feed.new.console (g.D.Disk.state c.args.disk.now) (g.D.Disk.state c.takes.disk) (g.D.Disk.state c.feed.new.disk) c.in-Err-feed.status (took g.C.Console.take_faults g.C.Console.give_faults c.args.console.now c.takes.console c.take.new.self (g.D.Disk.state c.args.disk.now) (g.D.Disk.state c.takes.disk) c.takes.invariant.counts c.take.ensures.take_count c.take.ensures.give_count) c.in-Err-feed.ensures.answers.accounts

pub returns-then-n-limit-clause-accounts : goal.returns-then-n-limit-clause-accounts
returns-then-n-limit-clause-accounts g c = record {
  ends = inr (inr (inl refl));
  caused = record { full = λ need gap tell is. absurd cc; give_fault = λ is. absurd cc; disk_fault = λ is. absurd cc };
  take_fault = λ is. absurd cc;
  read_all = λ is. absurd cc;
  counts = took g.C.Console.take_faults g.C.Console.give_faults c.args.console.now c.takes.console c.take.new.self (g.D.Disk.state c.args.disk.now) (g.D.Disk.state c.takes.disk) c.takes.invariant.counts c.take.ensures.take_count c.take.ensures.give_count;
}

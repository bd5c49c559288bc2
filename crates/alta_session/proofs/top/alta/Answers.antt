use Rattle.std.proofs.Common.{◌≡◌, ◌≢◌, ℕ, List, [], ◌∷◌, length, codes, refl, ap, sym, subst, ◌∙◌, rules, arith}
use Rattle.alta_make.specs.Script.{script, report}
use Rattle.alta_session.specs.Demo.{AsksDemo, Demonstrates}
use Rattle.alta_session.proofs.DemoLaws.{demo_completes, demo_never}
use Rattle.alta_session.proofs.ScriptLaws.{one_size, other_words}
use Rattle.alta_session.proofs.StatusLaws.{init_opened, init_never}
use Rattle.alta_session.proofs.top.alta.Goals as goal

abbrev first_length : List (List ℕ) → ℕ
first_length [] = 0
first_length (word ∷ words) = length word

two_words : (words : List (List ℕ)) → words ≡ codes "init" ∷ [] → words ≡ codes "run" ∷ [] → ⊥
two_words words init run = let lengths : first_length (codes "init" ∷ []) ≡ first_length (codes "run" ∷ []) = ap first_length (sym init ∙ run) in omega (arith, lengths)

pub returns-then-is_word : goal.returns-then-is_word
returns-then-is_word g c =
    let word : c.args.words.now ≡ codes "init" ∷ [] = search rules in
    let other : c.args.words.now ≡ codes "run" ∷ [] → ⊥ = two_words c.args.words.now word in
    let makes = c.init.ensures.makes in
    let never = init_never c.init.result makes.ends in
    record {
      usage = λ is. absurd (never.usage is);
      no_call = λ init run demo. absurd (init word);
      init = λ init. (makes, refl);
      run = λ run. absurd (other run);
      finishes = λ run. absurd (other run);
      refuses = λ run. absurd (other run);
      demo = λ n asks. absurd (other_words c.args.words.now (codes "init") n word asks);
      shown = λ n asks tell none big gives disk. absurd (other_words c.args.words.now (codes "init") n word asks);
      reason = record {
        exists = makes.exists;
        no_root = λ tell is. absurd ((init_opened c.init.result makes.ends).rooted is);
        stands = λ s tell stands. init_opened c.init.result makes.ends;
        take_fault = λ is. absurd (never.take is);
        give_fault = λ is. absurd (never.give is);
        disk_fault = c.init.ensures.disk_fault;
      };
    }

pub returns-then-is_word-2 : goal.returns-then-is_word-2
returns-then-is_word-2 g c =
    let word : c.args.words.now ≡ codes "run" ∷ [] = search rules in
    let other : c.args.words.now ≡ codes "init" ∷ [] → ⊥ = λ init. two_words c.args.words.now init word in
    record {
      usage = λ is. absurd (c.serve.ensures.finishes.never.0 is);
      no_call = λ init run demo. absurd (run word);
      init = λ init. absurd (other init);
      run = λ run. c.serve.ensures.run;
      finishes = λ run. c.serve.ensures.finishes;
      refuses = λ run. c.serve.ensures.refuses;
      demo = λ n asks. absurd (other_words c.args.words.now (codes "run") n word asks);
      shown = λ n asks tell none big gives disk. absurd (other_words c.args.words.now (codes "run") n word asks);
      reason = c.serve.ensures.reason;
    }

pub returns-in-Some : goal.returns-in-Some
returns-in-Some g c =
    let n : ℕ = c.in-Some.n in
    let asks : AsksDemo c.args.words.now n = c.in-Some.ensures.asked in
    let init_not : c.args.words.now ≢ codes "init" ∷ [] = λ is. other_words c.args.words.now (codes "init") n is asks in
    let run_not : c.args.words.now ≢ codes "run" ∷ [] = λ is. other_words c.args.words.now (codes "run") n is asks in
    let shows = c.demo.ensures.demo in
    let never = demo_never c.demo.result shows.ends in
    record {
      usage = λ is. absurd (never.0 is);
      no_call = λ init run demo. absurd (demo n asks);
      init = λ init. absurd (init_not init);
      run = λ run. absurd (run_not run);
      finishes = λ run. absurd (run_not run);
      refuses = λ run. absurd (run_not run);
      demo = λ k other.
          let same : n ≡ k = one_size c.args.words.now n k asks other in
          (subst (λ (size : ℕ). Demonstrates g.D.Disk.tells (script size) report (g.C.Console.told c.args.console.now) (g.C.Console.told c.demo.new.console) (g.D.Disk.state c.args.disk.now) (g.D.Disk.state c.demo.new.disk) c.demo.result) same shows, c.demo.ensures.input_kept);
      shown = λ k other tell none big gives disk.
          demo_completes c.demo.result _ _ shows.ends (shows.opened tell) (λ is. shows.exists tell is none) c.demo.ensures.give_fault c.demo.ensures.disk_fault gives disk;
      reason = record {
        exists = λ tell is. shows.exists tell is;
        no_root = λ tell is. absurd ((shows.opened tell).rooted is);
        stands = λ s tell stands. shows.opened tell;
        take_fault = λ is. absurd (never.1 is);
        give_fault = c.demo.ensures.give_fault;
        disk_fault = c.demo.ensures.disk_fault;
      };
    }

pub returns-in-None : goal.returns-in-None
returns-in-None g c =
    let init_not : c.args.words.now ≢ codes "init" ∷ [] = search rules in
    let run_not : c.args.words.now ≢ codes "run" ∷ [] = search rules in
    record {
      usage = λ is. (init_not, run_not, c.in-None.ensures.other);
      no_call = λ init run demo. (refl, refl, refl);
      init = λ init. absurd (init_not init);
      run = λ run. absurd (run_not run);
      finishes = λ run. absurd (run_not run);
      refuses = λ run. absurd (run_not run);
      demo = λ n asks. absurd (c.in-None.ensures.other n asks);
      shown = λ n asks tell none big gives disk. absurd (c.in-None.ensures.other n asks);
      reason = record {
        exists = λ tell is. absurd cc;
        no_root = λ tell is. absurd cc;
        stands = λ s tell stands. record { rooted = λ is. cc; whole = λ place is. cc };
        take_fault = λ is. absurd cc;
        give_fault = λ is. absurd cc;
        disk_fault = λ is. absurd cc;
      };
    }

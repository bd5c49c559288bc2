use Rattle.std.proofs.Common.{◌+◌, map, refl, sym, subst, ap, arith}
use Rattle.std.specs.Prelude.{All, sum_by}
use Rattle.alta_search.specs.Words.{IsSoundSingle, single_list, single_place, single_left}
use Rattle.alta_search.specs.declared.single_reader.SingleReader.TheVariants.{Coded, Plain}
use Rattle.alta_words.specs.Held.{word_list, word_place}
use Rattle.alta_counts.proofs.CodedReaders.{as_coded, can_same, coded_sound, coded_sum, tallies_same}
use Rattle.alta_counts.proofs.walk.walked_coded.Goals as goal

pub walked-requires-clause-words : goal.walked-requires-clause-words
walked-requires-clause-words g c =
    coded_sound c.in_ok-words.words.items (subst (All IsSoundSingle) (sym c.in_ok-words.ensures) c.requires.words)

pub walked-requires-clause-negated : goal.walked-requires-clause-negated
walked-requires-clause-negated g c =
    coded_sound c.in_ok-negated.negated.items (subst (All IsSoundSingle) (sym c.in_ok-negated.ensures) c.requires.negated)

pub walked-requires-clause-stand : goal.walked-requires-clause-stand
walked-requires-clause-stand g c =
    let l = single_list in let p = single_place in let ws = c.in_ok-words.words.items in let ns = c.in_ok-negated.negated.items in
    can_same c.args.asking (l (Plain c.args.ends)) (l (Plain c.args.ends)) (map l c.args.words.items) (map word_list ws) (map l c.args.negated.items) (map word_list ns) c.args.at
    (p (Plain c.args.ends)) (p (Plain c.args.ends)) (map p c.args.words.items) (map word_place ws) (map p c.args.negated.items) (map word_place ns)
    refl (as_coded l ws c.args.words.items c.in_ok-words.ensures) (as_coded l ns c.args.negated.items c.in_ok-negated.ensures)
    refl (as_coded p ws c.args.words.items c.in_ok-words.ensures) (as_coded p ns c.args.negated.items c.in_ok-negated.ensures) c.requires.stand

pub returns : goal.returns
returns g c =
    let l = single_list in let left = single_left in let ws = c.in_ok-words.words.items in let ns = c.in_ok-negated.negated.items in
    tallies_same c.args.asking (l (Plain c.args.ends)) (l (Plain c.args.ends)) (map l c.args.words.items) (map word_list ws) (map l c.args.negated.items) (map word_list ns) c.args.at c.args.gone.now
    (left (Plain c.args.ends) + sum_by left c.args.words.items + sum_by left c.args.negated.items)
    (left (Plain c.args.ends) + sum_by (λ w. left (Coded w)) ws + sum_by (λ w. left (Coded w)) ns) c.args.steps.now c.walked.new.steps (λ So. So c.walked.result)
    refl (as_coded l ws c.args.words.items c.in_ok-words.ensures) (as_coded l ns c.args.negated.items c.in_ok-negated.ensures)
    (omega (arith, coded_sum left ws, ap (sum_by left) c.in_ok-words.ensures, coded_sum left ns, ap (sum_by left) c.in_ok-negated.ensures))
    c.walked.ensures

use Rattle.std.proofs.Common.{◌≡◌, ◌∷◌, [], ◌++◌, map, length, sym, ap, subst, ◌∙◌, append_assoc, append-nil, arith}
use Rattle.std.proofs.lemmas.List.{map_push}
use Rattle.std.proofs.lemmas.List.Elements.{All-head}
use Rattle.std.specs.Prelude.{All}
use Rattle.std.specs.Vec.Iter.{into_iter_items}
use Rattle.alta_search.specs.Words.{IsCoded}
use Rattle.alta_search.specs.declared.single_reader.SingleReader.TheVariants.{Coded}
use Rattle.alta_counts.proofs.CodedReaders.{after_front, nothing_left}
use Rattle.alta_counts.proofs.walk.all_coded.Goals as goal

pub coded-requires : goal.coded-requires
coded-requires c =
    let at = c.loop-reader in let x = c.in-Some.reader in let rest = into_iter_items c.next.new.self in
    let steps : into_iter_items at.reader-iterator ≡ x ∷ rest = c.in-Some.ensures.steps.0 in
    let all : at.yielded ++ x ∷ rest ≡ c.args.readers.items = ap (λ xs. at.yielded ++ xs) (sym steps) ∙ at.invariant.0 ∙ c.into_iter-reader-iterator.ensures.into_iter_gives.0 in
    All-head IsCoded x rest (after_front IsCoded at.yielded (x ∷ rest) (subst (All IsCoded) (sym all) c.requires))

pub loop-reader-preserved : goal.loop-reader-preserved
loop-reader-preserved c =
    let at = c.loop-reader in let x = c.in-Some.reader in
    let steps : into_iter_items at.reader-iterator ≡ x ∷ into_iter_items c.next.new.self = c.in-Some.ensures.steps.0 in (
      append_assoc at.yielded (x ∷ []) _ ∙ rw (← steps) at.invariant.0,
      ap (map Coded) c.in_ok-push.ensures.items ∙ map_push Coded at.words.items c.coded.result ∙ ap (λ xs. xs ++ Coded c.coded.result ∷ []) at.invariant.1 ∙ ap (λ r. at.yielded ++ r ∷ []) c.coded.ensures,
      let was = at.invariant.2 in let gone = c.in-Some.ensures.steps.1 in let short = ap length steps in omega arith,
    )

pub returns : goal.returns
returns c =
    let at = c.loop-reader in
    let none = c.in-None.ensures.steps in
    let empty : into_iter_items at.reader-iterator ≡ [] = nothing_left _ (sym at.invariant.2 ∙ none.0) in
    at.invariant.1 ∙ sym (append-nil at.yielded) ∙ rw empty at at.invariant.0 ∙ c.into_iter-reader-iterator.ensures.into_iter_gives.0

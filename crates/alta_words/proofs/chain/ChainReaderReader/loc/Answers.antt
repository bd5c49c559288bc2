use Rattle.std.proofs.Common.{◌≡◌, ◌<◌, map, length, get_or, ap, sym, subst, ◌∙◌, arith}
use Rattle.std.specs.List.{concat}
use Rattle.std.proofs.lemmas.List.{get_or_default, length-map}
use Rattle.alta_codec.specs.declared.location.TheConstants.{TOP}
use Rattle.alta_codec.specs.Rising.{IsPlace}
use Rattle.alta_words.specs.Leaf.{leaf_list, leaf_place}
use Rattle.alta_words.specs.Chain.{chain_place}
use Rattle.alta_words.proofs.chain.ChainReaderReader.loc.Goals as goal

pub returns-then-self-len-clause-place : goal.returns-then-self-len-clause-place
returns-then-self-len-clause-place c =
    let rs = c.args.self.now.leaves.items in let hs = map leaf_place rs in let at = c.args.self.now.at in
    let value : c.place_at.result ≡ get_or hs at 0 = c.place_at.ensures.value ∙ ap (λ xs. get_or (map leaf_place xs) at 0) c.deref.ensures.value in
    let within : at < length hs = omega (arith, length-map rs leaf_place, c.args.self.now.leaves.ok.0, c.len.ensures) in
    subst (λ x. IsPlace (concat (map leaf_list rs)) x) (get_or_default hs at TOP 0 within ∙ sym value)
    (chain_place (map leaf_list rs) hs at c.requires.1)

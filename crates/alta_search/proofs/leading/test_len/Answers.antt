use Rattle.std.proofs.Common.{map, sym, subst}
use Rattle.std.specs.List.{concat}
use Rattle.alta_codec.specs.Rising.{IsRising}
use Rattle.alta_search.specs.Lists.{level_list, term_lists}
use Rattle.alta_search.proofs.LeadReaders.{cut_rises}
use Rattle.alta_search.proofs.leading.test_len.Goals as goal

pub term_len-requires : goal.term_len-requires
term_len-requires c =
    subst (λ ls. IsRising (concat (map level_list ls))) (sym c.deref.ensures.value)
    (cut_rises (term_lists c.in-Some.term.now) (map term_lists c.args.terms.now) c.in-Some.ensures.some c.requires.cut)

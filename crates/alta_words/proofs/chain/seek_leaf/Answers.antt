use Rattle.std.proofs.Common.{[], map, set, sym, ap, ◌∙◌}
use Rattle.std.proofs.lemmas.List.{map-set, get_or-map, get_or-set_other, length-set}
use Rattle.std.proofs.Math.Seq.{map-set_same}
use Rattle.alta_codec.specs.Rising.{first_from}
use Rattle.alta_words.specs.Leaf.{leaf_list, leaf_place}
use Rattle.alta_words.proofs.chain.seek_leaf.Goals as goal

pub returns-clause-lists : goal.returns-clause-lists
returns-clause-lists g c =
    map-set_same leaf_list c.args.leaves.now c.args.j c.seek.new.self _ c.seek.ensures.same_list

pub returns-clause-places : goal.returns-clause-places
returns-clause-places g c =
    map-set leaf_place c.args.leaves.now c.args.j c.seek.new.self
    ∙ ap (λ p. set (map leaf_place c.args.leaves.now) c.args.j p)
    (c.seek.ensures.stands
    ∙ ap (λ l. first_from l c.args.to)
    (sym (get_or-map leaf_list c.args.leaves.now c.args.j _ [] c.requires.within)))

pub returns-clause-moved : goal.returns-clause-moved
returns-clause-moved g c =
    record {
      sized = length-set c.args.leaves.now c.args.j c.seek.new.self;
      which = c.args.j;
      others = λ k d n. get_or-set_other c.args.leaves.now c.args.j k c.seek.new.self d n;
    }
